-- Nodes that are read one behind another are a list of them.
use Rattle.std.proofs.Common.{◌≡◌, ℕ, List, [], ◌∷◌, ◌++◌, Bool, true, Option, refl, sym, subst, arith}
use Rattle.c_lexer.specs.declared.token.Token.{Token}
use Rattle.c_lexer.specs.declared.token.Body.{Body}
use Rattle.c_syntax.specs.declared.spelled.Spelled.{Spelled}
use Rattle.c_syntax.specs.Scopes.{Scope}
use Rattle.c_reading.specs.Parser.{Parser, Found, next_body, many}
use Rattle.c_reading.proofs.NodeLists.{NodeList}
use Rattle.c_reading.proofs.Takes.{Takes}
use Rattle.c_reading.proofs.Sound.Steps.{joined, many_found}
use Rattle.c_reading.proofs.Sound.Law.{Read, Sound, spelt}

module _ {A L : Type 0} {Fits : A → Scope → Type 0} {tall : A → ℕ} {spelled : A → List Spelled} {adds : A
    → Scope} {AllFit : L → Scope → Type 0} {tallest : L → ℕ} {all_spelled : L → List Spelled} {make : List A → L}
    (list : NodeList Fits tall spelled adds AllFit tallest all_spelled make) (k : ℕ) (goes : Scope → Option Body → Bool)
    (node : Scope → Parser A)
    (sound : (scope : Scope) → Sound (λ one. Fits one scope) tall spelled k (node scope)) where
  abbrev pub NodesRead : Scope → List Token → List A → List Token → Type 0
  NodesRead scope tokens all rest = Read (λ all. AllFit all scope) tallest all_spelled k tokens (make all) rest

  none_read : (scope : Scope) (tokens : List Token) → NodesRead scope tokens [] tokens
  none_read scope tokens = record {
    spells = subst (λ all. Takes tokens all tokens) (sym list.none_spelled) refl;
    fits = list.none_fits scope;
    within = omega (arith, list.none_high);
  }

  one_more : (scope : Scope) (tokens mid rest : List Token) (one : A) (more : List A)
      → goes scope (next_body tokens) ≡ true → node scope tokens ≡ Found one mid
      → NodesRead (scope ++ adds one) mid more rest → NodesRead scope tokens (one ∷ more) rest
  one_more scope tokens mid rest one more begins h then =
      let x = sound scope tokens mid one h in
      record {
        spells =
            subst (λ all. Takes tokens all rest) (sym (list.more_spelled one more))
            (joined (spelt x) (spelt then)).takes;
        fits = list.more_fit one more scope x.fits then.fits;
        within = omega (arith, x.within, then.within, list.more_high one more);
      }

  pub nodes_sound : (scope : Scope) (tokens rest : List Token) (all : List A)
      → many goes node (λ s one. s ++ adds one) scope tokens ≡ Found all rest → NodesRead scope tokens all rest
  nodes_sound = many_found goes node (λ s one. s ++ adds one) NodesRead none_read one_more
