-- Where nodes that are read one behind another stop, a list of them begins with what was read.
use Rattle.std.proofs.Common.{◌≡◌, ℕ, List, [], ◌∷◌, ◌++◌, Bool, Option, sym, ◌∙◌, ap, subst, append-nil, arith}
use Rattle.c_lexer.specs.declared.token.Token.{Token}
use Rattle.c_lexer.specs.declared.token.Body.{Body}
use Rattle.c_syntax.specs.declared.spelled.Spelled.{Spelled}
use Rattle.c_syntax.specs.Begin.{Begins}
use Rattle.c_syntax.specs.Scopes.{Scope}
use Rattle.c_reading.specs.Parser.{Why, Parser, Stopped, many}
use Rattle.c_reading.proofs.NodeLists.{NodeList}
use Rattle.c_reading.proofs.Sound.Steps.{nothing_spelt}
use Rattle.c_reading.proofs.Sound.Law.{Sound, spelt}
use Rattle.c_reading.proofs.Viable.Contexts.{Context, many_stopped, into}
use Rattle.c_reading.proofs.Viable.Law.{Holds}

module _ {A L : Type 0} {Fits : A → Scope → Type 0} {tall : A → ℕ} {spelled : A → List Spelled} {adds : A
    → Scope} {AllFit : L → Scope → Type 0} {tallest : L → ℕ} {all_spelled : L → List Spelled} {make : List A → L}
    (list : NodeList Fits tall spelled adds AllFit tallest all_spelled make) where
  -- a list of one node
  pub first_node : (scope : Scope)
      → Context (λ one. Fits one scope) tall spelled (λ all. AllFit all scope) tallest all_spelled (λ j. j) 0 []
  first_node scope = record {
    make = λ one. make (one ∷ []);
    behind = [];
    fits = λ one fits. list.more_fit one [] scope fits (list.none_fits (scope ++ adds one));
    within = λ one j others low. omega (arith, low, list.more_high one [], list.none_high);
    spells = λ one. list.more_spelled one [] ∙ ap (λ z. spelled one ++ z) list.none_spelled;
  }

  -- the nodes behind one
  pub behind_node : (scope : Scope) (one : A) → Fits one scope
      → Context (λ all. AllFit all (scope ++ adds one)) tallest all_spelled (λ all. AllFit all scope) tallest
      all_spelled (λ j. j) (tall one) (spelled one)
  behind_node scope one fits = record {
    make = λ all. make (one ∷ list.parts all);
    behind = [];
    fits = λ all more. list.more_fit one (list.parts all) scope fits
        (subst (λ all. AllFit all (scope ++ adds one)) (sym (list.made all)) more);
    within = λ all j others low.
        omega (arith, others, low, list.more_high one (list.parts all), ap tallest (list.made all));
    spells = λ all. list.more_spelled one (list.parts all)
        ∙ ap (λ all. spelled one ++ all_spelled all) (list.made all)
        ∙ ap (λ z. spelled one ++ z) (sym (append-nil (all_spelled all)));
  }

  module _ (k : ℕ) (goes : Scope → Option Body → Bool) (node : Scope → Parser A)
      (sound : (scope : Scope) → Sound (λ one. Fits one scope) tall spelled k (node scope)) where
    -- where a node that stops begins a list
    pub begun_nodes_viable : ((scope : Scope) (tokens rest : List Token) (why : Why) → node scope tokens
        ≡ Stopped why rest → Holds (Begins (λ all. AllFit all scope) tallest all_spelled) k tokens why rest)
        → (scope : Scope) (tokens rest : List Token) (why : Why)
        → many goes node (λ s one. s ++ adds one) scope tokens ≡ Stopped why rest
        → Holds (Begins (λ all. AllFit all scope) tallest all_spelled) k tokens why rest
    begun_nodes_viable viable =
        many_stopped goes node (λ s one. s ++ adds one)
        (λ s tokens why rest. Holds (Begins (λ all. AllFit all s) tallest all_spelled) k tokens why rest)
        (λ s tokens rest why begins h. viable s tokens rest why h)
        (λ s tokens mid rest one why begins h then. let x = sound s tokens mid one h in
        into (behind_node s one x.fits) x.within (spelt x) then)

    -- a node that stops begins a node, and so a list
    pub nodes_viable : ((scope : Scope) (tokens rest : List Token) (why : Why) → node scope tokens ≡ Stopped why rest
        → Holds (Begins (λ one. Fits one scope) tall spelled) k tokens why rest)
        → (scope : Scope) (tokens rest : List Token) (why : Why)
        → many goes node (λ s one. s ++ adds one) scope tokens ≡ Stopped why rest
        → Holds (Begins (λ all. AllFit all scope) tallest all_spelled) k tokens why rest
    nodes_viable viable =
        begun_nodes_viable (λ s tokens rest why h. into (first_node s) (omega arith) (nothing_spelt tokens)
        (viable s tokens rest why h))
