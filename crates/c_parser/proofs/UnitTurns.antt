-- How the unit is read: its first external declaration, and whether a token follows.
use Rattle.std.proofs.Common.{◌≡◌, ℕ, suc, arith, Bool, true, false, ◌==◌, List, [], ◌∷◌, ◌++◌, length, refl, sym}
use Rattle.std.proofs.Common.{◌∙◌, ap}
use Rattle.std.proofs.lemmas.Bool.{eqb-true}
use Rattle.std.specs.Prelude.{is_some}
use Rattle.c_lexer.specs.declared.token.Token.{Token}
use Rattle.c_reading.specs.Parser.{Outcome, Found, Stopped, Why, Parser, and_then, pure, next_body, many}
use Rattle.c_reading.specs.ReadBody.{external_at, externals}
use Rattle.c_syntax.specs.Scopes.{Scope, predeclared}
use Rattle.c_syntax.specs.ScopesUnit.{external_adds}
use Rattle.c_syntax.specs.TreeUnit.{External}
use Rattle.c_reading.proofs.Full.Steps.{then_read}

behind : {A B : Type 0} (g : Outcome A) (f : A → Parser B) (why : Why) (rest : List Token) → g ≡ Stopped why rest
    → and_then g f ≡ Stopped why rest
behind g f why rest e = ap (λ g. and_then g f) e

pub first_refused : (k : ℕ) (scope : Scope) (tokens rest : List Token) (why : Why) → scope ≡ predeclared
    → external_at k scope tokens ≡ Stopped why rest → externals k tokens ≡ Stopped why rest
unfolding externals
first_refused k scope tokens rest why around e = behind _ _ why rest (ap (λ s. external_at k s tokens) (sym around) ∙ e)

pub first_read : (k : ℕ) (scope after : Scope) (tokens rest : List Token) (first : External) (all : List External)
    → scope ≡ predeclared → external_at k scope tokens ≡ Found first rest → after ≡ scope ++ external_adds first
    → all ≡ first ∷ []
    → externals k tokens
    ≡ and_then (many (λ s o. is_some o) (external_at k) (λ s one. s ++ external_adds one) after rest)
    (λ more. pure (all ++ more))
unfolding externals
first_read k scope after tokens rest first all around e then one =
    then_read _ _ first rest _ (ap (λ s. external_at k s tokens) (sym around) ∙ e) refl
    ∙ (λ i. and_then (many (λ s o. is_some o) (external_at k) (λ s one. s ++ external_adds one)
    (sym (then ∙ ap (λ s. s ++ external_adds first) around) i) rest) (λ more. pure (sym one i ++ more)))

pub some_seen : (tokens : List Token) (empty : Bool) → empty ≡ (length tokens == 0) → empty ≡ false
    → is_some (next_body tokens) ≡ true
some_seen [] empty e h = cc
some_seen (token ∷ tokens) empty e h = refl

pub none_seen : (tokens : List Token) (empty : Bool) → empty ≡ (length tokens == 0) → empty ≡ true
    → is_some (next_body tokens) ≡ false
none_seen [] empty e h = refl
none_seen (token ∷ tokens) empty e h =
    let none : suc (length tokens) ≡ 0 = eqb-true (suc (length tokens)) 0 (sym e ∙ h) in absurd (omega arith)
