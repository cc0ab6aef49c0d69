-- What is left of a `for` statement behind how it begins, by what its parts are read as.
use Rattle.std.proofs.Common.{◌≡◌, ℕ, List, ◌++◌, Option, sym, ◌∙◌, ap}
use Rattle.critical_table.specs.declared.pos.Pos.{Pos}
use Rattle.c_lexer.specs.declared.punct.Punct.TheVariants as p
use Rattle.c_lexer.specs.declared.token.Token.{Token}
use Rattle.c_reading.specs.Parser.{Found, Stopped, Why, Parser, and_then, ◌>>=◌, pure}
use Rattle.c_reading.specs.ReadBody.{Statements, optional, for_begun}
use Rattle.c_reading.specs.ReadToken.{is_mark}
use Rattle.c_syntax.specs.Scopes.{Scope}
use Rattle.c_syntax.specs.ScopesUnit.{optional_adds}
use Rattle.c_syntax.specs.Tree.{Expr}
use Rattle.c_syntax.specs.TreeUnit.{ForInit, Statement, For}
use Rattle.c_reading.proofs.Full.Steps.{then_read}

module _ (k : ℕ) (low : Statements) (scope tested stepped : Scope) (pos : Pos) (init : ForInit)
    (tokens : List Token) (test : Option Expr) (mid : List Token)
    (test_read : optional k low (is_mark p.Semicolon) scope tokens ≡ Found test mid) (in_test : tested
    ≡ scope ++ optional_adds test) where
  behind_test : Scope → Parser Statement
  behind_test s = optional k low (is_mark p.CloseParen) s >>= λ step. low.statement (s ++ optional_adds step)
      >>= λ body. pure (For pos init test step body)

  for_tested : for_begun k low scope pos init tokens ≡ behind_test tested mid
  unfolding behind_test
  for_tested = then_read _ _ test mid _ test_read (ap (λ s. behind_test s mid) (sym in_test))

  pub step_refused : (why : Why) (rest : List Token) → optional k low (is_mark p.CloseParen) tested mid
      ≡ Stopped why rest → for_begun k low scope pos init tokens ≡ Stopped why rest
  unfolding behind_test
  step_refused why rest e =
      for_tested ∙ ap (λ g. and_then g (λ step. low.statement (tested ++ optional_adds step)
      >>= λ body. pure (For pos init test step body))) e

  module _ (step : Option Expr) (behind : List Token) (step_read : optional k low (is_mark p.CloseParen) tested mid
      ≡ Found step behind) (in_step : stepped ≡ tested ++ optional_adds step) where
    for_stepped : for_begun k low scope pos init tokens
        ≡ and_then (low.statement stepped behind) (λ body. pure (For pos init test step body))
    unfolding behind_test
    for_stepped =
        for_tested ∙ then_read _ _ step behind _ step_read
        (ap (λ s. and_then (low.statement s behind) (λ body. pure (For pos init test step body))) (sym in_step))

    pub turn_refused : (why : Why) (rest : List Token) → low.statement stepped behind ≡ Stopped why rest
        → for_begun k low scope pos init tokens ≡ Stopped why rest
    turn_refused why rest e = for_stepped ∙ ap (λ g. and_then g (λ body. pure (For pos init test step body))) e

    pub for_read : (body : Statement) (rest : List Token) → low.statement stepped behind ≡ Found body rest
        → for_begun k low scope pos init tokens ≡ Found (For pos init test step body) rest
    for_read body rest e = for_stepped ∙ ap (λ g. and_then g (λ body. pure (For pos init test step body))) e
