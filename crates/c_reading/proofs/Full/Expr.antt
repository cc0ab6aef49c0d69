-- The spelling of a well-formed expression is read as that expression.
use Rattle.std.proofs.Common.{◌≡◌, ℕ, suc, ◌≤◌, List, ◌∷◌, ◌∙◌}
use Rattle.c_lexer.specs.declared.token.Token.{Token}
use Rattle.c_syntax.specs.Height.{height}
use Rattle.c_syntax.specs.Levels.{unary, postfix}
use Rattle.c_reading.specs.Parser.{Found}
use Rattle.c_reading.specs.ReadExpr.{Parsers, postfixes, paren_expr, expr_at}
use Rattle.c_syntax.specs.Scopes.{Scope}
use Rattle.c_syntax.specs.Spelling.{spell}
use Rattle.c_syntax.specs.Tree.{Expr, Const, Id, Text, Paren}
use Rattle.c_syntax.specs.WellFormed.{IsExpr}
use Rattle.c_reading.proofs.Full.Infix.{infix_full}
use Rattle.c_reading.proofs.Full.Postfix.{IsPrimary, chain, chain_over, group_again}
use Rattle.c_reading.proofs.Takes.{Takes}
use Rattle.c_reading.proofs.Full.Law.{EndsExpr, IsGrouped, AllFull}

module _ (k : ℕ) (low : Parsers) (full : AllFull k low) where
  pub paren_expr_full : (scope : Scope) (e : Expr) (open_token : Token) (tokens rest : List Token) → IsGrouped e
      → IsExpr e scope postfix → height e ≤ suc k → EndsExpr unary rest → Takes (open_token ∷ tokens) (spell e) rest
      → paren_expr k low scope tokens ≡ Found e rest
  paren_expr_full scope e open_token tokens rest g is high ends all =
      let x = chain k low full e scope (open_token ∷ tokens) rest is high ends.no_literal all in
      by x.first x.mid (x.group g) x.primary x.fits x.within x.takes
      ∙ chain_over k low full scope e (open_token ∷ tokens) rest high (ends.no_postfix k low e) x
    where
      by : (first : Expr) (mid : List Token) → IsGrouped first → IsPrimary first → IsExpr first scope postfix
          → height first ≤ suc k → Takes (open_token ∷ tokens) (spell first) mid
          → paren_expr k low scope tokens ≡ postfixes k low scope first mid
      by (Paren inner) mid g primary is high all = group_again k low full scope inner tokens mid is high all.2
      by (Const pos constant) mid g primary is high all = absurd g
      by (Id pos x) mid g primary is high all = absurd g
      by (Text pos text) mid g primary is high all = absurd g
      by e mid g primary is high all = absurd primary

  pub expr_full : (scope : Scope) (level : ℕ) (e : Expr) (tokens rest : List Token) → level ≤ unary
      → IsExpr e scope level → height e ≤ suc k → EndsExpr level rest → Takes tokens (spell e) rest
      → expr_at k low scope level tokens ≡ Found e rest
  expr_full scope level e tokens rest low_level fits low_height ends all =
      infix_full k low full scope level e tokens rest low_level fits low_height ends all
