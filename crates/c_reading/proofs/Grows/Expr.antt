-- Expressions are read the same with more height.
use Rattle.std.proofs.Common.{ℕ, ℤ, ◌≤◌, Bool, List, ◌∷◌, ◌++◌, Option, Some, None, nat_le}
use Rattle.critical_table.specs.declared.pos.Pos.{Pos}
use Rattle.c_lexer.specs.declared.punct.Punct.TheVariants as p
use Rattle.c_lexer.specs.declared.token.Body.{Body}
use Rattle.c_lexer.specs.declared.token.Body.TheVariants as lexeme
use Rattle.c_lexer.specs.declared.word.Word.TheVariants as w
use Rattle.c_syntax.specs.declared.expression.Constant.TheVariants as constant
use Rattle.c_syntax.specs.declared.operator.Access.TheVariants as access
use Rattle.c_syntax.specs.declared.operator.Infix.{Infix}
use Rattle.c_syntax.specs.declared.operator.Measure.{Measure}
use Rattle.c_syntax.specs.declared.operator.Measure.TheVariants as measure
use Rattle.c_syntax.specs.declared.operator.Postfix.TheVariants as postfix
use Rattle.c_syntax.specs.declared.operator.Prefix.{Prefix}
use Rattle.c_syntax.specs.declared.operator.Prefix.TheVariants as prefix
use Rattle.c_syntax.specs.Height.{height}
use Rattle.c_syntax.specs.Levels.{expression, assignment, conditional, cast, unary, right_level, operand_level}
use Rattle.c_reading.specs.Parser.{Parser, Unfit, ◌>>=◌, pure, fail, skip, expect}
use Rattle.c_reading.specs.ReadToken.{is_mark, begins_type, prefix_of, infix_of}
use Rattle.c_reading.specs.ReadExpr.{Parsers, begins_expr, expr_lower, pieces, listed_arguments, arguments}
use Rattle.c_reading.specs.ReadExpr.{arguments_by, index, call, access_name, step_by_one, postfix_by, postfix_on}
use Rattle.c_reading.specs.ReadExpr.{postfixes, paren_expr, cast_on, inside, type_measure, size_behind_paren, size}
use Rattle.c_reading.specs.ReadExpr.{alignment, text, prefix_expr, unary_by, unary_at, between_on, cond_on, infix_by}
use Rattle.c_reading.specs.ReadExpr.{infix_on, infixes, expr_at}
use Rattle.c_syntax.specs.Scopes.{Scope, is_type, expr_adds, type_name_adds}
use Rattle.c_syntax.specs.Tree as tree
use Rattle.c_syntax.specs.Tree.{Expr}
use Rattle.c_syntax.specs.View.{exprs}
use Rattle.c_reading.proofs.Grows.Steps.{Grown, grown_same, grown_bind, grown_then, grown_before, grown_skip}
use Rattle.c_reading.proofs.Grows.Steps.{grown_peek, grown_here, grown_choose, grown_deeper, still_fits, listed_grown}
use Rattle.c_reading.proofs.Grows.Steps.{climb_grown}
use Rattle.c_reading.proofs.Grows.Law.{AllGrown}

pub grown_expr_lower : (scope : Scope) (k k' : ℕ) (r r' : Parser Expr) → k ≤ k' → Grown r r'
    → Grown (expr_lower scope k r) (expr_lower scope k' r')
unfolding expr_lower
grown_expr_lower scope k k' r r' le on =
    grown_peek _ _ (λ o. grown_choose (begins_expr scope o) _ _ _ _ (grown_deeper k k' r r' le on)
    (grown_same (fail Unfit)))

module _ (k k' : ℕ) (le : k ≤ k') (low low' : Parsers) (on : AllGrown low low') where
  -- ---- postfix operators

  listed_arguments_grown : (scope : Scope) → Grown (listed_arguments k low scope) (listed_arguments k' low' scope)
  unfolding listed_arguments
  listed_arguments_grown scope = listed_grown _ _ _ _ _ _ (λ s. on.expr s assignment) scope

  arguments_grown : (scope : Scope) → Grown (arguments k low scope) (arguments k' low' scope)
  unfolding arguments
  arguments_grown scope = grown_peek _ _ by
    where
      by : (o : Option Body) → Grown (arguments_by k low scope o) (arguments_by k' low' scope o)
      by (Some (lexeme.Mark p.CloseParen)) = grown_same (skip (pure tree.NoExpr))
      by o = grown_then (listed_arguments k low scope) (listed_arguments k' low' scope)
          (λ all. expect (is_mark p.CloseParen) >>= λ _. pure (exprs all.0)) (listed_arguments_grown scope)

  index_grown : (scope : Scope) (left : Expr) → Grown (index k low scope left) (index k' low' scope left)
  unfolding index
  index_grown scope left =
      grown_here _ _
      (λ pos. grown_skip _ _
      (grown_then _ _ (λ inside. expect (is_mark p.CloseBracket) >>= λ _. pure (tree.Index pos left inside))
      (on.expr (scope ++ expr_adds left) expression)))

  call_grown : (scope : Scope) (left : Expr) → Grown (call k low scope left) (call k' low' scope left)
  unfolding call
  call_grown scope left =
      grown_here _ _
      (λ pos. grown_skip _ _
      (grown_then _ _ (λ all. pure (tree.Call pos left all)) (arguments_grown (scope ++ expr_adds left))))

  postfix_on_grown : (scope : Scope) (left : Expr) → Grown (postfix_on k low scope left) (postfix_on k' low' scope left)
  unfolding postfix_on access_name step_by_one
  postfix_on_grown scope left = grown_peek _ _ by
    where
      by : (o : Option Body) → Grown (postfix_by k low scope left o) (postfix_by k' low' scope left o)
      by (Some (lexeme.Mark p.OpenBracket)) = index_grown scope left
      by (Some (lexeme.Mark p.OpenParen)) = call_grown scope left
      by (Some (lexeme.Mark p.Dot)) = grown_same (access_name access.Dot left)
      by (Some (lexeme.Mark p.Arrow)) = grown_same (access_name access.Arrow left)
      by (Some (lexeme.Mark p.Increment)) = grown_same (step_by_one postfix.PostInc left)
      by (Some (lexeme.Mark p.Decrement)) = grown_same (step_by_one postfix.PostDec left)
      by o = grown_same (fail Unfit)

  postfixes_grown : (scope : Scope) (left : Expr) → Grown (postfixes k low scope left) (postfixes k' low' scope left)
  unfolding postfixes
  postfixes_grown scope left =
      climb_grown _ _ _ _ _ (λ e. still_fits (height e) k k' le) (postfix_on_grown scope) k k' left le

  -- ---- primary and unary expressions and casts

  pub paren_expr_grown : (scope : Scope) → Grown (paren_expr k low scope) (paren_expr k' low' scope)
  unfolding paren_expr
  paren_expr_grown scope =
      grown_before _ _ (is_mark p.CloseParen) _ _ (grown_expr_lower scope k k' _ _ le (on.expr scope expression))
      (λ inside. postfixes_grown scope (tree.Paren inside))

  cast_on_grown : (scope : Scope) (pos : Pos) → Grown (cast_on k low scope pos) (cast_on k' low' scope pos)
  unfolding cast_on
  cast_on_grown scope pos = grown_before _ _ (is_mark p.CloseParen) _ _ (on.type_name scope)
      (λ type. grown_then _ _ (λ operand. pure (tree.Cast pos type operand))
      (on.expr (scope ++ type_name_adds type) cast))

  inside_grown : (scope : Scope) (level : ℕ) (pos : Pos)
      → Grown (inside k low scope level pos) (inside k' low' scope level pos)
  unfolding inside
  inside_grown scope level pos = grown_peek _ _ (λ o. grown_choose (begins_type scope o) _ _ _ _
      (grown_choose (nat_le level cast) _ _ _ _ (cast_on_grown scope pos) (grown_same (fail Unfit)))
      (paren_expr_grown scope))

  type_measure_grown : (scope : Scope) (operator : Measure) (pos : Pos)
      → Grown (type_measure k low scope operator pos) (type_measure k' low' scope operator pos)
  unfolding type_measure
  type_measure_grown scope operator pos =
      grown_then _ _ (λ type. expect (is_mark p.CloseParen) >>= λ _. pure (tree.MeasureOp pos operator type))
      (on.type_name scope)

  size_behind_paren_grown : (scope : Scope) (pos : Pos)
      → Grown (size_behind_paren k low scope pos) (size_behind_paren k' low' scope pos)
  unfolding size_behind_paren
  size_behind_paren_grown scope pos =
      grown_peek _ _ (λ o. grown_choose (begins_type scope o) _ _ _ _ (type_measure_grown scope measure.SizeType pos)
      (grown_then _ _ (λ operand. pure (tree.PrefixOp pos prefix.SizeExpr operand)) (on.paren_expr scope)))

  size_grown : (scope : Scope) (pos : Pos) → Grown (size k low scope pos) (size k' low' scope pos)
  unfolding size
  size_grown scope pos =
      grown_peek _ _
      (λ o. grown_choose (is_mark p.OpenParen o) _ _ _ _ (grown_skip _ _ (size_behind_paren_grown scope pos))
      (grown_then _ _ (λ operand. pure (tree.PrefixOp pos prefix.SizeExpr operand)) (on.expr scope unary)))

  alignment_grown : (scope : Scope) (pos : Pos) → Grown (alignment k low scope pos) (alignment k' low' scope pos)
  unfolding alignment
  alignment_grown scope pos =
      grown_bind _ _ _ _ (grown_same (expect (is_mark p.OpenParen)))
      (λ _. type_measure_grown scope measure.AlignType pos)

  text_grown : (scope : Scope) (pos : Pos) (units : List ℤ) (wide : Bool)
      → Grown (text k low scope pos units wide) (text k' low' scope pos units wide)
  unfolding text
  text_grown scope pos units wide =
      grown_bind _ _ _ _ (grown_same (pieces wide))
      (λ more. postfixes_grown scope (tree.Text pos (record { pieces = units ∷ more; wide = wide })))

  prefix_expr_grown : (scope : Scope) (pos : Pos) (o : Option Prefix)
      → Grown (prefix_expr k low scope pos o) (prefix_expr k' low' scope pos o)
  unfolding prefix_expr
  prefix_expr_grown scope pos None = grown_same (fail Unfit)
  prefix_expr_grown scope pos (Some operator) =
      grown_deeper k k' _ _ le
      (grown_skip _ _ (grown_then _ _ (λ operand. pure (tree.PrefixOp pos operator operand))
      (on.expr scope (operand_level operator))))

  unary_at_grown : (scope : Scope) (level : ℕ) → Grown (unary_at k low scope level) (unary_at k' low' scope level)
  unfolding unary_at
  unary_at_grown scope level = grown_here _ _ (λ pos. grown_peek _ _ (by pos))
    where
      by : (pos : Pos) (o : Option Body) → Grown (unary_by k low scope level pos o) (unary_by k' low' scope level pos o)
      by pos (Some (lexeme.Number number)) =
          grown_skip _ _ (postfixes_grown scope (tree.Const pos (constant.Number number)))
      by pos (Some (lexeme.Character value wide)) =
          grown_skip _ _ (postfixes_grown scope (tree.Const pos (constant.Character value wide)))
      by pos (Some (lexeme.Literal units wide)) = grown_skip _ _ (text_grown scope pos units wide)
      by pos (Some (lexeme.Name x)) =
          grown_choose (is_type scope x) _ _ _ _ (grown_same (fail Unfit))
          (grown_skip _ _ (postfixes_grown scope (tree.Id pos x)))
      by pos (Some (lexeme.Word w.Sizeof)) = grown_deeper k k' _ _ le (grown_skip _ _ (size_grown scope pos))
      by pos (Some (lexeme.Word w.Alignof)) = grown_deeper k k' _ _ le (grown_skip _ _ (alignment_grown scope pos))
      by pos (Some (lexeme.Mark p.OpenParen)) = grown_deeper k k' _ _ le (grown_skip _ _ (inside_grown scope level pos))
      by pos o = prefix_expr_grown scope pos (prefix_of o)

  -- ---- operators between operands, and the conditional

  between_on_grown : (scope : Scope) (left : Expr) (pos : Pos) (operator : Infix)
      → Grown (between_on k low scope left pos operator) (between_on k' low' scope left pos operator)
  unfolding between_on
  between_on_grown scope left pos operator =
      grown_then _ _ (λ right. pure (tree.InfixOp pos operator left right))
      (on.expr (scope ++ expr_adds left) (right_level operator))

  cond_on_grown : (scope : Scope) (left : Expr) (pos : Pos)
      → Grown (cond_on k low scope left pos) (cond_on k' low' scope left pos)
  unfolding cond_on
  cond_on_grown scope left pos = grown_before _ _ (is_mark p.Colon) _ _ (on.expr (scope ++ expr_adds left) expression)
      (λ then. grown_then _ _ (λ else. pure (tree.Cond pos left then else))
      (on.expr (scope ++ expr_adds left ++ expr_adds then) conditional))

  infix_on_grown : (scope : Scope) (left : Expr) → Grown (infix_on k low scope left) (infix_on k' low' scope left)
  unfolding infix_on
  infix_on_grown scope left = grown_here _ _ (λ pos. grown_peek _ _ (λ o. by pos (infix_of o)))
    where
      by : (pos : Pos) (o : Option Infix) → Grown (infix_by k low scope left pos o) (infix_by k' low' scope left pos o)
      by pos (Some operator) = grown_skip _ _ (between_on_grown scope left pos operator)
      by pos None = grown_skip _ _ (cond_on_grown scope left pos)

  infixes_grown : (scope : Scope) (level : ℕ) (left : Expr)
      → Grown (infixes k low scope level left) (infixes k' low' scope level left)
  unfolding infixes
  infixes_grown scope level left =
      climb_grown _ _ _ _ _ (λ e. still_fits (height e) k k' le) (infix_on_grown scope) k k' left le

  pub expr_at_grown : (scope : Scope) (level : ℕ) → Grown (expr_at k low scope level) (expr_at k' low' scope level)
  unfolding expr_at
  expr_at_grown scope level = grown_bind _ _ _ _ (unary_at_grown scope level) (infixes_grown scope level)
