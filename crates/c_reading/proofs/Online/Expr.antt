-- Expressions are read online.
use Rattle.std.proofs.Common.{◌≡◌, ℕ, ℤ, Bool, true, false, List, ◌∷◌, ◌++◌, Option, Some, None, refl, nat_le}
use Rattle.critical_table.specs.declared.pos.Pos.{Pos}
use Rattle.c_lexer.specs.declared.punct.Punct.TheVariants as p
use Rattle.c_lexer.specs.declared.token.Body.{Body}
use Rattle.c_lexer.specs.declared.token.Body.TheVariants as lexeme
use Rattle.c_lexer.specs.declared.word.Word.TheVariants as w
use Rattle.c_syntax.specs.declared.expression.Constant.TheVariants as constant
use Rattle.c_syntax.specs.declared.operator.Access.{Access}
use Rattle.c_syntax.specs.declared.operator.Infix.{Infix}
use Rattle.c_syntax.specs.declared.operator.Measure.{Measure}
use Rattle.c_syntax.specs.declared.operator.Postfix.{Postfix}
use Rattle.c_syntax.specs.declared.operator.Prefix.{Prefix}
use Rattle.c_syntax.specs.declared.operator.Access.TheVariants as access
use Rattle.c_syntax.specs.declared.operator.Measure.TheVariants as measure
use Rattle.c_syntax.specs.declared.operator.Postfix.TheVariants as postfix
use Rattle.c_syntax.specs.declared.operator.Prefix.TheVariants as prefix
use Rattle.c_syntax.specs.Levels.{expression, assignment, conditional, cast, unary, right_level, operand_level}
use Rattle.c_reading.specs.Parser.{Parser, Unfit, ◌>>=◌, pure, fail, peek, skip}
use Rattle.c_reading.specs.ReadToken.{is_mark, name_of, begins_type, is_literal, prefix_of, infix_of}
use Rattle.c_reading.specs.ReadExpr.{Parsers, begins_expr, expr_lower, with_name, piece, piece_by, pieces}
use Rattle.c_reading.specs.ReadExpr.{listed_arguments, arguments, arguments_by, index, call, access_name, step_by_one}
use Rattle.c_reading.specs.ReadExpr.{postfix_by, postfix_on, postfixes, paren_expr, cast_on, inside, type_measure}
use Rattle.c_reading.specs.ReadExpr.{size_behind_paren, size, alignment, text, prefix_expr, unary_by, unary_at}
use Rattle.c_reading.specs.ReadExpr.{between_on, cond_on, infix_by, infix_on, infixes, expr_at}
use Rattle.c_syntax.specs.Scopes.{Scope, is_type, expr_adds, type_name_adds}
use Rattle.c_syntax.specs.Tree as tree
use Rattle.c_syntax.specs.Tree.{Expr}
use Rattle.c_syntax.specs.View.{exprs}
use Rattle.c_reading.proofs.Online.Steps.{Online, TakesOne, online_pure, online_fail, online_skip, online_peek}
use Rattle.c_reading.proofs.Online.Steps.{online_here, online_choose, online_deeper, online_expect, online_bind}
use Rattle.c_reading.proofs.Online.Steps.{online_before, takes_fail, takes_skip, takes_peek, takes_here, takes_choose}
use Rattle.c_reading.proofs.Online.Steps.{takes_deeper, takes_bind, many_online, listed_online, climb_online}
use Rattle.c_reading.proofs.Online.Law.{AllOnline}

pub online_expr_lower : (scope : Scope) (k : ℕ) (r : Parser Expr) → Online r → Online (expr_lower scope k r)
unfolding expr_lower
online_expr_lower scope k r on =
    online_peek _ (λ o. online_choose (begins_expr scope o) _ _ (online_deeper k _ on) (online_fail Unfit))

named_online : (o : Option (List ℕ)) (more : List ℕ → Parser Expr) → ((x : List ℕ) → Online (more x))
    → Online (with_name o more)
named_online (Some x) more on = online_skip _ (on x)
named_online None more on = online_fail Unfit

-- ---- more literals of one width

pub piece_online : Online piece
unfolding piece
piece_online = online_peek _ by
  where
    by : (o : Option Body) → Online (piece_by o)
    by (Some (lexeme.Literal units wide)) = online_skip _ (online_pure units)
    by (Some next) = online_fail Unfit
    by None = online_fail Unfit

pub piece_takes : TakesOne piece
unfolding piece
piece_takes = takes_peek piece_by by
  where
    by : (next : Body) → TakesOne (piece_by (Some next))
    by (lexeme.Literal units wide) = takes_skip _ (online_pure units)
    by next = takes_fail Unfit

pub no_literal : (wide : Bool) → is_literal wide None ≡ false
no_literal true = refl
no_literal false = refl

pub pieces_online : (wide : Bool) → Online (pieces wide)
unfolding pieces
pieces_online wide = many_online _ _ _ (λ s. piece_online) (λ s. no_literal wide) (λ s. piece_takes) wide

module _ (k : ℕ) (low : Parsers) (on : AllOnline low) where
  -- ---- postfix operators

  listed_arguments_online : (scope : Scope) → Online (listed_arguments k low scope)
  unfolding listed_arguments
  listed_arguments_online scope = listed_online _ _ _ _ _ refl (online_pure tt) (λ s. on.expr s assignment) scope

  arguments_online : (scope : Scope) → Online (arguments k low scope)
  unfolding arguments
  arguments_online scope = online_peek _ by
    where
      by : (o : Option Body) → Online (arguments_by k low scope o)
      by (Some (lexeme.Mark p.CloseParen)) = online_skip _ (online_pure tree.NoExpr)
      by o = online_before (listed_arguments k low scope) (is_mark p.CloseParen) (λ all. pure (exprs all.0))
          (listed_arguments_online scope) (λ all. online_pure (exprs all.0))

  index_online : (scope : Scope) (left : Expr) → Online (index k low scope left)
  unfolding index
  index_online scope left =
      online_here _
      (λ pos. online_skip _
      (online_before _ (is_mark p.CloseBracket) _ (on.expr (scope ++ expr_adds left) expression)
      (λ inside. online_pure (tree.Index pos left inside))))

  call_online : (scope : Scope) (left : Expr) → Online (call k low scope left)
  unfolding call
  call_online scope left =
      online_here _
      (λ pos. online_skip _
      (online_bind _ _ (arguments_online (scope ++ expr_adds left)) (λ all. online_pure (tree.Call pos left all))))

  access_name_online : (operator : Access) (left : Expr) → Online (access_name operator left)
  unfolding access_name
  access_name_online operator left =
      online_here _
      (λ pos. online_skip _
      (online_peek _ (λ o. named_online (name_of o) _ (λ x. online_pure (tree.Member pos operator left x)))))

  step_by_one_online : (operator : Postfix) (left : Expr) → Online (step_by_one operator left)
  unfolding step_by_one
  step_by_one_online operator left =
      online_here _ (λ pos. online_skip _ (online_pure (tree.PostfixOp pos operator left)))

  postfix_on_online : (scope : Scope) (left : Expr) → Online (postfix_on k low scope left)
  unfolding postfix_on
  postfix_on_online scope left = online_peek _ by
    where
      by : (o : Option Body) → Online (postfix_by k low scope left o)
      by (Some (lexeme.Mark p.OpenBracket)) = index_online scope left
      by (Some (lexeme.Mark p.OpenParen)) = call_online scope left
      by (Some (lexeme.Mark p.Dot)) = access_name_online access.Dot left
      by (Some (lexeme.Mark p.Arrow)) = access_name_online access.Arrow left
      by (Some (lexeme.Mark p.Increment)) = step_by_one_online postfix.PostInc left
      by (Some (lexeme.Mark p.Decrement)) = step_by_one_online postfix.PostDec left
      by o = online_fail Unfit

  postfixes_online : (scope : Scope) (left : Expr) → Online (postfixes k low scope left)
  unfolding postfixes
  postfixes_online scope left = climb_online _ _ _ (postfix_on_online scope) k left

  -- ---- primary and unary expressions and casts

  pub paren_expr_online : (scope : Scope) → Online (paren_expr k low scope)
  unfolding paren_expr
  paren_expr_online scope =
      online_before _ (is_mark p.CloseParen) _ (online_expr_lower scope k _ (on.expr scope expression))
      (λ inside. postfixes_online scope (tree.Paren inside))

  cast_on_online : (scope : Scope) (pos : Pos) → Online (cast_on k low scope pos)
  unfolding cast_on
  cast_on_online scope pos =
      online_before _ (is_mark p.CloseParen) _ (on.type_name scope)
      (λ type. online_bind _ _ (on.expr (scope ++ type_name_adds type) cast)
      (λ operand. online_pure (tree.Cast pos type operand)))

  inside_online : (scope : Scope) (level : ℕ) (pos : Pos) → Online (inside k low scope level pos)
  unfolding inside
  inside_online scope level pos = online_peek _ (λ o. online_choose (begins_type scope o) _ _
      (online_choose (nat_le level cast) _ _ (cast_on_online scope pos) (online_fail Unfit)) (paren_expr_online scope))

  type_measure_online : (scope : Scope) (operator : Measure) (pos : Pos)
      → Online (type_measure k low scope operator pos)
  unfolding type_measure
  type_measure_online scope operator pos =
      online_before _ (is_mark p.CloseParen) _ (on.type_name scope)
      (λ type. online_pure (tree.MeasureOp pos operator type))

  size_behind_paren_online : (scope : Scope) (pos : Pos) → Online (size_behind_paren k low scope pos)
  unfolding size_behind_paren
  size_behind_paren_online scope pos =
      online_peek _ (λ o. online_choose (begins_type scope o) _ _ (type_measure_online scope measure.SizeType pos)
      (online_bind _ _ (on.paren_expr scope) (λ operand. online_pure (tree.PrefixOp pos prefix.SizeExpr operand))))

  size_online : (scope : Scope) (pos : Pos) → Online (size k low scope pos)
  unfolding size
  size_online scope pos =
      online_peek _ (λ o. online_choose (is_mark p.OpenParen o) _ _ (online_skip _ (size_behind_paren_online scope pos))
      (online_bind _ _ (on.expr scope unary) (λ operand. online_pure (tree.PrefixOp pos prefix.SizeExpr operand))))

  alignment_online : (scope : Scope) (pos : Pos) → Online (alignment k low scope pos)
  unfolding alignment
  alignment_online scope pos =
      online_bind _ _ (online_expect (is_mark p.OpenParen)) (λ _. type_measure_online scope measure.AlignType pos)

  text_online : (scope : Scope) (pos : Pos) (units : List ℤ) (wide : Bool) → Online (text k low scope pos units wide)
  unfolding text
  text_online scope pos units wide =
      online_bind _ _ (pieces_online wide)
      (λ more. postfixes_online scope (tree.Text pos (record { pieces = units ∷ more; wide = wide })))

  prefix_expr_online : (scope : Scope) (pos : Pos) (o : Option Prefix) → Online (prefix_expr k low scope pos o)
  unfolding prefix_expr
  prefix_expr_online scope pos None = online_fail Unfit
  prefix_expr_online scope pos (Some operator) =
      online_deeper k _
      (online_skip _
      (online_bind _ _ (on.expr scope (operand_level operator))
      (λ operand. online_pure (tree.PrefixOp pos operator operand))))

  prefix_expr_takes : (scope : Scope) (pos : Pos) (o : Option Prefix) → TakesOne (prefix_expr k low scope pos o)
  unfolding prefix_expr
  prefix_expr_takes scope pos None = takes_fail Unfit
  prefix_expr_takes scope pos (Some operator) =
      takes_deeper k _
      (takes_skip (low.expr scope (operand_level operator)
      >>= λ operand. pure (tree.PrefixOp pos operator operand))
      (online_bind _ _ (on.expr scope (operand_level operator))
      (λ operand. online_pure (tree.PrefixOp pos operator operand))))

  unary_at_online : (scope : Scope) (level : ℕ) → Online (unary_at k low scope level)
  unfolding unary_at
  unary_at_online scope level = online_here _ (λ pos. online_peek _ (by pos))
    where
      by : (pos : Pos) (o : Option Body) → Online (unary_by k low scope level pos o)
      by pos (Some (lexeme.Number number)) =
          online_skip _ (postfixes_online scope (tree.Const pos (constant.Number number)))
      by pos (Some (lexeme.Character value wide)) =
          online_skip _ (postfixes_online scope (tree.Const pos (constant.Character value wide)))
      by pos (Some (lexeme.Literal units wide)) = online_skip _ (text_online scope pos units wide)
      by pos (Some (lexeme.Name x)) =
          online_choose (is_type scope x) _ _ (online_fail Unfit)
          (online_skip _ (postfixes_online scope (tree.Id pos x)))
      by pos (Some (lexeme.Word w.Sizeof)) = online_deeper k _ (online_skip _ (size_online scope pos))
      by pos (Some (lexeme.Word w.Alignof)) = online_deeper k _ (online_skip _ (alignment_online scope pos))
      by pos (Some (lexeme.Mark p.OpenParen)) = online_deeper k _ (online_skip _ (inside_online scope level pos))
      by pos o = prefix_expr_online scope pos (prefix_of o)

  unary_at_takes : (scope : Scope) (level : ℕ) → TakesOne (unary_at k low scope level)
  unfolding unary_at
  unary_at_takes scope level =
      takes_here (λ pos. peek (unary_by k low scope level pos))
      (λ pos. takes_peek (unary_by k low scope level pos) (by pos))
    where
      by : (pos : Pos) (next : Body) → TakesOne (unary_by k low scope level pos (Some next))
      by pos (lexeme.Number number) = takes_skip _ (postfixes_online scope (tree.Const pos (constant.Number number)))
      by pos (lexeme.Character value wide) =
          takes_skip _ (postfixes_online scope (tree.Const pos (constant.Character value wide)))
      by pos (lexeme.Literal units wide) = takes_skip _ (text_online scope pos units wide)
      by pos (lexeme.Name x) =
          takes_choose (is_type scope x) (fail Unfit) (skip (postfixes k low scope (tree.Id pos x))) (takes_fail Unfit)
          (takes_skip (postfixes k low scope (tree.Id pos x)) (postfixes_online scope (tree.Id pos x)))
      by pos (lexeme.Word w.Sizeof) =
          takes_deeper k (skip (size k low scope pos)) (takes_skip _ (size_online scope pos))
      by pos (lexeme.Word w.Alignof) =
          takes_deeper k (skip (alignment k low scope pos)) (takes_skip _ (alignment_online scope pos))
      by pos (lexeme.Mark p.OpenParen) =
          takes_deeper k (skip (inside k low scope level pos)) (takes_skip _ (inside_online scope level pos))
      by pos next = prefix_expr_takes scope pos (prefix_of (Some next))

  -- ---- operators between operands, and the conditional

  between_on_online : (scope : Scope) (left : Expr) (pos : Pos) (operator : Infix)
      → Online (between_on k low scope left pos operator)
  unfolding between_on
  between_on_online scope left pos operator =
      online_bind _ _ (on.expr (scope ++ expr_adds left) (right_level operator))
      (λ right. online_pure (tree.InfixOp pos operator left right))

  cond_on_online : (scope : Scope) (left : Expr) (pos : Pos) → Online (cond_on k low scope left pos)
  unfolding cond_on
  cond_on_online scope left pos = online_before _ (is_mark p.Colon) _ (on.expr (scope ++ expr_adds left) expression)
      (λ then. online_bind _ _ (on.expr (scope ++ expr_adds left ++ expr_adds then) conditional)
      (λ else. online_pure (tree.Cond pos left then else)))

  infix_on_online : (scope : Scope) (left : Expr) → Online (infix_on k low scope left)
  unfolding infix_on
  infix_on_online scope left = online_here _ (λ pos. online_peek _ (λ o. by pos (infix_of o)))
    where
      by : (pos : Pos) (o : Option Infix) → Online (infix_by k low scope left pos o)
      by pos (Some operator) = online_skip _ (between_on_online scope left pos operator)
      by pos None = online_skip _ (cond_on_online scope left pos)

  infixes_online : (scope : Scope) (level : ℕ) (left : Expr) → Online (infixes k low scope level left)
  unfolding infixes
  infixes_online scope level left = climb_online _ _ _ (infix_on_online scope) k left

  pub expr_at_online : (scope : Scope) (level : ℕ) → Online (expr_at k low scope level)
  unfolding expr_at
  expr_at_online scope level = online_bind _ _ (unary_at_online scope level) (infixes_online scope level)

  pub expr_at_takes : (scope : Scope) (level : ℕ) → TakesOne (expr_at k low scope level)
  unfolding expr_at
  expr_at_takes scope level =
      takes_bind (unary_at k low scope level) (infixes k low scope level) (unary_at_takes scope level)
      (infixes_online scope level)
