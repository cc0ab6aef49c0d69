-- How expressions are read: trees of one height more than those that the lower parsers read.
use Rattle.std.specs.Prelude.{ℕ, ℤ, nat_le, Bool, true, false, ◌&&◌, ◌||◌, not, List, ◌∷◌, ◌++◌, Option, Some, None}
use Rattle.std.specs.Prelude.{is_some}
use Rattle.critical_table.specs.declared.pos.Pos.{Pos}
use Rattle.c_lexer.specs.declared.punct.Punct.TheVariants as p
use Rattle.c_lexer.specs.declared.token.Body.{Body}
use Rattle.c_lexer.specs.declared.token.Body.TheVariants as lexeme
use Rattle.c_lexer.specs.declared.word.Word.TheVariants as w
use Rattle.c_syntax.specs.declared.expression.Constant.TheVariants as constant
use Rattle.c_reading.specs.declared.declarator_form.DeclaratorForm.{DeclaratorForm}
use Rattle.c_syntax.specs.declared.operator.Access.{Access}
use Rattle.c_syntax.specs.declared.operator.Access.TheVariants as access
use Rattle.c_syntax.specs.declared.operator.Infix.{Infix}
use Rattle.c_syntax.specs.declared.operator.Measure.{Measure}
use Rattle.c_syntax.specs.declared.operator.Measure.TheVariants as measure
use Rattle.c_syntax.specs.declared.operator.Postfix.{Postfix}
use Rattle.c_syntax.specs.declared.operator.Postfix.TheVariants as postfix
use Rattle.c_syntax.specs.declared.operator.Prefix.{Prefix}
use Rattle.c_syntax.specs.declared.operator.Prefix.TheVariants as prefix
use Rattle.c_syntax.specs.Height.{height}
use Rattle.c_syntax.specs.Levels.{expression, assignment, conditional, logical_or, cast, unary}
use Rattle.c_syntax.specs.Levels.{postfix as postfix_level, infix_level, left_level, right_level, operand_level}
use Rattle.c_reading.specs.Parser.{Parser, Unfit, ◌>>=◌, pure, fail, peek, here, skip, choose, deeper, expect, many}
use Rattle.c_reading.specs.Parser.{climb, comma_list}
use Rattle.c_reading.specs.ReadToken.{is_mark, is_word, name_of, begins_type, is_literal, prefix_of, infix_of}
use Rattle.c_syntax.specs.Scopes.{Scope, is_type, expr_adds, type_name_adds}
use Rattle.c_syntax.specs.Tree as tree
use Rattle.c_syntax.specs.Tree.{Expr, Exprs, TypeName, Specifiers, Declarator, Parameter, MemberDeclaration}
use Rattle.c_syntax.specs.View.{exprs}

-- the parsers of one height
pub record Parsers : Type 0 where
  pub expr : Scope → ℕ → Parser Expr
  pub paren_expr : Scope → Parser Expr
  pub type_name : Scope → Parser TypeName
  pub specifiers : Scope → Parser Specifiers
  pub declarator : DeclaratorForm → Scope → Parser Declarator
  pub parameter : Scope → Parser Parameter
  pub member : Scope → Parser MemberDeclaration

-- the token begins an expression
abbrev pub begins_expr : Scope → Option Body → Bool
begins_expr scope (Some (lexeme.Number number)) = true
begins_expr scope (Some (lexeme.Character value wide)) = true
begins_expr scope (Some (lexeme.Literal units wide)) = true
begins_expr scope (Some (lexeme.Name x)) = not (is_type scope x)
begins_expr scope (Some (lexeme.Word next)) = is_word w.Sizeof (Some (lexeme.Word next))
    || is_word w.Alignof (Some (lexeme.Word next))
begins_expr scope (Some (lexeme.Mark next)) = is_mark p.OpenParen (Some (lexeme.Mark next))
    || is_some (prefix_of (Some (lexeme.Mark next)))
begins_expr scope None = false

-- an expression, where the token may come before any height is left
unfoldable pub expr_lower : Scope → ℕ → Parser Expr → Parser Expr
expr_lower scope k p = peek (λ o. choose (begins_expr scope o) (deeper k p) (fail Unfit))

-- the level of a tree by its own operator
abbrev pub own_level : Expr → ℕ
own_level (tree.Const pos constant) = 16
own_level (tree.Id pos x) = 16
own_level (tree.Text pos text) = 16
own_level (tree.Paren inner) = 16
own_level (tree.Index pos array index) = postfix_level
own_level (tree.Call pos function arguments) = postfix_level
own_level (tree.Member pos access whole x) = postfix_level
own_level (tree.PostfixOp pos operator operand) = postfix_level
own_level (tree.PrefixOp pos operator operand) = unary
own_level (tree.MeasureOp pos operator type) = unary
own_level (tree.Cast pos type operand) = cast
own_level (tree.InfixOp pos operator left right) = infix_level operator
own_level (tree.Cond pos test then else) = conditional

-- ---- names, and more literals of one width

abbrev pub with_name : Option (List ℕ) → (List ℕ → Parser Expr) → Parser Expr
with_name (Some x) more = skip (more x)
with_name None more = fail Unfit

abbrev pub piece_by : Option Body → Parser (List ℤ)
piece_by (Some (lexeme.Literal units wide)) = skip (pure units)
piece_by _ = fail Unfit

unfoldable pub piece : Parser (List ℤ)
piece = peek piece_by

unfoldable pub pieces : Bool → Parser (List (List ℤ))
pieces wide = many (λ s o. is_literal wide o) (λ s. piece) (λ s units. s) wide

abbrev pub goes_postfix : Expr → Option Body → Bool
goes_postfix left (Some (lexeme.Mark p.OpenBracket)) = true
goes_postfix left (Some (lexeme.Mark p.OpenParen)) = true
goes_postfix left (Some (lexeme.Mark p.Dot)) = true
goes_postfix left (Some (lexeme.Mark p.Arrow)) = true
goes_postfix left (Some (lexeme.Mark p.Increment)) = true
goes_postfix left (Some (lexeme.Mark p.Decrement)) = true
goes_postfix left _ = false

-- the operator may take this tree on its left, and stand where the level is wanted
abbrev pub goes_between : ℕ → Expr → Option Infix → Bool → Bool
goes_between level left (Some operator) question =
    nat_le level (infix_level operator) && nat_le (left_level operator) (own_level left)
goes_between level left None question = question && nat_le level conditional && nat_le logical_or (own_level left)

abbrev pub goes_infix : ℕ → Expr → Option Body → Bool
goes_infix level left o = goes_between level left (infix_of o) (is_mark p.Question o)

-- ---- postfix operators that take no expression

unfoldable pub access_name : Access → Expr → Parser Expr
access_name operator left =
    here (λ pos. skip (peek (λ o. with_name (name_of o) (λ x. pure (tree.Member pos operator left x)))))

unfoldable pub step_by_one : Postfix → Expr → Parser Expr
step_by_one operator left = here (λ pos. skip (pure (tree.PostfixOp pos operator left)))

module _ (k : ℕ) (low : Parsers) where
  -- ---- postfix operators (6.5.2)

  -- arguments have no ending
  unfoldable pub listed_arguments : Scope → Parser (List Expr × Bool)
  listed_arguments =
      comma_list (is_mark p.Comma) (λ o. false) (pure tt) (λ s. low.expr s assignment) (λ s e. s ++ expr_adds e)

  abbrev pub arguments_by : Scope → Option Body → Parser Exprs
  arguments_by scope (Some (lexeme.Mark p.CloseParen)) = skip (pure tree.NoExpr)
  arguments_by scope _ = listed_arguments scope >>= λ all. expect (is_mark p.CloseParen) >>= λ _. pure (exprs all.0)

  unfoldable pub arguments : Scope → Parser Exprs
  arguments scope = peek (arguments_by scope)

  -- in the scope behind the array
  abbrev pub index_in : Scope → Expr → Parser Expr
  index_in scope left = here (λ pos. skip (low.expr scope expression >>= λ inside.
      expect (is_mark p.CloseBracket) >>= λ _. pure (tree.Index pos left inside)))

  unfoldable pub index : Scope → Expr → Parser Expr
  index scope left = index_in (scope ++ expr_adds left) left

  -- in the scope behind the function
  abbrev pub call_in : Scope → Expr → Parser Expr
  call_in scope left = here (λ pos. skip (arguments scope >>= λ all. pure (tree.Call pos left all)))

  unfoldable pub call : Scope → Expr → Parser Expr
  call scope left = call_in (scope ++ expr_adds left) left

  abbrev pub postfix_by : Scope → Expr → Option Body → Parser Expr
  postfix_by scope left (Some (lexeme.Mark p.OpenBracket)) = index scope left
  postfix_by scope left (Some (lexeme.Mark p.OpenParen)) = call scope left
  postfix_by scope left (Some (lexeme.Mark p.Dot)) = access_name access.Dot left
  postfix_by scope left (Some (lexeme.Mark p.Arrow)) = access_name access.Arrow left
  postfix_by scope left (Some (lexeme.Mark p.Increment)) = step_by_one postfix.PostInc left
  postfix_by scope left (Some (lexeme.Mark p.Decrement)) = step_by_one postfix.PostDec left
  postfix_by scope left _ = fail Unfit

  unfoldable pub postfix_on : Scope → Expr → Parser Expr
  postfix_on scope left = peek (postfix_by scope left)

  -- all postfix operators that follow
  unfoldable pub postfixes : Scope → Expr → Parser Expr
  postfixes scope left = climb goes_postfix (λ e. nat_le (height e) k) (postfix_on scope) k left

  -- ---- primary and unary expressions and casts (6.5.1 to 6.5.4)

  -- behind an opening parenthesis that no type name follows
  unfoldable pub paren_expr : Scope → Parser Expr
  paren_expr scope =
      expr_lower scope k (low.expr scope expression) >>= λ inside.
      expect (is_mark p.CloseParen) >>= λ _. postfixes scope (tree.Paren inside)

  unfoldable pub cast_on : Scope → Pos → Parser Expr
  cast_on scope pos =
      low.type_name scope >>= λ type. expect (is_mark p.CloseParen) >>= λ _.
      low.expr (scope ++ type_name_adds type) cast >>= λ operand. pure (tree.Cast pos type operand)

  -- behind an opening parenthesis: a cast, where one may stand, or an expression in parentheses
  unfoldable pub inside : Scope → ℕ → Pos → Parser Expr
  inside scope level pos =
      peek (λ o. choose (begins_type scope o) (choose (nat_le level cast) (cast_on scope pos) (fail Unfit))
      (paren_expr scope))

  unfoldable pub type_measure : Scope → Measure → Pos → Parser Expr
  type_measure scope operator pos =
      low.type_name scope >>= λ type. expect (is_mark p.CloseParen) >>= λ _. pure (tree.MeasureOp pos operator type)

  -- behind `sizeof` and an opening parenthesis
  unfoldable pub size_behind_paren : Scope → Pos → Parser Expr
  size_behind_paren scope pos =
      peek (λ o. choose (begins_type scope o) (type_measure scope measure.SizeType pos) (low.paren_expr scope
      >>= λ operand. pure (tree.PrefixOp pos prefix.SizeExpr operand)))

  unfoldable pub size : Scope → Pos → Parser Expr
  size scope pos =
      peek (λ o. choose (is_mark p.OpenParen o) (skip (size_behind_paren scope pos)) (low.expr scope unary
      >>= λ operand. pure (tree.PrefixOp pos prefix.SizeExpr operand)))

  unfoldable pub alignment : Scope → Pos → Parser Expr
  alignment scope pos = expect (is_mark p.OpenParen) >>= λ _. type_measure scope measure.AlignType pos

  unfoldable pub text : Scope → Pos → List ℤ → Bool → Parser Expr
  text scope pos units wide =
      pieces wide >>= λ more. postfixes scope (tree.Text pos (record { pieces = units ∷ more; wide = wide }))

  unfoldable pub prefix_expr : Scope → Pos → Option Prefix → Parser Expr
  prefix_expr scope pos None = fail Unfit
  prefix_expr scope pos (Some operator) =
      deeper k (skip (low.expr scope (operand_level operator) >>= λ operand. pure (tree.PrefixOp pos operator operand)))

  abbrev pub unary_by : Scope → ℕ → Pos → Option Body → Parser Expr
  unary_by scope level pos (Some (lexeme.Number number)) =
      skip (postfixes scope (tree.Const pos (constant.Number number)))
  unary_by scope level pos (Some (lexeme.Character value wide)) =
      skip (postfixes scope (tree.Const pos (constant.Character value wide)))
  unary_by scope level pos (Some (lexeme.Literal units wide)) = skip (text scope pos units wide)
  unary_by scope level pos (Some (lexeme.Name x)) =
      choose (is_type scope x) (fail Unfit) (skip (postfixes scope (tree.Id pos x)))
  unary_by scope level pos (Some (lexeme.Word w.Sizeof)) = deeper k (skip (size scope pos))
  unary_by scope level pos (Some (lexeme.Word w.Alignof)) = deeper k (skip (alignment scope pos))
  unary_by scope level pos (Some (lexeme.Mark p.OpenParen)) = deeper k (skip (inside scope level pos))
  unary_by scope level pos o = prefix_expr scope pos (prefix_of o)

  unfoldable pub unary_at : Scope → ℕ → Parser Expr
  unary_at scope level = here (λ pos. peek (unary_by scope level pos))

  -- ---- operators between operands, and the conditional (6.5.5 to 6.5.17)

  -- in the scope behind the left operand
  abbrev pub between_in : Scope → Expr → Pos → Infix → Parser Expr
  between_in scope left pos operator = low.expr scope (right_level operator)
      >>= λ right. pure (tree.InfixOp pos operator left right)

  unfoldable pub between_on : Scope → Expr → Pos → Infix → Parser Expr
  between_on scope left pos operator = between_in (scope ++ expr_adds left) left pos operator

  unfoldable pub cond_on : Scope → Expr → Pos → Parser Expr
  cond_on scope left pos =
      low.expr (scope ++ expr_adds left) expression >>= λ then. expect (is_mark p.Colon) >>= λ _.
      low.expr (scope ++ expr_adds left ++ expr_adds then) conditional >>= λ else. pure (tree.Cond pos left then else)

  abbrev pub infix_by : Scope → Expr → Pos → Option Infix → Parser Expr
  infix_by scope left pos (Some operator) = skip (between_on scope left pos operator)
  infix_by scope left pos None = skip (cond_on scope left pos)

  unfoldable pub infix_on : Scope → Expr → Parser Expr
  infix_on scope left = here (λ pos. peek (λ o. infix_by scope left pos (infix_of o)))

  unfoldable pub infixes : Scope → ℕ → Expr → Parser Expr
  infixes scope level left = climb (goes_infix level) (λ e. nat_le (height e) k) (infix_on scope) k left

  -- an expression of a level
  unfoldable pub expr_at : Scope → ℕ → Parser Expr
  expr_at scope level = unary_at scope level >>= infixes scope level
