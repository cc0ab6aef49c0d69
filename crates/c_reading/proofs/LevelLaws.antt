-- What levels say: an operator's own against those of its operands, and an expression's own against the one wanted.
use Rattle.std.proofs.Common.{◌≤◌, ◌<◌, ℕ, arith}
use Rattle.c_syntax.specs.declared.operator.Arithmetic.{Arithmetic}
use Rattle.c_syntax.specs.declared.operator.Arithmetic.TheVariants as a
use Rattle.c_syntax.specs.declared.operator.Comparison.{Comparison}
use Rattle.c_syntax.specs.declared.operator.Comparison.TheVariants as c
use Rattle.c_syntax.specs.declared.operator.Infix.{Infix}
use Rattle.c_syntax.specs.declared.operator.Infix.TheVariants as between
use Rattle.c_syntax.specs.Levels.{conditional, unary, arithmetic_level, comparison_level, infix_level, left_level}
use Rattle.c_syntax.specs.Levels.{right_level}
use Rattle.c_reading.specs.ReadExpr.{own_level}
use Rattle.c_syntax.specs.Scopes.{Scope}
use Rattle.c_syntax.specs.Tree as tree
use Rattle.c_syntax.specs.Tree.{Expr}
use Rattle.c_syntax.specs.WellFormed.{IsExpr}

-- ---- operators

arithmetic_within : (operator : Arithmetic) → (5 ≤ arithmetic_level operator) × (arithmetic_level operator ≤ 12)
arithmetic_within a.Multiply = (omega arith, omega arith)
arithmetic_within a.Divide = (omega arith, omega arith)
arithmetic_within a.Remainder = (omega arith, omega arith)
arithmetic_within a.Add = (omega arith, omega arith)
arithmetic_within a.Subtract = (omega arith, omega arith)
arithmetic_within a.ShiftLeft = (omega arith, omega arith)
arithmetic_within a.ShiftRight = (omega arith, omega arith)
arithmetic_within a.BitAnd = (omega arith, omega arith)
arithmetic_within a.BitXor = (omega arith, omega arith)
arithmetic_within a.BitOr = (omega arith, omega arith)

comparison_within : (operator : Comparison) → (5 ≤ comparison_level operator) × (comparison_level operator ≤ 12)
comparison_within c.Less = (omega arith, omega arith)
comparison_within c.Greater = (omega arith, omega arith)
comparison_within c.LessEqual = (omega arith, omega arith)
comparison_within c.GreaterEqual = (omega arith, omega arith)
comparison_within c.Equal = (omega arith, omega arith)
comparison_within c.NotEqual = (omega arith, omega arith)

-- no operator between operands binds more tightly than `*`, `/` and `%`
pub infix_low : (operator : Infix) → infix_level operator ≤ 12
infix_low (between.Arithmetic operator) = (arithmetic_within operator).1
infix_low (between.Comparison operator) = (comparison_within operator).1
infix_low between.AndAlso = omega arith
infix_low between.OrElse = omega arith
infix_low between.Assign = omega arith
infix_low (between.AssignOp operator) = omega arith
infix_low between.Comma = omega arith

-- its operands bind at least as tightly as it does, and no tighter than a unary expression
pub infix_below_left : (operator : Infix) → infix_level operator ≤ left_level operator
infix_below_left (between.Arithmetic operator) = omega arith
infix_below_left (between.Comparison operator) = omega arith
infix_below_left between.AndAlso = omega arith
infix_below_left between.OrElse = omega arith
infix_below_left between.Assign = omega arith
infix_below_left (between.AssignOp operator) = omega arith
infix_below_left between.Comma = omega arith

pub infix_below_right : (operator : Infix) → infix_level operator ≤ right_level operator
infix_below_right (between.Arithmetic operator) = omega arith
infix_below_right (between.Comparison operator) = omega arith
infix_below_right between.AndAlso = omega arith
infix_below_right between.OrElse = omega arith
infix_below_right between.Assign = omega arith
infix_below_right (between.AssignOp operator) = omega arith
infix_below_right between.Comma = omega arith

pub left_low : (operator : Infix) → left_level operator ≤ unary
left_low (between.Arithmetic operator) = omega (arith, arithmetic_within operator)
left_low (between.Comparison operator) = omega (arith, comparison_within operator)
left_low between.AndAlso = omega arith
left_low between.OrElse = omega arith
left_low between.Assign = omega arith
left_low (between.AssignOp operator) = omega arith
left_low between.Comma = omega arith

pub right_low : (operator : Infix) → right_level operator ≤ unary
right_low (between.Arithmetic operator) = omega (arith, arithmetic_within operator)
right_low (between.Comparison operator) = omega (arith, comparison_within operator)
right_low between.AndAlso = omega arith
right_low between.OrElse = omega arith
right_low between.Assign = omega arith
right_low (between.AssignOp operator) = omega arith
right_low between.Comma = omega arith

-- a comma alone takes an assignment or a conditional expression on its left
pub lowest_left : (operator : Infix) → left_level operator ≤ conditional → infix_level operator < 1
lowest_left (between.Arithmetic operator) low = absurd (let h = arithmetic_within operator in omega arith)
lowest_left (between.Comparison operator) low = absurd (let h = comparison_within operator in omega arith)
lowest_left between.AndAlso low = omega arith
lowest_left between.OrElse low = omega arith
lowest_left between.Assign low = omega arith
lowest_left (between.AssignOp operator) low = omega arith
lowest_left between.Comma low = omega arith

-- an operator that takes another's expression on its left does not belong to that one's right side
pub follows : (operator next : Infix) → left_level next ≤ infix_level operator → infix_level next < right_level operator
follows (between.Arithmetic operator) next low = let h = infix_below_left next in omega arith
follows (between.Comparison operator) next low = let h = infix_below_left next in omega arith
follows between.AndAlso next low = let h = infix_below_left next in omega arith
follows between.OrElse next low = let h = infix_below_left next in omega arith
follows between.Assign next low = lowest_left next (omega arith)
follows (between.AssignOp operator) next low = lowest_left next (omega arith)
follows between.Comma next low = let h = infix_below_left next in omega arith

-- ---- expressions

-- an expression of a level is one of each lower level
pub is_down : (e : Expr) (scope : Scope) (level higher : ℕ) → level ≤ higher → IsExpr e scope higher
    → IsExpr e scope level
is_down (tree.Const pos constant) scope level higher low is = is
is_down (tree.Id pos x) scope level higher low is = is
is_down (tree.Text pos text) scope level higher low is = is
is_down (tree.Paren inner) scope level higher low is = is
is_down (tree.Index pos array index) scope level higher low is = (omega (arith, is.0), is.1, is.2)
is_down (tree.Call pos function arguments) scope level higher low is = (omega (arith, is.0), is.1, is.2)
is_down (tree.Member pos access whole x) scope level higher low is = (omega (arith, is.0), is.1)
is_down (tree.PostfixOp pos operator operand) scope level higher low is = (omega (arith, is.0), is.1)
is_down (tree.PrefixOp pos operator operand) scope level higher low is = (omega (arith, is.0), is.1)
is_down (tree.MeasureOp pos operator type) scope level higher low is = (omega (arith, is.0), is.1)
is_down (tree.Cast pos type operand) scope level higher low is = (omega (arith, is.0), is.1, is.2)
is_down (tree.InfixOp pos operator left right) scope level higher low is = (omega (arith, is.0), is.1, is.2)
is_down (tree.Cond pos test then else) scope level higher low is = (omega (arith, is.0), is.1, is.2, is.3)

-- it is at no higher level than its own
pub own_above : (e : Expr) (scope : Scope) (level : ℕ) → level ≤ unary → IsExpr e scope level → level ≤ own_level e
own_above (tree.Const pos constant) scope level low is = omega arith
own_above (tree.Id pos x) scope level low is = omega arith
own_above (tree.Text pos text) scope level low is = omega arith
own_above (tree.Paren inner) scope level low is = omega arith
own_above (tree.Index pos array index) scope level low is = omega (arith, is.0)
own_above (tree.Call pos function arguments) scope level low is = omega (arith, is.0)
own_above (tree.Member pos access whole x) scope level low is = omega (arith, is.0)
own_above (tree.PostfixOp pos operator operand) scope level low is = omega (arith, is.0)
own_above (tree.PrefixOp pos operator operand) scope level low is = omega (arith, is.0)
own_above (tree.MeasureOp pos operator type) scope level low is = omega (arith, is.0)
own_above (tree.Cast pos type operand) scope level low is = omega (arith, is.0)
own_above (tree.InfixOp pos operator left right) scope level low is = omega (arith, is.0)
own_above (tree.Cond pos test then else) scope level low is = omega (arith, is.0)
