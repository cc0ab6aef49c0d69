-- Precedence and association of 6.5 as levels: the higher binds tighter. Where a level is wanted, an expression of that
-- level or a higher one may stand, and a primary expression (6.5.1) anywhere.
use Rattle.std.specs.Prelude.{ℕ, suc}
use Rattle.c_syntax.specs.declared.operator.Arithmetic.{Arithmetic}
use Rattle.c_syntax.specs.declared.operator.Arithmetic.TheVariants as a
use Rattle.c_syntax.specs.declared.operator.Comparison.{Comparison}
use Rattle.c_syntax.specs.declared.operator.Comparison.TheVariants as c
use Rattle.c_syntax.specs.declared.operator.Infix.{Infix}
use Rattle.c_syntax.specs.declared.operator.Infix.TheVariants as between
use Rattle.c_syntax.specs.declared.operator.Prefix.{Prefix}
use Rattle.c_syntax.specs.declared.operator.Prefix.TheVariants as prefix

-- 6.5.17
abbrev pub expression : ℕ
expression = 0

-- 6.5.16
abbrev pub assignment : ℕ
assignment = 1

-- 6.5.15, and the constant expressions of 6.6
abbrev pub conditional : ℕ
conditional = 2

-- 6.5.14
abbrev pub logical_or : ℕ
logical_or = 3

-- 6.5.13
abbrev pub logical_and : ℕ
logical_and = 4

-- 6.5.12
abbrev pub inclusive_or : ℕ
inclusive_or = 5

-- 6.5.11
abbrev pub exclusive_or : ℕ
exclusive_or = 6

-- 6.5.10
abbrev pub bitwise_and : ℕ
bitwise_and = 7

-- 6.5.9
abbrev pub equality : ℕ
equality = 8

-- 6.5.8
abbrev pub relational : ℕ
relational = 9

-- 6.5.7
abbrev pub shift : ℕ
shift = 10

-- 6.5.6
abbrev pub additive : ℕ
additive = 11

-- 6.5.5
abbrev pub multiplicative : ℕ
multiplicative = 12

-- 6.5.4
abbrev pub cast : ℕ
cast = 13

-- 6.5.3
abbrev pub unary : ℕ
unary = 14

-- 6.5.2
abbrev pub postfix : ℕ
postfix = 15

-- ---- the level of an operator, and those of its operands

abbrev pub arithmetic_level : Arithmetic → ℕ
arithmetic_level a.Multiply = multiplicative
arithmetic_level a.Divide = multiplicative
arithmetic_level a.Remainder = multiplicative
arithmetic_level a.Add = additive
arithmetic_level a.Subtract = additive
arithmetic_level a.ShiftLeft = shift
arithmetic_level a.ShiftRight = shift
arithmetic_level a.BitAnd = bitwise_and
arithmetic_level a.BitXor = exclusive_or
arithmetic_level a.BitOr = inclusive_or

abbrev pub comparison_level : Comparison → ℕ
comparison_level c.Less = relational
comparison_level c.Greater = relational
comparison_level c.LessEqual = relational
comparison_level c.GreaterEqual = relational
comparison_level c.Equal = equality
comparison_level c.NotEqual = equality

abbrev pub infix_level : Infix → ℕ
infix_level (between.Arithmetic operator) = arithmetic_level operator
infix_level (between.Comparison operator) = comparison_level operator
infix_level between.AndAlso = logical_and
infix_level between.OrElse = logical_or
infix_level between.Assign = assignment
infix_level (between.AssignOp operator) = assignment
infix_level between.Comma = expression

-- a - b - c is (a - b) - c, and a = b = c is a = (b = c), where what is assigned to is a unary expression
abbrev pub left_level : Infix → ℕ
left_level (between.Arithmetic operator) = arithmetic_level operator
left_level (between.Comparison operator) = comparison_level operator
left_level between.AndAlso = logical_and
left_level between.OrElse = logical_or
left_level between.Assign = unary
left_level (between.AssignOp operator) = unary
left_level between.Comma = expression

abbrev pub right_level : Infix → ℕ
right_level (between.Arithmetic operator) = suc (arithmetic_level operator)
right_level (between.Comparison operator) = suc (comparison_level operator)
right_level between.AndAlso = inclusive_or
right_level between.OrElse = logical_and
right_level between.Assign = assignment
right_level (between.AssignOp operator) = assignment
right_level between.Comma = assignment

-- -(int)x, but ++ and sizeof take no cast: sizeof(int)*p is a product
abbrev pub operand_level : Prefix → ℕ
operand_level prefix.PreInc = unary
operand_level prefix.PreDec = unary
operand_level prefix.AddressOf = cast
operand_level prefix.Deref = cast
operand_level prefix.Plus = cast
operand_level prefix.Minus = cast
operand_level prefix.Flip = cast
operand_level prefix.Not = cast
operand_level prefix.SizeExpr = unary
