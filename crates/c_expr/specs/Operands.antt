-- The rules of expressions by the operators of the grammar, and of arguments by the function that is called.
use Rattle.std.specs.Prelude.{ℕ, zero, suc, ℤ, Bool, true, false, cond, length, List, sum_by, Option, Some, None}
use Rattle.critical_table.specs.declared.pos.Pos.{Pos}
use Rattle.c_types.specs.CType.{CType, CTypes, Nil, Cons}
use Rattle.c_types.specs.Functions.{parameters_of, variadic_of}
use Rattle.c_types.specs.Structures.{Structure}
use Rattle.c_core.specs.declared.operator.Comparison.{Comparison as Relates}
use Rattle.c_core.specs.declared.operator.Comparison.TheVariants as c
use Rattle.c_core.specs.declared.operator.Operator.{Operator}
use Rattle.c_core.specs.declared.operator.Operator.TheVariants as o
use Rattle.c_core.specs.Tree.{Core}
use Rattle.c_syntax.specs.declared.expression.Constant.{Constant}
use Rattle.c_syntax.specs.declared.expression.Constant.TheVariants as constant
use Rattle.c_syntax.specs.declared.operator.Access.{Access}
use Rattle.c_syntax.specs.declared.operator.Access.TheVariants as access
use Rattle.c_syntax.specs.declared.operator.Arithmetic.{Arithmetic}
use Rattle.c_syntax.specs.declared.operator.Arithmetic.TheVariants as a
use Rattle.c_syntax.specs.declared.operator.Comparison.{Comparison}
use Rattle.c_syntax.specs.declared.operator.Comparison.TheVariants as r
use Rattle.c_syntax.specs.declared.operator.Infix.{Infix}
use Rattle.c_syntax.specs.declared.operator.Infix.TheVariants as between
use Rattle.c_syntax.specs.declared.operator.Measure.{Measure}
use Rattle.c_syntax.specs.declared.operator.Measure.TheVariants as measure
use Rattle.c_syntax.specs.declared.operator.Postfix.{Postfix}
use Rattle.c_syntax.specs.declared.operator.Postfix.TheVariants as postfix
use Rattle.c_syntax.specs.declared.operator.Prefix.{Prefix}
use Rattle.c_syntax.specs.declared.operator.Prefix.TheVariants as prefix
use Rattle.c_scopes.specs.Ruled.{Ruled, Fits}
use Rattle.c_conversions.specs.Parts.{Part}
use Rattle.c_conversions.specs.Versions.{is_void}
use Rattle.c_operator_rules.specs.Assignment.{prefix_rule}
use Rattle.c_expr_rules.specs.Calls.{pass_rule, further_rule}
use Rattle.c_expr_rules.specs.Casts.{cast_rule}
use Rattle.c_expr_rules.specs.Members.{dot_rule, arrow_rule}
use Rattle.c_expr_rules.specs.Pointers.{address_rule, deref_rule}
use Rattle.c_expr_rules.specs.Primary.{number_rule, character_part}
use Rattle.c_expr_rules.specs.Targets.{type_of_part, target_of}
use Rattle.c_expr_rules.specs.Unary.{plus_rule, minus_rule, flip_rule, not_rule, size_rule, align_rule}
use Rattle.c_expr_rules.specs.Unary.{size_of_rule}
use Rattle.c_expr_rules.specs.Uses.{used_rule, value_rule}
use Rattle.c_expr.specs.declared.usage.Usage.{Usage}
use Rattle.c_expr.specs.declared.usage.Usage.TheVariants as usage
use Rattle.c_expr.specs.declared.usage.Usages.{Usages}

abbrev pub operator_of : Arithmetic → Operator
operator_of a.Multiply = o.Multiply
operator_of a.Divide = o.Divide
operator_of a.Remainder = o.Remainder
operator_of a.Add = o.Add
operator_of a.Subtract = o.Subtract
operator_of a.ShiftLeft = o.ShiftLeft
operator_of a.ShiftRight = o.ShiftRight
operator_of a.BitAnd = o.BitAnd
operator_of a.BitXor = o.BitXor
operator_of a.BitOr = o.BitOr

abbrev pub comparison_of : Comparison → Relates
comparison_of r.Less = c.Less
comparison_of r.Greater = c.Greater
comparison_of r.LessEqual = c.LessEqual
comparison_of r.GreaterEqual = c.GreaterEqual
comparison_of r.Equal = c.Equal
comparison_of r.NotEqual = c.NotEqual

abbrev pub constant_rule : Pos → Constant → Ruled Part
constant_rule at (constant.Number number) = number_rule at number
constant_rule at (constant.Character n wide) = Fits (character_part at n)

-- how many units adjacent literals have
abbrev pub units_among : List (List ℤ) → ℕ
units_among pieces = sum_by length pieces

abbrev pub callee_parameters : Part → CTypes
callee_parameters function = parameters_of (target_of (type_of_part function))

abbrev pub callee_varies : Part → Bool
callee_varies function = variadic_of (target_of (type_of_part function))

-- ---- arguments (6.5.2.2)

-- the next parameter, if one is left
abbrev pub first_of : CTypes → Option CType
first_of Nil = None
first_of (Cons first rest) = Some first

abbrev pub behind_first : CTypes → CTypes
behind_first Nil = Nil
behind_first (Cons first rest) = rest

-- the parameters behind this many
abbrev pub types_behind : ℕ → CTypes → CTypes
types_behind zero types = types
types_behind (suc n) types = behind_first (types_behind n types)

-- an argument for a parameter, behind the parameters of a function with `...`, or behind those of another
abbrev pub argument_rule : List Structure → Option CType → Bool → Part → Ruled Core
argument_rule structures (Some type) variadic part = pass_rule structures type part
argument_rule structures None true part = further_rule part
argument_rule structures None false part = Fits part.core

-- an argument that has no parameter may not be void; one that has is told by its conversion
abbrev pub argument_value_rule : List Structure → Option CType → Part → Ruled Part
argument_value_rule structures None part = value_rule structures part
argument_value_rule structures (Some type) part = used_rule structures part

-- ---- one operand: what it is to its operator, and the rule of the operator

-- `.` has a structure or union, `->` a pointer to one (6.5.2.3)
abbrev pub whole_usage : Access → Usage
whole_usage access.Dot = usage.Target
whole_usage access.Arrow = usage.Used true

abbrev pub selection_rule : List Structure → Pos → Access → List ℕ → Part → Ruled Part
selection_rule structures at access.Dot name part = dot_rule structures at name part
selection_rule structures at access.Arrow name part = arrow_rule structures at name part

-- `++`, `--`, `&` and `sizeof` have an operand that is not converted, any other operator a value (6.5.3)
abbrev pub prefix_usage : Prefix → Usage
prefix_usage prefix.PreInc = usage.Target
prefix_usage prefix.PreDec = usage.Target
prefix_usage prefix.AddressOf = usage.Target
prefix_usage prefix.SizeExpr = usage.Target
prefix_usage prefix.Deref = usage.Value
prefix_usage prefix.Plus = usage.Value
prefix_usage prefix.Minus = usage.Value
prefix_usage prefix.Flip = usage.Value
prefix_usage prefix.Not = usage.Value

abbrev pub prefixed_rule : List Structure → Pos → Prefix → Part → Ruled Part
prefixed_rule structures at prefix.PreInc part = prefix_rule structures at false part
prefixed_rule structures at prefix.PreDec part = prefix_rule structures at true part
prefixed_rule structures at prefix.AddressOf part = address_rule at part
prefixed_rule structures at prefix.SizeExpr part = size_of_rule structures at part
prefixed_rule structures at prefix.Deref part = deref_rule structures at part
prefixed_rule structures at prefix.Plus part = plus_rule part
prefixed_rule structures at prefix.Minus part = minus_rule at part
prefixed_rule structures at prefix.Flip part = flip_rule at part
prefixed_rule structures at prefix.Not part = not_rule at part

-- a cast to `void` uses no value (6.5.4)
abbrev pub cast_usage : CType → Usage
cast_usage type = cond (is_void type) usage.Unused usage.Value

abbrev pub cast_to_rule : Pos → CType → Part → Ruled Part
cast_to_rule at type part = cond (is_void type) (Fits part) (cast_rule at type part)

abbrev pub measure_rule : List Structure → Pos → Measure → CType → Ruled Part
measure_rule structures at measure.SizeType type = size_rule structures at type
measure_rule structures at measure.AlignType type = align_rule structures at type

abbrev pub is_decrement : Postfix → Bool
is_decrement postfix.PostInc = false
is_decrement postfix.PostDec = true

-- ---- two operands (6.5.5 to 6.5.14, 6.5.16, 6.5.17); `used` tells that the value of the whole is used

abbrev pub two_values : Usages
two_values = record { left = usage.Value; right = usage.Value }

abbrev pub infix_usages : (used : Bool) → Infix → Usages
infix_usages used (between.Arithmetic operator) = two_values
infix_usages used (between.Comparison comparison) = two_values
infix_usages used between.AndAlso = two_values
infix_usages used between.OrElse = two_values
infix_usages used between.Assign = record { left = usage.Target; right = usage.Used true }
infix_usages used (between.AssignOp operator) = record { left = usage.Target; right = usage.Value }
infix_usages used between.Comma = record { left = usage.Unused; right = usage.Used used }

-- what is chosen from has the use of the whole (6.5.15)
abbrev pub choice_usages : (used : Bool) → Usages
choice_usages used = record { left = usage.Used used; right = usage.Used used }
