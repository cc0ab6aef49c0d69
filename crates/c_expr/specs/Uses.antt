-- What becomes of an expression by its use, and of two expressions by their operator. The answers of the parts are
-- handed in.
use Rattle.std.specs.Prelude.{Bool, true, false, Option}
use Rattle.critical_table.specs.declared.pos.Pos.{Pos}
use Rattle.c_types.specs.CType.{CType}
use Rattle.c_core.specs.Tree.{Core}
use Rattle.c_syntax.specs.declared.operator.Infix.{Infix}
use Rattle.c_syntax.specs.declared.operator.Infix.TheVariants as between
use Rattle.c_scopes.specs.Env.{Env}
use Rattle.c_conversions.specs.Parts.{Part, value}
use Rattle.c_operator_rules.specs.Assignment.{assigned_rule, assign_rule, compound_rule}
use Rattle.c_operator_rules.specs.Binary.{binary_rule, and_rule, or_rule}
use Rattle.c_operator_rules.specs.Comparisons.{comparison_rule}
use Rattle.c_operator_rules.specs.Conditional.{comma_part}
use Rattle.c_expr_rules.specs.Uses.{used_rule, value_rule, test_rule, discard_rule}
use Rattle.c_type_parts.specs.Answers.{Answer, Gives, and_then, settle}
use Rattle.c_expr.specs.declared.usage.Usage.{Usage}
use Rattle.c_expr.specs.declared.usage.Usage.TheVariants as usage
use Rattle.c_expr.specs.declared.usage.Usages.{Usages}
use Rattle.c_expr.specs.Operands.{operator_of, comparison_of, argument_rule, argument_value_rule}

-- as a value, which may be void; the place is that of the expression
unfoldable pub as_used : Pos → Answer Part → Answer Part
as_used at part = and_then part (λ p env. settle at env (used_rule env.structures p))

-- as a value that is needed
unfoldable pub as_value : Pos → Answer Part → Answer Part
as_value at part = and_then part (λ p env. settle at env (value_rule env.structures p))

-- as a controlling expression, or the first operand of a conditional
unfoldable pub as_test : Pos → Answer Part → Answer Core
as_test at part = and_then part (λ p env. settle at env (test_rule env.structures p))

-- as an expression whose value is not used
unfoldable pub as_unused : Pos → Answer Part → Answer Core
as_unused at part = and_then part (λ p env. settle at env (discard_rule env.structures p))

-- as an argument, for the next parameter if one is left
unfoldable pub as_argument : Option CType → Bool → Pos → Answer Part → Answer Core
as_argument parameter variadic at part =
    and_then part (λ p env.
    and_then (settle at env (argument_value_rule env.structures parameter p)) (λ v env.
    settle at env (argument_rule env.structures parameter variadic v)))

-- an operand: its place, and its answer by whether its value is used and by what is in scope before it
pub record Side : Type 0 where
  pub at : Pos
  pub answer : Bool → Env → Answer Part

-- an operand by what it is to its operator
unfoldable pub side_as : Usage → Side → Env → Answer Part
side_as usage.Value side env = as_value side.at (side.answer true env)
side_as (usage.Used used) side env = as_used side.at (side.answer used env)
side_as usage.Target side env = side.answer true env
side_as usage.Unused side env =
    and_then (as_unused side.at (side.answer false env)) (λ core env. Gives (value core) env)

-- the left operand before the right one
unfoldable pub both : Usages → Side → Side → Env → Answer (Part × Part)
both usages left right env =
    and_then (side_as usages.left left env) (λ l env.
    and_then (side_as usages.right right env) (λ r env. Gives (l, r) env))

-- Two operands by their operator (6.5.5 to 6.5.14, 6.5.16, 6.5.17). What is assigned is converted at its own place.
unfoldable pub joined : Pos → Pos → Infix → Part → Part → Env → Answer Part
joined at right_at (between.Arithmetic operator) l r env =
    settle at env (binary_rule env.structures at (operator_of operator) l r)
joined at right_at (between.Comparison comparison) l r env =
    settle at env (comparison_rule at (comparison_of comparison) l r)
joined at right_at between.AndAlso l r env = settle at env (and_rule at l r)
joined at right_at between.OrElse l r env = settle at env (or_rule at l r)
joined at right_at between.Assign target v env =
    and_then (settle right_at env (assigned_rule env.structures target v)) (λ core env.
    settle at env (assign_rule env.structures at target core))
joined at right_at (between.AssignOp operator) target v env =
    settle at env (compound_rule env.structures at (operator_of operator) target v)
joined at right_at between.Comma l r env = Gives (comma_part at l.core r) env
