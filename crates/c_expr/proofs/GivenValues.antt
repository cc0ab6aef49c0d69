-- The value of one enumerator: the next one, or that of its expression.
use Rattle.std.proofs.Common.{◌≡◌, ◌∙◌, List, ap, refl, true}
use Rattle.std.specs.Prelude.{ℤ, Option, Some, Result, Ok, Err}
use Rattle.critical_table.specs.declared.pos.Pos.{Pos}
use Rattle.c_types.specs.Types.{Types}
use Rattle.c_core.specs.Constant.{constant_of}
use Rattle.c_core.specs.declared.fault.TypeFault.{TypeFault}
use Rattle.c_syntax.specs.Tree.{Expr, Maybe, With, Without}
use Rattle.c_scopes.specs.Clauses.{Settles}
use Rattle.c_scopes.specs.Env.{Env, ScopesIn, env_of}
use Rattle.c_scopes.specs.Ruled.{Ruled}
use Rattle.c_scopes.specs.Scopes.{Scope}
use Rattle.c_types.proofs.Kept.{grows_own}
use Rattle.c_conversions.specs.declared.operand.Operand.{Operand}
use Rattle.c_conversions.specs.Parts.{Part, PartIn, part_of}
use Rattle.c_type_rules.specs.Enumerators.{given_value_rule}
use Rattle.c_type_parts.specs.Answers.{Answer, Gives, and_then, settle}
use Rattle.c_type_parts.specs.Clauses.{AnswersValue, Given, Refused}
use Rattle.c_type_parts.specs.Shapes.{place_of}
use Rattle.c_type_parts.proofs.Steps.{breaks_refused_at, fits_given, given_as, refused_as, refused_later}
use Rattle.c_type_parts.proofs.Steps.{refused_then, then_given}
use Rattle.c_expr.specs.Typing.{enumerator_value, valued}

-- without an expression
pub value_next : (given : Maybe) (next : ℤ) (scopes : List Scope) (types : Types) → given ≡ Without
    → ScopesIn types scopes
    → Given (enumerator_value given next (env_of scopes types)) (Some next) (λ t. Unit {0}) types scopes types
unfolding enumerator_value
value_next given next scopes types e here = record {
  is = ap (λ (none : Maybe). enumerator_value none next (env_of scopes types)) e;
  is_in = tt;
  here = here;
  grown = grows_own types;
}

module _ (given : Maybe) (expr : Expr) (next : ℤ) (old : Types) (scopes : List Scope) (e : given ≡ With expr) where
  abbrev whole : Answer (Option ℤ)
  whole = enumerator_value given next (env_of scopes old)

  abbrev behind : Part → Env → Answer (Option ℤ)
  behind v env = settle (place_of expr) env (given_value_rule (constant_of v.core))

  named : whole ≡ and_then (valued expr (env_of scopes old)) behind
  unfolding enumerator_value
  named = ap (λ (some : Maybe). enumerator_value some next (env_of scopes old)) e

  -- its expression is refused
  pub expression_refused : (fault : TypeFault) → Refused (valued expr (env_of scopes old)) fault
      → Refused whole fault
  expression_refused fault refused =
      refused_as whole (and_then (valued expr (env_of scopes old)) behind) fault named
      (refused_then (valued expr (env_of scopes old)) behind fault refused)

  -- it has a value, as its rule says
  module _ (operand : Operand) (new : Types) (after : List Scope) (at : Pos) (place : at ≡ place_of expr)
      (typed : Given (valued expr (env_of scopes old)) (part_of new operand) (λ t. PartIn t operand) old after new)
    where
      abbrev rule : Ruled (Option ℤ)
      rule = given_value_rule (constant_of (part_of new operand).core)

      pub value_answers : (result : Result (Option ℤ) TypeFault) → Settles rule at result
          → AnswersValue whole old after new result
      value_answers (Ok value) fits = record {
        is = named ∙ then_given (valued expr (env_of scopes old)) (part_of new operand) (env_of after new) behind
            typed.is
            ∙ fits_given (place_of expr) (env_of after new) rule value fits;
        is_in = tt;
        here = typed.here;
        grown = typed.grown;
      }
      value_answers (Err fault) breaks =
          refused_as whole (and_then (valued expr (env_of scopes old)) behind) fault named
          (refused_later (valued expr (env_of scopes old)) behind (part_of new operand) (λ t. PartIn t operand) old new
          after fault typed (breaks_refused_at (place_of expr) at (env_of after new) rule fault place breaks))
