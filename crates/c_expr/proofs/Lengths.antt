-- The length of an array by its expression.
use Rattle.std.proofs.Common.{◌≡◌, ◌∙◌, ◌<◌, ap, sym, subst, refl, ℕ, ℤ, pos, Bool, List, [], ◌∷◌, true, false, arith}
use Rattle.std.proofs.lemmas.Int.{ints}
use Rattle.std.specs.Prelude.{◌^◌, ◌&&◌, Option, Some, IfSome, Result, Ok, Err, int_lt, negsuc, unsigned_abs}
use Rattle.critical_table.specs.declared.pos.Pos.{Pos}
use Rattle.c_syntax.specs.Tree.{Expr, With}
use Rattle.c_types.specs.Types.{Types}
use Rattle.c_core.specs.declared.fault.ConstFault.{ConstFault}
use Rattle.c_core.specs.declared.fault.ConstFault.TheVariants.{NotConstant, Value}
use Rattle.c_core.specs.declared.fault.TypeFault.{TypeFault}
use Rattle.c_core.specs.Constant.{constant_of}
use Rattle.c_core.specs.View.{core_of}
use Rattle.c_scopes.specs.Clauses.{BreaksAt}
use Rattle.c_scopes.specs.Env.{Env, env_of}
use Rattle.c_scopes.specs.Ruled.{Ruled, Fits, ruled}
use Rattle.c_scopes.specs.Scopes.{Scope}
use Rattle.c_conversions.specs.declared.operand.Operand.{Operand}
use Rattle.c_conversions.specs.Parts.{Part, part_of, PartIn}
use Rattle.c_type_rules.specs.Arrays.{length_rule}
use Rattle.c_type_parts.specs.Answers.{Answer, Gives, and_then, settle}
use Rattle.c_type_parts.specs.Clauses.{Given, Refused}
use Rattle.c_type_parts.specs.Shapes.{place_of}
use Rattle.c_type_parts.proofs.Steps.{breaks_refused_at, fits_given, refused_as, refused_later, refused_then}
use Rattle.c_type_parts.proofs.Steps.{then_given}
use Rattle.c_expr.specs.Typing.{array_length, typed}
use Rattle.c_expr.specs.Uses.{as_used}

-- ---- a length is above 0

-- an integer that is above 0
positive : (n : ℤ) → int_lt (pos 0) n ≡ true → 0 < unsigned_abs n
positive (pos n) h = grind (arith, ints)
positive (negsuc n) h = cc

-- of two tests that hold, the first does
first_holds : (a b : Bool) → a && b ≡ true → a ≡ true
first_holds true b e = refl
first_holds false b e = absurd (cc)

-- a rule of one test that fits
test_fits : (holds : Bool) (m n : ℕ) → ruled ((9, holds) ∷ []) m ≡ Fits n → (holds ≡ true) × (m ≡ n)
test_fits true m n e = (refl, cc)
test_fits false m n e = absurd (cc)

-- so the rule of lengths gives none but those above 0
fits_above : (value : Result ℤ ConstFault) (n : ℕ) → length_rule value ≡ Fits n → 0 < n
fits_above (Ok v) n e =
    let so = test_fits (int_lt (pos 0) v && int_lt v (pos (2 ^ 64))) (unsigned_abs v) n e in
    subst (λ m. 0 < m) so.1 (positive v (first_holds (int_lt (pos 0) v) (int_lt v (pos (2 ^ 64))) so.0))
fits_above (Err NotConstant) n e = absurd (cc)
fits_above (Err Value) n e = absurd (cc)

-- ---- the expression, and then its rule

module _ (expr : Expr) (env : Env) (operand : Operand) (old mid : Types) (before : List Scope)
    (value : Result ℤ ConstFault)
    (given : Given (as_used (place_of expr) (typed true expr env)) (part_of mid operand) (λ t. PartIn t operand) old
    before mid) (known : value ≡ constant_of (core_of mid operand.core)) where
  abbrev part : Answer Part
  part = as_used (place_of expr) (typed true expr env)

  abbrev some : ℕ → Env → Answer (Option ℕ)
  some n env = Gives (Some n) env

  abbrev next : Part → Env → Answer (Option ℕ)
  next v env = and_then (settle (place_of expr) env (length_rule (constant_of v.core))) some

  -- the walk over a length that is given
  array_length_of : array_length (With expr) env ≡ and_then part next
  unfolding array_length
  array_length_of = refl

  abbrev ruling : Answer ℕ
  ruling = settle (place_of expr) (env_of before mid) (length_rule (constant_of (core_of mid operand.core)))

  -- the length fits
  pub length_given : (n : ℕ) → length_rule value ≡ Fits n
      → Given (array_length (With expr) env) (Some n) (λ t. IfSome (Some n) (λ n. 0 < n)) old before mid
  length_given n fits = record {
    is = array_length_of ∙ then_given part (part_of mid operand) (env_of before mid) next given.is
        ∙ then_given ruling n (env_of before mid) some
        (fits_given (place_of expr) (env_of before mid) (length_rule (constant_of (core_of mid operand.core))) n
        (ap length_rule (sym known) ∙ fits));
    is_in = fits_above value n fits;
    here = given.here;
    grown = given.grown;
  }

  -- it breaks the rule
  pub length_broken : (at : Pos) (fault : TypeFault) → at ≡ place_of expr → BreaksAt (length_rule value) at fault
      → Refused (array_length (With expr) env) fault
  length_broken at fault same breaks =
      refused_as (array_length (With expr) env) (and_then part next) fault array_length_of
      (refused_later part next (part_of mid operand) (λ t. PartIn t operand) old mid before fault given
      (refused_then ruling some fault
      (breaks_refused_at (place_of expr) at (env_of before mid) (length_rule (constant_of (core_of mid operand.core)))
      fault same (subst (λ (value : Result ℤ ConstFault). BreaksAt (length_rule value) at fault) known breaks))))

-- an expression that is refused
pub length_refused : (expr : Expr) (env : Env) (fault : TypeFault)
    → Refused (as_used (place_of expr) (typed true expr env)) fault → Refused (array_length (With expr) env) fault
unfolding array_length
length_refused expr env fault refused =
    refused_then (as_used (place_of expr) (typed true expr env)) (λ v env.
    and_then (settle (place_of expr) env (length_rule (constant_of v.core))) (λ n env. Gives (Some n) env)) fault
    refused
