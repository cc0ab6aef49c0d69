-- The parts of a type have lower ids; the parameters so far are the same.
use Rattle.std.proofs.Common.{◌≡◌, ◌+◌, ◌*◌, drop}
use Rattle.c_types.specs.CType.{types_at, all_types}
use Rattle.c_decl_rules.specs.SameType.{all_same}
use Rattle.c_decl_rules.proofs.same_type.+same.Given as goal

abbrev pub decreases-same : goal.decreases-same
decreases-same l = 3 * l.a.0 + 2

abbrev pub decreases-same_functions : goal.decreases-same_functions
decreases-same_functions l = 3 * l.a.0 + 1

abbrev pub decreases-same_parameters : goal.decreases-same_parameters
decreases-same_parameters l = 3 * l.a.0

abbrev pub invariant-same_parameters-loop-i : goal.invariant-same_parameters-loop-i
invariant-same_parameters-loop-i l =
    all_same (types_at (all_types l.types) l.left) (types_at (all_types l.types) l.right)
    ≡ all_same (types_at (all_types l.types) (drop l.i l.left)) (types_at (all_types l.types) (drop l.i l.right))
