-- The parts of a type have lower ids; the parameters so far agree.
use Rattle.std.proofs.Common.{◌≡◌, ◌+◌, ◌*◌, drop}
use Rattle.c_types.specs.CType.{types_at, all_types}
use Rattle.c_types.specs.Compatible.{all_agree}
use Rattle.c_types.proofs.table.TypeTable.+agree.Given as goal

abbrev pub decreases-agree : goal.decreases-agree
decreases-agree l = 3 * l.a.0 + 2

abbrev pub decreases-functions_agree : goal.decreases-functions_agree
decreases-functions_agree l = 3 * l.a.0 + 1

abbrev pub decreases-parameters_agree : goal.decreases-parameters_agree
decreases-parameters_agree l = 3 * l.a.0

abbrev pub invariant-parameters_agree-loop-i : goal.invariant-parameters_agree-loop-i
invariant-parameters_agree-loop-i l =
    all_agree (types_at (all_types l.self) l.left) (types_at (all_types l.self) l.right)
    ≡ all_agree (types_at (all_types l.self) (drop l.i l.left)) (types_at (all_types l.self) (drop l.i l.right))
