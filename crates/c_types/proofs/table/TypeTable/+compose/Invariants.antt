-- The parts of a type have lower ids; the composites of the parameters so far are made.
use Rattle.std.proofs.Common.{◌+◌, ◌*◌, take}
use Rattle.c_types.specs.CType.{types_at, all_types}
use Rattle.c_types.specs.Composite.{all_composites, MakesTypes, AddsTypes}
use Rattle.c_types.proofs.table.TypeTable.+compose.Given as goal

abbrev pub decreases-compose : goal.decreases-compose
decreases-compose l = 3 * l.a.0 + 2

abbrev pub decreases-compose_functions : goal.decreases-compose_functions
decreases-compose_functions l = 3 * l.a.0 + 1

abbrev pub decreases-compose_parameters : goal.decreases-compose_parameters
decreases-compose_parameters l = 3 * l.a.0

abbrev pub invariant-compose_parameters-loop-i : goal.invariant-compose_parameters-loop-i
invariant-compose_parameters-loop-i l =
    MakesTypes l.initial.self l.self l.made.items
    (all_composites (types_at (all_types l.initial.self) (take l.i l.left.items))
    (types_at (all_types l.initial.self) (take l.i l.right.items)))
    × AddsTypes l.initial.self l.self
