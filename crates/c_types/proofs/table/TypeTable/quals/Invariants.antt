-- The elements have the qualifiers of the array.
use Rattle.std.proofs.Common.{◌≡◌, ◌<◌}
use Rattle.c_types.specs.Types.{count_of}
use Rattle.c_types.specs.CType.{type_of, quals_of}
use Rattle.c_types.proofs.table.TypeTable.quals.Given as goal

abbrev pub invariant-loop-of : goal.invariant-loop-of
invariant-loop-of l = (l.at.0 < count_of l.self) × (quals_of (type_of l.self l.at) ≡ quals_of (type_of l.self l.fn.id))

abbrev pub decreases-loop-of : goal.decreases-loop-of
decreases-loop-of l = l.at.0
