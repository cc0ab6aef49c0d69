-- The type so far is one of the table, and so is `void`.
use Rattle.std.proofs.Common.{◌<◌, ◌≤◌}
use Rattle.c_types.specs.Types.{count_of}
use Rattle.c_types.proofs.tests.hostile.takers.Given as goal

abbrev pub invariant-loop-line : goal.invariant-loop-line
invariant-loop-line l =
    (l.id.0 < count_of l.table) × (l.void.0 < count_of l.table) × (count_of l.fn.table ≤ count_of l.table)
