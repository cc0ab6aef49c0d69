-- The range is written up to `i`: the one byte.
use Rattle.std.proofs.Common.{◌≡◌, map, Some, replicate}
use lib.Seq.{paste}
use Rattle.object_store.specs.Steps.{stored_cell}
use Rattle.object_store.proofs.cells.fill_byte.Given as goal

abbrev pub invariant-loop-i : goal.invariant-loop-i
invariant-loop-i l = l.cells ≡ paste l.initial.cells l.at (map stored_cell (replicate l.len (Some l.byte))) l.i
