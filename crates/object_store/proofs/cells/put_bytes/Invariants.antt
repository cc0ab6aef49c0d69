-- The range is written up to `i`: the bytes.
use Rattle.std.proofs.Common.{◌≡◌, map, Some}
use lib.Seq.{paste}
use Rattle.object_store.specs.Steps.{stored_cell}
use Rattle.object_store.proofs.cells.put_bytes.Given as goal

abbrev pub invariant-loop-i : goal.invariant-loop-i
invariant-loop-i l = l.cells ≡ paste l.initial.cells l.at (map stored_cell (map Some l.bytes)) l.i
