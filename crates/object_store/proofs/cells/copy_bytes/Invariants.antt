-- The range is written up to `i`: the bytes of the source, in cells that may be stored to.
use Rattle.std.proofs.Common.{◌≡◌, map}
use lib.Seq.{paste}
use Rattle.object_store.specs.Steps.{stored_cell}
use Rattle.object_store.proofs.cells.copy_bytes.Given as goal

abbrev pub invariant-loop-i : goal.invariant-loop-i
invariant-loop-i l = l.cells ≡ paste l.initial.cells l.at (map stored_cell (map (λ c. c.byte) l.source)) l.i
