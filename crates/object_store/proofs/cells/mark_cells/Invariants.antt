-- The range is written up to `i`: the cells with the mark.
use Rattle.std.proofs.Common.{◌≡◌, map}
use lib.Seq.{paste}
use Rattle.object_store.specs.Steps.{mark_cell, range}
use Rattle.object_store.proofs.cells.mark_cells.Given as goal

abbrev pub invariant-loop-i : goal.invariant-loop-i
invariant-loop-i l =
    l.cells ≡ paste l.initial.cells l.at (map (mark_cell l.mark) (range l.initial.cells l.at l.len)) l.i
