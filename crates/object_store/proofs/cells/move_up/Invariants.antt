-- The range is written from its end down to `left`: the bytes that the other range held at first.
use Rattle.std.proofs.Common.{◌≡◌, ◌≤◌, map}
use Rattle.object_store.specs.Steps.{stored_cell, range}
use Rattle.object_store.proofs.CellLists.{paste_back}
use Rattle.object_store.proofs.cells.move_up.Given as goal

abbrev pub invariant-loop-left : goal.invariant-loop-left
invariant-loop-left l = (l.left ≤ l.len) × (
    l.cells ≡ paste_back l.initial.cells l.to
    (map stored_cell (map (λ c. c.byte) (range l.initial.cells l.from l.len))) l.left)

abbrev pub decreases-loop-left : goal.decreases-loop-left
decreases-loop-left l = l.left
