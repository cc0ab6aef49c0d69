-- The range is written up to `i`: the bytes that the other range held at first.
use Rattle.std.proofs.Common.{◌≡◌, map}
use lib.Seq.{paste}
use Rattle.object_store.specs.Steps.{stored_cell, range}
use Rattle.object_store.proofs.cells.move_down.Given as goal

abbrev pub invariant-loop-i : goal.invariant-loop-i
invariant-loop-i l =
    l.cells ≡ paste l.initial.cells l.to (map stored_cell (map (λ c. c.byte) (range l.initial.cells l.from l.len))) l.i
