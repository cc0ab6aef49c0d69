-- What is written and what is left are all the lines.
use Rattle.std.proofs.Common.{◌≡◌, ℕ, ◌+◌, ◌<◌, ◌^◌, List, ◌++◌, length}
use Rattle.vm_code.specs.Writing.{all_written, Told}
use Rattle.vm_code.specs.Listing.{lines}
use Rattle.vm_code.proofs.code_listing.list_all.Given as goal

abbrev pub invariant-loop-left : goal.invariant-loop-left
invariant-loop-left g l = record {
  bound : l.number + length l.left < 2 ^ 64;
  written : (done : List ℕ)
      × Told (g.O.Sink.faults l.fn.out) (g.O.Sink.faults l.out) (g.O.Sink.written l.fn.out) (g.O.Sink.written l.out)
      (g.O.Sink.has_room l.fn.out) (g.O.Sink.has_room l.out) all_written done
      × (done ++ lines g.T.Listed.line l.number l.left ≡ lines g.T.Listed.line l.first l.items);
}

abbrev pub decreases-loop-left : goal.decreases-loop-left
decreases-loop-left g l = length l.left
