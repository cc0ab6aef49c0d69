-- What is written and what is left are all the parts.
use Rattle.std.proofs.Common.{◌≡◌, ℕ, List, ◌++◌, length}
use Rattle.vm_code.specs.Writing.{all_written, Told}
use Rattle.vm_code.specs.Listing.{parts}
use Rattle.vm_code.proofs.line_parts.put_parts.Given as goal

abbrev pub invariant-loop-left : goal.invariant-loop-left
invariant-loop-left g l = (done : List ℕ)
    × Told (g.O.Sink.faults l.fn.out) (g.O.Sink.faults l.out) (g.O.Sink.written l.fn.out) (g.O.Sink.written l.out)
    (g.O.Sink.has_room l.fn.out) (g.O.Sink.has_room l.out) all_written done
    × (done ++ parts g.T.Part.text l.left ≡ parts g.T.Part.text l.items)

abbrev pub decreases-loop-left : goal.decreases-loop-left
decreases-loop-left g l = length l.left
