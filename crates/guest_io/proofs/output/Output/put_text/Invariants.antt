-- The first characters are written, and no fault was counted.
use Rattle.std.proofs.Common.{◌≡◌, take}
use Rattle.guest_io.specs.Sights.{written_of}
use Rattle.guest_io.specs.Streams.{Adds}
use Rattle.guest_io.specs.Texts.{text_of}
use Rattle.guest_io.proofs.output.Output.put_text.Given as goal

abbrev pub invariant-loop-k : goal.invariant-loop-k
invariant-loop-k g l = record {
  faults : g.O.Sink.faults l.self.sink ≡ g.O.Sink.faults l.fn.self.sink;
  added : Adds (written_of g.O.Sink.written l.fn.self) (written_of g.O.Sink.written l.self)
      (take l.k (text_of l.store l.place));
}
