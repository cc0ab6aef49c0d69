-- The first bytes are written, and no fault was counted.
use Rattle.std.proofs.Common.{◌≡◌, take}
use Rattle.guest_io.specs.Sights.{written_of}
use Rattle.guest_io.specs.Streams.{Adds}
use Rattle.guest_io.proofs.output.Output.put_all.Given as goal

abbrev pub invariant-loop-byte : goal.invariant-loop-byte
invariant-loop-byte g l = record {
  faults : g.O.Sink.faults l.self.sink ≡ g.O.Sink.faults l.fn.self.sink;
  added : Adds (written_of g.O.Sink.written l.fn.self) (written_of g.O.Sink.written l.self)
      (take l.byte-index l.bytes);
}
