-- A front of the bytes is written, no fault was counted, and there is room for the rest; the rest gets shorter.
use Rattle.std.proofs.Common.{length, ◌-◌, ℕ, ◌+◌, ◌≡◌, ◌≤◌, take}
use Rattle.acc_io.specs.Bytes.{Gains}
use Rattle.acc_io.proofs.writing.write_all.Given as goal

abbrev pub invariant-loop-done : goal.invariant-loop-done
invariant-loop-done g l = record {
  within : l.done ≤ length l.bytes;
  faults : g.O.Sink.faults l.sink ≡ g.O.Sink.faults l.fn.sink;
  written : Gains (g.O.Sink.written l.fn.sink) (g.O.Sink.written l.sink) (take l.done l.bytes);
  room : (room : ℕ) → g.O.Sink.has_room l.fn.sink (length l.bytes + room)
      → g.O.Sink.has_room l.sink (length l.bytes - l.done + room);
}

abbrev pub decreases-loop-done : goal.decreases-loop-done
decreases-loop-done g l = length l.bytes - l.done
