-- So many characters were read, and the place behind them is a pointer's.
use Rattle.std.proofs.Common.{◌+◌, ◌-◌, ◌<◌, ◌^◌}
use Rattle.lib_defs.specs.Units.{rsize_max}
use Rattle.guest_io.proofs.Reading.{SoFar}
use Rattle.guest_io.proofs.text.text_length.Given as goal

abbrev pub invariant-loop-n : goal.invariant-loop-n
invariant-loop-n l = record {
  so_far : SoFar l.store l.place (rsize_max + 1) l.n;
  fits : l.place.offset + l.n < 2 ^ 32;
}

abbrev pub decreases-loop-n : goal.decreases-loop-n
decreases-loop-n l = 16777217 - l.n
