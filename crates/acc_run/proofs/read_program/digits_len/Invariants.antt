-- All bytes before this one are digits.
use Rattle.std.proofs.Common.{◌≡◌, true, take}
use Rattle.std.specs.Str.{all_ascii_digits}
use Rattle.acc_run.proofs.read_program.digits_len.Given as goal

-- digits so far
abbrev pub invariant-loop-index : goal.invariant-loop-index
invariant-loop-index l = all_ascii_digits (take l.index l.bytes) ≡ true
