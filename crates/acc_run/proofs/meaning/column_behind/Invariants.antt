-- The column is the one behind the calls so far.
use Rattle.std.proofs.Common.{◌≡◌, ◌+◌, length, take}
use Rattle.std.specs.List.{flat_map}
use Rattle.acc_run.specs.Program.{putchar_call}
use Rattle.acc_run.proofs.meaning.column_behind.Given as goal

-- the column behind the calls so far
abbrev pub invariant-loop-argument : goal.invariant-loop-argument
invariant-loop-argument l = l.column ≡ l.fn.column + length (flat_map putchar_call (take l.argument-index l.outputs))
