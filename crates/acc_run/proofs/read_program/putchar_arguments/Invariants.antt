-- The calls that were read, and what is left, are the bytes; each call makes what is left shorter.
use Rattle.std.proofs.Common.{◌≡◌, ◌≤◌, ◌++◌, length}
use Rattle.std.specs.List.{flat_map, All}
use Rattle.acc_run.specs.Program.{greatest_constant, putchar_call}
use Rattle.acc_run.proofs.read_program.putchar_arguments.Given as goal

abbrev pub invariant-loop-argument : goal.invariant-loop-argument
invariant-loop-argument l = record {
  spelled : l.bytes ≡ flat_map putchar_call l.arguments.items ++ l.rest;
  fit : All (λ constant. constant ≤ greatest_constant) l.arguments.items;
}

abbrev pub decreases-loop-argument : goal.decreases-loop-argument
decreases-loop-argument l = length l.rest
