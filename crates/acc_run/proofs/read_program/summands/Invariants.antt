-- The summands that were read, and what is left, are the bytes; each summand makes what is left shorter.
use Rattle.std.proofs.Common.{◌≡◌, ◌≤◌, ◌++◌, length}
use Rattle.std.specs.List.{flat_map, All}
use Rattle.acc_run.specs.Program.{greatest_constant, plus_term}
use Rattle.acc_run.proofs.read_program.summands.Given as goal
use Rattle.acc_run.specs.PartEnds.{EndsNumeral}

abbrev pub invariant-loop-summand : goal.invariant-loop-summand
invariant-loop-summand l = record {
  spelled : l.bytes ≡ flat_map plus_term l.summands.items ++ l.rest;
  fit : All (λ constant. constant ≤ greatest_constant) l.summands.items;
  ends : EndsNumeral l.rest;
}

abbrev pub decreases-loop-summand : goal.decreases-loop-summand
decreases-loop-summand l = length l.rest
