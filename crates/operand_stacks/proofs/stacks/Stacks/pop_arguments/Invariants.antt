-- What is left of the arguments leaves what all leave.
use Rattle.std.proofs.Common.{◌≡◌, ◌<◌, length, reverse}
use Rattle.operand_stacks.specs.Stacks.{stack_at}
use Rattle.vm_code.specs.OperandKinds.{pop_forms}
use Rattle.operand_stacks.proofs.stacks.Stacks.pop_arguments.Given as goal

abbrev pub invariant-loop-form : goal.invariant-loop-form
invariant-loop-form l = record {
  left : pop_forms (reverse l.others) (stack_at l.self l.rest) ≡ pop_forms (reverse l.forms) (stack_at l.self l.stack);
  within : l.rest < length l.self;
}

abbrev pub decreases-loop-form : goal.decreases-loop-form
decreases-loop-form l = length l.others
