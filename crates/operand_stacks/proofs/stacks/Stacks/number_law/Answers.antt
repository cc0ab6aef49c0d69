-- By the node of each.
use Rattle.operand_stacks.proofs.StackNumbers.{one_stack_in}
use Rattle.operand_stacks.proofs.stacks.Stacks.number_law.Goals as goal

pub returns : goal.returns
returns c = one_stack_in c.self.inside.nodes.items c.self.inside.above.items c.self.invariant c.args.self.now
    c.self.view_is c.args.one c.args.other c.requires.one c.requires.other
