-- By the node of the stack.
use Rattle.std.proofs.Common.{ap, ◌∙◌}
use Rattle.operand_stacks.specs.Stacks.{node_at}
use Rattle.operand_stacks.proofs.StackNumbers.{top_in, below_in}
use Rattle.operand_stacks.proofs.stacks.Stacks.top.Goals as goal

pub returns-clause-is : goal.returns-clause-is
returns-clause-is c = top_in c.self.inside.nodes.items c.self.inside.above.items c.self.invariant c.args.self.now
    c.self.view_is c.args.stack c.node_at.result
    (c.node_at.ensures ∙ ap (λ nodes. node_at nodes c.args.stack) c.deref.ensures.value)

pub returns-clause-within : goal.returns-clause-within
returns-clause-within c = below_in c.self.inside.nodes.items c.self.inside.above.items c.self.invariant c.args.self.now
    c.self.view_is c.args.stack c.node_at.result
    (c.node_at.ensures ∙ ap (λ nodes. node_at nodes c.args.stack) c.deref.ensures.value)
