-- The goals of `call` that are answered by hand.
use Rattle.std.proofs.Common.{◌∙◌, ap}
use Rattle.c_syntax.specs.View.{expr_of}
use Rattle.c_syntax.proofs.SpelledLists.{call_of}
use Rattle.c_parser.proofs.make.operator.call.Goals as goal

pub returns-clause-tree : goal.returns-clause-tree
returns-clause-tree c =
    ap expr_of c.in_ok-new.ensures.ok ∙ call_of c.args.pos c.args.function.node c.args.arguments.nodes
