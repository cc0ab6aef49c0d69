-- The goals of `cast` that are answered by hand.
use Rattle.std.proofs.Common.{◌∙◌, ap}
use Rattle.c_syntax.specs.View.{expr_of}
use Rattle.c_syntax.proofs.SpelledLists.{casts}
use Rattle.c_parser.proofs.make.primary.cast.Goals as goal

pub returns-clause-tree : goal.returns-clause-tree
returns-clause-tree c = ap expr_of c.in_ok-new.ensures.ok ∙ casts c.args.pos c.args.type_name.node c.args.operand.node
