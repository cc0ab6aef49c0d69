-- The goals of `compound` that are answered by hand.
use Rattle.std.proofs.Common.{ap, ◌∙◌}
use Rattle.c_syntax.specs.View.{specifier_of}
use Rattle.c_syntax.proofs.SpelledLists.{compound_tree}
use Rattle.c_parser.proofs.make.specifier.compound.Goals as goal

pub returns-clause-tree : goal.returns-clause-tree
returns-clause-tree c = ap specifier_of (c.in_ok-new.ensures.ok)
    ∙ compound_tree c.args.pos c.args.word c.args.tag c.args.all.nodes
