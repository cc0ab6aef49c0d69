-- The goals of `enumeration` that are answered by hand.
use Rattle.std.proofs.Common.{ap, ◌∙◌}
use Rattle.c_syntax.specs.View.{specifier_of}
use Rattle.c_syntax.proofs.SpelledLists.{enum_tree}
use Rattle.c_parser.proofs.make.specifier.enumeration.Goals as goal

pub returns-clause-tree : goal.returns-clause-tree
returns-clause-tree c = ap specifier_of (c.in_ok-new.ensures.ok)
    ∙ enum_tree c.args.pos c.args.tag c.args.all.nodes c.args.comma
