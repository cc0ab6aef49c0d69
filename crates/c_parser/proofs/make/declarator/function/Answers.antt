-- The goals of `function` that are answered by hand.
use Rattle.std.proofs.Common.{◌∙◌, ap}
use Rattle.c_syntax.specs.View.{declarator_of}
use Rattle.c_syntax.proofs.SpelledLists.{function_seen}
use Rattle.c_parser.proofs.make.declarator.function.Goals as goal

pub returns-clause-tree : goal.returns-clause-tree
returns-clause-tree c =
    ap declarator_of c.in_ok-new.ensures.ok ∙ function_seen c.args.inner.node c.args.all.nodes c.args.variadic
