-- The goals of `measure` that are answered by hand.
use Rattle.std.proofs.Common.{◌∙◌, ap}
use Rattle.c_syntax.specs.View.{expr_of}
use Rattle.c_syntax.proofs.SpelledLists.{type_measure}
use Rattle.c_parser.proofs.make.primary.measure.Goals as goal

pub returns-clause-tree : goal.returns-clause-tree
returns-clause-tree c = ap expr_of c.in_ok-new.ensures.ok
    ∙ type_measure c.args.pos c.args.operator c.args.type_name.node
