-- The goals of `braces` that are answered by hand.
use Rattle.std.proofs.Common.{ap, ◌∙◌}
use Rattle.c_syntax.specs.ViewUnit.{initializer_of}
use Rattle.c_syntax.proofs.SpelledListsUnit.{built_braces}
use Rattle.c_parser.proofs.make.initializer.braces.Goals as goal

pub returns : goal.returns
returns c = ap initializer_of c.in_ok-new.ensures.ok ∙ built_braces c.args.pos c.args.all c.args.comma
