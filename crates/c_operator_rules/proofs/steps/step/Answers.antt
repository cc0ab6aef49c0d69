-- The place is what it was before the type was made.
use Rattle.c_core.specs.Tree.{At, Postfix}
use Rattle.c_conversions.specs.Parts.{value}
use Rattle.c_conversions.proofs.Keeping.{core_there, core_stays, over}
use Rattle.c_operator_rules.proofs.steps.step.Goals as goal

pub stepped-requires-clause-place : goal.stepped-requires-clause-place
stepped-requires-clause-place c = core_there c.in_ok-of.ensures c.args.place c.requires

pub returns : goal.returns
returns c =
    over (λ type x. value (At type c.args.pos (Postfix c.args.change x))) c.in_ok-of.ensures
    (core_stays c.in_ok-of.ensures c.args.place c.requires) c.in_ok-made.ensures
