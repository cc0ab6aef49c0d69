-- Place and number are what they were before the type was made.
use Rattle.c_core.specs.Tree.{Core, At, Update}
use Rattle.c_conversions.specs.Parts.{value}
use Rattle.c_conversions.proofs.Keeping.{core_there, core_stays, over}
use Rattle.c_operator_rules.proofs.steps.update.Goals as goal

pub join-requires-clause-left : goal.join-requires-clause-left
join-requires-clause-left c = core_there c.in_ok-of.ensures c.args.cores.0 c.requires.place

pub join-requires-clause-right : goal.join-requires-clause-right
join-requires-clause-right c = core_there c.in_ok-of.ensures c.args.cores.1 c.requires.core

pub returns : goal.returns
returns c =
    let place = core_stays c.in_ok-of.ensures c.args.cores.0 c.requires.place in
    let core = core_stays c.in_ok-of.ensures c.args.cores.1 c.requires.core in
    over (λ type (x : Core × Core). value (At type c.args.pos (Update c.args.change x.0 x.1))) c.in_ok-of.ensures
    (λ i. (place i, core i)) c.in_ok-made.ensures
