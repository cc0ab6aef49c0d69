-- Place and value are what they were before the type was made.
use Rattle.std.proofs.Common.{List}
use Rattle.c_types.specs.Structures.{Structure}
use Rattle.c_core.specs.Tree.{Core}
use Rattle.c_conversions.proofs.Keeping.{core_there, core_stays, over}
use Rattle.c_operator_rules.specs.Assignment.{stored}
use Rattle.c_operator_rules.proofs.assignment.assignment.Goals as goal

pub stored-requires-clause-place : goal.stored-requires-clause-place
stored-requires-clause-place c = core_there c.in_ok-of.ensures c.args.place c.requires.place

pub stored-requires-clause-core : goal.stored-requires-clause-core
stored-requires-clause-core c = core_there c.in_ok-of.ensures c.args.core c.requires.core

pub returns : goal.returns
returns c =
    let place = core_stays c.in_ok-of.ensures c.args.place c.requires.place in
    let core = core_stays c.in_ok-of.ensures c.args.core c.requires.core in
    over (λ type (x : List Structure × Core × Core). stored x.0 c.args.pos type x.1 x.2) c.in_ok-of.ensures
    (λ i. (c.in_ok-of.ensures.kept.structures i, place i, core i)) c.in_ok-made.ensures
