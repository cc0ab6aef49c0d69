-- The parts are what they were before the right one was converted.
use Rattle.c_types.specs.CType.{CType}
use Rattle.c_core.specs.Tree.{Core, At, Cond}
use Rattle.c_conversions.specs.Parts.{value}
use Rattle.c_conversions.proofs.Keeping.{id_there, core_there, type_stays, core_stays, over}
use Rattle.c_operator_rules.proofs.conditional.with_right.Goals as goal

pub choice-requires-clause-of : goal.choice-requires-clause-of
choice-requires-clause-of c = id_there c.in_ok-right.ensures c.args.at.0 c.requires.of

pub choice-requires-clause-test : goal.choice-requires-clause-test
choice-requires-clause-test c = core_there c.in_ok-right.ensures c.args.cores.0 c.requires.test

pub choice-requires-clause-left : goal.choice-requires-clause-left
choice-requires-clause-left c = core_there c.in_ok-right.ensures c.args.cores.1 c.requires.left

pub returns : goal.returns
returns c =
    let made = c.in_ok-made.ensures in
    let right = c.in_ok-right.ensures in
    let of = type_stays right c.args.at.0 c.requires.of in
    let test = core_stays right c.args.cores.0 c.requires.test in
    let left = core_stays right c.args.cores.1 c.requires.left in
    over (λ other (x : CType × Core × Core). value (At x.0 c.args.at.1 (Cond x.1 x.2 other))) right
    (λ i. (of i, test i, left i)) made
