-- The parts are what they were before the left one was converted.
use Rattle.c_types.specs.CType.{CType}
use Rattle.c_core.specs.Tree.{Core}
use Rattle.c_conversions.specs.Parts.{Part}
use Rattle.c_conversions.proofs.Keeping.{id_there, core_there, type_stays, core_stays, part_stays, over}
use Rattle.c_operator_rules.specs.Conditional.{with_right}
use Rattle.c_operator_rules.proofs.conditional.chosen.Goals as goal

pub with_right-requires-clause-of : goal.with_right-requires-clause-of
with_right-requires-clause-of c = id_there c.in_ok-left.ensures c.args.at.0 c.requires.of

pub with_right-requires-clause-test : goal.with_right-requires-clause-test
with_right-requires-clause-test c = core_there c.in_ok-left.ensures c.args.test c.requires.test

pub with_right-requires-clause-right : goal.with_right-requires-clause-right
with_right-requires-clause-right c = core_there c.in_ok-left.ensures c.args.operands.right.core c.requires.right

pub returns : goal.returns
returns c =
    let made = c.in_ok-made.ensures in
    let left = c.in_ok-left.ensures in
    let of = type_stays left c.args.at.0 c.requires.of in
    let test = core_stays left c.args.test c.requires.test in
    let right = part_stays left c.args.operands.right c.requires.right in
    over (λ first (x : CType × Core × Part). with_right c.args.at.1 x.0 x.1 first x.2) left
    (λ i. (of i, test i, right i)) made
