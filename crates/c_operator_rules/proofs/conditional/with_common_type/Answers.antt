-- The parts are what they were before the type was made.
use Rattle.c_core.specs.Tree.{Core}
use Rattle.c_conversions.specs.Parts.{Part}
use Rattle.c_conversions.proofs.Keeping.{core_there, core_stays, part_stays, over}
use Rattle.c_operator_rules.specs.Conditional.{chosen}
use Rattle.c_operator_rules.proofs.conditional.with_common_type.Goals as goal

pub chosen-requires-clause-test : goal.chosen-requires-clause-test
chosen-requires-clause-test c = core_there c.in_ok-of.ensures c.args.test c.requires.test

pub chosen-requires-clause-left : goal.chosen-requires-clause-left
chosen-requires-clause-left c = core_there c.in_ok-of.ensures c.args.operands.left.core c.requires.left

pub chosen-requires-clause-right : goal.chosen-requires-clause-right
chosen-requires-clause-right c = core_there c.in_ok-of.ensures c.args.operands.right.core c.requires.right

pub returns : goal.returns
returns c =
    let made = c.in_ok-made.ensures in
    let of = c.in_ok-of.ensures in
    let test = core_stays of c.args.test c.requires.test in
    let left = part_stays of c.args.operands.left c.requires.left in
    let right = part_stays of c.args.operands.right c.requires.right in
    over (λ type (x : Core × Part × Part). chosen c.args.pos type x.0 x.1 x.2) of (λ i. (test i, left i, right i)) made
