-- The qualifiers of both are asked before a type is made.
use Rattle.c_types.specs.CType.{type_of}
use Rattle.c_types.specs.Qualified.{with_quals}
use Rattle.c_conversions.proofs.Keeping.{over_made, made_as}
use Rattle.c_operator_rules.specs.Conditional.{common_base}
use Rattle.c_operator_rules.proofs.conditional.common_target.Goals as goal

pub returns : goal.returns
returns c =
    let left = type_of c.args.types.now c.args.left in
    let right = type_of c.args.types.now c.args.right in
    made_as (over_made (with_quals c.common_quals-quals.result) c.in_ok-base.ensures c.in_ok-made.ensures)
    (λ i. with_quals (c.common_quals-quals.ensures i) (common_base left right))
