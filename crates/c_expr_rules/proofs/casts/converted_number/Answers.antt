-- The number is what it was before the type was made.
use Rattle.c_types.specs.CType.{type_of}
use Rattle.c_types.specs.Qualified.{without_quals}
use Rattle.c_core.specs.Tree.{At, Convert}
use Rattle.c_core.specs.View.{core_of}
use Rattle.c_conversions.specs.Kinds.{int_kind}
use Rattle.c_conversions.specs.Parts.{value}
use Rattle.c_conversions.proofs.Keeping.{core_there, core_stays, over, made_as}
use Rattle.c_expr_rules.proofs.casts.converted_number.Goals as goal

pub number_at-requires-clause-core : goal.number_at-requires-clause-core
number_at-requires-clause-core c = core_there c.in_ok-of.ensures c.args.core c.requires.core

pub returns : goal.returns
returns c =
    made_as
    (over (λ type x. value (At type c.args.pos (Convert (int_kind c.basic-basic.result) x))) c.in_ok-of.ensures
    (core_stays c.in_ok-of.ensures c.args.core c.requires.core) c.in_ok-made.ensures)
    (λ i. value (At (without_quals (type_of c.args.types.now c.args.to)) c.args.pos
    (Convert (int_kind (c.basic-basic.ensures i)) (core_of c.args.types.now c.args.core))))
