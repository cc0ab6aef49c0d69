-- The whole is what it was before the type of the member was made.
use Rattle.c_types.specs.CType.{type_of}
use Rattle.c_types.specs.Qualified.{with_quals}
use Rattle.c_core.specs.Tree.{At, Member}
use Rattle.c_core.specs.View.{core_of}
use Rattle.c_conversions.proofs.Keeping.{core_there, core_stays, over, made_as}
use Rattle.c_expr_rules.proofs.members.member.Goals as goal

pub member_at-requires-clause-whole : goal.member_at-requires-clause-whole
member_at-requires-clause-whole c = core_there c.in_ok-of.ensures c.args.whole c.requires.whole

pub returns : goal.returns
returns c =
    let member = c.args.member in
    made_as
    (over (λ type x. At type c.args.pos (Member member.1 x)) c.in_ok-of.ensures
    (core_stays c.in_ok-of.ensures c.args.whole c.requires.whole) c.in_ok-made.ensures)
    (λ i. At (with_quals (c.quals-quals.ensures i) (type_of c.args.types.now member.0)) c.args.pos
    (Member member.1 (core_of c.args.types.now c.args.whole)))
