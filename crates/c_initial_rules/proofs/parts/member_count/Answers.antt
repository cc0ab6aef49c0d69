-- As many members as the table keeps.
use Rattle.c_types.specs.CType.{type_of}
use Rattle.c_initial_rules.proofs.PartTargets.{member_count, no_member_count}
use Rattle.c_initial_rules.proofs.parts.member_count.Goals as goal

pub returns-in-None : goal.returns-in-None
returns-in-None c =
    no_member_count c.args.types.now (type_of c.args.types.now c.args.of) c.in-None.ensures.members

pub returns-in-Some : goal.returns-in-Some
returns-in-Some c =
    member_count c.args.types.now (type_of c.args.types.now c.args.of) c.in-Some.members.now c.in-Some.ensures.typed
