-- The number among the members that the table keeps.
use Rattle.std.proofs.Common.{◌∙◌}
use Rattle.c_types.specs.CType.{type_of}
use Rattle.c_initial_rules.proofs.PartTargets.{no_number, number_as_tree}
use Rattle.c_initial_rules.proofs.parts.member_number.Goals as goal

pub returns-in-None : goal.returns-in-None
returns-in-None c =
    no_number c.args.types.now (type_of c.args.types.now c.args.of) c.args.name.now c.in-None.ensures.members

pub returns-in-Some : goal.returns-in-Some
returns-in-Some c =
    c.number_among.ensures
    ∙ number_as_tree c.args.types.now (type_of c.args.types.now c.args.of) c.in-Some.members.now c.args.name.now
    c.in-Some.ensures.typed
