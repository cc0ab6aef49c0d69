-- The part by the members that the table keeps, if it keeps any.
use Rattle.c_types.specs.CType.{type_of}
use Rattle.c_initial_rules.proofs.PartTargets.{no_part}
use Rattle.c_initial_rules.proofs.parts.compound_part.Goals as goal

pub returns-in-None-clause-part : goal.returns-in-None-clause-part
returns-in-None-clause-part c =
    no_part c.args.types.now (type_of c.args.types.now c.args.object.of) c.requires.compound c.args.object.at c.args.index
    c.in-None.ensures.members
