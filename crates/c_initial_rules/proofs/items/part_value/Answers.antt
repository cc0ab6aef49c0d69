-- What the constraints say is what the rule says.
use Rattle.std.specs.Prelude.{Some}
use Rattle.c_types.specs.CType.{type_of}
use Rattle.c_types.specs.Structures.{structures_of}
use Rattle.c_conversions.specs.Parts.{part_of}
use Rattle.c_initial_rules.specs.Constants.{as_constant}
use Rattle.c_initial_rules.specs.Initials.{item_demands, item_stored}
use Rattle.c_initial_rules.proofs.Verdicts.{follows, told}
use Rattle.c_initial_rules.proofs.items.part_value.Goals as goal

pub returns-in-Err : goal.returns-in-Err
returns-in-Err c =
    let types = c.args.types.now in
    let part = part_of types c.args.operand in
    let constant = as_constant (structures_of types) part in
    told (item_demands c.args.place.fixed c.args.place.nested constant (Some (type_of types c.args.of)) part)
    (item_stored (structures_of types) c.args.place.fixed constant (type_of types c.args.of) part)
    c.args.place.pos c.in-Err.fault c.in-Err.ensures

pub returns-in-Ok-stored : goal.returns-in-Ok-stored
returns-in-Ok-stored c =
    let types = c.args.types.now in
    let part = part_of types c.args.operand in
    let constant = as_constant (structures_of types) part in
    follows (item_demands c.args.place.fixed c.args.place.nested constant (Some (type_of types c.args.of)) part)
    (item_stored (structures_of types) c.args.place.fixed constant (type_of types c.args.of) part)
    c.in-Ok-stored.stored types c.stored.new.types c.in-Ok.ensures c.in-Ok-stored.ensures
