-- Behind one more enumerated type.
use Rattle.c_type_parts.proofs.Becoming.{becomes_enumeration}
use Rattle.c_type_parts.proofs.naming.new_enumeration.Goals as goal

pub returns : goal.returns
returns c =
    becomes_enumeration c.args.scopes.now c.args.types.now c.enumerated.new.self c.in_ok-id.id c.requires
    c.in_ok-id.ensures.made
