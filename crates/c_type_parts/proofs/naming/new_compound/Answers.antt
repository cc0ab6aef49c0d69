-- Behind one more structure or union.
use Rattle.c_type_parts.proofs.Becoming.{becomes_compound}
use Rattle.c_type_parts.proofs.naming.new_compound.Goals as goal

pub returns : goal.returns
returns c =
    becomes_compound c.args.scopes.now c.args.types.now c.compound.new.self c.in_ok-id.id c.args.is_union c.requires
    c.in_ok-id.ensures.made
