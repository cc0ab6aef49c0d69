-- The type that is known, or the one that is made.
use Rattle.c_type_parts.proofs.KnownTags.{body_of_known, body_of_new}
use Rattle.c_type_parts.proofs.Steps.{refused_then}
use Rattle.c_type_parts.proofs.tagging.tagged_body.Goals as goal

pub returns-in-Err : goal.returns-in-Err
returns-in-Err c = refused_then _ _ c.in-Err.fault c.in-Err.ensures

pub returns-in-Ok : goal.returns-in-Ok
returns-in-Ok c =
    body_of_known c.args.is_union c.args.tag.now c.args.scopes.now c.bind_name.new.scopes c.args.types.now
    c.in-Ok-Some.field-0 c.in-Ok-Some.of c.in-Ok-Some.field-0-is c.in-Ok-Some.ensures c.in-Ok.ensures

pub returns-in-Ok-begin_compound : goal.returns-in-Ok-begin_compound
returns-in-Ok-begin_compound c =
    body_of_new c.args.is_union c.args.tag.now c.args.scopes.now c.begin_compound.new.scopes c.args.types.now
    c.begin_compound.new.types c.in-Ok-None.field-0 c.in-Ok-begin_compound.of c.in-Ok-None.field-0-is
    c.in-Ok-None.ensures c.in-Ok-begin_compound.ensures
