-- The tag that is known, or the one that is declared.
use Rattle.c_type_parts.proofs.KnownTags.{known_given, declared_given}
use Rattle.c_type_parts.proofs.Steps.{refused_then}
use Rattle.c_type_parts.proofs.tagging.tagged_compound.Goals as goal

pub returns-in-Err : goal.returns-in-Err
returns-in-Err c = refused_then _ _ c.in-Err.fault c.in-Err.ensures

pub returns-in-Ok-Some : goal.returns-in-Ok-Some
returns-in-Ok-Some c =
    known_given c.args.kind.is_union c.args.kind.alone c.args.tag.now c.args.scopes.now c.args.types.now
    c.in-Ok-Some.field-0 c.in-Ok-Some.of c.in-Ok-Some.field-0-is c.in-Ok-Some.ensures

pub returns-in-Ok : goal.returns-in-Ok
returns-in-Ok c =
    declared_given c.args.kind.is_union c.args.kind.alone c.args.tag.now c.args.scopes.now
    c.declare_compound.new.scopes c.args.types.now c.declare_compound.new.types c.in-Ok-None.field-0 c.in-Ok.of
    c.in-Ok-None.field-0-is c.in-Ok-None.ensures c.in-Ok.ensures
