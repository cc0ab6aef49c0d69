-- The two rules of a body, one behind the other.
use Rattle.c_types.specs.CType.{type_of}
use Rattle.c_types.specs.Structures.{structures_of}
use Rattle.c_type_parts.proofs.Bodies.{body_answers, content_breaks, content_some, content_incomplete}
use Rattle.c_type_parts.proofs.completing.end_body.Goals as goal

pub complete-requires-clause-incomplete : goal.complete-requires-clause-incomplete
complete-requires-clause-incomplete c =
    content_incomplete _ _ _ _ c.in-Ok.ensures

pub complete-requires-clause-some : goal.complete-requires-clause-some
complete-requires-clause-some c =
    content_some c.args.body.is_union c.args.members.now.names (type_of c.args.types.now c.args.body.of)
    (structures_of c.args.types.now) c.in-Ok.ensures

pub returns-in-Err : goal.returns-in-Err
returns-in-Err c =
    content_breaks c.args.body.is_union c.args.body.at c.args.body.of c.args.members.now c.args.scopes.now
    c.args.types.now c.args.types.now c.requires.here c.in-Err.fault c.in-Err.ensures

pub returns-in-Ok : goal.returns-in-Ok
returns-in-Ok c =
    body_answers c.args.body.is_union c.args.body.at c.args.body.of c.args.members.now c.args.scopes.now
    c.args.types.now c.complete.new.types c.requires.here c.complete.result c.in-Ok.ensures
    c.complete.ensures
