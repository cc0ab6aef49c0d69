-- The name is given twice, or new.
use Rattle.std.proofs.Common.{◌∙◌, sym}
use Rattle.c_scopes.specs.Named.{named_of}
use Rattle.c_type_parts.proofs.BoundParameters.{twice_refused, new_given}
use Rattle.c_type_parts.proofs.parameters.bind_parameter.Goals as goal

pub returns-then-is_some : goal.returns-then-is_some
returns-then-is_some c =
    twice_refused c.in-Some.named.pos c.in-Some.named.name.now (named_of c.args.types.now c.args.object)
    c.args.scopes.now c.args.types.now c.copied-known.result (c.copied-known.ensures ∙ c.here.ensures) _
    (sym c.in-Some.ensures) (sym c.if-is_some.ensures)

pub returns-in-Ok : goal.returns-in-Ok
returns-in-Ok c =
    new_given c.in-Some.named.pos c.in-Some.named.name.now (named_of c.args.types.now c.args.object)
    c.args.scopes.now c.args.types.now c.copied-known.result (c.copied-known.ensures ∙ c.here.ensures) _
    (sym c.in-Some.ensures) c.bind_name.new.scopes (sym c.if-is_some.ensures) c.in-Ok.ensures
