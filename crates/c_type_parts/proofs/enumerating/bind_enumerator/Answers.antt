-- The name stands for something there, or the enumerator is new.
use mir.Syntax.{w128}
use mir.Val.{of_z, to_z}
use Rattle.std.proofs.Common.{◌≡◌, ◌∙◌, rules}
use Rattle.c_types.specs.CType.{type_of}
use Rattle.c_scopes.specs.Env.{env_of}
use Rattle.c_scopes.specs.Named.{ConstantOf}
use Rattle.c_type_parts.specs.Clauses.{Becomes}
use Rattle.c_type_parts.specs.Environments.{with_name}
use Rattle.c_type_parts.proofs.BoundEnumerators.{bound_refused, bound_given}
use Rattle.c_type_parts.proofs.enumerating.bind_enumerator.Goals as goal

pub returns-in-Err : goal.returns-in-Err
returns-in-Err c =
    bound_refused c.args.enumerator.now.pos c.args.enumerator.now.name c.args.value c.args.scopes.now c.args.types.now
    c.copied-known.result (c.copied-known.ensures ∙ c.here.ensures) c.in-Err.fault (c.in-Err.ensures c.args.types.now)

pub returns-in-Ok-bind_name : goal.returns-in-Ok-bind_name
returns-in-Ok-bind_name c =
    let becomes : Becomes (with_name c.args.enumerator.now.name
    (ConstantOf (type_of c.args.types.now c.basic.result) c.in-Ok.n) (env_of c.args.scopes.now c.args.types.now))
    c.args.types.now c.bind_name.new.scopes c.args.types.now = search (rules, c.in-Ok-bind_name.ensures) in
    let same : to_z w128 (of_z w128 c.in-Ok.n) ≡ c.in-Ok.n = search rules in
    rw same
    (bound_given c.args.enumerator.now.pos c.args.enumerator.now.name c.args.value c.args.scopes.now c.args.types.now
    c.copied-known.result (c.copied-known.ensures ∙ c.here.ensures) c.in-Ok.n c.basic.result c.bind_name.new.scopes
    (c.in-Ok.ensures c.args.types.now) c.basic.ensures.stands_for becomes)
