-- What the name stands for, by the table's types.
use Rattle.std.proofs.Common.{◌∙◌, ap, ℕ, List, false}
use Rattle.std.specs.Prelude.{Option}
use Rattle.c_scopes.specs.Env.{env_of}
use Rattle.c_scopes.specs.Named.{Named}
use Rattle.c_type_parts.specs.Outlines.{typedef_seen, typedef_type}
use Rattle.c_type_parts.proofs.Looking.{looked_up, looked_up_in}
use Rattle.c_type_parts.proofs.outlines.typedef_seen.Goals as goal

pub typedef_type-requires : goal.typedef_type-requires
typedef_type-requires c =
    looked_up_in c.args.types.now c.args.scopes.now false c.in-Some.name.now c.copied-found.result c.requires
    (c.copied-found.ensures ∙ c.find.ensures)

pub returns-in-Some-clause-is : goal.returns-in-Some-clause-is
returns-in-Some-clause-is c =
    c.typedef_type.ensures.is
    ∙ ap (λ (known : Option Named). typedef_type known)
    (looked_up c.args.types.now c.args.scopes.now false c.in-Some.name.now c.copied-found.result
    (c.copied-found.ensures ∙ c.find.ensures))
    ∙ ap (λ (name : Option (List ℕ)). typedef_seen name (env_of c.args.scopes.now c.args.types.now)) c.in-Some.ensures
