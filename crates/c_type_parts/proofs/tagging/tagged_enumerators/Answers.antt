-- The enumeration that is made, where its tag is new.
use Rattle.std.proofs.Common.{◌≡◌, subst, true}
use Rattle.std.specs.Prelude.{Option}
use Rattle.c_scopes.specs.Clauses.{BreaksAt}
use Rattle.c_scopes.specs.Env.{env_of}
use Rattle.c_scopes.specs.Named.{Named}
use Rattle.c_scopes.specs.Ruled.{Fits}
use Rattle.c_type_rules.specs.Tags.{enumerated_body_rule}
use Rattle.c_type_parts.proofs.KnownTags.{enumerators_of_new}
use Rattle.c_type_parts.proofs.Looking.{tag_looked_up}
use Rattle.c_type_parts.proofs.Steps.{breaks_refused, refused_then}
use Rattle.c_type_parts.proofs.tagging.tagged_enumerators.Goals as goal

pub returns-in-Err : goal.returns-in-Err
returns-in-Err c =
    let types = c.args.types.now in
    let scopes = c.args.scopes.now in
    let tag = c.args.tag.now in
    refused_then _ _ c.in-Err.fault
    (breaks_refused tag.pos (env_of scopes types) _ c.in-Err.fault
    (subst (λ (here : Option Named). BreaksAt (enumerated_body_rule here) tag.pos c.in-Err.fault)
    (tag_looked_up types scopes true tag.name c.tag_seen.result c.tag_seen.ensures) (c.in-Err.ensures types)))

pub returns-in-Ok-begin_enumeration : goal.returns-in-Ok-begin_enumeration
returns-in-Ok-begin_enumeration c =
    let types = c.args.types.now in
    let scopes = c.args.scopes.now in
    let tag = c.args.tag.now in
    enumerators_of_new tag scopes c.begin_enumeration.new.scopes types c.begin_enumeration.new.types
    c.in-Ok-begin_enumeration.of
    (subst (λ (here : Option Named). enumerated_body_rule here ≡ Fits tt)
    (tag_looked_up types scopes true tag.name c.tag_seen.result c.tag_seen.ensures) (c.in-Ok.ensures types))
    c.in-Ok-begin_enumeration.ensures
