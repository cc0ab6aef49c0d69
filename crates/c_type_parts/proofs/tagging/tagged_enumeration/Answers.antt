-- The rule of a tag, by what it stands for.
use Rattle.std.proofs.Common.{◌∙◌, true, subst}
use Rattle.c_types.specs.CType.{type_of}
use Rattle.c_core.specs.Ids.{IdIn}
use Rattle.c_scopes.specs.Clauses.{RulesType}
use Rattle.c_scopes.specs.Env.{env_of}
use Rattle.c_scopes.specs.Named.{Named}
use Rattle.c_scopes.specs.Scopes.{found}
use Rattle.std.specs.Prelude.{Option}
use Rattle.c_type_rules.specs.Tags.{enumerated_tag_rule}
use Rattle.c_type_parts.proofs.Looking.{looked_up, looked_up_in}
use Rattle.c_type_parts.proofs.Steps.{settled}
use Rattle.c_type_parts.proofs.tagging.tagged_enumeration.Goals as goal

pub enumerated_tag-requires : goal.enumerated_tag-requires
enumerated_tag-requires c =
    looked_up_in c.args.types.now c.args.scopes.now true c.args.tag.now.name c.copied-found.result c.requires
    (c.copied-found.ensures ∙ c.find.ensures)

pub returns : goal.returns
returns c =
    let types = c.args.types.now in
    let scopes = c.args.scopes.now in
    let tag = c.args.tag.now in
    settled type_of IdIn (enumerated_tag_rule (found (env_of scopes types).scopes true tag.name)) tag.pos scopes types
    types c.enumerated_tag.result c.requires
    (subst (λ (known : Option Named). RulesType (enumerated_tag_rule known) tag.pos types types c.enumerated_tag.result)
    (looked_up types scopes true tag.name c.copied-found.result (c.copied-found.ensures ∙ c.find.ensures))
    c.enumerated_tag.ensures)
