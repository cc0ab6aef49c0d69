-- The rule of a tag, by what it stands for.
use Rattle.std.proofs.Common.{subst}
use Rattle.std.specs.Prelude.{Option}
use Rattle.c_scopes.specs.Clauses.{RulesOption, OptionIn, type_or_none}
use Rattle.c_scopes.specs.Env.{env_of}
use Rattle.c_scopes.specs.Named.{Named}
use Rattle.c_types.specs.Structures.{structures_of}
use Rattle.c_type_rules.specs.Tags.{compound_tag_rule}
use Rattle.c_type_parts.specs.Tagging.{tag_seen}
use Rattle.c_type_parts.proofs.Looking.{tag_looked_up, tag_looked_up_in}
use Rattle.c_type_parts.proofs.Steps.{settled}
use Rattle.c_type_parts.proofs.tagging.known_compound.Goals as goal

pub compound_tag-requires : goal.compound_tag-requires
compound_tag-requires c =
    tag_looked_up_in c.args.types.now c.args.scopes.now c.args.kind.alone c.args.tag.now.name c.tag_seen-seen.result
    c.requires c.tag_seen-seen.ensures

pub returns : goal.returns
returns c =
    let types = c.args.types.now in
    let scopes = c.args.scopes.now in
    let tag = c.args.tag.now in
    let kind = c.args.kind in
    settled type_or_none OptionIn
    (compound_tag_rule (structures_of types) kind.is_union (tag_seen kind.alone tag.name (env_of scopes types)))
    tag.pos scopes types types c.compound_tag.result c.requires
    (subst (λ (known : Option Named). RulesOption (compound_tag_rule (structures_of types) kind.is_union known) tag.pos
    types types c.compound_tag.result)
    (tag_looked_up types scopes kind.alone tag.name c.tag_seen-seen.result c.tag_seen-seen.ensures)
    c.compound_tag.ensures)
