-- The rule of a body, by what its tag stands for in the innermost scope.
use Rattle.std.proofs.Common.{subst, true}
use Rattle.std.specs.Prelude.{Option}
use Rattle.c_scopes.specs.Clauses.{RulesOption, OptionIn, type_or_none}
use Rattle.c_scopes.specs.Env.{env_of}
use Rattle.c_scopes.specs.Named.{Named}
use Rattle.c_scopes.specs.Scopes.{found_here}
use Rattle.c_types.specs.Structures.{structures_of}
use Rattle.c_type_rules.specs.Tags.{compound_body_rule}
use Rattle.c_type_parts.proofs.Looking.{tag_looked_up, tag_looked_up_in}
use Rattle.c_type_parts.proofs.Steps.{settled}
use Rattle.c_type_parts.proofs.tagging.known_body.Goals as goal

pub compound_body-requires : goal.compound_body-requires
compound_body-requires c =
    tag_looked_up_in c.args.types.now c.args.scopes.now true c.args.tag.now.name c.tag_seen-here.result c.requires
    c.tag_seen-here.ensures

pub returns : goal.returns
returns c =
    let types = c.args.types.now in
    let scopes = c.args.scopes.now in
    let tag = c.args.tag.now in
    settled type_or_none OptionIn
    (compound_body_rule (structures_of types) c.args.is_union
    (found_here (env_of scopes types).scopes true tag.name))
    tag.pos scopes types types c.compound_body.result c.requires
    (subst (λ (known : Option Named). RulesOption (compound_body_rule (structures_of types) c.args.is_union known)
    tag.pos types types c.compound_body.result)
    (tag_looked_up types scopes true tag.name c.tag_seen-here.result c.tag_seen-here.ensures)
    c.compound_body.ensures)
