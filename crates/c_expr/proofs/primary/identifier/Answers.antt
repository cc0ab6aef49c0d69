-- The rule of a name, by what it stands for.
use Rattle.std.proofs.Common.{◌∙◌, false, subst}
use Rattle.std.specs.Prelude.{Option}
use Rattle.c_scopes.specs.Clauses.{Rules}
use Rattle.c_scopes.specs.Named.{Named}
use Rattle.c_conversions.specs.Parts.{part_of, PartIn}
use Rattle.c_expr_rules.specs.Primary.{name_rule}
use Rattle.c_type_parts.proofs.Looking.{looked_up, looked_up_in}
use Rattle.c_expr.proofs.primary.identifier.Goals as goal

pub name-requires : goal.name-requires
name-requires c =
    looked_up_in c.args.types.now c.args.scopes.now false c.args.x.now c.copied-found.result c.requires
    (c.copied-found.ensures ∙ c.find.ensures)

pub returns : goal.returns
returns c =
    subst (λ (known : Option Named). Rules part_of PartIn (name_rule c.args.at known) c.args.at c.args.types.now
    c.name.new.types c.name.result)
    (looked_up c.args.types.now c.args.scopes.now false c.args.x.now c.copied-found.result
    (c.copied-found.ensures ∙ c.find.ensures)) c.name.ensures
