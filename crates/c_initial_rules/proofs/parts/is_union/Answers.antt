-- A union by its tree.
use Rattle.std.proofs.Common.{◌∙◌, rules}
use Rattle.c_types.specs.CType.{type_of}
use Rattle.c_types.specs.Compounds.{IsCompound}
use Rattle.c_initial_rules.proofs.PartTargets.{union_as_tree}
use Rattle.c_initial_rules.proofs.parts.is_union.Goals as goal

pub returns-in-Compound : goal.returns-in-Compound
returns-in-Compound c =
    let compound : IsCompound (type_of c.args.types.now c.args.of) = search rules in
    c.is_union.ensures ∙ union_as_tree c.args.types.now (type_of c.args.types.now c.args.of) compound
