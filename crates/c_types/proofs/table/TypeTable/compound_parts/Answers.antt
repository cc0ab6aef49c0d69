-- The members of a structure or union are types of the table.
use Rattle.std.proofs.Common.{◌≡◌, ◌<◌, ap, subst, sym, arith, length, ◌∙◌, map, slice_index_or}
use Rattle.std.specs.Prelude.{false}
use Rattle.std.proofs.lemmas.List.{length-map, get_or-map}
use Rattle.std.proofs.lemmas.List.Elements.{All-get_or}
use Rattle.c_types.specs.Types.{Types}
use Rattle.c_types.specs.Compounds.{incomplete}
use Rattle.c_types.specs.Inner.{types_of, compound_of, HasMembersIn}
use Rattle.c_types.proofs.table.TypeTable.compound_parts.Goals as goal

pub returns-clause-members : goal.returns-clause-members
returns-clause-members c =
    let t = c.self.inside in
    let n = c.in-Compound.number in
    let item = c.index.result.now in
    let there : n < length (types_of t).compounds =
    subst (λ (x : Types). n < length x.compounds) (sym c.self.view_is) c.in-Compound.ensures.refers in
    let below : n < length t.compounds.items = omega (arith, there, length-map t.compounds.items compound_of) in
    let same : slice_index_or (map compound_of t.compounds.items) n (incomplete false) ≡ compound_of item =
    get_or-map compound_of t.compounds.items n item (incomplete false) below ∙ ap compound_of (sym c.index.ensures) in
    subst (λ (x : Types). HasMembersIn x (compound_of item)) c.self.view_is
    (subst (HasMembersIn (types_of t)) same
    (All-get_or (HasMembersIn (types_of t)) (types_of t).compounds n (incomplete false) there c.self.invariant.members))
