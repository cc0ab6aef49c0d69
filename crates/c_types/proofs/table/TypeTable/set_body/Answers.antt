-- A structure or union has got its body: the table stays sound, and nothing else has changed.
use Rattle.std.proofs.Common.{◌≡◌, ◌<◌, List, Some, None, All, length, map, ap, sym, subst, slice_set}
use Rattle.c_types.specs.declared.member.Member.{Member}
use Rattle.c_types.specs.Types.{Types, CompoundParts, count_of}
use Rattle.c_types.specs.Making.{Grows}
use Rattle.c_types.specs.Compounds.{with_body, parts_at}
use Rattle.c_types.specs.Inner.{types_of, compound_of, body_of, IsSound}
use Rattle.c_types.proofs.WithBody.{sound-with_body, grows-with_body, body-set}
use Rattle.c_types.proofs.table.TypeTable.set_body.Goals as goal

-- the table with these structures and unions
abbrev with_compounds : Types → List CompoundParts → Types
with_compounds types compounds = record {
  made = types.made;
  functions = types.functions;
  compounds = compounds;
  enumerations = types.enumerations;
}

pub invariant_of-self : goal.invariant_of-self
invariant_of-self c =
    let old = types_of c.self.inside in
    let n = c.args.number in
    let below : n < length old.compounds =
    subst (λ (t : Types). n < length t.compounds) (sym c.self.view_is) c.requires.is_there in
    let none : (parts_at old n).body ≡ None =
    subst (λ (t : Types). (parts_at t n).body ≡ None) (sym c.self.view_is) c.requires.incomplete in
    let members : All (λ (m : Member). m.of.0 < count_of old) c.args.body.members.items =
    subst (λ (t : Types). All (λ (m : Member). m.of.0 < count_of t) c.args.body.members.items)
    (sym c.self.view_is) c.requires.members in
    let same = body-set c.self.inside.compounds.items n c.index_mut.result.now c.args.body below
    c.index_mut.ensures.value in
    subst (λ (cs : List CompoundParts). IsSound (with_compounds old cs)) (sym same)
    (sound-with_body old n (body_of c.args.body) c.self.invariant below none members)

pub returns-clause-changed : goal.returns-clause-changed
returns-clause-changed c =
    let old = types_of c.self.inside in
    let n = c.args.number in
    let items = c.self.inside.compounds.items in
    let item = c.index_mut.result.now in
    let below : n < length old.compounds =
    subst (λ (t : Types). n < length t.compounds) (sym c.self.view_is) c.requires.is_there in
    let same = body-set items n item c.args.body below c.index_mut.ensures.value in
    subst (λ (t : Types).
    with_compounds old
    (map compound_of (slice_set items n (record { is_union = item.is_union; body = Some c.args.body })))
    ≡ with_body t n (record { is_union = (parts_at t n).is_union; body = Some (body_of c.args.body) }))
    c.self.view_is (ap (with_compounds old) same)

pub returns-clause-grows : goal.returns-clause-grows
returns-clause-grows c =
    let old = types_of c.self.inside in
    let n = c.args.number in
    let items = c.self.inside.compounds.items in
    let item = c.index_mut.result.now in
    let below : n < length old.compounds =
    subst (λ (t : Types). n < length t.compounds) (sym c.self.view_is) c.requires.is_there in
    let none : (parts_at old n).body ≡ None =
    subst (λ (t : Types). (parts_at t n).body ≡ None) (sym c.self.view_is) c.requires.incomplete in
    let same = body-set items n item c.args.body below c.index_mut.ensures.value in
    subst (λ (t : Types). Grows t (with_compounds old
    (map compound_of (slice_set items n (record { is_union = item.is_union; body = Some c.args.body })))))
    c.self.view_is
    (subst (λ (cs : List CompoundParts). Grows old (with_compounds old cs)) (sym same)
    (grows-with_body old n (body_of c.args.body) below none))
