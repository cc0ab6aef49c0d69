-- What a structure or union that is completed is as a tree.
use Rattle.std.proofs.Common.{◌≡◌, ℕ, List, map, ap, sym, ◌∙◌, slice_set}
use Rattle.std.specs.Prelude.{Bool, Some}
use Rattle.c_types.specs.declared.shape.TypeId.{TypeId}
use Rattle.c_types.specs.Types.{Types, CompoundParts, CompoundBody}
use Rattle.c_types.specs.CType.{type_of, all_types}
use Rattle.c_types.specs.Structures as st
use Rattle.c_types.specs.Structures.{Structure, structure_at, structures_of}
use Rattle.c_types.specs.Making.{Grows}
use Rattle.c_types.specs.Compounds.{IsBodyOf, Completes, with_body, number_in, compound_at, parts_at, structure_with}
use Rattle.c_types.proofs.Members.{structure-at}
use Rattle.c_types.proofs.WithBody.{structures-with_body, typed-body_with}

-- the body of its members, in its place, completes a structure or union
pub completes : (old new : Types) (id : TypeId) (names : List (List ℕ)) (types : List TypeId) (n : ℕ)
    (body : CompoundBody) → n ≡ number_in (type_of old id) → compound_at old (type_of old id) ≡ parts_at old n →
    IsBodyOf old (compound_at old (type_of old id)).is_union names types body →
    new ≡ with_body old n (record { is_union = (parts_at old n).is_union; body = Some body }) → Grows old new →
    Completes old new id names types
completes old new id names types n body number parts laid_out changed grows =
    let union : Bool = (compound_at old (type_of old id)).is_union in
    let tree : Bool → Structure = λ u.
    structure_with u names (map (type_of old) types) laid_out.layouts (structures_of old) in
    let same : with_body old n (record { is_union = (parts_at old n).is_union; body = Some body })
    ≡ with_body old (number_in (type_of old id)) (record { is_union = union; body = Some body }) =
    ap (λ (p : CompoundParts). with_body old n (record { is_union = p.is_union; body = Some body })) (sym parts)
    ∙ ap (λ k. with_body old k (record { is_union = union; body = Some body })) number in
    let typed : st.typed_structure (all_types old) (record { is_union = union; body = Some body }) ≡ tree union =
    ap (λ (b : CompoundBody). st.typed_structure (all_types old) (record { is_union = union; body = Some b }))
    laid_out.is
    ∙ typed-body_with old union names types laid_out.layouts in
    let kind : union ≡ (structure_at (structures_of old) (number_in (type_of old id))).is_union =
    ap (λ (p : CompoundParts). p.is_union) parts
    ∙ sym (ap (λ (s : Structure). s.is_union) (structure-at old n))
    ∙ ap (λ k. (structure_at (structures_of old) k).is_union) number in
    record {
      body = body;
      laid_out = laid_out;
      changed = changed ∙ same;
      structures = ap structures_of (changed ∙ same)
          ∙ structures-with_body old (number_in (type_of old id)) (record { is_union = union; body = Some body })
          ∙ ap (slice_set (structures_of old) (number_in (type_of old id))) (typed ∙ ap tree kind);
      grows = grows;
    }
