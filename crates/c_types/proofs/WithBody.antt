-- A structure or union that is completed changes no layout that was there.
use Rattle.std.proofs.Common.{◌≡◌, ℕ, ◌<◌, List, [], ◌∷◌, length, All, map, refl, ap, sym, subst, ◌∙◌}
use Rattle.std.proofs.Common.{arith, slice_set, slice_get, slice_index_or}
use Rattle.std.specs.Prelude.{Bool, false, Option, Some, None, option_map, IsSome}
use Rattle.std.proofs.Math.ListN.{length-set}
use Rattle.std.proofs.lemmas.List.{map-set, get_or-map, length-map}
use Rattle.std.proofs.lemmas.List.Elements.{All-set}
use Rattle.c_types.specs.declared.layout.Layout.{Layout}
use Rattle.c_types.specs.declared.member.Member.{Member}
use Rattle.c_types.specs.declared.shape.Shape.{Shape}
use Rattle.c_types.specs.declared.shape.Shape.TheVariants as s
use Rattle.c_types.specs.declared.shape.Quals.{Quals}
use Rattle.c_types.specs.declared.shape.TypeId.{TypeId}
use Rattle.c_types.specs.declared.parts.CompoundType.{CompoundType}
use Rattle.c_types.specs.declared.parts.Body.{Body}
use Rattle.c_types.specs.Types.{Types, CompoundParts, CompoundBody, FunctionParts, count_of}
use Rattle.c_types.specs.CType.{CType, Plain, type_of, type_with, type_at, function_at, all_types}
use Rattle.c_types.specs.Shapes.{RefersBelow, entry_at}
use Rattle.c_types.specs.Structures as st
use Rattle.c_types.specs.Structures.{Structure, structure_at, structures_of}
use Rattle.c_types.specs.Layouts.{layout_of, places_with}
use Rattle.c_types.specs.Making.{KeepsStructures, Grows}
use Rattle.c_types.specs.Compounds.{with_body, parts_at, incomplete, body_with, structure_with, members_with}
use Rattle.c_types.specs.Compounds.{typed_members}
use Rattle.c_types.specs.Inner.{IsSound, KeepsLayout, HasMembersIn, compound_of, body_of}
use Rattle.c_types.proofs.Kept.{structures_set, layout_stays}
use Rattle.c_types.proofs.Members.{structure-at}
use Rattle.c_types.proofs.Showing.{shows}

-- what is kept for a type gives its layout, also once a structure or union is complete
keeps : (fs : List FunctionParts) (all : List CType) (shape : Shape) (kept : Option Layout) (quals : Quals)
    (type : CType)
    (old new : List Structure) → KeepsStructures old new → type ≡ type_with fs all shape quals →
    KeepsLayout shape kept type old → KeepsLayout shape kept type new
keeps fs all (s.Basic basic) kept quals type old new stays e k = record {
  layout = k.layout ∙ subst (λ (t : CType). layout_of t old ≡ layout_of t new) (sym e) refl;
  own = tt;
}
keeps fs all (s.Pointer to) kept quals type old new stays e k = record {
  layout = k.layout ∙ subst (λ (t : CType). layout_of t old ≡ layout_of t new) (sym e) refl;
  own = tt;
}
keeps fs all (s.Enumerated number) kept quals type old new stays e k = record {
  layout = k.layout ∙ subst (λ (t : CType). layout_of t old ≡ layout_of t new) (sym e) refl;
  own = tt;
}
keeps fs all (s.Array of None) kept quals type old new stays e k = record {
  layout = k.layout ∙ subst (λ (t : CType). layout_of t old ≡ layout_of t new) (sym e) refl;
  own = tt;
}
keeps fs all (s.Compound number) kept quals type old new stays e k = record {
  layout = subst (λ (t : CType). option_map (λ (b : st.StructureBody). b.layout) (structure_at new number).body
      ≡ layout_of t new) (sym e) refl;
  own = tt;
}
keeps fs all (s.Function number) kept quals type old new stays e k = record {
  layout = k.layout ∙ subst (λ (t : CType). layout_of t old ≡ layout_of t new) (sym e) (flat (slice_get fs number));
  own = tt;
}
  where
    flat : (o : Option FunctionParts) →
        layout_of (Plain (function_at all o) quals) old ≡ layout_of (Plain (function_at all o) quals) new
    flat None = refl
    flat (Some f) = refl
keeps fs all (s.Array of (Some m)) kept quals type old new stays e k = sized kept k.layout k.own
  where
    sized : (o : Option Layout) → o ≡ layout_of type old → IsSome o → KeepsLayout (s.Array of (Some m)) o type new
    sized None is own = absurd (cc)
    sized (Some l) is own = record { layout = sym (layout_stays type old new l stays (sym is)); own = own }

-- the structures and unions of a table where one has got its body
pub structures-with_body : (types : Types) (n : ℕ) (parts : CompoundParts) →
    structures_of (with_body types n parts)
    ≡ slice_set (structures_of types) n (st.typed_structure (all_types types) parts)
structures-with_body types n parts = map-set (st.typed_structure (all_types types)) types.compounds n parts

-- an incomplete one has no body as a tree either
no_body : (types : Types) (n : ℕ) → (parts_at types n).body ≡ None → (structure_at (structures_of types) n).body ≡ None
no_body types n none =
    ap (λ (s : Structure). s.body) (structure-at types n)
    ∙ ap (option_map (st.typed_body (all_types types))) none

-- completing a structure or union keeps the others
pub structures-keep : (types : Types) (n : ℕ) (body : CompoundBody) → n < length types.compounds →
    (parts_at types n).body ≡ None →
    KeepsStructures (structures_of types)
    (structures_of (with_body types n (record { is_union = (parts_at types n).is_union; body = Some body })))
structures-keep types n body below none =
    let parts : CompoundParts = record { is_union = (parts_at types n).is_union; body = Some body } in
    subst (λ (ss : List Structure). KeepsStructures (structures_of types) ss) (sym (structures-with_body types n parts))
    (structures_set (structures_of types) n (st.typed_structure (all_types types) parts)
    (omega (arith, below, length-map types.compounds (st.typed_structure (all_types types))))
    (no_body types n none)
    (sym (ap (λ (s : Structure). s.is_union) (structure-at types n))))

-- a table where a structure or union is completed is sound
pub sound-with_body : (types : Types) (n : ℕ) (body : CompoundBody) → IsSound types → n < length types.compounds →
    (parts_at types n).body ≡ None → All (λ (m : Member). m.of.0 < count_of types) body.members →
    IsSound (with_body types n (record { is_union = (parts_at types n).is_union; body = Some body }))
sound-with_body types n body sound below none members =
    let parts : CompoundParts = record { is_union = (parts_at types n).is_union; body = Some body } in
    let stays = structures-keep types n body below none in
    record {
      begins = sound.begins;
      refers = λ id h. refers id (entry_at types id).shape (sound.refers id h);
      layouts = λ id h.
          keeps types.functions (all_types types) (entry_at types id.0).shape (entry_at types id.0).layout
          (entry_at types id.0).quals (type_of types id) (structures_of types) (structures_of (with_body types n parts))
          stays (shows types id h (sound.refers id.0 h)).stands_for (sound.layouts id h);
      parts = sound.parts;
      members = All-set (HasMembersIn types) types.compounds n parts members sound.members;
    }
  where
    refers : (id : ℕ) (shape : Shape) → RefersBelow types id shape →
        RefersBelow (with_body types n (record { is_union = (parts_at types n).is_union; body = Some body })) id shape
    refers id (s.Compound k) h =
        omega (
          arith,
          length-set types.compounds n (record { is_union = (parts_at types n).is_union; body = Some body }),
        )
    refers id (s.Function k) h = h
    refers id (s.Basic basic) h = h
    refers id (s.Pointer to) h = h
    refers id (s.Array of len) h = h
    refers id (s.Enumerated k) h = h

-- a table where a structure or union is completed grows
pub grows-with_body : (types : Types) (n : ℕ) (body : CompoundBody) → n < length types.compounds →
    (parts_at types n).body ≡ None →
    Grows types (with_body types n (record { is_union = (parts_at types n).is_union; body = Some body }))
grows-with_body types n body below none = record {
  types = record { count = omega arith; same = λ id h. refl };
  structures = structures-keep types n body below none;
  enumerations = omega arith;
}

-- members as trees
typed-members_with : (all : List CType) (names : List (List ℕ)) (ids : List TypeId) (places : List ℕ) →
    map (st.typed_member all) (members_with names ids places) ≡ typed_members names (map (type_at all) ids) places
typed-members_with all [] ids places = refl
typed-members_with all (name ∷ names) [] places = refl
typed-members_with all (name ∷ names) (id ∷ ids) [] = refl
typed-members_with all (name ∷ names) (id ∷ ids) (at ∷ places) =
    ap (λ (rest : List st.TypedMember). record { name = name; of = type_at all id; at = at } ∷ rest)
    (typed-members_with all names ids places)

-- a body of members is the tree of a structure or union with these members
pub typed-body_with : (types : Types) (u : Bool) (names : List (List ℕ)) (ids : List TypeId) (ls : List Layout) →
    st.typed_structure (all_types types) (record {
      is_union = u;
      body = Some (body_with u names ids ls (st.any_const (map (type_of types) ids) (structures_of types)));
    })
    ≡ structure_with u names (map (type_of types) ids) ls (structures_of types)
typed-body_with types u names ids ls =
    ap (λ (ms : List st.TypedMember). record {
      is_union = u;
      body = Some (record {
        members = ms;
        layout = (body_with u names ids ls (st.any_const (map (type_of types) ids) (structures_of types))).layout;
        has_const = st.any_const (map (type_of types) ids) (structures_of types);
      });
    }) (typed-members_with (all_types types) names ids (places_with u ls))

-- what is kept, where one has got its body, stands for the list where it has got it
pub body-set : (cs : List CompoundType) (n : ℕ) (item : CompoundType) (body : Body) → n < length (map compound_of cs) →
    item ≡ slice_index_or cs n item →
    map compound_of (slice_set cs n (record { is_union = item.is_union; body = Some body }))
    ≡ slice_set (map compound_of cs) n (record {
      is_union = (slice_index_or (map compound_of cs) n (incomplete false)).is_union;
      body = Some (body_of body);
    })
body-set cs n item body below read =
    let there : n < length cs = omega (arith, below, length-map cs compound_of) in
    let parts : slice_index_or (map compound_of cs) n (incomplete false) ≡ compound_of (slice_index_or cs n item) =
    get_or-map compound_of cs n item (incomplete false) there in
    let kind : item.is_union ≡ (slice_index_or (map compound_of cs) n (incomplete false)).is_union =
    ap (λ (x : CompoundType). x.is_union) read ∙ sym (ap (λ (x : CompoundParts). x.is_union) parts) in
    map-set compound_of cs n (record { is_union = item.is_union; body = Some body })
    ∙ ap (λ u. slice_set (map compound_of cs) n (record { is_union = u; body = Some (body_of body) })) kind
