-- What a table keeps as it grows: types, structures and unions, layouts.
use Rattle.std.proofs.Common.{◌≡◌, ◌≢◌, ◌⊎◌, ℕ, zero, suc, ◌<◌, List, [], ◌∷◌, ◌++◌, length, All, map, refl, ap, sym}
use Rattle.std.proofs.Common.{subst, ◌∙◌, arith, slice_set, inl, inr}
use Rattle.std.specs.Prelude.{Bool, false, ◌||◌, Option, Some, None, IfSome, option_map}
use Rattle.std.proofs.lemmas.Bool.{cases_eq}
use Rattle.std.proofs.lemmas.List.{get_or_append_left, get_or-set_same, get_or-set_other, length-append}
use Rattle.std.proofs.lemmas.List.Elements.{All-head, All-tail}
use Rattle.std.proofs.Math.ListN.{length-set}
use Rattle.c_types.specs.declared.layout.Layout.{Layout}
use Rattle.c_types.specs.declared.member.Member.{Member}
use Rattle.c_types.specs.declared.shape.TypeId.{TypeId}
use Rattle.c_types.specs.Types.{Types, CompoundBody, CompoundParts, count_of}
use Rattle.c_types.specs.CType.{CType, Plain, Array, BasicType, Pointer, Function, Compound, Enumerated, all_types}
use Rattle.c_types.specs.CType.{type_of}
use Rattle.c_types.specs.Structures as st
use Rattle.c_types.specs.Structures.{Structure, StructureBody, structure_at, structures_of, no_members}
use Rattle.c_types.specs.Layouts.{layout_of, times}
use Rattle.c_types.specs.Making.{KeepsTypes, KeepsStructures, Grows, MakesType}
use Rattle.c_types.specs.Inner.{IsSound, HasMembersIn}

-- a table keeps its types
pub types_own : (types : Types) → KeepsTypes types types
types_own types = record { count = omega arith; same = λ id h. refl }

-- types that are kept in two steps are kept
pub types_then : (old mid new : Types) → KeepsTypes old mid → KeepsTypes mid new → KeepsTypes old new
types_then old mid new a b = record {
  count = omega (arith, a.count, b.count);
  same = λ id h. b.same id (omega (arith, h, a.count)) ∙ a.same id h;
}

-- structures and unions keep what they have
pub structures_own : (structures : List Structure) → KeepsStructures structures structures
structures_own structures = record { count = omega arith; kind = λ n h. refl; body = λ n b h. h }

-- and what is kept in two steps
pub structures_then : (old mid new : List Structure) → KeepsStructures old mid → KeepsStructures mid new →
    KeepsStructures old new
structures_then old mid new a b = record {
  count = omega (arith, a.count, b.count);
  kind = λ n h. b.kind n (omega (arith, h, a.count)) ∙ a.kind n h;
  body = λ n body h. b.body n body (a.body n body h);
}

-- a table keeps what it has
pub grows_own : (types : Types) → Grows types types
grows_own types = record {
  types = types_own types;
  structures = structures_own (structures_of types);
  enumerations = omega arith;
}

-- what is kept in two steps is kept
pub grows_then : (old mid new : Types) → Grows old mid → Grows mid new → Grows old new
grows_then old mid new a b = record {
  types = types_then old mid new a.types b.types;
  structures = structures_then (structures_of old) (structures_of mid) (structures_of new) a.structures b.structures;
  enumerations = omega (arith, a.enumerations, b.enumerations);
}

-- a structure that has a body is one of the list
pub body_below : (structures : List Structure) (number : ℕ) (body : StructureBody) →
    (structure_at structures number).body ≡ Some body → number < length structures
body_below [] number body h = cc
body_below (s ∷ structures) zero body h = omega arith
body_below (s ∷ structures) (suc n) body h = omega (arith, body_below structures n body h)

-- one more structure or union keeps those that are there
pub structures_pushed : (structures : List Structure) (is_union : Bool) →
    KeepsStructures structures (structures ++ no_members is_union ∷ [])
structures_pushed structures u = record {
  count = omega (arith, length-append structures (no_members u ∷ []));
  kind = λ n h. ap (λ (s : Structure). s.is_union) (same n h);
  body = λ n b h. ap (λ (s : Structure). s.body) (same n (body_below structures n b h)) ∙ h;
}
  where
    same : (n : ℕ) → n < length structures →
        structure_at (structures ++ no_members u ∷ []) n ≡ structure_at structures n
    same n h = get_or_append_left structures (no_members u ∷ []) (no_members false) n h

-- completing a structure or union keeps the others
pub structures_set : (structures : List Structure) (number : ℕ) (s : Structure) → number < length structures →
    (structure_at structures number).body ≡ None → s.is_union ≡ (structure_at structures number).is_union →
    KeepsStructures structures (slice_set structures number s)
structures_set structures number s there none union = record {
  count = omega (arith, length-set structures number s);
  kind = λ n h. kind n (cases_eq n number);
  body = λ n b h. body n b h (cases_eq n number);
}
  where
    own : (n : ℕ) → n ≡ number → structure_at (slice_set structures number s) n ≡ s
    own n e = ap (structure_at (slice_set structures number s)) e
        ∙ get_or-set_same structures number s (no_members false) there

    other : (n : ℕ) → n ≢ number → structure_at (slice_set structures number s) n ≡ structure_at structures n
    other n e = get_or-set_other structures number n s (no_members false) e

    kind : (n : ℕ) → ((n ≡ number) ⊎ (n ≡ number → ⊥)) →
        (structure_at (slice_set structures number s) n).is_union ≡ (structure_at structures n).is_union
    kind n (inl e) = ap (λ (x : Structure). x.is_union) (own n e) ∙ union
        ∙ ap (λ k. (structure_at structures k).is_union) (sym e)
    kind n (inr e) = ap (λ (x : Structure). x.is_union) (other n e)

    body : (n : ℕ) (b : StructureBody) → (structure_at structures n).body ≡ Some b →
        ((n ≡ number) ⊎ (n ≡ number → ⊥)) → (structure_at (slice_set structures number s) n).body ≡ Some b
    body n b h (inl e) =
        let empty : (structure_at structures n).body ≡ None =
        ap (λ k. (structure_at structures k).body) e ∙ none in
        cc (empty, h)
    body n b h (inr e) = ap (λ (x : Structure). x.body) (other n e) ∙ h

-- the body of a structure that has a layout
some_body : (o : Option StructureBody) (l : Layout) → option_map (λ (b : StructureBody). b.layout) o ≡ Some l →
    (b : StructureBody) × (o ≡ Some b)
some_body None l h = cc
some_body (Some b) l h = (b, refl)

-- an array that has a layout has elements that have one
some_layout : (n : ℕ) (o : Option Layout) (l : Layout) → option_map (times n) o ≡ Some l →
    (k : Layout) × (o ≡ Some k)
some_layout n None l h = cc
some_layout n (Some k) l h = (k, refl)

-- a layout that is there stays
pub layout_stays : (type : CType) (old new : List Structure) (l : Layout) → KeepsStructures old new →
    layout_of type old ≡ Some l → layout_of type new ≡ Some l
layout_stays (Plain (BasicType basic) quals) old new l keeps h = h
layout_stays (Plain (Pointer to) quals) old new l keeps h = h
layout_stays (Plain (Function gives parameters variadic) quals) old new l keeps h = h
layout_stays (Plain (Enumerated k) quals) old new l keeps h = h
layout_stays (Plain (Compound k) quals) old new l keeps h =
    let b = some_body (structure_at old k).body l h in
    let layout : Option StructureBody → Option Layout = option_map (λ (b : StructureBody). b.layout) in
    ap layout (keeps.body k b.0 b.1) ∙ sym (ap layout b.1) ∙ h
layout_stays (Array of None) old new l keeps h = h
layout_stays (Array of (Some m)) old new l keeps h =
    let k = some_layout m (layout_of of old) l h in
    ap (option_map (times m)) (layout_stays of old new k.0 keeps k.1 ∙ sym k.1) ∙ h

-- so does whether such a type has a const member
pub const_stays : (type : CType) (old new : List Structure) (l : Layout) → KeepsStructures old new →
    layout_of type old ≡ Some l → st.has_const type new ≡ st.has_const type old
const_stays (Plain (BasicType basic) quals) old new l keeps h = refl
const_stays (Plain (Pointer to) quals) old new l keeps h = refl
const_stays (Plain (Function gives parameters variadic) quals) old new l keeps h = refl
const_stays (Plain (Enumerated k) quals) old new l keeps h = refl
const_stays (Plain (Compound k) quals) old new l keeps h =
    let b = some_body (structure_at old k).body l h in
    let same : (structure_at new k).body ≡ (structure_at old k).body = keeps.body k b.0 b.1 ∙ sym b.1 in
    ap (λ (o : Option StructureBody). quals.constant || st.body_has_const o) same
const_stays (Array of None) old new l keeps h = cc
const_stays (Array of (Some m)) old new l keeps h =
    let k = some_layout m (layout_of of old) l h in
    const_stays of old new k.0 keeps k.1

-- members are the same as trees, whatever types come later
members_stay : (old new : Types) (members : List Member) → KeepsTypes old new →
    All (λ (m : Member). m.of.0 < count_of old) members →
    map (st.typed_member (all_types new)) members ≡ map (st.typed_member (all_types old)) members
members_stay old new [] keeps h = refl
members_stay old new (m ∷ members) keeps h =
    let first : st.typed_member (all_types new) m ≡ st.typed_member (all_types old) m =
    ap (λ (t : CType). record { name = m.name; of = t; at = m.at })
    (keeps.same m.of (All-head (λ (m : Member). m.of.0 < count_of old) m members h)) in
    let rest = members_stay old new members keeps (All-tail (λ (m : Member). m.of.0 < count_of old) m members h) in
    cc

-- so is a structure or union
structure_stays : (old new : Types) (parts : CompoundParts) → KeepsTypes old new → HasMembersIn old parts →
    st.typed_structure (all_types new) parts ≡ st.typed_structure (all_types old) parts
structure_stays old new parts keeps h =
    ap (λ (b : Option StructureBody). record { is_union = parts.is_union; body = b }) (body parts.body h)
  where
    body : (b : Option CompoundBody) →
        IfSome b (λ (x : CompoundBody). All (λ (m : Member). m.of.0 < count_of old) x.members) →
        option_map (st.typed_body (all_types new)) b ≡ option_map (st.typed_body (all_types old)) b
    body None i = refl
    body (Some x) i =
        ap (λ (ms : List st.TypedMember). Some (record { members = ms; layout = x.layout; has_const = x.has_const }))
        (members_stay old new x.members keeps i)

-- structures and unions are the same trees, whatever types come later
pub structures_stay : (old new : Types) (compounds : List CompoundParts) → KeepsTypes old new →
    All (HasMembersIn old) compounds →
    map (st.typed_structure (all_types new)) compounds ≡ map (st.typed_structure (all_types old)) compounds
structures_stay old new [] keeps h = refl
structures_stay old new (parts ∷ compounds) keeps h =
    let first = structure_stays old new parts keeps (All-head (HasMembersIn old) parts compounds h) in
    let rest = structures_stay old new compounds keeps (All-tail (HasMembersIn old) parts compounds h) in
    cc

-- the structures and unions of a table that has more types
pub same_structures : (old new : Types) → KeepsTypes old new → IsSound old → new.compounds ≡ old.compounds →
    structures_of new ≡ structures_of old
same_structures old new keeps sound same =
    ap (map (st.typed_structure (all_types new))) same ∙ structures_stay old new old.compounds keeps sound.members

-- a table with more types and the same structures grows
pub grows_by_types : (old new : Types) → KeepsTypes old new → structures_of new ≡ structures_of old →
    new.enumerations ≡ old.enumerations → Grows old new
grows_by_types old new keeps same count = record {
  types = keeps;
  structures = subst (λ (s : List Structure). KeepsStructures (structures_of old) s) (sym same)
      (structures_own (structures_of old));
  enumerations = omega (arith, count);
}

-- a type that was there
pub makes_own : (types : Types) (id : TypeId) → id.0 < count_of types → MakesType types types id (type_of types id)
makes_own types id there = record {
  is_there = there;
  stands_for = refl;
  grows = grows_own types;
  compounds = refl;
  structures = refl;
  enumerations = refl;
}
