-- The members of structures and unions: those that are made, and what is found of them.
use Rattle.std.proofs.Common.{◌≡◌, ℕ, ◌<◌, List, [], ◌∷◌, All, map, refl, ap, sym, ◌∙◌, zero, suc, slice_index_or}
use Rattle.std.proofs.Common.{length}
use Rattle.std.specs.Prelude.{Bool, true, false, Option, Some, None, IfSome, option_map, if◌then◌else◌}
use Rattle.std.specs.Str.{bytes_eq}
use Rattle.std.proofs.lemmas.List.{get_or-map}
use Rattle.std.proofs.lemmas.List.Elements.{All-nil, All-cons, All-head, All-tail}
use Rattle.c_types.specs.declared.member.Member.{Member}
use Rattle.c_types.specs.declared.shape.TypeId.{TypeId}
use Rattle.c_types.specs.declared.parts.CompoundType.{CompoundType}
use Rattle.c_types.specs.declared.table.TypeTable.TheInside.{Inside}
use Rattle.c_types.specs.Types.{Types, CompoundParts, CompoundBody}
use Rattle.c_types.specs.CType.{CType, Plain, Array, BasicType, Pointer, Function, Compound, Enumerated, type_at}
use Rattle.c_types.specs.CType.{all_types}
use Rattle.c_types.specs.Structures as st
use Rattle.c_types.specs.Structures.{Structure, structure_at, structures_of}
use Rattle.c_types.specs.Compounds.{members_with, members_at, members_in, member_named, parts_at, incomplete}
use Rattle.c_types.specs.Inner.{types_of, compound_of}

-- members of types of the table
pub all_members_with : (n : ℕ) (names : List (List ℕ)) (types : List TypeId) (places : List ℕ) →
    All (λ (t : TypeId). t.0 < n) types →
    All (λ (m : Member). m.of.0 < n) (members_with names types places)
all_members_with n [] types places h = All-nil (λ (m : Member). m.of.0 < n)
all_members_with n (name ∷ names) [] places h = All-nil (λ (m : Member). m.of.0 < n)
all_members_with n (name ∷ names) (of ∷ types) [] h = All-nil (λ (m : Member). m.of.0 < n)
all_members_with n (name ∷ names) (of ∷ types) (at ∷ places) h =
    All-cons (λ (m : Member). m.of.0 < n) (record { name = name; of = of; at = at }) (members_with names types places)
    (All-head (λ (t : TypeId). t.0 < n) of types h)
    (all_members_with n names types places (All-tail (λ (t : TypeId). t.0 < n) of types h))

-- a structure or union as a tree, whether the number is given or not
pub structure-at : (types : Types) (n : ℕ) →
    structure_at (structures_of types) n ≡ st.typed_structure (all_types types) (parts_at types n)
structure-at types n = at types.compounds n
  where
    at : (cs : List CompoundParts) (n : ℕ) →
        structure_at (map (st.typed_structure (all_types types)) cs) n
        ≡ st.typed_structure (all_types types) (slice_index_or cs n (incomplete false))
    at [] n = refl
    at (c ∷ cs) zero = refl
    at (c ∷ cs) (suc n) = at cs n

-- what is kept under a number stands for the structure or union
pub structure-kept : (t : Inside) (n : ℕ) (d : CompoundType) → n < length t.compounds.items →
    d ≡ slice_index_or t.compounds.items n d →
    structure_at (structures_of (types_of t)) n ≡ st.typed_structure (all_types (types_of t)) (compound_of d)
structure-kept t n d below read =
    structure-at (types_of t) n
    ∙ ap (st.typed_structure (all_types (types_of t)))
    (get_or-map compound_of t.compounds.items n d (incomplete false) below ∙ ap compound_of (sym read))

-- the members of a type as trees
pub typed-members_at : (types : Types) (type : CType) →
    map (st.typed_member (all_types types)) (members_at types type) ≡ st.members_of type (structures_of types)
typed-members_at types (Plain (Compound n) quals) =
    body (parts_at types n).body ∙ sym (ap (λ (s : Structure). st.members_of_body s.body) (structure-at types n))
  where
    body : (b : Option CompoundBody) →
        map (st.typed_member (all_types types)) (members_in b)
        ≡ st.members_of_body (option_map (st.typed_body (all_types types)) b)
    body None = refl
    body (Some b) = refl
typed-members_at types (Plain (BasicType basic) quals) = refl
typed-members_at types (Plain (Pointer to) quals) = refl
typed-members_at types (Plain (Function gives parameters variadic) quals) = refl
typed-members_at types (Plain (Enumerated n) quals) = refl
typed-members_at types (Array of len) = refl

-- a member that is found is one of the members
pub named_there : (n : ℕ) (members : List Member) (name : List ℕ) → All (λ (m : Member). m.of.0 < n) members →
    IfSome (member_named members name) (λ (m : TypeId × ℕ). m.0.0 < n)
named_there n [] name h = tt
named_there n (m ∷ members) name h =
    at (bytes_eq m.name name) (named_there n members name (All-tail (λ (m : Member). m.of.0 < n) m members h))
  where
    at : (b : Bool) → IfSome (member_named members name) (λ (m : TypeId × ℕ). m.0.0 < n) →
        IfSome (if b then Some (m.of, m.at) else member_named members name) (λ (m : TypeId × ℕ). m.0.0 < n)
    at true rest = All-head (λ (m : Member). m.of.0 < n) m members h
    at false rest = rest

-- a member is found as a tree where it is found
pub typed_named : (all : List CType) (members : List Member) (name : List ℕ) →
    option_map (λ (m : TypeId × ℕ). (type_at all m.0, m.1)) (member_named members name)
    ≡ st.typed_member_named (map (st.typed_member all) members) name
typed_named all [] name = refl
typed_named all (m ∷ members) name = at (bytes_eq m.name name) (typed_named all members name)
  where
    at : (b : Bool) →
        option_map (λ (m : TypeId × ℕ). (type_at all m.0, m.1)) (member_named members name)
        ≡ st.typed_member_named (map (st.typed_member all) members) name →
        option_map (λ (m : TypeId × ℕ). (type_at all m.0, m.1))
        (if b then Some (m.of, m.at) else member_named members name)
        ≡ (if b then Some (type_at all m.of, m.at) else st.typed_member_named (map (st.typed_member all) members) name)
    at true rest = refl
    at false rest = rest

-- a structure or union that is incomplete as a tree has no body in the table
pub none-kept : (types : Types) (n : ℕ) → (structure_at (structures_of types) n).body ≡ None →
    (parts_at types n).body ≡ None
none-kept types n h = none (parts_at types n).body (sym (ap (λ (s : Structure). s.body) (structure-at types n)) ∙ h)
  where
    none : (b : Option CompoundBody) → option_map (st.typed_body (all_types types)) b ≡ None → b ≡ None
    none None e = refl
    none (Some b) e = cc
