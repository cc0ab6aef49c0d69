-- Parts of structures and unions by the members that a table keeps.
use Rattle.std.proofs.Common.{◌≡◌, ◌∙◌, ℕ, zero, suc, ◌+◌, ◌<◌, ◌≤◌, List, [], ◌∷◌, length, map, slice_get, get_or, drop}
use Rattle.std.proofs.Common.{refl, ap, sym, arith}
use Rattle.std.specs.Prelude.{Bool, true, false, Option, Some, None, option_map, if◌then◌else◌}
use Rattle.std.specs.Str.{bytes_eq}
use Rattle.std.proofs.lemmas.List.{drop_more, drop_all}
use Rattle.c_types.specs.CType.{CType, Plain, Array, BasicType, Pointer, Function, Compound, Enumerated, all_types}
use Rattle.c_types.specs.Compounds.{IsCompound, compound_at}
use Rattle.c_types.specs.declared.member.Member.{Member}
use Rattle.c_types.specs.Structures.{Structure, TypedMember, members_of, structures_of, typed_member}
use Rattle.c_types.specs.Types.{Types, CompoundBody}
use Rattle.c_types.proofs.Members.{structure-at}
use Rattle.c_initial_rules.specs.declared.parts.Target as code
use Rattle.c_initial_rules.specs.Parts.{is_union, member_number, member_target, name_of_member, number_among}
use Rattle.c_initial_rules.specs.Parts.{part_of, target_of}
use Rattle.c_initial_rules.proofs.Sealed.{no_members_of}

-- the part of a structure or union is a member
of_compound : (structures : List Structure) (type : CType) → IsCompound type → (at index : ℕ)
    → part_of structures type at index ≡ option_map (member_target at) (slice_get (members_of type structures) index)
of_compound structures (Plain (Compound number) quals) h at index = refl
of_compound structures (Plain (BasicType basic) quals) h at index = absurd h
of_compound structures (Plain (Pointer to) quals) h at index = absurd h
of_compound structures (Plain (Function gives parameters variadic) quals) h at index = absurd h
of_compound structures (Plain (Enumerated number) quals) h at index = absurd h
of_compound structures (Array of len) h at index = absurd h

abbrev placed : ℕ → Member → code.Target
placed at member = record { of = member.of; at = at + member.at }

-- a member as a part, by its id and as a tree
as_tree : (types : Types) (at : ℕ) (members : List Member) (index : ℕ)
    → option_map (target_of types) (option_map (placed at) (slice_get members index))
    ≡ option_map (member_target at) (slice_get (map (typed_member (all_types types)) members) index)
as_tree types at [] index = refl
as_tree types at (first ∷ rest) zero = refl
as_tree types at (first ∷ rest) (suc index) = as_tree types at rest index

module _ (types : Types) (type : CType) (compound : IsCompound type) (at index : ℕ) where
  pub member_part : (members : List Member) (part : Option code.Target)
      → map (typed_member (all_types types)) members ≡ members_of type (structures_of types)
      → part ≡ option_map (placed at) (slice_get members index)
      → option_map (target_of types) part ≡ part_of (structures_of types) type at index
  member_part members part typed e =
      ap (option_map (target_of types)) e ∙ as_tree types at members index
      ∙ ap (λ (all : List TypedMember). option_map (member_target at) (slice_get all index)) typed
      ∙ sym (of_compound (structures_of types) type compound at index)

  pub no_part : None ≡ option_map (λ (b : CompoundBody). b.members) (compound_at types type).body
      → None ≡ part_of (structures_of types) type at index
  no_part h =
      ap (λ (all : List TypedMember). option_map (member_target at) (slice_get all index)) (sym (no_members_of types type h))
      ∙ sym (of_compound (structures_of types) type compound at index)

-- a union is one by its tree too
pub union_as_tree : (types : Types) (type : CType) → IsCompound type
    → (compound_at types type).is_union ≡ is_union type (structures_of types)
union_as_tree types (Plain (Compound number) quals) h =
    sym (ap (λ (s : Structure). s.is_union) (structure-at types number))
union_as_tree types (Plain (BasicType basic) quals) h = absurd h
union_as_tree types (Plain (Pointer to) quals) h = absurd h
union_as_tree types (Plain (Function gives parameters variadic) quals) h = absurd h
union_as_tree types (Plain (Enumerated number) quals) h = absurd h
union_as_tree types (Array of len) h = absurd h

count_as_tree : (types : Types) (members : List Member)
    → length (map (typed_member (all_types types)) members) ≡ length members
count_as_tree types [] = refl
count_as_tree types (first ∷ rest) = ap suc (count_as_tree types rest)

pub member_count : (types : Types) (type : CType) (members : List Member)
    → map (typed_member (all_types types)) members ≡ members_of type (structures_of types)
    → length members ≡ length (members_of type (structures_of types))
member_count types type members typed = sym (count_as_tree types members) ∙ ap length typed

pub no_member_count : (types : Types) (type : CType)
    → None ≡ option_map (λ (b : CompoundBody). b.members) (compound_at types type).body
    → 0 ≡ length (members_of type (structures_of types))
no_member_count types type h = ap length (sym (no_members_of types type h))

-- ---- names of members

abbrev pub name_of : Member → List ℕ
name_of member = member.name

names_as_tree : (types : Types) (members : List Member)
    → map name_of_member (map (typed_member (all_types types)) members) ≡ map name_of members
names_as_tree types [] = refl
names_as_tree types (first ∷ rest) = ap (λ (names : List (List ℕ)). first.name ∷ names) (names_as_tree types rest)

pub number_as_tree : (types : Types) (type : CType) (members : List Member) (name : List ℕ)
    → map (typed_member (all_types types)) members ≡ members_of type (structures_of types)
    → number_among (map name_of members) name ≡ member_number (structures_of types) type name
number_as_tree types type members name typed =
    ap (λ (names : List (List ℕ)). number_among names name) (sym (names_as_tree types members))
    ∙ ap (λ (all : List TypedMember). number_among (map name_of_member all) name) typed

pub no_number : (types : Types) (type : CType) (name : List ℕ)
    → None ≡ option_map (λ (b : CompoundBody). b.members) (compound_at types type).body
    → None ≡ member_number (structures_of types) type name
no_number types type name h =
    ap (λ (all : List TypedMember). number_among (map name_of_member all) name) (sym (no_members_of types type h))

-- so many more
abbrev pub counted : ℕ → Option ℕ → Option ℕ
counted more found = option_map (λ n. n + more) found

counted_again : (i : ℕ) (found : Option ℕ) → counted i (option_map (λ n. n + 1) found) ≡ counted (i + 1) found
counted_again i None = refl
counted_again i (Some n) = ap Some (omega arith)

counted_none : (found : Option ℕ) → counted 0 found ≡ found
counted_none None = refl
counted_none (Some n) = ap Some (omega arith)

pub counted_all : (members : List Member) (name : List ℕ)
    → number_among (map name_of members) name ≡ counted 0 (number_among (map name_of members) name)
counted_all members name = sym (counted_none (number_among (map name_of members) name))

opened : (members : List Member) (name : List ℕ) (i : ℕ) (d : Member) → i < length members
    → number_among (map name_of (drop i members)) name
    ≡ if bytes_eq (get_or members i d).name name then Some 0
    else option_map (λ n. n + 1) (number_among (map name_of (drop (i + 1) members)) name)
opened members name i d h =
    ap (λ (left : List Member). number_among (map name_of left) name) (drop_more members i d h)

module _ (members : List Member) (name : List ℕ) (i : ℕ) (d : Member) (within : i < length members)
    (whole : Option ℕ) (left : whole ≡ counted i (number_among (map name_of (drop i members)) name)) where
  pub found_here : bytes_eq (get_or members i d).name name ≡ true → whole ≡ Some i
  found_here same = left ∙ ap (counted i) (opened members name i d within
      ∙ ap (λ (test : Bool). if test then Some 0
      else option_map (λ n. n + 1) (number_among (map name_of (drop (i + 1) members)) name)) same)
      ∙ ap Some (omega arith)

  pub found_later : bytes_eq (get_or members i d).name name ≡ false
      → whole ≡ counted (i + 1) (number_among (map name_of (drop (i + 1) members)) name)
  found_later other = left ∙ ap (counted i) (opened members name i d within
      ∙ ap (λ (test : Bool). if test then Some 0
      else option_map (λ n. n + 1) (number_among (map name_of (drop (i + 1) members)) name)) other)
      ∙ counted_again i (number_among (map name_of (drop (i + 1) members)) name)

pub found_nowhere : (members : List Member) (name : List ℕ) (i : ℕ) → length members ≤ i → (whole : Option ℕ)
    → whole ≡ counted i (number_among (map name_of (drop i members)) name) → whole ≡ None
found_nowhere members name i h whole left =
    left ∙ ap (λ (rest : List Member). counted i (number_among (map name_of rest) name)) (drop_all i members h)
