-- Well-formed types and structures: what the rules of types leave, and the rules of expressions stand on.
use Rattle.std.specs.Prelude.{◌≡◌, ℕ, ◌*◌, ◌<◌, ◌≤◌, List, [], ◌∷◌, Option, Some, None}
use Rattle.c_types.specs.declared.layout.Layout.{Layout}
use Rattle.c_types.specs.CType.{CType, CTypes, Bare, Plain, Array, BasicType, Pointer, Function, Compound, Enumerated}
use Rattle.c_types.specs.CType.{Nil, Cons}
use Rattle.c_types.specs.Layouts.{layout_of, largest}
use Rattle.c_types.specs.Structures.{Structure, StructureBody, TypedMember, structure_at}
use Rattle.c_core.specs.Types.{IsObject, IsSize}

-- An array has elements of a complete type (6.7.6.2p1), at least one, and is no larger than the largest object.
abbrev pub IsElement : Option ℕ → Option Layout → Type 0
IsElement len None = ⊥
IsElement None (Some element) = Unit {0}
IsElement (Some n) (Some element) = (0 < n) × (n * element.size ≤ largest)

abbrev mutual
  pub TypeFormed : List Structure → CType → Type 0
  TypeFormed structures (Plain bare quals) = BareFormed structures bare
  TypeFormed structures (Array of len) = TypeFormed structures of × IsElement len (layout_of of structures)

  pub BareFormed : List Structure → Bare → Type 0
  BareFormed structures (BasicType basic) = Unit {0}
  BareFormed structures (Pointer to) = TypeFormed structures to
  BareFormed structures (Function gives parameters variadic) =
      TypeFormed structures gives × TypesFormed structures parameters
  BareFormed structures (Compound number) = Unit {0}
  BareFormed structures (Enumerated number) = Unit {0}

  pub TypesFormed : List Structure → CTypes → Type 0
  TypesFormed structures Nil = Unit {0}
  TypesFormed structures (Cons first rest) = TypeFormed structures first × TypesFormed structures rest

-- A complete type has a size, and is aligned to 1, 2, 4 or 8 bytes at most (6.2.8).
pub record LayoutFormed (layout : Layout) : Type 0 where
  pub size : IsSize layout.size
  pub some : 0 < layout.align
  pub align : layout.align ≤ 8

-- A member has an object type (6.7.2.1p3), and begins within the largest object.
pub record MemberFormed (structures : List Structure) (member : TypedMember) : Type 0 where
  pub type : TypeFormed structures member.of
  pub is_object : IsObject member.of
  pub at : member.at < largest

abbrev pub MembersFormed : List Structure → List TypedMember → Type 0
MembersFormed structures [] = Unit {0}
MembersFormed structures (member ∷ rest) = MemberFormed structures member × MembersFormed structures rest

pub record BodyFormed (structures : List Structure) (body : StructureBody) : Type 0 where
  pub members : MembersFormed structures body.members
  pub layout : LayoutFormed body.layout

-- Each complete structure or union is well-formed.
abbrev pub StructuresFormed : List Structure → Type 0
StructuresFormed structures = (number : ℕ) (body : StructureBody) → (structure_at structures number).body ≡ Some body
    → BodyFormed structures body
