-- Structures and unions as trees: what the number of a compound type stands for, whatever the ids of its members.
use Rattle.std.specs.Prelude.{◌≡◌, ℕ, Bool, false, ◌||◌, List, [], ◌∷◌, map, Option, Some, None, option_map}
use Rattle.std.specs.Prelude.{slice_index_or, if◌then◌else◌}
use Rattle.std.specs.Str.{bytes_eq}
use Rattle.c_types.specs.declared.member.Member.{Member}
use Rattle.c_types.specs.declared.layout.Layout.{Layout}
use Rattle.c_types.specs.Types.{CompoundBody, CompoundParts, Types}
use Rattle.c_types.specs.CType.{CType, Plain, Array, Bare, Compound, type_at, all_types}

-- a member: its name, its type, and the byte at which it begins
pub record TypedMember : Type 0 where
  pub name : List ℕ
  pub of : CType
  pub at : ℕ

-- the members of a complete structure or union in order, its layout, and whether it has a const member at any depth
pub record StructureBody : Type 0 where
  pub members : List TypedMember
  pub layout : Layout
  pub has_const : Bool

-- a structure or union; it has no body while it is incomplete (6.2.5p22)
pub record Structure : Type 0 where
  pub is_union : Bool
  pub body : Option StructureBody

-- a structure or union without its members
abbrev pub no_members : Bool → Structure
no_members is_union = record { is_union = is_union; body = None }

-- the structure or union of a number
abbrev pub structure_at : List Structure → ℕ → Structure
structure_at structures number = slice_index_or structures number (no_members false)

-- a structure or union that has not got its members yet
abbrev pub IsIncomplete : CType → List Structure → Type 0
IsIncomplete (Plain (Compound number) quals) structures = (structure_at structures number).body ≡ None
IsIncomplete other structures = ⊥

-- what a table keeps of a structure or union, with the types that its ids stand for
abbrev pub typed_member : List CType → Member → TypedMember
typed_member types member = record { name = member.name; of = type_at types member.of; at = member.at }

abbrev pub typed_body : List CType → CompoundBody → StructureBody
typed_body types body = record {
  members = map (typed_member types) body.members;
  layout = body.layout;
  has_const = body.has_const;
}

abbrev pub typed_structure : List CType → CompoundParts → Structure
typed_structure types parts = record { is_union = parts.is_union; body = option_map (typed_body types) parts.body }

-- the structures and unions of a table, by their numbers
abbrev pub structures_of : Types → List Structure
structures_of types = map (typed_structure (all_types types)) types.compounds

abbrev pub body_has_const : Option StructureBody → Bool
body_has_const None = false
body_has_const (Some body) = body.has_const

-- a structure or union that has a const member at any depth
abbrev pub has_const_member : Bare → List Structure → Bool
has_const_member (Compound number) structures = body_has_const (structure_at structures number).body
has_const_member other structures = false

-- An object of this type is const, or has a const member at any depth (6.3.2.1p1); an array is so by its elements.
abbrev pub has_const : CType → List Structure → Bool
has_const (Plain bare quals) structures = quals.constant || has_const_member bare structures
has_const (Array of len) structures = has_const of structures

-- one of these types is const, or has a const member at any depth
abbrev pub any_const : List CType → List Structure → Bool
any_const [] structures = false
any_const (type ∷ types) structures = has_const type structures || any_const types structures

abbrev pub members_of_body : Option StructureBody → List TypedMember
members_of_body None = []
members_of_body (Some body) = body.members

-- the members of a complete structure or union; another type has none
abbrev pub members_of : CType → List Structure → List TypedMember
members_of (Plain (Compound number) quals) structures = members_of_body (structure_at structures number).body
members_of other structures = []

-- the type and the place of the first member of that name
abbrev pub typed_member_named : List TypedMember → List ℕ → Option (CType × ℕ)
typed_member_named [] name = None
typed_member_named (member ∷ members) name =
    if bytes_eq member.name name then Some (member.of, member.at) else typed_member_named members name
