-- Structures and unions in a table, and their members (6.7.2.1).
use Rattle.std.specs.Prelude.{◌≡◌, ℕ, ◌<◌, Bool, false, List, [], ◌∷◌, ◌++◌, length, map, Option, Some, None}
use Rattle.std.specs.Prelude.{slice_index_or, slice_set, if◌then◌else◌}
use Rattle.std.specs.Str.{bytes_eq}
use Rattle.c_types.specs.declared.member.Member.{Member}
use Rattle.c_types.specs.declared.layout.Layout.{Layout}
use Rattle.c_types.specs.declared.shape.TypeId.{TypeId}
use Rattle.c_types.specs.Types.{CompoundParts, CompoundBody, Types, count_of}
use Rattle.c_types.specs.CType.{CType, Plain, Compound, type_of, no_quals}
use Rattle.c_types.specs.Structures.{Structure, TypedMember, structure_at, structures_of, no_members, any_const}
use Rattle.c_types.specs.Structures.{IsIncomplete}
use Rattle.c_types.specs.Making.{Grows, IsNew}
use Rattle.c_types.specs.Layouts.{layouts_of, places_with, size_with, strictest}

-- a structure or union
abbrev pub IsCompound : CType → Type 0
IsCompound (Plain (Compound number) quals) = Unit {0}
IsCompound other = ⊥

-- a structure or union without its members, as a table keeps it
abbrev pub incomplete : Bool → CompoundParts
incomplete is_union = record { is_union = is_union; body = None }

-- what a table knows of the compound type of a number
abbrev pub parts_at : Types → ℕ → CompoundParts
parts_at types number = slice_index_or types.compounds number (incomplete false)

-- what a table knows of a compound type
abbrev pub compound_at : Types → CType → CompoundParts
compound_at types (Plain (Compound number) quals) = parts_at types number
compound_at types other = incomplete false

abbrev pub members_in : Option CompoundBody → List Member
members_in None = []
members_in (Some body) = body.members

-- the members of a complete compound type; another type has none
abbrev pub members_at : Types → CType → List Member
members_at types type = members_in (compound_at types type).body

-- the type and the place of the first member of that name
abbrev pub member_named : List Member → List ℕ → Option (TypeId × ℕ)
member_named [] name = None
member_named (member ∷ members) name =
    if bytes_eq member.name name then Some (member.of, member.at) else member_named members name

-- the table with one more compound type among the parts
abbrev pub with_compound : Types → CompoundParts → Types
with_compound types parts = record {
  made = types.made;
  functions = types.functions;
  compounds = types.compounds ++ parts ∷ [];
  enumerations = types.enumerations;
}

-- The table has made a structure or union without members, which is none of those that were there.
pub record MakesCompound (old new : Types) (id : TypeId) (is_union : Bool) : Type 0 where
  pub is_there : id.0 < count_of new
  pub stands_for : type_of new id ≡ Plain (Compound (length (structures_of old))) no_quals
  pub is_new : IsNew old (Compound (length (structures_of old)))
  pub grows : Grows old new
  pub compounds : new.compounds ≡ old.compounds ++ incomplete is_union ∷ []
  pub structures : structures_of new ≡ structures_of old ++ no_members is_union ∷ []
  pub incomplete : IsIncomplete (type_of new id) (structures_of new)
  pub enumerations : new.enumerations ≡ old.enumerations

-- members of these names, types and places
abbrev pub members_with : List (List ℕ) → List TypeId → List ℕ → List Member
members_with (name ∷ names) (of ∷ types) (at ∷ places) =
    record { name = name; of = of; at = at } ∷ members_with names types places
members_with (name ∷ names) (of ∷ types) [] = []
members_with (name ∷ names) [] places = []
members_with [] types places = []

-- the same of types as trees
abbrev pub typed_members : List (List ℕ) → List CType → List ℕ → List TypedMember
typed_members (name ∷ names) (of ∷ types) (at ∷ places) =
    record { name = name; of = of; at = at } ∷ typed_members names types places
typed_members (name ∷ names) (of ∷ types) [] = []
typed_members (name ∷ names) [] places = []
typed_members [] types places = []

-- the layout of a structure or union whose members have these
abbrev pub layout_with : Bool → List Layout → Layout
layout_with is_union ls = record { size = size_with is_union ls; align = strictest ls }

-- the body of a structure or union with these members, one of which is const at some depth or none
abbrev pub body_with : Bool → List (List ℕ) → List TypeId → List Layout → Bool → CompoundBody
body_with is_union names types ls constant = record {
  members = members_with names types (places_with is_union ls);
  layout = layout_with is_union ls;
  has_const = constant;
}

-- A structure or union with members of these names, types and layouts, among the structures and unions that were there.
abbrev pub structure_with : Bool → List (List ℕ) → List CType → List Layout → List Structure → Structure
structure_with is_union names types ls structures = record {
  is_union = is_union;
  body = Some (record {
    members = typed_members names types (places_with is_union ls);
    layout = layout_with is_union ls;
    has_const = any_const types structures;
  });
}

abbrev pub number_in : CType → ℕ
number_in (Plain (Compound number) quals) = number
number_in other = 0

-- the table where a compound type has got this body
abbrev pub with_body : Types → ℕ → CompoundParts → Types
with_body types number parts = record {
  made = types.made;
  functions = types.functions;
  compounds = slice_set types.compounds number parts;
  enumerations = types.enumerations;
}

-- The body is that of members with these names and types, each of which has a layout.
pub record IsBodyOf (table : Types) (is_union : Bool) (names : List (List ℕ)) (types : List TypeId)
    (body : CompoundBody) : Type 0 where
  pub layouts : List Layout
  pub are : layouts_of table types ≡ Some layouts
  pub is : body ≡ body_with is_union names types layouts (any_const (map (type_of table) types) (structures_of table))

-- The type has got members of these names and types, laid out in order; nothing else has changed.
pub record Completes (old new : Types) (id : TypeId) (names : List (List ℕ)) (types : List TypeId) : Type 0 where
  pub body : CompoundBody
  pub laid_out : IsBodyOf old (compound_at old (type_of old id)).is_union names types body
  pub changed : new ≡ with_body old (number_in (type_of old id))
      (record { is_union = (compound_at old (type_of old id)).is_union; body = Some body })
  pub structures : structures_of new ≡ slice_set (structures_of old) (number_in (type_of old id))
      (structure_with (structure_at (structures_of old) (number_in (type_of old id))).is_union names
      (map (type_of old) types) laid_out.layouts (structures_of old))
  pub grows : Grows old new
