-- The parts of an object that a list initializes, in order, and which of them a designator is for (6.7.9p6, p7, p17).
use Rattle.std.specs.Prelude.{ℕ, ◌+◌, ◌*◌, ℤ, pos, int_le, unsigned_abs, nat_lt, length, Bool, true, false, ◌&&◌, ◌||◌}
use Rattle.std.specs.Prelude.{List, [], ◌∷◌, map, Option, Some, None, slice_get, is_some, if◌then◌else◌}
use Rattle.std.specs.Option.{option_map}
use Rattle.std.specs.Str.{bytes_eq}
use Rattle.c_types.specs.CType.{CType, Plain, Array, Compound}
use Rattle.c_types.specs.Layouts.{layout_of}
use Rattle.c_types.specs.Structures.{Structure, TypedMember, structure_at, members_of}
use Rattle.c_types.specs.Types.{Types}
use Rattle.c_types.specs.CType.{type_of}
use Rattle.c_core.specs.Ids.{IdIn}
use Rattle.c_scopes.specs.Ruled.{Ruled, ruled}
use Rattle.c_conversions.specs.Contents.{size_in}
use Rattle.c_conversions.specs.Versions.{is_array, is_compound}
use Rattle.c_initial_rules.specs.declared.parts.Target as code

-- an object, or a part of one: its type, and the byte where it begins
pub record Target : Type 0 where
  pub type : CType
  pub at : ℕ

-- what the program holds of it
abbrev pub target_of : Types → code.Target → Target
target_of types target = record { type = type_of types target.of; at = target.at }

abbrev pub TargetIn : Types → code.Target → Type 0
TargetIn types target = IdIn types target.of

-- ---- the parts in order

-- an array has elements, a structure or union has members (6.2.5p20)
abbrev pub has_parts : CType → Bool
has_parts type = is_array type || is_compound type

abbrev pub is_counted : Option ℕ → ℕ → Bool
is_counted None index = true
is_counted (Some count) index = nat_lt index count

abbrev pub element_target : List Structure → CType → (at index : ℕ) → Target
element_target structures type at index =
    record { type = type; at = at + index * size_in (layout_of type structures) }

abbrev pub member_target : ℕ → TypedMember → Target
member_target at member = record { type = member.of; at = at + member.at }

-- the part of that number, from 0, of an object of a type that begins at a byte
abbrev pub part_of : List Structure → CType → (at index : ℕ) → Option Target
part_of structures (Array of len) at index =
    if is_counted len index then Some (element_target structures of at index) else None
part_of structures (Plain bare quals) at index =
    option_map (member_target at) (slice_get (members_of (Plain bare quals) structures) index)

abbrev pub is_union : CType → List Structure → Bool
is_union (Plain (Compound number) quals) structures = (structure_at structures number).is_union
is_union other structures = false

-- the number of the part behind one; a list initializes one member of a union, so behind that none follows
abbrev pub next_part : List Structure → CType → ℕ → ℕ
next_part structures type index =
    if is_union type structures then length (members_of type structures) else index + 1

-- ---- designators

-- an index by the value of its expression, where that is an integer constant expression
abbrev pub is_index : CType → Option ℤ → Bool
is_index (Array of len) (Some n) = int_le (pos 0) n && is_counted len (unsigned_abs n)
is_index type value = false

abbrev pub index_of : Option ℤ → ℕ
index_of None = 0
index_of (Some n) = unsigned_abs n

-- only an array has elements (6.7.9p6)
abbrev pub index_rule : CType → Option ℤ → Ruled ℕ
index_rule type value = ruled ((17, is_index type value) ∷ []) (index_of value)

-- the number of the first that is this name
abbrev pub number_among : List (List ℕ) → List ℕ → Option ℕ
number_among [] name = None
number_among (first ∷ rest) name =
    if bytes_eq first name then Some 0 else option_map (λ n. n + 1) (number_among rest name)

abbrev pub name_of_member : TypedMember → List ℕ
name_of_member member = member.name

-- the number of the member of a name
abbrev pub member_number : List Structure → CType → List ℕ → Option ℕ
member_number structures type name = number_among (map name_of_member (members_of type structures)) name

abbrev pub or_first : Option ℕ → ℕ
or_first None = 0
or_first (Some n) = n

abbrev pub numbered_rule : Option ℕ → Ruled ℕ
numbered_rule number = ruled ((17, is_some number) ∷ []) (or_first number)

-- only a structure or union has members (6.7.9p7)
abbrev pub member_rule : List Structure → CType → List ℕ → Ruled ℕ
member_rule structures type name = numbered_rule (member_number structures type name)
