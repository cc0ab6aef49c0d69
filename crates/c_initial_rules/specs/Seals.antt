-- Which bytes of an object are const once it has got its first value (6.7.3p6).
use Rattle.std.specs.Prelude.{ℕ, zero, suc, ◌+◌, List, [], ◌∷◌, ◌++◌, map, nat_lt, Option, Some, None, if◌then◌else◌}
use Rattle.c_types.specs.CType.{CType, Plain, Array, Bare, Compound, quals_of}
use Rattle.c_types.specs.Layouts.{layout_of}
use Rattle.c_types.specs.Structures.{Structure, TypedMember, structure_at, members_of_body, has_const_member}
use Rattle.c_core.specs.declared.function.Range.{Range}
use Rattle.c_conversions.specs.Contents.{size_in}

-- the same ranges so many bytes later
abbrev pub later : ℕ → Range → Range
later by range = record { at = by + range.at; len = range.len }

abbrev pub all_later : ℕ → List Range → List Range
all_later by ranges = map (later by) ranges

-- those of so many elements, of which the first begins at a byte
unfoldable pub of_elements : (count : ℕ) → (at size : ℕ) → List Range → List Range
of_elements zero at size ranges = []
of_elements (suc count) at size ranges = all_later at ranges ++ of_elements count (at + size) size ranges

abbrev pub whole_range : ℕ → List Range
whole_range size = record { at = 0; len = size } ∷ []

-- Those of members in order, by what those of a type are.
abbrev pub of_members : (CType → List Range) → List TypedMember → List Range
of_members in_type [] = []
of_members in_type (member ∷ members) = all_later member.at (in_type member.of) ++ of_members in_type members

-- Those of a type, by what those of the members of a structure or union are: the whole of what is const, and else the
-- parts in order of declaration. Inside a const part none is counted again.
abbrev pub bare_sealed : (ℕ → List Range) → Bare → List Structure → List Range
bare_sealed inside (Compound number) structures =
    if has_const_member (Compound number) structures then inside number else []
bare_sealed inside other structures = []

abbrev pub count_in : Option ℕ → ℕ
count_in None = 0
count_in (Some n) = n

abbrev pub type_sealed : (ℕ → List Range) → CType → List Structure → List Range
type_sealed inside (Plain bare quals) structures =
    if quals.constant then whole_range (size_in (layout_of (Plain bare quals) structures))
    else bare_sealed inside bare structures
type_sealed inside (Array of len) structures =
    if (quals_of of).constant then whole_range (size_in (layout_of (Array of len) structures))
    else of_elements (count_in len) 0 (size_in (layout_of of structures)) (type_sealed inside of structures)

-- The members of the structure or union of a number, where structures lie at most so deep in one another.
unfoldable pub structure_sealed : (depth : ℕ) → List Structure → ℕ → List Range
structure_sealed zero structures number = []
structure_sealed (suc depth) structures number =
    of_members (λ type. type_sealed (structure_sealed depth structures) type structures)
    (members_of_body (structure_at structures number).body)

-- how deep structures may lie in one another
abbrev pub most_nested : ℕ
most_nested = 4096

-- the const parts of an object of a type, in order of declaration
abbrev pub const_parts : CType → List Structure → List Range
const_parts type structures = type_sealed (structure_sealed most_nested structures) type structures

-- ---- in rising place; where places are equal, which they are in unions, in order of declaration

-- behind the ranges that begin no later
abbrev pub behind_earlier : Range → List Range → List Range
behind_earlier range [] = range ∷ []
behind_earlier range (first ∷ rest) = if nat_lt range.at first.at then range ∷ first ∷ rest
    else first ∷ behind_earlier range rest

-- one behind the other among those that are in place
abbrev pub put_in_place : (in_place : List Range) → List Range → List Range
put_in_place in_place [] = in_place
put_in_place in_place (range ∷ rest) = put_in_place (behind_earlier range in_place) rest

-- the const parts in the order in which they are sealed
abbrev pub seals_of : CType → List Structure → List Range
seals_of type structures = put_in_place [] (const_parts type structures)
