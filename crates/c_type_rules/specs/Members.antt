-- Members, and structures and unions that get them (6.7.2.1).
use Rattle.std.specs.Prelude.{ℕ, Bool, true, false, not, ◌&&◌, ◌||◌, nat_le, List, [], ◌∷◌, Option, Some, None}
use Rattle.std.specs.Str.{bytes_eq}
use Rattle.c_types.specs.declared.layout.Layout.{Layout}
use Rattle.c_types.specs.CType.{CType}
use Rattle.c_types.specs.Compounds.{structure_with}
use Rattle.c_types.specs.Layouts.{layouts_in, size_with, largest}
use Rattle.c_types.specs.Structures.{Structure}
use Rattle.c_scopes.specs.Ruled.{Ruled, Breaks, Demand, ruled}
use Rattle.c_conversions.specs.Versions.{is_function}
use Rattle.c_type_rules.specs.Arrays.{is_complete, is_no_incomplete, is_without_length}
use Rattle.c_type_rules.specs.Tags.{is_compound}

-- the name is one of these
abbrev pub is_among : List ℕ → List (List ℕ) → Bool
is_among name [] = false
is_among name (first ∷ rest) = bytes_eq first name || is_among name rest

-- A member is a complete object with a name of its own (6.7.2.1p3, 6.2.3); `given` tells that an earlier one has the
-- name.
abbrev pub member_demands : List Structure → Bool → CType → List Demand
member_demands structures given type = (7, is_no_incomplete type structures)
    ∷ (9, not (is_without_length type))
    ∷ (11, not (is_function type) && not given) ∷ []

abbrev pub member_type_rule : List Structure → Bool → CType → Ruled (Unit {0})
member_type_rule structures given type = ruled (member_demands structures given type) tt

-- a member of that name and type behind others
abbrev pub member_rule : List Structure → List (List ℕ) → List ℕ → CType → Ruled (Unit {0})
member_rule structures earlier name type = member_type_rule structures (is_among name earlier) type

-- a declaration of members that has no declarator; `declares` tells that it declares a tag or enumerators (6.7.2.1p2)
abbrev pub no_member_demands : Bool → List Demand
no_member_demands declares = (3, declares) ∷ (11, false) ∷ []

abbrev pub no_member_rule : Bool → Ruled (Unit {0})
no_member_rule declares = ruled (no_member_demands declares) tt

abbrev pub has_some : List (List ℕ) → Bool
has_some [] = false
has_some (first ∷ rest) = true

-- Where a body ends: the grammar has at least one member in it (6.7.2.1p1), and its type is a structure or a union as
-- its word says, whose content was not defined before (6.7.2.3p1).
abbrev pub content_demands : Bool → List (List ℕ) → CType → List Structure → List Demand
content_demands is_union names type structures =
    (1, has_some names) ∷ (6, is_compound is_union type structures && not (is_complete type structures)) ∷ []

abbrev pub content_rule : Bool → List (List ℕ) → CType → List Structure → Ruled (Unit {0})
content_rule is_union names type structures = ruled (content_demands is_union names type structures) tt

abbrev pub body_demands : Bool → List Layout → List Demand
body_demands is_union layouts = (8, nat_le (size_with is_union layouts) largest) ∷ []

abbrev pub laid_out : Bool → List (List ℕ) → List CType → List Structure → Option (List Layout) → Ruled Structure
laid_out is_union names types structures None = Breaks 7
laid_out is_union names types structures (Some layouts) =
    ruled (body_demands is_union layouts) (structure_with is_union names types layouts structures)

-- A structure or union with members of these names and types, each of which is complete.
abbrev pub body_rule : Bool → List (List ℕ) → List CType → List Structure → Ruled Structure
body_rule is_union names types structures = laid_out is_union names types structures (layouts_in types structures)
