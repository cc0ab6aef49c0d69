-- Unary operators on values, `sizeof` and `_Alignof` (6.5.3.3, 6.5.3.4).
use Rattle.std.specs.Prelude.{ℕ, pos, Bool, true, false, not, ◌&&◌, List, [], ◌∷◌, if◌then◌else◌}
use Rattle.critical_table.specs.declared.pos.Pos.{Pos}
use Rattle.c_types.specs.declared.basic.Basic.TheVariants as b
use Rattle.c_types.specs.CType.{CType}
use Rattle.c_types.specs.Layouts.{layout_of}
use Rattle.c_types.specs.Structures.{Structure}
use Rattle.c_core.specs.Tree.{Core, At, Node}
use Rattle.c_core.specs.Tree as tree
use Rattle.c_scopes.specs.Ruled.{Ruled, Demand, ruled}
use Rattle.c_conversions.specs.declared.operand.Category.{Category}
use Rattle.c_conversions.specs.declared.operand.Category.TheVariants as c
use Rattle.c_conversions.specs.Kinds.{basic_type, is_integer, int_kind, promoted}
use Rattle.c_conversions.specs.Versions.{is_pointer, is_scalar}
use Rattle.c_conversions.specs.Contents.{size_in}
use Rattle.c_conversions.specs.Parts.{Part, value}
use Rattle.c_conversions.specs.Converting.{promoted_value}
use Rattle.c_expr_rules.specs.Targets.{type_of_part, basic_in, align_in, is_complete}

abbrev pub sign_demands : Part → List Demand
sign_demands part = (25, is_integer (type_of_part part)) ∷ []

-- `+E` is the promotion alone (6.5.3.3p2)
abbrev pub plus_rule : Part → Ruled Part
plus_rule part = ruled (sign_demands part) (value (promoted_value part.core))

-- `-E` (6.5.3.3p3)
abbrev pub negated : Pos → Part → Part
negated at part =
    let basic = promoted (basic_in (type_of_part part)) in
    value (At (basic_type basic) at (tree.Negate (int_kind basic) (promoted_value part.core)))

abbrev pub minus_rule : Pos → Part → Ruled Part
minus_rule at part = ruled (sign_demands part) (negated at part)

-- `~E` (6.5.3.3p4)
abbrev pub flipped : Pos → Part → Part
flipped at part =
    let basic = promoted (basic_in (type_of_part part)) in
    value (At (basic_type basic) at (tree.Flip (int_kind basic) (promoted_value part.core)))

abbrev pub flip_rule : Pos → Part → Ruled Part
flip_rule at part = ruled (sign_demands part) (flipped at part)

-- `!E` (6.5.3.3p5)
abbrev pub not_demands : Part → List Demand
not_demands part = (25, is_scalar (type_of_part part)) ∷ []

abbrev pub not_node : Core → Bool → Node
not_node core is_pointer = if is_pointer then tree.IsNull core else tree.Not core

abbrev pub not_part : Pos → Part → Part
not_part at part = value (At (basic_type b.Int) at (not_node part.core (is_pointer (type_of_part part))))

abbrev pub not_rule : Pos → Part → Ruled Part
not_rule at part = ruled (not_demands part) (not_part at part)

-- ---- 6.5.3.4p1 to p3, p5: sizes are of type `size_t`, which is `unsigned long`

abbrev pub size_number : Pos → ℕ → Part
size_number at n = value (At (basic_type b.ULong) at (tree.Number (int_kind b.ULong) (pos n)))

abbrev pub measure_demands : List Structure → CType → List Demand
measure_demands structures type = (36, is_complete type structures) ∷ []

abbrev pub size_rule : List Structure → Pos → CType → Ruled Part
size_rule structures at type =
    ruled (measure_demands structures type) (size_number at (size_in (layout_of type structures)))

abbrev pub align_rule : List Structure → Pos → CType → Ruled Part
align_rule structures at type =
    ruled (measure_demands structures type) (size_number at (align_in (layout_of type structures)))

abbrev pub is_designator : Category → Bool
is_designator c.Designator = true
is_designator other = false

-- the operand is not evaluated, and no value is taken of it (6.3.2.1p2 to p4)
abbrev pub size_of_demands : List Structure → Part → List Demand
size_of_demands structures part =
    (36, not (is_designator part.category) && is_complete (type_of_part part) structures) ∷ []

abbrev pub size_of_rule : List Structure → Pos → Part → Ruled Part
size_of_rule structures at part =
    ruled (size_of_demands structures part) (size_number at (size_in (layout_of (type_of_part part) structures)))
