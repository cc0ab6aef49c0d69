-- Operators on two values that give a number or a pointer; `&&` and `||` (6.5.5 to 6.5.7, 6.5.10 to 6.5.14).
use Rattle.std.specs.Prelude.{Bool, true, false, ◌&&◌, ◌||◌, List, [], ◌∷◌, if◌then◌else◌}
use Rattle.critical_table.specs.declared.pos.Pos.{Pos}
use Rattle.c_types.specs.declared.basic.Basic.{Basic}
use Rattle.c_types.specs.declared.basic.Basic.TheVariants as b
use Rattle.c_types.specs.CType.{CType}
use Rattle.c_types.specs.Layouts.{layout_of}
use Rattle.c_types.specs.Structures.{Structure}
use Rattle.c_core.specs.declared.operator.Operator.{Operator}
use Rattle.c_core.specs.declared.operator.Operator.TheVariants as o
use Rattle.c_core.specs.Operations.{is_shift}
use Rattle.c_core.specs.Tree.{Core, At}
use Rattle.c_core.specs.Tree as tree
use Rattle.c_scopes.specs.Ruled.{Ruled, Demand, ruled}
use Rattle.c_conversions.specs.Kinds.{basic_type, is_integer, int_kind, promoted, common}
use Rattle.c_conversions.specs.Versions.{is_pointer, is_scalar, are_versions}
use Rattle.c_conversions.specs.Contents.{size_in}
use Rattle.c_conversions.specs.Parts.{Part, value}
use Rattle.c_conversions.specs.Converting.{number_as, promoted_value, truth_value}
use Rattle.c_expr_rules.specs.Targets.{type_of_part, target_of, basic_in, may_move}
use Rattle.c_expr_rules.specs.Pointers.{moved}
use Rattle.c_operator_rules.specs.declared.joint.Joint.{Joint}
use Rattle.c_operator_rules.specs.declared.joint.Joint.TheVariants as j
use Rattle.c_operator_rules.specs.Joined.{joined}

-- ---- numbers (6.5.5p2, p3; 6.5.6p4; 6.5.7p2, p3; 6.5.10p2, p3)

abbrev pub are_integers : Part → Part → Bool
are_integers left right = is_integer (type_of_part left) && is_integer (type_of_part right)

-- both are promoted; the result of a shift has the type of its left operand (6.5.7p3)
abbrev pub shifted : Pos → Operator → Part → Part → Part
shifted at operator left right =
    let basic = promoted (basic_in (type_of_part left)) in
    value (At (basic_type basic) at
    (tree.Arithmetic operator (int_kind basic) (promoted_value left.core) (promoted_value right.core)))

-- the common type of two integers (6.3.1.8)
abbrev pub common_basic : Part → Part → Basic
common_basic left right = common (basic_in (type_of_part left)) (basic_in (type_of_part right))

-- two integers, each in their common type, as operands of a node of this type
abbrev pub joined_numbers : Pos → CType → Joint → Part → Part → Part
joined_numbers at type joint left right =
    let basic = common_basic left right in
    value (At type at (joined joint (number_as basic left.core) (number_as basic right.core)))

-- the result has the common type
abbrev pub with_common : Pos → Operator → Part → Part → Part
with_common at operator left right =
    let basic = common_basic left right in
    joined_numbers at (basic_type basic) (j.Arithmetic operator (int_kind basic)) left right

abbrev pub arithmetic_part : Pos → Operator → Part → Part → Part
arithmetic_part at operator left right =
    if is_shift operator then shifted at operator left right else with_common at operator left right

abbrev pub arithmetic_demands : Part → Part → List Demand
arithmetic_demands left right = (26, are_integers left right) ∷ []

abbrev pub arithmetic_rule : Pos → Operator → Part → Part → Ruled Part
arithmetic_rule at operator left right =
    ruled (arithmetic_demands left right) (arithmetic_part at operator left right)

-- ---- `+` (6.5.6p2, p8)

abbrev pub are_pointer_and_integer : Part → Part → Bool
are_pointer_and_integer left right = is_pointer (type_of_part left) && is_integer (type_of_part right)

abbrev pub may_add : Part → Part → Bool
may_add left right = are_integers left right || are_pointer_and_integer left right || are_pointer_and_integer right left

abbrev pub both_move : List Structure → Part → Part → Bool
both_move structures left right =
    may_move structures (type_of_part left) && may_move structures (type_of_part right)

abbrev pub moved_value : List Structure → Pos → Bool → Bool → Core → Core → Part
moved_value structures at back number_first pointer number =
    value (moved structures at back number_first pointer number)

abbrev pub add_demands : List Structure → Part → Part → List Demand
add_demands structures left right = (26, may_add left right) ∷ (27, both_move structures left right) ∷ []

abbrev pub add_part : List Structure → Pos → Part → Part → Part
add_part structures at left right =
    if is_pointer (type_of_part left) then moved_value structures at false false left.core right.core
    else (if is_pointer (type_of_part right) then moved_value structures at false true right.core left.core
    else with_common at o.Add left right)

abbrev pub add_rule : List Structure → Pos → Part → Part → Ruled Part
add_rule structures at left right = ruled (add_demands structures left right) (add_part structures at left right)

-- ---- `-` (6.5.6p3, p8, p9): a difference of pointers is of type `ptrdiff_t`, which is `long`

abbrev pub point_to_versions : Part → Part → Bool
point_to_versions left right = is_pointer (type_of_part left) && is_pointer (type_of_part right)
    && are_versions (target_of (type_of_part left)) (target_of (type_of_part right))

abbrev pub may_subtract : Part → Part → Bool
may_subtract left right =
    are_integers left right || are_pointer_and_integer left right || point_to_versions left right

abbrev pub subtract_demands : List Structure → Part → Part → List Demand
subtract_demands structures left right =
    (26, may_subtract left right) ∷ (27, both_move structures left right) ∷ []

abbrev pub pointer_difference : List Structure → Pos → Part → Part → Part
pointer_difference structures at left right =
    value (At (basic_type b.Long) at
    (tree.Difference (size_in (layout_of (target_of (type_of_part left)) structures)) left.core right.core))

abbrev pub subtract_part : List Structure → Pos → Part → Part → Part
subtract_part structures at left right =
    if is_pointer (type_of_part right) then pointer_difference structures at left right
    else (if is_pointer (type_of_part left) then moved_value structures at true false left.core right.core
    else with_common at o.Subtract left right)

abbrev pub subtract_rule : List Structure → Pos → Part → Part → Ruled Part
subtract_rule structures at left right =
    ruled (subtract_demands structures left right) (subtract_part structures at left right)

-- ---- all operators that have a compound assignment

abbrev pub binary_rule : List Structure → Pos → Operator → Part → Part → Ruled Part
binary_rule structures at o.Add left right = add_rule structures at left right
binary_rule structures at o.Subtract left right = subtract_rule structures at left right
binary_rule structures at other left right = arithmetic_rule at other left right

-- ---- `&&` and `||` (6.5.13p2, p3; 6.5.14p2, p3)

abbrev pub are_scalars : Part → Part → Bool
are_scalars left right = is_scalar (type_of_part left) && is_scalar (type_of_part right)

abbrev pub logical_demands : Part → Part → List Demand
logical_demands left right = (26, are_scalars left right) ∷ []

-- the truth values of both; the result is an `int`
abbrev pub joined_truths : Pos → Joint → Part → Part → Part
joined_truths at joint left right =
    value (At (basic_type b.Int) at (joined joint (truth_value left.core) (truth_value right.core)))

abbrev pub and_rule : Pos → Part → Part → Ruled Part
and_rule at left right = ruled (logical_demands left right) (joined_truths at j.AndAlso left right)

abbrev pub or_rule : Pos → Part → Part → Ruled Part
or_rule at left right = ruled (logical_demands left right) (joined_truths at j.OrElse left right)
