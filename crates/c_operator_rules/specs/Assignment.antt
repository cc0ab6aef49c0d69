-- Assignments and steps (6.5.2.4, 6.5.3.1, 6.5.16).
use Rattle.std.specs.Prelude.{pos, Bool, true, false, not, ◌&&◌, ◌||◌, List, [], ◌∷◌, Option, Some, None}
use Rattle.std.specs.Prelude.{if◌then◌else◌}
use Rattle.critical_table.specs.declared.pos.Pos.{Pos}
use Rattle.c_types.specs.declared.basic.Basic.{Basic}
use Rattle.c_types.specs.declared.basic.Basic.TheVariants as b
use Rattle.c_types.specs.CType.{CType}
use Rattle.c_types.specs.Layouts.{layout_of}
use Rattle.c_types.specs.Qualified.{without_quals}
use Rattle.c_types.specs.Structures.{Structure, has_const}
use Rattle.c_core.specs.declared.form.Scalar.{Scalar}
use Rattle.c_core.specs.declared.operator.Change.{Change}
use Rattle.c_core.specs.declared.operator.Change.TheVariants as change
use Rattle.c_core.specs.declared.operator.Operator.{Operator}
use Rattle.c_core.specs.declared.operator.Operator.TheVariants as o
use Rattle.c_core.specs.Operations.{is_shift}
use Rattle.c_core.specs.Tree.{Core, At, Node, type_in}
use Rattle.c_core.specs.Tree as tree
use Rattle.c_scopes.specs.Ruled.{Ruled, Demand, ruled}
use Rattle.c_conversions.specs.declared.operand.Category.{Category}
use Rattle.c_conversions.specs.declared.operand.Category.TheVariants as c
use Rattle.c_conversions.specs.Kinds.{basic_type, int_kind, promoted, common}
use Rattle.c_conversions.specs.Versions.{is_array, is_pointer, is_compound, is_scalar}
use Rattle.c_conversions.specs.Contents.{scalar_in, size_in}
use Rattle.c_conversions.specs.Parts.{Part, value}
use Rattle.c_conversions.specs.Converting.{number_as, promoted_value, converts, assigned}
use Rattle.c_expr_rules.specs.Targets.{type_of_part, basic_in, is_complete, may_move, stride}
use Rattle.c_expr_rules.specs.Unary.{is_designator}
use Rattle.c_operator_rules.specs.Binary.{are_integers, are_pointer_and_integer}

-- ---- modifiable lvalues (6.3.2.1p1)

abbrev pub is_lvalue : Category → Bool
is_lvalue (c.Lvalue register) = true
is_lvalue other = false

abbrev pub is_modifiable : List Structure → Part → Bool
is_modifiable structures part = is_lvalue part.category && not (is_array (type_of_part part))
    && is_complete (type_of_part part) structures && not (has_const (type_of_part part) structures)

-- ---- values that are stored: each rule stands at the value (6.5.16.1p1)

-- a value that is passed, returned, or initializes an object of the type (6.5.2.2p2, 6.7.9p11, 6.8.6.4p3)
abbrev pub convert_demands : CType → Part → List Demand
convert_demands type part = (30, converts type part) ∷ []

abbrev pub convert_rule : CType → Part → Ruled Core
convert_rule type part = ruled (convert_demands type part) (assigned type part)

-- The target holds values of a scalar, or of a complete structure or union. Of what is assigned to another nothing is
-- asked at the value, since the target is no modifiable lvalue.
abbrev pub may_hold : List Structure → Part → Bool
may_hold structures target = not (is_designator target.category)
    && (is_scalar (type_of_part target)
    || (is_compound (type_of_part target) && is_complete (type_of_part target) structures))

-- the right operand of `=`
abbrev pub assigned_demands : List Structure → Part → Part → List Demand
assigned_demands structures target part =
    (30, not (may_hold structures target) || converts (type_of_part target) part) ∷ []

abbrev pub assigned_rule : List Structure → Part → Part → Ruled Core
assigned_rule structures target part =
    ruled (assigned_demands structures target part) (assigned (type_of_part target) part)

-- ---- `=` (6.5.16p2, p3; 6.5.16.1p2)

abbrev pub assign_demands : List Structure → Part → List Demand
assign_demands structures target = (22, is_modifiable structures target) ∷ []

abbrev pub store : List Structure → CType → Option Scalar → Core → Core → Node
store structures type (Some scalar) place core = tree.Assign scalar place core
store structures type None place core = tree.AssignWhole (size_in (layout_of type structures)) place core

-- a store, as a value of a type
abbrev pub stored : List Structure → Pos → CType → Core → Core → Part
stored structures at type place core =
    value (At type at (store structures (type_in place) (scalar_in (type_in place)) place core))

abbrev pub assignment : List Structure → Pos → Core → Core → Part
assignment structures at place core = stored structures at (without_quals (type_in place)) place core

abbrev pub assign_rule : List Structure → Pos → Part → Core → Ruled Part
assign_rule structures at target core =
    ruled (assign_demands structures target) (assignment structures at target.core core)

-- ---- compound assignment (6.5.16.2p1 to p3): the number that the object holds is converted, changed and converted
-- back

abbrev pub moves_pointer : Operator → Bool
moves_pointer o.Add = true
moves_pointer o.Subtract = true
moves_pointer other = false

abbrev pub takes_off : Operator → Bool
takes_off o.Subtract = true
takes_off other = false

abbrev pub may_change : Operator → Part → Part → Bool
may_change operator target right =
    are_integers target right || (moves_pointer operator && are_pointer_and_integer target right)

abbrev pub compound_demands : List Structure → Operator → Part → Part → List Demand
compound_demands structures operator target right =
    (22, is_modifiable structures target) ∷ (26, may_change operator target right)
    ∷ (27, may_move structures (type_of_part target)) ∷ []

-- the type in which the operator works
abbrev pub working_type : Operator → Basic → Basic → Basic
working_type operator left right = if is_shift operator then promoted left else common left right

-- how an object of the first type is changed by a value of the second
abbrev pub change_by : List Structure → Operator → CType → CType → Change
change_by structures operator left right =
    if is_pointer left then change.Pointer (stride structures left (takes_off operator))
    else change.Number operator (int_kind (basic_in left))
    (int_kind (working_type operator (basic_in left) (basic_in right)))

-- the count of a shift keeps its own type
abbrev pub operand_in : Operator → Basic → Core → Core
operand_in operator basic core = if is_shift operator then promoted_value core else number_as basic core

-- the right operand, where the left one has this type
abbrev pub changing : Operator → CType → Core → Core
changing operator left core =
    if is_pointer left then core
    else operand_in operator (working_type operator (basic_in left) (basic_in (type_in core))) core

-- an update of a place, in the unqualified version of its type (6.5.16p3)
abbrev pub update : Pos → Change → Core → Core → Part
update at change place core = value (At (without_quals (type_in place)) at (tree.Update change place core))

abbrev pub compound_part : List Structure → Pos → Operator → Part → Part → Part
compound_part structures at operator target right =
    update at (change_by structures operator (type_of_part target) (type_of_part right)) target.core
    (changing operator (type_of_part target) right.core)

abbrev pub compound_rule : List Structure → Pos → Operator → Part → Part → Ruled Part
compound_rule structures at operator target right =
    ruled (compound_demands structures operator target right) (compound_part structures at operator target right)

-- ---- `++` and `--` (6.5.2.4p1, p2; 6.5.3.1p1, p2): by 1, forwards or back

abbrev pub step_demands : List Structure → Part → List Demand
step_demands structures target =
    (22, is_modifiable structures target) ∷ (26, is_scalar (type_of_part target))
    ∷ (27, may_move structures (type_of_part target)) ∷ []

abbrev pub step_operator : Bool → Operator
step_operator back = if back then o.Subtract else o.Add

abbrev pub number_step : Bool → Basic → Change
number_step back basic = change.Number (step_operator back) (int_kind basic) (int_kind (common basic b.Int))

abbrev pub step_change : List Structure → Bool → CType → Change
step_change structures back type =
    if is_pointer type then change.Pointer (stride structures type back) else number_step back (basic_in type)

-- 1, in the type in which a number of this type is changed by it; a pointer moves by an `int`
abbrev pub one : Pos → CType → Core
one at type =
    let basic = common (basic_in type) b.Int in
    At (basic_type basic) at (tree.Number (int_kind basic) (pos 1))

-- `++E` and `--E`
abbrev pub prefix_rule : List Structure → Pos → Bool → Part → Ruled Part
prefix_rule structures at back target =
    ruled (step_demands structures target)
    (update at (step_change structures back (type_of_part target)) target.core
    (one at (type_of_part target)))

-- `E++` and `E--`
abbrev pub step : Pos → Change → Core → Part
step at change place = value (At (without_quals (type_in place)) at (tree.Postfix change place))

abbrev pub postfix_rule : List Structure → Pos → Bool → Part → Ruled Part
postfix_rule structures at back target =
    ruled (step_demands structures target)
    (step at (step_change structures back (type_of_part target)) target.core)
