-- `&`, `*` and `[ ]` (6.5.2.1, 6.5.3.2).
use Rattle.std.specs.Prelude.{Bool, true, false, not, ◌&&◌, ◌||◌, List, [], ◌∷◌, if◌then◌else◌}
use Rattle.critical_table.specs.declared.pos.Pos.{Pos}
use Rattle.c_types.specs.CType.{CType}
use Rattle.c_types.specs.Layouts.{layout_of}
use Rattle.c_types.specs.Structures.{Structure}
use Rattle.c_core.specs.declared.operator.By.{By}
use Rattle.c_core.specs.declared.operator.By.TheVariants as by
use Rattle.c_core.specs.Tree.{Core, At, Node, type_in, node_in}
use Rattle.c_core.specs.Tree as tree
use Rattle.c_scopes.specs.Ruled.{Ruled, Demand, ruled}
use Rattle.c_conversions.specs.declared.operand.Category.{Category}
use Rattle.c_conversions.specs.declared.operand.Category.TheVariants as c
use Rattle.c_conversions.specs.Kinds.{pointer_to, is_integer}
use Rattle.c_conversions.specs.Versions.{is_pointer, is_function}
use Rattle.c_conversions.specs.Contents.{size_in}
use Rattle.c_conversions.specs.Parts.{Part, value, lvalue, designator}
use Rattle.c_expr_rules.specs.Targets.{type_of_part, target_of, align_in, is_complete, stride}
use Rattle.c_expr_rules.specs.Unary.{is_designator}

-- what a pointer designates, once its target's size and alignment are reached
abbrev pub reached : List Structure → By → Pos → Core → Core
reached structures how at pointer =
    let layout = layout_of (target_of (type_in pointer)) structures in
    At (target_of (type_in pointer)) at (tree.Reach how (size_in layout) (align_in layout) pointer)

-- ---- 6.5.3.2p1, p3

-- an lvalue that designates no object declared with `register`, or a function
abbrev pub has_address : Category → Bool
has_address (c.Lvalue register) = not register
has_address c.Designator = true
has_address c.Temporary = false
has_address c.Value = false

abbrev pub address_demands : Part → List Demand
address_demands part = (23, has_address part.category) ∷ []

-- a place that `*` or `[ ]` made
abbrev pub is_reached : Node → Bool
is_reached (tree.Reach by.Star size align pointer) = true
is_reached other = false

abbrev pub pointer_below : Node → Core → Core
pointer_below (tree.Reach by.Star size align pointer) core = pointer
pointer_below other core = core

abbrev pub place_address : Pos → Core → Core
place_address at core = At (pointer_to (type_in core)) at (tree.AddressOf core)

-- Of `&*E` only `E` is evaluated, and of `&E[F]` only the addition (6.5.3.2p3).
abbrev pub address_core : Pos → Core → Core
address_core at core =
    if is_reached (node_in core) then pointer_below (node_in core) core else place_address at core

abbrev pub address_part : Pos → Part → Part
address_part at part = if is_designator part.category then value part.core else value (address_core at part.core)

abbrev pub address_rule : Pos → Part → Ruled Part
address_rule at part = ruled (address_demands part) (address_part at part)

-- ---- 6.5.3.2p2, p4

abbrev pub may_deref : List Structure → Part → Bool
may_deref structures part = is_pointer (type_of_part part)
    && (is_function (target_of (type_of_part part)) || is_complete (target_of (type_of_part part)) structures)

abbrev pub deref_demands : List Structure → Part → List Demand
deref_demands structures part = (24, may_deref structures part) ∷ []

abbrev pub deref_part : List Structure → Pos → Part → Part
deref_part structures at part =
    if is_function (target_of (type_of_part part)) then designator part.core
    else lvalue (reached structures by.Star at part.core)

abbrev pub deref_rule : List Structure → Pos → Part → Ruled Part
deref_rule structures at part = ruled (deref_demands structures part) (deref_part structures at part)

-- ---- 6.5.2.1: `E[F]` is `*((E) + (F))`, and either may be the pointer

abbrev pub may_index : List Structure → CType → CType → Bool
may_index structures pointer number =
    is_pointer pointer && is_complete (target_of pointer) structures && is_integer number

abbrev pub index_demands : List Structure → Part → Part → List Demand
index_demands structures left right = (
  35,
  may_index structures (type_of_part left) (type_of_part right)
      || may_index structures (type_of_part right) (type_of_part left),
) ∷ []

-- a pointer that has moved by a number of elements
abbrev pub moved : List Structure → Pos → Bool → Bool → Core → Core → Core
moved structures at back number_first pointer number =
    At (type_in pointer) at (tree.Step (stride structures (type_in pointer) back) number_first pointer number)

abbrev pub element : List Structure → Pos → Bool → Bool → Core → Core → Part
element structures at back number_first pointer number =
    lvalue (reached structures by.Star at (moved structures at back number_first pointer number))

abbrev pub index_part : List Structure → Pos → Part → Part → Part
index_part structures at left right =
    if is_pointer (type_of_part left) then element structures at false false left.core right.core
    else element structures at false true right.core left.core

abbrev pub index_rule : List Structure → Pos → Part → Part → Ruled Part
index_rule structures at left right =
    ruled (index_demands structures left right) (index_part structures at left right)
