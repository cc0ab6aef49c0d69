-- The conditional operator and the comma (6.5.15, 6.5.17).
use Rattle.std.specs.Prelude.{Bool, ◌&&◌, ◌||◌, List, [], ◌∷◌, if◌then◌else◌}
use Rattle.critical_table.specs.declared.pos.Pos.{Pos}
use Rattle.c_types.specs.declared.shape.Quals.{Quals}
use Rattle.c_types.specs.CType.{CType, void}
use Rattle.c_types.specs.Composite.{composite_of}
use Rattle.c_types.specs.Qualified.{both_quals, with_quals, without_quals}
use Rattle.c_core.specs.Tree.{Core, At, type_in}
use Rattle.c_core.specs.Tree as tree
use Rattle.c_scopes.specs.Ruled.{Ruled, Demand, ruled}
use Rattle.c_conversions.specs.Kinds.{basic_type, pointer_to}
use Rattle.c_conversions.specs.Versions.{is_pointer, is_compound, is_void, are_versions, own_quals, own_unqualified}
use Rattle.c_conversions.specs.Parts.{Part, value}
use Rattle.c_conversions.specs.Converting.{assigned}
use Rattle.c_expr_rules.specs.Targets.{type_of_part, target_of}
use Rattle.c_operator_rules.specs.Binary.{are_integers, common_basic}
use Rattle.c_operator_rules.specs.Comparisons.{are_alike, are_pointer_and_null}

-- ---- `?:` (6.5.15p3)

abbrev pub are_same_compound : Part → Part → Bool
are_same_compound left right =
    is_compound (type_of_part left) && are_versions (type_of_part left) (type_of_part right)

abbrev pub are_void : Part → Part → Bool
are_void left right = is_void (type_of_part left) && is_void (type_of_part right)

abbrev pub have_common_type : Part → Part → Bool
have_common_type left right = are_integers left right || are_same_compound left right || are_void left right
    || are_pointer_and_null left right || are_pointer_and_null right left || are_alike left right

abbrev pub conditional_demands : Part → Part → List Demand
conditional_demands left right = (29, have_common_type left right) ∷ []

-- Of versions of compatible types their composite type; else one is `void`, and `void` (6.5.15p6).
abbrev pub common_base : CType → CType → CType
common_base left right =
    if are_versions left right then composite_of (own_unqualified left) (own_unqualified right) else void

abbrev pub common_quals : CType → CType → Quals
common_quals left right = both_quals (own_quals left) (own_quals right)

-- what two pointers have in common has the qualifiers of what both point to (6.5.15p6)
abbrev pub common_target : CType → CType → CType
common_target left right = with_quals (common_quals left right) (common_base left right)

abbrev pub pointer_to_common : CType → CType → CType
pointer_to_common left right = pointer_to (common_target left right)

abbrev pub common_pointer : Part → Part → CType
common_pointer left right =
    if are_pointer_and_null left right then without_quals (type_of_part left)
    else (if are_pointer_and_null right left then without_quals (type_of_part right)
    else pointer_to_common (target_of (type_of_part left)) (target_of (type_of_part right)))

-- the type of the result (6.5.15p5, p6)
abbrev pub conditional_type : Part → Part → CType
conditional_type left right =
    if are_integers left right
    then basic_type (common_basic left right)
    else (if is_pointer (type_of_part left) || is_pointer (type_of_part right) then common_pointer left right
    else without_quals (type_of_part left))

-- both parts become values of that type; a structure stays at its place
abbrev pub with_right : Pos → CType → Core → Core → Part → Part
with_right at type test left right = value (At type at (tree.Cond test left (assigned type right)))

abbrev pub chosen : Pos → CType → Core → Part → Part → Part
chosen at type test left right = with_right at type test (assigned type left) right

abbrev pub conditional_part : Pos → Core → Part → Part → Part
conditional_part at test left right = chosen at (conditional_type left right) test left right

abbrev pub conditional_rule : Pos → Core → Part → Part → Ruled Part
conditional_rule at test left right =
    ruled (conditional_demands left right) (conditional_part at test left right)

-- ---- `,` (6.5.17p2): the left operand leaves nothing

abbrev pub comma_part : Pos → Core → Part → Part
comma_part at left right = value (At (type_of_part right) at (tree.Comma left right.core))
