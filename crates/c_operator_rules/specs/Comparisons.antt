-- Relational and equality operators (6.5.8, 6.5.9).
use Rattle.std.specs.Prelude.{Bool, true, false, not, ◌&&◌, ◌||◌, List, [], ◌∷◌, if◌then◌else◌}
use Rattle.critical_table.specs.declared.pos.Pos.{Pos}
use Rattle.c_types.specs.declared.basic.Basic.TheVariants as b
use Rattle.c_types.specs.CType.{CType}
use Rattle.c_core.specs.declared.operator.Comparison.{Comparison}
use Rattle.c_core.specs.declared.operator.Comparison.TheVariants as c
use Rattle.c_core.specs.declared.operator.Relation.{Relation}
use Rattle.c_core.specs.declared.operator.Relation.TheVariants as r
use Rattle.c_core.specs.Tree.{Core, At}
use Rattle.c_core.specs.Tree as tree
use Rattle.c_scopes.specs.Ruled.{Ruled, Demand, ruled}
use Rattle.c_conversions.specs.Kinds.{basic_type}
use Rattle.c_conversions.specs.Versions.{is_pointer, is_void, is_function, are_versions}
use Rattle.c_conversions.specs.Parts.{Part, value}
use Rattle.c_conversions.specs.Converting.{is_null, pointer_as}
use Rattle.c_expr_rules.specs.Targets.{type_of_part, target_of}
use Rattle.c_operator_rules.specs.declared.joint.Joint.TheVariants as j
use Rattle.c_operator_rules.specs.Binary.{are_integers, joined_numbers, point_to_versions}

-- two integers in their common type (6.5.8p3, 6.5.9p4); the result is an `int` (6.5.8p6)
abbrev pub compared : Pos → Comparison → Part → Part → Part
compared at comparison left right =
    joined_numbers at (basic_type b.Int) (j.Compare comparison) left right

-- ---- `<`, `>`, `<=`, `>=`: pointers to versions of compatible object types (6.5.8p2)

abbrev pub may_relate : Part → Part → Bool
may_relate left right = are_integers left right
    || (point_to_versions left right && not (is_function (target_of (type_of_part left))))

abbrev pub relational_demands : Part → Part → List Demand
relational_demands left right = (28, may_relate left right) ∷ []

abbrev pub comparison_of : Relation → Comparison
comparison_of r.Less = c.Less
comparison_of r.LessEqual = c.LessEqual
comparison_of r.GreaterEqual = c.GreaterEqual
comparison_of r.Greater = c.Greater

abbrev pub ordered : Pos → Relation → Part → Part → Part
ordered at relation left right = value (At (basic_type b.Int) at (tree.Order relation left.core right.core))

abbrev pub relational_part : Pos → Relation → Part → Part → Part
relational_part at relation left right =
    if is_pointer (type_of_part left) then ordered at relation left right
    else compared at (comparison_of relation) left right

abbrev pub relational_rule : Pos → Relation → Part → Part → Ruled Part
relational_rule at relation left right =
    ruled (relational_demands left right) (relational_part at relation left right)

-- ---- `==` and `!=` (6.5.9p2)

-- one type is `void` and the other no function type
abbrev pub is_void_and_object : CType → CType → Bool
is_void_and_object a b = is_void a && not (is_function b)

-- pointers to versions of compatible types, or one to a version of `void` and one to an object type
abbrev pub are_alike : Part → Part → Bool
are_alike left right = is_pointer (type_of_part left) && is_pointer (type_of_part right)
    && (are_versions (target_of (type_of_part left)) (target_of (type_of_part right))
    || is_void_and_object (target_of (type_of_part left)) (target_of (type_of_part right))
    || is_void_and_object (target_of (type_of_part right)) (target_of (type_of_part left)))

-- the first is a pointer and the second a null pointer constant
abbrev pub are_pointer_and_null : Part → Part → Bool
are_pointer_and_null left right = is_pointer (type_of_part left) && is_null right

abbrev pub may_equal : Part → Part → Bool
may_equal left right = are_integers left right || are_pointer_and_null left right || are_pointer_and_null right left
    || are_alike left right

abbrev pub equality_demands : Part → Part → List Demand
equality_demands left right = (28, may_equal left right) ∷ []

-- the equality operators on numbers
abbrev pub equality_comparison : Bool → Comparison
equality_comparison equal = if equal then c.Equal else c.NotEqual

abbrev pub same : Pos → Bool → Core → Core → Part
same at equal left right = value (At (basic_type b.Int) at (tree.Same equal left right))

abbrev pub same_as_left : Pos → Bool → Part → Part → Part
same_as_left at equal left right = same at equal left.core (pointer_as (type_of_part left) right)

abbrev pub same_as_right : Pos → Bool → Part → Part → Part
same_as_right at equal left right = same at equal (pointer_as (type_of_part right) left) right.core

-- A null pointer constant is converted to the type of the other operand, a pointer to an object type to a pointer to
-- `void` where the other is one (6.5.9p5).
abbrev pub same_part : Pos → Bool → Part → Part → Part
same_part at equal left right =
    if are_pointer_and_null left right then same_as_left at equal left right
    else (if is_null left then same_as_right at equal left right
    else (if is_void (target_of (type_of_part left)) then same_as_left at equal left right
    else (if is_void (target_of (type_of_part right)) then same_as_right at equal left right
    else same at equal left.core right.core)))

abbrev pub equality_part : Pos → Bool → Part → Part → Part
equality_part at equal left right =
    if are_integers left right then compared at (equality_comparison equal) left right
    else same_part at equal left right

abbrev pub equality_rule : Pos → Bool → Part → Part → Ruled Part
equality_rule at equal left right = ruled (equality_demands left right) (equality_part at equal left right)

-- ---- all six

abbrev pub comparison_rule : Pos → Comparison → Part → Part → Ruled Part
comparison_rule at c.Less left right = relational_rule at r.Less left right
comparison_rule at c.LessEqual left right = relational_rule at r.LessEqual left right
comparison_rule at c.GreaterEqual left right = relational_rule at r.GreaterEqual left right
comparison_rule at c.Greater left right = relational_rule at r.Greater left right
comparison_rule at c.Equal left right = equality_rule at true left right
comparison_rule at c.NotEqual left right = equality_rule at false left right
