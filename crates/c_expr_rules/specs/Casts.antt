-- Casts (6.5.4). One to `void` is stated among the uses of expressions.
use Rattle.std.specs.Prelude.{Bool, false, ◌&&◌, ◌||◌, List, [], ◌∷◌, Option, Some, None, if◌then◌else◌}
use Rattle.critical_table.specs.declared.pos.Pos.{Pos}
use Rattle.c_types.specs.Compatible.{same_bool}
use Rattle.c_types.specs.CType.{CType, Plain, Pointer}
use Rattle.c_types.specs.Qualified.{without_quals}
use Rattle.c_core.specs.Tree.{Core, At}
use Rattle.c_core.specs.Tree as tree
use Rattle.c_scopes.specs.Ruled.{Ruled, Demand, ruled}
use Rattle.c_conversions.specs.declared.operand.Category.TheVariants as c
use Rattle.c_conversions.specs.Kinds.{int_kind}
use Rattle.c_conversions.specs.Versions.{pointee, is_pointer, is_function, is_plain_void_pointer}
use Rattle.c_conversions.specs.Parts.{Part, value}
use Rattle.c_conversions.specs.Converting.{is_null, is_zero_constant, is_integer_or_truth, truth_value, pointer_node}
use Rattle.c_expr_rules.specs.Targets.{type_of_part, basic_in}

-- both are functions, or neither is (6.3.2.3p7, p8)
abbrev pub are_of_one_sort : CType → Option CType → Bool
are_of_one_sort to None = false
are_of_one_sort to (Some from) = same_bool (is_function to) (is_function from)

-- An integer or a pointer may become a value of a scalar type, but no pointer an integer other than `_Bool`, no integer
-- but a null pointer constant a pointer, and no pointer to a function one to an object, or the other way round.
abbrev pub may_cast : CType → Part → Bool
may_cast (Plain (Pointer to) quals) part = is_null part || are_of_one_sort to (pointee (type_of_part part))
may_cast other part = is_integer_or_truth other (type_of_part part)

abbrev pub cast_demands : CType → Part → List Demand
cast_demands type part = (31, may_cast type part) ∷ []

-- The result has the unqualified version of the type. An integer constant expression with the value 0 that is cast to
-- `void *` is a null pointer constant (6.3.2.3p3).
abbrev pub pointer_core : Pos → CType → Part → Core
pointer_core at type part = At (without_quals type) at (pointer_node (is_null part) part.core)

abbrev pub cast_pointer : Pos → CType → Part → Part
cast_pointer at type part = record {
  category = c.Value;
  null = is_plain_void_pointer type && is_zero_constant part.core;
  core = pointer_core at type part;
}

abbrev pub converted_number : Pos → CType → Core → Part
converted_number at type core =
    value (At (without_quals type) at (tree.Convert (int_kind (basic_in type)) core))

abbrev pub cast_number : Pos → CType → Part → Part
cast_number at type part = converted_number at type (truth_value part.core)

abbrev pub cast_part : Pos → CType → Part → Part
cast_part at type part = if is_pointer type then cast_pointer at type part else cast_number at type part

abbrev pub cast_rule : Pos → CType → Part → Ruled Part
cast_rule at type part = ruled (cast_demands type part) (cast_part at type part)
