-- Values as other types (6.3, 6.5.16.1). What may be converted is told apart from what the conversion makes.
use Rattle.std.specs.Prelude.{Bool, false, not, ◌&&◌, ◌||◌, ℤ, List, Option, Some, None, Result, Ok, Err}
use Rattle.std.specs.Prelude.{if◌then◌else◌}
use Rattle.acc_num.specs.Operations.{is_zero}
use Rattle.c_types.specs.declared.basic.Basic.{Basic}
use Rattle.c_types.specs.declared.basic.Basic.TheVariants as b
use Rattle.c_types.specs.CType.{CType, Plain, Pointer, Compound, void}
use Rattle.c_types.specs.Layouts.{layout_of}
use Rattle.c_types.specs.Structures.{Structure}
use Rattle.c_core.specs.declared.fault.ConstFault.{ConstFault}
use Rattle.c_core.specs.Constant.{constant_of}
use Rattle.c_core.specs.Tree.{Core, At, Node, type_in, pos_in}
use Rattle.c_core.specs.Tree as tree
use Rattle.c_conversions.specs.Kinds.{basic_type, pointer_to, integer_in, is_integer, is_basic, int_kind, promoted}
use Rattle.c_conversions.specs.Versions.{pointee, is_pointer, is_compound, is_void, is_function, has_quals_of}
use Rattle.c_conversions.specs.Versions.{are_versions}
use Rattle.c_conversions.specs.Contents.{size_in}
use Rattle.c_conversions.specs.Parts.{Part}

-- ---- numbers

-- an integer in another integer type (6.3.1.2, 6.3.1.3); one that has the type stays as it is
abbrev pub number_as : Basic → Core → Core
number_as to core =
    if is_basic (type_in core) to then core else At (basic_type to) (pos_in core) (tree.Convert (int_kind to) core)

-- an integer with the integer promotions (6.3.1.1p2)
abbrev pub promoted_as : Option Basic → Core → Core
promoted_as None core = core
promoted_as (Some basic) core = number_as (promoted basic) core

abbrev pub promoted_value : Core → Core
promoted_value core = promoted_as (integer_in (type_in core)) core

-- a scalar as a number that is 0 or not: a pointer by whether it is null
abbrev pub truth_value : Core → Core
truth_value core =
    if is_pointer (type_in core) then At (basic_type b.Int) (pos_in core) (tree.NotNull core) else core

-- ---- null pointer constants and pointers

abbrev pub is_zero_value : Result ℤ ConstFault → Bool
is_zero_value (Ok value) = is_zero value
is_zero_value (Err fault) = false

-- an integer constant expression with the value 0
abbrev pub is_zero_constant : Core → Bool
is_zero_constant core = is_integer (type_in core) && is_zero_value (constant_of core)

-- A null pointer constant: an integer constant expression with the value 0, or such an expression cast to `void *`
-- (6.3.2.3p3).
abbrev pub is_null : Part → Bool
is_null part = part.null || is_zero_constant part.core

-- A pointer to a type may become a pointer to a type with all its qualifiers, if both are versions of compatible types
-- or one is `void` and the other no function type (6.5.16.1p1).
abbrev pub targets_convert : CType → CType → Bool
targets_convert to from = has_quals_of from to
    && (are_versions to from || (is_void to && not (is_function from)) || (is_void from && not (is_function to)))

abbrev pub pointer_converts : CType → Option CType → Bool
pointer_converts to None = false
pointer_converts to (Some from) = targets_convert to from

abbrev pub pointer_node : Bool → Core → Node
pointer_node is_null core = if is_null then tree.Null else tree.Retype core

-- a null pointer constant or a pointer as a pointer of this type (6.3.2.3)
abbrev pub pointer_as : CType → Part → Core
pointer_as type part = At type (pos_in part.core) (pointer_node (is_null part) part.core)

-- ---- as if by assignment

abbrev pub is_integer_or_truth : CType → CType → Bool
is_integer_or_truth to from = (is_integer to && is_integer from) || (is_basic to b.Bool && is_pointer from)

-- The value may be assigned to an object of this type (6.5.16.1p1): integers to integers; a structure or union to one of
-- a compatible type; a pointer to a pointer that it may become; a null pointer constant to a pointer; a pointer to
-- `_Bool`.
abbrev pub converts : CType → Part → Bool
converts (Plain (Pointer to) quals) part = is_null part || pointer_converts to (pointee (type_in part.core))
converts (Plain (Compound number) quals) part = are_versions (Plain (Compound number) quals) (type_in part.core)
converts other part = is_integer_or_truth other (type_in part.core)

abbrev pub number_or_same : Option Basic → Core → Core
number_or_same None core = core
number_or_same (Some basic) core = number_as basic (truth_value core)

abbrev pub assigned_pointer : CType → Part → Core
assigned_pointer to part = pointer_as (pointer_to to) part

-- a value that is stored as this type (6.5.16.1p2)
abbrev pub assigned : CType → Part → Core
assigned (Plain (Pointer to) quals) part = assigned_pointer to part
assigned other part = number_or_same (integer_in other) part.core

-- an argument; a structure or union is copied to an object of its own (6.5.2.2p4)
abbrev pub argument : List Structure → Core → Core
argument structures core =
    if is_compound (type_in core)
    then At (type_in core) (pos_in core) (tree.ValueObject (size_in (layout_of (type_in core) structures)) core)
    else core

-- an argument for a parameter of this type (6.5.2.2p7)
abbrev pub passed : List Structure → CType → Part → Core
passed structures to part = argument structures (assigned to part)

-- ---- values that are not used

-- an expression whose value is not used leaves nothing (6.3.2.2)
abbrev pub discarded : Core → Core
discarded core = if is_void (type_in core) then core else At void (pos_in core) (tree.Discard core)
