-- The initializers of static objects, which are constants (6.6p7, 6.7.9p4).
use Rattle.std.specs.Prelude.{ℤ, pos, Bool, true, false, List, Option, Some, None, Result, Ok, Err}
use Rattle.std.specs.Prelude.{if◌then◌else◌}
use Rattle.acc_num.specs.Operations.{converted_to}
use Rattle.c_types.specs.declared.basic.Basic.{Basic}
use Rattle.c_types.specs.CType.{CType}
use Rattle.c_types.specs.Structures.{Structure}
use Rattle.c_core.specs.declared.fault.ConstFault.{ConstFault}
use Rattle.c_core.specs.declared.fault.ConstFault.TheVariants.{NotConstant, Value}
use Rattle.c_core.specs.Constant.{constant_of}
use Rattle.c_core.specs.Tree.{type_in}
use Rattle.c_core.specs.TreeUnit.{StaticValue, StaticNumber, StaticNull, StaticAddress, StaticFunction}
use Rattle.c_conversions.specs.Kinds.{integer_in, int_kind, is_integer}
use Rattle.c_conversions.specs.Versions.{is_pointer}
use Rattle.c_conversions.specs.Parts.{Part}
use Rattle.c_initial_rules.specs.declared.addresses.PointerConstant.{PointerConstant}
use Rattle.c_initial_rules.specs.declared.addresses.PointerConstant.TheVariants as p
use Rattle.c_initial_rules.specs.declared.constants.Constancy.{Constancy}
use Rattle.c_initial_rules.specs.declared.constants.Constancy.TheVariants as c
use Rattle.c_initial_rules.specs.Addresses.{pointer_constant}

-- ---- what an expression is as a constant, before it is converted

abbrev pub number_constancy : Result ℤ ConstFault → Constancy
number_constancy (Ok number) = c.Number number
number_constancy (Err NotConstant) = c.Variable
number_constancy (Err Value) = c.Undefined

abbrev pub pointer_constancy : Option PointerConstant → Constancy
pointer_constancy None = c.Variable
pointer_constancy (Some pointer) = c.Pointer pointer

-- An integer constant expression or an address constant (6.6p7); a structure is none.
abbrev pub as_constant : List Structure → Part → Constancy
as_constant structures part = if is_integer (type_in part.core) then number_constancy (constant_of part.core)
    else (if is_pointer (type_in part.core) then pointer_constancy (pointer_constant structures part.core)
    else c.Variable)

abbrev pub is_constant : Constancy → Bool
is_constant c.Variable = false
is_constant other = true

-- no operation in it is undefined (6.6p4)
abbrev pub is_defined : Constancy → Bool
is_defined c.Undefined = false
is_defined other = true

-- ---- the constant in the type of the object

abbrev pub pointer_value : PointerConstant → StaticValue
pointer_value p.Null = StaticNull
pointer_value (p.Address address) = StaticAddress address
pointer_value (p.Function name) = StaticFunction name

-- only a null pointer compares equal to 0 (6.3.1.2)
abbrev pub pointer_truth : PointerConstant → ℤ
pointer_truth p.Null = pos 0
pointer_truth other = pos 1

-- as an integer: of pointers only a truth value
abbrev pub number_value : Basic → Constancy → StaticValue
number_value basic (c.Number number) = StaticNumber (int_kind basic) (converted_to (int_kind basic) number)
number_value basic (c.Pointer pointer) = StaticNumber (int_kind basic) (pointer_truth pointer)
number_value basic other = StaticNumber (int_kind basic) (pos 0)

-- as a pointer: of numbers only a null pointer constant
abbrev pub pointer_or_null : Constancy → StaticValue
pointer_or_null (c.Pointer pointer) = pointer_value pointer
pointer_or_null other = StaticNull

abbrev pub value_in : Option Basic → Constancy → StaticValue
value_in (Some basic) constancy = number_value basic constancy
value_in None constancy = pointer_or_null constancy

-- a constant that may be assigned to an object of the type, as the object holds it (6.7.9p11)
abbrev pub static_value : CType → Constancy → StaticValue
static_value type constancy = value_in (integer_in type) constancy
