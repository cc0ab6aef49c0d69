-- What a name stands for, with its type as a tree.
use Rattle.std.specs.Prelude.{ℤ, Bool, true, false}
use Rattle.c_types.specs.CType.{CType, type_of}
use Rattle.c_types.specs.Types.{Types}
use Rattle.c_scopes.specs.declared.binding.Binding.{Binding}
use Rattle.c_scopes.specs.declared.binding.Binding.TheVariants as b
use Rattle.c_scopes.specs.declared.binding.DeclaredObject.{DeclaredObject}
use Rattle.c_scopes.specs.declared.binding.DeclaredFunction.{DeclaredFunction}
use Rattle.c_scopes.specs.declared.binding.TagState.{TagState}

-- an object, a function, a typedef name, a constant of an integer type, a null pointer constant of pointer type, or a
-- tag (6.2.1p1)
pub data Named : Type 0 where
  ObjectOf : (type : CType) (object : DeclaredObject) → Named
  FunctionOf : (type : CType) (function : DeclaredFunction) → Named
  TypedefOf : (type : CType) → Named
  ConstantOf : (type : CType) (value : ℤ) → Named
  NullPointerOf : (type : CType) → Named
  TagOf : (type : CType) (state : TagState) → Named

abbrev pub names_tag : Named → Bool
names_tag (TagOf type state) = true
names_tag other = false

-- a binding of the program, by the types of its table
abbrev pub named_of : Types → Binding → Named
named_of types (b.Object of object) = ObjectOf (type_of types of) object
named_of types (b.Function of function) = FunctionOf (type_of types of) function
named_of types (b.Typedef of) = TypedefOf (type_of types of)
named_of types (b.Constant of value) = ConstantOf (type_of types of) value
named_of types (b.NullPointer of) = NullPointerOf (type_of types of)
named_of types (b.Tag of state) = TagOf (type_of types of) state
