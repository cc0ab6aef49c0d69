-- The typed parts of a node: expressions before and after they are used as values (6.3.2.1).
use Rattle.std.specs.Prelude.{Bool, false, List, Option, Some, None}
use Rattle.c_types.specs.declared.layout.Layout.{Layout}
use Rattle.c_types.specs.CType.{CType, Plain, Array}
use Rattle.c_types.specs.Layouts.{layout_of}
use Rattle.c_types.specs.Qualified.{without_quals}
use Rattle.c_types.specs.Structures.{Structure}
use Rattle.c_types.specs.Types.{Types}
use Rattle.c_core.specs.declared.form.Scalar.{Scalar}
use Rattle.c_core.specs.Tree.{Core, At, Node, type_in, pos_in, node_in}
use Rattle.c_core.specs.Tree as tree
use Rattle.c_core.specs.View.{core_of}
use Rattle.c_core.specs.Ids.{CoreIn}
use Rattle.c_conversions.specs.declared.operand.Category.{Category}
use Rattle.c_conversions.specs.declared.operand.Category.TheVariants as c
use Rattle.c_conversions.specs.declared.operand.Operand.{Operand}
use Rattle.c_conversions.specs.Kinds.{pointer_to}
use Rattle.c_conversions.specs.Contents.{scalar_in}

-- An expression: what it designates, whether it is a null pointer constant of type `void *` (6.3.2.3p3), and its core.
-- The core of a function designator is the pointer to the function.
pub record Part : Type 0 where
  pub category : Category
  pub null : Bool
  pub core : Core

-- what the program holds, by the types of its table
abbrev pub part_of : Types → Operand → Part
part_of types operand = record {
  category = operand.category;
  null = operand.null;
  core = core_of types operand.core;
}

abbrev pub PartIn : Types → Operand → Type 0
PartIn types operand = CoreIn types operand.core

abbrev pub value : Core → Part
value core = record { category = c.Value; null = false; core = core }

-- an lvalue that designates no object declared with `register`
abbrev pub lvalue : Core → Part
lvalue core = record { category = c.Lvalue false; null = false; core = core }

abbrev pub designator : Core → Part
designator core = record { category = c.Designator; null = false; core = core }

-- What an object holds, as a value of a type: of a scalar object what is loaded; the value of a structure or union is
-- its place.
abbrev pub held_value : Option Scalar → CType → Core → Core
held_value None type core = At type (pos_in core) (node_in core)
held_value (Some scalar) type core = At type (pos_in core) (tree.Load scalar core)

-- The value of an object that is no array has the unqualified version of its type (6.3.2.1p2).
abbrev pub loaded : Option Scalar → Core → Core
loaded held core = held_value held (without_quals (type_in core)) core

-- An array becomes a pointer to its first element, bounded by the array where its length is known (6.3.2.1p3).
abbrev pub first_element : Option Layout → Core → Node
first_element None core = tree.AddressOf core
first_element (Some layout) core = tree.Narrow layout.size core

abbrev pub decayed : List Structure → CType → Core → Core
decayed structures element core =
    At (pointer_to element) (pos_in core) (first_element (layout_of (type_in core) structures) core)

abbrev pub object_value_of : List Structure → CType → Core → Core
object_value_of structures (Array of len) core = decayed structures of core
object_value_of structures (Plain bare quals) core = loaded (scalar_in (Plain bare quals)) core

abbrev pub object_value : List Structure → Core → Core
object_value structures core = object_value_of structures (type_in core) core

abbrev pub value_core : List Structure → Category → Core → Core
value_core structures c.Value core = core
value_core structures c.Designator core = core
value_core structures c.Temporary core = object_value structures core
value_core structures (c.Lvalue register) core = object_value structures core

-- an expression that is used as a value (6.3.2.1p2 to p4)
abbrev pub as_value : List Structure → Part → Part
as_value structures part = record {
  category = c.Value;
  null = part.null;
  core = value_core structures part.category part.core;
}
