-- What the program holds as core statements, functions and static objects.
use Rattle.std.specs.Prelude.{List, map}
use Rattle.c_types.specs.CType.{type_of}
use Rattle.c_types.specs.Types.{Types}
use Rattle.c_core.specs.declared.statement.CoreAction as n
use Rattle.c_core.specs.declared.statement.CoreStatement as s
use Rattle.c_core.specs.declared.function.Parameter as p
use Rattle.c_core.specs.declared.function.CoreFunction as f
use Rattle.c_core.specs.declared.static_object.CoreStatic as o
use Rattle.c_core.specs.declared.static_object.StaticItem as i
use Rattle.c_core.specs.declared.static_object.StaticValue as v
use Rattle.c_core.specs.declared.static_object.StaticValue.TheVariants as value
use Rattle.c_core.specs.View.{core_of}
use Rattle.c_core.specs.TreeUnit.{Statement, Stands, Action, Statements, NoStatement, MoreStatements, Parameter}
use Rattle.c_core.specs.TreeUnit.{Definition, StaticValue, StaticNumber, StaticNull, StaticAddress, StaticFunction}
use Rattle.c_core.specs.TreeUnit.{StaticBytes, StaticItem, Static, Program}
use Rattle.c_core.specs.TreeUnit as tree

abbrev mutual
  pub action_of : Types → n.CoreAction → Action
  action_of types (n.Block' locals _ items) = tree.Block locals.items (statements_row types items)
  action_of types (n.Zero slot size) = tree.Zero slot size
  action_of types (n.Initialize slot at content value) = tree.Initialize slot at content (core_of types value)
  action_of types (n.InitializeBytes slot at bytes) = tree.InitializeBytes slot at bytes.items
  action_of types (n.Seal slot at len) = tree.SealBytes slot at len
  action_of types (n.Evaluate core) = tree.Evaluate (core_of types core)
  action_of types (n.If' test _ pos first _ pos2 second) =
      tree.If (core_of types test) (Stands pos (action_of types first)) (Stands pos2 (action_of types second))
  action_of types (n.While' test _ pos body) = tree.While (core_of types test) (Stands pos (action_of types body))
  action_of types (n.Do' _ pos body test) = tree.Do (Stands pos (action_of types body)) (core_of types test)
  action_of types (n.For' test step _ pos body) =
      tree.For (core_of types test) (core_of types step) (Stands pos (action_of types body))
  action_of types (n.Switch' value locals _ items cases default) =
      tree.Switch (core_of types value) locals.items (statements_row types items) cases.items default
  action_of types n.Break = tree.Break
  action_of types n.Continue = tree.Continue
  action_of types n.Return = tree.Return
  action_of types (n.ReturnValue value) = tree.ReturnValue (core_of types value)
  action_of types (n.ReturnWhole size value) = tree.ReturnWhole size (core_of types value)

  pub statements_row : {count : _} → Types → n.Row_of-CoreStatement count → Statements
  statements_row types n.end_of-CoreStatement = NoStatement
  statements_row types (n.more_of-CoreStatement pos action rest) =
      MoreStatements (Stands pos (action_of types action)) (statements_row types rest)

abbrev pub statement_of : Types → s.CoreStatement → Statement
statement_of types statement = Stands statement.pos (action_of types statement.action)

abbrev pub parameter_of : p.Parameter → Parameter
parameter_of parameter = record { content = parameter.content; seals = parameter.seals.items }

abbrev pub definition_of : Types → f.CoreFunction → Definition
definition_of types function = record {
  token = function.token;
  name = function.name;
  type = type_of types function.of;
  parameters = map parameter_of function.parameters.items;
  gives = function.gives;
  slots = function.slots;
  body = statement_of types function.body;
}

abbrev pub value_of : v.StaticValue → StaticValue
value_of (value.Number kind number) = StaticNumber kind number
value_of value.Null = StaticNull
value_of (value.Address address) = StaticAddress address
value_of (value.Function name) = StaticFunction name
value_of (value.Bytes bytes) = StaticBytes bytes.items

abbrev pub item_of : i.StaticItem → StaticItem
item_of item = record { at = item.at; value = value_of item.value }

abbrev pub static_of : o.CoreStatic → Static
static_of static = record {
  token = static.token;
  size = static.size;
  items = map item_of static.items.items;
  seals = static.seals.items;
}

-- a unit as the program holds it
pub record Parts : Type 0 where
  pub types : Types
  pub functions : List f.CoreFunction
  pub statics : List o.CoreStatic

-- the unit with its types as trees
abbrev pub program_of : Parts → Program
program_of parts = record {
  types = parts.types;
  functions = map (definition_of parts.types) parts.functions;
  statics = map static_of parts.statics;
}
