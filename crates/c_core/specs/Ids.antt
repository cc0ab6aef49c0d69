-- Each id in a core tree is one of the table's.
use Rattle.std.specs.Prelude.{◌<◌, List, [], ◌∷◌}
use Rattle.c_types.specs.declared.shape.TypeId.{TypeId}
use Rattle.c_types.specs.Types.{Types, count_of}
use Rattle.c_core.specs.declared.expression.CoreNode as n
use Rattle.c_core.specs.declared.expression.CoreExpr as e
use Rattle.c_core.specs.declared.statement.CoreAction as a
use Rattle.c_core.specs.declared.statement.CoreStatement as s
use Rattle.c_core.specs.declared.function.CoreFunction as f

abbrev pub IdIn : Types → TypeId → Type 0
IdIn types id = id.0 < count_of types

abbrev mutual
  pub NodeIn : Types → n.CoreNode → Type 0
  NodeIn types (n.Reach' by size align _ of pos node) = IdIn types of × NodeIn types node
  NodeIn types (n.Member' at _ of pos node) = IdIn types of × NodeIn types node
  NodeIn types (n.Load' scalar _ of pos node) = IdIn types of × NodeIn types node
  NodeIn types (n.Narrow' size _ of pos node) = IdIn types of × NodeIn types node
  NodeIn types (n.AddressOf' _ of pos node) = IdIn types of × NodeIn types node
  NodeIn types (n.Convert' kind _ of pos node) = IdIn types of × NodeIn types node
  NodeIn types (n.Retype' _ of pos node) = IdIn types of × NodeIn types node
  NodeIn types (n.NotNull' _ of pos node) = IdIn types of × NodeIn types node
  NodeIn types (n.IsNull' _ of pos node) = IdIn types of × NodeIn types node
  NodeIn types (n.Discard' _ of pos node) = IdIn types of × NodeIn types node
  NodeIn types (n.Negate' kind _ of pos node) = IdIn types of × NodeIn types node
  NodeIn types (n.Flip' kind _ of pos node) = IdIn types of × NodeIn types node
  NodeIn types (n.Not' _ of pos node) = IdIn types of × NodeIn types node
  NodeIn types (n.Arithmetic' operator kind _ of pos node _ of2 pos2 node2) = (IdIn types of × NodeIn types node)
      × (IdIn types of2 × NodeIn types node2)
  NodeIn types (n.Compare' comparison _ of pos node _ of2 pos2 node2) = (IdIn types of × NodeIn types node)
      × (IdIn types of2 × NodeIn types node2)
  NodeIn types (n.Same' equal _ of pos node _ of2 pos2 node2) = (IdIn types of × NodeIn types node)
      × (IdIn types of2 × NodeIn types node2)
  NodeIn types (n.Order' relation _ of pos node _ of2 pos2 node2) = (IdIn types of × NodeIn types node)
      × (IdIn types of2 × NodeIn types node2)
  NodeIn types (n.Step' stride number_first _ of pos node _ of2 pos2 node2) = (IdIn types of × NodeIn types node)
      × (IdIn types of2 × NodeIn types node2)
  NodeIn types (n.Difference' size _ of pos node _ of2 pos2 node2) = (IdIn types of × NodeIn types node)
      × (IdIn types of2 × NodeIn types node2)
  NodeIn types (n.AndAlso' _ of pos node _ of2 pos2 node2) = (IdIn types of × NodeIn types node)
      × (IdIn types of2 × NodeIn types node2)
  NodeIn types (n.OrElse' _ of pos node _ of2 pos2 node2) = (IdIn types of × NodeIn types node)
      × (IdIn types of2 × NodeIn types node2)
  NodeIn types (n.Cond' _ of pos node _ of2 pos2 node2 _ of3 pos3 node3) = (IdIn types of × NodeIn types node)
      × (IdIn types of2 × NodeIn types node2) × (IdIn types of3 × NodeIn types node3)
  NodeIn types (n.Comma' _ of pos node _ of2 pos2 node2) = (IdIn types of × NodeIn types node)
      × (IdIn types of2 × NodeIn types node2)
  NodeIn types (n.Assign' scalar _ of pos node _ of2 pos2 node2) = (IdIn types of × NodeIn types node)
      × (IdIn types of2 × NodeIn types node2)
  NodeIn types (n.AssignWhole' size _ of pos node _ of2 pos2 node2) = (IdIn types of × NodeIn types node)
      × (IdIn types of2 × NodeIn types node2)
  NodeIn types (n.Update' change _ of pos node _ of2 pos2 node2) = (IdIn types of × NodeIn types node)
      × (IdIn types of2 × NodeIn types node2)
  NodeIn types (n.Postfix' change _ of pos node) = IdIn types of × NodeIn types node
  NodeIn types (n.Call' used gives _ of pos node _ arguments) = (IdIn types of × NodeIn types node)
      × RowIn types arguments
  NodeIn types (n.ValueObject' size _ of pos node) = IdIn types of × NodeIn types node
  NodeIn types n.Null = Unit {0}
  NodeIn types (n.Number kind value) = Unit {0}
  NodeIn types (n.Object name) = Unit {0}
  NodeIn types (n.Function name) = Unit {0}

  pub RowIn : {count : _} → Types → n.Row_of-CoreExpr count → Type 0
  RowIn types n.end_of-CoreExpr = Unit {0}
  RowIn types (n.more_of-CoreExpr of pos node rest) = (IdIn types of × NodeIn types node) × RowIn types rest

abbrev pub CoreIn : Types → e.CoreExpr → Type 0
CoreIn types core = IdIn types core.of × NodeIn types core.node

abbrev pub CoresIn : Types → List e.CoreExpr → Type 0
CoresIn types [] = Unit {0}
CoresIn types (first ∷ rest) = CoreIn types first × CoresIn types rest

abbrev mutual
  pub ActionIn : Types → a.CoreAction → Type 0
  ActionIn types (a.Block' locals _ items) = ItemsIn types items
  ActionIn types (a.Zero slot size) = Unit {0}
  ActionIn types (a.Initialize slot at content value) = CoreIn types value
  ActionIn types (a.InitializeBytes slot at bytes) = Unit {0}
  ActionIn types (a.Seal slot at len) = Unit {0}
  ActionIn types (a.Evaluate core) = CoreIn types core
  ActionIn types (a.If' test _ pos first _ pos2 second) = CoreIn types test × ActionIn types first
      × ActionIn types second
  ActionIn types (a.While' test _ pos body) = CoreIn types test × ActionIn types body
  ActionIn types (a.Do' _ pos body test) = ActionIn types body × CoreIn types test
  ActionIn types (a.For' test step _ pos body) = CoreIn types test × CoreIn types step × ActionIn types body
  ActionIn types (a.Switch' value locals _ items cases default) = CoreIn types value × ItemsIn types items
  ActionIn types a.Break = Unit {0}
  ActionIn types a.Continue = Unit {0}
  ActionIn types a.Return = Unit {0}
  ActionIn types (a.ReturnValue value) = CoreIn types value
  ActionIn types (a.ReturnWhole size value) = CoreIn types value

  pub ItemsIn : {count : _} → Types → a.Row_of-CoreStatement count → Type 0
  ItemsIn types a.end_of-CoreStatement = Unit {0}
  ItemsIn types (a.more_of-CoreStatement pos action rest) = ActionIn types action × ItemsIn types rest

abbrev pub StatementIn : Types → s.CoreStatement → Type 0
StatementIn types statement = ActionIn types statement.action

abbrev pub StatementsIn : Types → List s.CoreStatement → Type 0
StatementsIn types [] = Unit {0}
StatementsIn types (first ∷ rest) = StatementIn types first × StatementsIn types rest

abbrev pub FunctionIn : Types → f.CoreFunction → Type 0
FunctionIn types function = IdIn types function.of × StatementIn types function.body

abbrev pub FunctionsIn : Types → List f.CoreFunction → Type 0
FunctionsIn types [] = Unit {0}
FunctionsIn types (first ∷ rest) = FunctionIn types first × FunctionsIn types rest
