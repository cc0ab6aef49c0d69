-- What the program holds as a core expression, by the types of its table.
use Rattle.c_types.specs.CType.{type_of}
use Rattle.c_types.specs.Types.{Types}
use Rattle.c_core.specs.declared.expression.CoreNode as n
use Rattle.c_core.specs.declared.expression.CoreExpr as e
use Rattle.c_core.specs.Tree.{Core, At, Node, Cores, NoCore, MoreCores}
use Rattle.c_core.specs.Tree as tree

abbrev mutual
  pub node_of : Types → n.CoreNode → Node
  node_of types (n.Number kind value) = tree.Number kind value
  node_of types n.Null = tree.Null
  node_of types (n.Object name) = tree.Object name
  node_of types (n.Function name) = tree.Function name
  node_of types (n.Reach' by size align _ of pos node) =
      tree.Reach by size align (At (type_of types of) pos (node_of types node))
  node_of types (n.Member' at _ of pos node) = tree.Member at (At (type_of types of) pos (node_of types node))
  node_of types (n.Load' scalar _ of pos node) = tree.Load scalar (At (type_of types of) pos (node_of types node))
  node_of types (n.Narrow' size _ of pos node) = tree.Narrow size (At (type_of types of) pos (node_of types node))
  node_of types (n.AddressOf' _ of pos node) = tree.AddressOf (At (type_of types of) pos (node_of types node))
  node_of types (n.Convert' kind _ of pos node) = tree.Convert kind (At (type_of types of) pos (node_of types node))
  node_of types (n.Retype' _ of pos node) = tree.Retype (At (type_of types of) pos (node_of types node))
  node_of types (n.NotNull' _ of pos node) = tree.NotNull (At (type_of types of) pos (node_of types node))
  node_of types (n.IsNull' _ of pos node) = tree.IsNull (At (type_of types of) pos (node_of types node))
  node_of types (n.Discard' _ of pos node) = tree.Discard (At (type_of types of) pos (node_of types node))
  node_of types (n.Negate' kind _ of pos node) = tree.Negate kind (At (type_of types of) pos (node_of types node))
  node_of types (n.Flip' kind _ of pos node) = tree.Flip kind (At (type_of types of) pos (node_of types node))
  node_of types (n.Not' _ of pos node) = tree.Not (At (type_of types of) pos (node_of types node))
  node_of types (n.Arithmetic' operator kind _ of pos node _ of2 pos2 node2) =
      tree.Arithmetic operator kind (At (type_of types of) pos (node_of types node))
      (At (type_of types of2) pos2 (node_of types node2))
  node_of types (n.Compare' comparison _ of pos node _ of2 pos2 node2) =
      tree.Compare comparison (At (type_of types of) pos (node_of types node))
      (At (type_of types of2) pos2 (node_of types node2))
  node_of types (n.Same' equal _ of pos node _ of2 pos2 node2) =
      tree.Same equal (At (type_of types of) pos (node_of types node))
      (At (type_of types of2) pos2 (node_of types node2))
  node_of types (n.Order' relation _ of pos node _ of2 pos2 node2) =
      tree.Order relation (At (type_of types of) pos (node_of types node))
      (At (type_of types of2) pos2 (node_of types node2))
  node_of types (n.Step' stride number_first _ of pos node _ of2 pos2 node2) =
      tree.Step stride number_first (At (type_of types of) pos (node_of types node))
      (At (type_of types of2) pos2 (node_of types node2))
  node_of types (n.Difference' size _ of pos node _ of2 pos2 node2) =
      tree.Difference size (At (type_of types of) pos (node_of types node))
      (At (type_of types of2) pos2 (node_of types node2))
  node_of types (n.AndAlso' _ of pos node _ of2 pos2 node2) =
      tree.AndAlso (At (type_of types of) pos (node_of types node)) (At (type_of types of2) pos2 (node_of types node2))
  node_of types (n.OrElse' _ of pos node _ of2 pos2 node2) =
      tree.OrElse (At (type_of types of) pos (node_of types node)) (At (type_of types of2) pos2 (node_of types node2))
  node_of types (n.Cond' _ of pos node _ of2 pos2 node2 _ of3 pos3 node3) =
      tree.Cond (At (type_of types of) pos (node_of types node)) (At (type_of types of2) pos2 (node_of types node2))
      (At (type_of types of3) pos3 (node_of types node3))
  node_of types (n.Comma' _ of pos node _ of2 pos2 node2) =
      tree.Comma (At (type_of types of) pos (node_of types node)) (At (type_of types of2) pos2 (node_of types node2))
  node_of types (n.Assign' scalar _ of pos node _ of2 pos2 node2) =
      tree.Assign scalar (At (type_of types of) pos (node_of types node))
      (At (type_of types of2) pos2 (node_of types node2))
  node_of types (n.AssignWhole' size _ of pos node _ of2 pos2 node2) =
      tree.AssignWhole size (At (type_of types of) pos (node_of types node))
      (At (type_of types of2) pos2 (node_of types node2))
  node_of types (n.Update' change _ of pos node _ of2 pos2 node2) =
      tree.Update change (At (type_of types of) pos (node_of types node))
      (At (type_of types of2) pos2 (node_of types node2))
  node_of types (n.Postfix' change _ of pos node) = tree.Postfix change (At (type_of types of) pos (node_of types node))
  node_of types (n.Call' used gives _ of pos node _ arguments) =
      tree.Call used gives (At (type_of types of) pos (node_of types node)) (cores_row types arguments)
  node_of types (n.ValueObject' size _ of pos node) =
      tree.ValueObject size (At (type_of types of) pos (node_of types node))

  pub cores_row : {count : _} → Types → n.Row_of-CoreExpr count → Cores
  cores_row types n.end_of-CoreExpr = NoCore
  cores_row types (n.more_of-CoreExpr of pos node rest) =
      MoreCores (At (type_of types of) pos (node_of types node)) (cores_row types rest)

abbrev pub core_of : Types → e.CoreExpr → Core
core_of types core = At (type_of types core.of) core.pos (node_of types core.node)
