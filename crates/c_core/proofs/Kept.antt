-- As a table of types grows, what is read by it stays: types, expressions, statements and functions.
use Rattle.std.proofs.Common.{◌≡◌, refl, arith}
use Rattle.c_types.specs.declared.shape.TypeId.{TypeId}
use Rattle.c_types.specs.CType.{type_of}
use Rattle.c_types.specs.Making.{Grows}
use Rattle.c_types.specs.Types.{Types}
use Rattle.c_core.specs.declared.expression.CoreExpr as e
use Rattle.c_core.specs.declared.expression.CoreNode as n
use Rattle.c_core.specs.declared.statement.CoreAction as a
use Rattle.c_core.specs.declared.statement.CoreStatement as s
use Rattle.c_core.specs.declared.function.CoreFunction as f
use Rattle.c_core.specs.Tree.{At, MoreCores}
use Rattle.c_core.specs.Tree as tree
use Rattle.c_core.specs.TreeUnit.{Stands, MoreStatements}
use Rattle.c_core.specs.TreeUnit as unit
use Rattle.c_core.specs.View.{node_of, cores_row, core_of}
use Rattle.c_core.specs.ViewUnit.{action_of, statements_row, statement_of, definition_of}
use Rattle.c_core.specs.Ids.{IdIn, NodeIn, RowIn, CoreIn, ActionIn, ItemsIn, StatementIn, FunctionIn}

module _ (old new : Types) (grown : Grows old new) where
  pub id_in_kept : (id : TypeId) → IdIn old id → IdIn new id
  id_in_kept id h = let count = grown.types.count in omega arith

  pub type_kept : (id : TypeId) → IdIn old id → type_of new id ≡ type_of old id
  type_kept id h = grown.types.same id h

  mutual
    pub node_kept : (node : n.CoreNode) → NodeIn old node → node_of new node ≡ node_of old node
    node_kept (n.Reach' by size align _ of pos node) h =
        λ i. tree.Reach by size align (At (type_kept of h.0 i) pos (node_kept node h.1 i))
    node_kept (n.Member' at _ of pos node) h = λ i. tree.Member at (At (type_kept of h.0 i) pos (node_kept node h.1 i))
    node_kept (n.Load' scalar _ of pos node) h =
        λ i. tree.Load scalar (At (type_kept of h.0 i) pos (node_kept node h.1 i))
    node_kept (n.Narrow' size _ of pos node) h =
        λ i. tree.Narrow size (At (type_kept of h.0 i) pos (node_kept node h.1 i))
    node_kept (n.AddressOf' _ of pos node) h = λ i. tree.AddressOf (At (type_kept of h.0 i) pos (node_kept node h.1 i))
    node_kept (n.Convert' kind _ of pos node) h =
        λ i. tree.Convert kind (At (type_kept of h.0 i) pos (node_kept node h.1 i))
    node_kept (n.Retype' _ of pos node) h = λ i. tree.Retype (At (type_kept of h.0 i) pos (node_kept node h.1 i))
    node_kept (n.NotNull' _ of pos node) h = λ i. tree.NotNull (At (type_kept of h.0 i) pos (node_kept node h.1 i))
    node_kept (n.IsNull' _ of pos node) h = λ i. tree.IsNull (At (type_kept of h.0 i) pos (node_kept node h.1 i))
    node_kept (n.Discard' _ of pos node) h = λ i. tree.Discard (At (type_kept of h.0 i) pos (node_kept node h.1 i))
    node_kept (n.Negate' kind _ of pos node) h =
        λ i. tree.Negate kind (At (type_kept of h.0 i) pos (node_kept node h.1 i))
    node_kept (n.Flip' kind _ of pos node) h = λ i. tree.Flip kind (At (type_kept of h.0 i) pos (node_kept node h.1 i))
    node_kept (n.Not' _ of pos node) h = λ i. tree.Not (At (type_kept of h.0 i) pos (node_kept node h.1 i))
    node_kept (n.Postfix' change _ of pos node) h =
        λ i. tree.Postfix change (At (type_kept of h.0 i) pos (node_kept node h.1 i))
    node_kept (n.ValueObject' size _ of pos node) h =
        λ i. tree.ValueObject size (At (type_kept of h.0 i) pos (node_kept node h.1 i))
    node_kept (n.Arithmetic' operator kind _ of pos node _ of2 pos2 node2) h =
        λ i. tree.Arithmetic operator kind (At (type_kept of h.0.0 i) pos (node_kept node h.0.1 i))
        (At (type_kept of2 h.1.0 i) pos2 (node_kept node2 h.1.1 i))
    node_kept (n.Compare' comparison _ of pos node _ of2 pos2 node2) h =
        λ i. tree.Compare comparison (At (type_kept of h.0.0 i) pos (node_kept node h.0.1 i))
        (At (type_kept of2 h.1.0 i) pos2 (node_kept node2 h.1.1 i))
    node_kept (n.Same' equal _ of pos node _ of2 pos2 node2) h =
        λ i. tree.Same equal (At (type_kept of h.0.0 i) pos (node_kept node h.0.1 i))
        (At (type_kept of2 h.1.0 i) pos2 (node_kept node2 h.1.1 i))
    node_kept (n.Order' relation _ of pos node _ of2 pos2 node2) h =
        λ i. tree.Order relation (At (type_kept of h.0.0 i) pos (node_kept node h.0.1 i))
        (At (type_kept of2 h.1.0 i) pos2 (node_kept node2 h.1.1 i))
    node_kept (n.Step' stride number_first _ of pos node _ of2 pos2 node2) h =
        λ i. tree.Step stride number_first (At (type_kept of h.0.0 i) pos (node_kept node h.0.1 i))
        (At (type_kept of2 h.1.0 i) pos2 (node_kept node2 h.1.1 i))
    node_kept (n.Difference' size _ of pos node _ of2 pos2 node2) h =
        λ i. tree.Difference size (At (type_kept of h.0.0 i) pos (node_kept node h.0.1 i))
        (At (type_kept of2 h.1.0 i) pos2 (node_kept node2 h.1.1 i))
    node_kept (n.AndAlso' _ of pos node _ of2 pos2 node2) h =
        λ i. tree.AndAlso (At (type_kept of h.0.0 i) pos (node_kept node h.0.1 i))
        (At (type_kept of2 h.1.0 i) pos2 (node_kept node2 h.1.1 i))
    node_kept (n.OrElse' _ of pos node _ of2 pos2 node2) h =
        λ i. tree.OrElse (At (type_kept of h.0.0 i) pos (node_kept node h.0.1 i))
        (At (type_kept of2 h.1.0 i) pos2 (node_kept node2 h.1.1 i))
    node_kept (n.Comma' _ of pos node _ of2 pos2 node2) h =
        λ i. tree.Comma (At (type_kept of h.0.0 i) pos (node_kept node h.0.1 i))
        (At (type_kept of2 h.1.0 i) pos2 (node_kept node2 h.1.1 i))
    node_kept (n.Assign' scalar _ of pos node _ of2 pos2 node2) h =
        λ i. tree.Assign scalar (At (type_kept of h.0.0 i) pos (node_kept node h.0.1 i))
        (At (type_kept of2 h.1.0 i) pos2 (node_kept node2 h.1.1 i))
    node_kept (n.AssignWhole' size _ of pos node _ of2 pos2 node2) h =
        λ i. tree.AssignWhole size (At (type_kept of h.0.0 i) pos (node_kept node h.0.1 i))
        (At (type_kept of2 h.1.0 i) pos2 (node_kept node2 h.1.1 i))
    node_kept (n.Update' change _ of pos node _ of2 pos2 node2) h =
        λ i. tree.Update change (At (type_kept of h.0.0 i) pos (node_kept node h.0.1 i))
        (At (type_kept of2 h.1.0 i) pos2 (node_kept node2 h.1.1 i))
    node_kept (n.Cond' _ of pos node _ of2 pos2 node2 _ of3 pos3 node3) h =
        λ i. tree.Cond (At (type_kept of h.0.0 i) pos (node_kept node h.0.1 i))
        (At (type_kept of2 h.1.0 i) pos2 (node_kept node2 h.1.1 i))
        (At (type_kept of3 h.2.0 i) pos3 (node_kept node3 h.2.1 i))
    node_kept (n.Call' used gives _ of pos node _ arguments) h =
        λ i. tree.Call used gives (At (type_kept of h.0.0 i) pos (node_kept node h.0.1 i)) (row_kept arguments h.1 i)
    node_kept n.Null h = refl
    node_kept (n.Number kind value) h = refl
    node_kept (n.Object name) h = refl
    node_kept (n.Function name) h = refl

    pub row_kept : {count : _} (row : n.Row_of-CoreExpr count) → RowIn old row → cores_row new row ≡ cores_row old row
    row_kept n.end_of-CoreExpr h = refl
    row_kept (n.more_of-CoreExpr of pos node rest) h =
        λ i. MoreCores (At (type_kept of h.0.0 i) pos (node_kept node h.0.1 i)) (row_kept rest h.1 i)

  pub core_kept : (core : e.CoreExpr) → CoreIn old core → core_of new core ≡ core_of old core
  core_kept core h = λ i. At (type_kept core.of h.0 i) core.pos (node_kept core.node h.1 i)

  mutual
    pub node_in_kept : (node : n.CoreNode) → NodeIn old node → NodeIn new node
    node_in_kept (n.Reach' by size align _ of pos node) h = (id_in_kept of h.0, node_in_kept node h.1)
    node_in_kept (n.Member' at _ of pos node) h = (id_in_kept of h.0, node_in_kept node h.1)
    node_in_kept (n.Load' scalar _ of pos node) h = (id_in_kept of h.0, node_in_kept node h.1)
    node_in_kept (n.Narrow' size _ of pos node) h = (id_in_kept of h.0, node_in_kept node h.1)
    node_in_kept (n.AddressOf' _ of pos node) h = (id_in_kept of h.0, node_in_kept node h.1)
    node_in_kept (n.Convert' kind _ of pos node) h = (id_in_kept of h.0, node_in_kept node h.1)
    node_in_kept (n.Retype' _ of pos node) h = (id_in_kept of h.0, node_in_kept node h.1)
    node_in_kept (n.NotNull' _ of pos node) h = (id_in_kept of h.0, node_in_kept node h.1)
    node_in_kept (n.IsNull' _ of pos node) h = (id_in_kept of h.0, node_in_kept node h.1)
    node_in_kept (n.Discard' _ of pos node) h = (id_in_kept of h.0, node_in_kept node h.1)
    node_in_kept (n.Negate' kind _ of pos node) h = (id_in_kept of h.0, node_in_kept node h.1)
    node_in_kept (n.Flip' kind _ of pos node) h = (id_in_kept of h.0, node_in_kept node h.1)
    node_in_kept (n.Not' _ of pos node) h = (id_in_kept of h.0, node_in_kept node h.1)
    node_in_kept (n.Postfix' change _ of pos node) h = (id_in_kept of h.0, node_in_kept node h.1)
    node_in_kept (n.ValueObject' size _ of pos node) h = (id_in_kept of h.0, node_in_kept node h.1)
    node_in_kept (n.Arithmetic' operator kind _ of pos node _ of2 pos2 node2) h =
        ((id_in_kept of h.0.0, node_in_kept node h.0.1), (id_in_kept of2 h.1.0, node_in_kept node2 h.1.1))
    node_in_kept (n.Compare' comparison _ of pos node _ of2 pos2 node2) h =
        ((id_in_kept of h.0.0, node_in_kept node h.0.1), (id_in_kept of2 h.1.0, node_in_kept node2 h.1.1))
    node_in_kept (n.Same' equal _ of pos node _ of2 pos2 node2) h =
        ((id_in_kept of h.0.0, node_in_kept node h.0.1), (id_in_kept of2 h.1.0, node_in_kept node2 h.1.1))
    node_in_kept (n.Order' relation _ of pos node _ of2 pos2 node2) h =
        ((id_in_kept of h.0.0, node_in_kept node h.0.1), (id_in_kept of2 h.1.0, node_in_kept node2 h.1.1))
    node_in_kept (n.Step' stride number_first _ of pos node _ of2 pos2 node2) h =
        ((id_in_kept of h.0.0, node_in_kept node h.0.1), (id_in_kept of2 h.1.0, node_in_kept node2 h.1.1))
    node_in_kept (n.Difference' size _ of pos node _ of2 pos2 node2) h =
        ((id_in_kept of h.0.0, node_in_kept node h.0.1), (id_in_kept of2 h.1.0, node_in_kept node2 h.1.1))
    node_in_kept (n.AndAlso' _ of pos node _ of2 pos2 node2) h =
        ((id_in_kept of h.0.0, node_in_kept node h.0.1), (id_in_kept of2 h.1.0, node_in_kept node2 h.1.1))
    node_in_kept (n.OrElse' _ of pos node _ of2 pos2 node2) h =
        ((id_in_kept of h.0.0, node_in_kept node h.0.1), (id_in_kept of2 h.1.0, node_in_kept node2 h.1.1))
    node_in_kept (n.Comma' _ of pos node _ of2 pos2 node2) h =
        ((id_in_kept of h.0.0, node_in_kept node h.0.1), (id_in_kept of2 h.1.0, node_in_kept node2 h.1.1))
    node_in_kept (n.Assign' scalar _ of pos node _ of2 pos2 node2) h =
        ((id_in_kept of h.0.0, node_in_kept node h.0.1), (id_in_kept of2 h.1.0, node_in_kept node2 h.1.1))
    node_in_kept (n.AssignWhole' size _ of pos node _ of2 pos2 node2) h =
        ((id_in_kept of h.0.0, node_in_kept node h.0.1), (id_in_kept of2 h.1.0, node_in_kept node2 h.1.1))
    node_in_kept (n.Update' change _ of pos node _ of2 pos2 node2) h =
        ((id_in_kept of h.0.0, node_in_kept node h.0.1), (id_in_kept of2 h.1.0, node_in_kept node2 h.1.1))
    node_in_kept (n.Cond' _ of pos node _ of2 pos2 node2 _ of3 pos3 node3) h = (
      (id_in_kept of h.0.0, node_in_kept node h.0.1),
      (id_in_kept of2 h.1.0, node_in_kept node2 h.1.1),
      (id_in_kept of3 h.2.0, node_in_kept node3 h.2.1),
    )
    node_in_kept (n.Call' used gives _ of pos node _ arguments) h =
        ((id_in_kept of h.0.0, node_in_kept node h.0.1), row_in_kept arguments h.1)
    node_in_kept n.Null h = tt
    node_in_kept (n.Number kind value) h = tt
    node_in_kept (n.Object name) h = tt
    node_in_kept (n.Function name) h = tt

    pub row_in_kept : {count : _} (row : n.Row_of-CoreExpr count) → RowIn old row → RowIn new row
    row_in_kept n.end_of-CoreExpr h = tt
    row_in_kept (n.more_of-CoreExpr of pos node rest) h =
        ((id_in_kept of h.0.0, node_in_kept node h.0.1), row_in_kept rest h.1)

  pub core_in_kept : (core : e.CoreExpr) → CoreIn old core → CoreIn new core
  core_in_kept core h = (id_in_kept core.of h.0, node_in_kept core.node h.1)

  mutual
    pub action_kept : (action : a.CoreAction) → ActionIn old action → action_of new action ≡ action_of old action
    action_kept (a.If' test _ pos first _ pos2 second) h =
        λ i. unit.If (core_kept test h.0 i) (Stands pos (action_kept first h.1 i))
        (Stands pos2 (action_kept second h.2 i))
    action_kept (a.While' test _ pos body) h =
        λ i. unit.While (core_kept test h.0 i) (Stands pos (action_kept body h.1 i))
    action_kept (a.Do' _ pos body test) h = λ i. unit.Do (Stands pos (action_kept body h.0 i)) (core_kept test h.1 i)
    action_kept (a.For' test step _ pos body) h =
        λ i. unit.For (core_kept test h.0 i) (core_kept step h.1 i) (Stands pos (action_kept body h.2 i))
    action_kept (a.Switch' value locals _ items cases default) h =
        λ i. unit.Switch (core_kept value h.0 i) locals.items (items_kept items h.1 i) cases.items default
    action_kept (a.Block' locals _ items) h = λ i. unit.Block locals.items (items_kept items h i)
    action_kept (a.Initialize slot at content value) h = λ i. unit.Initialize slot at content (core_kept value h i)
    action_kept (a.Evaluate core) h = λ i. unit.Evaluate (core_kept core h i)
    action_kept (a.ReturnValue value) h = λ i. unit.ReturnValue (core_kept value h i)
    action_kept (a.ReturnWhole size value) h = λ i. unit.ReturnWhole size (core_kept value h i)
    action_kept (a.Zero slot size) h = refl
    action_kept (a.InitializeBytes slot at bytes) h = refl
    action_kept (a.Seal slot at len) h = refl
    action_kept a.Break h = refl
    action_kept a.Continue h = refl
    action_kept a.Return h = refl

    pub items_kept : {count : _} (row : a.Row_of-CoreStatement count) → ItemsIn old row
        → statements_row new row ≡ statements_row old row
    items_kept a.end_of-CoreStatement h = refl
    items_kept (a.more_of-CoreStatement pos action rest) h =
        λ i. MoreStatements (Stands pos (action_kept action h.0 i)) (items_kept rest h.1 i)

  pub statement_kept : (statement : s.CoreStatement) → StatementIn old statement
      → statement_of new statement ≡ statement_of old statement
  statement_kept statement h = λ i. Stands statement.pos (action_kept statement.action h i)

  mutual
    pub action_in_kept : (action : a.CoreAction) → ActionIn old action → ActionIn new action
    action_in_kept (a.If' test _ pos first _ pos2 second) h =
        (core_in_kept test h.0, action_in_kept first h.1, action_in_kept second h.2)
    action_in_kept (a.While' test _ pos body) h = (core_in_kept test h.0, action_in_kept body h.1)
    action_in_kept (a.Do' _ pos body test) h = (action_in_kept body h.0, core_in_kept test h.1)
    action_in_kept (a.For' test step _ pos body) h =
        (core_in_kept test h.0, core_in_kept step h.1, action_in_kept body h.2)
    action_in_kept (a.Switch' value locals _ items cases default) h = (core_in_kept value h.0, items_in_kept items h.1)
    action_in_kept (a.Block' locals _ items) h = items_in_kept items h
    action_in_kept (a.Initialize slot at content value) h = core_in_kept value h
    action_in_kept (a.Evaluate core) h = core_in_kept core h
    action_in_kept (a.ReturnValue value) h = core_in_kept value h
    action_in_kept (a.ReturnWhole size value) h = core_in_kept value h
    action_in_kept (a.Zero slot size) h = tt
    action_in_kept (a.InitializeBytes slot at bytes) h = tt
    action_in_kept (a.Seal slot at len) h = tt
    action_in_kept a.Break h = tt
    action_in_kept a.Continue h = tt
    action_in_kept a.Return h = tt

    pub items_in_kept : {count : _} (row : a.Row_of-CoreStatement count) → ItemsIn old row → ItemsIn new row
    items_in_kept a.end_of-CoreStatement h = tt
    items_in_kept (a.more_of-CoreStatement pos action rest) h =
        (action_in_kept action h.0, items_in_kept rest h.1)

  pub statement_in_kept : (statement : s.CoreStatement) → StatementIn old statement → StatementIn new statement
  statement_in_kept statement h = action_in_kept statement.action h

  pub definition_kept : (function : f.CoreFunction) → FunctionIn old function
      → definition_of new function ≡ definition_of old function
  definition_kept function h = λ i. record {
    token = function.token;
    name = function.name;
    type = type_kept function.of h.0 i;
    parameters = (definition_of old function).parameters;
    gives = function.gives;
    slots = function.slots;
    body = statement_kept function.body h.1 i;
  }

  pub function_in_kept : (function : f.CoreFunction) → FunctionIn old function → FunctionIn new function
  function_in_kept function h = (id_in_kept function.of h.0, statement_in_kept function.body h.1)
