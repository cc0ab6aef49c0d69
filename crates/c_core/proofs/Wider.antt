-- Where more functions, static objects and automatic objects can be named, what is well-typed stays so.
use Rattle.std.proofs.Common.{List, [], ◌∷◌}
use Rattle.std.specs.Prelude.{IsSome}
use Rattle.critical_table.specs.declared.pos.Pos.{Pos}
use Rattle.c_core.specs.declared.named.ObjectName.{ObjectName}
use Rattle.c_core.specs.declared.named.ObjectName.TheVariants as object
use Rattle.c_core.specs.declared.named.FunctionName.{FunctionName}
use Rattle.c_core.specs.declared.named.FunctionName.TheVariants as function
use Rattle.c_core.specs.Tree.{Core, At, Node, Cores, NoCore, MoreCores}
use Rattle.c_core.specs.Tree as tree
use Rattle.c_core.specs.declared.statement.Local.{Local}
use Rattle.c_core.specs.Named.{Names, NamesObject, NamesFunction, Widens, number_at, objects_with}
use Rattle.c_core.specs.Typed.{CoreTyped, NodeTyped, CoresTyped}
use Rattle.c_core.specs.TreeUnit.{Statement, Stands, Action, Statements, NoStatement, MoreStatements, Definition}
use Rattle.c_core.specs.TreeUnit as unit
use Rattle.c_core.specs.TypedUnit.{Flow, in_loop, in_switch, StatementTyped, ActionTyped, StatementsTyped}
use Rattle.c_core.specs.TypedUnit.{parameter_objects, DefinitionTyped, DefinitionsTyped}

module _ (old new : Names) (widens : Widens old new) where
  object_wider : (name : ObjectName) → NamesObject old name → NamesObject new name
  object_wider (object.Slot slot) h = widens.objects slot h
  object_wider (object.Static token) h = widens.statics token h

  function_wider : (name : FunctionName) → NamesFunction old.functions name → NamesFunction new.functions name
  function_wider (function.Unit token) h = widens.functions token h
  function_wider (function.Library number) h = h

  mutual
    pub core_wider : (core : Core) → CoreTyped old core → CoreTyped new core
    core_wider (At of pos node) h = (h.0, node_wider node h.1)

    pub node_wider : (node : Node) → NodeTyped old node → NodeTyped new node
    node_wider (tree.Number kind value) h = h
    node_wider tree.Null h = h
    node_wider (tree.Object name) h = object_wider name h
    node_wider (tree.Function name) h = function_wider name h
    node_wider (tree.Call used gives function arguments) h =
        (h.0, core_wider function h.1, cores_wider arguments h.2, h.3, h.4, h.5)
    node_wider (tree.Reach by size align pointer) h = (h.0, h.1, h.2, h.3, core_wider pointer h.4)
    node_wider (tree.Member at place) h = (h.0, h.1, core_wider place h.2)
    node_wider (tree.Load scalar place) h = (h.0, core_wider place h.1)
    node_wider (tree.Narrow size place) h = (h.0, h.1, core_wider place h.2)
    node_wider (tree.AddressOf place) h = (h.0, core_wider place h.1)
    node_wider (tree.Convert kind value) h = (h.0, core_wider value h.1)
    node_wider (tree.Retype pointer) h = (h.0, core_wider pointer h.1)
    node_wider (tree.NotNull pointer) h = (h.0, core_wider pointer h.1)
    node_wider (tree.IsNull pointer) h = (h.0, core_wider pointer h.1)
    node_wider (tree.Discard value) h = (h.0, core_wider value h.1)
    node_wider (tree.Negate kind value) h = (h.0, core_wider value h.1)
    node_wider (tree.Flip kind value) h = (h.0, core_wider value h.1)
    node_wider (tree.Not value) h = (h.0, core_wider value h.1)
    node_wider (tree.Arithmetic operator kind left right) h = (h.0, core_wider left h.1, h.2, core_wider right h.3)
    node_wider (tree.Compare comparison left right) h = (h.0, core_wider left h.1, h.2, core_wider right h.3)
    node_wider (tree.Same equal left right) h = (h.0, core_wider left h.1, h.2, core_wider right h.3)
    node_wider (tree.Order relation left right) h = (h.0, core_wider left h.1, h.2, core_wider right h.3)
    node_wider (tree.Step stride number_first pointer number) h =
        (h.0, h.1, core_wider pointer h.2, h.3, core_wider number h.4)
    node_wider (tree.Difference size left right) h = (h.0, h.1, core_wider left h.2, h.3, core_wider right h.4)
    node_wider (tree.AndAlso left right) h = (h.0, core_wider left h.1, h.2, core_wider right h.3)
    node_wider (tree.OrElse left right) h = (h.0, core_wider left h.1, h.2, core_wider right h.3)
    node_wider (tree.Cond test first second) h =
        (h.0, core_wider test h.1, core_wider first h.2, h.3, core_wider second h.4)
    node_wider (tree.Comma left right) h = (h.0, core_wider left h.1, core_wider right h.2)
    node_wider (tree.Assign scalar place value) h = (h.0, core_wider place h.1, h.2, core_wider value h.3)
    node_wider (tree.AssignWhole size place value) h = (h.0, h.1, core_wider place h.2, h.3, core_wider value h.4)
    node_wider (tree.Update change place number) h = (h.0, core_wider place h.1, h.2, core_wider number h.3)
    node_wider (tree.Postfix change place) h = (h.0, h.1, core_wider place h.2)
    node_wider (tree.ValueObject size value) h = (h.0, h.1, core_wider value h.2)

    pub cores_wider : (all : Cores) → CoresTyped old all → CoresTyped new all
    cores_wider NoCore h = tt
    cores_wider (MoreCores first rest) h = (core_wider first h.0, cores_wider rest h.1)

-- ---- statements and functions, where there are more functions and static objects

module _ (functions statics functions2 statics2 : List Pos)
    (more : (token : Pos) → IsSome (number_at token functions) → IsSome (number_at token functions2))
    (more_statics : (token : Pos) → IsSome (number_at token statics) → IsSome (number_at token statics2)) where
  abbrev old : List Local → Names
  old objects = record { functions = functions; statics = statics; objects = objects }

  abbrev new : List Local → Names
  new objects = record { functions = functions2; statics = statics2; objects = objects }

  typed : (objects : List Local) (core : Core) → CoreTyped (old objects) core → CoreTyped (new objects) core
  typed objects core h =
      core_wider (old objects) (new objects)
      (record { functions = more; statics = more_statics; objects = λ slot made. made }) core h

  mutual
    pub statement_wider : (objects : List Local) (flow : Flow) (statement : Statement)
        → StatementTyped (old objects) flow statement → StatementTyped (new objects) flow statement
    statement_wider objects flow (Stands pos action) h = action_wider objects flow action h

    pub action_wider : (objects : List Local) (flow : Flow) (action : Action)
        → ActionTyped (old objects) flow action → ActionTyped (new objects) flow action
    action_wider objects flow (unit.Block locals items) h =
        (h.0, statements_wider (objects_with locals objects) flow items h.1)
    action_wider objects flow (unit.Zero slot size) h = h
    action_wider objects flow (unit.Initialize slot at content value) h = (h.0, h.1, h.2, typed objects value h.3)
    action_wider objects flow (unit.InitializeBytes slot at bytes) h = h
    action_wider objects flow (unit.SealBytes slot at len) h = h
    action_wider objects flow (unit.Evaluate core) h = (h.0, typed objects core h.1)
    action_wider objects flow (unit.If test first second) h =
        (h.0, typed objects test h.1, statement_wider objects flow first h.2, statement_wider objects flow second h.3)
    action_wider objects flow (unit.While test body) h =
        (h.0, typed objects test h.1, statement_wider objects (in_loop flow) body h.2)
    action_wider objects flow (unit.Do body test) h =
        (statement_wider objects (in_loop flow) body h.0, h.1, typed objects test h.2)
    action_wider objects flow (unit.For test step body) h =
        (h.0, typed objects test h.1, h.2, typed objects step h.3, statement_wider objects (in_loop flow) body h.4)
    action_wider objects flow (unit.Switch value locals items cases default) h =
        (typed objects value h.0, h.1, h.2, statements_wider (objects_with locals objects) (in_switch flow) items h.3)
    action_wider objects flow unit.Break h = h
    action_wider objects flow unit.Continue h = h
    action_wider objects flow unit.Return h = h
    action_wider objects flow (unit.ReturnValue value) h = (h.0, typed objects value h.1)
    action_wider objects flow (unit.ReturnWhole size value) h = (h.0, h.1, h.2, typed objects value h.3)

    pub statements_wider : (objects : List Local) (flow : Flow) (items : Statements)
        → StatementsTyped (old objects) flow items → StatementsTyped (new objects) flow items
    statements_wider objects flow NoStatement h = tt
    statements_wider objects flow (MoreStatements first rest) h =
        (statement_wider objects flow first h.0, statements_wider objects flow rest h.1)

  pub definition_wider : (function : Definition) → DefinitionTyped functions statics function
      → DefinitionTyped functions2 statics2 function
  definition_wider function h = record {
    type = h.type;
    gives = h.gives;
    parameters = h.parameters;
    taken = h.taken;
    slots = h.slots;
    body = statement_wider (parameter_objects 0 function.parameters) _ function.body h.body;
  }

  pub definitions_wider : (all : List Definition) → DefinitionsTyped functions statics all
      → DefinitionsTyped functions2 statics2 all
  definitions_wider [] h = tt
  definitions_wider (first ∷ rest) h = (definition_wider first h.0, definitions_wider rest h.1)
