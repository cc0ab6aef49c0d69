-- Each call in the body of a function runs as it means, and so do functions at any depth.
use Rattle.std.proofs.Common.{◌≡◌, ℕ, zero, suc, ◌<◌, ◌++◌, List, [], ◌∷◌, sym, subst, arith, Some}
use Rattle.lib_defs.specs.Library.{Library}
use Rattle.lib_defs.specs.Variants.{KeepsVariants}
use Rattle.critical_table.specs.declared.pos.Pos.{Pos}
use Rattle.object_store.specs.declared.pointer.Pointer.{Pointer}
use Rattle.lib_defs.specs.declared.value.Value.{Value}
use Rattle.run_defs.specs.Evaluation.{Evaluation}
use Rattle.run_defs.specs.Functions.{Environment}
use Rattle.run_defs.specs.State.{State}
use Rattle.c_core.specs.Forms.{given_form}
use Rattle.c_core.specs.Named.{Names, names_in_block}
use Rattle.c_core.specs.Tree.{Core, At, Node, Cores, NoCore, MoreCores}
use Rattle.c_core.specs.Tree as tree
use Rattle.c_core.specs.TreeUnit.{Statement, Stands, Action, Statements, NoStatement, MoreStatements, Definition}
use Rattle.c_core.specs.TreeUnit.{Program}
use Rattle.c_core.specs.TreeUnit as unit
use Rattle.c_core.specs.Typed.{CoreTyped, NodeTyped, CoresTyped}
use Rattle.c_core.specs.TypedUnit.{Flow, IsWellTyped, StatementTyped, ActionTyped, StatementsTyped, in_loop, in_switch}
use Rattle.vm_code.specs.Calling.{entered}
use Rattle.vm_code.specs.Contents.{Contents}
use Rattle.vm_code.specs.Frames.{Frame, Place}
use Rattle.code_gen.specs.CalledTypes.{Through, through}
use Rattle.code_gen.specs.Calls.{call, enter_below}
use Rattle.code_gen.specs.Calls as calling
use Rattle.code_gen.specs.CallsMade.{calls_in, calls_of, calls_among, calls_in_statement, calls_in_action}
use Rattle.code_gen.specs.CallsMade.{calls_in_items}
use Rattle.code_gen.specs.ProgramFunctions.{UnitFunction, function_numbered, environment}
use Rattle.code_gen.specs.RunLaw.{CallsRun, CallsOfNodeRun, CallsAmongRun, Arrives, Reaches}
use Rattle.code_gen.specs.StatementRunLaw.{StatementCallsRun, ActionCallsRun, ItemsCallsRun}
use Rattle.code_gen.specs.UnitCode.{unit_code, call_table}
use Rattle.code_gen.proofs.CalledRuns.{call_runs}
use Rattle.code_gen.proofs.CallKinds.{calls_fit, enters_fit, typed_numbered}
use Rattle.code_gen.proofs.CallTable.{AllStandIn, all_front, all_back}
use Rattle.code_gen.proofs.CompletedRuns.{Enters, entry_of, entered_leaves}
use Rattle.code_gen.proofs.EnteredRuns.{activation_runs, returned_to}
use Rattle.code_gen.proofs.UnitFunctions.{Located, located}

module _ (library : Library) (keeps : KeepsVariants library) (program : Program) (typed : IsWellTyped program) where
  abbrev e : Environment
  e = environment library program

  abbrev code : Contents
  code = unit_code program

  abbrev table : List Through
  table = call_table program

  module _ (n : ℕ) (enters : Enters library keeps program typed n) (frames : List Frame) where
    abbrev All : List Through → Type 0
    All calls = AllStandIn table calls

    abbrev Run : Core → Type 0
    Run core = CallsRun e code n frames table (call library program (enter_below n library program)) core

    abbrev NodeRun : Node → Type 0
    NodeRun node = CallsOfNodeRun e code n frames table (call library program (enter_below n library program)) node

    abbrev AmongRun : Cores → Type 0
    AmongRun cores = CallsAmongRun e code n frames table (call library program (enter_below n library program)) cores

    mutual
      core_calls : (names : Names) (core : Core) → CoreTyped names core → All (calls_in core) → Run core
      core_calls names (At of here node) t all = node_calls names node t.1 all

      node_calls : (names : Names) (node : Node) → NodeTyped names node → All (calls_of node) → NodeRun node
      node_calls names (tree.Number kind value) t all = tt
      node_calls names tree.Null t all = tt
      node_calls names (tree.Object name) t all = tt
      node_calls names (tree.Function name) t all = tt
      node_calls names (tree.Reach by size align pointer) t all = core_calls names pointer t.4 all
      node_calls names (tree.Member at place) t all = core_calls names place t.2 all
      node_calls names (tree.Load scalar place) t all = core_calls names place t.1 all
      node_calls names (tree.Narrow size place) t all = core_calls names place t.2 all
      node_calls names (tree.AddressOf place) t all = core_calls names place t.1 all
      node_calls names (tree.Convert kind value) t all = core_calls names value t.1 all
      node_calls names (tree.Retype pointer) t all = core_calls names pointer t.1 all
      node_calls names (tree.NotNull pointer) t all = core_calls names pointer t.1 all
      node_calls names (tree.IsNull pointer) t all = core_calls names pointer t.1 all
      node_calls names (tree.Discard value) t all = core_calls names value t.1 all
      node_calls names (tree.Negate kind value) t all = core_calls names value t.1 all
      node_calls names (tree.Flip kind value) t all = core_calls names value t.1 all
      node_calls names (tree.Not value) t all = core_calls names value t.1 all
      node_calls names (tree.Arithmetic operator kind left right) t all = (
        core_calls names left t.1 (all_front table (calls_in left) (calls_in right) all),
        core_calls names right t.3 (all_back table (calls_in left) (calls_in right) all),
      )
      node_calls names (tree.Compare comparison left right) t all = (
        core_calls names left t.1 (all_front table (calls_in left) (calls_in right) all),
        core_calls names right t.3 (all_back table (calls_in left) (calls_in right) all),
      )
      node_calls names (tree.Same equal left right) t all = (
        core_calls names left t.1 (all_front table (calls_in left) (calls_in right) all),
        core_calls names right t.3 (all_back table (calls_in left) (calls_in right) all),
      )
      node_calls names (tree.Order relation left right) t all = (
        core_calls names left t.1 (all_front table (calls_in left) (calls_in right) all),
        core_calls names right t.3 (all_back table (calls_in left) (calls_in right) all),
      )
      node_calls names (tree.Step stride number_first pointer number) t all = (
        core_calls names pointer t.2 (all_front table (calls_in pointer) (calls_in number) all),
        core_calls names number t.4 (all_back table (calls_in pointer) (calls_in number) all),
      )
      node_calls names (tree.Difference size left right) t all = (
        core_calls names left t.2 (all_front table (calls_in left) (calls_in right) all),
        core_calls names right t.4 (all_back table (calls_in left) (calls_in right) all),
      )
      node_calls names (tree.AndAlso left right) t all = (
        core_calls names left t.1 (all_front table (calls_in left) (calls_in right) all),
        core_calls names right t.3 (all_back table (calls_in left) (calls_in right) all),
      )
      node_calls names (tree.OrElse left right) t all = (
        core_calls names left t.1 (all_front table (calls_in left) (calls_in right) all),
        core_calls names right t.3 (all_back table (calls_in left) (calls_in right) all),
      )
      node_calls names (tree.Cond test first second) t all =
          let front : All (calls_in test ++ calls_in first) =
          all_front table (calls_in test ++ calls_in first) (calls_in second) all in (
            core_calls names test t.1 (all_front table (calls_in test) (calls_in first) front),
            core_calls names first t.2 (all_back table (calls_in test) (calls_in first) front),
            core_calls names second t.4 (all_back table (calls_in test ++ calls_in first) (calls_in second) all),
          )
      node_calls names (tree.Comma left right) t all = (
        core_calls names left t.1 (all_front table (calls_in left) (calls_in right) all),
        core_calls names right t.2 (all_back table (calls_in left) (calls_in right) all),
      )
      node_calls names (tree.Assign scalar place value) t all = (
        core_calls names place t.1 (all_front table (calls_in place) (calls_in value) all),
        core_calls names value t.3 (all_back table (calls_in place) (calls_in value) all),
      )
      node_calls names (tree.AssignWhole size place value) t all = (
        core_calls names place t.2 (all_front table (calls_in place) (calls_in value) all),
        core_calls names value t.4 (all_back table (calls_in place) (calls_in value) all),
      )
      node_calls names (tree.Update change place number) t all = (
        core_calls names place t.1 (all_front table (calls_in place) (calls_in number) all),
        core_calls names number t.3 (all_back table (calls_in place) (calls_in number) all),
      )
      node_calls names (tree.Postfix change place) t all = core_calls names place t.2 all
      node_calls names (tree.Call used gives function operands) t all =
          let own : List Through = through function operands ∷ [] in
          let front : All (calls_in function ++ calls_among operands) =
          all_front table (calls_in function ++ calls_among operands) own all in
          let last : All own = all_back table (calls_in function ++ calls_among operands) own all in (
            core_calls names function t.1 (all_front table (calls_in function) (calls_among operands) front),
            among_calls names operands t.2 (all_back table (calls_in function) (calls_among operands) front),
            call_runs library keeps program typed n enters frames gives function operands t.3 last.0,
          )
      node_calls names (tree.ValueObject size value) t all = core_calls names value t.2 all

      among_calls : (names : Names) (cores : Cores) → CoresTyped names cores → All (calls_among cores) → AmongRun cores
      among_calls names NoCore t all = tt
      among_calls names (MoreCores first rest) t all = (
        core_calls names first t.0 (all_front table (calls_in first) (calls_among rest) all),
        among_calls names rest t.1 (all_back table (calls_in first) (calls_among rest) all),
      )

    abbrev StatementRun : Statement → Type 0
    StatementRun st =
        StatementCallsRun e code n frames table (call library program (enter_below n library program)) st

    abbrev ActionRun : Action → Type 0
    ActionRun action =
        ActionCallsRun e code n frames table (call library program (enter_below n library program)) action

    abbrev ItemsRun : Statements → Type 0
    ItemsRun items = ItemsCallsRun e code n frames table (call library program (enter_below n library program)) items

    mutual
      statement_calls : (names : Names) (flow : Flow) (st : Statement) → StatementTyped names flow st
          → All (calls_in_statement st) → StatementRun st
      statement_calls names flow (Stands here action) t all = action_calls names flow action t all

      action_calls : (names : Names) (flow : Flow) (action : Action) → ActionTyped names flow action
          → All (calls_in_action action) → ActionRun action
      action_calls names flow (unit.Block locals items) t all =
          items_calls (names_in_block locals names) flow items t.1 all
      action_calls names flow (unit.Zero slot size) t all = tt
      action_calls names flow (unit.Initialize slot at content value) t all = core_calls names value t.3 all
      action_calls names flow (unit.InitializeBytes slot at bytes) t all = tt
      action_calls names flow (unit.SealBytes slot at len) t all = tt
      action_calls names flow (unit.Evaluate core) t all = core_calls names core t.1 all
      action_calls names flow (unit.If test first second) t all =
          let front : All (calls_in test ++ calls_in_statement first) =
          all_front table (calls_in test ++ calls_in_statement first) (calls_in_statement second) all in (
            core_calls names test t.1 (all_front table (calls_in test) (calls_in_statement first) front),
            statement_calls names flow first t.2 (all_back table (calls_in test) (calls_in_statement first) front),
            statement_calls names flow second t.3
                (all_back table (calls_in test ++ calls_in_statement first) (calls_in_statement second) all),
          )
      action_calls names flow (unit.While test body) t all = (
        core_calls names test t.1 (all_front table (calls_in test) (calls_in_statement body) all),
        statement_calls names (in_loop flow) body t.2 (all_back table (calls_in test) (calls_in_statement body) all),
      )
      action_calls names flow (unit.Do body test) t all = (
        statement_calls names (in_loop flow) body t.0 (all_front table (calls_in_statement body) (calls_in test) all),
        core_calls names test t.2 (all_back table (calls_in_statement body) (calls_in test) all),
      )
      action_calls names flow (unit.For test step body) t all =
          let front : All (calls_in test ++ calls_in step) =
          all_front table (calls_in test ++ calls_in step) (calls_in_statement body) all in (
            core_calls names test t.1 (all_front table (calls_in test) (calls_in step) front),
            core_calls names step t.3 (all_back table (calls_in test) (calls_in step) front),
            statement_calls names (in_loop flow) body t.4
                (all_back table (calls_in test ++ calls_in step) (calls_in_statement body) all),
          )
      action_calls names flow (unit.Switch value locals items cases default) t all = (
        core_calls names value t.0 (all_front table (calls_in value) (calls_in_items items) all),
        items_calls (names_in_block locals names) (in_switch flow) items t.3
            (all_back table (calls_in value) (calls_in_items items) all),
      )
      action_calls names flow unit.Break t all = tt
      action_calls names flow unit.Continue t all = tt
      action_calls names flow unit.Return t all = tt
      action_calls names flow (unit.ReturnValue value) t all = core_calls names value t.1 all
      action_calls names flow (unit.ReturnWhole size value) t all = core_calls names value t.3 all

      items_calls : (names : Names) (flow : Flow) (items : Statements) → StatementsTyped names flow items
          → All (calls_in_items items) → ItemsRun items
      items_calls names flow NoStatement t all = tt
      items_calls names flow (MoreStatements first rest) t all = (
        statement_calls names flow first t.0 (all_front table (calls_in_statement first) (calls_in_items rest) all),
        items_calls names flow rest t.1 (all_back table (calls_in_statement first) (calls_in_items rest) all),
      )

    body_calls : (number : ℕ) (d : Definition) → function_numbered program.functions number ≡ Some (UnitFunction d)
        → StatementRun d.body
    body_calls number d numbered =
        let l : Located program number d = located program number d numbered in
        let t = typed_numbered library keeps program typed number d numbered in
        statement_calls _ _ d.body t.body l.calls

  arrives_of : {A : Type 0} (n : ℕ) (frames : List Frame) (number : ℕ) (args : List Value) (result : Pointer)
      (here : Pos) (s : State) (x : Evaluation A) (Left : A → Type 0)
      (to : (v : A) → Left v → State → Place) → s.ticks < suc n
      → Reaches e code n
      (entered code (entry_of library keeps program typed number args result here) frames s) x Left to
      → Arrives e code (entered code (entry_of library keeps program typed number args result here) frames s) x Left to
  arrives_of n frames number args result here s x Left to less r =
      r.arrives (entered_leaves code (entry_of library keeps program typed number args result here) frames n s
      (omega (arith, less)))

  -- at any depth
  pub all_enter : (n : ℕ) → Enters library keeps program typed n
  all_enter zero number d numbered args taken result here frames s less =
      absurd (let none : ⊥ = omega (arith, less) in none)
  all_enter (suc n) number d numbered args taken result here frames s less =
      subst (λ o. Arrives e code
      (entered code (entry_of library keeps program typed number args result here) frames s)
      (calling.entered o program (call library program (enter_below n library program)) number args result here s)
      (λ given. Unit {0}) (λ given u s1. returned_to e code (given_form d.gives) result frames given s1)) (sym numbered)
      (arrives_of n frames number args result here s
      (calling.activation program (call library program (enter_below n library program)) d args result here s)
      (λ given. Unit {0}) (λ given u s1. returned_to e code (given_form d.gives) result frames given s1) less
      (activation_runs library keeps program typed n (call library program (enter_below n library program))
      (calls_fit library keeps program typed (enter_below n library program) (enters_fit library keeps program typed n))
      number d numbered frames (body_calls n (all_enter n) frames number d numbered) args taken result here s))
