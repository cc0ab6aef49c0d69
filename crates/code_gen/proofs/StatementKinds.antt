-- A statement goes on where its function lets it, and returns a value of the form that its function gives.
use Rattle.std.proofs.Common.{◌≡◌, ℕ, zero, suc, Bool, true, false, List, [], ◌++◌, refl, ap, sym, subst}
use Rattle.std.proofs.Common.{Option, Some, None}
use Rattle.critical_table.specs.declared.pos.Pos.{Pos}
use Rattle.object_store.specs.declared.pointer.Pointer.{Pointer}
use Rattle.lib_defs.specs.declared.value.Value.{Value}
use Rattle.lib_defs.specs.declared.value.Value.TheVariants.{Ptr}
use Rattle.run_defs.specs.State.{State}
use Rattle.run_defs.specs.Evaluation.{Evaluation, Gives, bind, ticked}
use Rattle.c_core.specs.declared.form.Form.{Form}
use Rattle.c_core.specs.declared.form.Form.TheVariants as form
use Rattle.c_core.specs.declared.form.Content.{Content}
use Rattle.c_core.specs.declared.form.Content.TheVariants as content
use Rattle.c_core.specs.declared.form.Scalar.TheVariants as scalar
use Rattle.c_core.specs.declared.statement.Local.{Local}
use Rattle.c_core.specs.Forms.{form_of, given_form}
use Rattle.c_core.specs.Named.{Names, names_in_block}
use Rattle.c_core.specs.Tree.{Core, pos_in}
use Rattle.c_core.specs.TreeUnit.{Statement, Stands, Action, Statements, NoStatement, MoreStatements, Program}
use Rattle.c_core.specs.TreeUnit as unit
use Rattle.c_core.specs.TypedUnit.{Flow as FlowTyped, StatementTyped, ActionTyped, StatementsTyped, IsReturned}
use Rattle.c_core.specs.TypedUnit.{in_loop, in_switch}
use Rattle.c_core.specs.Typed.{CoreTyped}
use Rattle.vm_code.specs.Accesses.{pointer_in, number_in, copied}
use Rattle.vm_code.specs.Slots.{Held, numbers, all_died}
use Rattle.code_gen.specs.Blocks.{locals_made, in_block}
use Rattle.code_gen.specs.Expressions.{Call, value}
use Rattle.code_gen.specs.Flows.{Flow, Next, Broke, Continued, Returned, after, branch, after_turn, turns, do_turns}
use Rattle.code_gen.specs.Flows.{behind_switch, label_at}
use Rattle.code_gen.specs.RunLaw.{HasKind}
use Rattle.code_gen.specs.Statements.{statement, action_done, items_from, then_next, entered_at, evaluated, tested}
use Rattle.code_gen.specs.Statements.{done}
use Rattle.code_gen.specs.Statements.{no_step}
use Rattle.code_gen.proofs.ExpressionKinds.{if_bind, if_with, CallGives, GivenFits, YieldsKind, value_kind}
use Rattle.code_gen.proofs.Going.{IfGives}

-- A return gives what its function gives: a value of the form, or none.
abbrev pub ReturnFits : Form → (result : Pointer) → Option Value → Type 0
ReturnFits f result None = f ≡ form.Nothing
ReturnFits form.Nothing result (Some v) = ⊥
ReturnFits f result (Some v) = GivenFits f result (Some v)

-- it goes on at a jump's target where there is one
abbrev pub FlowFits : FlowTyped → (result : Pointer) → Flow → Type 0
FlowFits flow result Next = Unit {0}
FlowFits flow result Broke = flow.breaks ≡ true
FlowFits flow result Continued = flow.continues ≡ true
FlowFits flow result (Returned v) = ReturnFits (given_form flow.gives) result v

returns_value : (gives : Option Content) (f : Form) (result : Pointer) (v : Value) → IsReturned gives f → HasKind f v
    → ReturnFits (given_form gives) result (Some v)
returns_value (Some (content.Scalar (scalar.Number kind))) f result v is has =
    subst (λ g. HasKind g v) is has
returns_value (Some (content.Scalar scalar.Pointer)) f result v is has = subst (λ g. HasKind g v) is has
returns_value (Some (content.Whole size)) f result v is has = absurd is
returns_value None f result v is has = absurd is

module _ (flow : FlowTyped) (result : Pointer) where
  abbrev Fits : Evaluation Flow → Type 0
  Fits x = IfGives (FlowFits flow result) x

  next_fits : (x : Evaluation (Unit {0})) → Fits (then_next x)
  next_fits x = if_bind (FlowFits flow result) x (λ u s. Gives Next s) (λ u s. tt)

  chosen_fits : (b : Bool) (x y : State → Evaluation Flow) (s : State) → Fits (x s) → Fits (y s) → Fits (branch b x y s)
  chosen_fits true x y s is_x is_y = is_x
  chosen_fits false x y s is_x is_y = is_y

  after_fits : (f : Flow) (go : State → Evaluation Flow) (s : State) → FlowFits flow result f
      → ((s1 : State) → Fits (go s1)) → Fits (after f go s)
  after_fits Next go s is all = all s
  after_fits Broke go s is all = is
  after_fits Continued go s is all = is
  after_fits (Returned v) go s is all = is

  turn_fits : (f : Flow) (go : State → Evaluation Flow) (s : State) → FlowFits (in_loop flow) result f
      → ((s1 : State) → Fits (go s1)) → Fits (after_turn f go s)
  turn_fits Next go s is all = all s
  turn_fits Broke go s is all = tt
  turn_fits Continued go s is all = all s
  turn_fits (Returned v) go s is all = is

  turns_fit : (n : ℕ) (test : State → Evaluation Bool) (body : State → Evaluation Flow)
      (step : State → Evaluation (Unit {0})) (s : State)
      → ((s1 : State) → IfGives (FlowFits (in_loop flow) result) (body s1)) → Fits (turns n test body step s)
  turns_fit zero test body step s all = tt
  turns_fit (suc n) test body step s all =
      if_bind (FlowFits flow result) (ticked s) (λ u s1. bind (test s1) (λ goes_on s2. branch goes_on
      (λ s3. bind (body s3) (λ f s4. after_turn f (λ s5. bind (step s5) (λ v s6. turns n test body step s6)) s4))
      (Gives Next) s2)) (λ u s1.
      if_bind (FlowFits flow result) (test s1) (λ goes_on s2. branch goes_on
      (λ s3. bind (body s3) (λ f s4. after_turn f (λ s5. bind (step s5) (λ v s6. turns n test body step s6)) s4))
      (Gives Next) s2) (λ goes_on s2.
      chosen_fits goes_on
      (λ s3. bind (body s3) (λ f s4. after_turn f (λ s5. bind (step s5) (λ v s6. turns n test body step s6)) s4))
      (Gives Next) s2
      (if_with (FlowFits (in_loop flow) result) (FlowFits flow result) (body s2)
      (λ f s4. after_turn f (λ s5. bind (step s5) (λ v s6. turns n test body step s6)) s4) (all s2) (λ f s4 is.
      turn_fits f (λ s5. bind (step s5) (λ v s6. turns n test body step s6)) s4 is (λ s5.
      if_bind (FlowFits flow result) (step s5) (λ v s6. turns n test body step s6)
      (λ v s6. turns_fit n test body step s6 all)))) tt))

  do_turns_fit : (n : ℕ) (body : State → Evaluation Flow) (test : State → Evaluation Bool) (s : State)
      → ((s1 : State) → IfGives (FlowFits (in_loop flow) result) (body s1)) → Fits (do_turns n body test s)
  do_turns_fit zero body test s all = tt
  do_turns_fit (suc n) body test s all =
      if_bind (FlowFits flow result) (ticked s) (λ u s1. bind (body s1) (λ f s2. after_turn f
      (λ s3. bind (test s3) (λ goes_on s4. branch goes_on (do_turns n body test) (Gives Next) s4)) s2)) (λ u s1.
      if_with (FlowFits (in_loop flow) result) (FlowFits flow result) (body s1) (λ f s2. after_turn f
      (λ s3. bind (test s3) (λ goes_on s4. branch goes_on (do_turns n body test) (Gives Next) s4)) s2) (all s1)
      (λ f s2 is.
      turn_fits f (λ s3. bind (test s3) (λ goes_on s4. branch goes_on (do_turns n body test) (Gives Next) s4)) s2 is
      (λ s3. if_bind (FlowFits flow result) (test s3)
      (λ goes_on s4. branch goes_on (do_turns n body test) (Gives Next) s4)
      (λ goes_on s4. chosen_fits goes_on (do_turns n body test) (Gives Next) s4 (do_turns_fit n body test s4 all) tt))))

  block_fits : (locals : List Local) (items : List Held → State → Evaluation Flow) (held : List Held) (s : State)
      → ((held1 : List Held) (s1 : State) → Fits (items held1 s1)) → Fits (in_block locals items held s)
  block_fits locals items held s all =
      if_bind (FlowFits flow result) (locals_made locals [] s)
      (λ made s1. bind (items (made ++ held) s1) (λ f s2. Gives f (all_died (numbers made) s2))) (λ made s1.
      if_with (FlowFits flow result) (FlowFits flow result) (items (made ++ held) s1)
      (λ f s2. Gives f (all_died (numbers made) s2)) (all (made ++ held) s1) (λ f s2 is. is))

  behind_fits : (f : Flow) → FlowFits (in_switch flow) result f → FlowFits flow result (behind_switch f)
  behind_fits Next is = tt
  behind_fits Broke is = tt
  behind_fits Continued is = is
  behind_fits (Returned v) is = is

  entered_fits : (at : Option ℕ) (items : ℕ → State → Evaluation Flow) (s : State)
      → ((k : ℕ) (s1 : State) → IfGives (FlowFits (in_switch flow) result) (items k s1))
      → Fits (entered_at at items s)
  entered_fits None items s all = tt
  entered_fits (Some at) items s all =
      if_with (FlowFits (in_switch flow) result) (FlowFits flow result) (items at s)
      (λ f s1. Gives (behind_switch f) s1) (all at s) (λ f s1 is. behind_fits f is)

module _ (program : Program) (call : Call) (gives_kind : CallGives call) (result : Pointer) where
  return_fits : (names : Names) (flow : FlowTyped) (core : Core) (held : List Held) (s : State)
      → (use_value : Value → State → Evaluation Flow)
      → ((v : Value) (s1 : State) → HasKind (form_of core) v → IfGives (FlowFits flow result) (use_value v s1))
      → CoreTyped names core
      → IfGives (FlowFits flow result) (evaluated program call core held use_value s)
  return_fits names flow core held s use_value all t =
      if_with (YieldsKind (form_of core)) (FlowFits flow result) (value program call held core [] s)
      (λ x s1. bind (use_value x.value s1) (λ f s2. Gives f (all_died x.made s2)))
      (value_kind program call gives_kind held names core t [] s) (λ x s1 has.
      if_with (FlowFits flow result) (FlowFits flow result) (use_value x.value s1)
      (λ f s2. Gives f (all_died x.made s2)) (all x.value s1 has) (λ f s2 is. is))

  mutual
    pub statement_fits : (names : Names) (flow : FlowTyped) (st : Statement) → StatementTyped names flow st
        → (held : List Held) (s : State) → IfGives (FlowFits flow result) (statement program call result st held s)
    statement_fits names flow (Stands here action) t held s = action_fits names flow here action t held s

    action_fits : (names : Names) (flow : FlowTyped) (here : Pos) (action : Action) → ActionTyped names flow action
        → (held : List Held) (s : State)
        → IfGives (FlowFits flow result) (action_done program call result here action held s)
    action_fits names flow here (unit.Block locals items) t held s =
        block_fits flow result locals (items_from program call result items 0) held s
        (λ held1 s1. items_fit (names_in_block locals names) flow items t.1 0 held1 s1)
    action_fits names flow here (unit.Zero slot size) t held s = next_fits flow result _
    action_fits names flow here (unit.Initialize slot at content core) t held s = next_fits flow result _
    action_fits names flow here (unit.InitializeBytes slot at bytes) t held s = next_fits flow result _
    action_fits names flow here (unit.SealBytes slot at len) t held s = tt
    action_fits names flow here (unit.Evaluate core) t held s = next_fits flow result (done program call core held s)
    action_fits names flow here (unit.If test first second) t held s =
        if_bind (FlowFits flow result) (tested program call test held s)
        (λ is_so. branch is_so (statement program call result first held) (statement program call result second held))
        (λ is_so s1. chosen_fits flow result is_so (statement program call result first held)
        (statement program call result second held) s1 (statement_fits names flow first t.2 held s1)
        (statement_fits names flow second t.3 held s1))
    action_fits names flow here (unit.While test body) t held s =
        turns_fit flow result s.ticks (tested program call test held) (statement program call result body held) no_step
        s
        (λ s1. statement_fits names (in_loop flow) body t.2 held s1)
    action_fits names flow here (unit.Do body test) t held s =
        do_turns_fit flow result s.ticks (statement program call result body held) (tested program call test held) s
        (λ s1. statement_fits names (in_loop flow) body t.0 held s1)
    action_fits names flow here (unit.For test step body) t held s =
        turns_fit flow result s.ticks (tested program call test held) (statement program call result body held)
        (done program call step held) s (λ s1. statement_fits names (in_loop flow) body t.4 held s1)
    action_fits names flow here (unit.Switch core locals items cases default) t held s =
        if_bind (FlowFits flow result) (evaluated program call core held Gives s) (λ v s1.
        entered_at (label_at (number_in v) cases default)
        (λ at. in_block locals (items_from program call result items at) held) s1) (λ v s1.
        entered_fits flow result (label_at (number_in v) cases default)
        (λ at. in_block locals (items_from program call result items at) held) s1 (λ at s2.
        block_fits (in_switch flow) result locals (items_from program call result items at) held s2
        (λ held1 s3. items_fit (names_in_block locals names) (in_switch flow) items t.3 at held1 s3)))
    action_fits names flow here unit.Break t held s = t
    action_fits names flow here unit.Continue t held s = t
    action_fits names flow here unit.Return t held s = ap given_form t
    action_fits names flow here (unit.ReturnValue core) t held s =
        return_fits names flow core held s (λ v. Gives (Returned (Some v)))
        (λ v s1 has. returns_value flow.gives (form_of core) result v t.0 has) t.1
    action_fits names flow here (unit.ReturnWhole size core) t held s =
        return_fits names flow core held s (λ v s1.
        bind (copied size result (pointer_in v) (pos_in core) s1) (λ u s2. Gives (Returned (Some (Ptr result))) s2))
        (λ v s1 has. if_bind (FlowFits flow result) (copied size result (pointer_in v) (pos_in core) s1)
        (λ u s2. Gives (Returned (Some (Ptr result))) s2)
        (λ u s2. subst (λ g. ReturnFits (given_form g) result (Some (Ptr result))) (sym t.1) refl)) t.3

    items_fit : (names : Names) (flow : FlowTyped) (items : Statements) → StatementsTyped names flow items
        → (skipped : ℕ) (held : List Held) (s : State)
        → IfGives (FlowFits flow result) (items_from program call result items skipped held s)
    items_fit names flow NoStatement t skipped held s = tt
    items_fit names flow (MoreStatements first rest) t (suc skipped) held s =
        items_fit names flow rest t.1 skipped held s
    items_fit names flow (MoreStatements first rest) t zero held s =
        if_with (FlowFits flow result) (FlowFits flow result) (statement program call result first held s)
        (λ f. after f (items_from program call result rest 0 held)) (statement_fits names flow first t.0 held s)
        (λ f s1 is. after_fits flow result f (items_from program call result rest 0 held) s1 is
        (λ s2. items_fit names flow rest t.1 zero held s2))
