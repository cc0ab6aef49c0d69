-- Each statement keeps what is kept, where calls do.
use Rattle.std.proofs.Common.{ℕ, zero, suc, Bool, true, false, List, [], ◌∷◌, ◌++◌, refl, Option, Some, None}
use Rattle.critical_table.specs.declared.pos.Pos.{Pos}
use Rattle.object_store.specs.declared.pointer.Pointer.{Pointer}
use Rattle.lib_defs.specs.declared.value.Value.{Value}
use Rattle.run_defs.specs.declared.outcome.Outcome.TheVariants.{OutOfTicks}
use Rattle.run_defs.specs.State.{State}
use Rattle.run_defs.specs.Evaluation.{Evaluation, Gives}
use Rattle.run_defs.specs.Functions.{Environment}
use Rattle.run_defs.specs.Replay.{OpenCall}
use Rattle.run_defs.specs.Kept.{Keeps}
use Rattle.run_defs.proofs.Following.{at_sealed, at_tick, quiet_closes, keeps_tick, stored_keeps, automatic_keeps}
use Rattle.c_core.specs.declared.form.Content.{Content}
use Rattle.c_core.specs.declared.form.Content.TheVariants as content
use Rattle.c_core.specs.declared.statement.Local.{Local}
use Rattle.c_core.specs.Tree.{Core, pos_in}
use Rattle.c_core.specs.TreeUnit.{Statement, Stands, Action, Statements, NoStatement, MoreStatements, Program}
use Rattle.c_core.specs.TreeUnit as unit
use Rattle.c_core.specs.Named.{Names, names_in_block}
use Rattle.c_core.specs.Typed.{CoreTyped}
use Rattle.c_core.specs.TypedUnit as typed
use Rattle.c_core.specs.TypedUnit.{AreFresh, StatementTyped, ActionTyped, StatementsTyped, in_loop, in_switch}
use Rattle.vm_code.specs.Accesses.{pointer_in, number_in}
use Rattle.vm_code.specs.Slots.{Held, numbers}
use Rattle.vm_code.specs.Accesses.{content_stored}
use Rattle.code_gen.specs.Expressions.{Call}
use Rattle.code_gen.specs.Flows.{Flow, Next, Broke, Continued, Returned, after, branch, after_turn, turns, do_turns}
use Rattle.code_gen.specs.Flows.{label_at}
use Rattle.code_gen.specs.Blocks.{held_at, locals_made, in_block}
use Rattle.vm_code.specs.Operators.{is_true}
use Rattle.code_gen.specs.Statements.{tested, done, no_step}
use Rattle.code_gen.specs.Statements.{then_next, entered_at, evaluated, statement, action_done, items_from}
use Rattle.code_gen.proofs.KeptParts.{StepKeeps, then_keeps, scalar_keeps, copied_keeps, at_all_died, full_keeps}
use Rattle.code_gen.proofs.KeptExpressions.{CallKeeps, value_keeps}

module _ (e : Environment) (calls : List OpenCall) where
  pub content_keeps : (of : Content) (place : Pointer) (v : Value) (here : Pos)
      → StepKeeps e calls (content_stored of place v here)
  content_keeps (content.Scalar scalar) place v here = scalar_keeps e calls scalar place v here
  content_keeps (content.Whole size) place v here = copied_keeps e calls size place (pointer_in v) here

  -- ---- where a program goes on

  next_keeps : (step : Evaluation (Unit {0})) → Keeps e calls step → Keeps e calls (then_next step)
  next_keeps step kept = then_keeps e calls _ _ kept (λ u s a. a)

  after_keeps : (flow : Flow) (go : State → Evaluation Flow) → StepKeeps e calls go → StepKeeps e calls (after flow go)
  after_keeps Next go kept = kept
  after_keeps Broke go kept = λ s a. a
  after_keeps Continued go kept = λ s a. a
  after_keeps (Returned value) go kept = λ s a. a

  branch_keeps : (b : Bool) (x y : State → Evaluation Flow) → StepKeeps e calls x → StepKeeps e calls y
      → StepKeeps e calls (branch b x y)
  branch_keeps true x y kx ky = kx
  branch_keeps false x y kx ky = ky

  turn_keeps : (flow : Flow) (go : State → Evaluation Flow) → StepKeeps e calls go
      → StepKeeps e calls (after_turn flow go)
  turn_keeps Next go kept = kept
  turn_keeps Continued go kept = kept
  turn_keeps Broke go kept = λ s a. a
  turn_keeps (Returned value) go kept = λ s a. a

  turns_keep : (n : ℕ) (test : State → Evaluation Bool) (body : State → Evaluation Flow)
      (step : State → Evaluation (Unit {0})) → StepKeeps e calls test → StepKeeps e calls body
      → StepKeeps e calls step → StepKeeps e calls (turns n test body step)
  turns_keep zero test body step kt kb ks s a = quiet_closes e s calls OutOfTicks refl a
  turns_keep (suc n) test body step kt kb ks s a = keeps_tick e calls calls s _ a (λ left is.
      then_keeps e calls _ _ (kt _ (at_tick e s calls left is a)) (λ goes_on s2 a2.
      branch_keeps goes_on _ _ (λ s3 a3. then_keeps e calls _ _ (kb s3 a3) (λ flow s4 a4.
      turn_keeps flow _ (λ s5 a5. then_keeps e calls _ _ (ks s5 a5) (λ u s6 a6.
      turns_keep n test body step kt kb ks s6 a6)) s4 a4))
      (λ s3 a3. a3) s2 a2))

  do_turns_keep : (n : ℕ) (body : State → Evaluation Flow) (test : State → Evaluation Bool) → StepKeeps e calls body
      → StepKeeps e calls test → StepKeeps e calls (do_turns n body test)
  do_turns_keep zero body test kb kt s a = quiet_closes e s calls OutOfTicks refl a
  do_turns_keep (suc n) body test kb kt s a = keeps_tick e calls calls s _ a (λ left is.
      then_keeps e calls _ _ (kb _ (at_tick e s calls left is a)) (λ flow s2 a2.
      turn_keeps flow _ (λ s3 a3. then_keeps e calls _ _ (kt s3 a3) (λ goes_on s4 a4.
      branch_keeps goes_on _ _ (do_turns_keep n body test kb kt) (λ s5 a5. a5) s4 a4)) s2 a2))

  label_keeps : (at : Option ℕ) (items : ℕ → State → Evaluation Flow) → ((k : ℕ) → StepKeeps e calls (items k))
      → StepKeeps e calls (entered_at at items)
  label_keeps None items kept s a = a
  label_keeps (Some k) items kept s a = then_keeps e calls _ _ (kept k s a) (λ flow s1 a1. a1)

  -- ---- blocks

  locals_keep : (slots : ℕ) (locals objects : List Local) → AreFresh slots locals objects → (made : List Held)
      → StepKeeps e calls (locals_made locals made)
  locals_keep slots [] objects fresh made s a = a
  locals_keep slots (local ∷ rest) objects fresh made s a =
      then_keeps e calls _ _ (automatic_keeps e local.size s calls fresh.1.0 fresh.1.1 a) (λ place s1 a1.
      locals_keep slots rest (local ∷ objects) fresh.3 (held_at local.slot place local.size ∷ made) s1 a1)

  pub block_keeps : (slots : ℕ) (locals objects : List Local) → AreFresh slots locals objects
      → (items : List Held → State → Evaluation Flow) → ((held : List Held) → StepKeeps e calls (items held))
      → (held : List Held) → StepKeeps e calls (in_block locals items held)
  block_keeps slots locals objects fresh items kept held s a =
      then_keeps e calls _ _ (locals_keep slots locals objects fresh [] s a) (λ made s1 a1.
      then_keeps e calls _ _ (kept (made ++ held) s1 a1) (λ flow s2 a2. at_all_died e calls (numbers made) s2 a2))

module _ (e : Environment) (calls : List OpenCall) (program : Program) (call : Call) (kept : CallKeeps e calls call)
  where
    evaluated_keeps : {A : Type 0} (names : Names) (core : Core) (held : List Held)
        (use_value : Value → State → Evaluation A) → CoreTyped names core
        → ((v : Value) → StepKeeps e calls (use_value v))
        → StepKeeps e calls (evaluated program call core held use_value)
    evaluated_keeps names core held use_value t go =
        full_keeps e calls _ use_value (value_keeps e calls program call kept held names core t) go

    tested_keeps : (names : Names) (test : Core) (held : List Held) → CoreTyped names test
        → StepKeeps e calls (tested program call test held)
    tested_keeps names test held t = evaluated_keeps names test held (λ v. Gives (is_true v)) t (λ v s a. a)

    done_keeps : (names : Names) (core : Core) (held : List Held) → CoreTyped names core
        → StepKeeps e calls (done program call core held)
    done_keeps names core held t = evaluated_keeps names core held (λ v. Gives tt) t (λ v s a. a)

    module _ (result : Pointer) where
      mutual
        pub statement_keeps : (names : Names) (flow : typed.Flow) (st : Statement) → StatementTyped names flow st
            → (held : List Held) → StepKeeps e calls (statement program call result st held)
        statement_keeps names flow (Stands here action) t held = action_keeps names flow here action t held

        action_keeps : (names : Names) (flow : typed.Flow) (here : Pos) (action : Action)
            → ActionTyped names flow action
            → (held : List Held) → StepKeeps e calls (action_done program call result here action held)
        action_keeps names flow here (unit.Block locals items) t held =
            block_keeps e calls flow.slots locals names.objects t.0 _
            (λ held1. items_keep (names_in_block locals names) flow items t.1 0 held1) held
        action_keeps names flow here (unit.Zero slot size) t held =
            λ s a. next_keeps e calls _ (stored_keeps e _ _ here s calls a)
        action_keeps names flow here (unit.Initialize slot at content core) t held = λ s a. next_keeps e calls _
            (evaluated_keeps names core held _ t.3 (λ v. content_keeps e calls content _ v (pos_in core)) s a)
        action_keeps names flow here (unit.InitializeBytes slot at bytes) t held =
            λ s a. next_keeps e calls _ (stored_keeps e _ _ here s calls a)
        action_keeps names flow here (unit.SealBytes slot at len) t held = λ s a. at_sealed e s calls _ _ refl a
        action_keeps names flow here (unit.Evaluate core) t held =
            λ s a. next_keeps e calls _ (done_keeps names core held t.1 s a)
        action_keeps names flow here (unit.If test first second) t held = λ s a. then_keeps e calls _ _
            (tested_keeps names test held t.1 s a) (λ b s1 a1. branch_keeps e calls b _ _
            (statement_keeps names flow first t.2 held) (statement_keeps names flow second t.3 held) s1 a1)
        action_keeps names flow here (unit.While test body) t held = λ s a. turns_keep e calls s.ticks _ _ no_step
            (tested_keeps names test held t.1)
            (statement_keeps names (in_loop flow) body t.2 held) (λ s1 a1. a1) s a
        action_keeps names flow here (unit.Do body test) t held = λ s a. do_turns_keep e calls s.ticks _ _
            (statement_keeps names (in_loop flow) body t.0 held)
            (tested_keeps names test held t.2) s a
        action_keeps names flow here (unit.For test step body) t held = λ s a. turns_keep e calls s.ticks _ _ _
            (tested_keeps names test held t.1)
            (statement_keeps names (in_loop flow) body t.4 held)
            (done_keeps names step held t.3) s a
        action_keeps names flow here (unit.Switch core locals items cases default) t held = λ s a.
            then_keeps e calls _ _
            (evaluated_keeps names core held Gives t.0 (λ v s1 a1. a1) s a) (λ v s1 a1.
            label_keeps e calls (label_at (number_in v) cases default) _ (λ k.
            block_keeps e calls flow.slots locals names.objects t.2 _
            (λ held1. items_keep (names_in_block locals names) (in_switch flow) items t.3 k held1) held) s1 a1)
        action_keeps names flow here unit.Break t held = λ s a. a
        action_keeps names flow here unit.Continue t held = λ s a. a
        action_keeps names flow here unit.Return t held = λ s a. a
        action_keeps names flow here (unit.ReturnValue core) t held =
            evaluated_keeps names core held (λ v. Gives (Returned (Some v))) t.1 (λ v s a. a)
        action_keeps names flow here (unit.ReturnWhole size core) t held =
            evaluated_keeps names core held _ t.3 (λ v s a. then_keeps e calls _ _
            (copied_keeps e calls size result (pointer_in v) (pos_in core) s a) (λ u s1 a1. a1))

        items_keep : (names : Names) (flow : typed.Flow) (items : Statements) → StatementsTyped names flow items
            → (skipped : ℕ) (held : List Held) → StepKeeps e calls (items_from program call result items skipped held)
        items_keep names flow NoStatement t skipped held s a = a
        items_keep names flow (MoreStatements first rest) t (suc skipped) held s a =
            items_keep names flow rest t.1 skipped held s a
        items_keep names flow (MoreStatements first rest) t zero held s a =
            then_keeps e calls _ _ (statement_keeps names flow first t.0 held s a) (λ f s1 a1.
            after_keeps e calls f _ (items_keep names flow rest t.1 0 held) s1 a1)
