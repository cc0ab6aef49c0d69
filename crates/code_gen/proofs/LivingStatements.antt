-- Each statement leaves the automatic objects that live as they are, where calls do.
use Rattle.std.proofs.Common.{◌≡◌, ◌∙◌, ℕ, zero, suc, Bool, true, false, List, [], ◌∷◌, ◌++◌, map, refl, ap, sym, subst}
use Rattle.std.proofs.Common.{Option, Some, None, append_assoc}
use Rattle.std.proofs.lemmas.List.{map-append, append-nil}
use Rattle.critical_table.specs.declared.pos.Pos.{Pos}
use Rattle.object_store.specs.declared.pointer.Pointer.{Pointer}
use Rattle.lib_defs.specs.declared.value.Value.{Value}
use Rattle.lib_defs.specs.Laws.{IsWorld}
use Rattle.run_defs.specs.State.{State}
use Rattle.run_defs.specs.Evaluation.{Evaluation, Gives, ticked, automatic_made}
use Rattle.c_core.specs.declared.form.Content.{Content}
use Rattle.c_core.specs.declared.form.Content.TheVariants as content
use Rattle.c_core.specs.declared.statement.Local.{Local}
use Rattle.c_core.specs.Tree.{Core, pos_in}
use Rattle.c_core.specs.TreeUnit.{Statement, Stands, Action, Statements, NoStatement, MoreStatements, Program}
use Rattle.c_core.specs.TreeUnit as unit
use Rattle.c_core.specs.Named.{Names, names_in_block}
use Rattle.c_core.specs.Typed.{CoreTyped}
use Rattle.c_core.specs.TypedUnit as typed
use Rattle.c_core.specs.TypedUnit.{AreFresh, StatementTyped, ActionTyped, StatementsTyped, in_loop, in_switch}
use Rattle.vm_code.specs.Accesses.{pointer_in, number_in, content_stored}
use Rattle.vm_code.specs.Slots.{Held, place_of, numbers}
use Rattle.vm_code.specs.Operators.{is_true}
use Rattle.code_gen.specs.Expressions.{Call}
use Rattle.code_gen.specs.Flows.{Flow, Next, Broke, Continued, Returned, after, branch, after_turn, turns, do_turns}
use Rattle.code_gen.specs.Flows.{label_at}
use Rattle.code_gen.specs.Blocks.{held_at, locals_made, in_block}
use Rattle.code_gen.specs.Statements.{tested, done, no_step, then_next, entered_at, evaluated, statement, action_done}
use Rattle.code_gen.specs.Statements.{items_from}
use Rattle.code_gen.specs.Lifetimes.{as_living, living, living_numbers, OnGives, Rests}
use Rattle.code_gen.proofs.Living.{Dies, tops_die}
use Rattle.code_gen.proofs.LivingSteps.{HeldOnTop, StepRests, IsMade, rests_here, rests_then, gives_then}
use Rattle.code_gen.proofs.LivingSteps.{gives_from, ticks_rest}
use Rattle.code_gen.proofs.LivingSteps.{seal_rests, stored_rests, automatic_lives}
use Rattle.code_gen.proofs.LivingParts.{scalar_rests, copied_rests, full_rests}
use Rattle.code_gen.proofs.LivingExpressions.{CallRests, value_grows}

pub content_rests : (of : Content) (place : Pointer) (v : Value) (here : Pos)
    → StepRests (content_stored of place v here)
content_rests (content.Scalar scalar) place v here = scalar_rests scalar place v here
content_rests (content.Whole size) place v here = copied_rests size place (pointer_in v) here

-- ---- where a program goes on

next_rests : (s : State) (step : Evaluation (Unit {0})) → OnGives (λ u s1. Rests s s1) step
    → OnGives (λ f s1. Rests s s1) (then_next step)
next_rests s step kept = rests_then s _ _ kept (λ u s1 w. rests_here s1 w)

after_rests : (flow : Flow) (go : State → Evaluation Flow) → StepRests go → StepRests (after flow go)
after_rests Next go kept = kept
after_rests Broke go kept = λ s w. rests_here s w
after_rests Continued go kept = λ s w. rests_here s w
after_rests (Returned value) go kept = λ s w. rests_here s w

branch_rests : (b : Bool) (x y : State → Evaluation Flow) → StepRests x → StepRests y
    → StepRests (branch b x y)
branch_rests true x y kx ky = kx
branch_rests false x y kx ky = ky

turn_rests : (flow : Flow) (go : State → Evaluation Flow) → StepRests go
    → StepRests (after_turn flow go)
turn_rests Next go kept = kept
turn_rests Continued go kept = kept
turn_rests Broke go kept = λ s w. rests_here s w
turn_rests (Returned value) go kept = λ s w. rests_here s w

turns_rest : (n : ℕ) (test : State → Evaluation Bool) (body : State → Evaluation Flow)
    (step : State → Evaluation (Unit {0})) → StepRests test → StepRests body
    → StepRests step → StepRests (turns n test body step)
turns_rest zero test body step rt rb rs s w = tt
turns_rest (suc n) test body step rt rb rs s w = rests_then s (ticked s) _ (ticks_rest s w) (λ u s1 w1.
    rests_then s1 (test s1) _ (rt s1 w1) (λ goes_on.
    branch_rests goes_on _ _ (λ s3 w3. rests_then s3 (body s3) _ (rb s3 w3) (λ flow.
    turn_rests flow _ (λ s5 w5. rests_then s5 (step s5) _ (rs s5 w5) (λ v s6 w6.
    turns_rest n test body step rt rb rs s6 w6))))
    (λ s3 w3. rests_here s3 w3)))

do_turns_rest : (n : ℕ) (body : State → Evaluation Flow) (test : State → Evaluation Bool) → StepRests body
    → StepRests test → StepRests (do_turns n body test)
do_turns_rest zero body test rb rt s w = tt
do_turns_rest (suc n) body test rb rt s w = rests_then s (ticked s) _ (ticks_rest s w) (λ u s1 w1.
    rests_then s1 (body s1) _ (rb s1 w1) (λ flow.
    turn_rests flow _ (λ s3 w3. rests_then s3 (test s3) _ (rt s3 w3) (λ goes_on.
    branch_rests goes_on _ _ (do_turns_rest n body test rb rt) (λ s5 w5. rests_here s5 w5)))))

label_rests : (at : Option ℕ) (items : ℕ → State → Evaluation Flow) → ((k : ℕ) → StepRests (items k))
    → StepRests (entered_at at items)
label_rests None items kept s w = rests_here s w
label_rests (Some k) items kept s w = rests_then s (items k s) _ (kept k s w) (λ flow s1 w1. rests_here s1 w1)

-- ---- blocks

pub held_on : (h : Held) (made made1 : List Held) (s s1 s2 : State) → IsMade h.size s (place_of h) s1
    → HeldOnTop (h ∷ made) made1 s1 s2 → HeldOnTop made made1 s s2
held_on h made made1 s s1 s2 m b = record {
  new = b.new ++ h ∷ [];
  world = b.world;
  on_top = b.on_top ∙ ap (λ l. map as_living b.new ++ l) m.on_top
      ∙ sym (append_assoc (map as_living b.new) (as_living h ∷ []) (living s))
      ∙ ap (λ l. l ++ living s) (sym (map-append as_living b.new (h ∷ [])));
  held = b.held ∙ sym (append_assoc b.new (h ∷ []) made);
}

pub held_numbers : (held : List Held) → living_numbers (map as_living held) ≡ numbers held
held_numbers [] = refl
held_numbers (h ∷ held) = ap (λ l. h.number ∷ l) (held_numbers held)

-- they die
pub held_die : (made : List Held) (s s1 s2 : State) → HeldOnTop [] made s s1 → Rests s1 s2
    → Dies (numbers made) (living s) s2
held_die made s s1 s2 t r = subst (λ l. Dies l (living s) s2)
    (held_numbers t.new ∙ ap numbers (sym (t.held ∙ append-nil t.new)))
    (tops_die (map as_living t.new) (living s) s2 r.world (r.same ∙ t.on_top))

pub locals_live : (slots : ℕ) (locals objects : List Local) → AreFresh slots locals objects → (made : List Held)
    (s : State) → IsWorld s.world → OnGives (λ made1 s1. HeldOnTop made made1 s s1) (locals_made locals made s)
locals_live slots [] objects fresh made s w = record { new = []; world = w; on_top = refl; held = refl }
locals_live slots (local ∷ rest) objects fresh made s w =
    gives_then (IsMade local.size s) (λ made1 s2. HeldOnTop made made1 s s2) (automatic_made local.size s) _
    (automatic_lives local.size s fresh.1.1 w) (λ place s1 m.
    let h : Held = held_at local.slot place local.size in
    gives_from (λ made1 s2. HeldOnTop (h ∷ made) made1 s1 s2) (λ made1 s2. HeldOnTop made made1 s s2) _
    (locals_live slots rest (local ∷ objects) fresh.3 (h ∷ made) s1 m.world) (λ made1 s2 b.
    held_on h made made1 s s1 s2 (record { world = m.world; on_top = m.on_top }) b))

pub block_rests : (slots : ℕ) (locals objects : List Local) → AreFresh slots locals objects
    → (items : List Held → State → Evaluation Flow) → ((held : List Held) → StepRests (items held))
    → (held : List Held) → StepRests (in_block locals items held)
block_rests slots locals objects fresh items kept held s w =
    gives_then (λ made s1. HeldOnTop [] made s s1) (λ f s3. Rests s s3) (locals_made locals [] s) _
    (locals_live slots locals objects fresh [] s w) (λ made s1 t.
    gives_then (λ f s2. Rests s1 s2) (λ f s3. Rests s s3) (items (made ++ held) s1) _
    (kept (made ++ held) s1 t.world) (λ f s2 r.
    let d : Dies (numbers made) (living s) s2 = held_die made s s1 s2 t r in
    record { world = d.world; same = d.left }))

module _ (program : Program) (call : Call) (rests : CallRests call) where
  evaluated_rests : {A : Type 0} (names : Names) (core : Core) (held : List Held)
      (use_value : Value → State → Evaluation A) → CoreTyped names core
      → ((v : Value) → StepRests (use_value v))
      → StepRests (evaluated program call core held use_value)
  evaluated_rests names core held use_value t go =
      full_rests _ use_value (value_grows program call rests held names core t) go

  tested_rests : (names : Names) (test : Core) (held : List Held) → CoreTyped names test
      → StepRests (tested program call test held)
  tested_rests names test held t = evaluated_rests names test held (λ v. Gives (is_true v)) t (λ v s w. rests_here s w)

  done_rests : (names : Names) (core : Core) (held : List Held) → CoreTyped names core
      → StepRests (done program call core held)
  done_rests names core held t = evaluated_rests names core held (λ v. Gives tt) t (λ v s w. rests_here s w)

  module _ (result : Pointer) where
    mutual
      pub statement_rests : (names : Names) (flow : typed.Flow) (st : Statement) → StatementTyped names flow st
          → (held : List Held) → StepRests (statement program call result st held)
      statement_rests names flow (Stands here action) t held = action_rests names flow here action t held

      action_rests : (names : Names) (flow : typed.Flow) (here : Pos) (action : Action)
          → ActionTyped names flow action
          → (held : List Held) → StepRests (action_done program call result here action held)
      action_rests names flow here (unit.Block locals items) t held =
          block_rests flow.slots locals names.objects t.0 _
          (λ held1. items_rest (names_in_block locals names) flow items t.1 0 held1) held
      action_rests names flow here (unit.Zero slot size) t held =
          λ s a. next_rests s _ (stored_rests _ _ here s a)
      action_rests names flow here (unit.Initialize slot at content core) t held = λ s a. next_rests s _
          (evaluated_rests names core held _ t.3 (λ v. content_rests content _ v (pos_in core)) s a)
      action_rests names flow here (unit.InitializeBytes slot at bytes) t held =
          λ s a. next_rests s _ (stored_rests _ _ here s a)
      action_rests names flow here (unit.SealBytes slot at len) t held = λ s a. seal_rests s _ _ a
      action_rests names flow here (unit.Evaluate core) t held =
          λ s a. next_rests s _ (done_rests names core held t.1 s a)
      action_rests names flow here (unit.If test first second) t held = λ s a. rests_then s _ _
          (tested_rests names test held t.1 s a) (λ b s1 a1. branch_rests b _ _
          (statement_rests names flow first t.2 held) (statement_rests names flow second t.3 held) s1 a1)
      action_rests names flow here (unit.While test body) t held = λ s a. turns_rest s.ticks _ _ no_step
          (tested_rests names test held t.1)
          (statement_rests names (in_loop flow) body t.2 held) (λ s1 w1. rests_here s1 w1) s a
      action_rests names flow here (unit.Do body test) t held = λ s a. do_turns_rest s.ticks _ _
          (statement_rests names (in_loop flow) body t.0 held)
          (tested_rests names test held t.2) s a
      action_rests names flow here (unit.For test step body) t held = λ s a. turns_rest s.ticks _ _ _
          (tested_rests names test held t.1)
          (statement_rests names (in_loop flow) body t.4 held)
          (done_rests names step held t.3) s a
      action_rests names flow here (unit.Switch core locals items cases default) t held = λ s a.
          rests_then s _ _
          (evaluated_rests names core held Gives t.0 (λ v s1 w1. rests_here s1 w1) s a) (λ v s1 a1.
          label_rests (label_at (number_in v) cases default) _ (λ k.
          block_rests flow.slots locals names.objects t.2 _
          (λ held1. items_rest (names_in_block locals names) (in_switch flow) items t.3 k held1) held) s1 a1)
      action_rests names flow here unit.Break t held = λ s a. rests_here s a
      action_rests names flow here unit.Continue t held = λ s a. rests_here s a
      action_rests names flow here unit.Return t held = λ s a. rests_here s a
      action_rests names flow here (unit.ReturnValue core) t held =
          evaluated_rests names core held (λ v. Gives (Returned (Some v))) t.1 (λ v s w. rests_here s w)
      action_rests names flow here (unit.ReturnWhole size core) t held =
          evaluated_rests names core held _ t.3 (λ v s a. rests_then s _ _
          (copied_rests size result (pointer_in v) (pos_in core) s a) (λ u s1 w1. rests_here s1 w1))

      pub items_rest : (names : Names) (flow : typed.Flow) (items : Statements) → StatementsTyped names flow items
          → (skipped : ℕ) (held : List Held) → StepRests (items_from program call result items skipped held)
      items_rest names flow NoStatement t skipped held s a = rests_here s a
      items_rest names flow (MoreStatements first rest) t (suc skipped) held s a =
          items_rest names flow rest t.1 skipped held s a
      items_rest names flow (MoreStatements first rest) t zero held s a =
          rests_then s _ _ (statement_rests names flow first t.0 held s a) (λ f s1 a1.
          after_rests f _ (items_rest names flow rest t.1 0 held) s1 a1)
