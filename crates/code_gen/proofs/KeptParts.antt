-- What each part of an evaluation keeps: the journal so far can be replayed, and where the run stops it is lawful.
use Rattle.std.proofs.Common.{◌≡◌, ℕ, Bool, true, false, List, [], ◌∷◌, refl, subst, None}
use Rattle.std.specs.Prelude.{ℤ, Result, Ok, Err}
use Rattle.acc_num.specs.declared.fault.NumFault.{NumFault}
use Rattle.critical_table.specs.declared.code.Code.{Code}
use Rattle.critical_table.specs.declared.code.Code.TheVariants.{U10}
use Rattle.critical_table.specs.declared.pos.Pos.{Pos}
use Rattle.object_store.specs.declared.by.By.TheVariants.{Star, Store}
use Rattle.object_store.specs.declared.pointer.Pointer.{Pointer}
use Rattle.object_store.specs.Steps.{bytes_at}
use Rattle.object_store.specs.Reach.{reach}
use Rattle.object_store.proofs.RangeLemmas.{in_range, length-bytes_in}
use Rattle.lib_defs.specs.declared.value.Value.{Value}
use Rattle.run_defs.specs.State.{State, died}
use Rattle.run_defs.specs.Evaluation.{Evaluation, Gives, bind}
use Rattle.run_defs.specs.Loads.{read_attempt, found}
use Rattle.run_defs.specs.Functions.{Environment}
use Rattle.run_defs.specs.Replay.{OpenCall}
use Rattle.run_defs.specs.Kept.{At, Keeps}
use Rattle.run_defs.proofs.Following.{at_died, at_patched, undefined_closes, keeps_bind, keeps_reach, stored_keeps}
use Rattle.run_defs.proofs.Starting.{number_keeps, pointer_keeps}
use Rattle.c_core.specs.declared.form.Scalar.{Scalar}
use Rattle.c_core.specs.declared.form.Scalar.TheVariants as scalar
use Rattle.c_core.specs.declared.operator.By.{By}
use Rattle.c_core.specs.declared.operator.Change.{Change}
use Rattle.c_core.specs.declared.operator.Change.TheVariants as change
use Rattle.c_core.specs.Operations.{operator_outcome}
use Rattle.acc_num.specs.Operations.{converted_to}
use Rattle.vm_code.specs.Accesses.{number_in, pointer_in, loaded, scalar_stored, overlap_partly, apart_if}
use Rattle.vm_code.specs.Accesses.{copied}
use Rattle.vm_code.specs.Pointers.{moved}
use Rattle.vm_code.specs.Operators.{computed, told_if_found, pointer_moved, assigned, is_true, told}
use Rattle.vm_code.specs.Slots.{all_died}
use Rattle.code_gen.specs.Updates.{designated, changed_scalar, new_content, updated}
use Rattle.code_gen.specs.Evaluating.{Evaluates, of_one, of_two, of_two_if, one_then, one_of, by_test, as_truth}
use Rattle.code_gen.specs.Evaluating.{full, yields}

module _ (e : Environment) (calls : List OpenCall) where
  -- a step that keeps it
  abbrev pub StepKeeps : {A : Type 0} → (State → Evaluation A) → Type 0
  StepKeeps step = (s : State) → At e s calls → Keeps e calls (step s)

  pub then_keeps : {A B : Type 0} (x : Evaluation A) (next : A → State → Evaluation B) → Keeps e calls x
      → ((value : A) → StepKeeps (next value)) → Keeps e calls (bind x next)
  then_keeps x next kept go = keeps_bind e calls calls x next kept go

  -- ---- operators

  pub computed_keeps : (result : Result ℤ NumFault) (here : Pos) → StepKeeps (computed result here)
  computed_keeps (Ok n) here s a = a
  computed_keeps (Err fault) here s a = undefined_closes e s calls _ here a

  pub told_keeps : (result : Result Bool Code) (here : Pos) → StepKeeps (told_if_found result here)
  told_keeps (Ok b) here s a = a
  told_keeps (Err code) here s a = undefined_closes e s calls code here a

  pub moved_keeps : (result : Result Pointer Code) (here : Pos) → StepKeeps (pointer_moved result here)
  moved_keeps (Ok p) here s a = a
  moved_keeps (Err code) here s a = undefined_closes e s calls code here a

  pub found_keeps : {A : Type 0} (result : Result A Code) (here : Pos) → StepKeeps (found result here)
  found_keeps (Ok value) here s a = a
  found_keeps (Err code) here s a = undefined_closes e s calls code here a

  -- ---- accesses

  pub loaded_keeps : (of : Scalar) (place : Pointer) (here : Pos) → StepKeeps (loaded of place here)
  loaded_keeps (scalar.Number kind) place here s a =
      then_keeps _ _ (number_keeps e kind place here s calls a) (λ n s1 a1. a1)
  loaded_keeps scalar.Pointer place here s a =
      then_keeps _ _ (pointer_keeps e place here s calls a) (λ p s1 a1. a1)

  pub scalar_keeps : (of : Scalar) (place : Pointer) (v : Value) (here : Pos)
      → StepKeeps (scalar_stored of place v here)
  scalar_keeps (scalar.Number kind) place v here s a = stored_keeps e _ _ here s calls a
  scalar_keeps scalar.Pointer place v here s a = stored_keeps e _ _ here s calls a

  pub designated_keeps : (by : By) (size align : ℕ) (p : Pointer) (here : Pos)
      → StepKeeps (designated by size align p here)
  designated_keeps by size align p here s a = keeps_reach e calls calls _ here s _ a (λ is. a)

  pub assigned_keeps : (of : Scalar) (place : Pointer) (v : Value) (here : Pos) → StepKeeps (assigned of place v here)
  assigned_keeps of place v here s a = then_keeps _ _ (scalar_keeps of place v here s a) (λ u s1 a1. a1)

  apart_keeps : {B : Type 0} (overlaps : Bool) (here : Pos) (s : State) (next : Unit {0} → State → Evaluation B)
      → At e s calls → Keeps e calls (next tt s) → Keeps e calls (bind (apart_if overlaps here s) next)
  apart_keeps false here s next a go = go
  apart_keeps true here s next a go = undefined_closes e s calls U10 here a

  pub copied_keeps : (size : ℕ) (to from : Pointer) (here : Pos) → StepKeeps (copied size to from here)
  copied_keeps size to from here s a = keeps_reach e calls calls _ here s _ a (λ stores.
      apart_keeps (overlap_partly size to from) here s _ a
      (keeps_reach e calls calls (read_attempt from size 1) here s _ a (λ reads.
      at_patched e s calls (record { place = to; bytes = bytes_at s.world.store from size })
      (record {
        align = 1;
        by = Store;
        storing = refl;
        reached = subst (λ n. reach s.world.store to n 1 Store ≡ None)
            (length-bytes_in s.world.store.objects from size
            (in_range s.world.store from size (record { align = 1; by = Star; reached = reads }))) stores;
      }) a)))

  -- ---- what is changed

  new_keeps : (by : Change) (old : Value) (number : ℤ) (here : Pos) → StepKeeps (new_content by old number here)
  new_keeps (change.Number operator held at) old number here s a = then_keeps _ _
      (computed_keeps (operator_outcome operator at (converted_to at (number_in old)) number) here s a)
      (λ v s1 a1. a1)
  new_keeps (change.Pointer stride) old number here s a = moved_keeps (moved stride (pointer_in old) number) here s a

  pub updated_keeps : (by : Change) (place : Pointer) (number : ℤ) (here : Pos)
      → StepKeeps (updated by place number here)
  updated_keeps by place number here s a = keeps_reach e calls calls _ here s _ a (λ is.
      then_keeps _ _ (loaded_keeps (changed_scalar by) place here s a) (λ old s2 a2.
      then_keeps _ _ (new_keeps by old number here s2 a2) (λ new s3 a3.
      then_keeps _ _ (scalar_keeps (changed_scalar by) place new here s3 a3) (λ u s4 a4. a4))))

  -- ---- deaths

  pub at_all_died : (numbers : List ℕ) (s : State) → At e s calls → At e (all_died numbers s) calls
  at_all_died [] s a = a
  at_all_died (number ∷ rest) s a = at_all_died rest (died number s) (at_died e s calls number a)

  -- ---- expressions as they are put together

  abbrev pub PartKeeps : Evaluates → Type 0
  PartKeeps part = (made : List ℕ) → StepKeeps (part made)

  pub one_keeps : (operand : Evaluates) (apply : Value → State → Evaluation Value) → PartKeeps operand
      → ((v : Value) → StepKeeps (apply v)) → PartKeeps (of_one operand apply)
  one_keeps operand apply part go made s a = then_keeps _ _ (part made s a) (λ x s1 a1.
      then_keeps _ _ (go x.value s1 a1) (λ v s2 a2. a2))

  pub yields_keeps : (v : Value) → PartKeeps (yields v)
  yields_keeps v made s a = a

  pub truth_keeps : (operand : Evaluates) → PartKeeps operand → PartKeeps (as_truth operand)
  truth_keeps operand part = one_keeps operand (λ v. Gives (told (is_true v))) part (λ v s a. a)

  pub two_keep : (left right : Evaluates) (apply : Value → Value → State → Evaluation Value) → PartKeeps left
      → PartKeeps right → ((v w : Value) → StepKeeps (apply v w)) → PartKeeps (of_two left right apply)
  two_keep left right apply l r go made s a = then_keeps _ _ (l made s a) (λ x s1 a1.
      one_keeps right (apply x.value) r (go x.value) x.made s1 a1)

  pub two_keep_if : (number_first : Bool) (p n : Evaluates) (apply : Value → Value → State → Evaluation Value)
      → PartKeeps p → PartKeeps n → ((v w : Value) → StepKeeps (apply v w))
      → PartKeeps (of_two_if number_first p n apply)
  two_keep_if false p n apply kp kn go = two_keep p n apply kp kn go
  two_keep_if true p n apply kp kn go = two_keep n p (λ w v. apply v w) kn kp (λ w v. go v w)

  pub then_right_keeps : (left right : Evaluates) → PartKeeps left → PartKeeps right → PartKeeps (one_then left right)
  then_right_keeps left right l r made s a = then_keeps _ _ (l made s a) (λ x s1 a1. r x.made s1 a1)

  chosen_keeps : (b : Bool) (x y : Evaluates) → PartKeeps x → PartKeeps y → PartKeeps (one_of b x y)
  chosen_keeps true x y kx ky = kx
  chosen_keeps false x y kx ky = ky

  pub test_keeps : (test x y : Evaluates) → PartKeeps test → PartKeeps x → PartKeeps y → PartKeeps (by_test test x y)
  test_keeps test x y kt kx ky made s a = then_keeps _ _ (kt made s a) (λ v s1 a1.
      chosen_keeps (is_true v.value) x y kx ky v.made s1 a1)

  pub full_keeps : {A : Type 0} (part : Evaluates) (use_value : Value → State → Evaluation A) → PartKeeps part
      → ((v : Value) → StepKeeps (use_value v)) → StepKeeps (full part use_value)
  full_keeps part use_value kept go s a = then_keeps _ _ (kept [] s a) (λ x s1 a1.
      then_keeps _ _ (go x.value s1 a1) (λ v s2 a2. at_all_died x.made s2 a2))
