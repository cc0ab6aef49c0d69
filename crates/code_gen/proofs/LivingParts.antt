-- Each part of an expression leaves the objects that it made on top of those that lived.
use Rattle.std.proofs.Common.{◌≡◌, ◌∙◌, ℕ, Bool, true, false, List, [], refl, subst, sym, None}
use Rattle.std.proofs.lemmas.List.{append-nil}
use Rattle.std.specs.Prelude.{ℤ, Result, Ok, Err}
use Rattle.acc_num.specs.declared.fault.NumFault.{NumFault}
use Rattle.acc_num.specs.Kinds.{bytes_of}
use Rattle.acc_num.specs.Operations.{converted_to}
use Rattle.critical_table.specs.declared.code.Code.{Code}
use Rattle.critical_table.specs.declared.pos.Pos.{Pos}
use Rattle.object_store.specs.declared.by.By.TheVariants.{Star, Store}
use Rattle.object_store.specs.declared.pointer.Pointer.{Pointer}
use Rattle.object_store.specs.Load.{load_integer, load_pointer}
use Rattle.object_store.specs.Steps.{bytes_at}
use Rattle.object_store.specs.Reach.{reach}
use Rattle.object_store.proofs.RangeLemmas.{in_range, length-bytes_in}
use Rattle.lib_defs.specs.declared.value.Value.{Value}
use Rattle.lib_defs.specs.Laws.{IsWorld}
use Rattle.run_defs.specs.State.{State}
use Rattle.run_defs.specs.Evaluation.{Evaluation, Gives, bind}
use Rattle.run_defs.specs.Loads.{read_attempt, found, number_loaded, pointer_loaded, pointer_size, pointer_align}
use Rattle.c_core.specs.declared.form.Scalar.{Scalar}
use Rattle.c_core.specs.declared.form.Scalar.TheVariants as scalar
use Rattle.c_core.specs.declared.operator.By.{By}
use Rattle.c_core.specs.declared.operator.Change.{Change}
use Rattle.c_core.specs.declared.operator.Change.TheVariants as change
use Rattle.c_core.specs.Operations.{operator_outcome}
use Rattle.vm_code.specs.Accesses.{number_in, pointer_in, loaded, scalar_stored, overlap_partly, apart_if, copied}
use Rattle.vm_code.specs.Pointers.{moved}
use Rattle.vm_code.specs.Operators.{computed, told_if_found, pointer_moved, assigned, is_true, told}
use Rattle.code_gen.specs.Updates.{designated, changed_scalar, new_content, updated}
use Rattle.code_gen.specs.Evaluating.{Yield, Evaluates, of_one, of_two, of_two_if, one_then, one_of, by_test, as_truth}
use Rattle.code_gen.specs.Evaluating.{full, yields}
use Rattle.code_gen.specs.Lifetimes.{living, living_numbers, OnGives, Rests, Grows}
use Rattle.code_gen.proofs.Living.{Dies, tops_die}
use Rattle.code_gen.proofs.LivingSteps.{StepRests, rests_here, rests_then, grows_none, grows_on, gives_then}
use Rattle.code_gen.proofs.LivingSteps.{gives_from, reach_then, patch_rests, stored_rests}

-- ---- operators

pub computed_rests : (result : Result ℤ NumFault) (here : Pos) → StepRests (computed result here)
computed_rests (Ok n) here s w = rests_here s w
computed_rests (Err fault) here s w = tt

pub told_rests : (result : Result Bool Code) (here : Pos) → StepRests (told_if_found result here)
told_rests (Ok b) here s w = rests_here s w
told_rests (Err code) here s w = tt

pub moved_rests : (result : Result Pointer Code) (here : Pos) → StepRests (pointer_moved result here)
moved_rests (Ok p) here s w = rests_here s w
moved_rests (Err code) here s w = tt

pub found_rests : {A : Type 0} (result : Result A Code) (here : Pos) → StepRests (found result here)
found_rests (Ok value) here s w = rests_here s w
found_rests (Err code) here s w = tt

-- ---- accesses

pub loaded_rests : (of : Scalar) (place : Pointer) (here : Pos) → StepRests (loaded of place here)
loaded_rests (scalar.Number kind) place here s w = rests_then s (number_loaded kind place here s) _
    (reach_then (λ n s1. Rests s s1) (read_attempt place (bytes_of kind) (bytes_of kind)) here s _
    (λ is. found_rests (load_integer kind (bytes_at s.world.store place (bytes_of kind))) here s w))
    (λ n s1 w1. rests_here s1 w1)
loaded_rests scalar.Pointer place here s w = rests_then s (pointer_loaded place here s) _
    (reach_then (λ n s1. Rests s s1) (read_attempt place pointer_size pointer_align) here s _
    (λ is. found_rests (load_pointer (bytes_at s.world.store place pointer_size)) here s w))
    (λ p s1 w1. rests_here s1 w1)

pub scalar_rests : (of : Scalar) (place : Pointer) (v : Value) (here : Pos) → StepRests (scalar_stored of place v here)
scalar_rests (scalar.Number kind) place v here s w = stored_rests _ _ here s w
scalar_rests scalar.Pointer place v here s w = stored_rests _ _ here s w

pub designated_rests : (by : By) (size align : ℕ) (p : Pointer) (here : Pos)
    → StepRests (designated by size align p here)
designated_rests by size align p here s w = reach_then (λ v s1. Rests s s1) _ here s _ (λ is. rests_here s w)

pub assigned_rests : (of : Scalar) (place : Pointer) (v : Value) (here : Pos) → StepRests (assigned of place v here)
assigned_rests of place v here s w =
    rests_then s (scalar_stored of place v here s) _ (scalar_rests of place v here s w) (λ u s1 w1. rests_here s1 w1)

apart_then : {B : Type 0} (Q : B → State → Type 0) (overlaps : Bool) (here : Pos) (s : State)
    (next : Unit {0} → State → Evaluation B)
    → OnGives Q (next tt s) → OnGives Q (bind (apart_if overlaps here s) next)
apart_then Q false here s next go = go
apart_then Q true here s next go = tt

pub copied_rests : (size : ℕ) (to from : Pointer) (here : Pos) → StepRests (copied size to from here)
copied_rests size to from here s w = reach_then (λ u s1. Rests s s1) _ here s _ (λ stores.
    apart_then (λ u s1. Rests s s1) (overlap_partly size to from) here s _
    (reach_then (λ u s1. Rests s s1) (read_attempt from size 1) here s _ (λ reads.
    patch_rests s (record { place = to; bytes = bytes_at s.world.store from size })
    (record {
      align = 1;
      by = Store;
      storing = refl;
      reached = subst (λ n. reach s.world.store to n 1 Store ≡ None)
          (length-bytes_in s.world.store.objects from size
          (in_range s.world.store from size (record { align = 1; by = Star; reached = reads }))) stores;
    }) w)))

-- ---- what is changed

new_rests : (by : Change) (old : Value) (number : ℤ) (here : Pos) → StepRests (new_content by old number here)
new_rests (change.Number operator held at) old number here s w =
    rests_then s (computed (operator_outcome operator at (converted_to at (number_in old)) number) here s) _
    (computed_rests (operator_outcome operator at (converted_to at (number_in old)) number) here s w)
    (λ v s1 w1. rests_here s1 w1)
new_rests (change.Pointer stride) old number here s w = moved_rests (moved stride (pointer_in old) number) here s w

pub updated_rests : (by : Change) (place : Pointer) (number : ℤ) (here : Pos)
    → StepRests (updated by place number here)
updated_rests by place number here s w = reach_then (λ u s1. Rests s s1) _ here s _ (λ is.
    rests_then s (loaded (changed_scalar by) place here s) _ (loaded_rests (changed_scalar by) place here s w)
    (λ old s2 w2.
    rests_then s2 (new_content by old number here s2) _ (new_rests by old number here s2 w2) (λ new s3 w3.
    rests_then s3 (scalar_stored (changed_scalar by) place new here s3) _
    (scalar_rests (changed_scalar by) place new here s3 w3) (λ u s4 w4. rests_here s4 w4))))

-- ---- expressions as they are put together

abbrev pub PartGrows : Evaluates → Type 0
PartGrows part = (made : List ℕ) (s : State) → IsWorld s.world
    → OnGives (λ (x : Yield) s1. Grows made x.made s s1) (part made s)

-- a part, and what comes behind it
pub grows_then : {A B : Type 0} (f : A → List ℕ) (g : B → List ℕ) (made : List ℕ) (s : State) (x : Evaluation A)
    (next : A → State → Evaluation B) → OnGives (λ v s1. Grows made (f v) s s1) x
    → ((v : A) (s1 : State) → IsWorld s1.world → OnGives (λ w s2. Grows (f v) (g w) s1 s2) (next v s1))
    → OnGives (λ w s2. Grows made (g w) s s2) (bind x next)
grows_then f g made s x next grows go =
    gives_then (λ v s1. Grows made (f v) s s1) (λ w s2. Grows made (g w) s s2) x next grows (λ v s1 a.
    gives_from (λ w s2. Grows (f v) (g w) s1 s2) (λ w s2. Grows made (g w) s s2) (next v s1) (go v s1 a.world)
    (λ w s2 b. grows_on made (f v) (g w) s s1 s2 a b))

abbrev pub made_by : Yield → List ℕ
made_by x = x.made

-- a step that makes no value object
pub step_then : {A B : Type 0} (g : B → List ℕ) (made : List ℕ) (s : State) (x : Evaluation A)
    (next : A → State → Evaluation B) → OnGives (λ v s1. Rests s s1) x
    → ((v : A) (s1 : State) → IsWorld s1.world → OnGives (λ w s2. Grows made (g w) s1 s2) (next v s1))
    → OnGives (λ w s2. Grows made (g w) s s2) (bind x next)
step_then g made s x next rests go = grows_then (λ v. made) g made s x next
    (gives_from (λ v s1. Rests s s1) (λ v s1. Grows made made s s1) x rests (λ v s1 r. grows_none made s s1 r)) go

pub none_grows : (made : List ℕ) (s : State) → IsWorld s.world → Grows made made s s
none_grows made s w = grows_none made s s (rests_here s w)

pub one_grows : (operand : Evaluates) (apply : Value → State → Evaluation Value) → PartGrows operand
    → ((v : Value) → StepRests (apply v)) → PartGrows (of_one operand apply)
one_grows operand apply part go made s w = grows_then made_by made_by made s (operand made s) _ (part made s w)
    (λ x s1 w1. step_then made_by x.made s1 (apply x.value s1) _ (go x.value s1 w1)
    (λ v s2 w2. none_grows x.made s2 w2))

pub yields_grows : (v : Value) → PartGrows (yields v)
yields_grows v made s w = none_grows made s w

pub truth_grows : (operand : Evaluates) → PartGrows operand → PartGrows (as_truth operand)
truth_grows operand part = one_grows operand (λ v. Gives (told (is_true v))) part (λ v s w. rests_here s w)

pub two_grow : (left right : Evaluates) (apply : Value → Value → State → Evaluation Value) → PartGrows left
    → PartGrows right → ((v w : Value) → StepRests (apply v w)) → PartGrows (of_two left right apply)
two_grow left right apply l r go made s w = grows_then made_by made_by made s (left made s) _ (l made s w)
    (λ x s1 w1. one_grows right (apply x.value) r (go x.value) x.made s1 w1)

pub two_grow_if : (number_first : Bool) (p n : Evaluates) (apply : Value → Value → State → Evaluation Value)
    → PartGrows p → PartGrows n → ((v w : Value) → StepRests (apply v w))
    → PartGrows (of_two_if number_first p n apply)
two_grow_if false p n apply gp gn go = two_grow p n apply gp gn go
two_grow_if true p n apply gp gn go = two_grow n p (λ w v. apply v w) gn gp (λ w v. go v w)

pub then_right_grows : (left right : Evaluates) → PartGrows left → PartGrows right → PartGrows (one_then left right)
then_right_grows left right l r made s w =
    grows_then made_by made_by made s (left made s) _ (l made s w) (λ x s1 w1. r x.made s1 w1)

chosen_grows : (b : Bool) (x y : Evaluates) → PartGrows x → PartGrows y → PartGrows (one_of b x y)
chosen_grows true x y gx gy = gx
chosen_grows false x y gx gy = gy

pub test_grows : (test x y : Evaluates) → PartGrows test → PartGrows x → PartGrows y → PartGrows (by_test test x y)
test_grows test x y gt gx gy made s w = grows_then made_by made_by made s (test made s) _ (gt made s w)
    (λ v s1 w1. chosen_grows (is_true v.value) x y gx gy v.made s1 w1)

-- what a part without value objects in front of it has made lives on top
pub full_dies : (x : Yield) (s s1 s2 : State) → Grows [] x.made s s1 → Rests s1 s2
    → Dies x.made (living s) s2
full_dies x s s1 s2 g r = subst (λ numbers. Dies numbers (living s) s2)
    (sym (g.numbers ∙ append-nil (living_numbers g.new)))
    (tops_die g.new (living s) s2 r.world (r.same ∙ g.on_top))

pub full_rests : {A : Type 0} (part : Evaluates) (use_value : Value → State → Evaluation A) → PartGrows part
    → ((v : Value) → StepRests (use_value v)) → StepRests (full part use_value)
full_rests part use_value grows go s w =
    gives_then (λ (x : Yield) s1. Grows [] x.made s s1) (λ v s3. Rests s s3) (part [] s) _ (grows [] s w) (λ x s1 g.
    gives_then (λ v s2. Rests s1 s2) (λ v s3. Rests s s3) (use_value x.value s1) _ (go x.value s1 g.world)
    (λ v s2 r. let d : Dies x.made (living s) s2 = full_dies x s s1 s2 g r in
    record { world = d.world; same = d.left }))
