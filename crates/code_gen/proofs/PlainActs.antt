-- What instructions do behind operands of their forms, as the operators do.
use Rattle.std.proofs.Common.{◌≡◌, ◌∙◌, ℕ, ◌+◌, Bool, true, false, List, [], ◌∷◌, Some, refl, ap}
use Rattle.std.specs.Prelude.{ℤ, not, Result, Ok, Err}
use Rattle.acc_num.specs.declared.fault.NumFault.{NumFault}
use Rattle.critical_table.specs.declared.code.Code.{Code}
use Rattle.acc_num.specs.declared.kind.IntKind.{IntKind}
use Rattle.acc_num.specs.declared.kind.IntKind.TheVariants.{I32}
use Rattle.acc_num.specs.Operations.{is_zero}
use Rattle.critical_table.specs.declared.pos.Pos.{Pos}
use Rattle.object_store.specs.declared.pointer.Pointer.{Pointer}
use Rattle.c_types.specs.Compatible.{same_bool}
use Rattle.c_core.specs.declared.form.Form.{Form}
use Rattle.c_core.specs.declared.form.Form.TheVariants as form
use Rattle.c_core.specs.declared.form.Scalar.{Scalar}
use Rattle.c_core.specs.declared.form.Scalar.TheVariants as scalar
use Rattle.c_core.specs.declared.operator.Stride.{Stride}
use Rattle.c_core.specs.Forms.{scalar_form}
use Rattle.c_core.specs.Operations.{truth}
use Rattle.c_core.specs.Typed.{IsCount}
use Rattle.c_core.specs.Types.{IsNumber, IsLeft}
use Rattle.lib_defs.specs.declared.value.Value.{Value}
use Rattle.lib_defs.specs.declared.value.Value.TheVariants.{Num, Ptr, Nothing}
use Rattle.lib_defs.specs.Columns.{is_null}
use Rattle.run_defs.specs.State.{State}
use Rattle.run_defs.specs.Evaluation.{Evaluation, Gives, Stops, bind}
use Rattle.run_defs.specs.Functions.{Environment}
use Rattle.run_defs.specs.Loads.{number_loaded, pointer_loaded}
use Rattle.vm_code.specs.declared.instr.Instr.{Instr}
use Rattle.vm_code.specs.declared.instr.Instr.TheVariants as i
use Rattle.vm_code.specs.declared.parts.CodeFunction.{CodeFunction}
use Rattle.vm_code.specs.Accesses.{number_in, pointer_in, loaded, scalar_stored}
use Rattle.vm_code.specs.Contents.{Contents}
use Rattle.vm_code.specs.Frames.{Activation, Frame, Place, after}
use Rattle.vm_code.specs.Machine.{fetched}
use Rattle.vm_code.specs.Operators.{computed, told, told_if_found, pointer_moved, assigned, is_true}
use Rattle.vm_code.specs.Pointers.{moved, same_pointer}
use Rattle.code_gen.specs.ExpressionCode.{on}
use Rattle.code_gen.specs.ExpressionCode.{truth_code}
use Rattle.code_gen.specs.RunLaw.{HasKind, pushed, StandAt, Running}
use Rattle.code_gen.proofs.Going.{IfGives, Does}
use Rattle.code_gen.specs.RunLaw.{standing}
use Rattle.code_gen.proofs.Going.{does_one, does_same, does_gives}
use Rattle.code_gen.proofs.PlainParts as part
use Rattle.code_gen.proofs.PlainParts.{IsPointer, a_pointer, a_place, a_number, IsLeftAs, number_left, pointer_left}

-- ---- what operations give

pub gives_fit : {A : Type 0} (P : Value → Type 0) (x : Evaluation A) (v : A → Value) → ((a : A) → P (v a))
    → IfGives P (bind x (λ a s. Gives (v a) s))
gives_fit P (Gives a s) v go = go a
gives_fit P (Stops outcome s) v go = tt

pub truth_of_not : (b : Bool) → told (is_zero (truth b)) ≡ told (not b)
truth_of_not true = refl
truth_of_not false = refl

pub right_number : (b : Bool) (kind : IntKind) (f : Form) → IsCount b kind f → IsNumber f
right_number true kind f is = is
right_number false kind f is = a_number f kind is

module _ (it : Running) where
  abbrev e : Environment
  e = it.environment

  abbrev code : Contents
  code = it.code

  abbrev function : CodeFunction
  function = it.function

  abbrev frame : Activation
  frame = it.frame

  abbrev rest : List Frame
  rest = it.rest

  abbrev OneActs : Form → Form → ℕ → Instr → Pos → (Value → State → Evaluation Value) → Type 0
  OneActs f g at instr position apply = part.OneActs it f g at instr position apply

  abbrev TwoAct : Form → Form → Form → ℕ → Instr → Pos → (Value → Value → State → Evaluation Value) → Type 0
  TwoAct f h g at instr position apply = part.TwoAct it f h g at instr position apply

  abbrev StandsAt : ℕ → List (Instr × Pos) → Type 0
  StandsAt at instrs = StandAt code function at instrs

  -- ---- instructions by the form that they work on

  pub loaded_fits : (of : Scalar) (p : Pointer) (position : Pos) (s : State)
      → IfGives (HasKind (scalar_form of)) (loaded of p position s)
  loaded_fits (scalar.Number kind) p position s =
      gives_fit (HasKind (form.Number kind)) (number_loaded kind p position s) (λ n. Num n) (λ n. (n, refl))
  loaded_fits scalar.Pointer p position s = gives_fit (HasKind form.Pointer) (pointer_loaded p position s) (λ q. Ptr
      q) (λ q. (q, refl))

  pub load_acts : (of : Scalar) (f : Form) (at : ℕ) (position : Pos) → IsPointer f
      → OneActs f (scalar_form of) at (i.Load of) position (λ p. loaded of (pointer_in p) position)
  load_acts (scalar.Number kind) f at position is = part.on_pointer it f
      (form.Number kind) at (i.Load (scalar.Number kind)) position _ is (λ operands p s. refl)
      (λ p s. loaded_fits (scalar.Number kind) p position s)
  load_acts scalar.Pointer f at position is = part.on_pointer it f
      form.Pointer at (i.Load scalar.Pointer) position _ is (λ operands p s. refl)
      (λ p s. loaded_fits scalar.Pointer p position s)

  pub store_acts : (of : Scalar) (f h : Form) (at : ℕ) (position : Pos) → IsPointer f → h ≡ scalar_form of
      → TwoAct f h (scalar_form of) at (i.Store of) position (λ p a. assigned of (pointer_in p) a position)
  store_acts (scalar.Number kind) f h at position is same = part.on_pointer_number it f h
      (form.Number kind) at (i.Store (scalar.Number kind)) position _ is (a_number h kind same) (λ operands p n s. refl)
      (λ p n s. gives_fit (HasKind (form.Number kind)) (scalar_stored (scalar.Number kind) p (Num n) position s) (λ u.
      Num n)
      (λ u. (n, refl)))
  store_acts scalar.Pointer f h at position is same = part.on_pointers it f h
      form.Pointer at (i.Store scalar.Pointer) position _ is (a_pointer h same) (λ operands p q s. refl)
      (λ p q s. gives_fit (HasKind form.Pointer) (scalar_stored scalar.Pointer p (Ptr q) position s) (λ u. Ptr q)
      (λ u. (q, refl)))

  pub computed_fits : (kind : IntKind) (r : Result ℤ NumFault) (position : Pos) (s : State)
      → IfGives (HasKind (form.Number kind)) (computed r position s)
  computed_fits kind (Ok x) position s = (x, refl)
  computed_fits kind (Err fault) position s = tt

  pub told_fits : (r : Result Bool Code) (position : Pos) (s : State)
      → IfGives (HasKind (form.Number I32)) (told_if_found r position s)
  told_fits (Ok b) position s = (truth b, refl)
  told_fits (Err fault) position s = tt

  pub moved_fits : (r : Result Pointer Code) (position : Pos) (s : State)
      → IfGives (HasKind form.Pointer) (pointer_moved r position s)
  moved_fits (Ok p) position s = (p, refl)
  moved_fits (Err fault) position s = tt

  pub drop_acts : (f : Form) (at : ℕ) (position : Pos) → IsLeft f
      → OneActs f form.Nothing at i.Drop position (λ a. Gives Nothing)
  drop_acts (form.Number kind) at position is operands v s has = does_gives e code _ Nothing s _ _ refl tt
  drop_acts form.Pointer at position is operands v s has = does_gives e code _ Nothing s _ _ refl tt
  drop_acts form.Place at position is operands v s has = does_gives e code _ Nothing s _ _ refl tt
  drop_acts form.Nothing at position is operands v s has = absurd is

  -- one instruction of several
  pub step : {A : Type 0} (at : ℕ) (operands : List Value) (s : State) (instr : Instr) (position : Pos) (x :
      Evaluation A)
      (to : A → State → Place) (fits : A → Type 0) → fetched code function at ≡ Some (instr, position)
      → Does e code (part.acting it at operands position s instr) x to fits
      → Does e code (standing frame rest at operands s) x to fits
  step at operands s instr position x to fits is d =
      does_one it at operands s instr position x to fits is d

  -- a truth value
  pub truth_does : (at there : ℕ) (operands : List Value) (b : Bool) (position : Pos) (s : State) → at + 1 ≡ there
      → fetched code function at ≡ Some (i.Not, position)
      → Does e code (standing frame rest at (told b ∷ operands) s) (Gives (told (not b)) s)
      (λ w s1. standing frame rest there (w ∷ operands) s1) (HasKind (form.Number I32))
  truth_does at there operands b position s same is = step at (told b ∷ operands) s i.Not position _ _ _ is
      (does_gives e code _ (told (not b)) s _ _
      (ap (λ w. standing frame rest (at + 1) (w ∷ operands) s) (truth_of_not b)
      ∙ ap (λ place. standing frame rest place (told (not b) ∷ operands) s) same)
      (truth (not b), refl))

  pub not_null_acts : (f : Form) (at there : ℕ) (position : Pos) → at + 1 + 1 ≡ there → IsPointer f
      → (operands : List Value) (v : Value) (s : State) → HasKind f v
      → StandsAt at (on position (i.IsNull ∷ i.Not ∷ []))
      → Does e code (standing frame rest at (pushed f v operands) s) (Gives (told (not (is_null (pointer_in v)))) s)
      (λ w s1. standing frame rest there (w ∷ operands) s1) (HasKind (form.Number I32))
  not_null_acts f at there position same is operands v s has stands =
      let l : (p : Pointer) × IsLeftAs f v (Ptr p) = pointer_left f v is has in
      part.as_left it f (form.Number I32) at there
      (λ p. Gives (told (not (is_null (pointer_in p))))) operands v (Ptr l.0) s l.1
      (step at (Ptr l.0 ∷ operands) s i.IsNull position _ _ _ stands.0
      (truth_does (at + 1) there operands (is_null l.0) position s same stands.1.0))

  pub not_same_acts : (f h : Form) (at there : ℕ) (position : Pos) → at + 1 + 1 ≡ there → IsPointer f → IsPointer h
      → (operands : List Value) (v w : Value) (s : State) → HasKind f v → HasKind h w
      → StandsAt at (on position (i.Same ∷ i.Not ∷ []))
      → Does e code (standing frame rest at (pushed h w (pushed f v operands)) s)
      (Gives (told (same_bool false (same_pointer (pointer_in v) (pointer_in w)))) s)
      (λ x s1. standing frame rest there (x ∷ operands) s1) (HasKind (form.Number I32))
  not_same_acts f h at there position same is_f is_h operands v w s has_v has_w stands =
      let l : (p : Pointer) × IsLeftAs f v (Ptr p) = pointer_left f v is_f has_v in
      let r : (p : Pointer) × IsLeftAs h w (Ptr p) = pointer_left h w is_h has_w in
      part.as_two it f h (form.Number I32) at there
      (λ p q. Gives (told (same_bool false (same_pointer (pointer_in p) (pointer_in q))))) operands v w (Ptr l.0)
      (Ptr r.0) s l.1 r.1
      (step at (Ptr r.0 ∷ Ptr l.0 ∷ operands) s i.Same position _ _ _ stands.0
      (truth_does (at + 1) there operands (same_pointer l.0 r.0) position s same stands.1.0))

  pub swapped_acts : (stride : Stride) (h f : Form) (at there : ℕ) (position : Pos) → at + 1 + 1 ≡ there → IsNumber h
      → IsPointer f → (operands : List Value) (w v : Value) (s : State) → HasKind h w → HasKind f v
      → StandsAt at (on position (i.Swap ∷ i.Step stride ∷ []))
      → Does e code (standing frame rest at (pushed f v (pushed h w operands)) s)
      (pointer_moved (moved stride (pointer_in v) (number_in w)) position s)
      (λ x s1. standing frame rest there (x ∷ operands) s1) (HasKind form.Pointer)
  swapped_acts stride h f at there position same is_h is_f operands w v s has_w has_v stands =
      let l : (n : ℤ) × IsLeftAs h w (Num n) = number_left h w is_h has_w in
      let r : (p : Pointer) × IsLeftAs f v (Ptr p) = pointer_left f v is_f has_v in
      part.as_two it h f form.Pointer at there
      (λ n p. pointer_moved (moved stride (pointer_in p) (number_in n)) position) operands w v (Num l.0) (Ptr r.0) s
      l.1 r.1
      (step at (Ptr r.0 ∷ Num l.0 ∷ operands) s i.Swap position _ _ _ stands.0
      (step (at + 1) (Num l.0 ∷ Ptr r.0 ∷ operands) s (i.Step stride) position _ _ _ stands.1.0
      (does_same e code _ (pointer_moved (moved stride r.0 l.0) position s) _ (HasKind form.Pointer)
      (ap (λ place. after (pointer_moved (moved stride r.0 l.0) position s)
      (λ x s1. standing frame rest place (x ∷ operands) s1)) same)
      (moved_fits (moved stride r.0 l.0) position s))))

  -- a number as a truth value
  pub truth_acts : (f : Form) (at there : ℕ) (position : Pos) → at + 1 + 1 ≡ there → IsNumber f
      → (operands : List Value) (v : Value) (s : State) → HasKind f v → StandsAt at (on position truth_code)
      → Does e code (standing frame rest at (pushed f v operands) s) (Gives (told (is_true v)) s)
      (λ w s1. standing frame rest there (w ∷ operands) s1) (HasKind (form.Number I32))
  truth_acts f at there position same is operands v s has stands =
      let l : (n : ℤ) × IsLeftAs f v (Num n) = number_left f v is has in
      part.as_left it f (form.Number I32) at there (λ w. Gives (told (is_true w))) operands v
      (Num l.0) s l.1
      (step at (Num l.0 ∷ operands) s i.Not position _ _ _ stands.0
      (truth_does (at + 1) there operands (is_zero l.0) position s same stands.1.0))
