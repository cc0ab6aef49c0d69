-- Parts of expressions and instructions behind them: how their runs are put together.
use Rattle.std.proofs.Common.{◌≡◌, ◌∙◌, ℕ, ◌+◌, List, ◌∷◌, ap, sym}
use Rattle.std.proofs.Common.{subst}
use Rattle.std.specs.Prelude.{ℤ}
use Rattle.acc_num.specs.declared.kind.IntKind.{IntKind}
use Rattle.critical_table.specs.declared.pos.Pos.{Pos}
use Rattle.c_core.specs.declared.form.Form.{Form}
use Rattle.c_core.specs.declared.form.Form.TheVariants as form
use Rattle.c_core.specs.Types.{IsNumber}
use Rattle.object_store.specs.declared.pointer.Pointer.{Pointer}
use Rattle.lib_defs.specs.declared.value.Value.{Value}
use Rattle.lib_defs.specs.declared.value.Value.TheVariants.{Num, Ptr}
use Rattle.run_defs.specs.State.{State}
use Rattle.run_defs.specs.Evaluation.{Evaluation}
use Rattle.run_defs.specs.Functions.{Environment}
use Rattle.vm_code.specs.declared.instr.Instr.{Instr}
use Rattle.vm_code.specs.declared.parts.CodeFunction.{CodeFunction}
use Rattle.vm_code.specs.Contents.{Contents}
use Rattle.vm_code.specs.Frames.{Activation, Frame, Place, after}
use Rattle.vm_code.specs.Machine.{act}
use Rattle.code_gen.specs.RunLaw.{HasKind, pushed, standing, Running}
use Rattle.code_gen.proofs.Going.{IfGives, Does}
use Rattle.code_gen.proofs.Going.{does_same, sees}

-- a pointer is left where the form is that of a pointer or a place
abbrev pub IsPointer : Form → Type 0
IsPointer form.Pointer = Unit {0}
IsPointer form.Place = Unit {0}
IsPointer other = ⊥

pub a_pointer : (f : Form) → f ≡ form.Pointer → IsPointer f
a_pointer f same = subst IsPointer (sym same) tt

pub a_place : (f : Form) → f ≡ form.Place → IsPointer f
a_place f same = subst IsPointer (sym same) tt

pub a_number : (f : Form) (kind : IntKind) → f ≡ form.Number kind → IsNumber f
a_number f kind same = subst IsNumber (sym same) tt

-- the value of an operand is this one, and stands on top
pub record IsLeftAs (f : Form) (v x : Value) : Type 0 where
  pub value_is : v ≡ x
  pub on_top : (operands : List Value) → pushed f v operands ≡ x ∷ operands

pub number_left : (f : Form) (v : Value) → IsNumber f → HasKind f v → (n : ℤ) × IsLeftAs f v (Num n)
number_left (form.Number kind) v is has =
    (has.0, record { value_is = has.1; on_top = λ operands. ap (λ x. x ∷ operands) has.1 })
number_left form.Pointer v is has = absurd is
number_left form.Place v is has = absurd is
number_left form.Nothing v is has = absurd is

pub pointer_left : (f : Form) (v : Value) → IsPointer f → HasKind f v → (p : Pointer) × IsLeftAs f v (Ptr p)
pointer_left (form.Number kind) v is has = absurd is
pointer_left form.Pointer v is has =
    (has.0, record { value_is = has.1; on_top = λ operands. ap (λ x. x ∷ operands) has.1 })
pointer_left form.Place v is has =
    (has.0, record { value_is = has.1; on_top = λ operands. ap (λ x. x ∷ operands) has.1 })
pointer_left form.Nothing v is has = absurd is

module _ (it : Running) where
  abbrev e : Environment
  e = it.environment

  abbrev code : Contents
  code = it.code

  abbrev function : CodeFunction
  function = it.function

  abbrev frame : Activation
  frame = it.frame

  abbrev rest : List Frame
  rest = it.rest

  abbrev pub here : ℕ → List Value → State → Place
  here at operands s = standing frame rest at operands s

  abbrev pub acting : ℕ → List Value → Pos → State → Instr → Place
  acting at operands position s instr = act (sees it at operands position s) instr

  -- an operand, and one instruction that makes of it what the operator does
  abbrev pub OneActs : Form → Form → ℕ → Instr → Pos → (Value → State → Evaluation Value) → Type 0
  OneActs f g at instr position apply = (operands : List Value) (v : Value) (s : State) → HasKind f v
      → Does e code (acting at (pushed f v operands) position s instr) (apply v s)
      (λ w s1. here (at + 1) (pushed g w operands) s1) (HasKind g)

  -- of the operand as what it is
  pub one_acts : (f g : Form) (at : ℕ) (instr : Instr) (position : Pos) (apply : Value → State → Evaluation Value)
      (operands : List Value) (v x : Value) (s : State) → IsLeftAs f v x
      → Does e code (acting at (x ∷ operands) position s instr) (apply x s)
      (λ w s1. here (at + 1) (pushed g w operands) s1) (HasKind g)
      → Does e code (acting at (pushed f v operands) position s instr) (apply v s)
      (λ w s1. here (at + 1) (pushed g w operands) s1) (HasKind g)
  one_acts f g at instr position apply operands v x s l d =
      subst (λ ops. Does e code (acting at ops position s instr) (apply v s)
      (λ w s1. here (at + 1) (pushed g w operands) s1) (HasKind g)) (sym (l.on_top operands))
      (subst (λ y. Does e code (acting at (x ∷ operands) position s instr) (apply y s)
      (λ w s1. here (at + 1) (pushed g w operands) s1) (HasKind g)) (sym l.value_is) d)

  -- two operands, and one instruction
  abbrev pub TwoAct : Form → Form → Form → ℕ → Instr → Pos → (Value → Value → State → Evaluation Value) → Type 0
  TwoAct f h g at instr position apply = (operands : List Value) (v w : Value) (s : State) → HasKind f v → HasKind h w
      → Does e code (acting at (pushed h w (pushed f v operands)) position s instr) (apply v w s)
      (λ x s1. here (at + 1) (pushed g x operands) s1) (HasKind g)

  -- of two numbers, of two pointers, of a pointer and a number, of a place and a value
  pub two_act : (f h g : Form) (at : ℕ) (instr : Instr) (position : Pos) (apply : Value → Value → State → Evaluation
      Value)
      (operands : List Value) (v w x y : Value) (s : State) → IsLeftAs f v x → IsLeftAs h w y
      → Does e code (acting at (y ∷ x ∷ operands) position s instr) (apply x y s)
      (λ z s1. here (at + 1) (pushed g z operands) s1) (HasKind g)
      → Does e code (acting at (pushed h w (pushed f v operands)) position s instr) (apply v w s)
      (λ z s1. here (at + 1) (pushed g z operands) s1) (HasKind g)
  two_act f h g at instr position apply operands v w x y s l r d =
      subst (λ ops. Does e code (acting at ops position s instr) (apply v w s)
      (λ z s1. here (at + 1) (pushed g z operands) s1) (HasKind g))
      (sym (r.on_top (pushed f v operands) ∙ ap (λ ops. y ∷ ops) (l.on_top operands)))
      (subst (λ a. Does e code (acting at (y ∷ x ∷ operands) position s instr) (apply a w s)
      (λ z s1. here (at + 1) (pushed g z operands) s1) (HasKind g)) (sym l.value_is)
      (subst (λ b. Does e code (acting at (y ∷ x ∷ operands) position s instr) (apply x b s)
      (λ z s1. here (at + 1) (pushed g z operands) s1) (HasKind g)) (sym r.value_is) d))

  -- the same where the instruction does what the operator does, and the value is of the form
  pub on_number : (f g : Form) (at : ℕ) (instr : Instr) (position : Pos)
      (apply : Value → State → Evaluation Value) → IsNumber f
      → ((operands : List Value) (n : ℤ) (s : State) → acting at (Num n ∷ operands) position s instr
      ≡ after (apply (Num n) s) (λ w s1. here (at + 1) (pushed g w operands) s1))
      → ((n : ℤ) (s : State) → IfGives (HasKind g) (apply (Num n) s)) → OneActs f g at instr position apply
  on_number f g at instr position apply is same fit operands v s has =
      let l : (n : ℤ) × IsLeftAs f v (Num n) = number_left f v is has in
      one_acts f g at instr position apply operands v (Num l.0) s l.1
      (does_same e code _ (apply (Num l.0) s) _ (HasKind g) (same operands l.0 s) (fit l.0 s))

  pub on_pointer : (f g : Form) (at : ℕ) (instr : Instr) (position : Pos)
      (apply : Value → State → Evaluation Value) → IsPointer f
      → ((operands : List Value) (p : Pointer) (s : State) → acting at (Ptr p ∷ operands) position s instr
      ≡ after (apply (Ptr p) s) (λ w s1. here (at + 1) (pushed g w operands) s1))
      → ((p : Pointer) (s : State) → IfGives (HasKind g) (apply (Ptr p) s)) → OneActs f g at instr position apply
  on_pointer f g at instr position apply is same fit operands v s has =
      let l : (p : Pointer) × IsLeftAs f v (Ptr p) = pointer_left f v is has in
      one_acts f g at instr position apply operands v (Ptr l.0) s l.1
      (does_same e code _ (apply (Ptr l.0) s) _ (HasKind g) (same operands l.0 s) (fit l.0 s))

  pub on_numbers : (f h g : Form) (at : ℕ) (instr : Instr) (position : Pos)
      (apply : Value → Value → State → Evaluation Value) → IsNumber f → IsNumber h
      → ((operands : List Value) (n : ℤ) (m : ℤ) (s : State)
      → acting at (Num m ∷ Num n ∷ operands) position s instr
      ≡ after (apply (Num n) (Num m) s) (λ w s1. here (at + 1) (pushed g w operands) s1))
      → ((n : ℤ) (m : ℤ) (s : State) → IfGives (HasKind g) (apply (Num n) (Num m) s))
      → TwoAct f h g at instr position apply
  on_numbers f h g at instr position apply is_f is_h same fit operands v w s has_v has_w =
      let l : (a : ℤ) × IsLeftAs f v (Num a) = number_left f v is_f has_v in
      let r : (b : ℤ) × IsLeftAs h w (Num b) = number_left h w is_h has_w in
      two_act f h g at instr position apply operands v w (Num l.0) (Num r.0) s l.1 r.1
      (does_same e code _ (apply (Num l.0) (Num r.0) s) _ (HasKind g) (same operands l.0 r.0 s) (fit l.0 r.0 s))

  pub on_pointers : (f h g : Form) (at : ℕ) (instr : Instr) (position : Pos)
      (apply : Value → Value → State → Evaluation Value) → IsPointer f → IsPointer h
      → ((operands : List Value) (p : Pointer) (q : Pointer) (s : State)
      → acting at (Ptr q ∷ Ptr p ∷ operands) position s instr
      ≡ after (apply (Ptr p) (Ptr q) s) (λ w s1. here (at + 1) (pushed g w operands) s1))
      → ((p : Pointer) (q : Pointer) (s : State) → IfGives (HasKind g) (apply (Ptr p) (Ptr q) s))
      → TwoAct f h g at instr position apply
  on_pointers f h g at instr position apply is_f is_h same fit operands v w s has_v has_w =
      let l : (a : Pointer) × IsLeftAs f v (Ptr a) = pointer_left f v is_f has_v in
      let r : (b : Pointer) × IsLeftAs h w (Ptr b) = pointer_left h w is_h has_w in
      two_act f h g at instr position apply operands v w (Ptr l.0) (Ptr r.0) s l.1 r.1
      (does_same e code _ (apply (Ptr l.0) (Ptr r.0) s) _ (HasKind g) (same operands l.0 r.0 s) (fit l.0 r.0 s))

  pub on_pointer_number : (f h g : Form) (at : ℕ) (instr : Instr) (position : Pos)
      (apply : Value → Value → State → Evaluation Value) → IsPointer f → IsNumber h
      → ((operands : List Value) (p : Pointer) (n : ℤ) (s : State)
      → acting at (Num n ∷ Ptr p ∷ operands) position s instr
      ≡ after (apply (Ptr p) (Num n) s) (λ w s1. here (at + 1) (pushed g w operands) s1))
      → ((p : Pointer) (n : ℤ) (s : State) → IfGives (HasKind g) (apply (Ptr p) (Num n) s))
      → TwoAct f h g at instr position apply
  on_pointer_number f h g at instr position apply is_f is_h same fit operands v w s has_v has_w =
      let l : (a : Pointer) × IsLeftAs f v (Ptr a) = pointer_left f v is_f has_v in
      let r : (b : ℤ) × IsLeftAs h w (Num b) = number_left h w is_h has_w in
      two_act f h g at instr position apply operands v w (Ptr l.0) (Num r.0) s l.1 r.1
      (does_same e code _ (apply (Ptr l.0) (Num r.0) s) _ (HasKind g) (same operands l.0 r.0 s) (fit l.0 r.0 s))

  -- the same of more than one instruction
  pub as_left : (f g : Form) (at there : ℕ) (apply : Value → State → Evaluation Value) (operands : List Value)
      (v x : Value) (s : State) → IsLeftAs f v x
      → Does e code (here at (x ∷ operands) s) (apply x s) (λ w s1. here there (pushed g w operands) s1) (HasKind g)
      → Does e code (here at (pushed f v operands) s) (apply v s) (λ w s1. here there (pushed g w operands) s1)
      (HasKind g)
  as_left f g at there apply operands v x s l d =
      subst (λ ops. Does e code (here at ops s) (apply v s) (λ w s1. here there (pushed g w operands) s1) (HasKind g))
      (sym (l.on_top operands))
      (subst (λ y. Does e code (here at (x ∷ operands) s) (apply y s) (λ w s1. here there (pushed g w operands) s1)
      (HasKind g)) (sym l.value_is) d)

  pub as_two : (f h g : Form) (at there : ℕ) (apply : Value → Value → State → Evaluation Value) (operands : List Value)
      (v w x y : Value) (s : State) → IsLeftAs f v x → IsLeftAs h w y
      → Does e code (here at (y ∷ x ∷ operands) s) (apply x y s) (λ z s1. here there (pushed g z operands) s1)
      (HasKind g)
      → Does e code (here at (pushed h w (pushed f v operands)) s) (apply v w s)
      (λ z s1. here there (pushed g z operands) s1) (HasKind g)
  as_two f h g at there apply operands v w x y s l r d =
      subst (λ ops. Does e code (here at ops s) (apply v w s) (λ z s1. here there (pushed g z operands) s1) (HasKind g))
      (sym (r.on_top (pushed f v operands) ∙ ap (λ ops. y ∷ ops) (l.on_top operands)))
      (subst (λ a. Does e code (here at (y ∷ x ∷ operands) s) (apply a w s)
      (λ z s1. here there (pushed g z operands) s1) (HasKind g)) (sym l.value_is)
      (subst (λ b. Does e code (here at (y ∷ x ∷ operands) s) (apply x b s)
      (λ z s1. here there (pushed g z operands) s1) (HasKind g)) (sym r.value_is) d))
