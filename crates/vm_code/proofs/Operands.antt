-- Operands of the kinds that an instruction takes are there: a number or a pointer as each kind says.
use Rattle.std.proofs.Common.{◌≡◌, Bool, true, false, ℤ, List, [], ◌∷◌, length, Option, Some}
use Rattle.std.proofs.Common.{None, refl, sym, subst, if◌then◌else◌}
use Rattle.acc_num.specs.declared.kind.IntKind.{IntKind}
use Rattle.acc_num.specs.declared.kind.IntKind.TheVariants.{I32}
use Rattle.object_store.specs.declared.pointer.Pointer.{Pointer}
use Rattle.lib_defs.specs.declared.value.Value.{Value}
use Rattle.lib_defs.specs.declared.value.Value.TheVariants.{Num, Ptr, Nothing}
use Rattle.lib_defs.specs.Reply.{null}
use Rattle.c_core.specs.declared.form.Form.{Form}
use Rattle.c_core.specs.declared.form.Form.TheVariants as form
use Rattle.c_core.specs.declared.form.Scalar.{Scalar}
use Rattle.c_core.specs.declared.form.Scalar.TheVariants as scalar
use Rattle.std.specs.Option.{option_and_then}
use Rattle.vm_code.specs.Frames.{Place}
use Rattle.vm_code.specs.Calling.{fits_form}
use Rattle.vm_code.specs.Machine.{on_number, on_pointer, on_scalar, on_form, on_operands, on_result}
use Rattle.vm_code.specs.OperandKinds.{Kinds, same_kind, pop, pop_number, pop_form, pop_forms, pop_result}
use Rattle.vm_code.specs.Progress.{IsOfKind, AreOfKinds}

-- The top is of a kind, and the operands below it are of kinds with which the instruction goes on.
pub record Popped (F : Option Kinds → Option Kinds) (left : Kinds) (kind : Scalar) (vs : List Value) : Type 0 where
  pub top : Value
  pub below : List Value
  pub kinds : Kinds
  pub is : vs ≡ top ∷ below
  pub of_kind : IsOfKind kind top
  pub onward : F (Some kinds) ≡ Some left
  pub rest : AreOfKinds kinds below

-- The operand of a form: there is none of the form Nothing.
pub record PoppedForm (F : Option Kinds → Option Kinds) (left : Kinds) (f : Form) (vs : List Value) : Type 0 where
  pub top : Value
  pub below : List Value
  pub kinds : Kinds
  pub is : vs ≡ top ∷ below
  pub fits : fits_form f top ≡ true
  pub onward : F (Some kinds) ≡ Some left
  pub rest : AreOfKinds kinds below

-- any number is one of each kind
number_of : (a b : IntKind) (v : Value) → IsOfKind (scalar.Number b) v → IsOfKind (scalar.Number a) v
number_of a b (Num n) is = tt
number_of a b (Ptr p) is = absurd is
number_of a b Nothing is = absurd is

module _ (F : Option Kinds → Option Kinds) (none : F None ≡ None) (left : Kinds) where
  not_there : {A : Type 0} → F None ≡ Some left → A
  not_there is = absurd (let no : ⊥ = cc in no)

  number_if : (same : Bool) (a b : IntKind) (xs : Kinds) (v : Value) (vs : List Value)
      → F (if same then Some xs else None) ≡ Some left → IsOfKind (scalar.Number b) v → AreOfKinds xs vs
      → Popped F left (scalar.Number a) (v ∷ vs)
  number_if true a b xs v vs is of are = record {
    top = v;
    below = vs;
    kinds = xs;
    is = refl;
    of_kind = number_of a b v of;
    onward = is;
    rest = are;
  }
  number_if false a b xs v vs is of are = not_there is

  pub popped : (kind : Scalar) (kinds : Kinds) (vs : List Value) → F (pop kind kinds) ≡ Some left
      → AreOfKinds kinds vs → Popped F left kind vs
  popped kind [] vs is are = not_there is
  popped kind (x ∷ xs) [] is are = absurd are
  popped (scalar.Number a) (scalar.Number b ∷ xs) (v ∷ vs) is are =
      number_if (same_kind a b) a b xs v vs is are.0 are.1
  popped (scalar.Number a) (scalar.Pointer ∷ xs) (v ∷ vs) is are = not_there is
  popped scalar.Pointer (scalar.Number b ∷ xs) (v ∷ vs) is are = not_there is
  popped scalar.Pointer (scalar.Pointer ∷ xs) (v ∷ vs) is are =
      record { top = v; below = vs; kinds = xs; is = refl; of_kind = are.0; onward = is; rest = are.1 }

  pub number_popped : (kinds : Kinds) (vs : List Value) → F (pop_number kinds) ≡ Some left → AreOfKinds kinds vs
      → Popped F left (scalar.Number I32) vs
  number_popped [] vs is are = not_there is
  number_popped (x ∷ xs) [] is are = absurd are
  number_popped (scalar.Number b ∷ xs) (v ∷ vs) is are = number_if true I32 b xs v vs is are.0 are.1
  number_popped (scalar.Pointer ∷ xs) (v ∷ vs) is are = not_there is

  fits_number : (kind : IntKind) (v : Value) → IsOfKind (scalar.Number kind) v → fits_form (form.Number kind) v ≡ true
  fits_number kind (Num n) is = refl
  fits_number kind (Ptr p) is = absurd is
  fits_number kind Nothing is = absurd is

  fits_pointer : (v : Value) → IsOfKind scalar.Pointer v
      → (fits_form form.Pointer v ≡ true) × (fits_form form.Place v ≡ true)
  fits_pointer (Num n) is = absurd is
  fits_pointer (Ptr p) is = (refl, refl)
  fits_pointer Nothing is = absurd is

  of_popped : (f : Form) (kind : Scalar) (vs : List Value)
      → ((v : Value) → IsOfKind kind v → fits_form f v ≡ true) → Popped F left kind vs → PoppedForm F left f vs
  of_popped f kind vs fits p = record {
    top = p.top;
    below = p.below;
    kinds = p.kinds;
    is = p.is;
    fits = fits p.top p.of_kind;
    onward = p.onward;
    rest = p.rest;
  }

  pub form_popped : (f : Form) (kinds : Kinds) (vs : List Value) → F (pop_form f kinds) ≡ Some left
      → AreOfKinds kinds vs → PoppedForm F left f vs
  form_popped (form.Number kind) kinds vs is are = of_popped (form.Number kind) (scalar.Number kind) vs
      (λ v of. fits_number kind v of) (popped (scalar.Number kind) kinds vs is are)
  form_popped form.Pointer kinds vs is are = of_popped form.Pointer scalar.Pointer vs
      (λ v of. (fits_pointer v of).0) (popped scalar.Pointer kinds vs is are)
  form_popped form.Place kinds vs is are = of_popped form.Place scalar.Pointer vs
      (λ v of. (fits_pointer v of).1) (popped scalar.Pointer kinds vs is are)
  form_popped form.Nothing kinds vs is are = not_there is

-- ---- what the machine does with them

module _ (Q : Place → Type 0) (left : Kinds) where
  -- on a number or a pointer that was popped
  pub at_number : (F : Option Kinds → Option Kinds) (kind : IntKind) (vs : List Value) (go : ℤ → List Value → Place)
      → Popped F left (scalar.Number kind) vs
      → ((n : ℤ) (below : List Value) (xs : Kinds) → F (Some xs) ≡ Some left → AreOfKinds xs below → Q (go n below))
      → Q (on_number vs go)
  at_number F kind vs go p all =
      subst (λ ws. Q (on_number ws go)) (sym p.is) (at_value p.top p.of_kind)
    where
      at_value : (v : Value) → IsOfKind (scalar.Number kind) v → Q (on_number (v ∷ p.below) go)
      at_value (Num n) is = all n p.below p.kinds p.onward p.rest
      at_value (Ptr q) is = absurd is
      at_value Nothing is = absurd is

  pub at_pointer : (F : Option Kinds → Option Kinds) (vs : List Value) (go : Pointer → List Value → Place)
      → Popped F left scalar.Pointer vs
      → ((q : Pointer) (below : List Value) (xs : Kinds) → F (Some xs) ≡ Some left → AreOfKinds xs below
      → Q (go q below))
      → Q (on_pointer vs go)
  at_pointer F vs go p all =
      subst (λ ws. Q (on_pointer ws go)) (sym p.is) (at_value p.top p.of_kind)
    where
      at_value : (v : Value) → IsOfKind scalar.Pointer v → Q (on_pointer (v ∷ p.below) go)
      at_value (Num n) is = absurd is
      at_value (Ptr q) is = all q p.below p.kinds p.onward p.rest
      at_value Nothing is = absurd is

  pub at_scalar : (F : Option Kinds → Option Kinds) (kind : Scalar) (vs : List Value)
      (go : Value → List Value → Place) → Popped F left kind vs
      → ((v : Value) (below : List Value) (xs : Kinds) → IsOfKind kind v → F (Some xs) ≡ Some left
      → AreOfKinds xs below → Q (go v below))
      → Q (on_scalar kind vs go)
  at_scalar F (scalar.Number kind) vs go p all = at_number F kind vs (λ n below. go (Num n) below) p
      (λ n below xs is are. all (Num n) below xs tt is are)
  at_scalar F scalar.Pointer vs go p all = at_pointer F vs (λ q below. go (Ptr q) below) p
      (λ q below xs is are. all (Ptr q) below xs tt is are)

  pub at_form : (F : Option Kinds → Option Kinds) → F None ≡ None → (f : Form) (kinds : Kinds) (vs : List Value)
      (go : Value → List Value → Place) → F (pop_form f kinds) ≡ Some left → AreOfKinds kinds vs
      → ((v : Value) (below : List Value) → fits_form f v ≡ true → Q (go v below)) → Q (on_form f vs go)
  at_form F none (form.Number kind) kinds vs go is are all =
      at_number F kind vs (λ n below. go (Num n) below) (popped F none left (scalar.Number kind) kinds vs is are)
      (λ n below xs on rest. all (Num n) below refl)
  at_form F none form.Pointer kinds vs go is are all =
      at_pointer F vs (λ p below. go (Ptr p) below) (popped F none left scalar.Pointer kinds vs is are)
      (λ p below xs on rest. all (Ptr p) below refl)
  at_form F none form.Place kinds vs go is are all =
      at_pointer F vs (λ p below. go (Ptr p) below) (popped F none left scalar.Pointer kinds vs is are)
      (λ p below xs on rest. all (Ptr p) below refl)
  at_form F none form.Nothing kinds vs go is are all = not_there F none left is

  pub at_result : (F : Option Kinds → Option Kinds) → F None ≡ None → (f : Form) (kinds : Kinds) (vs : List Value)
      (go : Pointer → List Value → Place) → F (pop_result f kinds) ≡ Some left → AreOfKinds kinds vs
      → ((p : Pointer) (below : List Value) (xs : Kinds) → F (Some xs) ≡ Some left → AreOfKinds xs below
      → Q (go p below))
      → Q (on_result f vs go)
  at_result F none (form.Number kind) kinds vs go is are all = all null vs kinds is are
  at_result F none form.Pointer kinds vs go is are all = all null vs kinds is are
  at_result F none form.Place kinds vs go is are all =
      at_pointer F vs go (popped F none left scalar.Pointer kinds vs is are) all
  at_result F none form.Nothing kinds vs go is are all = all null vs kinds is are

-- arguments of these forms
abbrev pub AreOfForms : List Form → List Value → Type 0
AreOfForms [] [] = Unit {0}
AreOfForms (f ∷ fs) (v ∷ vs) = (fits_form f v ≡ true) × AreOfForms fs vs
AreOfForms _ _ = ⊥

-- forms that are taken off one by one stand in the other order
abbrev pub collected : List Form → List Form → List Form
collected [] done = done
collected (f ∷ fs) done = collected fs (f ∷ done)

module _ (Q : Place → Type 0) (F : Option Kinds → Option Kinds) (none : F None ≡ None) (left : Kinds) where
  pub at_operands : (fs done : List Form) (kinds : Kinds) (vs front : List Value)
      (go : List Value → List Value → Place) → F (pop_forms fs kinds) ≡ Some left → AreOfKinds kinds vs
      → AreOfForms done front
      → ((arguments below : List Value) (xs : Kinds) → F (Some xs) ≡ Some left → AreOfKinds xs below
      → AreOfForms (collected fs done) arguments → Q (go arguments below))
      → Q (on_operands (length fs) vs front go)
  at_operands [] done kinds vs front go is are ready all = all front vs kinds is are ready
  at_operands (f ∷ fs) done kinds vs front go is are ready all =
      let p : PoppedForm (λ o. F (option_and_then (pop_forms fs) o)) left f vs =
      form_popped (λ o. F (option_and_then (pop_forms fs) o)) none left f kinds vs is are in
      subst (λ ws. Q (on_operands (length (f ∷ fs)) ws front go)) (sym p.is)
      (at_operands fs (f ∷ done) p.kinds p.below (p.top ∷ front) go p.onward p.rest (p.fits, ready) all)
