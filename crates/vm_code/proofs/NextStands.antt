-- What stands at the next instruction, by groups of instructions.
use Rattle.std.proofs.Common.{◌≡◌, ℕ, ◌+◌, ◌==◌, Bool, true, false, ℤ, List, [], ◌∷◌, ◌++◌, length}
use Rattle.std.proofs.Common.{reverse, Option, Some, None, refl, sym, ◌∙◌}
use Rattle.std.proofs.Common.{subst, arith, if◌then◌else◌}
use Rattle.std.proofs.lemmas.Grind.{common_steps}
use Rattle.std.proofs.lemmas.Bool.{eqb-true, ltb-true}
use Rattle.std.specs.Prelude.{nat_lt}
use Rattle.std.specs.List.{slice_get}
use Rattle.std.specs.Option.{option_and_then}
use Rattle.acc_num.specs.declared.kind.IntKind.{IntKind}
use Rattle.acc_num.specs.declared.kind.IntKind.TheVariants.{I32}
use Rattle.critical_table.specs.declared.pos.Pos.{Pos}
use Rattle.object_store.specs.declared.mark.Mark.TheVariants.{Const}
use Rattle.object_store.specs.declared.pointer.Pointer.{Pointer}
use Rattle.lib_defs.specs.declared.value.Value.{Value}
use Rattle.lib_defs.specs.Library.{Library}
use Rattle.lib_defs.specs.Variants.{KeepsVariants}
use Rattle.run_defs.specs.State.{State, sealed}
use Rattle.run_defs.specs.Evaluation.{Evaluation, Gives, Stops}
use Rattle.run_defs.specs.Functions.{function_number}
use Rattle.c_core.specs.declared.form.Form.{Form}
use Rattle.c_core.specs.declared.form.Form.TheVariants as form
use Rattle.c_core.specs.declared.form.Scalar.{Scalar}
use Rattle.c_core.specs.declared.form.Scalar.TheVariants as scalar
use Rattle.c_core.specs.declared.operator.Operator.{Operator}
use Rattle.c_core.specs.Operations.{operator_outcome, is_shift}
use Rattle.vm_code.specs.declared.instr.Instr.TheVariants as i
use Rattle.vm_code.specs.declared.parts.CodeFunction.{CodeFunction}
use Rattle.vm_code.specs.declared.parts.CodeCalled.{CodeCalled}
use Rattle.vm_code.specs.Contents.{Contents, function_at}
use Rattle.vm_code.specs.CodeFunctions.{environment}
use Rattle.vm_code.specs.Accesses.{scalar_stored}
use Rattle.vm_code.specs.Operators.{computed}
use Rattle.vm_code.specs.Slots.{Held}
use Rattle.vm_code.specs.Frames.{Activation, Frame, Active, Place, Stuck}
use Rattle.vm_code.specs.Machine.{on_top, on_two, on_number, on_pointer, Context, goes_to, next, gives}
use Rattle.vm_code.specs.Machine.{does, text_stored, pools}
use Rattle.vm_code.specs.Machine.{uses, calls, act}
use Rattle.vm_code.specs.OperandKinds.{Kinds, pop, pop_number, pop_forms, push_form, duplicate, pop_any, swap_two}
use Rattle.vm_code.specs.OperandKinds.{copy_second}
use Rattle.vm_code.specs.OperandKinds as kinds
use Rattle.vm_code.specs.Sound.{is_place, library_fits}
use Rattle.vm_code.specs.Sound.{call_fits}
use Rattle.vm_code.specs.Ways.{Slots, stretch_of}
use Rattle.vm_code.specs.Valid.{Comes, IsValid}
use Rattle.vm_code.specs.Progress.{IsOfKind, AreOfKinds, HasRowTypes}
use Rattle.vm_code.proofs.ActingOn.{none_is_some}
use Rattle.vm_code.proofs.Fronts.{some_alone}
use Rattle.vm_code.proofs.Falling.{and_left, and_right}
use Rattle.vm_code.proofs.Operands.{Popped, popped, number_popped, at_number, at_pointer, at_scalar, at_result}
use Rattle.vm_code.proofs.Operands.{AreOfForms, collected, at_operands}
use Rattle.vm_code.proofs.Standing.{Holds, FramesStand, PlaceStands, some_at}
use Rattle.vm_code.proofs.CallsStand.{called_stands}
use Rattle.vm_code.proofs.GivenKinds.{GivesOnly, only_bind, only_computed}

pub of_left : (kinds left : Kinds) (vs : List Value) → Some kinds ≡ Some left → AreOfKinds kinds vs
    → AreOfKinds left vs
of_left kinds left vs is are = subst (λ ks. AreOfKinds ks vs) (some_alone kinds left is) are

no_form : (f : Form) → push_form f None ≡ None
no_form (form.Number kind) = refl
no_form form.Pointer = refl
no_form form.Place = refl
no_form form.Nothing = refl

collected_is : (fs done : List Form) → collected fs done ≡ reverse fs ++ done
collected_is [] done = refl
collected_is (f ∷ fs) done = collected_is fs (f ∷ done) ∙ grind (arith, common_steps)

collected_reverse : (fs : List Form) → collected (reverse fs) [] ≡ fs
collected_reverse fs = collected_is (reverse fs) [] ∙ grind (arith, common_steps)

-- A function that runs valid code, at an instruction that a way comes to: with the frames below it, the place of the
-- instruction and the state, and with what the way has made.
pub record Here : Type 0 where
  pub library : Library
  pub keeps : KeepsVariants library
  pub code : Contents
  pub valid : IsValid code
  pub types : HasRowTypes code
  pub function : CodeFunction
  pub frame : Activation
  pub below : List Frame
  pub pos : Pos
  pub state : State
  pub running : function_at code.functions frame.function ≡ Some function
  pub under : FramesStand code keeps.waits function.form below
  pub slots : Slots
  pub holds : Holds slots frame.held

abbrev pub context : Here → Context
context h = record {
  environment = environment h.library h.code;
  code = h.code;
  function = h.function;
  frame = h.frame;
  rest = h.below;
  pos = h.pos;
  state = h.state;
}

module _ (h : Here) where
  abbrev c : Context
  c = context h

  abbrev pub Stands : Place → Type 0
  Stands place = PlaceStands h.code h.keeps.waits place

  -- a way leads to this place, with these kinds and slots
  pub record Led (to : ℕ) (left : Kinds) (slots : Slots) : Type 0 where
    pub comes : Comes h.code h.function to left slots
    pub within : is_place h.code (stretch_of h.code h.function) to ≡ true

  pub goes : (to : ℕ) (left : Kinds) (slots : Slots) (operands : List Value) (held : List Held) (s1 : State)
      → Led to left slots → AreOfKinds left operands → Holds slots held → Stands (goes_to c to operands held s1)
  goes to left slots operands held s1 led are holds = (
    h.function,
    h.running,
    record {
      kinds = left;
      is_at = record { slots = slots; comes = led.comes; within = led.within; holds = holds };
      operands = are;
    },
    h.under,
  )

  module _ (left : Kinds) (ahead : Led (h.frame.at + 1) left h.slots) where
    pub on_next : (operands : List Value) (s1 : State) → AreOfKinds left operands → Stands (next c operands s1)
    on_next operands s1 are = goes (h.frame.at + 1) left h.slots operands h.frame.held s1 ahead are h.holds

    -- a value of a kind is pushed
    pub on_value : (kind : Scalar) (v : Value) (below : List Value) (xs : Kinds) → Some (kind ∷ xs) ≡ Some left
        → IsOfKind kind v → AreOfKinds xs below → Stands (next c (v ∷ below) h.state)
    on_value kind v below xs is of are = on_next (v ∷ below) h.state (of_left (kind ∷ xs) left (v ∷ below) is
        (of, are))

    pub on_gives : (kind : Scalar) (below : List Value) (xs : Kinds) (x : Evaluation Value)
        → Some (kind ∷ xs) ≡ Some left
        → AreOfKinds xs below → GivesOnly (IsOfKind kind) x → Stands (gives c below x)
    on_gives kind below xs (Gives v s1) is are of =
        on_next (v ∷ below) s1 (of_left (kind ∷ xs) left (v ∷ below) is (of, are))
    on_gives kind below xs (Stops outcome s1) is are of = tt

    pub on_does : (below : List Value) (xs : Kinds) (x : Evaluation (Unit {0})) → Some xs ≡ Some left
        → AreOfKinds xs below
        → Stands (does c below x)
    on_does below xs (Gives u s1) is are = on_next below s1 (of_left xs left below is are)
    on_does below xs (Stops outcome s1) is are = tt

    pub duplicates : (k : Kinds) (vs : List Value) → duplicate k ≡ Some left → AreOfKinds k vs
        → Stands (on_top vs (λ v below. next c (v ∷ v ∷ below) h.state))
    duplicates [] vs is are = absurd (none_is_some left is)
    duplicates (x ∷ xs) [] is are = absurd are
    duplicates (x ∷ xs) (v ∷ vs) is are =
        on_next (v ∷ v ∷ vs) h.state (of_left (x ∷ x ∷ xs) left (v ∷ v ∷ vs) is (are.0, (are.0, are.1)))

    pub drops : (k : Kinds) (vs : List Value) → pop_any k ≡ Some left → AreOfKinds k vs
        → Stands (on_top vs (λ v below. next c below h.state))
    drops [] vs is are = absurd (none_is_some left is)
    drops (x ∷ xs) [] is are = absurd are
    drops (x ∷ xs) (v ∷ vs) is are = on_next vs h.state (of_left xs left vs is are.1)

    pub swaps : (k : Kinds) (vs : List Value) → swap_two k ≡ Some left → AreOfKinds k vs
        → Stands (on_two vs (λ v w below. next c (v ∷ w ∷ below) h.state))
    swaps [] vs is are = absurd (none_is_some left is)
    swaps (y ∷ []) vs is are = absurd (none_is_some left is)
    swaps (y ∷ x ∷ xs) [] is are = absurd are
    swaps (y ∷ x ∷ xs) (w ∷ []) is are = absurd are.1
    swaps (y ∷ x ∷ xs) (w ∷ v ∷ vs) is are =
        on_next (v ∷ w ∷ vs) h.state (of_left (x ∷ y ∷ xs) left (v ∷ w ∷ vs) is (are.1.0, (are.0, are.1.1)))

    pub copies : (k : Kinds) (vs : List Value) → copy_second k ≡ Some left → AreOfKinds k vs
        → Stands (on_two vs (λ v w below. next c (v ∷ w ∷ v ∷ below) h.state))
    copies [] vs is are = absurd (none_is_some left is)
    copies (y ∷ []) vs is are = absurd (none_is_some left is)
    copies (y ∷ x ∷ xs) [] is are = absurd are
    copies (y ∷ x ∷ xs) (w ∷ []) is are = absurd are.1
    copies (y ∷ x ∷ xs) (w ∷ v ∷ vs) is are = on_next (v ∷ w ∷ v ∷ vs) h.state
        (of_left (x ∷ y ∷ x ∷ xs) left (v ∷ w ∷ v ∷ vs) is (are.1.0, (are.0, (are.1.0, are.1.1))))

    -- a number, and two, of which a value is made
    pub on_one : (F : Option Kinds → Option Kinds) (vs : List Value) (kind : IntKind) (go : ℤ → List Value → Place)
        → Popped F left (scalar.Number kind) vs
        → ((n : ℤ) (below : List Value) (xs : Kinds) → F (Some xs) ≡ Some left → AreOfKinds xs below
        → Stands (go n below))
        → Stands (on_number vs go)
    on_one F vs kind go p all = at_number Stands left F kind vs go p all

    pub on_place : (F : Option Kinds → Option Kinds) → F None ≡ None → (k : Kinds) (vs : List Value)
        (go : Pointer → List Value → Place) → F (pop scalar.Pointer k) ≡ Some left → AreOfKinds k vs
        → ((p : Pointer) (below : List Value) (xs : Kinds) → F (Some xs) ≡ Some left → AreOfKinds xs below
        → Stands (go p below))
        → Stands (on_pointer vs go)
    on_place F none k vs go is are all =
        at_pointer Stands left F vs go (popped F none left scalar.Pointer k vs is are) all

    pub count_popped : (F : Option Kinds → Option Kinds) → F None ≡ None → (b : Bool) (kind : IntKind) (k : Kinds)
        (vs : List Value) → F (if b then pop_number k else pop (scalar.Number kind) k) ≡ Some left → AreOfKinds k vs
        → (other : IntKind) × Popped F left (scalar.Number other) vs
    count_popped F none true kind k vs is are = (I32, number_popped F none left k vs is are)
    count_popped F none false kind k vs is are = (kind, popped F none left (scalar.Number kind) k vs is are)

    pub operators : (operator : Operator) (kind : IntKind) (k : Kinds) (vs : List Value)
        → kinds.push (scalar.Number kind) (kinds.pop_operands operator kind k) ≡ Some left → AreOfKinds k vs
        → Stands (on_number vs (λ y below. on_number below (λ x rest.
        gives c rest (computed (operator_outcome operator kind x y) h.pos h.state))))
    operators operator kind k vs is are =
        let F : Option Kinds → Option Kinds =
        λ o. kinds.push (scalar.Number kind) (option_and_then (pop (scalar.Number kind)) o) in
        let p : (other : IntKind) × Popped F left (scalar.Number other) vs =
        count_popped F refl (is_shift operator) kind k vs is are in
        on_one F vs p.0 _ p.1 (λ y below xs on rest.
        on_one (λ o. kinds.push (scalar.Number kind) o) below kind _
        (popped (λ o. kinds.push (scalar.Number kind) o) refl left (scalar.Number kind) xs below on rest)
        (λ x below2 ys on2 rest2. on_gives (scalar.Number kind) below2 ys _ on2 rest2
        (only_computed kind (operator_outcome operator kind x y) h.pos h.state)))

    pub stores : (kind : Scalar) (k : Kinds) (vs : List Value)
        → kinds.push kind (kinds.pop_two kind scalar.Pointer k) ≡ Some left
        → AreOfKinds k vs → Stands (act (record c { frame = record (h.frame) { operands = vs } }) (i.Store kind))
    stores kind k vs is are =
        let F : Option Kinds → Option Kinds = λ o. kinds.push kind (option_and_then (pop scalar.Pointer) o) in
        at_scalar Stands left F kind vs _ (popped F refl left kind k vs is are) (λ v below xs of on rest.
        on_place (λ o. kinds.push kind o) refl xs below _ on rest (λ p below2 ys on2 rest2.
        on_gives kind below2 ys _ on2 rest2
        (only_bind (IsOfKind kind) (scalar_stored kind p v h.pos h.state) (λ u s1. Gives v s1) (λ u s1. of))))

    pub pools_text : (text : ℕ) (p : Pointer) (below : List Value) (xs : Kinds) → nat_lt text
        (length h.code.texts) ≡ true
        → Some xs ≡ Some left → AreOfKinds xs below → Stands (pools c (slice_get h.code.texts text) p below)
    pools_text text p below xs there is are =
        let t : (x : List ℕ) × (slice_get h.code.texts text ≡ Some x) =
        some_at h.code.texts text (ltb-true text (length h.code.texts) there) in
        subst (λ o. Stands (pools c o p below)) (sym t.1) (on_does below xs (text_stored p t.0 h.pos h.state) is are)

    pub used_stands : (b : Bool) → AreOfKinds left h.frame.operands → Stands (uses c b)
    used_stands true are = on_next h.frame.operands h.state are
    used_stands false are = tt

    pub seals_object : (at len : ℕ) (object : Held) (b : Bool) → b ≡ true → AreOfKinds left h.frame.operands
        → Stands (if b then next c h.frame.operands
        (sealed object.number (record { at = at; len = len; mark = Const }) h.state) else Stuck)
    seals_object at len object true is are =
        on_next h.frame.operands (sealed object.number (record { at = at; len = len; mark = Const }) h.state) are
    seals_object at len object false is are = absurd (let none : ⊥ = cc in none)

    -- a call takes its operands, and waits
    pub call_stands : (called : CodeCalled) (k : Kinds) → library_fits h.code called ≡ true
        → (type : ℕ) → slice_get h.code.types type ≡ Some called
        → kinds.called_kinds (Some called) k ≡ Some left → AreOfKinds k h.frame.operands
        → Stands (calls c (length (reverse called.arguments)) (Some called))
    call_stands called k fits type at is are =
        let G : Option Kinds → Option Kinds = λ o. push_form called.form o in
        let none : push_form called.form None ≡ None = no_form called.form in
        at_result Stands left
        (λ o. G (option_and_then (pop scalar.Pointer) (option_and_then (pop_forms (reverse called.arguments)) o)))
        none called.form k h.frame.operands _ is are (λ result below xs on rest.
        at_operands Stands (λ o. G (option_and_then (pop scalar.Pointer) o)) none left (reverse called.arguments) [] xs
        below [] _ on rest tt (λ arguments below1 xs1 on1 rest1 of_forms.
        on_place G none xs1 below1 _ on1 rest1 (λ p below2 xs2 on2 rest2.
        called_stands h.library h.keeps h.code h.valid h.types p called
        (record { function = function_number p; arguments = arguments; result = result; pos = h.pos })
        (Active (record (h.frame) { at = h.frame.at + 1; operands = below2 }) ∷ h.below) refl fits
        (h.valid.own type called at)
        (subst (λ fs. AreOfForms fs arguments) (collected_reverse called.arguments) of_forms) (
          h.function,
          h.running,
          record {
            below = xs2;
            kinds = left;
            pushed = on2;
            is_at = record { slots = h.slots; comes = ahead.comes; within = ahead.within; holds = h.holds };
            operands = rest2;
          },
          h.under,
        ) h.state)))

    pub call_by : (o : Option CodeCalled) (count type : ℕ) (k : Kinds) → slice_get h.code.types type ≡ o
        → call_fits h.code count o ≡ true → kinds.called_kinds o k ≡ Some left → AreOfKinds k h.frame.operands
        → Stands (calls c count o)
    call_by None count type k at fits is are = absurd (let none : ⊥ = cc in none)
    call_by (Some called) count type k at fits is are =
        let long : count ≡ length called.arguments = eqb-true count (length called.arguments)
        (and_left (count == length called.arguments) (library_fits h.code called) fits) in
        let same : length (reverse called.arguments) ≡ length called.arguments = grind (arith, common_steps) in
        subst (λ n. Stands (calls c n (Some called))) (same ∙ sym long)
        (call_stands called k (and_right (count == length called.arguments) (library_fits h.code called) fits) type at
        is are)
