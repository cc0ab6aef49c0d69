-- What an instruction leaves of a run: the rest behind the places where it leads.
use Rattle.std.proofs.Common.{ℕ, zero, suc, ◌+◌, ◌≤◌, Bool, true, false, ℤ, List, [], ◌∷◌}
use Rattle.std.proofs.Common.{Option, Some, None, Contains, refl, sym, subst, arith, if◌then◌else◌}
use Rattle.std.specs.Prelude.{nat_le}
use Rattle.object_store.specs.declared.mark.Mark.TheVariants.{Const}
use Rattle.object_store.specs.declared.pointer.Pointer.{Pointer}
use Rattle.lib_defs.specs.declared.value.Value.{Value}
use Rattle.lib_defs.specs.declared.value.Value.TheVariants.{Num, Ptr, Nothing}
use Rattle.lib_defs.specs.Reply.{null}
use Rattle.run_defs.specs.State.{State, sealed, died}
use Rattle.run_defs.specs.Evaluation.{Evaluation}
use Rattle.run_defs.specs.Functions.{function_number}
use Rattle.c_core.specs.declared.form.Form.{Form}
use Rattle.c_core.specs.declared.form.Form.TheVariants as form
use Rattle.c_core.specs.declared.form.Scalar.{Scalar}
use Rattle.c_core.specs.declared.form.Scalar.TheVariants as scalar
use Rattle.vm_code.specs.declared.parts.CodeCalled.{CodeCalled}
use Rattle.vm_code.specs.Slots.{Held, without}
use Rattle.vm_code.specs.Frames.{Active, Place, Stuck}
use Rattle.vm_code.specs.Calling.{called_through}
use Rattle.vm_code.specs.Machine.{Context, on_top, on_two, on_number, on_numbers, on_pointer, on_pointers, on_scalar}
use Rattle.vm_code.specs.Machine.{on_form, on_operands, goes_to, next, push, gives, does, on_held, makes, kills}
use Rattle.vm_code.specs.Machine.{seals, text_stored, pools, uses}
use Rattle.vm_code.specs.Machine.{on_result, calls}
use Rattle.vm_code.proofs.TicksFall.{Leaves, died_ticks, sealed_ticks}
use Rattle.vm_code.proofs.AccessTicks.{leaves_text}
use Rattle.vm_code.proofs.Weights.{Scale, spent, spent_le, weights, Within, within_after, within_called}

-- ---- operands

module _ (scale : Scale) (most : ℕ) where
  pub in_top : (vs : List Value) (go : Value → List Value → Place)
      → ((v : Value) (below : List Value) → Within scale most (go v below)) → Within scale most (on_top vs go)
  in_top [] go all = tt
  in_top (v ∷ below) go all = all v below

  pub in_two : (vs : List Value) (go : Value → Value → List Value → Place)
      → ((v w : Value) (below : List Value) → Within scale most (go v w below)) → Within scale most (on_two vs go)
  in_two [] go all = tt
  in_two (w ∷ []) go all = tt
  in_two (w ∷ v ∷ below) go all = all v w below

  pub in_number : (vs : List Value) (go : ℤ → List Value → Place)
      → ((n : ℤ) (below : List Value) → Within scale most (go n below)) → Within scale most (on_number vs go)
  in_number [] go all = tt
  in_number (Num n ∷ below) go all = all n below
  in_number (Ptr p ∷ below) go all = tt
  in_number (Nothing ∷ below) go all = tt

  pub in_numbers : (vs : List Value) (go : ℤ → ℤ → List Value → Place)
      → ((a b : ℤ) (below : List Value) → Within scale most (go a b below)) → Within scale most (on_numbers vs go)
  in_numbers vs go all = in_number vs (λ b below. on_number below (λ a rest. go a b rest))
      (λ b below. in_number below (λ a rest. go a b rest) (λ a rest. all a b rest))

  pub in_pointer : (vs : List Value) (go : Pointer → List Value → Place)
      → ((p : Pointer) (below : List Value) → Within scale most (go p below)) → Within scale most (on_pointer vs go)
  in_pointer [] go all = tt
  in_pointer (Num n ∷ below) go all = tt
  in_pointer (Ptr p ∷ below) go all = all p below
  in_pointer (Nothing ∷ below) go all = tt

  pub in_pointers : (vs : List Value) (go : Pointer → Pointer → List Value → Place)
      → ((p q : Pointer) (below : List Value) → Within scale most (go p q below))
      → Within scale most (on_pointers vs go)
  in_pointers vs go all = in_pointer vs (λ q below. on_pointer below (λ p rest. go p q rest))
      (λ q below. in_pointer below (λ p rest. go p q rest) (λ p rest. all p q rest))

  pub in_scalar : (kind : Scalar) (vs : List Value) (go : Value → List Value → Place)
      → ((v : Value) (below : List Value) → Within scale most (go v below)) → Within scale most (on_scalar kind vs go)
  in_scalar (scalar.Number kind) vs go all =
      in_number vs (λ n below. go (Num n) below) (λ n below. all (Num n) below)
  in_scalar scalar.Pointer vs go all = in_pointer vs (λ p below. go (Ptr p) below) (λ p below. all (Ptr p) below)

  pub in_form : (f : Form) (vs : List Value) (go : Value → List Value → Place)
      → ((v : Value) (below : List Value) → Within scale most (go v below)) → Within scale most (on_form f vs go)
  in_form (form.Number kind) vs go all =
      in_number vs (λ n below. go (Num n) below) (λ n below. all (Num n) below)
  in_form form.Pointer vs go all = in_pointer vs (λ p below. go (Ptr p) below) (λ p below. all (Ptr p) below)
  in_form form.Place vs go all = in_pointer vs (λ p below. go (Ptr p) below) (λ p below. all (Ptr p) below)
  in_form form.Nothing vs go all = tt

  in_operands : (n : ℕ) (vs front : List Value) (go : List Value → List Value → Place)
      → ((taken below : List Value) → Within scale most (go taken below))
      → Within scale most (on_operands n vs front go)
  in_operands zero vs front go all = all front vs
  in_operands (suc n) [] front go all = tt
  in_operands (suc n) (v ∷ below) front go all = in_operands n below (v ∷ front) go all

  in_result : (f : Form) (vs : List Value) (go : Pointer → List Value → Place)
      → ((p : Pointer) (below : List Value) → Within scale most (go p below)) → Within scale most (on_result f vs go)
  in_result (form.Number kind) vs go all = all null vs
  in_result form.Pointer vs go all = all null vs
  in_result form.Place vs go all = in_pointer vs go all
  in_result form.Nothing vs go all = all null vs

  pub in_held : (o : Option Held) (go : Held → Place) → ((held : Held) → Within scale most (go held))
      → Within scale most (on_held o go)
  in_held None go all = tt
  in_held (Some held) go all = all held

-- ---- an instruction in a context: so much is left at most behind each place where it leads

pub first_of : {A : Type 0} (x : A) (xs : List A) → Contains (x ∷ xs) x
first_of x xs = (0, omega arith, refl)

pub second_of : {A : Type 0} (x y : A) (xs : List A) → Contains (x ∷ y ∷ xs) y
second_of x y xs = (1, omega arith, refl)

module _ (scale : Scale) (c : Context) (most rest : ℕ)
    (enough : spent scale.pass c.state.ticks + rest + weights scale c.rest ≤ most) where
  pub at_place : (at : ℕ) (operands : List Value) (held : List Held) (s : State) → s.ticks ≤ c.state.ticks
      → scale.rest at ≤ rest → Within scale most (goes_to c at operands held s)
  at_place at operands held s le small =
      let less : spent scale.pass s.ticks ≤ spent scale.pass c.state.ticks =
      spent_le scale.pass s.ticks c.state.ticks le in omega (arith, less, small, enough)

  module _ (small : scale.rest (c.frame.at + 1) ≤ rest) where
    pub at_next : (operands : List Value) (s : State) → s.ticks ≤ c.state.ticks → Within scale most (next c operands s)
    at_next operands s le = at_place (c.frame.at + 1) operands c.frame.held s le small

    pub at_push : (v : Value) → Within scale most (push c v)
    at_push v = at_next (v ∷ c.frame.operands) c.state (omega arith)

    pub at_gives : (below : List Value) (x : Evaluation Value) → Leaves c.state.ticks x
        → Within scale most (gives c below x)
    at_gives below x le = within_after scale most c.state.ticks x (λ v s. next c (v ∷ below) s) le
        (omega (arith, enough)) (λ v s le1. at_next (v ∷ below) s le1)

    pub at_does : (below : List Value) (x : Evaluation (Unit {0})) → Leaves c.state.ticks x
        → Within scale most (does c below x)
    at_does below x le = within_after scale most c.state.ticks x (λ u s. next c below s) le
        (omega (arith, enough)) (λ u s le1. at_next below s le1)

    pub at_makes : (slot bytes : ℕ) (x : Evaluation Pointer) → Leaves c.state.ticks x
        → Within scale most (makes c slot bytes x)
    at_makes slot bytes x le = within_after scale most c.state.ticks x
        (λ place s. goes_to c (c.frame.at + 1) c.frame.operands
        (record { slot = slot; number = place.object; size = bytes } ∷ c.frame.held) s) le (omega (arith, enough))
        (λ place s le1. at_place (c.frame.at + 1) c.frame.operands
        (record { slot = slot; number = place.object; size = bytes } ∷ c.frame.held) s le1 small)

    pub at_kills : (slot : ℕ) (o : Option Held) → Within scale most (kills c slot o)
    at_kills slot None = at_next c.frame.operands c.state (omega arith)
    at_kills slot (Some held) = let P : ℕ → Type 0 = λ n. n ≤ c.state.ticks in
        at_place (c.frame.at + 1) c.frame.operands (without slot c.frame.held) (died held.number c.state)
        (subst P (sym (died_ticks held.number c.state)) (omega arith)) small

    at_seals_if : (b : Bool) (s : State) → s.ticks ≤ c.state.ticks
        → Within scale most (if b then next c c.frame.operands s else Stuck)
    at_seals_if true s le = at_next c.frame.operands s le
    at_seals_if false s le = tt

    pub at_seals : (at len : ℕ) (held : Held) → Within scale most (seals c at len held)
    at_seals at len held = let P : ℕ → Type 0 = λ n. n ≤ c.state.ticks in
        at_seals_if (nat_le (at + len) held.size)
        (sealed held.number (record { at = at; len = len; mark = Const }) c.state)
        (subst P (sym (sealed_ticks held.number (record { at = at; len = len; mark = Const }) c.state)) (omega arith))

    pub at_pools : (o : Option (List ℕ)) (p : Pointer) (below : List Value) → Within scale most (pools c o p below)
    at_pools None p below = tt
    at_pools (Some text) p below = at_does below (text_stored p text c.pos c.state)
        (leaves_text p text c.pos c.state.ticks c.state (omega arith))

    pub at_uses : (b : Bool) → Within scale most (uses c b)
    at_uses true = at_next c.frame.operands c.state (omega arith)
    at_uses false = omega (arith, enough)

    pub at_calls : (count : ℕ) (o : Option CodeCalled) → Within scale most (calls c count o)
    at_calls count None = tt
    at_calls count (Some called) = in_result scale most called.form c.frame.operands
        (λ result below. on_operands count below [] (λ arguments below1. on_pointer below1 (λ p below2.
        called_through c.environment c.code p called
        (record { function = function_number p; arguments = arguments; result = result; pos = c.pos })
        (Active (record (c.frame) { at = c.frame.at + 1; operands = below2 }) ∷ c.rest) c.state)))
        (λ result below. in_operands scale most count below []
        (λ arguments below1. on_pointer below1 (λ p below2.
        called_through c.environment c.code p called
        (record { function = function_number p; arguments = arguments; result = result; pos = c.pos })
        (Active (record (c.frame) { at = c.frame.at + 1; operands = below2 }) ∷ c.rest) c.state))
        (λ arguments below1. in_pointer scale most below1
        (λ p below2. called_through c.environment c.code p called
        (record { function = function_number p; arguments = arguments; result = result; pos = c.pos })
        (Active (record (c.frame) { at = c.frame.at + 1; operands = below2 }) ∷ c.rest) c.state)
        (λ p below2. within_called scale c.environment c.code most p called
        (record { function = function_number p; arguments = arguments; result = result; pos = c.pos })
        (Active (record (c.frame) { at = c.frame.at + 1; operands = below2 }) ∷ c.rest) c.state
        (omega (arith, small, enough)))))
