-- Each instruction that finds its operands and its object leads to where something stands again.
use Rattle.std.proofs.Common.{◌≡◌, ℕ, zero, suc, ◌+◌, Bool, true, false, ℤ, List, [], ◌∷◌, length}
use Rattle.std.proofs.Common.{replicate, Contains, Option, Some, None, refl, sym}
use Rattle.std.proofs.Common.{subst, arith, if◌then◌else◌}
use Rattle.std.proofs.lemmas.Bool.{eqb-true, le-leb}
use Rattle.std.specs.Prelude.{◌-ℤ◌, nat_le}
use Rattle.std.specs.List.{slice_get}
use Rattle.std.specs.Option.{option_and_then}
use Rattle.acc_num.specs.declared.kind.IntKind.TheVariants.{I32, I64}
use Rattle.acc_num.specs.Operations.{is_zero, converted_to}
use Rattle.critical_table.specs.declared.pos.Pos.{Pos}
use Rattle.object_store.specs.declared.pointer.Pointer.{Pointer}
use Rattle.lib_defs.specs.declared.value.Value.{Value}
use Rattle.lib_defs.specs.declared.value.Value.TheVariants.{Num, Ptr, Nothing}
use Rattle.lib_defs.specs.Columns.{is_null}
use Rattle.run_defs.specs.State.{died}
use Rattle.run_defs.specs.Evaluation.{Evaluation, Gives, Stops, bind, ticked, stored, automatic_made}
use Rattle.run_defs.specs.Loads.{found}
use Rattle.c_core.specs.declared.form.Form.{Form}
use Rattle.c_core.specs.declared.form.Scalar.TheVariants as scalar
use Rattle.c_core.specs.Operations.{negation, complement, compares}
use Rattle.vm_code.specs.declared.instr.Instr.{Instr}
use Rattle.vm_code.specs.declared.instr.Instr.TheVariants as i
use Rattle.vm_code.specs.Accesses.{loaded, copied}
use Rattle.vm_code.specs.Pointers.{moved, difference, ordered, same_pointer, member_place, array_pointer}
use Rattle.vm_code.specs.Operators.{computed, told, told_if_found, pointer_moved}
use Rattle.vm_code.specs.Slots.{Held, place_of, held_in, without}
use Rattle.vm_code.specs.Calling.{fits_form}
use Rattle.vm_code.specs.Machine.{Context, goes_to, next, push}
use Rattle.vm_code.specs.Machine.{on_held, makes, kills, seals, reaches, default_place}
use Rattle.vm_code.specs.Machine.{pair_place, case_place, to_case, act}
use Rattle.vm_code.specs.OperandKinds.{Kinds, pop, pop_number}
use Rattle.vm_code.specs.OperandKinds.{kinds_after}
use Rattle.vm_code.specs.OperandKinds as kinds
use Rattle.vm_code.specs.Sound.{default_places, pair_places, case_places, next_places}
use Rattle.vm_code.specs.Sound.{is_plain}
use Rattle.vm_code.specs.Ways.{Slots, slot_made, slot_killed, slots_after, stretch_of}
use Rattle.vm_code.specs.Progress.{IsOfKind, AreOfKinds, FindsObject}
use Rattle.vm_code.proofs.Acting.{first_of, second_of}
use Rattle.vm_code.proofs.ActingOn.{none_is_some, case_found}
use Rattle.vm_code.proofs.Operands.{popped, number_popped, at_number, at_form}
use Rattle.vm_code.proofs.CallValues.{MayReturn}
use Rattle.vm_code.proofs.CallsStand.{leaves_stands}
use Rattle.vm_code.proofs.GivenKinds.{only_bind, only_computed, only_told, only_moved, only_loaded}
use Rattle.vm_code.proofs.SlotObjects.{holds_made, holds_killed, without_other}
use Rattle.vm_code.proofs.NextStands.{of_left, Here, context, Stands, Led, goes, on_value, on_gives, on_does}
use Rattle.vm_code.proofs.NextStands.{duplicates, drops, swaps}
use Rattle.vm_code.proofs.NextStands.{copies, on_one, on_place, stores, pools_text, operators, seals_object}
use Rattle.vm_code.proofs.NextStands.{used_stands}
use Rattle.vm_code.proofs.NextStands.{call_by}

default_there : (o : Option (Instr × Pos)) → length (default_places o) ≡ 1 → (to : ℕ) × (default_place o ≡ Some to)
default_there (Some (i.Default to, here)) is = (to, refl)
default_there _ is = absurd (let none : ⊥ = omega (arith, is) in none)

pair_there : (o : Option (Instr × Pos)) (n : ℤ) (count : ℕ) (others : Option ℕ) (places : List ℕ)
    → (length places ≡ count → (to : ℕ) × (others ≡ Some to)) → length (pair_places o places) ≡ suc count
    → (to : ℕ) × (pair_place o n others ≡ Some to)
pair_there (Some (i.Pair value there, here)) n count others places rest is = by_value (is_zero (value -ℤ n))
  where
    by_value : (b : Bool) → (to : ℕ) × ((if b then Some there else others) ≡ Some to)
    by_value true = (there, refl)
    by_value false = rest (omega (arith, is))
pair_there _ n count others places rest is = absurd (let none : ⊥ = omega (arith, is) in none)

pub case_there : (instrs : List (Instr × Pos)) (count at : ℕ) (n : ℤ) → length
    (case_places instrs at count) ≡ count + 1
    → (to : ℕ) × (case_place instrs at count n ≡ Some to)
case_there instrs zero at n is = default_there (slice_get instrs at) (omega (arith, is))
case_there instrs (suc count) at n is = pair_there (slice_get instrs at) n (count + 1)
    (case_place instrs (at + 1) count n) (case_places instrs (at + 1) count)
    (λ long. case_there instrs count (at + 1) n long) (omega (arith, is))

pub may_return : (f : Form) (v : Value) → fits_form f v ≡ true → MayReturn f v
may_return f (Num n) fits = fits
may_return f (Ptr p) fits = fits
may_return f Nothing fits = tt

module _ (h : Here) where
  abbrev c : Context
  c = context h

  abbrev Leads : Instr → Kinds → Slots → Type 0
  Leads instr left slots = (to : ℕ) → Contains (next_places h.code h.frame.at instr) to
      → Led h to left (slots_after instr slots)

  module _ (k : Kinds) (are : AreOfKinds k h.frame.operands) (left : Kinds) where
    -- an instruction that goes on at the next one
    ahead : (slots : Slots) → ((to : ℕ) → Contains ((h.frame.at + 1) ∷ []) to → Led h to left slots)
        → Led h (h.frame.at + 1) left slots
    ahead slots lead = lead (h.frame.at + 1) (first_of (h.frame.at + 1) [])

    choice_stands : (b : Bool) (to : ℕ) (below : List Value) (xs : Kinds) → Some xs ≡ Some left → AreOfKinds xs below
        → Led h to left h.slots → Led h (h.frame.at + 1) left h.slots
        → Stands h (if b then goes_to c to below h.frame.held h.state else next c below h.state)
    choice_stands true to below xs is rest there next_there =
        goes h to left h.slots below h.frame.held h.state there (of_left xs left below is rest) h.holds
    choice_stands false to below xs is rest there next_there =
        goes h (h.frame.at + 1) left h.slots below h.frame.held h.state next_there
        (of_left xs left below is rest) h.holds

    kill_stands : (slot : ℕ) (o : Option Held) → held_in slot h.frame.held ≡ o → Some k ≡ Some left
        → Led h (h.frame.at + 1) left (slot_killed slot h.slots) → Stands h (kills c slot o)
    kill_stands slot None at is there = goes h (h.frame.at + 1) left
        (slot_killed slot h.slots) h.frame.operands h.frame.held h.state there
        (of_left k left h.frame.operands is are) (holds_killed slot h.slots h.frame.held h.frame.held
        (λ t other. refl) h.holds)
    kill_stands slot (Some object) at is there = goes h (h.frame.at + 1) left
        (slot_killed slot h.slots) h.frame.operands
        (without slot h.frame.held) (died object.number h.state) there (of_left k left h.frame.operands is are)
        (holds_killed slot h.slots h.frame.held (without slot h.frame.held)
        (λ t other. without_other slot t h.frame.held other) h.holds)

    make_stands : (slot bytes : ℕ) (x : Evaluation Pointer) → Some k ≡ Some left
        → Led h (h.frame.at + 1) left (slot_made slot bytes h.slots) → Stands h (makes c slot bytes x)
    make_stands slot bytes (Gives place s1) is there = goes h (h.frame.at + 1) left
        (slot_made slot bytes h.slots) h.frame.operands
        (record { slot = slot; number = place.object; size = bytes } ∷ h.frame.held) s1 there
        (of_left k left h.frame.operands is are)
        (holds_made slot (record { slot = slot; number = place.object; size = bytes }) refl h.slots h.frame.held
        h.holds)
    make_stands slot bytes (Stops outcome s1) is there = tt

    cases_stand : (count : ℕ) → pop_number k ≡ Some left
        → length (case_places h.code.instrs (h.frame.at + 1) count) ≡ count + 1
        → Leads (i.Cases count) left h.slots → Stands h (act c (i.Cases count))
    cases_stand count is long lead =
        at_number (Stands h) left (λ o. o) I32 h.frame.operands _ (number_popped
        (λ o. o) refl left k h.frame.operands is are)
        (λ n below xs on rest.
        let t : (to : ℕ) × (case_place h.code.instrs (h.frame.at + 1) count n ≡ Some to) =
        case_there h.code.instrs count (h.frame.at + 1) n long in
        subst (λ o. Stands h (to_case c o below)) (sym t.1)
        (goes h t.0 left h.slots below h.frame.held h.state (lead t.0 (case_found h.code.instrs count
        (h.frame.at + 1) n t.0 t.1))
        (of_left xs left below on rest) h.holds))

    pub act_stands : (instr : Instr) → kinds_after h.code h.function.form instr k ≡ Some left
        → FindsObject instr h.frame.held
        → is_plain h.code (stretch_of h.code h.function) h.frame.at instr ≡ true → Leads instr left h.slots
        → Stands h (act c instr)
    act_stands (i.Number kind n) is object plain lead =
        on_value h left (ahead h.slots lead) (scalar.Number kind) (Num n) h.frame.operands k
        is tt are
    act_stands (i.Pointer p) is object plain lead =
        on_value h left (ahead h.slots lead) scalar.Pointer (Ptr p) h.frame.operands k is tt
        are
    act_stands (i.Slot slot) is object plain lead =
        subst (λ o. Stands h (on_held o (λ o1. push c (Ptr (place_of o1))))) (sym object.1)
        (on_value h left (ahead h.slots lead) scalar.Pointer
        (Ptr (place_of object.0)) h.frame.operands k is tt are)
    act_stands i.Result is object plain lead =
        on_value h left (ahead h.slots lead) scalar.Pointer (Ptr h.frame.result) h.frame.operands
        k is tt are
    act_stands i.Duplicate is object plain lead =
        duplicates h left (ahead h.slots lead) k h.frame.operands is are
    act_stands i.Drop is object plain lead =
        drops h left (ahead h.slots lead) k h.frame.operands is are
    act_stands i.Swap is object plain lead =
        swaps h left (ahead h.slots lead) k h.frame.operands is are
    act_stands i.Over is object plain lead =
        copies h left (ahead h.slots lead) k h.frame.operands is are
    act_stands (i.Reach len align by) is object plain lead =
        on_place h left (ahead h.slots lead) (λ o. kinds.push scalar.Pointer o) refl k
        h.frame.operands _ is are (λ p below xs on rest.
        on_gives h left (ahead h.slots lead) scalar.Pointer below xs
        (reaches p len align by h.pos h.state) on rest
        (only_bind (IsOfKind scalar.Pointer) _ (λ u s1. Gives (Ptr p) s1) (λ u s1. tt)))
    act_stands (i.Load kind) is object plain lead =
        on_place h left (ahead h.slots lead) (λ o. kinds.push kind o) refl k
        h.frame.operands _ is are (λ p below xs on rest.
        on_gives h left (ahead h.slots lead) kind below xs (loaded kind p h.pos h.state) on
        rest (only_loaded kind p h.pos h.state))
    act_stands (i.Store kind) is object plain lead =
        stores h left (ahead h.slots lead) kind k h.frame.operands is are
    act_stands (i.Zero len) is object plain lead =
        on_place h left (ahead h.slots lead) (λ o. o) refl k h.frame.operands _ is are
        (λ p below xs on rest. on_does h left (ahead h.slots lead) below xs
        (stored 1 (record { place = p; bytes = replicate len (Some 0) }) h.pos h.state) on rest)
    act_stands (i.Pool text) is object plain lead =
        on_place h left (ahead h.slots lead) (λ o. o) refl k h.frame.operands _ is are
        (λ p below xs on rest. pools_text h left (ahead h.slots lead) text p below xs
        plain on rest)
    act_stands (i.Copy len) is object plain lead =
        on_place h left (ahead h.slots lead)
        (λ o. kinds.push scalar.Pointer (option_and_then (pop scalar.Pointer) o)) refl k h.frame.operands _ is are
        (λ from below xs on rest.
        on_place h left (ahead h.slots lead) (λ o. kinds.push scalar.Pointer o) refl xs
        below _ on rest (λ to below2 ys on2 rest2.
        on_gives h left (ahead h.slots lead) scalar.Pointer below2 ys
        (bind (copied len to from h.pos h.state) (λ u s1. Gives (Ptr to) s1)) on2 rest2
        (only_bind (IsOfKind scalar.Pointer) (copied len to from h.pos h.state) (λ u s1. Gives (Ptr to) s1)
        (λ u s1. tt))))
    act_stands (i.Make slot bytes) is object plain lead =
        make_stands slot bytes (automatic_made bytes h.state) is (ahead (slot_made slot bytes h.slots) lead)
    act_stands (i.Seal slot at len) is object plain lead =
        subst (λ o. Stands h (on_held o (seals c at len))) (sym object.1)
        (seals_object h left (ahead h.slots lead) at len object.0
        (nat_le (at + len) object.0.size) (le-leb (at + len) object.0.size object.2)
        (of_left k left h.frame.operands is are))
    act_stands (i.Kill slot) is object plain lead =
        kill_stands slot (held_in slot h.frame.held) refl is (ahead (slot_killed slot h.slots) lead)
    act_stands (i.Binary operator kind) is object plain lead =
        operators h left (ahead h.slots lead) operator kind k h.frame.operands is are
    act_stands (i.Negate kind) is object plain lead =
        on_one h left (ahead h.slots lead) (λ o. kinds.push (scalar.Number kind) o)
        h.frame.operands kind _
        (popped (λ o. kinds.push (scalar.Number kind) o) refl left (scalar.Number kind) k h.frame.operands is are)
        (λ n below xs on rest. on_gives h left (ahead h.slots lead)
        (scalar.Number kind) below xs (computed (negation kind n) h.pos h.state) on rest
        (only_computed kind (negation kind n) h.pos h.state))
    act_stands (i.Flip kind) is object plain lead =
        on_one h left (ahead h.slots lead) (λ o. kinds.push (scalar.Number kind) o)
        h.frame.operands kind _
        (popped (λ o. kinds.push (scalar.Number kind) o) refl left (scalar.Number kind) k h.frame.operands is are)
        (λ n below xs on rest. on_value h left (ahead h.slots lead)
        (scalar.Number kind) (Num (complement kind n)) below xs on tt rest)
    act_stands (i.Convert kind) is object plain lead =
        on_one h left (ahead h.slots lead) (λ o. kinds.push (scalar.Number kind) o)
        h.frame.operands I32 _ (number_popped (λ o. kinds.push (scalar.Number kind) o) refl left k h.frame.operands
        is are)
        (λ n below xs on rest. on_value h left (ahead h.slots lead)
        (scalar.Number kind) (Num (converted_to kind n)) below xs on tt rest)
    act_stands i.Not is object plain lead =
        on_one h left (ahead h.slots lead) (λ o. kinds.push (scalar.Number I32) o)
        h.frame.operands I32 _ (number_popped (λ o. kinds.push (scalar.Number I32) o) refl left k h.frame.operands
        is are)
        (λ n below xs on rest. on_value h left (ahead h.slots lead)
        (scalar.Number I32) (told (is_zero n)) below xs on tt rest)
    act_stands (i.Compare comparison) is object plain lead =
        on_one h left (ahead h.slots lead)
        (λ o. kinds.push (scalar.Number I32) (option_and_then pop_number o)) h.frame.operands I32 _
        (number_popped (λ o. kinds.push (scalar.Number I32) (option_and_then pop_number o)) refl left k
        h.frame.operands is
        are)
        (λ y below xs on rest. on_one h left (ahead h.slots lead)
        (λ o. kinds.push (scalar.Number I32) o) below I32 _
        (number_popped (λ o. kinds.push (scalar.Number I32) o) refl left xs below on rest)
        (λ x below2 ys on2 rest2. on_value h left (ahead h.slots lead)
        (scalar.Number I32) (told (compares comparison x y)) below2 ys on2 tt rest2))
    act_stands i.IsNull is object plain lead =
        on_place h left (ahead h.slots lead) (λ o. kinds.push (scalar.Number I32) o)
        refl k h.frame.operands _ is are (λ p below xs on rest.
        on_value h left (ahead h.slots lead) (scalar.Number I32) (told (is_null p))
        below xs on tt rest)
    act_stands i.Same is object plain lead =
        on_place h left (ahead h.slots lead)
        (λ o. kinds.push (scalar.Number I32) (option_and_then (pop scalar.Pointer) o)) refl k h.frame.operands _ is are
        (λ q below xs on rest.
        on_place h left (ahead h.slots lead) (λ o. kinds.push (scalar.Number I32) o)
        refl xs below _ on rest (λ p below2 ys on2 rest2.
        on_value h left (ahead h.slots lead) (scalar.Number I32)
        (told (same_pointer p q)) below2 ys on2 tt rest2))
    act_stands (i.Order relation) is object plain lead =
        on_place h left (ahead h.slots lead)
        (λ o. kinds.push (scalar.Number I32) (option_and_then (pop scalar.Pointer) o)) refl k h.frame.operands _ is are
        (λ q below xs on rest.
        on_place h left (ahead h.slots lead) (λ o. kinds.push (scalar.Number I32) o)
        refl xs below _ on rest (λ p below2 ys on2 rest2.
        on_gives h left (ahead h.slots lead) (scalar.Number I32) below2 ys
        (told_if_found (ordered relation p q) h.pos h.state) on2 rest2 (only_told
        (ordered relation p q) h.pos h.state)))
    act_stands (i.Step stride) is object plain lead =
        on_one h left (ahead h.slots lead)
        (λ o. kinds.push scalar.Pointer (option_and_then (pop scalar.Pointer) o)) h.frame.operands I32 _
        (number_popped (λ o. kinds.push scalar.Pointer (option_and_then
        (pop scalar.Pointer) o)) refl left k h.frame.operands
        is are)
        (λ n below xs on rest.
        on_place h left (ahead h.slots lead) (λ o. kinds.push scalar.Pointer o)
        refl xs below _ on rest (λ p below2 ys on2 rest2.
        on_gives h left (ahead h.slots lead) scalar.Pointer below2 ys
        (pointer_moved (moved stride p n) h.pos h.state) on2 rest2 (only_moved (moved stride p n) h.pos h.state)))
    act_stands (i.Difference bytes) is object plain lead =
        on_place h left (ahead h.slots lead)
        (λ o. kinds.push (scalar.Number I64) (option_and_then (pop scalar.Pointer) o)) refl k h.frame.operands _ is are
        (λ q below xs on rest.
        on_place h left (ahead h.slots lead) (λ o. kinds.push (scalar.Number I64) o)
        refl xs below _ on rest (λ p below2 ys on2 rest2.
        on_gives h left (ahead h.slots lead) (scalar.Number I64) below2 ys
        (bind (found (difference bytes p q) h.pos h.state) (λ n s1. Gives (Num n) s1)) on2 rest2
        (only_bind (IsOfKind (scalar.Number I64)) (found (difference bytes p q) h.pos h.state) (λ n s1. Gives
        (Num n) s1)
        (λ n s1. tt))))
    act_stands (i.Member at) is object plain lead =
        on_place h left (ahead h.slots lead) (λ o. kinds.push scalar.Pointer o) refl k
        h.frame.operands _ is are (λ p below xs on rest.
        on_value h left (ahead h.slots lead) scalar.Pointer (Ptr (member_place at p))
        below xs on tt rest)
    act_stands (i.Narrow len) is object plain lead =
        on_place h left (ahead h.slots lead) (λ o. kinds.push scalar.Pointer o) refl k
        h.frame.operands _ is are (λ p below xs on rest.
        on_value h left (ahead h.slots lead) scalar.Pointer
        (Ptr (array_pointer len p)) below xs on tt rest)
    act_stands (i.Jump to) is object plain lead =
        goes h to left h.slots h.frame.operands h.frame.held h.state (lead to (first_of to []))
        (of_left k left h.frame.operands is are) h.holds
    act_stands (i.IfZero to) is object plain lead =
        at_number (Stands h) left (λ o. o) I32 h.frame.operands _ (number_popped
        (λ o. o) refl left k h.frame.operands is are)
        (λ n below xs on rest. choice_stands (is_zero n) to below xs on rest (lead to (second_of
        (h.frame.at + 1) to []))
        (lead (h.frame.at + 1) (first_of (h.frame.at + 1) (to ∷ []))))
    act_stands (i.Cases count) is object plain lead = cases_stand count is
        (eqb-true (length (case_places h.code.instrs (h.frame.at + 1) count)) (count + 1) plain) lead
    act_stands (i.Pair value to) is object plain lead = absurd (none_is_some left is)
    act_stands (i.Default to) is object plain lead = absurd (none_is_some left is)
    act_stands i.Tick is object plain lead =
        on_does h left (ahead h.slots lead) h.frame.operands k (ticked h.state) is are
    act_stands (i.Call count type) is object plain lead =
        call_by h left (ahead h.slots lead) (slice_get h.code.types type) count type k
        refl plain is are
    act_stands i.Used is object plain lead =
        used_stands h left (ahead h.slots lead) h.frame.answered (of_left k left h.frame.operands is are)
    act_stands i.Give is object plain lead =
        at_form (Stands h) left (λ o. o) refl h.function.form k h.frame.operands _ is are (λ v below fits.
        leaves_stands h.library h.keeps h.code h.valid h.types h.function.form h.frame v h.below h.state
        (may_return h.function.form v fits) h.under)
    act_stands i.Leave is object plain lead =
        leaves_stands h.library h.keeps h.code h.valid h.types h.function.form h.frame Nothing h.below h.state tt
        h.under
