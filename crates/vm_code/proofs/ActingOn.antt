-- Each instruction keeps within what is left behind the places where it leads.
use Rattle.std.proofs.Common.{◌≡◌, ℕ, zero, suc, ◌+◌, ◌≤◌, Bool, true, false, ℤ, List, [], ◌∷◌, replicate}
use Rattle.std.proofs.Common.{Option, Some, None, Contains, refl, subst, arith, if◌then◌else◌}
use Rattle.std.specs.Prelude.{◌-ℤ◌}
use Rattle.std.specs.List.{slice_get}
use Rattle.acc_num.specs.Operations.{is_zero, converted_to}
use Rattle.critical_table.specs.declared.pos.Pos.{Pos}
use Rattle.lib_defs.specs.declared.value.Value.{Value}
use Rattle.lib_defs.specs.declared.value.Value.TheVariants.{Num, Ptr, Nothing}
use Rattle.lib_defs.specs.Columns.{is_null}
use Rattle.run_defs.specs.Evaluation.{Gives, bind, ticked, stored, automatic_made}
use Rattle.run_defs.specs.Loads.{found}
use Rattle.c_core.specs.Operations.{operator_outcome, negation, complement, compares}
use Rattle.vm_code.specs.declared.instr.Instr.{Instr}
use Rattle.vm_code.specs.declared.instr.Instr.TheVariants as i
use Rattle.vm_code.specs.Accesses.{loaded, copied}
use Rattle.vm_code.specs.Pointers.{moved, difference, ordered, same_pointer, member_place, array_pointer}
use Rattle.vm_code.specs.Operators.{computed, told, told_if_found, pointer_moved, assigned}
use Rattle.vm_code.specs.Slots.{place_of, held_in}
use Rattle.vm_code.specs.Calling.{leaves}
use Rattle.vm_code.specs.Machine.{Context, on_pointer}
use Rattle.vm_code.specs.Machine.{goes_to, next, push, gives, does, seals, reaches, pools}
use Rattle.vm_code.specs.Machine.{default_place, pair_place, case_place, to_case, act}
use Rattle.vm_code.specs.Sound.{default_places, pair_places, case_places, next_places}
use Rattle.vm_code.proofs.Fronts.{some_alone}
use Rattle.vm_code.proofs.TicksFall.{leaves_bind, leaves_ticked, leaves_stored, leaves_made}
use Rattle.vm_code.proofs.AccessTicks.{leaves_computed, leaves_told, leaves_moved, leaves_counted, leaves_loaded}
use Rattle.vm_code.proofs.AccessTicks.{leaves_assigned, leaves_copied, leaves_reaches}
use Rattle.vm_code.proofs.Weights.{Scale, spent, weights, Within, within_leaves}
use Rattle.vm_code.proofs.Acting.{in_top, in_two, in_number, in_numbers, in_pointer, in_pointers, in_scalar, in_form}
use Rattle.vm_code.proofs.Acting.{
  in_held,
  first_of,
  second_of,
  at_place,
  at_next,
  at_push,
  at_gives,
  at_does,
  at_makes,
}
use Rattle.vm_code.proofs.Acting.{at_kills, at_seals, at_pools, at_uses, at_calls}

-- ---- a choice leads to one of its places

pub none_is_some : {A : Type 0} (a : A) → None ≡ Some a → ⊥
none_is_some a same = cc

pub later : {A : Type 0} (y : A) (xs : List A) (x : A) → Contains xs x → Contains (y ∷ xs) x
later y xs x found = (suc found.0, omega (arith, found.1), found.2)

default_found : (o : Option (Instr × Pos)) (to : ℕ) → default_place o ≡ Some to → Contains (default_places o) to
default_found (Some (i.Default there, here)) to is = let P : ℕ → Type 0 = λ n. Contains (there ∷ []) n in
    subst P (some_alone there to is) (first_of there [])
default_found _ to is = absurd (none_is_some to is)

pair_found_if : (b : Bool) (there to : ℕ) (others : Option ℕ) (places : List ℕ)
    → (others ≡ Some to → Contains places to) → (if b then Some there else others) ≡ Some to
    → Contains (there ∷ places) to
pair_found_if true there to others places go is = let P : ℕ → Type 0 = λ n. Contains (there ∷ places) n in
    subst P (some_alone there to is) (first_of there places)
pair_found_if false there to others places go is = later there places to (go is)

pair_found : (o : Option (Instr × Pos)) (n : ℤ) (to : ℕ) (others : Option ℕ) (places : List ℕ)
    → (others ≡ Some to → Contains places to) → pair_place o n others ≡ Some to → Contains (pair_places o places) to
pair_found (Some (i.Pair value there, here)) n to others places go is =
    pair_found_if (is_zero (value -ℤ n)) there to others places go is
pair_found _ n to others places go is = absurd (none_is_some to is)

pub case_found : (instrs : List (Instr × Pos)) (count at : ℕ) (n : ℤ) (to : ℕ) → case_place instrs at count n ≡ Some to
    → Contains (case_places instrs at count) to
case_found instrs zero at n to is = default_found (slice_get instrs at) to is
case_found instrs (suc count) at n to is = pair_found (slice_get instrs at) n to
    (case_place instrs (at + 1) count n) (case_places instrs (at + 1) count)
    (λ there. case_found instrs count (at + 1) n to there) is

-- ---- instructions

module _ (scale : Scale) (c : Context) (most rest : ℕ)
    (enough : spent scale.pass c.state.ticks + rest + weights scale c.rest ≤ most) where
  at_case : (o : Option ℕ) (below : List Value) → ((to : ℕ) → o ≡ Some to → scale.rest to ≤ rest)
      → Within scale most (to_case c o below)
  at_case None below small = tt
  at_case (Some to) below small =
      at_place scale c most rest enough to below c.frame.held c.state (omega arith) (small to refl)

  at_choice : (b : Bool) (to : ℕ) (below : List Value) → scale.rest to ≤ rest
      → scale.rest (c.frame.at + 1) ≤ rest
      → Within scale most (if b then goes_to c to below c.frame.held c.state else next c below c.state)
  at_choice true to below small next_small =
      at_place scale c most rest enough to below c.frame.held c.state (omega arith) small
  at_choice false to below small next_small = at_next scale c most rest enough next_small below c.state (omega arith)

  -- Each instruction keeps within the most that is left behind the places where it leads.
  pub within_act : (instr : Instr)
      → ((to : ℕ) → Contains (next_places c.code c.frame.at instr) to → scale.rest to ≤ rest)
      → Within scale most (act c instr)
  within_act (i.Number kind n) lead =
      at_push scale c most rest enough (lead (c.frame.at + 1) (first_of (c.frame.at + 1) [])) (Num n)
  within_act (i.Pointer p) lead =
      at_push scale c most rest enough (lead (c.frame.at + 1) (first_of (c.frame.at + 1) [])) (Ptr p)
  within_act (i.Slot slot) lead =
      in_held scale most (held_in slot c.frame.held) (λ held. push c (Ptr (place_of held)))
      (λ held. at_push scale c most rest enough (lead (c.frame.at + 1) (first_of (c.frame.at + 1) [])) (Ptr
      (place_of held)))
  within_act i.Result lead =
      at_push scale c most rest enough (lead (c.frame.at + 1) (first_of (c.frame.at + 1) [])) (Ptr c.frame.result)
  within_act i.Duplicate lead =
      in_top scale most c.frame.operands (λ v below. next c (v ∷ v ∷ below) c.state)
      (λ v below. at_next scale c most rest enough (lead (c.frame.at + 1) (first_of (c.frame.at + 1) []))
      (v ∷ v ∷ below) c.state
      (omega arith))
  within_act i.Drop lead =
      in_top scale most c.frame.operands (λ v below. next c below c.state)
      (λ v below. at_next scale c most rest enough (lead (c.frame.at + 1) (first_of (c.frame.at + 1) [])) below c.state
      (omega arith))
  within_act i.Swap lead =
      in_two scale most c.frame.operands (λ v w below. next c (v ∷ w ∷ below) c.state)
      (λ v w below. at_next scale c most rest enough (lead (c.frame.at + 1) (first_of (c.frame.at + 1) []))
      (v ∷ w ∷ below) c.state
      (omega arith))
  within_act i.Over lead =
      in_two scale most c.frame.operands (λ v w below. next c (v ∷ w ∷ v ∷ below) c.state)
      (λ v w below. at_next scale c most rest enough (lead (c.frame.at + 1) (first_of (c.frame.at + 1) []))
      (v ∷ w ∷ v ∷ below) c.state
      (omega arith))
  within_act (i.Reach len align by) lead =
      in_pointer scale most c.frame.operands
      (λ p below. gives c below (reaches p len align by c.pos c.state))
      (λ p below. at_gives scale c most rest enough (lead (c.frame.at + 1) (first_of (c.frame.at + 1) [])) below
      (reaches p len align by c.pos c.state)
      (leaves_reaches p len align by c.pos c.state.ticks c.state (omega arith)))
  within_act (i.Load scalar) lead =
      in_pointer scale most c.frame.operands
      (λ p below. gives c below (loaded scalar p c.pos c.state))
      (λ p below. at_gives scale c most rest enough (lead (c.frame.at + 1) (first_of (c.frame.at + 1) [])) below
      (loaded scalar p c.pos c.state)
      (leaves_loaded scalar p c.pos c.state.ticks c.state (omega arith)))
  within_act (i.Store scalar) lead =
      in_scalar scale most scalar c.frame.operands
      (λ v below. on_pointer below (λ p others. gives c others (assigned scalar p v c.pos c.state)))
      (λ v below. in_pointer scale most below (λ p others. gives c others (assigned scalar p v c.pos c.state))
      (λ p others. at_gives scale c most rest enough (lead (c.frame.at + 1) (first_of (c.frame.at + 1) [])) others
      (assigned scalar p v c.pos c.state) (leaves_assigned scalar p v c.pos c.state.ticks c.state (omega arith))))
  within_act (i.Zero len) lead =
      in_pointer scale most c.frame.operands (λ p below.
      does c below (stored 1 (record { place = p; bytes = replicate len (Some 0) }) c.pos c.state))
      (λ p below. at_does scale c most rest enough (lead (c.frame.at + 1) (first_of (c.frame.at + 1) [])) below
      (stored 1 (record { place = p; bytes = replicate len (Some 0) }) c.pos c.state)
      (leaves_stored 1 (record { place = p; bytes = replicate len (Some 0) }) c.pos c.state.ticks c.state
      (omega arith)))
  within_act (i.Pool text) lead =
      in_pointer scale most c.frame.operands (λ p below. pools c (slice_get c.code.texts text) p below)
      (λ p below. at_pools scale c most rest enough (lead (c.frame.at + 1) (first_of (c.frame.at + 1) []))
      (slice_get c.code.texts text) p below)
  within_act (i.Copy len) lead =
      in_pointers scale most c.frame.operands (λ to from below.
      gives c below (bind (copied len to from c.pos c.state) (λ u s. Gives (Ptr to) s)))
      (λ to from below. at_gives scale c most rest enough (lead (c.frame.at + 1) (first_of (c.frame.at + 1) [])) below
      (bind (copied len to from c.pos c.state) (λ u s. Gives (Ptr to) s))
      (leaves_bind c.state.ticks (copied len to from c.pos c.state) (λ u s. Gives (Ptr to) s)
      (leaves_copied len to from c.pos c.state.ticks c.state (omega arith)) (λ u s le. le)))
  within_act (i.Make slot bytes) lead =
      at_makes scale c most rest enough (lead (c.frame.at + 1) (first_of (c.frame.at + 1) [])) slot bytes
      (automatic_made bytes c.state) (leaves_made bytes c.state.ticks c.state (omega arith))
  within_act (i.Seal slot at len) lead =
      in_held scale most (held_in slot c.frame.held) (seals c at len)
      (λ held. at_seals scale c most rest enough (lead (c.frame.at + 1) (first_of (c.frame.at + 1) [])) at len held)
  within_act (i.Kill slot) lead =
      at_kills scale c most rest enough (lead (c.frame.at + 1) (first_of (c.frame.at + 1) [])) slot
      (held_in slot c.frame.held)
  within_act (i.Binary operator kind) lead =
      in_numbers scale most c.frame.operands
      (λ a b below. gives c below (computed (operator_outcome operator kind a b) c.pos c.state))
      (λ a b below. at_gives scale c most rest enough (lead (c.frame.at + 1) (first_of (c.frame.at + 1) [])) below
      (computed (operator_outcome operator kind a b) c.pos c.state)
      (leaves_computed (operator_outcome operator kind a b) c.pos c.state.ticks c.state (omega arith)))
  within_act (i.Negate kind) lead =
      in_number scale most c.frame.operands
      (λ a below. gives c below (computed (negation kind a) c.pos c.state))
      (λ a below. at_gives scale c most rest enough (lead (c.frame.at + 1) (first_of (c.frame.at + 1) [])) below
      (computed (negation kind a) c.pos c.state)
      (leaves_computed (negation kind a) c.pos c.state.ticks c.state (omega arith)))
  within_act (i.Flip kind) lead =
      in_number scale most c.frame.operands (λ a below. next c (Num (complement kind a) ∷ below) c.state)
      (λ a below. at_next scale c most rest enough (lead (c.frame.at + 1) (first_of (c.frame.at + 1) [])) (Num
      (complement kind a) ∷ below) c.state
      (omega arith))
  within_act (i.Convert kind) lead =
      in_number scale most c.frame.operands (λ a below. next c (Num (converted_to kind a) ∷ below) c.state)
      (λ a below. at_next scale c most rest enough (lead (c.frame.at + 1) (first_of (c.frame.at + 1) [])) (Num
      (converted_to kind a) ∷ below) c.state
      (omega arith))
  within_act i.Not lead =
      in_number scale most c.frame.operands (λ a below. next c (told (is_zero a) ∷ below) c.state)
      (λ a below. at_next scale c most rest enough (lead (c.frame.at + 1) (first_of (c.frame.at + 1) [])) (told
      (is_zero a) ∷ below) c.state
      (omega arith))
  within_act (i.Compare comparison) lead =
      in_numbers scale most c.frame.operands (λ a b below. next c (told (compares comparison a b) ∷ below) c.state)
      (λ a b below. at_next scale c most rest enough (lead (c.frame.at + 1) (first_of (c.frame.at + 1) [])) (told
      (compares comparison a b) ∷ below) c.state
      (omega arith))
  within_act i.IsNull lead =
      in_pointer scale most c.frame.operands (λ p below. next c (told (is_null p) ∷ below) c.state)
      (λ p below. at_next scale c most rest enough (lead (c.frame.at + 1) (first_of (c.frame.at + 1) [])) (told
      (is_null p) ∷ below) c.state
      (omega arith))
  within_act i.Same lead =
      in_pointers scale most c.frame.operands (λ p q below. next c (told (same_pointer p q) ∷ below) c.state)
      (λ p q below. at_next scale c most rest enough (lead (c.frame.at + 1) (first_of (c.frame.at + 1) [])) (told
      (same_pointer p q) ∷ below) c.state
      (omega arith))
  within_act (i.Order relation) lead =
      in_pointers scale most c.frame.operands
      (λ p q below. gives c below (told_if_found (ordered relation p q) c.pos c.state))
      (λ p q below. at_gives scale c most rest enough (lead (c.frame.at + 1) (first_of (c.frame.at + 1) [])) below
      (told_if_found (ordered relation p q) c.pos c.state)
      (leaves_told (ordered relation p q) c.pos c.state.ticks c.state (omega arith)))
  within_act (i.Step stride) lead =
      in_number scale most c.frame.operands
      (λ n below. on_pointer below (λ p others. gives c others (pointer_moved (moved stride p n) c.pos c.state)))
      (λ n below. in_pointer scale most below
      (λ p others. gives c others (pointer_moved (moved stride p n) c.pos c.state))
      (λ p others. at_gives scale c most rest enough (lead (c.frame.at + 1) (first_of (c.frame.at + 1) [])) others
      (pointer_moved (moved stride p n) c.pos c.state)
      (leaves_moved (moved stride p n) c.pos c.state.ticks c.state (omega arith))))
  within_act (i.Difference bytes) lead =
      in_pointers scale most c.frame.operands
      (λ p q below. gives c below (bind (found (difference bytes p q) c.pos c.state) (λ n s. Gives (Num n) s)))
      (λ p q below. at_gives scale c most rest enough (lead (c.frame.at + 1) (first_of (c.frame.at + 1) [])) below
      (bind (found (difference bytes p q) c.pos c.state) (λ n s. Gives (Num n) s))
      (leaves_counted (difference bytes p q) c.pos c.state.ticks c.state (omega arith)))
  within_act (i.Member at) lead =
      in_pointer scale most c.frame.operands (λ p below. next c (Ptr (member_place at p) ∷ below) c.state)
      (λ p below. at_next scale c most rest enough (lead (c.frame.at + 1) (first_of (c.frame.at + 1) [])) (Ptr
      (member_place at p) ∷ below) c.state
      (omega arith))
  within_act (i.Narrow len) lead =
      in_pointer scale most c.frame.operands (λ p below. next c (Ptr (array_pointer len p) ∷ below) c.state)
      (λ p below. at_next scale c most rest enough (lead (c.frame.at + 1) (first_of (c.frame.at + 1) [])) (Ptr
      (array_pointer len p) ∷ below) c.state
      (omega arith))
  within_act (i.Jump to) lead =
      at_place scale c most rest enough to c.frame.operands c.frame.held c.state (omega arith)
      (lead to (first_of to []))
  within_act (i.IfZero to) lead =
      in_number scale most c.frame.operands (λ n below.
      if is_zero n then goes_to c to below c.frame.held c.state else next c below c.state)
      (λ n below. at_choice (is_zero n) to below (lead to (second_of (c.frame.at + 1) to []))
      (lead (c.frame.at + 1) (first_of (c.frame.at + 1) (to ∷ []))))
  within_act (i.Cases count) lead =
      in_number scale most c.frame.operands
      (λ n below. to_case c (case_place c.code.instrs (c.frame.at + 1) count n) below)
      (λ n below. at_case (case_place c.code.instrs (c.frame.at + 1) count n) below
      (λ to is. lead to (case_found c.code.instrs count (c.frame.at + 1) n to is)))
  within_act (i.Pair value to) lead = tt
  within_act (i.Default to) lead = tt
  within_act i.Tick lead =
      at_does scale c most rest enough (lead (c.frame.at + 1) (first_of (c.frame.at + 1) [])) c.frame.operands
      (ticked c.state)
      (leaves_ticked c.state.ticks c.state (omega arith))
  within_act (i.Call count type) lead =
      at_calls scale c most rest enough (lead (c.frame.at + 1) (first_of (c.frame.at + 1) [])) count
      (slice_get c.code.types type)
  within_act i.Used lead =
      at_uses scale c most rest enough (lead (c.frame.at + 1) (first_of (c.frame.at + 1) [])) c.frame.answered
  within_act i.Give lead =
      in_form scale most c.function.form c.frame.operands
      (λ v below. leaves c.environment c.code c.function.form c.frame v c.rest c.state)
      (λ v below. within_leaves scale c.environment c.code most c.function.form c.frame v c.rest c.state
      (omega (arith, enough)))
  within_act i.Leave lead =
      within_leaves scale c.environment c.code most c.function.form c.frame Nothing c.rest c.state
      (omega (arith, enough))
