-- The objects of a frame's slots as they are made and killed.
use Rattle.std.proofs.Common.{◌≡◌, ℕ, ◌==◌, Bool, true, false, List, [], ◌∷◌}
use Rattle.std.proofs.Common.{Some, None, refl, sym, ◌∙◌, ap}
use Rattle.std.proofs.Common.{if◌then◌else◌}
use Rattle.std.proofs.lemmas.Bool.{eq-eqb, ne_eqb, eqb-true, eqb-false}
use Rattle.run_defs.specs.Loads.{found}
use Rattle.vm_code.specs.Slots.{Held, held_in, without}
use Rattle.vm_code.specs.Ways.{Slots, slot_made, slot_killed}
use Rattle.vm_code.proofs.ActingOn.{none_is_some}
use Rattle.vm_code.proofs.Fronts.{some_alone}
use Rattle.vm_code.proofs.Standing.{Holds}

-- a new object is held
module _ (slot : ℕ) (new : Held) (at : new.slot ≡ slot) (slots : Slots) (held : List Held) (holds : Holds slots held)
  where
    made_if : (t size : ℕ) (b : Bool) → (t == slot) ≡ b → (if b then Some new.size else slots t) ≡ Some size
        → (h : Held) × (held_in t (new ∷ held) ≡ Some h) × (h.size ≡ size)
    made_if t size true same found = (
      new,
      ap (λ (b : Bool). if b then Some new else held_in t held)
          (eq-eqb new.slot t (at ∙ sym (eqb-true t slot same))),
      some_alone new.size size found,
    )
    made_if t size false other found =
        let h : (h : Held) × (held_in t held ≡ Some h) × (h.size ≡ size) = holds t size found in
        let apart : (new.slot == t) ≡ false = ne_eqb new.slot t (λ same. eqb-false t slot other (sym same ∙ at)) in
        (h.0, ap (λ (b : Bool). if b then Some new else held_in t held) apart ∙ h.1, h.2)

    pub holds_made : Holds (slot_made slot new.size slots) (new ∷ held)
    holds_made t size is = made_if t size (t == slot) refl is

-- an object of another slot is still held
pub without_other : (slot t : ℕ) (held : List Held) → (slot ≡ t → ⊥) → held_in t (without slot held) ≡ held_in t held
without_other slot t [] other = refl
without_other slot t (h ∷ held) other = at_slot (h.slot == slot) refl (without_other slot t held other)
  where
    at_slot : (b : Bool) → (h.slot == slot) ≡ b → held_in t (without slot held) ≡ held_in t held
        → held_in t (if b then held else h ∷ without slot held) ≡ held_in t (h ∷ held)
    at_slot true same rest =
        let apart : (h.slot == t) ≡ false =
        ne_eqb h.slot t (λ is. other (sym (eqb-true h.slot slot same) ∙ is)) in
        sym (ap (λ (b : Bool). if b then Some h else held_in t held) apart)
    at_slot false apart rest = ap (λ o. if h.slot == t then Some h else o) rest

pub holds_killed : (slot : ℕ) (slots : Slots) (held left : List Held)
    → ((t : ℕ) → (slot ≡ t → ⊥) → held_in t left ≡ held_in t held) → Holds slots held
    → Holds (slot_killed slot slots) left
holds_killed slot slots held left same holds t size is = at_slot (t == slot) refl is
  where
    at_slot : (b : Bool) → (t == slot) ≡ b → (if b then None else slots t) ≡ Some size
        → (h : Held) × (held_in t left ≡ Some h) × (h.size ≡ size)
    at_slot true at found = absurd (none_is_some size found)
    at_slot false other found =
        let h : (h : Held) × (held_in t held ≡ Some h) × (h.size ≡ size) = holds t size found in
        (h.0, same t (λ is. eqb-false t slot other (sym is)) ∙ h.1, h.2)
