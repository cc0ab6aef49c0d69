-- The parameters of a function stand in its first slots.
use Rattle.std.proofs.Common.{◌≡◌, ℕ, ◌+◌, ◌<◌, ◌==◌, Bool, true, false, List, [], ◌∷◌}
use Rattle.std.proofs.Common.{Some, refl, ◌∙◌, ap, arith}
use Rattle.std.proofs.Common.{if◌then◌else◌}
use Rattle.std.proofs.lemmas.Bool.{eq-eqb, ne_eqb, eqb-true}
use Rattle.critical_table.specs.declared.pos.Pos.{Pos}
use Rattle.lib_defs.specs.declared.value.Value.{Value}
use Rattle.run_defs.specs.State.{State}
use Rattle.run_defs.specs.Evaluation.{Evaluation, Gives, Stops, bind, automatic_made}
use Rattle.vm_code.specs.declared.parts.Parameter.{Parameter}
use Rattle.vm_code.specs.Slots.{Held, held_in}
use Rattle.vm_code.specs.Calling.{fits_form, fit_parameters, argument_stored, parameters_made}
use Rattle.vm_code.specs.Ways.{parameter_slots}
use Rattle.vm_code.proofs.ActingOn.{none_is_some}
use Rattle.vm_code.proofs.Fronts.{some_alone}
use Rattle.vm_code.proofs.Falling.{and_right}

-- Of the slots before this one those that were made are kept, and each parameter has its own.
pub record Made (slot : ℕ) (ps : List Parameter) (held made : List Held) : Type 0 where
  pub kept : (t : ℕ) → t < slot → held_in t made ≡ held_in t held
  pub own : (t size : ℕ) → parameter_slots slot ps t ≡ Some size
      → (h : Held) × (held_in t made ≡ Some h) × (h.size ≡ size)

abbrev pub MadeSo : ℕ → List Parameter → List Held → Evaluation (List Held) → Type 0
MadeSo slot ps held (Gives made s) = Made slot ps held made
MadeSo slot ps held (Stops outcome s) = Unit {0}

made_bind : {A : Type 0} (slot : ℕ) (ps : List Parameter) (held : List Held) (x : Evaluation A)
    (next : A → State → Evaluation (List Held)) → ((v : A) (s : State) → MadeSo slot ps held (next v s))
    → MadeSo slot ps held (bind x next)
made_bind slot ps held (Gives v s) next all = all v s
made_bind slot ps held (Stops outcome s) next all = tt

one_more : (slot : ℕ) (p : Parameter) (ps : List Parameter) (held : List Held) (h : Held) → h.slot ≡ slot
    → h.size ≡ p.size → (x : Evaluation (List Held)) → MadeSo (slot + 1) ps (h ∷ held) x → MadeSo slot (p ∷ ps) held x
one_more slot p ps held h at size (Stops outcome s) m = tt
one_more slot p ps held h at size (Gives made s) m = record { kept = kept; own = own }
  where
    skipped : (t : ℕ) → (h.slot ≡ t → ⊥) → held_in t (h ∷ held) ≡ held_in t held
    skipped t other = ap (λ (b : Bool). if b then Some h else held_in t held) (ne_eqb h.slot t other)

    kept : (t : ℕ) → t < slot → held_in t made ≡ held_in t held
    kept t less = m.kept t (omega (arith, less)) ∙ skipped t (λ same. omega (arith, same, at, less))

    here : held_in slot made ≡ Some h
    here = m.kept slot (omega arith)
        ∙ ap (λ (b : Bool). if b then Some h else held_in slot held) (eq-eqb h.slot slot at)

    own : (t bytes : ℕ) → (if t == slot then Some p.size else parameter_slots (slot + 1) ps t) ≡ Some bytes
        → (g : Held) × (held_in t made ≡ Some g) × (g.size ≡ bytes)
    own t bytes is = at_slot (t == slot) refl is
      where
        at_slot : (b : Bool) → (t == slot) ≡ b
            → (if b then Some p.size else parameter_slots (slot + 1) ps t) ≡ Some bytes
            → (g : Held) × (held_in t made ≡ Some g) × (g.size ≡ bytes)
        at_slot true same found =
            (h, ap (λ (n : ℕ). held_in n made) (eqb-true t slot same) ∙ here, size ∙ some_alone p.size bytes found)
        at_slot false other found = m.own t bytes found

none_made : (slot : ℕ) (held : List Held) → Made slot [] held held
none_made slot held = record { kept = λ t less. refl; own = λ t size is. absurd (none_is_some size is) }

pub made_so : (slot : ℕ) (ps : List Parameter) (vs : List Value) (held : List Held) (pos : Pos) (s : State)
    → fit_parameters ps vs ≡ true → MadeSo slot ps held (parameters_made slot ps vs held pos s)
made_so slot [] [] held pos s fit = none_made slot held
made_so slot [] (v ∷ vs) held pos s fit = none_made slot held
made_so slot (p ∷ ps) [] held pos s fit = absurd (let none : ⊥ = cc in none)
made_so slot (p ∷ ps) (v ∷ vs) held pos s fit =
    made_bind slot (p ∷ ps) held (automatic_made p.size s) _ (λ place s1.
    made_bind slot (p ∷ ps) held (argument_stored p.form p.size place v pos s1) _ (λ u s2.
    one_more slot p ps held (record { slot = slot; number = place.object; size = p.size }) refl refl _
    (made_so (slot + 1) ps vs (record { slot = slot; number = place.object; size = p.size } ∷ held) pos s2
    (and_right (fits_form p.form v) (fit_parameters ps vs) fit))))
