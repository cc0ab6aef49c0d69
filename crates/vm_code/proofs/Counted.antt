-- The instructions of a run, counted by what it leaves.
use Rattle.std.proofs.Common.{◌≡◌, ℕ, zero, suc, ◌+◌, ◌-◌, ◌*◌, ◌<◌, ◌≤◌, inl, inr, Bool, true, false, ◌&&◌, List, []}
use Rattle.std.proofs.Common.{◌∷◌, length, map, Option, Some, None, Contains, refl, sym, ◌∙◌, ap, subst, arith}
use Rattle.std.proofs.Common.{if◌then◌else◌}
use Rattle.std.proofs.lemmas.Bool.{ltb-true, cases_lt}
use Rattle.std.specs.Prelude.{nat_lt, nat_le, not}
use Rattle.std.specs.List.{slice_get}
use Rattle.lib_defs.specs.Library.{Library}
use Rattle.lib_defs.specs.World.{Input}
use Rattle.run_defs.specs.declared.outcome.Outcome.{Outcome}
use Rattle.run_defs.specs.declared.outcome.Outcome.TheVariants.{OutOfTicks}
use Rattle.run_defs.specs.declared.seal.Seal.{Seal}
use Rattle.run_defs.specs.State.{State, sealed, static_made}
use Rattle.run_defs.specs.Evaluation.{Evaluation, Gives, Stops, within, ticked_at}
use Rattle.run_defs.specs.Functions.{Environment}
use Rattle.run_defs.specs.Starts.{Budgets, StaticObject, empty_state, all_sealed, placed, messages, start_state}
use Rattle.run_defs.specs.Starts.{statics_placed}
use Rattle.vm_code.specs.declared.parts.CodeFunction.{CodeFunction}
use Rattle.vm_code.specs.Contents.{Contents, function_at}
use Rattle.vm_code.specs.CodeFunctions.{environment, abort_handler, main_function, end_from, end_of}
use Rattle.vm_code.specs.Frames.{Frame, Place, Goes, Ends, Stuck, after}
use Rattle.vm_code.specs.Calling.{entered_at, entered}
use Rattle.vm_code.specs.Machine.{step, run, begun_count, static_of, outer_entry, main_called, RunsTo}
use Rattle.vm_code.specs.Sound.{is_entry, is_place}
use Rattle.vm_code.specs.Ways.{stretch_of}
use Rattle.vm_code.specs.Valid.{CannotStart, IsValid}
use Rattle.vm_code.specs.Bound.{IsBounded}
use Rattle.vm_code.proofs.TicksFall.{sealed_ticks, Leaves, leaves_bind, leaves_within}
use Rattle.vm_code.proofs.Weights.{spent, spent_less, by_instructions, weights, Within, within_entered}
use Rattle.vm_code.proofs.Falling.{and_left, and_right, bool_true, function_contained, Falls, step_falls}

-- ---- the count

state_of : State → Place → State
state_of other (Goes frames s) = other
state_of other (Ends outcome s) = s
state_of other Stuck = other

pub ends_state : (reached : Outcome) (there : State) (outcome : Outcome) (s : State)
    → Ends reached there ≡ Ends outcome s
    → there ≡ s
unfolding state_of
ends_state reached there outcome s same = ap (state_of there) same

pub stuck_ends : (outcome : Outcome) (s : State) → Stuck ≡ Ends outcome s → ⊥
stuck_ends outcome s same = cc

pub goes_ends : (frames : List Frame) (there : State) (outcome : Outcome) (s : State)
    → Goes frames there ≡ Ends outcome s
    → ⊥
goes_ends frames there outcome s same = cc

falls_less : (code : Contents) (m n : ℕ) (place : Place) → Falls code m place → m ≤ n → Falls code n place
falls_less code m n (Goes frames s) falls less = omega (arith, falls, less)
falls_less code m n (Ends outcome s) falls less = omega (arith, falls, less)
falls_less code m n Stuck falls less = tt

module _ (code : Contents) (valid : IsValid code) (e : Environment) where
  -- what is begun in n steps, where no more than m is left at the first
  Counts : ℕ → Type 0
  Counts n = (m : ℕ) (place : Place) (outcome : Outcome) (s : State) → Within (by_instructions code) m place
      → run e code place n ≡ Ends outcome s → begun_count e code place n + spent (length code.instrs) s.ticks ≤ m + 1

  counts_on : (n m : ℕ) (place : Place) (outcome : Outcome) (s : State) → Counts n → Falls code m place
      → run e code place n ≡ Ends outcome s → begun_count e code place n + spent (length code.instrs) s.ticks ≤ m
  unfolding Counts
  counts_on n m (Ends reached there) outcome s all falls is =
      let less : spent (length code.instrs) there.ticks ≡ spent (length code.instrs) s.ticks =
      ap (λ (x : State). spent (length code.instrs) x.ticks) (ends_state reached there outcome s is) in
      omega (arith, less, falls)
  counts_on n m Stuck outcome s all falls is = absurd (stuck_ends outcome s is)
  counts_on n m (Goes frames there) outcome s all falls is =
      let few : begun_count e code (Goes frames there) n + spent (length code.instrs) s.ticks
      ≤ spent (length code.instrs) there.ticks + weights (by_instructions code) frames + 1 =
      all (spent (length code.instrs) there.ticks + weights (by_instructions code) frames) (Goes frames there) outcome s
      (omega arith) is in
      omega (arith, few, falls)

  counted : (n : ℕ) → Counts n
  unfolding Counts
  counted n m (Ends reached there) outcome s within is =
      let less : spent (length code.instrs) there.ticks ≡ spent (length code.instrs) s.ticks =
      ap (λ (x : State). spent (length code.instrs) x.ticks) (ends_state reached there outcome s is) in
      omega (arith, less, within)
  counted n m Stuck outcome s within is = absurd (stuck_ends outcome s is)
  counted zero m (Goes frames there) outcome s within is = absurd (goes_ends frames there outcome s is)
  counted (suc n) m (Goes frames there) outcome s within is =
      let few : begun_count e code (step e code frames there) n + spent (length code.instrs) s.ticks ≤ m =
      counts_on n m (step e code frames there) outcome s (counted n)
      (falls_less code (spent (length code.instrs) there.ticks + weights (by_instructions code) frames) m
      (step e code frames there) (step_falls code valid e frames there) within) is in
      omega (arith, few)

-- ---- the start

all_sealed_ticks : (number : ℕ) (seals : List Seal) (s : State) → (all_sealed number seals s).ticks ≡ s.ticks
all_sealed_ticks number [] s = refl
all_sealed_ticks number (seal ∷ seals) s =
    all_sealed_ticks number seals (sealed number seal s) ∙ sealed_ticks number seal s

placed_ticks : (object : StaticObject) (s : State) → (placed object s).ticks ≡ s.ticks
placed_ticks object s = all_sealed_ticks _ object.seals (static_made object.bytes s)

leaves_statics : (objects : List StaticObject) (t : ℕ) (s : State) → s.ticks ≤ t → Leaves t (statics_placed objects s)
leaves_statics [] t s le = le
leaves_statics (object ∷ objects) t s le = leaves_bind t (within (length object.bytes) s)
    (λ u s1. statics_placed objects (placed object s1)) (leaves_within (length object.bytes) t s le)
    (λ u s1 le1. let P : ℕ → Type 0 = λ n. n ≤ t in
    leaves_statics objects t (placed object s1) (subst P (sym (placed_ticks object s1)) le1))

pub end_from_le : (start : ℕ) (functions : List CodeFunction) (end : ℕ) → end_from start functions end ≤ end
end_from_le start [] end = omega arith
end_from_le start (f ∷ fs) end = at_start (nat_lt start f.start && nat_lt f.start end) refl
    (end_from_le start fs f.start) (end_from_le start fs end)
  where
    at_start : (b : Bool) → (nat_lt start f.start && nat_lt f.start end) ≡ b → end_from start fs f.start ≤ f.start
        → end_from start fs end ≤ end
        → (if b then end_from start fs f.start else end_from start fs end) ≤ end
    at_start true is near far =
        let below : f.start < end = ltb-true f.start end (and_right (nat_lt start f.start) (nat_lt f.start end) is) in
        omega (arith, below, near)
    at_start false is near far = far

-- code with a function has an instruction
some_instr : (code : Contents) → IsValid code → (f : CodeFunction) → Contains code.functions f → 0 < length code.instrs
some_instr code valid f is =
    let place : is_place code (stretch_of code f) f.start ≡ true =
    bool_true (is_place code (stretch_of code f) f.start)
    (λ no_place. valid.holds f.start (CannotStart f is refl no_place)) in
    let inner : (nat_le f.start f.start && nat_lt f.start (end_of code f)) ≡ true =
    and_left (nat_le f.start f.start && nat_lt f.start (end_of code f))
    (not (is_entry (slice_get code.instrs f.start))) place in
    let below : f.start < end_of code f =
    ltb-true f.start (end_of code f) (and_right (nat_le f.start f.start) (nat_lt f.start (end_of code f)) inner) in
    let within : end_of code f ≤ length code.instrs = end_from_le f.start code.functions (length code.instrs) in
    omega (arith, below, within)

-- ---- the bound

twice : (u d : ℕ) → (2 * (d + 1)) * u ≡ (2 * d) * u + (u + u)
twice u d = grind arith

once_more : (u d : ℕ) → (2 * d + 1) * u ≡ (2 * d) * u + u
once_more u d = grind arith

-- so many ticks more
spent_more : (u l d : ℕ) → spent u (d + l) ≡ (2 * d) * u + spent u l
spent_more u l zero = let P : ℕ → Type 0 = λ n. spent u n ≡ (2 * 0) * u + spent u l in
    let same : l ≡ 0 + l = omega arith in subst P same (grind arith)
spent_more u l (suc d) =
    let P : ℕ → Type 0 = λ n. spent u n ≡ (2 * (suc d)) * u + spent u l in
    let same : suc (d + l) ≡ suc d + l = omega arith in
    let rest : spent u (d + l) ≡ (2 * d) * u + spent u l = spent_more u l d in
    let more : (2 * (d + 1)) * u ≡ (2 * d) * u + (u + u) = twice u d in
    subst P same (omega (arith, rest, more))

-- from what is begun and left: no tick is gained, and the instructions are few
few_of : (u before k left n : ℕ) → 0 < u → k < before → n + spent u left ≤ spent u k + u + 1
    → (left ≤ before) × (n ≤ (2 * (before - left) + 1) * u)
few_of u before k left n some less counted = (lower, few)
  where
    paid : spent u k + (u + u) ≤ spent u before
    paid = spent_less u k before less

    lower : left ≤ before
    lower = elim (cases_lt before left) [
      | inl above ↦ absurd (let more : spent u before + (u + u) ≤ spent u left = spent_less u before left above in
          let none : ⊥ = omega (arith, more, paid, counted, some) in none)
      | inr below ↦ below
    ]

    few : n ≤ (2 * (before - left) + 1) * u
    few =
        let parts : (before - left) + left ≡ before = omega (arith, lower) in
        let whole : spent u before ≡ (2 * (before - left)) * u + spent u left =
        ap (spent u) (sym parts) ∙ spent_more u left (before - left) in
        let last : (2 * (before - left) + 1) * u ≡ (2 * (before - left)) * u + u = once_more u (before - left) in
        omega (arith, whole, last, paid, counted, some)

Few : Contents → ℕ → State → ℕ → Type 0
Few code ticks s n = (s.ticks ≤ ticks) × (n ≤ (2 * (ticks - s.ticks) + 1) * length code.instrs)

-- a run that is over at its start
few_at_once : (code : Contents) (ticks : ℕ) (there s : State) (n : ℕ) → there ≡ s → there.ticks ≤ ticks → 0 ≡ n
    → Few code ticks s n
unfolding Few
few_at_once code ticks there s n same le none =
    let P : State → Type 0 = λ x. Few code ticks x n in
    let Q : ℕ → Type 0 = λ k. k ≤ (2 * (ticks - there.ticks) + 1) * length code.instrs in
    subst P same (le, subst Q none (omega arith))

module _ (code : Contents) (valid : IsValid code) (e : Environment) (ticks n : ℕ) (outcome : Outcome) (s : State) where
  few_entered : (o : Option CodeFunction) (f : ℕ) (there : State) → function_at code.functions f ≡ o
      → there.ticks < ticks → run e code (entered_at o (outer_entry f) [] there) n ≡ Ends outcome s
      → begun_count e code (entered_at o (outer_entry f) [] there) n ≡ n → Few code ticks s n
  unfolding Few Counts
  few_entered None f there is less ends counts = absurd (stuck_ends outcome s ends)
  few_entered (Some function) f there is less ends counts =
      let some : 0 < length code.instrs =
      some_instr code valid function (function_contained code.functions f function is) in
      let P : Option CodeFunction → Type 0 = λ o. Within (by_instructions code) (spent (length code.instrs) there.ticks
      + length code.instrs) (entered_at o (outer_entry f) [] there) in
      let few : begun_count e code (entered_at (Some function) (outer_entry f) [] there) n
      + spent (length code.instrs) s.ticks ≤ spent (length code.instrs) there.ticks + length code.instrs + 1 =
      counted code valid e n (spent (length code.instrs) there.ticks + length code.instrs)
      (entered_at (Some function) (outer_entry f) [] there) outcome s
      (subst P is (within_entered (by_instructions code) code
      (spent (length code.instrs) there.ticks + length code.instrs) (outer_entry f)
      [] there (omega arith))) ends in
      few_of (length code.instrs) ticks there.ticks s.ticks n some less (omega (arith, few, counts))

  few_ticked : (k f : ℕ) (there : State) → k ≤ ticks → there.ticks ≤ ticks
      → run e code (after (ticked_at k there) (λ u s1. entered code (outer_entry f) [] s1)) n ≡ Ends outcome s
      → begun_count e code (after (ticked_at k there) (λ u s1. entered code (outer_entry f) [] s1)) n ≡ n
      → Few code ticks s n
  few_ticked zero f there less le ends counts = few_at_once code ticks there s n
      (ends_state OutOfTicks there outcome s ends) le counts
  few_ticked (suc k) f there less le ends counts = few_entered (function_at code.functions f) f
      (record there { ticks = k }) refl (omega (arith, less)) ends counts

  few_called : (o : Option ℕ) (there : State) → there.ticks ≤ ticks
      → run e code (main_called e code o there) n ≡ Ends outcome s
      → begun_count e code (main_called e code o there) n ≡ n → Few code ticks s n
  few_called None there le ends counts = absurd (stuck_ends outcome s ends)
  few_called (Some f) there le ends counts = few_ticked there.ticks f there le le ends counts

  few_started : (x : Evaluation (Unit {0})) → Leaves ticks x
      → run e code (after x (λ u there. main_called e code (main_function code) there)) n ≡ Ends outcome s
      → begun_count e code (after x (λ u there. main_called e code (main_function code) there)) n ≡ n
      → Few code ticks s n
  few_started (Gives u there) le ends counts = few_called (main_function code) there le ends counts
  few_started (Stops reached there) le ends counts =
      few_at_once code ticks there s n (ends_state reached there outcome s ends) le counts

-- Each run of valid code is bounded.
pub bounded : (library : Library) (code : Contents) (budgets : Budgets) (input : Input) (outcome : Outcome) (s : State)
    (instructions : ℕ) → IsValid code → RunsTo library code budgets input outcome s instructions
    → IsBounded code budgets s instructions
unfolding Few
bounded library code budgets input outcome s instructions valid runs =
    let start : (start_state budgets input (abort_handler code)).ticks ≡ budgets.ticks =
    placed_ticks messages (empty_state budgets input (abort_handler code)) in
    let few : Few code budgets.ticks runs.before instructions =
    few_started code valid (environment library code) budgets.ticks instructions outcome runs.before
    (statics_placed (map static_of code.objects) (start_state budgets input (abort_handler code)))
    (leaves_statics (map static_of code.objects) budgets.ticks
    (start_state budgets input (abort_handler code)) (omega (arith, start))) runs.ends runs.all_begin in
    let same : s.ticks ≡ runs.before.ticks = ap (λ (x : State). x.ticks) runs.last in
    record {
      ticks = omega (arith, same, few.0);
      instructions_few = let P : ℕ → Type 0 =
          λ k. instructions ≤ (2 * (budgets.ticks - k) + 1) * length code.instrs in subst P (sym same) few.1;
    }
