-- Full expressions: their value objects die behind them, and those of a block as it is left.
use Rattle.std.proofs.Common.{◌≡◌, ℕ, zero, suc, ◌+◌, ◌<◌, ◌≤◌, ◌==◌, Bool, true, false, List, [], ◌∷◌, ◌++◌, refl, ap}
use Rattle.std.proofs.Common.{subst, arith, map, length, Option, Some, None}
use Rattle.std.proofs.lemmas.Bool.{eq-eqb, eqb-true, eqb-false, ne_eqb}
use Rattle.std.specs.Prelude.{ℤ, not}
use Rattle.acc_num.specs.Operations.{is_zero}
use Rattle.critical_table.specs.declared.pos.Pos.{Pos}
use Rattle.c_core.specs.declared.form.Form.{Form}
use Rattle.c_core.specs.Types.{IsNumber}
use Rattle.lib_defs.specs.declared.value.Value.{Value}
use Rattle.lib_defs.specs.declared.value.Value.TheVariants.{Num}
use Rattle.run_defs.specs.State.{State, died}
use Rattle.run_defs.specs.Evaluation.{Evaluation, Gives}
use Rattle.run_defs.specs.Functions.{Environment}
use Rattle.vm_code.specs.declared.instr.Instr.TheVariants as i
use Rattle.vm_code.specs.declared.parts.CodeFunction.{CodeFunction}
use Rattle.vm_code.specs.Contents.{Contents}
use Rattle.vm_code.specs.Frames.{Place}
use Rattle.vm_code.specs.Machine.{kills as kill_place}
use Rattle.vm_code.specs.Operators.{is_true}
use Rattle.vm_code.specs.Slots.{Held, held_in, without, numbers, all_died}
use Rattle.code_gen.specs.Evaluating.{Evaluates, full}
use Rattle.code_gen.specs.ExpressionCode.{on}
use Rattle.code_gen.specs.StatementCode.{kills, slots_down}
use Rattle.code_gen.specs.RunLaw.{HasKind, pushed, AreValues, AreBelow, Comes, Reaches, StandAt, Left, Running}
use Rattle.code_gen.specs.RunLaw.{stands_at, standing}
use Rattle.code_gen.proofs.Going.{comes_on, comes_same, one_step, sees, reaches_from, reaches_gives, reaches_bind}
use Rattle.code_gen.proofs.PlainParts.{IsLeftAs, number_left}
use Rattle.code_gen.proofs.PlainStretches as stretch

-- ---- slots that hold nothing

none_below : (low slot : ℕ) (held : List Held) → AreBelow low held → low ≤ slot → held_in slot held ≡ None
none_below low slot [] below up = refl
none_below low slot (h ∷ held) below up =
    let other : (h.slot == slot) ≡ false = ne_eqb _ _ (λ same. omega (arith, same, below.0, up)) in
    rw other (none_below low slot held below.1 up)

none_in : (low high slot : ℕ) (objects held : List Held) → AreValues low high objects → AreBelow low held → low ≤ slot
    → high ≤ slot → held_in slot (objects ++ held) ≡ None
none_in low high slot [] held are below up over = none_below low slot held below up
none_in low high slot (h ∷ objects) held are below up over =
    let other : (h.slot == slot) ≡ false = ne_eqb _ _ (λ same. omega (arith, same, are.1, over)) in
    let less : h.slot ≤ slot = omega (arith, are.1, over) in
    rw other (none_in low h.slot slot objects held are.2 below up less)

module _ (it : Running) where
  abbrev e : Environment
  e = it.environment

  abbrev code : Contents
  code = it.code

  abbrev function : CodeFunction
  function = it.function

  abbrev here : List Held → Bool → ℕ → List Value → State → Place
  here objects answered at operands s = stands_at it objects answered at operands s

  -- one `kill`
  kill_comes : (slot : ℕ) (found : Option Held) (objects : List Held) (answered : Bool) (at : ℕ)
      (operands : List Value) (position : Pos) (s : State) → StandAt code function at (on position (i.Kill slot ∷ []))
      → held_in slot (objects ++ it.frame.held) ≡ found
      → Comes e code (here objects answered at operands s)
      (kill_place (sees (stretch.beside it objects answered) at operands position s) slot found)
  kill_comes slot found objects answered at operands position s stands same =
      let other : Running = stretch.beside it objects answered in
      comes_on e code _ _ _ (one_step other at operands s (i.Kill slot) position stands.0)
      (comes_same e code _ _ (ap (λ o. kill_place (sees other at operands position s) slot o) same))

  -- the objects that are held on top die in order
  pub held_die : (objects : List Held) (answered : Bool) (at : ℕ) (operands : List Value) (position : Pos) (s : State)
      → StandAt code function at (on position (kills (map (λ (h : Held). h.slot) objects)))
      → Comes e code (here objects answered at operands s)
      (here [] answered (at + length objects) operands (all_died (numbers objects) s))
  held_die [] answered at operands position s stands =
      let same : at ≡ at + 0 = omega arith in
      comes_same e code _ _ (ap (λ k. here [] answered k operands s) same)
  held_die (h ∷ objects) answered at operands position s stands =
      let own : (h.slot == h.slot) ≡ true = eq-eqb h.slot h.slot refl in
      let found : held_in h.slot (h ∷ objects ++ it.frame.held) ≡ Some h = rw own refl in
      let rest : without h.slot (h ∷ objects ++ it.frame.held) ≡ objects ++ it.frame.held = rw own refl in
      let same : at + 1 + length objects ≡ at + length (h ∷ objects) = omega arith in
      comes_on e code _ _ _
      (kill_comes h.slot (Some h) (h ∷ objects) answered at operands position s (stands.0, tt) found)
      (comes_on e code _ (here objects answered (at + 1) operands (died h.number s)) _
      (comes_same e code _ _ (ap (λ held. standing (record it.frame { held = held; answered = answered }) it.rest
      (at + 1) operands (died h.number s)) rest))
      (comes_on e code _ _ _ (held_die objects answered (at + 1) operands position (died h.number s) stands.1)
      (comes_same e code _ _ (ap (λ k. here [] answered k operands (all_died (numbers objects) (died h.number s)))
      same))))

  -- value objects die, the last made first; a slot may hold none
  pub values_die : (low n : ℕ) (objects : List Held) (answered : Bool) (at : ℕ) (operands : List Value)
      (position : Pos) (s : State) → AreBelow low it.frame.held → AreValues low (low + n) objects
      → StandAt code function at (on position (kills (slots_down low n)))
      → Comes e code (here objects answered at operands s)
      (here [] answered (at + n) operands (all_died (numbers objects) s))
  values_die low zero [] answered at operands position s below are stands =
      let same : at ≡ at + 0 = omega arith in
      comes_same e code _ _ (ap (λ k. here [] answered k operands s) same)
  values_die low zero (h ∷ objects) answered at operands position s below are stands =
      let no : ⊥ = omega (arith, are.0, are.1) in absurd no
  values_die low (suc n) [] answered at operands position s below are stands =
      let same : at + 1 + n ≡ at + suc n = omega arith in
      comes_on e code _ _ _
      (kill_comes (low + n) None [] answered at operands position s (stands.0, tt)
      (none_below low (low + n) it.frame.held below (omega arith)))
      (comes_on e code _ _ _ (values_die low n [] answered (at + 1) operands position s below tt stands.1)
      (comes_same e code _ _ (ap (λ k. here [] answered k operands s) same)))
  values_die low (suc n) (h ∷ objects) answered at operands position s below are stands =
      by_slot (h.slot == low + n) refl (λ objects1 s1 are1. values_die low n objects1 answered (at + 1) operands
      position
      s1 below are1 stands.1)
    where
      same : at + 1 + n ≡ at + suc n
      same = omega arith

      by_slot : (b : Bool) → (h.slot == low + n) ≡ b
          → ((objects1 : List Held) (s1 : State) → AreValues low (low + n) objects1
          → Comes e code (here objects1 answered (at + 1) operands s1)
          (here [] answered (at + 1 + n) operands (all_died (numbers objects1) s1)))
          → Comes e code (here (h ∷ objects) answered at operands s)
          (here [] answered (at + suc n) operands (all_died (numbers (h ∷ objects)) s))
      by_slot true own later =
          let slot_is : h.slot ≡ low + n = eqb-true h.slot (low + n) own in
          let found : held_in (low + n) (h ∷ objects ++ it.frame.held) ≡ Some h = rw own refl in
          let rest : without (low + n) (h ∷ objects ++ it.frame.held) ≡ objects ++ it.frame.held = rw own refl in
          comes_on e code _ _ _
          (kill_comes (low + n) (Some h) (h ∷ objects) answered at operands position s (stands.0, tt) found)
          (comes_on e code _ (here objects answered (at + 1) operands (died h.number s)) _
          (comes_same e code _ _ (ap (λ held. standing (record it.frame { held = held; answered = answered }) it.rest
          (at + 1) operands (died h.number s)) rest))
          (comes_on e code _ _ _ (later objects (died h.number s)
          (stretch.values_widen low h.slot (low + n) objects (omega (arith, slot_is)) are.2))
          (comes_same e code _ _ (ap (λ k. here [] answered k operands
          (all_died (numbers objects) (died h.number s))) same))))
      by_slot false other later =
          let less : h.slot < low + n = omega (arith, are.1, eqb-false h.slot (low + n) other) in
          let are1 : AreValues low (low + n) (h ∷ objects) = (are.0, less, are.2) in
          comes_on e code _ _ _
          (kill_comes (low + n) None (h ∷ objects) answered at operands position s (stands.0, tt)
          (none_in low (low + n) (low + n) (h ∷ objects) it.frame.held are1 below (omega arith) (omega arith)))
          (comes_on e code _ _ _ (later (h ∷ objects) s are1)
          (comes_same e code _ _ (ap (λ k. here [] answered k operands (all_died (numbers (h ∷ objects)) s)) same)))

  -- ---- a full expression

  -- where it leads, with what is left of the use of its value
  abbrev pub Leads : {A : Type 0} {Last : A → Type 0} → ℕ → ((a : A) → Last a → List Value) → (a : A)
      → Bool × Last a → State → Place
  Leads there operands a left s = here [] left.0 there (operands a left.1) s

  -- an expression, the use of its value, and the deaths of its value objects
  pub full_runs : {A : Type 0} (E : Evaluates) (f : Form) (use_value : Value → State → Evaluation A)
      (Last : A → Type 0) (operands : List Value) (then : (a : A) → Last a → List Value) (from mid to low n : ℕ)
      (position : Pos) → AreBelow low it.frame.held → stretch.Runs it low E f from mid low (low + n)
      → ((objects : List Held) (answered : Bool) (v : Value) (s : State) → HasKind f v
      → Reaches e code it.most (here objects answered mid (pushed f v operands) s) (use_value v s) Last
      (λ a last s1. here objects answered to (then a last) s1))
      → StandAt code function to (on position (kills (slots_down low n)))
      → (answered : Bool) (s : State)
      → Reaches e code it.most (here [] answered from operands s) (full E use_value s) (λ a. Bool × Last a)
      (Leads (to + n) then)
  full_runs E f use_value Last operands then from mid to low n position below runs acts stands answered s =
      reaches_bind e code it.most _ (E [] s) _ (Left f low (low + n)) (stretch.Leads it low f (low + n) mid operands)
      (λ a. Bool × Last a) (Leads (to + n) then)
      (runs operands [] (record { objects = []; slots = tt; same = refl; answered = answered }) s)
      (λ x s1 left.
      reaches_bind e code it.most _ (use_value x.value s1) _ Last
      (λ a last s2. here left.now.objects left.now.answered to (then a last) s2) (λ a. Bool × Last a)
      (Leads (to + n) then) (acts left.now.objects left.now.answered x.value s1 left.kind)
      (λ a s2 last.
      reaches_from e code it.most _ (here [] left.now.answered (to + n) (then a last) (all_died x.made s2))
      (Gives a (all_died x.made s2)) (λ a. Bool × Last a) (Leads (to + n) then)
      (subst (λ made. Comes e code (here left.now.objects left.now.answered to (then a last) s2)
      (here [] left.now.answered (to + n) (then a last) (all_died made s2))) left.now.same
      (values_die low n left.now.objects left.now.answered to (then a last) position s2 below left.now.slots stands))
      (reaches_gives e code it.most _ a (all_died x.made s2) (λ a. Bool × Last a) (Leads (to + n) then)
      (left.now.answered, last) refl)))

  -- a number, as a test
  abbrev pub Tested : Bool → Type 0
  Tested b = (n : ℤ) × (b ≡ not (is_zero n))

  pub test_runs : (E : Evaluates) (f : Form) (from mid low n : ℕ) (position : Pos) → IsNumber f
      → AreBelow low it.frame.held → stretch.Runs it low E f from mid low (low + n)
      → StandAt code function mid (on position (kills (slots_down low n))) → (answered : Bool) (s : State)
      → Reaches e code it.most (here [] answered from [] s) (full E (λ v. Gives (is_true v)) s) (λ b. Bool × Tested b)
      (Leads (mid + n) (λ b tested. Num tested.0 ∷ []))
  test_runs E f from mid low n position is below runs stands answered s =
      full_runs E f (λ v. Gives (is_true v)) Tested [] (λ b tested. Num tested.0 ∷ []) from mid mid low n position below
      runs (λ objects answered1 v s1 has.
      let l : (k : ℤ) × IsLeftAs f v (Num k) = number_left f v is has in
      reaches_gives e code it.most _ (is_true v) s1 Tested
      (λ b tested s2. here objects answered1 mid (Num tested.0 ∷ []) s2)
      (l.0, ap is_true l.1.value_is) (ap (λ ops. here objects answered1 mid ops s1) (l.1.on_top []))) stands answered s
