-- What statements of one kind do, where their parts do what these mean.
use Rattle.std.proofs.Common.{◌≡◌, ◌∙◌, ℕ, ◌+◌, ◌≤◌, Bool, true, false, cond, List, [], ◌∷◌, ◌++◌, refl, ap, sym}
use Rattle.std.proofs.Common.{subst, arith, Option, Some, None}
use Rattle.std.specs.Prelude.{ℤ, not, nat_le, IsSomeAnd}
use Rattle.std.proofs.lemmas.Bool.{le-leb}
use Rattle.acc_num.specs.Operations.{is_zero}
use Rattle.critical_table.specs.declared.pos.Pos.{Pos}
use Rattle.object_store.specs.declared.mark.Mark.TheVariants.{Const}
use Rattle.c_core.specs.declared.form.Form.{Form}
use Rattle.c_core.specs.declared.form.Form.TheVariants as form
use Rattle.c_core.specs.declared.form.Scalar.TheVariants as scalar
use Rattle.c_core.specs.declared.form.Content.{Content}
use Rattle.c_core.specs.declared.form.Content.TheVariants as content
use Rattle.c_core.specs.Forms.{form_of, given_form}
use Rattle.c_core.specs.Named.{Names, size_in, LieIn}
use Rattle.c_core.specs.Tree.{Core}
use Rattle.c_core.specs.TreeUnit.{Program}
use Rattle.c_core.specs.Typed.{CoreTyped}
use Rattle.c_core.specs.Types.{IsLeft, IsNumber}
use Rattle.c_core.specs.TypedUnit.{IsReturned, Flow as FlowTyped}
use Rattle.lib_defs.specs.declared.value.Value.{Value}
use Rattle.lib_defs.specs.declared.value.Value.TheVariants.{Num}
use Rattle.run_defs.specs.State.{State, sealed, call_left}
use Rattle.run_defs.specs.Evaluation.{Evaluation, Gives, bind}
use Rattle.run_defs.specs.Functions.{Environment}
use Rattle.vm_code.specs.declared.instr.Instr.{Instr}
use Rattle.vm_code.specs.declared.instr.Instr.TheVariants as i
use Rattle.vm_code.specs.Calling.{returned, left_by, leaves}
use Rattle.vm_code.specs.Contents.{Contents}
use Rattle.vm_code.specs.Frames.{Place}
use Rattle.vm_code.specs.Machine.{on_form}
use Rattle.vm_code.specs.Slots.{Held, held_in, numbers, all_died}
use Rattle.code_gen.specs.CalledTypes.{Through}
use Rattle.code_gen.specs.Designation.{place_in}
use Rattle.code_gen.specs.Evaluating.{Evaluates}
use Rattle.code_gen.specs.ExpressionCode.{on, code_at, objects_in}
use Rattle.code_gen.specs.ExpressionCode as code_sizes
use Rattle.code_gen.specs.Expressions.{Call, value}
use Rattle.code_gen.specs.Flows.{Flow, Next, Broke, Continued, Returned, branch, after}
use Rattle.code_gen.specs.RunLaw.{HasKind, pushed, CallsRunIn, Left, Comes, Reaches, StandAt, Running, stands_at}
use Rattle.code_gen.specs.StatementCode.{Around, kills, slots_down, full_code}
use Rattle.code_gen.specs.StatementCode.{full_size}
use Rattle.code_gen.specs.StatementRunLaw.{Inside, jumped, leads}
use Rattle.code_gen.specs.Statements.{tested, done, evaluated, then_next}
use Rattle.code_gen.proofs.Going.{comes_on, comes_same, one_step, stand_front, stand_back, reaches_from}
use Rattle.code_gen.proofs.Going.{reaches_gives, reaches_bind, reaches_on}
use Rattle.code_gen.proofs.FullExpressions as whole
use Rattle.code_gen.proofs.Lengths.{code_long}
use Rattle.code_gen.proofs.PlainParts.{IsLeftAs, number_left}
use Rattle.code_gen.proofs.PlainRuns as plain_runs
use Rattle.code_gen.proofs.PlainStatements as parts
use Rattle.code_gen.proofs.PlainStretches as stretch
use Rattle.code_gen.proofs.TicksLeft.{reaches_within}

-- ---- forms

pub left_on_form : (f : Form) (v : Value) → IsLeft f → HasKind f v → (next : Value → List Value → Place)
    → on_form f (pushed f v []) next ≡ next v []
left_on_form (form.Number kind) v is has next =
    subst (λ w. on_form (form.Number kind) (w ∷ []) next ≡ next w []) (sym has.1) refl
left_on_form form.Pointer v is has next =
    subst (λ w. on_form form.Pointer (w ∷ []) next ≡ next w []) (sym has.1) refl
left_on_form form.Place v is has next =
    subst (λ w. on_form form.Place (w ∷ []) next ≡ next w []) (sym has.1) refl
left_on_form form.Nothing v is has next = absurd is

pub returned_form : (gives : Option Content) (f : Form) → IsReturned gives f → (given_form gives ≡ f) × IsLeft f
returned_form None f is = absurd is
returned_form (Some (content.Scalar (scalar.Number kind))) f is = (sym is, subst IsLeft (sym is) tt)
returned_form (Some (content.Scalar scalar.Pointer)) f is = (sym is, subst IsLeft (sym is) tt)
returned_form (Some (content.Whole size)) f is = absurd is

-- a value that is a number
abbrev pub IsNumeric : Value → Type 0
IsNumeric v = (n : ℤ) × (v ≡ Num n)

module _ (program : Program) (table : List Through) (call : Call) (it : Running) (names : Names) (flow : FlowTyped)
    (around : Around) (inside : Inside it names flow around) where
  abbrev e : Environment
  e = it.environment

  abbrev code : Contents
  code = it.code

  abbrev StandsAt : ℕ → List (Instr × Pos) → Type 0
  StandsAt at instrs = StandAt it.code it.function at instrs

  abbrev here : List Held → Bool → ℕ → List Value → State → Place
  here objects answered at operands s = stands_at it objects answered at operands s

  abbrev val : Core → Evaluates
  val core = value program call it.frame.held core

  -- what is done with a statement leads on
  abbrev pub Goes : Place → Evaluation Flow → ℕ → Type 0
  Goes from x next = Reaches it.environment it.code it.most from x (λ f. Bool) (leads it inside next)

  pub core_runs : (core : Core) (f : Form) → form_of core ≡ f → CoreTyped names core → CallsRunIn it table call core →
      (at : ℕ)
      → StandsAt at (code_at program table at around.values core)
      → stretch.Runs it around.values (val core) f at (at + code_sizes.size_in core) around.values
      (around.values + objects_in core)
  core_runs core f same t plain at stands = stretch.in_form it around.values {slot = around.values}
      {next = around.values + objects_in core} (val core) (form_of core) f at (at + code_sizes.size_in core) same
      (plain_runs.plain_runs it program table call names around.values inside.named core t plain at around.values
      (omega arith) stands)

  -- the deaths behind an expression
  deaths : (core : Core) (position : Pos) (at : ℕ) → StandsAt at (full_code program table position at around core)
      → StandsAt at (code_at program table at around.values core)
      × StandsAt (at + code_sizes.size_in core) (on position (kills (slots_down around.values (objects_in core))))
  deaths core position at stands =
      let a : List (Instr × Pos) = code_at program table at around.values core in
      let b : List (Instr × Pos) = on position (kills (slots_down around.values (objects_in core))) in (
        stand_front it.code it.function at a b stands,
        stand_back it.code it.function at (code_sizes.size_in core) a b (code_long program table at around.values core)
            stands,
      )

  -- an expression that is evaluated for what it does
  pub effect_runs : (core : Core) (position : Pos) (at : ℕ) (answered : Bool) (s : State)
      → form_of core ≡ form.Nothing → CoreTyped names core → CallsRunIn it table call core
      → StandsAt at (full_code program table position at around core)
      → Reaches e code it.most (here [] answered at [] s) (done program call core it.frame.held s) (λ u. Bool)
      (λ u answered1 s1. here [] answered1 (at + full_size core) [] s1)
  effect_runs core position at answered s nothing t plain stands =
      let both = deaths core position at stands in
      let mid : ℕ = at + code_sizes.size_in core in
      let same : mid + objects_in core ≡ at + full_size core = omega arith in
      reaches_on e code it.most _ (done program call core it.frame.held s) (λ u. Bool × Unit {0})
      (whole.Leads it (mid + objects_in core) (λ u last. [])) (λ u. Bool)
      (λ u answered1 s1. here [] answered1 (at + full_size core) [] s1)
      (whole.full_runs it (val core) form.Nothing (λ v. Gives tt) (λ u. Unit {0}) [] (λ u last. []) at mid mid
      around.values (objects_in core) position inside.named.below
      (core_runs core form.Nothing nothing t plain at both.0)
      (λ objects answered1 v s1 has. reaches_gives e code it.most _ tt s1 (λ u. Unit {0})
      (λ u last s2. here objects answered1 mid [] s2) tt refl)
      both.1 answered s)
      (λ u s1 left. (left.0, comes_same e code _ _ (ap (λ k. here [] left.0 k [] s1) same)))

  pub done_runs : (core : Core) (position : Pos) (at : ℕ) (answered : Bool) (s : State) → form_of core ≡ form.Nothing
      → CoreTyped names core → CallsRunIn it table call core → StandsAt at
      (full_code program table position at around core)
      → Goes (here [] answered at [] s) (then_next (done program call core it.frame.held s)) (at + full_size core)
  done_runs core position at answered s nothing t plain stands =
      reaches_bind e code it.most _ (done program call core it.frame.held s) _ (λ u. Bool)
      (λ u answered1 s1. here [] answered1 (at + full_size core) [] s1) (λ f. Bool)
      (leads it inside (at + full_size core)) (effect_runs core position at answered s nothing t plain stands)
      (λ u s1 answered1. reaches_gives e code it.most _ Next s1 (λ f. Bool) (leads it inside (at + full_size core))
      answered1
      refl)

  -- a number, as a full expression
  pub number_runs : (core : Core) (position : Pos) (at : ℕ) (answered : Bool) (s : State) → IsNumber (form_of core)
      → CoreTyped names core → CallsRunIn it table call core → StandsAt at
      (full_code program table position at around core)
      → Reaches e code it.most (here [] answered at [] s) (evaluated program call core it.frame.held Gives s)
      (λ v. Bool × IsNumeric v) (λ v left s1. here [] left.0 (at + full_size core) (Num left.1.0 ∷ []) s1)
  number_runs core position at answered s is t plain stands =
      let both = deaths core position at stands in
      let mid : ℕ = at + code_sizes.size_in core in
      let same : mid + objects_in core ≡ at + full_size core = omega arith in
      reaches_on e code it.most _ (evaluated program call core it.frame.held Gives s) (λ v. Bool × IsNumeric v)
      (whole.Leads it (mid + objects_in core) (λ v last. Num last.0 ∷ [])) (λ v. Bool × IsNumeric v)
      (λ v left s1. here [] left.0 (at + full_size core) (Num left.1.0 ∷ []) s1)
      (whole.full_runs it (val core) (form_of core) Gives IsNumeric [] (λ v last. Num last.0 ∷ []) at mid mid
      around.values (objects_in core) position inside.named.below
      (core_runs core (form_of core) refl t plain at both.0)
      (λ objects answered1 v s1 has.
      let l : (k : ℤ) × IsLeftAs (form_of core) v (Num k) = number_left (form_of core) v is has in
      reaches_gives e code it.most _ v s1 IsNumeric (λ w last s2. here objects answered1 mid (Num last.0 ∷ []) s2)
      (l.0, l.1.value_is) (ap (λ ops. here objects answered1 mid ops s1) (l.1.on_top [])))
      both.1 answered s)
      (λ v s1 left. (left, comes_same e code _ _ (ap (λ k. here [] left.0 k (Num left.1.0 ∷ []) s1) same)))

  -- a jump out
  pub break_runs : (position : Pos) (at next : ℕ) (answered : Bool) (s : State)
      → StandsAt at (on position (kills around.left ++ i.Jump around.behind ∷ []))
      → Goes (here [] answered at [] s) (Gives Broke s) next
  break_runs position at next answered s stands =
      reaches_from e code it.most _ (jumped it inside.breaks around.behind answered s) (Gives Broke s) (λ f. Bool)
      (leads it inside next)
      (parts.jump_comes it around.left inside.breaks around.behind at answered position s stands)
      (reaches_gives e code it.most _ Broke s (λ f. Bool) (leads it inside next) answered refl)

  pub continue_runs : (position : Pos) (at next : ℕ) (answered : Bool) (s : State)
      → StandsAt at (on position (kills around.left_again ++ i.Jump around.again ∷ []))
      → Goes (here [] answered at [] s) (Gives Continued s) next
  continue_runs position at next answered s stands =
      reaches_from e code it.most _ (jumped it inside.continues around.again answered s) (Gives Continued s) (λ f. Bool)
      (leads it inside next)
      (parts.jump_comes it around.left_again inside.continues around.again at answered position s stands)
      (reaches_gives e code it.most _ Continued s (λ f. Bool) (leads it inside next) answered refl)

  pub return_runs : (position : Pos) (at next : ℕ) (answered : Bool) (s : State)
      → StandsAt at (on position (i.Leave ∷ []))
      → Goes (here [] answered at [] s) (Gives (Returned None) s) next
  return_runs position at next answered s stands =
      reaches_from e code it.most _ _ (Gives (Returned None) s) (λ f. Bool) (leads it inside next)
      (one_step (stretch.beside it [] answered) at [] s i.Leave position stands.0)
      (reaches_gives e code it.most _ (Returned None) s (λ f. Bool) (leads it inside next) answered refl)

  pub return_value_runs : (core : Core) (position : Pos) (at next : ℕ) (answered : Bool) (s : State)
      → IsReturned flow.gives (form_of core) → CoreTyped names core → CallsRunIn it table call core
      → StandsAt at (code_at program table at around.values core ++ on position (i.Give ∷ []))
      → Goes (here [] answered at [] s) (evaluated program call core it.frame.held (λ v. Gives (Returned (Some v))) s)
      next
  return_value_runs core position at next answered s is t plain stands =
      let a : List (Instr × Pos) = code_at program table at around.values core in
      let l : ℕ = code_sizes.size_in core in
      let high : ℕ = around.values + objects_in core in
      let give : StandsAt (at + l) (on position (i.Give ∷ [])) =
      stand_back it.code it.function at l a (on position (i.Give ∷ [])) (code_long program table at around.values core)
      stands in
      let forms : (given_form flow.gives ≡ form_of core) × IsLeft (form_of core) =
      returned_form flow.gives (form_of core) is in
      let own : it.function.form ≡ form_of core = inside.form_is ∙ forms.0 in
      reaches_bind e code it.most _ (val core [] s) _ (Left (form_of core) around.values high)
      (stretch.Leads it around.values (form_of core) high (at + l) []) (λ f. Bool) (leads it inside next)
      (core_runs core (form_of core) refl t plain at
      (stand_front it.code it.function at a (on position (i.Give ∷ [])) stands) []
      [] (record { objects = []; slots = tt; same = refl; answered = answered }) s)
      (λ x s1 left.
      let other : Running = stretch.beside it left.now.objects left.now.answered in
      let gone : Value → List Value → Place = λ v below.
      leaves e code it.function.form other.frame v it.rest s1 in
      let dead : all_died (numbers (left.now.objects ++ it.frame.held)) s1
      ≡ all_died (numbers it.frame.held) (all_died x.made s1) =
      parts.died_both left.now.objects it.frame.held s1
      ∙ ap (λ made. all_died (numbers it.frame.held) (all_died made s1)) left.now.same in
      reaches_from e code it.most _ (gone x.value []) (Gives (Returned (Some x.value)) (all_died x.made s1)) (λ f. Bool)
      (leads it inside next)
      (comes_on e code _ _ _
      (one_step other (at + l) (pushed (form_of core) x.value []) s1 i.Give position give.0)
      (comes_same e code _ _ (ap (λ f. on_form f (pushed (form_of core) x.value []) gone) own
      ∙ left_on_form (form_of core) x.value forms.1 left.kind gone)))
      (reaches_gives e code it.most _ (Returned (Some x.value)) (all_died x.made s1) (λ f. Bool) (leads it inside next)
      left.now.answered
      (ap (λ s2. returned e code (left_by it.function.form it.frame.result x.value) x.value it.rest (call_left s2))
      dead)))

  -- farther on, where a statement falls through
  pub goes_on : (from : Place) (x : Evaluation Flow) (next then : ℕ) → Goes from x next
      → ((answered : Bool) (s : State) → Comes e code (here [] answered next [] s) (here [] answered then [] s))
      → Goes from x then
  goes_on from x next then goes on_next = reaches_on e code it.most from x (λ f. Bool) (leads it inside next)
      (λ f. Bool)
      (leads it inside then) goes (λ f s answered. by_flow f s answered)
    where
      by_flow : (f : Flow) (s : State) (answered : Bool) → (b : Bool) × Comes e code (leads it inside next f answered s)
          (leads it inside then f b s)
      by_flow Next s answered = (answered, on_next answered s)
      by_flow Broke s answered = (answered, comes_same e code (leads it inside next Broke answered s) _ refl)
      by_flow Continued s answered = (answered, comes_same e code (leads it inside next Continued answered s) _ refl)
      by_flow (Returned v) s answered =
          (answered, comes_same e code (leads it inside next (Returned v) answered s) _ refl)

  -- a test, behind which no more ticks are left, and then one of two statements
  pub if_runs : (test : Core) (position : Pos) (at to next : ℕ) (answered : Bool) (s : State)
      (first second : State → Evaluation Flow) → IsNumber (form_of test) → CoreTyped names test → CallsRunIn it table
      call test
      → StandsAt at (full_code program table position at around test)
      → StandsAt (at + full_size test) (on position (i.IfZero to ∷ []))
      → ((answered1 : Bool) (s1 : State) → s1.ticks ≤ s.ticks
      → Goes (here [] answered1 (at + full_size test + 1) [] s1) (first s1) next)
      → ((answered1 : Bool) (s1 : State) → Goes (here [] answered1 to [] s1) (second s1) next)
      → Goes (here [] answered at [] s)
      (bind (tested program call test it.frame.held s) (λ is_so. branch is_so first second)) next
  if_runs test position at to next answered s first second is t plain stands fork runs_first runs_second =
      let both = deaths test position at stands in
      let mid : ℕ = at + code_sizes.size_in test in
      let same : mid + objects_in test ≡ at + full_size test = omega arith in
      reaches_within e code it.most s.ticks (here [] answered at [] s) (tested program call test it.frame.held s) _
      (λ b. Bool × whole.Tested it b)
      (whole.Leads it (mid + objects_in test) (λ b last. Num last.0 ∷ [])) (λ f. Bool) (leads it inside next)
      (omega arith)
      (whole.test_runs it (val test) (form_of test) at mid around.values (objects_in test) position is
      inside.named.below (core_runs test (form_of test) refl t plain at both.0) both.1 answered s)
      (λ b s1 left fewer.
      subst (λ c. Goes (here [] left.0 (mid + objects_in test) (Num left.1.0 ∷ []) s1) (branch c first second s1) next)
      (sym left.1.1)
      (subst (λ k. Goes (here [] left.0 k (Num left.1.0 ∷ []) s1) (branch (not (is_zero left.1.0)) first second s1)
      next) (sym same)
      (reaches_from e code it.most _ _ (branch (not (is_zero left.1.0)) first second s1) (λ f. Bool)
      (leads it inside next)
      (one_step (stretch.beside it [] left.0) (at + full_size test) (Num left.1.0 ∷ []) s1 (i.IfZero to) position
      fork.0)
      (by_zero left.0 s1 (is_zero left.1.0) (runs_first left.0 s1 fewer) (runs_second left.0 s1)))))
    where
      by_zero : (answered1 : Bool) (s1 : State) (b : Bool)
          → Goes (here [] answered1 (at + full_size test + 1) [] s1) (first s1) next
          → Goes (here [] answered1 to [] s1) (second s1) next
          → Goes (cond b (here [] answered1 to [] s1) (here [] answered1 (at + full_size test + 1) [] s1))
          (branch (not b) first second s1) next
      by_zero answered1 s1 true runs_1 runs_2 = runs_2
      by_zero answered1 s1 false runs_1 runs_2 = runs_1

  -- bytes of an object of a block are const
  pub seal_runs : (slot byte len : ℕ) (position : Pos) (at : ℕ) (answered : Bool) (s : State)
      → LieIn names.objects slot byte len → StandsAt at (on position (i.Seal slot byte len ∷ []))
      → Goes (here [] answered at [] s) (Gives Next (sealed (place_in slot it.frame.held).object
      (record { at = byte; len = len; mark = Const }) s)) (at + 1)
  seal_runs slot byte len position at answered s lies stands =
      by_size (size_in slot names.objects) refl lies
    where
      by_size : (o : Option ℕ) → size_in slot names.objects ≡ o → IsSomeAnd o (λ size. byte + len ≤ size)
          → Goes (here [] answered at [] s) (Gives Next (sealed (place_in slot it.frame.held).object
          (record { at = byte; len = len; mark = Const }) s)) (at + 1)
      by_size None is within = absurd within
      by_size (Some size) is within =
          let h : (h : Held) × (held_in slot it.frame.held ≡ Some h) × (h.size ≡ size) =
          inside.named.named slot size is in
          let fits : nat_le (byte + len) h.0.size ≡ true = le-leb _ _ (omega (arith, h.2, within)) in
          reaches_from e code it.most _ _ _ (λ f. Bool) (leads it inside (at + 1))
          (one_step (stretch.beside it [] answered) at [] s (i.Seal slot byte len) position stands.0)
          (reaches_gives e code it.most _ Next _ (λ f. Bool) (leads it inside (at + 1)) answered
          (rw h.1 (rw fits refl)))

  -- what stands behind a statement
  pub after_runs : (f : Flow) (go : State → Evaluation Flow) (mid next : ℕ) (answered : Bool) (s : State)
      → ((answered1 : Bool) (s1 : State) → Goes (here [] answered1 mid [] s1) (go s1) next)
      → Goes (leads it inside mid f answered s) (after f go s) next
  after_runs Next go mid next answered s runs = runs answered s
  after_runs Broke go mid next answered s runs =
      reaches_gives e code it.most _ Broke s (λ f. Bool) (leads it inside next) answered refl
  after_runs Continued go mid next answered s runs =
      reaches_gives e code it.most _ Continued s (λ f. Bool) (leads it inside next) answered refl
  after_runs (Returned v) go mid next answered s runs =
      reaches_gives e code it.most _ (Returned v) s (λ f. Bool) (leads it inside next) answered refl

  pub from_there : (x : Evaluation Flow) (at at1 next : ℕ) (answered : Bool) (s : State) → at ≡ at1
      → Goes (here [] answered at [] s) x next → Goes (here [] answered at1 [] s) x next
  from_there x at at1 next answered s same goes = subst (λ k. Goes (here [] answered k [] s) x next) same goes

  pub to_there : (from : Place) (x : Evaluation Flow) (next next1 : ℕ) → next ≡ next1 → Goes from x next
      → Goes from x next1
  to_there from x next next1 same goes = subst (λ k. Goes from x k) same goes
