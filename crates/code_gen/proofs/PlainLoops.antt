-- What loops do, where their parts do what these mean.
use Rattle.std.proofs.Common.{◌≡◌, ℕ, zero, suc, ◌+◌, ◌≤◌, Bool, List, [], ◌∷◌, ◌++◌, refl, subst, arith, length}
use Rattle.std.proofs.lemmas.List.{length-append}
use Rattle.critical_table.specs.declared.pos.Pos.{Pos}
use Rattle.c_core.specs.declared.form.Form.TheVariants as form
use Rattle.c_core.specs.Forms.{form_of}
use Rattle.c_core.specs.Named.{Names}
use Rattle.c_core.specs.Tree.{Core}
use Rattle.c_core.specs.TreeUnit.{Statement, Program}
use Rattle.c_core.specs.TreeUnit as unit
use Rattle.c_core.specs.Typed.{CoreTyped}
use Rattle.c_core.specs.Types.{IsNumber}
use Rattle.c_core.specs.TypedUnit.{Flow as FlowTyped}
use Rattle.c_core.specs.TypedUnit as typed
use Rattle.run_defs.specs.declared.outcome.Outcome.TheVariants.{OutOfTicks}
use Rattle.run_defs.specs.State.{State}
use Rattle.run_defs.specs.Evaluation.{Evaluation, Gives, Stops, bind, ticked_at, ticked}
use Rattle.run_defs.specs.Functions.{Environment}
use Rattle.vm_code.specs.declared.instr.Instr.{Instr}
use Rattle.vm_code.specs.declared.instr.Instr.TheVariants as i
use Rattle.vm_code.specs.Contents.{Contents}
use Rattle.vm_code.specs.Frames.{Place, after}
use Rattle.vm_code.specs.Slots.{Held}
use Rattle.code_gen.specs.CalledTypes.{Through}
use Rattle.code_gen.specs.ExpressionCode.{on}
use Rattle.code_gen.specs.Expressions.{Call}
use Rattle.code_gen.specs.Flows.{Flow, Next, Broke, Continued, Returned, branch, after_turn, turns, do_turns}
use Rattle.code_gen.specs.RunLaw.{LeavesAt, CallsRunIn, Comes, Reaches, StandAt, Running, stands_at}
use Rattle.code_gen.specs.StatementCode.{Around, in_loop, full_size, full_code, statement_size, action_size}
use Rattle.code_gen.specs.StatementCode.{statement_code, action_code}
use Rattle.code_gen.specs.StatementRunLaw.{OnTop, Inside, leads}
use Rattle.code_gen.specs.Statements.{statement, action_done, tested, done, no_step}
use Rattle.code_gen.proofs.Going.{one_step, stand_front, stand_back, reaches_from, reaches_gives, reaches_on}
use Rattle.code_gen.proofs.PlainActions as actions
use Rattle.code_gen.proofs.PlainPieces as pieces_of
use Rattle.code_gen.proofs.PlainStretches as stretch
use Rattle.code_gen.proofs.StatementLengths.{full_long, statement_long}
use Rattle.code_gen.proofs.TicksLeft.{reaches_within}

-- a jump that leaves no objects
abbrev pub leaves_none : (held : List Held) → OnTop [] held
leaves_none held = record { left = []; others = held; both = refl; slots_are = refl }

module _ (program : Program) (table : List Through) (call : Call) (it : Running) (names : Names) (flow : FlowTyped)
    (around : Around) (inside : Inside it names flow around) where
  abbrev e : Environment
  e = it.environment

  abbrev code : Contents
  code = it.code

  abbrev StandsAt : ℕ → List (Instr × Pos) → Type 0
  StandsAt at instrs = StandAt it.code it.function at instrs

  abbrev here : Bool → ℕ → State → Place
  here answered at s = stands_at it [] answered at [] s

  abbrev Goes : Place → Evaluation Flow → ℕ → Type 0
  Goes from x next = Reaches it.environment it.code it.most from x (λ f. Bool) (leads it inside next)

  -- the body of a loop
  abbrev pub inside_loop : (end again : ℕ) → Inside it names (typed.in_loop flow) (in_loop end again around)
  inside_loop end again = record {
    form_is = inside.form_is;
    above = inside.above;
    named = inside.named;
    sizes = inside.sizes;
    breaks = leaves_none it.frame.held;
    continues = leaves_none it.frame.held;
  }

  abbrev pub Turns : (end again from : ℕ) → (State → Evaluation Flow) → (next : ℕ) → Type 0
  Turns end again from body next = (answered : Bool) (s : State)
      → Reaches e code it.most (here answered from s) (body s) (λ f. Bool) (leads it (inside_loop end again) next)

  -- ---- a tick

  ticked_runs : (n most at next : ℕ) (answered : Bool) (s : State) (go : State → Evaluation Flow) → n ≤ suc most
      → Comes e code (here answered at s) (after (ticked_at n s) (λ u s1. here answered (at + 1) s1))
      → ((s1 : State) → s1.ticks ≤ most → Goes (here answered (at + 1) s1) (go s1) next)
      → Goes (here answered at s) (bind (ticked_at n s) (λ u s1. go s1)) next
  ticked_runs zero most at next answered s go few comes runs = record { arrives = λ le. comes }
  ticked_runs (suc n) most at next answered s go few comes runs =
      let s1 : State = record s { ticks = n } in
      reaches_from e code it.most (here answered at s) (here answered (at + 1) s1) (go s1) (λ f. Bool)
      (leads it inside next)
      comes (runs s1 (omega (arith, few)))

  -- each turn takes a tick
  tick_runs : (most at next : ℕ) (position : Pos) (answered : Bool) (s : State) (go : State → Evaluation Flow)
      → StandsAt at (on position (i.Tick ∷ [])) → s.ticks ≤ suc most
      → ((s1 : State) → s1.ticks ≤ most → Goes (here answered (at + 1) s1) (go s1) next)
      → Goes (here answered at s) (bind (ticked s) (λ u s1. go s1)) next
  tick_runs most at next position answered s go stands few runs =
      ticked_runs s.ticks most at next answered s go few
      (one_step (stretch.beside it [] answered) at [] s i.Tick position stands.0) runs

  unticked_runs : (n at next : ℕ) (answered : Bool) (s : State) → n ≤ 0
      → Comes e code (here answered at s) (after (ticked_at n s) (λ u s1. here answered (at + 1) s1))
      → Goes (here answered at s) (Stops OutOfTicks s) next
  unticked_runs zero at next answered s none comes = record { arrives = λ le. comes }
  unticked_runs (suc n) at next answered s none comes = absurd (let no : ⊥ = omega (arith, none) in no)

  -- no turn begins where none is left
  no_tick_runs : (at next : ℕ) (position : Pos) (answered : Bool) (s : State)
      → StandsAt at (on position (i.Tick ∷ [])) → s.ticks ≤ 0
      → Goes (here answered at s) (Stops OutOfTicks s) next
  no_tick_runs at next position answered s stands none = unticked_runs s.ticks at next answered s none
      (one_step (stretch.beside it [] answered) at [] s i.Tick position stands.0)

  -- ---- behind the body

  turn_left : (end again most : ℕ) (f : Flow) (answered : Bool) (s : State) (go : State → Evaluation Flow)
      → LeavesAt most (leads it (inside_loop end again) again f answered s)
      → ((answered1 : Bool) (s1 : State) → s1.ticks ≤ most → Goes (here answered1 again s1) (go s1) end)
      → Goes (leads it (inside_loop end again) again f answered s) (after_turn f go s) end
  turn_left end again most Next answered s go few runs = runs answered s few
  turn_left end again most Continued answered s go few runs = runs answered s few
  turn_left end again most Broke answered s go few runs =
      reaches_gives e code it.most _ Next s (λ f. Bool) (leads it inside end) answered refl
  turn_left end again most (Returned v) answered s go few runs =
      reaches_gives e code it.most _ (Returned v) s (λ f. Bool) (leads it inside end) answered refl

  turn_runs : (end again from most : ℕ) (body : State → Evaluation Flow) (go : State → Evaluation Flow)
      → Turns end again from body again
      → ((answered1 : Bool) (s1 : State) → s1.ticks ≤ most → Goes (here answered1 again s1) (go s1) end)
      → (answered : Bool) (s : State) → s.ticks ≤ most
      → Goes (here answered from s) (bind (body s) (λ f. after_turn f go)) end
  turn_runs end again from most body go turns_once runs answered s few =
      reaches_within e code it.most most (here answered from s) (body s) _ (λ f. Bool)
      (leads it (inside_loop end again) again) (λ f. Bool) (leads it inside end) few (turns_once answered s)
      (λ f s1 answered1 few1. turn_left end again most f answered1 s1 go few1 runs)

  -- ---- the turns

  module _ (test : Core) (position : Pos) (at again end : ℕ) (body : State → Evaluation Flow)
      (is : IsNumber (form_of test)) (t : CoreTyped names test) (plain : CallsRunIn it table call test) where
    -- of a loop with its test first
    pub turns_run : (step : State → Evaluation (Unit {0})) → StandsAt at (on position (i.Tick ∷ []))
        → StandsAt (at + 1) (full_code program table position (at + 1) around test)
        → StandsAt (at + 1 + full_size test) (on position (i.IfZero end ∷ []))
        → Turns end again (at + 1 + full_size test + 1) body again
        → ((answered : Bool) (s : State) → Reaches e code it.most (here answered again s) (step s) (λ u. Bool)
        (λ u answered1 s1. here answered1 at s1))
        → (most : ℕ) (answered : Bool) (s : State) → s.ticks ≤ most
        → Goes (here answered at s) (turns most (tested program call test it.frame.held) body step s) end
    turns_run step tick tests fork turns_once steps zero answered s few =
        no_tick_runs at end position answered s tick few
    turns_run step tick tests fork turns_once steps (suc most) answered s few =
        let next_turn : State → Evaluation Flow = λ s1. turns most (tested program call test it.frame.held) body step s1
        in
        let go : State → Evaluation Flow = λ s1. bind (step s1) (λ u s2. next_turn s2) in
        tick_runs most at end position answered s (λ s1. bind (tested program call test it.frame.held s1) (λ goes_on.
        branch goes_on (λ s2. bind (body s2) (λ f. after_turn f go)) (Gives Next))) tick few
        (λ s1 few1. actions.if_runs program table call it names flow around inside test position (at + 1) end end
        answered s1 (λ s2. bind (body s2) (λ f. after_turn f go)) (Gives Next) is t plain tests fork
        (λ answered2 s2 few2. turn_runs end again (at + 1 + full_size test + 1) most body go turns_once
        (λ answered3 s3 few3. reaches_within e code it.most most (here answered3 again s3) (step s3) _ (λ u. Bool)
        (λ u answered4 s4. here answered4 at s4) (λ f. Bool) (leads it inside end) few3 (steps answered3 s3)
        (λ u s4 answered4 few4. turns_run step tick tests fork turns_once steps most answered4 s4 few4))
        answered2 s2 (omega (arith, few1, few2)))
        (λ answered2 s2. reaches_gives e code it.most _ Next s2 (λ f. Bool) (leads it inside end) answered2 refl))

    -- of a loop with its body first
    pub do_turns_run : StandsAt at (on position (i.Tick ∷ []))
        → Turns end again (at + 1) body again
        → StandsAt again (full_code program table position again around test)
        → StandsAt (again + full_size test) (on position (i.IfZero end ∷ i.Jump at ∷ []))
        → (most : ℕ) (answered : Bool) (s : State) → s.ticks ≤ most
        → Goes (here answered at s) (do_turns most body (tested program call test it.frame.held) s) end
    do_turns_run tick turns_once tests forks zero answered s few = no_tick_runs at end position answered s tick few
    do_turns_run tick turns_once tests forks (suc most) answered s few =
        let next_turn : State → Evaluation Flow = λ s1. do_turns most body (tested program call test it.frame.held) s1
        in
        let go : State → Evaluation Flow = λ s1. bind (tested program call test it.frame.held s1) (λ goes_on.
        branch goes_on next_turn (Gives Next)) in
        tick_runs most at end position answered s (λ s1. bind (body s1) (λ f. after_turn f go)) tick few
        (λ s1 few1. turn_runs end again (at + 1) most body go turns_once
        (λ answered2 s2 few2. actions.if_runs program table call it names flow around inside test position again end end
        answered2 s2 next_turn (Gives Next) is t plain tests (forks.0, tt)
        (λ answered3 s3 few3. reaches_from e code it.most _ (here answered3 at s3) (next_turn s3) (λ f. Bool)
        (leads it inside end)
        (one_step (stretch.beside it [] answered3) (again + full_size test + 1) [] s3 (i.Jump at) position forks.1.0)
        (do_turns_run tick turns_once tests forks most answered3 s3 (omega (arith, few2, few3))))
        (λ answered3 s3. reaches_gives e code it.most _ Next s3 (λ f. Bool) (leads it inside end) answered3 refl))
        answered s1 few1)

  -- the step of a `for`, and the jump to its next turn
  step_runs : (step : Core) (position : Pos) (at again : ℕ) (answered : Bool) (s : State)
      → form_of step ≡ form.Nothing → CoreTyped names step → CallsRunIn it table call step
      → StandsAt again (full_code program table position again around step)
      → StandsAt (again + full_size step) (on position (i.Jump at ∷ []))
      → Reaches e code it.most (here answered again s) (done program call step it.frame.held s) (λ u. Bool)
      (λ u answered1 s1. here answered1 at s1)
  step_runs step position at again answered s nothing t plain stands jump =
      reaches_on e code it.most _ (done program call step it.frame.held s) (λ u. Bool)
      (λ u answered1 s1. here answered1 (again + full_size step) s1) (λ u. Bool)
      (λ u answered1 s1. here answered1 at s1)
      (actions.effect_runs program table call it names flow around inside step position again answered s nothing t plain
      stands)
      (λ u s1 answered1. (
        answered1,
        one_step (stretch.beside it [] answered1) (again + full_size step) [] s1 (i.Jump at) position jump.0,
      ))

  -- ---- the three loops

  abbrev body_done : Statement → State → Evaluation Flow
  body_done body s = statement program call it.frame.result body it.frame.held s

  abbrev Action : Pos → unit.Action → (at text : ℕ) → Type 0
  Action position action at text = StandsAt at (action_code program table position at text around action)

  abbrev Does : Pos → unit.Action → (at : ℕ) (answered : Bool) (s : State) → Type 0
  Does position action at answered s = Goes (here answered at s)
      (action_done program call it.frame.result position action it.frame.held s)
      (at + action_size (length around.left) (length around.left_again) action)

  -- wherever the code of the body stands, it does what the body means
  abbrev BodyRuns : (text : ℕ) → Statement → Type 0
  BodyRuns text body = (end again at : ℕ)
      → StandsAt at (statement_code program table at text (in_loop end again around) body)
      → Turns end again at (body_done body) (at + statement_size 0 0 body)

  pub while_runs : (test : Core) (body : Statement) (position : Pos) (at text : ℕ) → IsNumber (form_of test)
      → CoreTyped names test → CallsRunIn it table call test → Action position (unit.While test body) at text
      → BodyRuns text body → (answered : Bool) (s : State) → Does position (unit.While test body) at answered s
  while_runs test body position at text is t plain stands runs answered s =
      let l : ℕ = full_size test in
      let m : ℕ = statement_size 0 0 body in
      let end : ℕ = at + (l + (m + 3)) in
      let from : ℕ = at + (l + 2) in
      let a : List (Instr × Pos) = full_code program table position (at + 1) around test in
      let z : List (Instr × Pos) = on position (i.IfZero end ∷ []) in
      let b : List (Instr × Pos) = statement_code program table from text (in_loop end at around) body in
      let j : List (Instr × Pos) = on position (i.Jump at ∷ []) in
      let pieces = pieces_of.in_pieces it (at + 1) l 1 m a z b j (full_long program table position (at + 1) around test)
      refl (statement_long program table from text (in_loop end at around) body) stands.1 in
      let start : at + 1 + (l + 1) ≡ from = omega arith in
      let start_again : from ≡ at + 1 + l + 1 = omega arith in
      let behind : at + 1 + (l + (1 + m)) ≡ from + m = omega arith in
      let third : StandsAt from b = subst (λ k. StandsAt k b) start pieces.third in
      let jump : StandsAt (from + m) j = subst (λ k. StandsAt k j) behind pieces.last in
      let once : Turns end at from (body_done body) at = λ answered1 s1.
      actions.goes_on program table call it names (typed.in_loop flow) (in_loop end at around) (inside_loop end at)
      (here answered1 from s1) (body_done body s1) (from + m) at (runs end at from third answered1 s1)
      (λ answered2 s2. one_step (stretch.beside it [] answered2) (from + m) [] s2 (i.Jump at) position jump.0) in
      turns_run test position at at end (body_done body) is t plain no_step (stands.0, tt) pieces.first pieces.second
      (subst (λ k. Turns end at k (body_done body) at) start_again once)
      (λ answered1 s1. reaches_gives e code it.most _ tt s1 (λ u. Bool) (λ u answered2 s2. here answered2 at s2)
      answered1 refl)
      s.ticks answered s (omega arith)

  pub do_runs : (body : Statement) (test : Core) (position : Pos) (at text : ℕ) → IsNumber (form_of test)
      → CoreTyped names test → CallsRunIn it table call test → Action position (unit.Do body test) at text
      → BodyRuns text body → (answered : Bool) (s : State) → Does position (unit.Do body test) at answered s
  do_runs body test position at text is t plain stands runs answered s =
      let l : ℕ = full_size test in
      let m : ℕ = statement_size 0 0 body in
      let again : ℕ = at + (m + 1) in
      let end : ℕ = again + (l + 2) in
      let inner : Around = in_loop end again around in
      let b : List (Instr × Pos) = statement_code program table (at + 1) text inner body in
      let a : List (Instr × Pos) = full_code program table position again around test in
      let z : List (Instr × Pos) = on position (i.IfZero end ∷ i.Jump at ∷ []) in
      let both : StandsAt (at + 1) (b ++ a) = stand_front code it.function (at + 1) (b ++ a) z stands.1 in
      let long_b : length b ≡ m = statement_long program table (at + 1) text inner body in
      let long_a : length a ≡ l = full_long program table position again around test in
      let test_at : at + 1 + m ≡ again = omega arith in
      let fork_at : at + 1 + (m + l) ≡ again + l = omega arith in
      let tests : StandsAt again a =
      subst (λ k. StandsAt k a) test_at (stand_back code it.function (at + 1) m b a long_b both) in
      let forks : StandsAt (again + l) z = subst (λ k. StandsAt k z) fork_at
      (stand_back code it.function (at + 1) (m + l) (b ++ a) z (omega (arith, length-append b a, long_a, long_b))
      stands.1) in
      let once : Turns end again (at + 1) (body_done body) again =
      subst (λ k. Turns end again (at + 1) (body_done body) k) test_at
      (runs end again (at + 1) (stand_front code it.function (at + 1) b a both)) in
      let last : end ≡ at + (m + (l + 3)) = omega arith in
      actions.to_there program table call it names flow around inside _ _ end _ last
      (do_turns_run test position at again end (body_done body) is t plain (stands.0, tt) once tests forks s.ticks
      answered s (omega arith))

  pub for_runs : (test step : Core) (body : Statement) (position : Pos) (at text : ℕ) → IsNumber (form_of test)
      → CoreTyped names test → CallsRunIn it table call test → form_of step ≡ form.Nothing → CoreTyped names step →
      CallsRunIn it table call step
      → Action position (unit.For test step body) at text
      → BodyRuns text body → (answered : Bool) (s : State) → Does position (unit.For test step body) at answered s
  for_runs test step body position at text is t plain nothing t_step plain_step stands runs answered s =
      let l : ℕ = full_size test in
      let m : ℕ = statement_size 0 0 body in
      let n : ℕ = full_size step in
      let again : ℕ = at + (l + (m + 2)) in
      let end : ℕ = again + (n + 1) in
      let from : ℕ = at + (l + 2) in
      let inner : Around = in_loop end again around in
      let a : List (Instr × Pos) = full_code program table position (at + 1) around test in
      let z : List (Instr × Pos) = on position (i.IfZero end ∷ []) in
      let b : List (Instr × Pos) = statement_code program table from text inner body in
      let c : List (Instr × Pos) = full_code program table position again around step in
      let j : List (Instr × Pos) = on position (i.Jump at ∷ []) in
      let long_a : length a ≡ l = full_long program table position (at + 1) around test in
      let long_b : length b ≡ m = statement_long program table from text inner body in
      let long_c : length c ≡ n = full_long program table position again around step in
      let long_z : length z ≡ 1 = refl in
      let pieces = pieces_of.in_pieces it (at + 1) l 1 m a z b c long_a refl long_b
      (stand_front code it.function (at + 1) (a ++ z ++ b ++ c) j stands.1) in
      let jump_at : at + 1 + (l + (1 + m) + n) ≡ again + n = omega arith in
      let jump : StandsAt (again + n) j = subst (λ k. StandsAt k j) jump_at
      (stand_back code it.function (at + 1) (l + (1 + m) + n) (a ++ z ++ b ++ c) j (omega (
        arith,
        length-append (a ++ z ++ b) c,
        length-append (a ++ z) b,
        length-append a z,
        long_a,
        long_b,
        long_c,
        long_z,
      )) stands.1) in
      let start : at + 1 + (l + 1) ≡ from = omega arith in
      let start_again : from ≡ at + 1 + l + 1 = omega arith in
      let behind : from + m ≡ again = omega arith in
      let step_at : at + 1 + (l + (1 + m)) ≡ again = omega arith in
      let third : StandsAt from b = subst (λ k. StandsAt k b) start pieces.third in
      let fourth : StandsAt again c = subst (λ k. StandsAt k c) step_at pieces.last in
      let once : Turns end again from (body_done body) again =
      subst (λ k. Turns end again from (body_done body) k) behind (runs end again from third) in
      let last : end ≡ at + (l + (m + (n + 3))) = omega arith in
      actions.to_there program table call it names flow around inside _ _ end _ last
      (turns_run test position at again end (body_done body) is t plain (done program call step it.frame.held)
      (stands.0, tt) pieces.first pieces.second
      (subst (λ k. Turns end again k (body_done body) again) start_again once)
      (λ answered1 s1. step_runs step position at again answered1 s1 nothing t_step plain_step fourth jump)
      s.ticks answered s (omega arith))
