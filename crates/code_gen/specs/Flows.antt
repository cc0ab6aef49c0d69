-- Where a program goes on behind a statement, and the turns of a loop (6.8).
use Rattle.std.specs.Prelude.{ℕ, zero, suc, Bool, true, false, ℤ, int_le, ◌&&◌, List, [], ◌∷◌, Option, Some}
use Rattle.std.specs.Prelude.{if◌then◌else◌}
use Rattle.lib_defs.specs.declared.value.Value.{Value}
use Rattle.run_defs.specs.State.{State}
use Rattle.run_defs.specs.declared.outcome.Outcome.TheVariants.{OutOfTicks}
use Rattle.run_defs.specs.Evaluation.{Evaluation, Gives, Stops, bind, ticked}
use Rattle.c_core.specs.declared.statement.Case.{Case}

-- At the next statement; behind the innermost loop or switch; at the end of the body of the innermost loop; or in the
-- caller, with a value or without one.
pub data Flow : Type 0 where
  Next : Flow
  Broke : Flow
  Continued : Flow
  Returned : (value : Option Value) → Flow

-- what stands behind a statement runs where it goes on there
abbrev pub after : Flow → (State → Evaluation Flow) → State → Evaluation Flow
after Next go s = go s
after Broke go s = Gives Broke s
after Continued go s = Gives Continued s
after (Returned value) go s = Gives (Returned value) s

-- one of two statements, by a truth value
abbrev pub branch : Bool → (when_true when_false : State → Evaluation Flow) → State → Evaluation Flow
branch true when_true when_false s = when_true s
branch false when_true when_false s = when_false s

-- ---- loops (6.8.5)

-- behind a turn of the body
abbrev pub after_turn : Flow → (State → Evaluation Flow) → State → Evaluation Flow
after_turn Next go s = go s
after_turn Continued go s = go s
after_turn Broke go s = Gives Next s
after_turn (Returned value) go s = Gives (Returned value) s

-- The turns of a loop: a tick, the test, the body, the step. Each turn takes a tick, so there are no more of them than
-- ticks are left at first.
abbrev pub turns : ℕ → (test : State → Evaluation Bool) → (body : State → Evaluation Flow)
    → (step : State → Evaluation (Unit {0})) → State → Evaluation Flow
turns zero test body step s = Stops OutOfTicks s
turns (suc left) test body step s =
    bind (ticked s) (λ u s1.
    bind (test s1) (λ goes_on s2.
    branch goes_on
    (λ s3. bind (body s3) (λ flow s4.
    after_turn flow (λ s5. bind (step s5) (λ v s6. turns left test body step s6)) s4))
    (Gives Next) s2))

abbrev pub loop : (test : State → Evaluation Bool) → (body : State → Evaluation Flow)
    → (step : State → Evaluation (Unit {0})) → State → Evaluation Flow
loop test body step s = turns s.ticks test body step s

-- The turns of a `do` (6.8.5.2): a tick, the body, the test.
abbrev pub do_turns : ℕ → (body : State → Evaluation Flow) → (test : State → Evaluation Bool) → State → Evaluation Flow
do_turns zero body test s = Stops OutOfTicks s
do_turns (suc left) body test s =
    bind (ticked s) (λ u s1.
    bind (body s1) (λ flow s2.
    after_turn flow (λ s3. bind (test s3) (λ goes_on s4. branch goes_on (do_turns left body test) (Gives Next) s4)) s2))

abbrev pub do_loop : (body : State → Evaluation Flow) → (test : State → Evaluation Bool) → State → Evaluation Flow
do_loop body test s = do_turns s.ticks body test s

-- ---- switch (6.8.4.2)

-- Before which item the block is entered: at the label with the value, or else at the default.
abbrev pub label_at : ℤ → List Case → Option ℕ → Option ℕ
label_at value [] default = default
label_at value (label ∷ rest) default =
    if int_le value label.value && int_le label.value value then Some label.at else label_at value rest default

-- a `break` leaves the switch
abbrev pub behind_switch : Flow → Flow
behind_switch Broke = Next
behind_switch flow = flow
