-- How many instructions a run of valid code has.
use Rattle.std.specs.Prelude.{ℕ, ◌+◌, ◌-◌, ◌*◌, ◌≤◌, length}
use Rattle.lib_defs.specs.Library.{Library}
use Rattle.lib_defs.specs.World.{Input}
use Rattle.run_defs.specs.declared.outcome.Outcome.{Outcome}
use Rattle.run_defs.specs.State.{State}
use Rattle.run_defs.specs.Starts.{Budgets}
use Rattle.vm_code.specs.Contents.{Contents}
use Rattle.vm_code.specs.Machine.{RunsTo}
use Rattle.vm_code.specs.Valid.{IsValid}

-- No tick is gained, and for each tick that is taken at most two passes of the code begin, with one more for the start.
pub record IsBounded (code : Contents) (budgets : Budgets) (s : State) (instructions : ℕ) : Type 0 where
  pub ticks : s.ticks ≤ budgets.ticks
  pub instructions_few : instructions ≤ (2 * (budgets.ticks - s.ticks) + 1) * length code.instrs

-- So is each run of valid code, over each library.
abbrev pub RunsAreBounded : Type 0
RunsAreBounded = (library : Library) (code : Contents) (budgets : Budgets) (input : Input) (outcome : Outcome)
    (s : State)
    (instructions : ℕ) → IsValid code → RunsTo library code budgets input outcome s instructions
    → IsBounded code budgets s instructions
