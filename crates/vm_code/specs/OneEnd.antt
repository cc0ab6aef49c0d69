-- A run has one end.
use Rattle.std.specs.Prelude.{◌≡◌, ℕ}
use Rattle.lib_defs.specs.Library.{Library}
use Rattle.lib_defs.specs.World.{Input}
use Rattle.run_defs.specs.declared.outcome.Outcome.{Outcome}
use Rattle.run_defs.specs.State.{State}
use Rattle.run_defs.specs.Starts.{Budgets}
use Rattle.vm_code.specs.Contents.{Contents}
use Rattle.vm_code.specs.Machine.{RunsTo}

-- an end is another one
pub record IsSameEnd (outcome : Outcome) (s : State) (n : ℕ) (other : Outcome) (t : State) (k : ℕ) : Type 0 where
  pub outcomes : outcome ≡ other
  pub states : s ≡ t
  pub instructions : n ≡ k

abbrev pub RunsHaveOneEnd : Type 0
RunsHaveOneEnd = (library : Library) (code : Contents) (budgets : Budgets) (input : Input)
    (outcome : Outcome) (s : State) (n : ℕ) (other : Outcome) (t : State) (k : ℕ)
    → RunsTo library code budgets input outcome s n → RunsTo library code budgets input other t k
    → IsSameEnd outcome s n other t k
