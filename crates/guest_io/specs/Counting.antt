-- Why a write failed.
use Rattle.std.specs.Prelude.{◌≡◌, ℕ, ◌≤◌, ◌⊎◌, Bool, true, false}
use Rattle.acc_io.specs.Cause.{FaultCounted}

-- the counts of faults of both sinks
pub record Faults : Type 0 where
  pub output : ℕ
  pub err : ℕ

-- One of the counts rose where the answer is a fault, and else both are as before. None falls.
pub record SinkCounts (is_fault : Bool) (before now : Faults) : Type 0 where
  pub output_never_falls : before.output ≤ now.output
  pub err_never_falls : before.err ≤ now.err
  pub cause : is_fault ≡ true → FaultCounted before.output now.output ⊎ FaultCounted before.err now.err
  pub output_kept : is_fault ≡ false → now.output ≡ before.output
  pub err_kept : is_fault ≡ false → now.err ≡ before.err
