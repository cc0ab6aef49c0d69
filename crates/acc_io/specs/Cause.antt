-- Why a call failed: the count of faults of the object that was called.
use Rattle.std.specs.Prelude.{◌≡◌, ℕ, ◌^◌, ◌-◌, ◌<◌, ◌≤◌, ◌⊎◌, Result, MatchResult}

-- A fault was counted: the count rose. One that stands at the last value of 64 bits can't rise, and counts as risen.
abbrev pub FaultCounted : ℕ → ℕ → Type 0
FaultCounted before now = (before < now) ⊎ (2 ^ 64 - 1 ≤ now)

-- A call fails only where the count rose, and answers anything else only where it is as before. It never falls.
pub record HasCause {T E : Type 0} (before now : ℕ) (result : Result T E) : Type 0 where
  pub never_falls : before ≤ now
  pub cause : MatchResult result (λ _. now ≡ before) (λ _. FaultCounted before now)
