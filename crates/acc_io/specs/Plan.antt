-- Which calls on an object in memory fail.
use Rattle.std.specs.Prelude.{ℕ, ◌+◌, ◌-◌, ◌^◌, min, List, Contains}

-- failing: the numbers, from 1, of the calls that fail and move nothing
-- calls, faults: how many calls and faults there were; each stays at the last value of 64 bits
pub record Plan : Type 0 where
  pub failing : List ℕ
  pub calls : ℕ
  pub faults : ℕ

-- before the first call
abbrev pub first_plan : List ℕ → Plan
first_plan failing = record { failing = failing; calls = 0; faults = 0 }

-- one more, but a count stays at the last value of 64 bits
abbrev pub one_more : ℕ → ℕ
one_more n = min (n + 1) (2 ^ 64 - 1)

-- after one more call
abbrev pub after_call : Plan → Plan
after_call plan = record plan { calls = one_more plan.calls }

-- after one more fault
abbrev pub after_fault : Plan → Plan
after_fault plan = record plan { faults = one_more plan.faults }

-- The next call is one of those that fail. Where the count of calls stands at its last value, the next number is past
-- all that a list of 64-bit numbers can have.
abbrev pub FailsNext : Plan → Type 0
FailsNext plan = Contains plan.failing (plan.calls + 1)
