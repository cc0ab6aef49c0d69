-- A judge, who reads the lines in order and tells the first that does not fit.
use Rattle.std.specs.Prelude.{◌≡◌, ℕ, suc, ◌<◌, ◌⊎◌, List, [], ◌∷◌, take, length, Option, Some, None}
use Rattle.run_defs.specs.declared.event.Event.{Event}
use Rattle.run_defs.specs.Replay.{Due, NoLine, Replay, step, replay, at_start, IsLawful}

pub data Verdict : Type 0 where
  Lawful : Verdict
  Unlawful : (line : ℕ) → Verdict

-- behind the last line no line is due
abbrev pub at_end : Due → ℕ → Verdict
at_end NoLine n = Lawful
at_end _ n = Unlawful n

abbrev pub judged_from : Option Replay → ℕ → (Replay → Verdict) → Verdict
judged_from None n next = Unlawful n
judged_from (Some r) n next = next r

-- n lines were read, and have come to r
abbrev pub judged : Replay → ℕ → List Event → Verdict
judged r n [] = at_end r.due n
judged r n (e ∷ journal) = judged_from (step r e) n (λ (r1 : Replay). judged r1 (suc n) journal)

abbrev pub verdict : List Event → Verdict
verdict journal = judged at_start 0 journal

-- The line with this number, from 0, is the first that does not fit: those before it fit, and those up to it do not.
-- Or all lines fit, and the end is missing behind them.
pub record IsFirstUnlawful (r : Replay) (journal : List Event) (k : ℕ) : Type 0 where
  pub before : Replay
  pub fits : replay r (take k journal) ≡ Some before
  pub fails : ((k < length journal) × (replay r (take (suc k) journal) ≡ None))
      ⊎ ((k ≡ length journal) × (before.due ≡ NoLine → ⊥))

-- The judge is right, both ways.
pub record JudgeIsRight (journal : List Event) : Type 0 where
  pub sound : verdict journal ≡ Lawful → IsLawful journal
  pub complete : IsLawful journal → verdict journal ≡ Lawful
  pub first : (k : ℕ) → verdict journal ≡ Unlawful k → IsFirstUnlawful at_start journal k
