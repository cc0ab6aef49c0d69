-- The bytes that a source has left and that a sink has taken, where the object tells them.
use Rattle.std.specs.Prelude.{◌≡◌, ℕ, ◌≤◌, List, ◌++◌, length, take, Option}
use Rattle.std.specs.Option.{option_map}

-- What was left before is these bytes and what is left now.
abbrev pub Gives : Option (List ℕ) → Option (List ℕ) → List ℕ → Type 0
Gives before now bytes = before ≡ option_map (λ left. bytes ++ left) now

-- What is written now is what was written before and these bytes.
abbrev pub Gains : Option (List ℕ) → Option (List ℕ) → List ℕ → Type 0
Gains before now bytes = now ≡ option_map (λ written. written ++ bytes) before

-- What is written now is what was written before and a front of these bytes.
abbrev pub GainsPart : Option (List ℕ) → Option (List ℕ) → List ℕ → Type 0
GainsPart before now bytes = (n : ℕ) × (n ≤ length bytes) × Gains before now (take n bytes)
