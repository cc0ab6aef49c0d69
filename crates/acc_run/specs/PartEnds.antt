-- What ends a part of a unit, so that the part before it is the longest that can stand there.
use Rattle.std.specs.Prelude.{◌≡◌, ℕ, ◌≤◌, false, List, [], ◌∷◌, ◌++◌}
use Rattle.std.specs.Char.{is_ascii_digit}
use Rattle.acc_run.specs.Program.{putchar_call, plus_term, greatest_constant}

-- no digit stands at the front
abbrev pub EndsNumeral : List ℕ → Type 0
EndsNumeral [] = Unit {0}
EndsNumeral (byte ∷ bytes) = is_ascii_digit byte ≡ false

-- no further call of putchar stands at the front
abbrev pub EndsCalls : List ℕ → Type 0
EndsCalls bytes = (constant : ℕ) (after : List ℕ) → constant ≤ greatest_constant
    → bytes ≡ putchar_call constant ++ after → ⊥

-- no further summand stands at the front
abbrev pub EndsSum : List ℕ → Type 0
EndsSum bytes = (constant : ℕ) (after : List ℕ) → constant ≤ greatest_constant → EndsNumeral after
    → bytes ≡ plus_term constant ++ after → ⊥
