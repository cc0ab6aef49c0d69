-- What was in scope stays there below what is declared later.
use Rattle.std.proofs.Common.{◌≡◌, ℕ, ◌≤◌, ◌++◌, length, take, ◌∙◌, ap, length-append, arith}
use Rattle.std.proofs.lemmas.List.{take-append-le}
use Rattle.c_syntax.specs.Scopes.{Scope}

pub longer_still : (n : ℕ) (now after more : Scope) → n ≤ length now → after ≡ now ++ more → n ≤ length after
longer_still n now after more low then = let h = ap length then ∙ length-append now more in omega (arith, h)

pub kept_still : (n : ℕ) (start now after more : Scope) → n ≤ length now → take n now ≡ start → after ≡ now ++ more
    → take n after ≡ start
kept_still n start now after more low same then = ap (take n) then ∙ take-append-le n now more low ∙ same
