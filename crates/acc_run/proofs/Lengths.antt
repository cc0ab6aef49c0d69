-- How long the calls, the summands and their lists are.
use Rattle.std.proofs.Common.{◌≡◌, ℕ, ◌+◌, ◌<◌, ◌≤◌, List, [], ◌∷◌, ◌++◌, length, get_or, take, ◌∙◌, ap, arith}
use Rattle.std.proofs.Common.{length-append, append-nil}
use Rattle.std.proofs.lemmas.Grind.{flat_map-append}
use Rattle.std.proofs.lemmas.List.{take_more}
use Rattle.std.proofs.lemmas.List.Folds.{length-flat_map-take}
use Rattle.std.specs.List.{flat_map}
use Rattle.std.specs.Prelude.{codes}
use Rattle.std.specs.Fmt.{decimal}
use Rattle.acc_run.specs.Program.{putchar_call, plus_term}

-- a call is ten bytes and the digits
pub length_call : (n : ℕ) → length (putchar_call n) ≡ 10 + length (decimal n)
length_call n =
    omega (arith, length-append (codes "putchar(") (decimal n ++ codes ");"), length-append (decimal n) (codes ");"))

-- a summand is one byte and the digits
pub length_term : (n : ℕ) → length (plus_term n) ≡ 1 + length (decimal n)
length_term n = omega (arith, length-append (codes "+") (decimal n))

-- one part more
pub flat_map_more : (f : ℕ → List ℕ) (xs : List ℕ) (i : ℕ) → i < length xs
    → flat_map f (take (i + 1) xs) ≡ flat_map f (take i xs) ++ f (get_or xs i 0)
flat_map_more f xs i lt = ap (flat_map f) (take_more xs i 0 lt)
    ∙ (flat_map-append f (take i xs) (get_or xs i 0 ∷ [])
    ∙ ap (λ more. flat_map f (take i xs) ++ more) (append-nil (f (get_or xs i 0))))

-- so much longer is one part more
pub length_more : (f : ℕ → List ℕ) (xs : List ℕ) (i : ℕ) → i < length xs
    → length (flat_map f (take (i + 1) xs)) ≡ length (flat_map f (take i xs)) + length (f (get_or xs i 0))
length_more f xs i lt = ap length (flat_map_more f xs i lt) ∙ length-append (flat_map f (take i xs)) (f (get_or xs i 0))

-- a front and the next part are no longer than the whole
pub length_front : (f : ℕ → List ℕ) (xs : List ℕ) (i : ℕ) → i < length xs
    → length (flat_map f (take i xs)) + length (f (get_or xs i 0)) ≤ length (flat_map f xs)
length_front f xs i lt = length-flat_map-take f xs i 0 lt
