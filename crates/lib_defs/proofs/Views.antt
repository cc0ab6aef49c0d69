-- Units in a list of bytes.
use Rattle.std.proofs.Common.{◌≡◌, ℕ, zero, suc, ◌+◌, ◌*◌, List, [], ◌∷◌, take, drop, slice_get, Option, Some}
use Rattle.std.proofs.Common.{refl, sym, ap, ◌∙◌, arith}
use Rattle.std.proofs.lemmas.Option.{same_Some}

abbrev Bytes : Type 0
Bytes = List (Option ℕ)

at_front : (xs : Bytes) (k : ℕ) (b : Option ℕ) → slice_get xs k ≡ Some b → drop k xs ≡ b ∷ drop (suc k) xs
at_front [] k b e = cc
at_front (x ∷ xs) zero b e = ap (λ y. y ∷ xs) (same_Some _ _ e)
at_front (x ∷ xs) (suc k) b e = at_front xs k b e

pub one_byte : (xs : Bytes) (k : ℕ) (b : Option ℕ) → slice_get xs k ≡ Some b → take 1 (drop (1 * k) xs) ≡ b ∷ []
one_byte xs k b e = let z : 1 * k ≡ k = omega arith in rw (z, at_front xs k b e) refl

pub four_bytes : (xs : Bytes) (k : ℕ) (a b c d : Option ℕ) → slice_get xs k ≡ Some a → slice_get xs (k + 1) ≡ Some b
    → slice_get xs (k + 2) ≡ Some c → slice_get xs (k + 3) ≡ Some d → take 4 (drop k xs) ≡ a ∷ b ∷ c ∷ d ∷ []
four_bytes xs k a b c d ea eb ec ed =
    let e1 : k + 1 ≡ suc k = omega arith in
    let e2 : k + 2 ≡ suc (suc k) = omega arith in
    let e3 : k + 3 ≡ suc (suc (suc k)) = omega arith in
    rw (
      at_front xs k a ea,
      at_front xs (suc k) b (ap (λ j. slice_get xs j) (sym e1) ∙ eb),
      at_front xs (suc (suc k)) c (ap (λ j. slice_get xs j) (sym e2) ∙ ec),
      at_front xs (suc (suc (suc k))) d (ap (λ j. slice_get xs j) (sym e3) ∙ ed),
    ) refl
