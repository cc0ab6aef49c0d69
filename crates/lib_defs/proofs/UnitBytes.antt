-- What was written is read: a unit is the number of its bytes.
use Rattle.std.proofs.Common.{◌≡◌, ℕ, ◌+◌, ◌-◌, ◌*◌, ◌/◌, ◌%◌, ◌<◌, ◌≤◌, List, [], ◌∷◌, length, map, nat_lt}
use Rattle.std.proofs.Common.{true, false, Some, refl, ap, ◌∙◌, arith, rules}
use Rattle.std.specs.Prelude.{ℤ, pos, negsuc, slice_set}
use Rattle.std.specs.Option.{option_map}
use Rattle.std.proofs.lemmas.Int.{ints}
use Rattle.object_store.specs.Load.{known_number, number_bytes}
use Rattle.lib_defs.specs.Units.{byte_unit, byte_number, wide_unit, wide_number, IsByte, IsWide}

four_bytes : (m : ℕ) → m < 4294967296
    → m % 256 + 256 * (m / 256 % 256 + 256 * (m / 256 / 256 % 256 + 256 * (m / 256 / 256 / 256 % 256 + 256 * 0))) ≡ m
four_bytes m lt = omega arith

pub byte_back : (unit : ℤ) (b : ℕ) → b ≡ byte_number unit → IsByte unit
    → option_map byte_unit (known_number (map Some (b ∷ []))) ≡ Some unit
byte_back (pos n) b e is = rw e (ap (λ (k : ℕ). Some (pos k)) (same n))
  where
    same : (n : ℕ) → n + 256 * 0 ≡ n
    same n = omega arith
byte_back (negsuc n) b e is = absurd (omega (arith, ints, is.least))

pub wide_back : (unit : ℤ) (m : ℕ) → m ≡ wide_number unit → IsWide unit
    → option_map wide_unit (known_number (map Some (number_bytes 4 m))) ≡ Some unit
wide_back (pos n) m e is =
    let le : n ≤ 2147483647 = omega (arith, ints, is.greatest) in
    let small : nat_lt n 2147483648 ≡ true = search rules in
    let back : wide_unit n ≡ pos n = rw small refl in
    rw e (ap (λ (k : ℕ). Some (wide_unit k)) (four_bytes n (omega (arith, le))) ∙ ap Some back)
wide_back (negsuc n) m e is =
    let le : n ≤ 2147483647 = omega (arith, ints, is.least) in
    let large : nat_lt (4294967295 - n) 2147483648 ≡ false = search rules in
    let same : 4294967295 - (4294967295 - n) ≡ n = omega (arith, le) in
    let back : wide_unit (4294967295 - n) ≡ negsuc n = rw large (ap negsuc same) in
    rw e (ap (λ (k : ℕ). Some (wide_unit k)) (four_bytes (4294967295 - n) (omega (arith, le))) ∙ ap Some back)

-- the cells of a unit, once each is written
pub set_one : (xs : List ℕ) (b : ℕ) → length xs ≡ 1 → slice_set xs 0 b ≡ b ∷ []
set_one [] b e = cc
set_one (x ∷ []) b e = refl
set_one (x ∷ y ∷ xs) b e = absurd (omega (arith, e))

pub set_four : (xs : List ℕ) (a b c d : ℕ) → length xs ≡ 4
    → slice_set (slice_set (slice_set (slice_set xs 0 a) 1 b) 2 c) 3 d ≡ a ∷ b ∷ c ∷ d ∷ []
set_four (x ∷ y ∷ z ∷ t ∷ []) a b c d e = refl
set_four [] a b c d e = absurd (omega (arith, e))
set_four (x ∷ []) a b c d e = absurd (omega (arith, e))
set_four (x ∷ y ∷ []) a b c d e = absurd (omega (arith, e))
set_four (x ∷ y ∷ z ∷ []) a b c d e = absurd (omega (arith, e))
set_four (x ∷ y ∷ z ∷ t ∷ u ∷ xs) a b c d e = absurd (omega (arith, e))
