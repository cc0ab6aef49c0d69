-- The value of digits grows with each of them.
use Rattle.std.proofs.Common.{◌≡◌, ℕ, ◌+◌, ◌*◌, ◌^◌, ◌<◌, ◌≤◌, List, [], ◌∷◌, length, get_or, drop, refl, ap, arith}
use Rattle.std.proofs.Common.{drop-cons, suc}
use Rattle.std.proofs.Math.Nat.{mul-le-mul_left}
use Rattle.std.specs.Prelude.{Some, None}
use Rattle.std.specs.Char.{digit_value}
use Rattle.std.specs.Str.Parse.{digits_value, digits_value_after}
use Rattle.c_lexer.specs.ReadNumber.{value_of}
use borrow.Author.Tests.{le-ltb, lt-ltb}

-- more digits make no smaller value
pub value_above : (radix n : ℕ) (ds : List ℕ) → 1 ≤ radix → n ≤ digits_value_after radix n ds
value_above radix n [] h = omega arith
value_above radix n (d ∷ ds) h = omega (arith, mul-le-mul_left n h, value_above radix (n * radix + digit_value d) ds h)

-- the value has no room
pub too_large : (radix : ℕ) (xs : List ℕ) → 2 ^ 64 ≤ digits_value radix xs → value_of radix xs ≡ None
too_large radix xs h = rw (le-ltb (digits_value radix xs) (2 ^ 64) h) refl

-- the value has room
pub small_enough : (radix : ℕ) (xs : List ℕ) → digits_value radix xs < 2 ^ 64
    → value_of radix xs ≡ Some (digits_value radix xs)
small_enough radix xs h = rw (lt-ltb (digits_value radix xs) (2 ^ 64) h) refl

-- one digit too many
pub step_too_large : (radix value i : ℕ) (xs : List ℕ) → 1 ≤ radix → i < length xs
    → digits_value_after radix value (drop i xs) ≡ digits_value radix xs
    → 2 ^ 64 ≤ value * radix + digit_value (get_or xs i 0) → value_of radix xs ≡ None
step_too_large radix value i xs h lt same large =
    let first = ap (digits_value_after radix value) (drop-cons xs i 0 lt) in
    let more = value_above radix (value * radix + digit_value (get_or xs i 0)) (drop (suc i) xs) h in
    too_large radix xs (omega (arith, first, more, same))
