-- What stands at a place of a list that is made longer, or in which an element is changed.
use Rattle.std.proofs.Common.{◌≡◌, ◌⊎◌, inl, inr, ℕ, zero, suc, ◌+◌, ◌<◌, List, [], ◌∷◌, ◌++◌, length}
use Rattle.std.proofs.Common.{slice_get, slice_set, Some, refl, ap, arith}

-- no place of the empty list has an element
pub none_there : {A : Type 0} (n : ℕ) (x : A) → slice_get [] n ≡ Some x → ⊥
none_there n x is = cc

-- what stands in the longer list stood in the first part, or is in the other
pub from_both : {A : Type 0} (xs ys : List A) (n : ℕ) (x : A) → slice_get (xs ++ ys) n ≡ Some x
    → (slice_get xs n ≡ Some x) ⊎ ((k : ℕ) × (n ≡ length xs + k) × (slice_get ys k ≡ Some x))
from_both [] ys n x is = inr (n, omega arith, is)
from_both (y ∷ xs) ys zero x is = inl is
from_both (y ∷ xs) ys (suc n) x is = elim (from_both xs ys n x is) [
  | inl before ↦ inl before
  | inr behind ↦ inr (behind.0, omega (arith, behind.1), behind.2)
]

pub stands_on : {A : Type 0} (xs ys : List A) (n : ℕ) (x : A) → slice_get xs n ≡ Some x
    → slice_get (xs ++ ys) n ≡ Some x
stands_on [] ys n x is = absurd (none_there n x is)
stands_on (y ∷ xs) ys zero x is = is
stands_on (y ∷ xs) ys (suc n) x is = stands_on xs ys n x is

pub stands_behind : {A : Type 0} (xs : List A) (x : A) → slice_get (xs ++ x ∷ []) (length xs) ≡ Some x
stands_behind [] x = refl
stands_behind (y ∷ xs) x = stands_behind xs x

pub is_within : {A : Type 0} (xs : List A) (n : ℕ) (x : A) → slice_get xs n ≡ Some x → n < length xs
is_within [] n x is = absurd (none_there n x is)
is_within (y ∷ xs) zero x is = omega arith
is_within (y ∷ xs) (suc n) x is = omega (arith, is_within xs n x is)

pub set_other : {A : Type 0} (xs : List A) (j i : ℕ) (v : A)
    → (i ≡ j) ⊎ (slice_get (slice_set xs j v) i ≡ slice_get xs i)
set_other [] j i v = inr refl
set_other (x ∷ xs) zero zero v = inl refl
set_other (x ∷ xs) zero (suc i) v = inr refl
set_other (x ∷ xs) (suc j) zero v = inr refl
set_other (x ∷ xs) (suc j) (suc i) v = elim (set_other xs j i v) [
  | inl same ↦ inl (ap suc same)
  | inr other ↦ inr other
]

pub set_same : {A : Type 0} (xs : List A) (j : ℕ) (v : A) → j < length xs → slice_get (slice_set xs j v) j ≡ Some v
set_same [] j v lt = let none : ⊥ = omega (arith, lt) in absurd none
set_same (x ∷ xs) zero v lt = refl
set_same (x ∷ xs) (suc j) v lt = set_same xs j v (omega (arith, lt))
