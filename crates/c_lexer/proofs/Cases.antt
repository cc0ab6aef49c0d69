-- Which way a test went, and what it tells apart.
use Rattle.std.proofs.Common.{◌≡◌, ◌⊎◌, inl, inr, ℕ, Bool, true, false, ◌==◌, cond, refl, sym, ◌∙◌, ap}
use Rattle.std.proofs.lemmas.Bool.{false≢true, ne_eqb}
use Rattle.std.specs.Prelude.{Option, Some, None, is_some, not}

-- which way a choice went, from its value
pub cond_cases : {A : Type 0} (b : Bool) (x y z : A) → cond b x y ≡ z → ((b ≡ true) × (x ≡ z)) ⊎ ((b ≡ false) × (y ≡ z))
cond_cases true x y z h = inl (refl, h)
cond_cases false x y z h = inr (refl, h)

-- a byte of a class is none that is outside of it
pub told_apart : (class : ℕ → Bool) (a b : ℕ) → class a ≡ true → class b ≡ false → a ≡ b → ⊥
told_apart class a b inside outside same = false≢true (sym outside ∙ (ap class (sym same) ∙ inside))

-- what is not false is true
pub not_is_false : (b : Bool) → not b ≡ false → b ≡ true
not_is_false true h = refl
not_is_false false h = sym h

-- where there is not something there is nothing
pub nothing_some : {A : Type 0} (o : Option A) → is_some o ≡ false → o ≡ None
nothing_some None h = refl
nothing_some (Some a) h = absurd (false≢true (sym h))

-- a byte of a class is no byte outside of it, as a test has it
pub other_byte : (class : ℕ → Bool) (value byte : ℕ) → class value ≡ false → class byte ≡ true → (byte == value) ≡ false
other_byte class value byte outside inside = ne_eqb byte value (told_apart class byte value inside outside)
