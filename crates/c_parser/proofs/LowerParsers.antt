-- The parsers of a height by those of the height below.
use Rattle.std.proofs.Common.{◌≡◌, ℕ, zero, suc, ◌-◌, refl, subst, arith}
use Rattle.c_reading.specs.ReadSpecifier.{higher, parsers}

pub parsers_at : (h : ℕ) → (h ≡ 0 → ⊥) → parsers h ≡ higher (h - 1) (parsers (h - 1))
parsers_at zero some = absurd (some refl)
parsers_at (suc k) some = let below : k ≡ suc k - 1 = omega arith in
    subst (λ j. parsers (suc k) ≡ higher j (parsers j)) below refl
