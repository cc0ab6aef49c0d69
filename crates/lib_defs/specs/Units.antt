-- Units of some width: bytes and wide characters (3.7).
use Rattle.std.specs.Prelude.{◌≡◌, ℕ, ◌+◌, ◌-◌, ◌*◌, ◌<◌, ◌≤◌, ◌≤ℤ◌, refl, nat_le, nat_lt, Bool, true, false, ℤ, pos}
use Rattle.std.specs.Prelude.{negsuc, if◌then◌else◌}
use Rattle.std.proofs.Common.{cond, ap, sym, subst}
use Rattle.std.proofs.lemmas.Bool.{leb-true}
use Rattle.object_store.specs.declared.pointer.Pointer.{Pointer}

-- the k-th unit from a pointer, which keeps its bounds
abbrev pub unit_place : ℕ → Pointer → ℕ → Pointer
unit_place w p k = record p { offset = p.offset + w * k }

-- RSIZE_MAX (K.3.4), and the size of the greatest object
abbrev pub rsize_max : ℕ
rsize_max = 16777216

-- the bytes of so many units, as a reach is handed them: a length above that of the greatest object is one byte longer
abbrev pub size : ℕ → ℕ → ℕ
size w n = if nat_le (w * n) rsize_max then w * n else rsize_max + 1

-- a byte is its number
abbrev pub byte_unit : ℕ → ℤ
byte_unit n = pos n

abbrev pub byte_number : ℤ → ℕ
byte_number (pos n) = n
byte_number (negsuc n) = 0

-- a wide character is an int, in two's complement
abbrev pub wide_unit : ℕ → ℤ
wide_unit n = if nat_lt n 2147483648 then pos n else negsuc (4294967295 - n)

abbrev pub wide_number : ℤ → ℕ
wide_number (pos n) = n
wide_number (negsuc n) = 4294967295 - n

-- the units of each width
pub record IsByte (unit : ℤ) : Type 0 where
  pub least : pos 0 ≤ℤ unit
  pub greatest : unit ≤ℤ pos 255

pub record IsWide (unit : ℤ) : Type 0 where
  pub least : negsuc 2147483647 ≤ℤ unit
  pub greatest : unit ≤ℤ pos 2147483647

-- what the laws of units want of both; a unit of these has one, or four, bytes
pub byte_narrow : (0 < 1) × (1 ≤ 4)
byte_narrow = (leb-true 1 1 refl, leb-true 1 4 refl)

pub wide_narrow : (0 < 4) × (4 ≤ 4)
wide_narrow = (leb-true 1 4 refl, leb-true 4 4 refl)

-- no other number than 0 is that of the null
abbrev from_pos : ℤ → ℕ
from_pos (pos n) = n
from_pos (negsuc n) = 0

abbrev OnlyPos : ℤ → Type 0
OnlyPos (pos n) = Unit {0}
OnlyPos (negsuc n) = ⊥

pub byte_null : (n : ℕ) → byte_unit n ≡ pos 0 → n ≡ 0
byte_null n e = ap from_pos e

wide_null_at : (b : Bool) (n m : ℕ) → cond b (pos n) (negsuc m) ≡ pos 0 → n ≡ 0
wide_null_at true n m e = ap from_pos e
wide_null_at false n m e = absurd (subst OnlyPos (sym e) tt)

pub wide_null : (n : ℕ) → wide_unit n ≡ pos 0 → n ≡ 0
wide_null n e = wide_null_at (nat_lt n 2147483648) n (4294967295 - n) e
