-- The ranges of the kinds, in numbers that `omega` reads, and products of values.
use Rattle.std.proofs.Common.{◌≡◌, ℕ, ◌-◌, ◌^◌, ◌<◌, ◌≤◌, arith, pos, ◌*ℤ◌, ℤ, true, unsigned_abs, FitsSigned}
use Rattle.std.specs.Int.{w128}
use Rattle.std.proofs.Math.Nat.{pow-le-pow_right}
use Rattle.std.proofs.lemmas.Int.{ints, fits_signed_mul}
use Rattle.acc_num.specs.declared.kind.IntKind.{IntKind}
use Rattle.acc_num.specs.declared.kind.IntKind.TheVariants.{Bool as Truth, I8, U8, I16, U16, I32, U32, I64, U64}
use Rattle.acc_num.specs.Kinds.{is_signed}
use Rattle.acc_num.specs.Numbers.{InRange}

-- no value of a kind needs more than 64 bits
pub unsigned_abs-narrow : (kind : IntKind) (z : ℤ) → InRange kind z → unsigned_abs z < 2 ^ 64
unsigned_abs-narrow Truth z h = omega (arith, ints)
unsigned_abs-narrow I8 z h = omega (arith, ints)
unsigned_abs-narrow U8 z h = omega (arith, ints)
unsigned_abs-narrow I16 z h = omega (arith, ints)
unsigned_abs-narrow U16 z h = omega (arith, ints)
unsigned_abs-narrow I32 z h = omega (arith, ints)
unsigned_abs-narrow U32 z h = omega (arith, ints)
unsigned_abs-narrow I64 z h = omega (arith, ints)
unsigned_abs-narrow U64 z h = omega (arith, ints)

-- a value of a signed kind needs no more than 63 bits beside its sign
pub unsigned_abs-signed : (kind : IntKind) (z : ℤ) → is_signed kind ≡ true → InRange kind z → unsigned_abs z ≤ 2 ^ 63
unsigned_abs-signed Truth z s h = cc
unsigned_abs-signed I8 z s h = omega (arith, ints)
unsigned_abs-signed U8 z s h = cc
unsigned_abs-signed I16 z s h = omega (arith, ints)
unsigned_abs-signed U16 z s h = cc
unsigned_abs-signed I32 z s h = omega (arith, ints)
unsigned_abs-signed U32 z s h = cc
unsigned_abs-signed I64 z s h = omega (arith, ints)
unsigned_abs-signed U64 z s h = cc

-- a product of two values of a signed kind fits 128 bits
pub product_fits : (kind : IntKind) (a b : ℤ) → is_signed kind ≡ true → InRange kind a → InRange kind b
    → FitsSigned w128 (a *ℤ b)
product_fits kind a b s left right =
    fits_signed_mul w128 a b (2 ^ 63) (2 ^ 63) (unsigned_abs-signed kind a s left)
    (unsigned_abs-signed kind b s right) (omega arith)

-- a value that is shifted left by less than 64 bits fits 128 bits
pub shift_fits : (kind : IntKind) (a : ℤ) (by : ℕ) → by < 64 → InRange kind a → FitsSigned w128 (a *ℤ pos (2 ^ by))
shift_fits kind a by count left =
    let half : 2 ^ by ≤ 2 ^ 63 = pow-le-pow_right (omega arith) {j = 63} (omega arith) in
    let magnitude : unsigned_abs a < 2 ^ 64 = unsigned_abs-narrow kind a left in
    fits_signed_mul w128 a (pos (2 ^ by)) (2 ^ 64 - 1) (2 ^ 63) (omega arith) half (omega arith)
