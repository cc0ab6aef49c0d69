-- The operations on integers: the exact value of each, when it is refused, and its outcome in a kind.
use Rattle.std.specs.Prelude.{◌^◌, Bool, not, ◌&&◌, ℤ, pos, ◌+ℤ◌, ◌-ℤ◌, ◌*ℤ◌, int_le, int_lt, int_div, int_rem}
use Rattle.std.specs.Prelude.{unsigned_abs, Option, Some, None, Result, Err, if◌then◌else◌}
use Rattle.std.specs.Option.{option_map}
use Rattle.std.specs.Result.{result_err}
use Rattle.std.specs.Int.{int_rem_euclid, int_div_euclid, is_negative}
use Rattle.acc_num.specs.declared.kind.IntKind.{IntKind}
use Rattle.acc_num.specs.declared.kind.IntKind.TheVariants.{Bool as Truth}
use Rattle.acc_num.specs.declared.fault.NumFault.{NumFault}
use Rattle.acc_num.specs.declared.fault.NumFault.TheVariants.{ZeroDivisor, Shift}
use Rattle.acc_num.specs.Kinds.{width_of}
use Rattle.acc_num.specs.Numbers.{greatest_of, value_of}

-- The binary operators (6.5.5 to 6.5.7).
pub data Operation : Type 0 where
  Add : Operation
  Sub : Operation
  Mul : Operation
  Div : Operation
  Rem : Operation
  Shl : Operation
  Shr : Operation

-- 2 to the power of a count, which is not computed where the count is large
unfoldable pub power_of_two : ℤ → ℤ
power_of_two by = pos (2 ^ unsigned_abs by)

-- The exact value, on all integers. A quotient is truncated towards zero (6.5.5p6); a right shift rounds down
-- (6.5.7p5).
abbrev pub exact_of : Operation → ℤ → ℤ → ℤ
exact_of Add a b = a +ℤ b
exact_of Sub a b = a -ℤ b
exact_of Mul a b = a *ℤ b
exact_of Div a b = int_div a b
exact_of Rem a b = int_rem a b
exact_of Shl a by = a *ℤ power_of_two by
exact_of Shr a by = int_div_euclid a (power_of_two by)

-- the integer is zero
abbrev pub is_zero : ℤ → Bool
is_zero integer = int_le integer (pos 0) && int_le (pos 0) integer

-- a shift may have this count: it is not negative, and below the width (6.5.7p3)
abbrev pub is_count : IntKind → ℤ → Bool
is_count kind by = int_le (pos 0) by && int_lt by (pos (width_of kind))

-- When a divisor or a shift is refused, and why: a divisor that is zero; a remainder, where its quotient has no
-- value (6.5.5p5 and p6); a count that is none; a left shift of a negative number, or one whose result has no
-- value (6.5.7p4).
abbrev pub refusal_of : IntKind → Operation → ℤ → ℤ → Option NumFault
refusal_of kind Div a b = if is_zero b then Some ZeroDivisor else None
refusal_of kind Rem a b = if is_zero b then Some ZeroDivisor else result_err (value_of kind (exact_of Div a b))
refusal_of kind Shl a by =
    if is_count kind by && not (is_negative a)
    then option_map (λ _. Shift) (result_err (value_of kind (exact_of Shl a by)))
    else Some Shift
refusal_of kind Shr a by = if is_count kind by then None else Some Shift
refusal_of kind Add a b = None
refusal_of kind Sub a b = None
refusal_of kind Mul a b = None

-- a refusal, or else the outcome
abbrev pub unless_refused : Option NumFault → Result ℤ NumFault → Result ℤ NumFault
unless_refused None outcome = outcome
unless_refused (Some fault) outcome = Err fault

-- The outcome of an operation in a kind: its refusal, or else what the kind makes of the exact value.
abbrev pub outcome_of : IntKind → Operation → ℤ → ℤ → Result ℤ NumFault
outcome_of kind operation a b = unless_refused (refusal_of kind operation a b) (value_of kind (exact_of operation a b))

-- the value that an unsigned representation stands for in the kind (6.2.6.2p2)
abbrev pub represented_by : IntKind → ℤ → ℤ
represented_by kind bits = if int_le bits (greatest_of kind) then bits else bits -ℤ pos (2 ^ width_of kind)

-- A conversion: to `_Bool` 0 for 0 and 1 for all else (6.3.1.2); to another kind modulo 2^N (6.3.1.3).
unfoldable pub converted_to : IntKind → ℤ → ℤ
converted_to Truth integer = if is_zero integer then pos 0 else pos 1
converted_to kind integer = represented_by kind (int_rem_euclid integer (pos (2 ^ width_of kind)))
