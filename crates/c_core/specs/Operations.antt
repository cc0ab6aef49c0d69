-- What the operators make of numbers (6.5.3.3, 6.5.5 to 6.5.12): outcomes in a kind, on exact integers and on bits.
use Rattle.std.specs.Prelude.{ℕ, ◌^◌, Bool, true, false, not, ◌&&◌, ℤ, pos, neg_ℤ, int_le, int_lt, unsigned_abs}
use Rattle.std.specs.Prelude.{Result, Ok, if◌then◌else◌}
use Rattle.std.specs.Int.{int_rem_euclid}
use Rattle.std.specs.Int.Bits.{bit_and, bit_or, bit_xor}
use Rattle.acc_num.specs.declared.kind.IntKind.{IntKind}
use Rattle.acc_num.specs.declared.fault.NumFault.{NumFault}
use Rattle.acc_num.specs.Kinds.{width_of}
use Rattle.acc_num.specs.Operations.{Add, Sub, Mul, Div, Rem, Shl, Shr, outcome_of, converted_to}
use Rattle.c_core.specs.declared.operator.Operator.{Operator}
use Rattle.c_core.specs.declared.operator.Operator.TheVariants as o
use Rattle.c_core.specs.declared.operator.Comparison.{Comparison}
use Rattle.c_core.specs.declared.operator.Comparison.TheVariants as c

-- the bits of a number of a kind, as an unsigned number: two's complement (6.2.6.2p2)
abbrev pub bits_in : IntKind → ℤ → ℕ
bits_in kind integer = unsigned_abs (int_rem_euclid integer (pos (2 ^ width_of kind)))

-- the number of a kind that has these bits
abbrev pub of_bits : IntKind → ℕ → ℤ
of_bits kind bits = converted_to kind (pos bits)

-- The outcome of an operator on two numbers of a kind; a shift's count may have any kind. The bitwise operators work on
-- each bit and always have a value (6.5.10p4, 6.5.11p4, 6.5.12p4).
unfoldable pub operator_outcome : Operator → IntKind → ℤ → ℤ → Result ℤ NumFault
operator_outcome o.Add kind a b = outcome_of kind Add a b
operator_outcome o.Subtract kind a b = outcome_of kind Sub a b
operator_outcome o.Multiply kind a b = outcome_of kind Mul a b
operator_outcome o.Divide kind a b = outcome_of kind Div a b
operator_outcome o.Remainder kind a b = outcome_of kind Rem a b
operator_outcome o.ShiftLeft kind a b = outcome_of kind Shl a b
operator_outcome o.ShiftRight kind a b = outcome_of kind Shr a b
operator_outcome o.BitAnd kind a b = Ok (of_bits kind (bit_and (bits_in kind a) (bits_in kind b)))
operator_outcome o.BitOr kind a b = Ok (of_bits kind (bit_or (bits_in kind a) (bits_in kind b)))
operator_outcome o.BitXor kind a b = Ok (of_bits kind (bit_xor (bits_in kind a) (bits_in kind b)))

-- `-a` is 0 less a (6.5.3.3p3)
unfoldable pub negation : IntKind → ℤ → Result ℤ NumFault
negation kind a = outcome_of kind Sub (pos 0) a

-- `~a` has each bit that a has not (6.5.3.3p4); -1 has all bits
unfoldable pub complement : IntKind → ℤ → ℤ
complement kind a = of_bits kind (bit_xor (bits_in kind a) (bits_in kind (neg_ℤ (pos 1))))

-- whether two integers compare so (6.5.8p6, 6.5.9p3)
abbrev pub compares : Comparison → ℤ → ℤ → Bool
compares c.Less a b = int_lt a b
compares c.LessEqual a b = int_le a b
compares c.Equal a b = int_le a b && int_le b a
compares c.NotEqual a b = not (int_le a b && int_le b a)
compares c.GreaterEqual a b = int_le b a
compares c.Greater a b = int_lt b a

-- an `int` that tells a truth value
abbrev pub truth : Bool → ℤ
truth b = if b then pos 1 else pos 0

-- the count of a shift may have another kind
abbrev pub is_shift : Operator → Bool
is_shift o.ShiftLeft = true
is_shift o.ShiftRight = true
is_shift other = false
