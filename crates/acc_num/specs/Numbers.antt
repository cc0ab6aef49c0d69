-- The ranges of the integer kinds, and what a kind makes of an exact integer.
use Rattle.std.specs.Prelude.{◌-◌, ◌^◌, Bool, ◌&&◌, ℤ, pos, neg_ℤ, int_le, ◌≤ℤ◌, Result, Ok, Err, if◌then◌else◌}
use Rattle.std.specs.Int.{int_rem_euclid}
use Rattle.acc_num.specs.declared.kind.IntKind.{IntKind}
use Rattle.acc_num.specs.declared.fault.NumFault.{NumFault}
use Rattle.acc_num.specs.declared.fault.NumFault.TheVariants.{Overflow}
use Rattle.acc_num.specs.Kinds.{width_of, is_signed}

-- the least value: two's complement, with no trap representation (6.2.6.2p2)
abbrev pub least_of : IntKind → ℤ
least_of kind = if is_signed kind then neg_ℤ (pos (2 ^ (width_of kind - 1))) else pos 0

-- the greatest value (6.2.6.2p1 and p2)
abbrev pub greatest_of : IntKind → ℤ
greatest_of kind = if is_signed kind then pos (2 ^ (width_of kind - 1) - 1) else pos (2 ^ width_of kind - 1)

-- The integer is a value of the kind (6.2.5).
pub record InRange (kind : IntKind) (integer : ℤ) : Type 0 where
  pub least : least_of kind ≤ℤ integer
  pub greatest : integer ≤ℤ greatest_of kind

-- the same as a test
abbrev pub in_range : IntKind → ℤ → Bool
in_range kind integer = int_le (least_of kind) integer && int_le integer (greatest_of kind)

-- What a kind makes of an exact integer: itself where it is in range; else, of an unsigned kind, the integer
-- modulo 2^N (6.2.5p9), and of a signed kind Overflow (6.5p5).
unfoldable pub value_of : IntKind → ℤ → Result ℤ NumFault
value_of kind integer =
    if in_range kind integer then Ok integer
    else (if is_signed kind then Err Overflow else Ok (int_rem_euclid integer (pos (2 ^ width_of kind))))
