-- The integer kinds: how wide each is, how many bytes it takes, and whether it has a sign.
use Rattle.std.specs.Prelude.{ℕ, Bool, true, false}
use Rattle.acc_num.specs.declared.kind.IntKind.{IntKind}
use Rattle.acc_num.specs.declared.kind.IntKind.TheVariants.{Bool as Truth, I8, U8, I16, U16, I32, U32, I64, U64}

-- the width in bits (6.2.6.2p6)
abbrev pub width_of : IntKind → ℕ
width_of Truth = 1
width_of I8 = 8
width_of U8 = 8
width_of I16 = 16
width_of U16 = 16
width_of I32 = 32
width_of U32 = 32
width_of I64 = 64
width_of U64 = 64

-- how many bytes a value of the kind takes (6.2.6.1p4): `_Bool` takes one
abbrev pub bytes_of : IntKind → ℕ
bytes_of Truth = 1
bytes_of I8 = 1
bytes_of U8 = 1
bytes_of I16 = 2
bytes_of U16 = 2
bytes_of I32 = 4
bytes_of U32 = 4
bytes_of I64 = 8
bytes_of U64 = 8

-- a signed kind has negative values (6.2.5p4); `_Bool` is unsigned (6.2.5p6)
abbrev pub is_signed : IntKind → Bool
is_signed Truth = false
is_signed I8 = true
is_signed U8 = false
is_signed I16 = true
is_signed U16 = false
is_signed I32 = true
is_signed U32 = false
is_signed I64 = true
is_signed U64 = false
