-- Integer types: their kinds, the integer promotions and the usual arithmetic conversions (6.2.5, 6.3.1).
use Rattle.std.specs.Prelude.{ℕ, ◌+◌, Bool, true, false, ◌==◌, nat_le, Option, Some, None, is_some, if◌then◌else◌}
use Rattle.acc_num.specs.declared.kind.IntKind.{IntKind}
use Rattle.acc_num.specs.declared.kind.IntKind.TheVariants as k
use Rattle.acc_num.specs.Kinds.{width_of}
use Rattle.c_types.specs.declared.basic.Basic.{Basic}
use Rattle.c_types.specs.declared.basic.Basic.TheVariants as b
use Rattle.c_types.specs.CType.{CType, Plain, BasicType, Enumerated, Pointer, no_quals, number_of}

abbrev pub basic_type : Basic → CType
basic_type basic = Plain (BasicType basic) no_quals

abbrev pub pointer_to : CType → CType
pointer_to type = Plain (Pointer type) no_quals

-- the integer type that a basic type is; `void` is none (6.2.5p17, p19)
abbrev pub integer_basic : Basic → Option Basic
integer_basic b.Void = None
integer_basic other = Some other

-- an integer type by its basic type, whatever its qualifiers are; an enumerated type counts as `int` (6.7.2.2p4)
abbrev pub integer_in : CType → Option Basic
integer_in (Plain (BasicType basic) quals) = integer_basic basic
integer_in (Plain (Enumerated number) quals) = Some b.Int
integer_in other = None

abbrev pub is_integer : CType → Bool
is_integer type = is_some (integer_in type)

-- the kind of an integer type
abbrev pub int_kind : Basic → IntKind
int_kind b.Void = k.I32
int_kind b.Bool = k.Bool
int_kind b.Char = k.I8
int_kind b.SChar = k.I8
int_kind b.UChar = k.U8
int_kind b.Short = k.I16
int_kind b.UShort = k.U16
int_kind b.Int = k.I32
int_kind b.UInt = k.U32
int_kind b.Long = k.I64
int_kind b.ULong = k.U64
int_kind b.LongLong = k.I64
int_kind b.ULongLong = k.U64

-- The integer promotions: a type of lower rank than `int` has all its values in `int` (6.3.1.1p2).
abbrev pub promoted : Basic → Basic
promoted b.UInt = b.UInt
promoted b.Long = b.Long
promoted b.ULong = b.ULong
promoted b.LongLong = b.LongLong
promoted b.ULongLong = b.ULongLong
promoted other = b.Int

-- the conversion rank of a promoted type: `int` below `long` below `long long` (6.3.1.1p1)
abbrev pub rank : Basic → ℕ
rank b.Long = 2
rank b.ULong = 2
rank b.LongLong = 3
rank b.ULongLong = 3
rank other = 1

abbrev pub is_unsigned : Basic → Bool
is_unsigned b.UInt = true
is_unsigned b.ULong = true
is_unsigned b.ULongLong = true
is_unsigned other = false

-- the unsigned type that corresponds to a signed one (6.2.5p6), of promoted types
abbrev pub unsigned_of : Basic → Basic
unsigned_of b.Long = b.ULong
unsigned_of b.LongLong = b.ULongLong
unsigned_of other = b.UInt

-- the second type, which is signed, has all values of the first, which is unsigned
abbrev pub has_values_of : Basic → Basic → Bool
has_values_of unsigned signed = nat_le (width_of (int_kind unsigned) + 1) (width_of (int_kind signed))

-- An unsigned and a signed type. The unsigned one where its rank is not lower; else the signed one where that has all
-- its values; else the unsigned type of the signed one's rank (6.3.1.8p1).
abbrev pub common_mixed : Basic → Basic → Basic
common_mixed unsigned signed =
    if nat_le (rank signed) (rank unsigned) then unsigned
    else (if has_values_of unsigned signed then signed else unsigned_of signed)

-- two types with a sign, or two without one: that of the greater rank (6.3.1.8p1)
abbrev pub common_alike : Basic → Basic → Basic
common_alike left right = if nat_le (rank right) (rank left) then left else right

abbrev pub common_promoted : Basic → Basic → Basic
common_promoted left right =
    if is_unsigned left then (if is_unsigned right then common_alike left right else common_mixed left right)
    else (if is_unsigned right then common_mixed right left else common_alike left right)

-- the common type of two integer types: the usual arithmetic conversions (6.3.1.8p1)
abbrev pub common : Basic → Basic → Basic
common left right = common_promoted (promoted left) (promoted right)

-- the type is this basic type, whatever its qualifiers are
abbrev pub is_basic : CType → Basic → Bool
is_basic (Plain (BasicType basic) quals) to = number_of basic == number_of to
is_basic other to = false
