-- The kinds of arguments, by which library functions read them (6.5.2.2p6).
use Rattle.c_types.specs.declared.basic.Basic.{Basic}
use Rattle.c_types.specs.declared.basic.Basic.TheVariants as basic
use Rattle.c_types.specs.CType.{CType, Plain, BasicType, Pointer}
use Rattle.lib_defs.specs.declared.value.ArgKind.{ArgKind}
use Rattle.lib_defs.specs.declared.value.ArgKind.TheVariants as kind

-- a pointer to a character type or to `void` is of one kind, and any other of another
abbrev pub pointer_kind : CType → ArgKind
pointer_kind (Plain (BasicType basic.Void) quals) = kind.CharPointer
pointer_kind (Plain (BasicType basic.Char) quals) = kind.CharPointer
pointer_kind (Plain (BasicType basic.SChar) quals) = kind.CharPointer
pointer_kind (Plain (BasicType basic.UChar) quals) = kind.CharPointer
pointer_kind other = kind.OtherPointer

-- the kind of an integer type; those below `int` are promoted before they are passed (6.3.1.1p2)
abbrev pub integer_kind : Basic → ArgKind
integer_kind basic.UInt = kind.UInt
integer_kind basic.Long = kind.Long
integer_kind basic.ULong = kind.ULong
integer_kind basic.LongLong = kind.LongLong
integer_kind basic.ULongLong = kind.ULongLong
integer_kind other = kind.Int

-- the kind of an argument of a type; no library function takes a structure, and an enumerated type is an `int`
abbrev pub argument_kind : CType → ArgKind
argument_kind (Plain (BasicType basic) quals) = integer_kind basic
argument_kind (Plain (Pointer to) quals) = pointer_kind to
argument_kind other = kind.Int
