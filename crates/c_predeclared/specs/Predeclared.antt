-- The names that stand in the scope around the file scope: types, constants and functions of the library (7.1.2). A
-- name
-- is a line.
use Rattle.std.specs.Prelude.{◌≡◌, ℕ, ℤ, pos, negsuc, false, List, [], ◌∷◌, ◌++◌, map, Some, codes}
use Rattle.c_types.specs.declared.basic.Basic.{Basic}
use Rattle.c_types.specs.declared.basic.Basic.TheVariants as b
use Rattle.c_types.specs.CType.{CType, Plain, BasicType, no_quals, void}
use Rattle.c_core.specs.declared.named.FunctionName.TheVariants.{Library}
use Rattle.c_scopes.specs.declared.binding.DeclaredFunction.{DeclaredFunction}
use Rattle.c_scopes.specs.declared.binding.Linkage.TheVariants.{External}
use Rattle.c_scopes.specs.Named.{Named, FunctionOf, TypedefOf, ConstantOf, NullPointerOf}
use Rattle.c_scopes.specs.Scopes.{Names, no_names, bound}
use Rattle.lib_defs.specs.declared.row_name.RowName.{RowName}
use Rattle.lib_defs.specs.declared.row_name.RowName.TheVariants as n
use Rattle.lib_defs.specs.Names.{name_text}
use Rattle.lib_defs.specs.RowNumbers.{name_at}
use Rattle.library_types.specs.LibraryTypes.{row_type, handler_type, to}

abbrev pub NamedList : Type 0
NamedList = List (List ℕ × Named)

-- ---- types

abbrev pub basic_type : Basic → CType
basic_type basic = Plain (BasicType basic) no_quals

abbrev pub type : List ℕ → Basic → List ℕ × Named
type name basic = (name, TypedefOf (basic_type basic))

-- types by what they are for (7.18p2, 7.19p2, K.3.2p2, K.3.3p2), and types of so many bits (7.20.1.1)
abbrev pub type_names : NamedList
type_names =
    type (codes "size_t") b.ULong
    ∷ type (codes "rsize_t") b.ULong
    ∷ type (codes "ptrdiff_t") b.Long
    ∷ type (codes "wchar_t") b.Int
    ∷ type (codes "errno_t") b.Int
    ∷ type (codes "bool") b.Bool
    ∷ type (codes "int8_t") b.SChar
    ∷ type (codes "int16_t") b.Short
    ∷ type (codes "int32_t") b.Int
    ∷ type (codes "int64_t") b.Long
    ∷ type (codes "uint8_t") b.UChar
    ∷ type (codes "uint16_t") b.UShort
    ∷ type (codes "uint32_t") b.UInt
    ∷ type (codes "uint64_t") b.ULong
    ∷ []

-- `void (*)(const char *, void *, errno_t)` (K.3.6p2)
abbrev pub handler_name : List ℕ × Named
handler_name = (codes "constraint_handler_t", TypedefOf (to handler_type))

-- ---- constants

abbrev pub constant : List ℕ → Basic → ℤ → List ℕ × Named
constant name basic value = (name, ConstantOf (basic_type basic) value)

-- `((void *)0)` (7.19p3)
abbrev pub null_name : List ℕ × Named
null_name = (codes "NULL", NullPointerOf (to void))

-- 7.18p3, 7.21.1p3, 7.22p3, K.3.4p2, 5.2.4.2.1p1
abbrev pub constant_names : NamedList
constant_names =
    constant (codes "EOF") b.Int (negsuc 0)
    ∷ constant (codes "true") b.Int (pos 1)
    ∷ constant (codes "false") b.Int (pos 0)
    ∷ constant (codes "EXIT_SUCCESS") b.Int (pos 0)
    ∷ constant (codes "EXIT_FAILURE") b.Int (pos 1)
    ∷ constant (codes "RSIZE_MAX") b.ULong (pos 16777216)
    ∷ constant (codes "MB_CUR_MAX") b.ULong (pos 1)
    ∷ constant (codes "CHAR_BIT") b.Int (pos 8)
    ∷ []

-- The least and the greatest value of a type, in the type that it is promoted to (5.2.4.2.1p1, 7.20.3p2). `negsuc n` is
-- minus n, minus 1.
abbrev pub limit_names : NamedList
limit_names =
    constant (codes "SCHAR_MIN") b.Int (negsuc 127)
    ∷ constant (codes "SCHAR_MAX") b.Int (pos 127)
    ∷ constant (codes "UCHAR_MAX") b.Int (pos 255)
    ∷ constant (codes "CHAR_MIN") b.Int (negsuc 127)
    ∷ constant (codes "CHAR_MAX") b.Int (pos 127)
    ∷ constant (codes "SHRT_MIN") b.Int (negsuc 32767)
    ∷ constant (codes "SHRT_MAX") b.Int (pos 32767)
    ∷ constant (codes "USHRT_MAX") b.Int (pos 65535)
    ∷ constant (codes "INT_MIN") b.Int (negsuc 2147483647)
    ∷ constant (codes "INT_MAX") b.Int (pos 2147483647)
    ∷ constant (codes "UINT_MAX") b.UInt (pos 4294967295)
    ∷ constant (codes "LONG_MIN") b.Long (negsuc 9223372036854775807)
    ∷ constant (codes "LONG_MAX") b.Long (pos 9223372036854775807)
    ∷ constant (codes "ULONG_MAX") b.ULong (pos 18446744073709551615)
    ∷ constant (codes "LLONG_MIN") b.LongLong (negsuc 9223372036854775807)
    ∷ constant (codes "LLONG_MAX") b.LongLong (pos 9223372036854775807)
    ∷ constant (codes "ULLONG_MAX") b.ULongLong (pos 18446744073709551615)
    ∷ constant (codes "SIZE_MAX") b.ULong (pos 18446744073709551615)
    ∷ []

-- ---- functions

-- a library function, which no unit defines
abbrev pub known_function : ℕ → DeclaredFunction
known_function number = record { name = Library number; linkage = External; is_defined = false }

abbrev pub function : RowName × ℕ → List ℕ × Named
function known = (name_text known.0, FunctionOf (row_type known.0) (known_function known.1))

-- the functions that a unit may call so far, each with its number
abbrev pub known_functions : List (RowName × ℕ)
known_functions =
    (n.Putchar, 49)
    ∷ (n.Puts, 50)
    ∷ (n.Getchar, 51)
    ∷ []

abbrev pub function_names : NamedList
function_names = map function known_functions

-- each number is the one by which the library knows the function
abbrev pub NumbersAgree : Type 0
NumbersAgree = map (λ (known : RowName × ℕ). name_at (record { 0 = known.1 })) known_functions
    ≡ map (λ (known : RowName × ℕ). Some known.0) known_functions

-- ---- the scope

-- of pointers and functions
abbrev pub derived_names : NamedList
derived_names = null_name ∷ handler_name ∷ function_names

abbrev pub predeclared_names : NamedList
predeclared_names = (type_names ++ constant_names ++ limit_names) ++ derived_names

-- the scopes with these names in the innermost one
unfoldable pub all_bound : NamedList → List (Names Named) → List (Names Named)
all_bound [] scopes = scopes
all_bound (first ∷ rest) scopes = all_bound rest (bound scopes false first.0 first.1)

-- the scope around the file scope
abbrev pub predeclared_scopes : List (Names Named)
predeclared_scopes = all_bound predeclared_names (no_names ∷ [])
