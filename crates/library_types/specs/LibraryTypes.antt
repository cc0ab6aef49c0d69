-- The types of the library functions, as their prototypes have them (clause 7, Annex K), and the types of functions
-- that the library itself calls.
use Rattle.std.specs.Prelude.{true, false, List, [], ◌∷◌}
use Rattle.c_types.specs.declared.basic.Basic.TheVariants as basic
use Rattle.c_types.specs.declared.shape.Quals.{Quals}
use Rattle.c_types.specs.CType.{CType, CTypes, Plain, BasicType, Pointer, Function, Nil, Cons, no_quals, void}
use Rattle.lib_defs.specs.declared.row_name.RowName.{RowName}
use Rattle.lib_defs.specs.declared.row_name.RowName.TheVariants as n

abbrev pub const_quals : Quals
const_quals = record { constant = true; volatile = false; restricted = false }

abbrev pub restrict_quals : Quals
restrict_quals = record { constant = false; volatile = false; restricted = true }

abbrev pub char : CType
char = Plain (BasicType basic.Char) no_quals

-- `int`, `wchar_t`, `errno_t`
abbrev pub int : CType
int = Plain (BasicType basic.Int) no_quals

-- `size_t`, `rsize_t`
abbrev pub size_t : CType
size_t = Plain (BasicType basic.ULong) no_quals

abbrev pub to : CType → CType
to type = Plain (Pointer type) no_quals

-- `type *restrict`
abbrev pub apart : CType → CType
apart type = Plain (Pointer type) restrict_quals

abbrev pub const_char : CType
const_char = Plain (BasicType basic.Char) const_quals

abbrev pub const_void : CType
const_void = Plain (BasicType basic.Void) const_quals

abbrev pub const_wchar : CType
const_wchar = Plain (BasicType basic.Int) const_quals

abbrev pub types : List CType → CTypes
types [] = Nil
types (first ∷ rest) = Cons first (types rest)

abbrev pub function : CType → List CType → CType
function gives parameters = Plain (Function gives (types parameters) false) no_quals

-- the function to which a `constraint_handler_t` points (K.3.6p2)
abbrev pub handler_type : CType
handler_type = function void (to const_char ∷ to void ∷ int ∷ [])

-- the function by which `bsearch_s` compares (K.3.6.3.1)
abbrev pub comparing_type : CType
comparing_type = function int (to const_void ∷ to const_void ∷ to void ∷ [])

abbrev pub row_type : RowName → CType
row_type n.MemcpyS = function int (apart void ∷ size_t ∷ apart const_void ∷ size_t ∷ [])
row_type n.WmemcpyS = function int (apart int ∷ size_t ∷ apart const_wchar ∷ size_t ∷ [])
row_type n.MemmoveS = function int (to void ∷ size_t ∷ to const_void ∷ size_t ∷ [])
row_type n.WmemmoveS = function int (to int ∷ size_t ∷ to const_wchar ∷ size_t ∷ [])
row_type n.MemsetS = function int (to void ∷ size_t ∷ int ∷ size_t ∷ [])
row_type n.StrcpyS = function int (apart char ∷ size_t ∷ apart const_char ∷ [])
row_type n.WcscpyS = function int (apart int ∷ size_t ∷ apart const_wchar ∷ [])
row_type n.StrncpyS = function int (apart char ∷ size_t ∷ apart const_char ∷ size_t ∷ [])
row_type n.WcsncpyS = function int (apart int ∷ size_t ∷ apart const_wchar ∷ size_t ∷ [])
row_type n.StrcatS = function int (apart char ∷ size_t ∷ apart const_char ∷ [])
row_type n.WcscatS = function int (apart int ∷ size_t ∷ apart const_wchar ∷ [])
row_type n.StrncatS = function int (apart char ∷ size_t ∷ apart const_char ∷ size_t ∷ [])
row_type n.WcsncatS = function int (apart int ∷ size_t ∷ apart const_wchar ∷ size_t ∷ [])
row_type n.StrtokS = function (to char) (apart char ∷ apart size_t ∷ apart const_char ∷ apart (to char) ∷ [])
row_type n.WcstokS = function (to int) (apart int ∷ apart size_t ∷ apart const_wchar ∷ apart (to int) ∷ [])
row_type n.StrerrorS = function int (to char ∷ size_t ∷ int ∷ [])
row_type n.WctombS = function int (apart int ∷ apart char ∷ size_t ∷ int ∷ [])
row_type n.StrnlenS = function size_t (to const_char ∷ size_t ∷ [])
row_type n.WcsnlenS = function size_t (to const_wchar ∷ size_t ∷ [])
row_type n.StrerrorlenS = function size_t (int ∷ [])
row_type n.SetConstraintHandlerS = function (to handler_type) (to handler_type ∷ [])
row_type n.AbortHandlerS = function void (apart const_char ∷ apart void ∷ int ∷ [])
row_type n.IgnoreHandlerS = function void (apart const_char ∷ apart void ∷ int ∷ [])
row_type n.Memcpy = function (to void) (apart void ∷ apart const_void ∷ size_t ∷ [])
row_type n.Memmove = function (to void) (to void ∷ to const_void ∷ size_t ∷ [])
row_type n.Wmemcpy = function (to int) (apart int ∷ apart const_wchar ∷ size_t ∷ [])
row_type n.Memset = function (to void) (to void ∷ int ∷ size_t ∷ [])
row_type n.Wmemset = function (to int) (to int ∷ int ∷ size_t ∷ [])
row_type n.Memcmp = function int (to const_void ∷ to const_void ∷ size_t ∷ [])
row_type n.Memchr = function (to void) (to const_void ∷ int ∷ size_t ∷ [])
row_type n.Strlen = function size_t (to const_char ∷ [])
row_type n.Wcslen = function size_t (to const_wchar ∷ [])
row_type n.Strcpy = function (to char) (apart char ∷ apart const_char ∷ [])
row_type n.Wcscpy = function (to int) (apart int ∷ apart const_wchar ∷ [])
row_type n.Strcat = function (to char) (apart char ∷ apart const_char ∷ [])
row_type n.Wcscat = function (to int) (apart int ∷ apart const_wchar ∷ [])
row_type n.Strncpy = function (to char) (apart char ∷ apart const_char ∷ size_t ∷ [])
row_type n.Strncat = function (to char) (apart char ∷ apart const_char ∷ size_t ∷ [])
row_type n.Strcmp = function int (to const_char ∷ to const_char ∷ [])
row_type n.Strncmp = function int (to const_char ∷ to const_char ∷ size_t ∷ [])
row_type n.Wcscmp = function int (to const_wchar ∷ to const_wchar ∷ [])
row_type n.Strchr = function (to char) (to const_char ∷ int ∷ [])
row_type n.Strrchr = function (to char) (to const_char ∷ int ∷ [])
row_type n.Malloc = function (to void) (size_t ∷ [])
row_type n.Calloc = function (to void) (size_t ∷ size_t ∷ [])
row_type n.Realloc = function (to void) (to void ∷ size_t ∷ [])
row_type n.Free = function void (to void ∷ [])
row_type n.Exit = function void (int ∷ [])
row_type n.Abort = function void []
row_type n.Putchar = function int (int ∷ [])
row_type n.Puts = function int (to const_char ∷ [])
row_type n.Getchar = function int []
row_type n.Printf = Plain (Function int (types (apart const_char ∷ [])) true) no_quals
