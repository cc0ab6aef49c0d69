-- The prototypes of the library functions: the kinds of their arguments, and what they give (clause 7, Annex K).
use Rattle.std.specs.Prelude.{◌≡◌, List, [], ◌∷◌, Bool, true, false, Some}
use Rattle.acc_num.specs.declared.kind.IntKind.{IntKind}
use Rattle.acc_num.specs.declared.kind.IntKind.TheVariants.{I32, U32, I64, U64}
use Rattle.acc_num.specs.Numbers.{InRange}
use Rattle.lib_defs.specs.declared.value.Arg.{Arg}
use Rattle.lib_defs.specs.declared.value.ArgKind.{ArgKind}
use Rattle.lib_defs.specs.declared.value.ArgKind.TheVariants as kind
use Rattle.lib_defs.specs.declared.value.Value.{Value}
use Rattle.lib_defs.specs.declared.value.Value.TheVariants.{Num, Ptr, Nothing}
use Rattle.lib_defs.specs.declared.row.Row.{Row}
use Rattle.lib_defs.specs.declared.row_name.RowName.{RowName}
use Rattle.lib_defs.specs.declared.row_name.RowName.TheVariants as n
use Rattle.lib_defs.specs.RowNumbers.{name_at}

-- what a function gives
pub data Gives : Type 0 where
  GivesNumber : IntKind → Gives
  GivesPointer : Gives
  GivesNothing : Gives

-- the value is one of these, a number in the range of its kind
abbrev pub IsGiven : Gives → Value → Type 0
IsGiven (GivesNumber kind) (Num n) = InRange kind n
IsGiven GivesPointer (Ptr p) = Unit {0}
IsGiven GivesNothing Nothing = Unit {0}
IsGiven _ _ = ⊥

-- what an argument of a kind is; a kind of pointers has no kind of numbers
abbrev pub given_by : ArgKind → Gives
given_by kind.Int = GivesNumber I32
given_by kind.UInt = GivesNumber U32
given_by kind.Long = GivesNumber I64
given_by kind.ULong = GivesNumber U64
given_by kind.LongLong = GivesNumber I64
given_by kind.ULongLong = GivesNumber U64
given_by kind.CharPointer = GivesPointer
given_by kind.OtherPointer = GivesPointer

-- a prototype: the kinds of the parameters, whether further arguments may stand behind them, and what is given
pub record Prototype : Type 0 where
  pub takes : List ArgKind
  pub variadic : Bool
  pub gives : Gives

abbrev pub fixed : List ArgKind → Gives → Prototype
fixed takes gives = record { takes = takes; variadic = false; gives = gives }

abbrev pub int : Gives
int = GivesNumber I32

abbrev pub size_t : Gives
size_t = GivesNumber U64

-- A character pointer and a pointer to void are of one kind.
abbrev pub prototype : RowName → Prototype
prototype n.MemcpyS = fixed (kind.CharPointer ∷ kind.ULong ∷ kind.CharPointer ∷ kind.ULong ∷ []) int
prototype n.WmemcpyS = fixed (kind.OtherPointer ∷ kind.ULong ∷ kind.OtherPointer ∷ kind.ULong ∷ []) int
prototype n.MemmoveS = fixed (kind.CharPointer ∷ kind.ULong ∷ kind.CharPointer ∷ kind.ULong ∷ []) int
prototype n.WmemmoveS = fixed (kind.OtherPointer ∷ kind.ULong ∷ kind.OtherPointer ∷ kind.ULong ∷ []) int
prototype n.MemsetS = fixed (kind.CharPointer ∷ kind.ULong ∷ kind.Int ∷ kind.ULong ∷ []) int
prototype n.StrcpyS = fixed (kind.CharPointer ∷ kind.ULong ∷ kind.CharPointer ∷ []) int
prototype n.WcscpyS = fixed (kind.OtherPointer ∷ kind.ULong ∷ kind.OtherPointer ∷ []) int
prototype n.StrncpyS = fixed (kind.CharPointer ∷ kind.ULong ∷ kind.CharPointer ∷ kind.ULong ∷ []) int
prototype n.WcsncpyS = fixed (kind.OtherPointer ∷ kind.ULong ∷ kind.OtherPointer ∷ kind.ULong ∷ []) int
prototype n.StrcatS = fixed (kind.CharPointer ∷ kind.ULong ∷ kind.CharPointer ∷ []) int
prototype n.WcscatS = fixed (kind.OtherPointer ∷ kind.ULong ∷ kind.OtherPointer ∷ []) int
prototype n.StrncatS = fixed (kind.CharPointer ∷ kind.ULong ∷ kind.CharPointer ∷ kind.ULong ∷ []) int
prototype n.WcsncatS = fixed (kind.OtherPointer ∷ kind.ULong ∷ kind.OtherPointer ∷ kind.ULong ∷ []) int
prototype n.StrtokS =
    fixed (kind.CharPointer ∷ kind.OtherPointer ∷ kind.CharPointer ∷ kind.OtherPointer ∷ []) GivesPointer
prototype n.WcstokS =
    fixed (kind.OtherPointer ∷ kind.OtherPointer ∷ kind.OtherPointer ∷ kind.OtherPointer ∷ []) GivesPointer
prototype n.StrerrorS = fixed (kind.CharPointer ∷ kind.ULong ∷ kind.Int ∷ []) int
prototype n.WctombS = fixed (kind.OtherPointer ∷ kind.CharPointer ∷ kind.ULong ∷ kind.Int ∷ []) int
prototype n.StrnlenS = fixed (kind.CharPointer ∷ kind.ULong ∷ []) size_t
prototype n.WcsnlenS = fixed (kind.OtherPointer ∷ kind.ULong ∷ []) size_t
prototype n.StrerrorlenS = fixed (kind.Int ∷ []) size_t
prototype n.SetConstraintHandlerS = fixed (kind.OtherPointer ∷ []) GivesPointer
prototype n.AbortHandlerS = fixed (kind.CharPointer ∷ kind.CharPointer ∷ kind.Int ∷ []) GivesNothing
prototype n.IgnoreHandlerS = fixed (kind.CharPointer ∷ kind.CharPointer ∷ kind.Int ∷ []) GivesNothing
prototype n.Memcpy = fixed (kind.CharPointer ∷ kind.CharPointer ∷ kind.ULong ∷ []) GivesPointer
prototype n.Memmove = fixed (kind.CharPointer ∷ kind.CharPointer ∷ kind.ULong ∷ []) GivesPointer
prototype n.Wmemcpy = fixed (kind.OtherPointer ∷ kind.OtherPointer ∷ kind.ULong ∷ []) GivesPointer
prototype n.Memset = fixed (kind.CharPointer ∷ kind.Int ∷ kind.ULong ∷ []) GivesPointer
prototype n.Wmemset = fixed (kind.OtherPointer ∷ kind.Int ∷ kind.ULong ∷ []) GivesPointer
prototype n.Memcmp = fixed (kind.CharPointer ∷ kind.CharPointer ∷ kind.ULong ∷ []) int
prototype n.Memchr = fixed (kind.CharPointer ∷ kind.Int ∷ kind.ULong ∷ []) GivesPointer
prototype n.Strlen = fixed (kind.CharPointer ∷ []) size_t
prototype n.Wcslen = fixed (kind.OtherPointer ∷ []) size_t
prototype n.Strcpy = fixed (kind.CharPointer ∷ kind.CharPointer ∷ []) GivesPointer
prototype n.Wcscpy = fixed (kind.OtherPointer ∷ kind.OtherPointer ∷ []) GivesPointer
prototype n.Strcat = fixed (kind.CharPointer ∷ kind.CharPointer ∷ []) GivesPointer
prototype n.Wcscat = fixed (kind.OtherPointer ∷ kind.OtherPointer ∷ []) GivesPointer
prototype n.Strncpy = fixed (kind.CharPointer ∷ kind.CharPointer ∷ kind.ULong ∷ []) GivesPointer
prototype n.Strncat = fixed (kind.CharPointer ∷ kind.CharPointer ∷ kind.ULong ∷ []) GivesPointer
prototype n.Strcmp = fixed (kind.CharPointer ∷ kind.CharPointer ∷ []) int
prototype n.Strncmp = fixed (kind.CharPointer ∷ kind.CharPointer ∷ kind.ULong ∷ []) int
prototype n.Wcscmp = fixed (kind.OtherPointer ∷ kind.OtherPointer ∷ []) int
prototype n.Strchr = fixed (kind.CharPointer ∷ kind.Int ∷ []) GivesPointer
prototype n.Strrchr = fixed (kind.CharPointer ∷ kind.Int ∷ []) GivesPointer
prototype n.Malloc = fixed (kind.ULong ∷ []) GivesPointer
prototype n.Calloc = fixed (kind.ULong ∷ kind.ULong ∷ []) GivesPointer
prototype n.Realloc = fixed (kind.CharPointer ∷ kind.ULong ∷ []) GivesPointer
prototype n.Free = fixed (kind.CharPointer ∷ []) GivesNothing
prototype n.Exit = fixed (kind.Int ∷ []) GivesNothing
prototype n.Abort = fixed [] GivesNothing
prototype n.Putchar = fixed (kind.Int ∷ []) int
prototype n.Puts = fixed (kind.CharPointer ∷ []) int
prototype n.Getchar = fixed [] int
prototype n.Printf = record { takes = kind.CharPointer ∷ []; variadic = true; gives = int }

-- each argument's value is of its kind
abbrev pub AreValues : List Arg → Type 0
AreValues [] = Unit {0}
AreValues (a ∷ args) = IsGiven (given_by a.kind) a.value × AreValues args

-- The arguments begin with ones of these kinds, or of kinds with the same values, and no further ones stand behind
-- unless they may. A pointer of either kind is a pointer.
abbrev pub AreKinds : List ArgKind → Bool → List Arg → Type 0
AreKinds [] true args = Unit {0}
AreKinds [] false [] = Unit {0}
AreKinds [] false (a ∷ args) = ⊥
AreKinds (k ∷ kinds) variadic [] = ⊥
AreKinds (k ∷ kinds) variadic (a ∷ args) = (given_by a.kind ≡ given_by k) × AreKinds kinds variadic args

-- The arguments fit the prototype.
pub record FitPrototype (p : Prototype) (args : List Arg) : Type 0 where
  pub kinds : AreKinds p.takes p.variadic args
  pub values : AreValues args

-- the arguments of a library function fit its prototype, and a value is one that it gives
abbrev pub FitRow : Row → List Arg → Type 0
FitRow row args = (name : RowName) → name_at row ≡ Some name → FitPrototype (prototype name) args

abbrev pub IsGivenBy : Row → Value → Type 0
IsGivenBy row value = (name : RowName) → name_at row ≡ Some name → IsGiven (prototype name).gives value
