-- Printed text: what printf writes (7.21.6.1).
use Rattle.std.specs.Prelude.{ℕ, ◌+◌, ◌-◌, Bool, true, false, List, [], ◌∷◌, ◌++◌, length, replicate, Option}
use Rattle.std.specs.Prelude.{Some, None, ℤ, pos, negsuc, unsigned_abs, codes, unwrap_or, if◌then◌else◌}
use Rattle.std.specs.Fmt.{digits}
use Rattle.std.specs.Str.Parse.{digits_value}
use Rattle.acc_num.specs.declared.kind.IntKind.{IntKind}
use Rattle.acc_num.specs.declared.kind.IntKind.TheVariants.{I8, U8, I16, U16, I32, U32, I64, U64}
use Rattle.acc_num.specs.Numbers.{in_range}
use Rattle.acc_num.specs.Operations.{converted_to}
use Rattle.critical_table.specs.declared.code.Code.TheVariants.{U09}
use Rattle.object_store.specs.declared.pointer.Pointer.{Pointer}
use Rattle.object_store.specs.Storage.{Storage}
use Rattle.lib_defs.specs.declared.value.Arg.{Arg}
use Rattle.lib_defs.specs.declared.value.ArgKind.{ArgKind}
use Rattle.lib_defs.specs.declared.value.ArgKind.TheVariants as kind
use Rattle.lib_defs.specs.declared.value.Value.{Value}
use Rattle.lib_defs.specs.declared.value.Value.TheVariants.{Num, Ptr}
use Rattle.lib_defs.specs.Units.{rsize_max}
use Rattle.lib_defs.specs.Reply.{Stop, FailsArgument, IsUndefined}
use Rattle.lib_defs.specs.Constraints.{Look, Saw, Stuck, look}
use Rattle.lib_defs.specs.RowTable.{modulo_byte}
use Rattle.lib_defs.specs.Characters.{Characters, ended_by, behind, characters_at, whole}
use Rattle.lib_defs.specs.Conversions.{Modifier, Bare, Hh, H, L, Ll, Z, Specification, has_flag, Form, Signed}
use Rattle.lib_defs.specs.Conversions.{Unsigned, Character, String, Conversion, Percent, Takes, conversion_of, Piece}
use Rattle.lib_defs.specs.Conversions.{Ordinary, Specified, Unfinished, percent, pieces_of}

-- what fills a width
abbrev pub space : ℕ
space = 32

abbrev pub zero_digit : ℕ
zero_digit = 48

-- A text with its sign, padded to the width: on the right with spaces, on the left with zeros behind the sign, or on
-- the left with spaces. `-` overrules `0` (p6).
abbrev pub padded : Specification → (sign text : List ℕ) → List ℕ
padded c sign text =
    let fill : ℕ = digits_value 10 c.width - (length sign + length text) in
    if has_flag (codes "-") c then sign ++ text ++ replicate fill space else
    if has_flag (codes "0") c then sign ++ replicate fill zero_digit ++ text else
    replicate fill space ++ sign ++ text

-- `+` acts on numbers with a sign
abbrev pub sign_of : Specification → ℤ → List ℕ
sign_of c (pos n) = if has_flag (codes "+") c then codes "+" else []
sign_of c (negsuc n) = codes "-"

abbrev pub signed_text : Specification → ℤ → List ℕ
signed_text c n = padded c (sign_of c n) (digits 10 false (unsigned_abs n))

abbrev pub unsigned_text : Specification → (base : ℕ) (upper : Bool) → ℤ → List ℕ
unsigned_text c base upper n = padded c [] (digits base upper (unsigned_abs n))

-- The kinds of an argument that a length modifier takes: the one that it names, and the one of the other sign (p7). The
-- types of z are `long` and `unsigned long`.
abbrev pub takes_kind : Modifier → ArgKind → Bool
takes_kind L kind.Long = true
takes_kind L kind.ULong = true
takes_kind Z kind.Long = true
takes_kind Z kind.ULong = true
takes_kind Ll kind.LongLong = true
takes_kind Ll kind.ULongLong = true
takes_kind Bare kind.Int = true
takes_kind Bare kind.UInt = true
takes_kind Hh kind.Int = true
takes_kind Hh kind.UInt = true
takes_kind H kind.Int = true
takes_kind H kind.UInt = true
takes_kind _ _ = false

-- the values of the kind that it names
abbrev pub signed_kind : Modifier → IntKind
signed_kind L = I64
signed_kind Z = I64
signed_kind Ll = I64
signed_kind _ = I32

abbrev pub unsigned_kind : Modifier → IntKind
unsigned_kind L = U64
unsigned_kind Z = U64
unsigned_kind Ll = U64
unsigned_kind _ = U32

-- hh and h convert the value first
abbrev pub signed_value : Modifier → ℤ → ℤ
signed_value Hh n = converted_to I8 n
signed_value H n = converted_to I16 n
signed_value _ n = n

abbrev pub unsigned_value : Modifier → ℤ → ℤ
unsigned_value Hh n = converted_to U8 n
unsigned_value H n = converted_to U16 n
unsigned_value _ n = n

-- an argument's number, of a kind that the modifier takes, where the value is one of both signs
abbrev pub number_within : IntKind → Value → Option ℤ
number_within range (Num n) = if in_range range n then Some n else None
number_within range _ = None

abbrev pub number_for : Modifier → IntKind → Arg → Option ℤ
number_for modifier range a = if takes_kind modifier a.kind then number_within range a.value else None

-- a character pointer or a pointer to void
abbrev pub text_for : ArgKind → Value → Option Pointer
text_for kind.CharPointer (Ptr p) = Some p
text_for _ _ = None

-- how many characters of a string are read: as many as the precision says, else all
abbrev pub most_of : Option (List ℕ) → ℕ
most_of None = rsize_max + 1
most_of (Some precision) = digits_value 10 precision

-- what printf's k-th argument is, where it is of the kind that is wanted
abbrev pub argument : {A : Type 0} → ℕ → Option A → Look A
argument k (Some a) = Saw a
argument k None = Stuck (FailsArgument k)

-- The text of the k-th argument. A string is read whole before any of it is written.
abbrev pub argument_text : Storage → Form → Specification → ℕ → Arg → Look (List ℕ)
argument_text s Signed c k a =
    look (argument k (number_for c.modifier (signed_kind c.modifier) a)) (λ n.
    Saw (signed_text c (signed_value c.modifier n)))
argument_text s (Unsigned base upper) c k a =
    look (argument k (number_for c.modifier (unsigned_kind c.modifier) a)) (λ n.
    Saw (unsigned_text c base upper (unsigned_value c.modifier n)))
argument_text s Character c k a =
    look (argument k (number_for Bare I32 a)) (λ n. Saw (padded c [] (modulo_byte n ∷ [])))
argument_text s String c k a =
    look (argument k (text_for a.kind a.value)) (λ p.
    look (whole (characters_at s p (most_of c.precision))) (λ text.
    Saw (padded c [] text)))

-- writes a text and goes on, or stops
abbrev pub write_then : Look (List ℕ) → (Unit {0} → Characters) → Characters
write_then (Saw text) go = behind text (go tt)
write_then (Stuck stop) go = ended_by (Some stop)

-- A conversion with the arguments that are left, the first of which is the k-th. An undefined one stops before its
-- argument is looked at.
abbrev pub convert_then : Storage → Option Conversion → Specification → ℕ → List Arg → (ℕ → List Arg → Characters)
    → Characters
convert_then s None c k args go = ended_by (Some (IsUndefined U09))
convert_then s (Some Percent) c k args go = behind (percent ∷ []) (go k args)
convert_then s (Some (Takes form)) c k [] go = ended_by (Some (FailsArgument k))
convert_then s (Some (Takes form)) c k (a ∷ args) go =
    write_then (argument_text s form c k a) (λ u. go (k + 1) args)

-- the text of the pieces of a format that ends so
abbrev pub printed_from : Storage → Option Stop → List Piece → ℕ → List Arg → Characters
printed_from s end [] k args = ended_by end
printed_from s end (Ordinary c ∷ pieces) k args = behind (c ∷ []) (printed_from s end pieces k args)
printed_from s end (Unfinished text ∷ pieces) k args = ended_by (Some (unwrap_or end (IsUndefined U09)))
printed_from s end (Specified c ∷ pieces) k args =
    convert_then s (conversion_of c) c k args (λ j rest. printed_from s end pieces j rest)

-- The text that a format gives with the arguments behind it, of which the first is printf's second. The format is read
-- as it is printed, so what stands before a stop comes out.
abbrev pub printed : Storage → Characters → List Arg → Characters
printed s format args = printed_from s format.stop (pieces_of format.list) 2 args
