-- The listing of code: a line for each instruction, function, static object, text and called type.
use Rattle.std.specs.Prelude.{ℕ, ◌+◌, ◌/◌, ◌%◌, ◌==◌, ◌&&◌, List, [], ◌∷◌, ◌++◌, codes, Bool, true, false, length}
use Rattle.std.specs.Prelude.{nat_lt, if◌then◌else◌}
use Rattle.std.specs.Fmt.{decimal, signed_decimal}
use Rattle.acc_num.specs.declared.kind.IntKind.{IntKind}
use Rattle.acc_num.specs.declared.kind.IntKind.TheVariants as k
use Rattle.critical_table.specs.declared.pos.Pos.{Pos}
use Rattle.object_store.specs.declared.mark.Mark.{Mark}
use Rattle.object_store.specs.declared.mark.Mark.TheVariants as mark
use Rattle.lib_defs.specs.declared.value.ArgKind.{ArgKind}
use Rattle.lib_defs.specs.declared.value.ArgKind.TheVariants as arg
use Rattle.run_defs.specs.Lines.{by_text, mark_text, pointer_text}
use Rattle.run_defs.specs.declared.seal.Seal.{Seal}
use Rattle.c_core.specs.declared.form.Form.{Form}
use Rattle.c_core.specs.declared.form.Form.TheVariants as form
use Rattle.c_core.specs.declared.form.Scalar.{Scalar}
use Rattle.c_core.specs.declared.form.Scalar.TheVariants as scalar
use Rattle.c_core.specs.declared.operator.Comparison.{Comparison}
use Rattle.c_core.specs.declared.operator.Comparison.TheVariants as c
use Rattle.c_core.specs.declared.operator.Operator.{Operator}
use Rattle.c_core.specs.declared.operator.Operator.TheVariants as op
use Rattle.c_core.specs.declared.operator.Relation.{Relation}
use Rattle.c_core.specs.declared.operator.Relation.TheVariants as r
use Rattle.vm_code.specs.declared.instr.Instr.{Instr}
use Rattle.vm_code.specs.declared.instr.Instr.TheVariants as i
use Rattle.vm_code.specs.declared.parts.Parameter.{Parameter}
use Rattle.vm_code.specs.declared.parts.CodeFunction.{CodeFunction}
use Rattle.vm_code.specs.declared.parts.CodeObject.{CodeObject}
use Rattle.vm_code.specs.declared.parts.CodeCalled.{CodeCalled}
use Rattle.vm_code.specs.Contents.{Contents}

abbrev pub kind_text : IntKind → List ℕ
kind_text k.Bool = codes "bool"
kind_text k.I8 = codes "i8"
kind_text k.U8 = codes "u8"
kind_text k.I16 = codes "i16"
kind_text k.U16 = codes "u16"
kind_text k.I32 = codes "i32"
kind_text k.U32 = codes "u32"
kind_text k.I64 = codes "i64"
kind_text k.U64 = codes "u64"

abbrev pub scalar_text : Scalar → List ℕ
scalar_text (scalar.Number kind) = kind_text kind
scalar_text scalar.Pointer = codes "ptr"

abbrev pub operator_text : Operator → List ℕ
operator_text op.Add = codes "add"
operator_text op.Subtract = codes "sub"
operator_text op.Multiply = codes "mul"
operator_text op.Divide = codes "div"
operator_text op.Remainder = codes "rem"
operator_text op.ShiftLeft = codes "shl"
operator_text op.ShiftRight = codes "shr"
operator_text op.BitAnd = codes "and"
operator_text op.BitOr = codes "or"
operator_text op.BitXor = codes "xor"

abbrev pub comparison_text : Comparison → List ℕ
comparison_text c.Less = codes "lt"
comparison_text c.LessEqual = codes "le"
comparison_text c.Equal = codes "eq"
comparison_text c.NotEqual = codes "ne"
comparison_text c.GreaterEqual = codes "ge"
comparison_text c.Greater = codes "gt"

abbrev pub relation_text : Relation → List ℕ
relation_text r.Less = codes "lt"
relation_text r.LessEqual = codes "le"
relation_text r.GreaterEqual = codes "ge"
relation_text r.Greater = codes "gt"

-- a pointer that moves back has a negative size
abbrev pub sign_text : Bool → List ℕ
sign_text true = codes "-"
sign_text false = []

abbrev pub number_text : ℕ → List ℕ
number_text n = codes " " ++ decimal n

-- an instruction's name and operands
abbrev pub instr_text : Instr → List ℕ
instr_text (i.Number kind n) = codes "num " ++ kind_text kind ++ (codes " " ++ signed_decimal n)
instr_text (i.Pointer p) = codes "ptr " ++ pointer_text p
instr_text (i.Slot slot) = codes "slot" ++ number_text slot
instr_text i.Result = codes "result"
instr_text i.Duplicate = codes "dup"
instr_text i.Drop = codes "drop"
instr_text i.Swap = codes "swap"
instr_text i.Over = codes "over"
instr_text (i.Reach len align by) =
    codes "reach" ++ number_text len ++ number_text align ++ (codes " " ++ by_text by)
instr_text (i.Load kind) = codes "load " ++ scalar_text kind
instr_text (i.Store kind) = codes "store " ++ scalar_text kind
instr_text (i.Zero len) = codes "zero" ++ number_text len
instr_text (i.Pool text) = codes "pool" ++ number_text text
instr_text (i.Copy len) = codes "copy" ++ number_text len
instr_text (i.Make slot bytes) = codes "make" ++ number_text slot ++ number_text bytes
instr_text (i.Seal slot at len) = codes "seal" ++ number_text slot ++ number_text at ++ number_text len
instr_text (i.Kill slot) = codes "kill" ++ number_text slot
instr_text (i.Binary operator kind) = operator_text operator ++ (codes " " ++ kind_text kind)
instr_text (i.Negate kind) = codes "neg " ++ kind_text kind
instr_text (i.Flip kind) = codes "flip " ++ kind_text kind
instr_text (i.Convert kind) = codes "conv " ++ kind_text kind
instr_text i.Not = codes "not"
instr_text (i.Compare comparison) = codes "cmp " ++ comparison_text comparison
instr_text i.IsNull = codes "isnull"
instr_text i.Same = codes "same"
instr_text (i.Order relation) = codes "order " ++ relation_text relation
instr_text (i.Step stride) = codes "step " ++ sign_text stride.back ++ decimal stride.size
instr_text (i.Difference bytes) = codes "diff" ++ number_text bytes
instr_text (i.Member at) = codes "member" ++ number_text at
instr_text (i.Narrow len) = codes "narrow" ++ number_text len
instr_text (i.Jump to) = codes "jump" ++ number_text to
instr_text (i.IfZero to) = codes "ifz" ++ number_text to
instr_text (i.Cases count) = codes "cases" ++ number_text count
instr_text (i.Pair value to) = codes "pair " ++ signed_decimal value ++ number_text to
instr_text (i.Default to) = codes "default" ++ number_text to
instr_text i.Tick = codes "tick"
instr_text (i.Call count type) = codes "call" ++ number_text count ++ number_text type
instr_text i.Used = codes "used"
instr_text i.Give = codes "give"
instr_text i.Leave = codes "leave"

-- ---- parts of a line, each behind a space

abbrev pub form_text : Form → List ℕ
form_text (form.Number kind) = kind_text kind
form_text form.Pointer = codes "ptr"
form_text form.Place = codes "place"
form_text form.Nothing = codes "nothing"

abbrev pub arg_text : ArgKind → List ℕ
arg_text arg.Int = codes "int"
arg_text arg.UInt = codes "uint"
arg_text arg.Long = codes "long"
arg_text arg.ULong = codes "ulong"
arg_text arg.LongLong = codes "longlong"
arg_text arg.ULongLong = codes "ulonglong"
arg_text arg.CharPointer = codes "charpointer"
arg_text arg.OtherPointer = codes "otherpointer"

abbrev pub form_part : Form → List ℕ
form_part f = codes " " ++ form_text f

abbrev pub arg_part : ArgKind → List ℕ
arg_part kind = codes " " ++ arg_text kind

-- a parameter: the size of its object and its form
abbrev pub parameter_part : Parameter → List ℕ
parameter_part p = codes " " ++ decimal p.size ++ (codes ":" ++ form_text p.form)

-- the mark of a seal, where it isn't const
abbrev pub unlike_const : Mark → List ℕ
unlike_const mark.Const = []
unlike_const other = codes ":" ++ mark_text other

abbrev pub seal_part : Seal → List ℕ
seal_part s = codes " " ++ decimal s.at ++ (codes ":" ++ decimal s.len) ++ unlike_const s.mark

-- a byte: two hexadecimal digits
abbrev pub hex_digit : ℕ → ℕ
hex_digit n = if nat_lt n 10 then 48 + n else 87 + n

abbrev pub byte_part : ℕ → List ℕ
byte_part byte = hex_digit (byte / 16) ∷ hex_digit (byte % 16) ∷ []

-- the parts of a list
abbrev pub parts : {A : Type 0} → (A → List ℕ) → List A → List ℕ
parts text [] = []
parts text (x ∷ xs) = text x ++ parts text xs

-- the bytes of a static object or a text, where there are any
abbrev pub bytes_text : List ℕ → List ℕ
bytes_text [] = []
bytes_text (b ∷ bytes) = codes " " ++ parts byte_part (b ∷ bytes)

-- ---- lines

abbrev pub instr_line : ℕ → Instr × Pos → List ℕ
instr_line k x = codes "i" ++ number_text k ++ codes " " ++ instr_text x.0 ++ codes "\n"

abbrev pub function_line : ℕ → CodeFunction → List ℕ
function_line k f = codes "f" ++ number_text k ++ codes " " ++ f.name ++ number_text f.start
    ++ parts parameter_part f.parameters ++ codes "\n"

-- The marks of a static object: none, the one mark of all its bytes, or each of its seals.
abbrev pub is_whole_mark : Mark → Bool
is_whole_mark mark.Literal = true
is_whole_mark mark.Const = true
is_whole_mark _ = false

abbrev pub is_whole : ℕ → Seal → Bool
is_whole size s = (s.at == 0) && (s.len == size) && is_whole_mark s.mark

abbrev pub members_text : List Seal → List ℕ
members_text seals = codes " members" ++ parts seal_part seals

abbrev pub mark_whole : ℕ → Seal → List ℕ
mark_whole size s = if is_whole size s then codes " " ++ mark_text s.mark else members_text (s ∷ [])

abbrev pub marks_text : ℕ → List Seal → List ℕ
marks_text size [] = codes " plain"
marks_text size (s ∷ []) = mark_whole size s
marks_text size (s ∷ t ∷ more) = members_text (s ∷ t ∷ more)

abbrev pub object_line : ℕ → CodeObject → List ℕ
object_line k o = codes "s" ++ number_text k ++ number_text (length o.bytes) ++ marks_text (length o.bytes) o.seals
    ++ bytes_text o.bytes ++ codes "\n"

abbrev pub text_line : ℕ → List ℕ → List ℕ
text_line k bytes = codes "x" ++ number_text k ++ bytes_text bytes ++ codes "\n"

abbrev pub called_line : ℕ → CodeCalled → List ℕ
called_line k t = codes "t" ++ number_text k ++ form_part t.form
    ++ number_text (length t.arguments) ++ parts form_part t.arguments
    ++ number_text (length t.kinds) ++ parts arg_part t.kinds
    ++ parts number_text t.functions ++ codes "\n"

-- the lines of a list, numbered from k on
abbrev pub lines : {A : Type 0} → (ℕ → A → List ℕ) → ℕ → List A → List ℕ
lines line k [] = []
lines line k (x ∷ xs) = line k x ++ lines line (k + 1) xs

-- The listing: functions are numbered from 1, all else from 0.
abbrev pub listing_text : Contents → List ℕ
listing_text code = codes "code\n" ++ lines instr_line 0 code.instrs ++ lines function_line 1 code.functions
    ++ lines object_line 0 code.objects ++ lines text_line 0 code.texts ++ lines called_line 0 code.types
