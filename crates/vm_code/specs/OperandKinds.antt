-- The kinds of the operands that each instruction finds and leaves, the top first.
use Rattle.std.specs.Prelude.{Bool, true, false, List, [], ◌∷◌, reverse, Option, Some, None}
use Rattle.std.specs.Prelude.{if◌then◌else◌}
use Rattle.std.specs.List.{slice_get}
use Rattle.std.specs.Option.{option_and_then, option_map}
use Rattle.acc_num.specs.declared.kind.IntKind.{IntKind}
use Rattle.acc_num.specs.declared.kind.IntKind.TheVariants.{I32, I64}
use Rattle.acc_num.specs.declared.kind.IntKind.TheVariants as k
use Rattle.c_core.specs.declared.form.Form.{Form}
use Rattle.c_core.specs.declared.form.Form.TheVariants as form
use Rattle.c_core.specs.declared.form.Scalar.{Scalar}
use Rattle.c_core.specs.declared.form.Scalar.TheVariants.{Number, Pointer}
use Rattle.c_core.specs.declared.operator.Operator.{Operator}
use Rattle.c_core.specs.Operations.{is_shift}
use Rattle.vm_code.specs.declared.instr.Instr.{Instr}
use Rattle.vm_code.specs.declared.instr.Instr.TheVariants as i
use Rattle.vm_code.specs.declared.parts.CodeCalled.{CodeCalled}
use Rattle.vm_code.specs.Contents.{Contents}

-- A kind of operands is a kind of integers, or pointers: a place is a pointer too.
abbrev pub Kinds : Type 0
Kinds = List Scalar

abbrev pub same_kind : IntKind → IntKind → Bool
same_kind k.Bool k.Bool = true
same_kind k.I8 k.I8 = true
same_kind k.U8 k.U8 = true
same_kind k.I16 k.I16 = true
same_kind k.U16 k.U16 = true
same_kind k.I32 k.I32 = true
same_kind k.U32 k.U32 = true
same_kind k.I64 k.I64 = true
same_kind k.U64 k.U64 = true
same_kind _ _ = false

abbrev pub same_scalar : Scalar → Scalar → Bool
same_scalar (Number a) (Number b) = same_kind a b
same_scalar Pointer Pointer = true
same_scalar _ _ = false

-- the operand that a value of this form is
abbrev pub form_kind : Form → Option Scalar
form_kind (form.Number kind) = Some (Number kind)
form_kind form.Pointer = Some Pointer
form_kind form.Place = Some Pointer
form_kind form.Nothing = None

-- ---- taken off the top: what is left, where it is there

abbrev pub pop : Scalar → Kinds → Option Kinds
pop kind [] = None
pop kind (x ∷ xs) = if same_scalar kind x then Some xs else None

abbrev pub pop_number : Kinds → Option Kinds
pop_number (Number kind ∷ xs) = Some xs
pop_number _ = None

abbrev pub pop_two : Scalar → Scalar → Kinds → Option Kinds
pop_two top next kinds = option_and_then (pop next) (pop top kinds)

abbrev pub pop_form : Form → Kinds → Option Kinds
pop_form gives kinds = option_and_then (λ kind. pop kind kinds) (form_kind gives)

-- operands of these forms, the first on top
abbrev pub pop_forms : List Form → Kinds → Option Kinds
pop_forms [] kinds = Some kinds
pop_forms (f ∷ fs) kinds = option_and_then (pop_forms fs) (pop_form f kinds)

abbrev pub push : Scalar → Option Kinds → Option Kinds
push kind kinds = option_map (λ xs. kind ∷ xs) kinds

abbrev pub push_form : Form → Option Kinds → Option Kinds
push_form form.Nothing kinds = kinds
push_form (form.Number kind) kinds = push (Number kind) kinds
push_form form.Pointer kinds = push Pointer kinds
push_form form.Place kinds = push Pointer kinds

abbrev pub duplicate : Kinds → Option Kinds
duplicate [] = None
duplicate (x ∷ xs) = Some (x ∷ x ∷ xs)

abbrev pub pop_any : Kinds → Option Kinds
pop_any [] = None
pop_any (x ∷ xs) = Some xs

abbrev pub swap_two : Kinds → Option Kinds
swap_two (y ∷ x ∷ xs) = Some (x ∷ y ∷ xs)
swap_two _ = None

abbrev pub copy_second : Kinds → Option Kinds
copy_second (y ∷ x ∷ xs) = Some (x ∷ y ∷ x ∷ xs)
copy_second _ = None

-- the count of a shift has any kind
abbrev pub pop_operands : Operator → IntKind → Kinds → Option Kinds
pop_operands operator kind kinds =
    option_and_then (pop (Number kind)) (if is_shift operator then pop_number kinds else pop (Number kind) kinds)

-- the place for a structure, above the arguments
abbrev pub pop_result : Form → Kinds → Option Kinds
pop_result form.Place kinds = pop Pointer kinds
pop_result _ kinds = Some kinds

-- the function, the arguments in order, the place for a structure
abbrev pub pop_call : CodeCalled → Kinds → Option Kinds
pop_call called kinds = option_and_then (pop Pointer)
    (option_and_then (pop_forms (reverse called.arguments)) (pop_result called.form kinds))

abbrev pub called_kinds : Option CodeCalled → Kinds → Option Kinds
called_kinds None kinds = None
called_kinds (Some called) kinds = push_form called.form (pop_call called kinds)

-- The kinds behind an instruction of a function of this form, where it finds its operands.
abbrev pub kinds_after : Contents → Form → Instr → Kinds → Option Kinds
kinds_after code gives (i.Number kind n) kinds = Some (Number kind ∷ kinds)
kinds_after code gives (i.Pointer p) kinds = Some (Pointer ∷ kinds)
kinds_after code gives (i.Slot slot) kinds = Some (Pointer ∷ kinds)
kinds_after code gives i.Result kinds = Some (Pointer ∷ kinds)
kinds_after code gives i.Duplicate kinds = duplicate kinds
kinds_after code gives i.Drop kinds = pop_any kinds
kinds_after code gives i.Swap kinds = swap_two kinds
kinds_after code gives i.Over kinds = copy_second kinds
kinds_after code gives (i.Reach len align by) kinds = push Pointer (pop Pointer kinds)
kinds_after code gives (i.Load scalar) kinds = push scalar (pop Pointer kinds)
kinds_after code gives (i.Store scalar) kinds = push scalar (pop_two scalar Pointer kinds)
kinds_after code gives (i.Zero len) kinds = pop Pointer kinds
kinds_after code gives (i.Pool text) kinds = pop Pointer kinds
kinds_after code gives (i.Copy len) kinds = push Pointer (pop_two Pointer Pointer kinds)
kinds_after code gives (i.Make slot bytes) kinds = Some kinds
kinds_after code gives (i.Seal slot at len) kinds = Some kinds
kinds_after code gives (i.Kill slot) kinds = Some kinds
kinds_after code gives (i.Binary operator kind) kinds = push (Number kind) (pop_operands operator kind kinds)
kinds_after code gives (i.Negate kind) kinds = push (Number kind) (pop (Number kind) kinds)
kinds_after code gives (i.Flip kind) kinds = push (Number kind) (pop (Number kind) kinds)
kinds_after code gives (i.Convert kind) kinds = push (Number kind) (pop_number kinds)
kinds_after code gives i.Not kinds = push (Number I32) (pop_number kinds)
kinds_after code gives (i.Compare comparison) kinds =
    push (Number I32) (option_and_then pop_number (pop_number kinds))
kinds_after code gives i.IsNull kinds = push (Number I32) (pop Pointer kinds)
kinds_after code gives i.Same kinds = push (Number I32) (pop_two Pointer Pointer kinds)
kinds_after code gives (i.Order relation) kinds = push (Number I32) (pop_two Pointer Pointer kinds)
kinds_after code gives (i.Step stride) kinds = push Pointer (option_and_then (pop Pointer) (pop_number kinds))
kinds_after code gives (i.Difference bytes) kinds = push (Number I64) (pop_two Pointer Pointer kinds)
kinds_after code gives (i.Member at) kinds = push Pointer (pop Pointer kinds)
kinds_after code gives (i.Narrow len) kinds = push Pointer (pop Pointer kinds)
kinds_after code gives (i.Jump to) kinds = Some kinds
kinds_after code gives (i.IfZero to) kinds = pop_number kinds
kinds_after code gives (i.Cases count) kinds = pop_number kinds
kinds_after code gives (i.Pair value to) kinds = None
kinds_after code gives (i.Default to) kinds = None
kinds_after code gives i.Tick kinds = Some kinds
kinds_after code gives (i.Call count type) kinds = called_kinds (slice_get code.types type) kinds
kinds_after code gives i.Used kinds = Some kinds
kinds_after code gives i.Give kinds = pop_form gives kinds
kinds_after code gives i.Leave kinds = Some kinds
