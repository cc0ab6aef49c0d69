-- What a type says of the values that have it.
use Rattle.std.specs.Prelude.{◌≡◌, ℕ, ◌<◌, ◌≤◌, Option, Some, None}
use Rattle.acc_num.specs.Kinds.{bytes_of}
use Rattle.acc_num.specs.declared.kind.IntKind.{IntKind}
use Rattle.acc_num.specs.declared.kind.IntKind.TheVariants.{I32}
use Rattle.c_types.specs.CType.{CType, Plain, Array, BasicType, Pointer, Function, Compound, Enumerated}
use Rattle.c_types.specs.declared.basic.Basic.TheVariants.{Void}
use Rattle.c_types.specs.Layouts.{kind_of, largest}
use Rattle.c_core.specs.declared.form.Form.{Form}
use Rattle.c_core.specs.declared.form.Form.TheVariants as form
use Rattle.c_core.specs.declared.form.Scalar.{Scalar}
use Rattle.c_core.specs.declared.form.Scalar.TheVariants as scalar
use Rattle.c_core.specs.declared.form.Content.{Content}
use Rattle.c_core.specs.declared.form.Content.TheVariants as content

-- the kind of an integer type; an enumerated type is an `int` (6.7.2.2p4)
abbrev pub kind_in : CType → Option IntKind
kind_in (Plain (BasicType basic) quals) = kind_of basic
kind_in (Plain (Enumerated number) quals) = Some I32
kind_in other = None

abbrev pub basic_form : Option IntKind → Form
basic_form (Some kind) = form.Number kind
basic_form None = form.Nothing

-- What a value of a type is; `void` has none, and an array or a function is no value (6.3.2.1).
abbrev pub value_form : CType → Option Form
value_form (Plain (BasicType basic) quals) = Some (basic_form (kind_of basic))
value_form (Plain (Enumerated number) quals) = Some (form.Number I32)
value_form (Plain (Pointer to) quals) = Some form.Pointer
value_form (Plain (Compound number) quals) = Some form.Place
value_form (Plain (Function gives parameters variadic) quals) = None
value_form (Array of len) = None

abbrev pub IsPointer : CType → Type 0
IsPointer (Plain (Pointer to) quals) = Unit {0}
IsPointer other = ⊥

-- an object may have the type (6.2.5p1), which need not be complete
abbrev pub IsObject : CType → Type 0
IsObject (Plain (BasicType Void) quals) = ⊥
IsObject (Plain (Function gives parameters variadic) quals) = ⊥
IsObject other = Unit {0}

abbrev pub IsVoid : CType → Type 0
IsVoid (Plain (BasicType Void) quals) = Unit {0}
IsVoid other = ⊥

-- An expression with this type leaves this: a number of its kind, a pointer, an object by its place, or nothing.
abbrev pub HasForm : CType → Form → Type 0
HasForm type (form.Number kind) = kind_in type ≡ Some kind
HasForm type form.Pointer = IsPointer type
HasForm type form.Place = IsObject type
HasForm type form.Nothing = IsVoid type

-- a number of any kind
abbrev pub IsNumber : Form → Type 0
IsNumber (form.Number kind) = Unit {0}
IsNumber other = ⊥

-- a number or a pointer
abbrev pub IsScalar : Form → Type 0
IsScalar (form.Number kind) = Unit {0}
IsScalar form.Pointer = Unit {0}
IsScalar other = ⊥

-- something is left
abbrev pub IsLeft : Form → Type 0
IsLeft form.Nothing = ⊥
IsLeft other = Unit {0}

-- the size of an object, or of a part of one (6.2.6.1p4)
abbrev pub IsSize : ℕ → Type 0
IsSize size = (0 < size) × (size ≤ largest)

-- the bytes that a scalar takes
abbrev pub scalar_size : Scalar → ℕ
scalar_size (scalar.Number kind) = bytes_of kind
scalar_size scalar.Pointer = 16

abbrev pub content_size : Content → ℕ
content_size (content.Scalar scalar) = scalar_size scalar
content_size (content.Whole size) = size

-- what a call may give
abbrev pub IsGiven : Option Content → Type 0
IsGiven None = Unit {0}
IsGiven (Some content) = IsSize (content_size content)
