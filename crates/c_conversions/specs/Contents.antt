-- What an object of a type holds, and what is passed or stored as one (6.2.5, 6.2.6).
use Rattle.std.specs.Prelude.{ℕ, List, Option, Some, None, if◌then◌else◌}
use Rattle.c_types.specs.declared.basic.Basic.{Basic}
use Rattle.c_types.specs.declared.layout.Layout.{Layout}
use Rattle.c_types.specs.CType.{CType, Plain, Pointer, Compound}
use Rattle.c_types.specs.Layouts.{layout_of}
use Rattle.c_types.specs.Structures.{Structure}
use Rattle.c_core.specs.declared.form.Content.{Content}
use Rattle.c_core.specs.declared.form.Content.TheVariants as content
use Rattle.c_core.specs.declared.form.Scalar.{Scalar}
use Rattle.c_core.specs.declared.form.Scalar.TheVariants as scalar
use Rattle.c_conversions.specs.Kinds.{integer_in, int_kind}
use Rattle.c_conversions.specs.Versions.{is_void}

abbrev pub number_scalar : Option Basic → Option Scalar
number_scalar None = None
number_scalar (Some basic) = Some (scalar.Number (int_kind basic))

-- what an object of a scalar type holds; other types are none (6.2.5p21)
abbrev pub scalar_in : CType → Option Scalar
scalar_in (Plain (Pointer to) quals) = Some scalar.Pointer
scalar_in other = number_scalar (integer_in other)

-- the size of a type with this layout; 0 stands where there is none
abbrev pub size_in : Option Layout → ℕ
size_in None = 0
size_in (Some layout) = layout.size

abbrev pub whole : Option Layout → Option Content
whole None = None
whole (Some layout) = Some (content.Whole layout.size)

abbrev pub scalar_content : Option Scalar → Option Content
scalar_content None = None
scalar_content (Some scalar) = Some (content.Scalar scalar)

-- what is passed, returned or stored as one: a scalar, or a complete structure or union
abbrev pub content_in : CType → List Structure → Option Content
content_in (Plain (Compound number) quals) structures = whole (layout_of (Plain (Compound number) quals) structures)
content_in other structures = scalar_content (scalar_in other)

abbrev pub given : Option Content → Option (Option Content)
given None = None
given (Some content) = Some (Some content)

-- What a call gives whose function has this result: nothing where it is `void`, else a value of a complete type; no
-- function gives anything else (6.5.2.2p1).
abbrev pub given_in : CType → List Structure → Option (Option Content)
given_in type structures = if is_void type then Some None else given (content_in type structures)
