-- What pointers point to, and over what they move (6.5.3.2, 6.5.6).
use Rattle.std.specs.Prelude.{ℕ, Bool, not, ◌||◌, List, Option, Some, None, is_some}
use Rattle.c_types.specs.declared.basic.Basic.{Basic}
use Rattle.c_types.specs.declared.basic.Basic.TheVariants as b
use Rattle.c_types.specs.declared.layout.Layout.{Layout}
use Rattle.c_types.specs.CType.{CType, void}
use Rattle.c_types.specs.Layouts.{layout_of}
use Rattle.c_types.specs.Structures.{Structure}
use Rattle.c_core.specs.declared.operator.Stride.{Stride}
use Rattle.c_core.specs.Tree.{type_in}
use Rattle.c_conversions.specs.Kinds.{integer_in}
use Rattle.c_conversions.specs.Versions.{pointee, is_pointer}
use Rattle.c_conversions.specs.Contents.{size_in}
use Rattle.c_conversions.specs.Parts.{Part}

-- the type of an expression that is a value
abbrev pub type_of_part : Part → CType
type_of_part part = type_in part.core

-- the basic type of an integer type; `int` stands for others
abbrev pub or_int : Option Basic → Basic
or_int None = b.Int
or_int (Some basic) = basic

abbrev pub basic_in : CType → Basic
basic_in type = or_int (integer_in type)

-- what a pointer type points to; `void` stands for others
abbrev pub or_void : Option CType → CType
or_void None = void
or_void (Some type) = type

abbrev pub target_of : CType → CType
target_of type = or_void (pointee type)

-- the alignment of a type with this layout; 0 stands where there is none
abbrev pub align_in : Option Layout → ℕ
align_in None = 0
align_in (Some layout) = layout.align

-- the type is complete, and so no function type (6.2.5p1)
abbrev pub is_complete : CType → List Structure → Bool
is_complete type structures = is_some (layout_of type structures)

-- a pointer of this type may move: it points to a complete object type (6.5.6p2, p3); other types don't move
abbrev pub may_move : List Structure → CType → Bool
may_move structures type = not (is_pointer type) || is_complete (target_of type) structures

-- how a pointer of this type moves, forwards or back
abbrev pub stride : List Structure → CType → Bool → Stride
stride structures type back = record { size = size_in (layout_of (target_of type) structures); back = back }
