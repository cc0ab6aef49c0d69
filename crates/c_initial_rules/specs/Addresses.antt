-- Address constants: where in a static object an expression points, and with which bounds (6.6p9).
use Rattle.std.specs.Prelude.{ℕ, ◌+◌, ℤ, pos, ◌+ℤ◌, ◌*ℤ◌, neg_ℤ, int_le, unsigned_abs, Bool, ◌&&◌, ◌==◌, List}
use Rattle.std.specs.Prelude.{Option, Some, None, Result, Ok, Err, if◌then◌else◌}
use Rattle.c_types.specs.declared.layout.Layout.{Layout}
use Rattle.c_types.specs.CType.{CType}
use Rattle.c_types.specs.Layouts.{layout_of}
use Rattle.c_types.specs.Structures.{Structure}
use Rattle.c_core.specs.declared.fault.ConstFault.{ConstFault}
use Rattle.c_core.specs.declared.named.ObjectName.{ObjectName}
use Rattle.c_core.specs.declared.named.ObjectName.TheVariants as object
use Rattle.c_core.specs.declared.operator.Stride.{Stride}
use Rattle.c_core.specs.declared.static_object.Address.{Address}
use Rattle.c_core.specs.declared.static_object.Bounds.{Bounds}
use Rattle.c_core.specs.Constant.{constant_of}
use Rattle.c_core.specs.Tree.{Core, At, Node}
use Rattle.c_core.specs.Tree as tree
use Rattle.c_initial_rules.specs.declared.addresses.Location.{Location}
use Rattle.c_initial_rules.specs.declared.addresses.PointerConstant.{PointerConstant}
use Rattle.c_initial_rules.specs.declared.addresses.PointerConstant.TheVariants as p

-- ---- one step in an object

-- A byte between the bounds of the pointer, or the end of them. A pointer without bounds has those of its object, and of
-- an object whose size isn't known here only the first byte is sure.
abbrev pub is_between : ℕ → ℕ → ℤ → Bool
is_between low high byte = int_le (pos low) byte && int_le byte (pos high)

abbrev pub is_in_object : Option ℕ → ℤ → Bool
is_in_object None byte = is_between 0 0 byte
is_in_object (Some size) byte = is_between 0 size byte

abbrev pub is_inside : Option Bounds → Option ℕ → ℤ → Bool
is_inside None size byte = is_in_object size byte
is_inside (Some bounds) size byte = is_between bounds.low bounds.high byte

abbrev pub placed : Location → ℤ → Option Location
placed location byte = if is_inside location.bounds location.size byte
    then Some (record location { offset = unsigned_abs byte }) else None

-- so many bytes further, which may be below 0
abbrev pub moved : Option Location → ℤ → Option Location
moved None by = None
moved (Some location) by = placed location (pos location.offset +ℤ by)

-- So many bytes lie there. An object whose size isn't known has at least the first element of its array.
abbrev pub has_room : Option Bounds → Option ℕ → ℕ → ℕ → Bool
has_room None None offset size = offset == 0
has_room bounds known offset size = is_inside bounds known (pos (offset + size))

-- the bounds are those of an array of that many bytes, which begins here
abbrev pub narrow : ℕ → Location → Option Location
narrow size location = if has_room location.bounds location.size location.offset size
    then Some (record location {
      bounds = Some (record { low = location.offset; high = location.offset + size });
    })
    else None

abbrev pub narrowed : ℕ → Option Location → Option Location
narrowed size None = None
narrowed size (Some location) = narrow size location

-- so many elements further, forwards or back (6.5.6p8)
abbrev pub distance : Stride → ℤ → ℤ
distance stride number =
    if stride.back then neg_ℤ (number *ℤ pos stride.size) else number *ℤ pos stride.size

-- by a number that is an integer constant expression with a value
abbrev pub stepped : Stride → Option Location → Result ℤ ConstFault → Option Location
stepped stride location (Ok number) = moved location (distance stride number)
stepped stride location (Err fault) = None

-- ---- expressions

abbrev pub known_size : Option Layout → Option ℕ
known_size None = None
known_size (Some layout) = Some layout.size

-- the first byte of a static object; an automatic object has no address that is known (6.2.4p5)
abbrev pub located_object : List Structure → CType → ObjectName → Option Location
located_object structures type (object.Static token) = Some (record {
  object = token;
  offset = 0;
  bounds = None;
  size = known_size (layout_of type structures);
})
located_object structures type (object.Slot slot) = None

-- Where a place is, or to where a pointer points. No object is accessed for it (6.6p9).
abbrev mutual
  pub located : List Structure → Core → Option Location
  located structures (At of place node) = located_node structures of node

  pub located_node : List Structure → CType → Node → Option Location
  located_node structures of (tree.Object name) = located_object structures of name
  located_node structures of (tree.Member at place) = moved (located structures place) (pos at)
  located_node structures of (tree.Reach by size align pointer) = located structures pointer
  located_node structures of (tree.Narrow size place) = narrowed size (located structures place)
  located_node structures of (tree.AddressOf place) = located structures place
  located_node structures of (tree.Retype pointer) = located structures pointer
  located_node structures of (tree.Step stride number_first pointer number) =
      stepped stride (located structures pointer) (constant_of number)
  located_node structures of other = None

-- ---- pointers

abbrev pub address_of : Location → Address
address_of location =
    record { object = location.object; offset = location.offset; bounds = location.bounds }

abbrev pub address_constant : Option Location → Option PointerConstant
address_constant None = None
address_constant (Some location) = Some (p.Address (address_of location))

-- a pointer that is a constant: null, to a function, or to an object
abbrev mutual
  pub pointer_constant : List Structure → Core → Option PointerConstant
  pointer_constant structures (At of place node) = pointer_node structures of node

  pub pointer_node : List Structure → CType → Node → Option PointerConstant
  pointer_node structures of tree.Null = Some p.Null
  pointer_node structures of (tree.Function name) = Some (p.Function name)
  pointer_node structures of (tree.Retype pointer) = pointer_constant structures pointer
  pointer_node structures of other = address_constant (located_node structures of other)
