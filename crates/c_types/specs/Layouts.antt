-- Sizes, alignments, and the places of members (6.2.5, 6.2.6, 6.2.8, 6.7.2.1).
use Rattle.std.specs.Prelude.{◌≡◌, ℕ, ◌+◌, ◌*◌, max, map, Bool, List, [], ◌∷◌, ◌++◌, Option, Some, None, Result, Ok}
use Rattle.std.specs.Prelude.{Err, option_map, nat_le, if◌then◌else◌}
use Rattle.std.specs.Int.{next_multiple_of}
use Rattle.acc_num.specs.declared.kind.IntKind.{IntKind}
use Rattle.acc_num.specs.declared.kind.IntKind.TheVariants as k
pub use Rattle.acc_num.specs.Kinds.{bytes_of}
use Rattle.c_types.specs.declared.basic.Basic.{Basic}
use Rattle.c_types.specs.declared.basic.Basic.TheVariants as b
use Rattle.c_types.specs.declared.layout.Layout.{Layout}
use Rattle.c_types.specs.declared.fault.LayoutFault.{LayoutFault}
use Rattle.c_types.specs.declared.fault.LayoutFault.TheVariants.{Incomplete, TooLarge}
use Rattle.c_types.specs.declared.fault.BuildFault.{BuildFault}
use Rattle.c_types.specs.declared.fault.BuildFault.TheVariants as f
use Rattle.c_types.specs.declared.shape.TypeId.{TypeId}
use Rattle.c_types.specs.Types.{Types}
use Rattle.c_types.specs.Structures.{StructureBody, Structure, structure_at, structures_of}
use Rattle.c_types.specs.CType.{CType, Plain, Array, Bare, BasicType, Pointer, Function, Compound, Enumerated, type_of}

-- the integer kind of a basic type; `void` has none (6.2.5p4 to p7; `char` is signed, 6.2.5p15)
abbrev pub kind_of : Basic → Option IntKind
kind_of b.Void = None
kind_of b.Bool = Some k.Bool
kind_of b.Char = Some k.I8
kind_of b.SChar = Some k.I8
kind_of b.UChar = Some k.U8
kind_of b.Short = Some k.I16
kind_of b.UShort = Some k.U16
kind_of b.Int = Some k.I32
kind_of b.UInt = Some k.U32
kind_of b.Long = Some k.I64
kind_of b.ULong = Some k.U64
kind_of b.LongLong = Some k.I64
kind_of b.ULongLong = Some k.U64

-- a scalar of these bytes is aligned to its size (6.2.8p1)
abbrev pub scalar : ℕ → Layout
scalar bytes = record { size = bytes; align = bytes }

abbrev pub pointer_layout : Layout
pointer_layout = record { size = 16; align = 8 }

-- an array has its elements one after the other (6.2.5p20)
abbrev pub times : ℕ → Layout → Layout
times n element = record { size = n * element.size; align = element.align }

abbrev pub basic_layout : Basic → Option Layout
basic_layout basic = option_map (λ kind. scalar (bytes_of kind)) (kind_of basic)

-- a complete structure or union has the layout that its body was given (6.2.5p22)
abbrev pub structure_layout : Structure → Option Layout
structure_layout structure = option_map (λ (body : StructureBody). body.layout) structure.body

abbrev mutual
  -- The layout of a type among these structures and unions. There is none for `void`, a function type, an incomplete
  -- structure or union, and an array without a length (6.2.5p19 to p22).
  pub layout_of : CType → List Structure → Option Layout
  layout_of (Plain bare quals) structures = bare_layout bare structures
  layout_of (Array of None) structures = None
  layout_of (Array of (Some n)) structures = option_map (times n) (layout_of of structures)

  pub bare_layout : Bare → List Structure → Option Layout
  bare_layout (BasicType basic) structures = basic_layout basic
  bare_layout (Pointer to) structures = Some pointer_layout
  bare_layout (Function gives parameters variadic) structures = None
  bare_layout (Compound number) structures = structure_layout (structure_at structures number)
  bare_layout (Enumerated number) structures = Some (scalar 4)

-- the multiple of the alignment that is next from a byte on
abbrev pub round_up : ℕ → ℕ → ℕ
round_up from align = next_multiple_of from align

-- the greatest of an alignment and those of some members
abbrev pub strictest_from : ℕ → List Layout → ℕ
strictest_from align [] = align
strictest_from align (l ∷ ls) = strictest_from (max align l.align) ls

-- the alignment of a structure or union with members of these layouts: that of the strictest member
abbrev pub strictest : List Layout → ℕ
strictest ls = strictest_from 1 ls

-- the byte behind the last member of a structure whose members are placed in order from a byte on (6.7.2.1p15)
abbrev pub end_from : ℕ → List Layout → ℕ
end_from from [] = from
end_from from (l ∷ ls) = end_from (round_up from l.align + l.size) ls

-- the greatest of a size and those of some members
abbrev pub largest_from : ℕ → List Layout → ℕ
largest_from size [] = size
largest_from size (l ∷ ls) = largest_from (max size l.size) ls

-- the byte behind the last member of a structure, or behind the largest one of a union (6.7.2.1p16)
abbrev pub end_with : Bool → List Layout → ℕ
end_with is_union ls = if is_union then largest_from 0 ls else end_from 0 ls

-- the size of a structure or union with members of these layouts, with the padding at its end (6.7.2.1p17)
abbrev pub size_with : Bool → List Layout → ℕ
size_with is_union ls = round_up (end_with is_union ls) (strictest ls)

-- the places of the members of a structure from a byte on
abbrev pub places_from : ℕ → List Layout → List ℕ
places_from from [] = []
places_from from (l ∷ ls) = round_up from l.align ∷ places_from (round_up from l.align + l.size) ls

-- the places of the members; those of a union begin at 0
abbrev pub places_with : Bool → List Layout → List ℕ
places_with is_union ls = if is_union then map (λ l. 0) ls else places_from 0 ls

abbrev pub layout_and : Option Layout → Option (List Layout) → Option (List Layout)
layout_and (Some l) (Some ls) = Some (l ∷ ls)
layout_and (Some l) None = None
layout_and None ls = None

-- the layouts of some types, if each has one
abbrev pub layouts_in : List CType → List Structure → Option (List Layout)
layouts_in [] structures = Some []
layouts_in (type ∷ types) structures = layout_and (layout_of type structures) (layouts_in types structures)

-- the layouts of the types at some ids, if each has one
abbrev pub layouts_of : Types → List TypeId → Option (List Layout)
layouts_of types ids = layouts_in (map (type_of types) ids) (structures_of types)

-- the largest object
abbrev pub largest : ℕ
largest = 16777216

-- why an object of this layout can't be had
abbrev pub layout_fault : Option Layout → Option LayoutFault
layout_fault None = Some Incomplete
layout_fault (Some layout) = if nat_le layout.size largest then None else Some TooLarge

-- why there is no array of elements with this layout
abbrev pub array_fault : Option Layout → Option ℕ → Option LayoutFault
array_fault None len = Some Incomplete
array_fault (Some element) None = None
array_fault (Some element) (Some n) = layout_fault (Some (times n element))

-- the layout of an array of that length
abbrev pub array_layout : Option Layout → Option ℕ → Option Layout
array_layout element None = None
array_layout element (Some n) = option_map (times n) element

-- A call answers this fault exactly where there is one, or else that memory ran out.
abbrev pub IsBuilt : {T : Type 0} → Option LayoutFault → Result T BuildFault → Type 0
IsBuilt fault (Ok made) = fault ≡ None
IsBuilt fault (Err (f.Layout cause)) = fault ≡ Some cause
IsBuilt fault (Err (f.Memory e)) = Unit {0}

-- why there is no structure or union with members of these layouts
abbrev pub compound_fault : Bool → Option (List Layout) → Option LayoutFault
compound_fault is_union None = Some Incomplete
compound_fault is_union (Some ls) = if nat_le (size_with is_union ls) largest then None else Some TooLarge

-- A fault that comes for want of a layout, or of memory.
abbrev pub IsForWant : Option (List Layout) → BuildFault → Type 0
IsForWant layouts (f.Layout Incomplete) = layouts ≡ None
IsForWant layouts (f.Layout TooLarge) = ⊥
IsForWant layouts (f.Memory e) = Unit {0}

-- more layouts before those that are found
abbrev pub layouts_after : List Layout → Option (List Layout) → Option (List Layout)
layouts_after found rest = option_map (λ more. found ++ more) rest
