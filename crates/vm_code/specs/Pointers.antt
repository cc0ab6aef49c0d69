-- What the operators make of pointers (6.5.2.3, 6.5.6, 6.5.8, 6.5.9). Only their four numbers are looked at: a pointer
-- to an object whose lifetime has ended may be moved and compared, and traps where it is reached.
use Rattle.std.specs.Prelude.{ℕ, ◌+◌, ◌%◌, ◌^◌, ◌==◌, nat_lt, nat_le, Bool, ◌&&◌, ◌||◌, ℤ, pos}
use Rattle.std.specs.Prelude.{◌+ℤ◌, ◌-ℤ◌, ◌*ℤ◌, neg_ℤ, int_le, int_div, unsigned_abs, Result, Ok, Err, if◌then◌else◌}
use Rattle.std.specs.Int.{int_rem_euclid}
use Rattle.acc_num.specs.Operations.{is_zero}
use Rattle.critical_table.specs.declared.code.Code.{Code}
use Rattle.critical_table.specs.declared.code.Code.TheVariants.{U06, U07, U08}
use Rattle.object_store.specs.declared.pointer.Pointer.{Pointer}
use Rattle.lib_defs.specs.Columns.{is_null}
use Rattle.c_core.specs.declared.operator.Relation.{Relation}
use Rattle.c_core.specs.declared.operator.Relation.TheVariants as r
use Rattle.c_core.specs.declared.operator.Stride.{Stride}

-- the pointer at an offset, which lies between its bounds or at the upper one (6.5.6p8)
abbrev pub at_offset : Pointer → ℤ → Result Pointer Code
at_offset p offset =
    if int_le (pos p.low) offset && int_le offset (pos p.high)
    then Ok (record p { offset = unsigned_abs offset })
    else Err U06

-- so many elements, forwards or back, in bytes
abbrev pub distance : Stride → ℤ → ℤ
distance stride number =
    if stride.back then neg_ℤ (number *ℤ pos stride.size) else number *ℤ pos stride.size

-- a pointer that moves over elements; its bounds stay (6.5.6p8)
abbrev pub moved : Stride → Pointer → ℤ → Result Pointer Code
moved stride p number = at_offset p (pos p.offset +ℤ distance stride number)

-- the elements of a size that lie in so many bytes, where these are whole elements
abbrev pub elements : ℕ → ℤ → Result ℤ Code
elements size bytes = if is_zero (int_rem_euclid bytes (pos size)) then Ok (int_div bytes (pos size)) else Err U07

-- the elements between two pointers into one object (6.5.6p9)
abbrev pub difference : ℕ → Pointer → Pointer → Result ℤ Code
difference size p q = if p.object == q.object then elements size (pos p.offset -ℤ pos q.offset) else Err U07

-- whether two offsets are in this order
abbrev pub offsets_ordered : Relation → ℕ → ℕ → Bool
offsets_ordered r.Less a b = nat_lt a b
offsets_ordered r.LessEqual a b = nat_le a b
offsets_ordered r.GreaterEqual a b = nat_le b a
offsets_ordered r.Greater a b = nat_lt b a

-- the order of two pointers into one object (6.5.8p5)
abbrev pub ordered : Relation → Pointer → Pointer → Result Bool Code
ordered relation p q = if p.object == q.object then Ok (offsets_ordered relation p.offset q.offset) else Err U08

-- two pointers are equal where both are null, or where they point to the same byte (6.5.9p6)
abbrev pub same_pointer : Pointer → Pointer → Bool
same_pointer p q = (is_null p && is_null q) || (p.object == q.object && (p.offset == q.offset))

-- A number in a pointer has 32 bits. No object has as many bytes, so the sums below stay what they are wherever the
-- place was reached.
abbrev pub in_word : ℕ → ℕ
in_word n = n % 2 ^ 32

-- the place of a member, with the bounds of the structure's place (6.5.2.3p3)
abbrev pub member_place : ℕ → Pointer → Pointer
member_place at p = record p { offset = in_word (p.offset + at) }

-- an array of so many bytes as a pointer to its first element, bounded by the array (6.3.2.1p3)
abbrev pub array_pointer : ℕ → Pointer → Pointer
array_pointer size p = record p { low = p.offset; high = in_word (p.offset + size) }
