-- Objects and their numbers.
use Rattle.std.specs.Prelude.{ℕ, ◌+◌, ◌-◌, ◌*◌, ◌/◌, ◌==◌, Bool, List, Option, Some, None, slice_get, if◌then◌else◌}
use Rattle.std.specs.Option.{option_and_then}
use Rattle.object_store.specs.declared.class.Class.{Class}
use Rattle.object_store.specs.declared.class.Class.TheVariants.{Static, Automatic, Allocated}
use Rattle.object_store.specs.declared.cell.Cell.{Cell}

-- An object (3.15): how it is stored, whether its lifetime goes on (6.2.4), and its cells. A cell is a byte or
-- indeterminate, and has a mark.
pub record Object : Type 0 where
  pub class : Class
  pub live : Bool
  pub cells : List Cell

-- the number of the k-th object, counted from 1
abbrev pub number_of : Class → ℕ → ℕ
number_of Static k = 2 * k
number_of Automatic k = 2 * k
number_of Allocated k = 2 * k + 1

-- the place in the list of all objects at which an object with this number stands
abbrev pub place_of : ℕ → ℕ
place_of number = number / 2 - 1

-- an object that stands at the place of this number, if the number is its own
abbrev pub numbered : ℕ → Object → Option Object
numbered number object = if number_of object.class (place_of number + 1) == number then Some object else None

-- the object with this number, among all objects that were ever made
abbrev pub object_of : List Object → ℕ → Option Object
object_of objects number = option_and_then (numbered number) (slice_get objects (place_of number))
