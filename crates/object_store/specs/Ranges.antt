-- Ranges that lie in a live object.
use Rattle.std.specs.Prelude.{◌≡◌, ℕ, ◌+◌, ◌≤◌, true, List, length, slice_get, Some}
use Rattle.object_store.specs.declared.pointer.Pointer.{Pointer}
use Rattle.object_store.specs.Object.{Object, place_of, object_of}

-- the object of the range, and that it has all the bytes
pub record IsLiveRange (objects : List Object) (place : Pointer) (len : ℕ) : Type 0 where
  pub object : Object
  pub at : slice_get objects (place_of place.object) ≡ Some object
  pub own : object_of objects place.object ≡ Some object
  pub live : object.live ≡ true
  pub high : place.high ≤ length object.cells
  pub within : place.offset + len ≤ place.high
