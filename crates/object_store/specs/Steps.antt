-- What each operation makes of the store.
use Rattle.std.specs.Prelude.{ℕ, ◌+◌, ◌-◌, ◌==◌, Bool, true, false, List, [], ◌∷◌, ◌++◌, Option, Some, None, length}
use Rattle.std.specs.Prelude.{take, drop, map, replicate, slice_get, slice_set}
use Rattle.std.specs.Option.{option_map_or}
use Rattle.object_store.specs.declared.class.Class.{Class}
use Rattle.object_store.specs.declared.mark.Mark.{Mark}
use Rattle.object_store.specs.declared.mark.Mark.TheVariants.{Plain}
use Rattle.object_store.specs.declared.cell.Cell.{Cell}
use Rattle.object_store.specs.declared.pointer.Pointer.{Pointer}
use Rattle.object_store.specs.Object.{Object, number_of, place_of, object_of}
use Rattle.object_store.specs.Storage.{Storage}

-- a cell that holds a byte, or is indeterminate, and may be stored to
abbrev pub stored_cell : Option ℕ → Cell
stored_cell byte = record { byte = byte; mark = Plain }

-- a new object: live, plain and indeterminate
abbrev pub new_object : ℕ → Class → Object
new_object size class = record { class = class; live = true; cells = replicate size (stored_cell None) }

-- the number that the next object gets
abbrev pub next_number : Storage → Class → ℕ
next_number s class = number_of class (length s.objects + 1)

-- an object is made
abbrev pub with_new : Storage → ℕ → Class → Storage
with_new s size class = record s { objects = s.objects ++ new_object size class ∷ [] }

-- the object with this number is changed
abbrev pub update : List Object → ℕ → (Object → Object) → List Object
update objects number change =
    option_map_or (λ o. slice_set objects (place_of number) (change o)) (slice_get objects (place_of number)) objects

-- the lifetime of the object ends
abbrev pub with_dead : Storage → ℕ → Storage
with_dead s number = record s { objects = update s.objects number (λ o. record o { live = false }) }

-- the cells from a place on are replaced by as many others
abbrev pub with_cells : List Cell → ℕ → List Cell → List Cell
with_cells cells at other = take at cells ++ other ++ drop (at + length other) cells

-- the cells of a range
abbrev pub range : List Cell → ℕ → ℕ → List Cell
range cells at len = take len (drop at cells)

-- a cell gets a mark
abbrev pub mark_cell : Mark → Cell → Cell
mark_cell mark c = record c { mark = mark }

-- the cells of a range get a mark
abbrev pub with_mark : Storage → ℕ → ℕ → ℕ → Mark → Storage
with_mark s number at len mark = record s {
  objects = update s.objects number
      (λ o. record o { cells = with_cells o.cells at (map (mark_cell mark) (range o.cells at len)) });
}

-- a call is entered, and left
abbrev pub with_call : Storage → Storage
with_call s = record s { open_calls = s.open_calls + 1 }

abbrev pub without_call : Storage → Storage
without_call s = record s { open_calls = s.open_calls - 1 }

-- the cells of the object that has this number
abbrev pub cells_of : List Object → ℕ → List Cell
cells_of objects number = option_map_or (λ o. o.cells) (object_of objects number) []

-- the bytes that a range holds; none where a cell is indeterminate
abbrev pub bytes_in : List Object → Pointer → ℕ → List (Option ℕ)
bytes_in objects place len = map (λ c. c.byte) (range (cells_of objects place.object) place.offset len)

-- the same in a store
abbrev pub bytes_at : Storage → Pointer → ℕ → List (Option ℕ)
bytes_at s place len = bytes_in s.objects place len

-- the cells from the pointer's place on are replaced by cells with these bytes
abbrev pub with_bytes : List Object → Pointer → List (Option ℕ) → List Object
with_bytes objects place bytes = update objects place.object
    (λ o. record o { cells = with_cells o.cells place.offset (map stored_cell bytes) })

-- A store: the cells of the range are replaced, and the store is noted. One of no bytes changes nothing, and is none.
unfoldable pub with_store : Storage → Pointer → List (Option ℕ) → Storage
with_store s place [] = s
with_store s place (b ∷ bytes) = record s {
  objects = with_bytes s.objects place (b ∷ bytes);
  writes = s.writes ++ record { object = place.object; at = place.offset; len = length (b ∷ bytes) } ∷ [];
}

-- whether a byte is known, and 0
abbrev pub is_null : Option ℕ → Bool
is_null None = false
is_null (Some b) = b == 0

-- whether a byte is 0, or indeterminate: a text ends there, or can't be read on
abbrev pub is_text_end : Option ℕ → Bool
is_text_end None = true
is_text_end (Some b) = b == 0
