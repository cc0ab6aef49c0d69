-- The memory management functions (7.22.3).
use Rattle.std.specs.Prelude.{ℕ, ◌%◌, ◌*◌, ◌==◌, nat_le, ◌&&◌, Bool, true, false, not, List, [], ◌∷◌, replicate, Option}
use Rattle.std.specs.Prelude.{Some, None, length, if◌then◌else◌}
use Rattle.std.specs.Option.{option_map_or}
use Rattle.critical_table.specs.declared.case.Case.{Case}
use Rattle.critical_table.specs.declared.case.Case.TheVariants.{L9, L11}
use Rattle.object_store.specs.declared.class.Class.TheVariants.{Allocated}
use Rattle.object_store.specs.declared.pointer.Pointer.{Pointer}
use Rattle.object_store.specs.Object.{Object, object_of}
use Rattle.object_store.specs.Storage.{Storage, is_live, fits}
use Rattle.object_store.specs.Steps.{next_number, bytes_at, cells_of}
use Rattle.lib_defs.specs.declared.value.Value.TheVariants.{Ptr, Nothing}
use Rattle.lib_defs.specs.Units.{rsize_max}
use Rattle.lib_defs.specs.Reply.{Patch, no_change, FailsValue, Did, Done, Fails, null}
use Rattle.lib_defs.specs.Columns.{is_null}
use Rattle.lib_defs.specs.Rules.{done_with}

-- The object with this number was released, or its block left.
abbrev pub is_dead : Storage → ℕ → Bool
is_dead s number = option_map_or (λ (o : Object). not o.live) (object_of s.objects number) false

-- the case of a release of this pointer, if it is one: that of a dead allocated object, or of a pointer that is not
-- the place of a live one; its bounds are no matter
abbrev pub release_case : Storage → Pointer → Option Case
release_case s p =
    if is_null p then None else
    if (p.object % 2 == 1) && is_dead s p.object then Some L11 else
    if (p.object % 2 == 1) && (is_live s p.object && (p.offset == 0)) then None else Some L9

-- the pointer to an object that is made now
abbrev pub new_pointer : Storage → ℕ → Pointer
new_pointer s size = record { object = next_number s Allocated; offset = 0; low = 0; high = size }

-- An object of this size can be made: one from 1 to RSIZE_MAX, which is within the budget once so many bytes are given
-- back.
abbrev pub can_make : Storage → (released size : ℕ) → Bool
can_make s released size = nat_le 1 size && (nat_le size rsize_max && fits s released size)

-- a new object with these bytes in front, if one can be made, and the end of another one; else null, and no change
abbrev pub make_if : Bool → Storage → ℕ → List Patch → Option ℕ → Did
make_if false s size stores released = done_with [] (Ptr null)
make_if true s size stores released =
    Done (record { made = Some size; stores = stores; released = released }) None (Ptr (new_pointer s size))

-- malloc
abbrev pub malloc_did : Storage → ℕ → Did
malloc_did s size = make_if (can_make s 0 size) s size [] None

-- calloc: an object of n times size bytes, with zeros; the product is exact
abbrev pub calloc_did : Storage → (n size : ℕ) → Did
calloc_did s n size =
    make_if (can_make s 0 (n * size)) s (n * size)
    (record { place = new_pointer s (n * size); bytes = replicate (n * size) (Some 0) } ∷ []) None

-- the size of an object
abbrev pub object_size : Storage → ℕ → ℕ
object_size s number = length (cells_of s.objects number)

-- what is done with a pointer that may be released; null has a row of its own
abbrev pub release_then : Option Case → Bool → Pointer → (if_null go : Did) → Did
release_then (Some case) none p if_null go = Fails (FailsValue case p)
release_then None true p if_null go = if_null
release_then None false p if_null go = go

-- realloc: of null a malloc; else a new object with the old bytes, as far as it goes, and the end of the old one, whose
-- bytes are given back already when the budget is asked
abbrev pub realloc_did : Storage → Pointer → ℕ → Did
realloc_did s p size =
    release_then (release_case s p) (is_null p) p (malloc_did s size)
    (make_if (can_make s (object_size s p.object) size) s size
    (record { place = new_pointer s size; bytes = bytes_at s p size } ∷ []) (Some p.object))

-- free: nothing of null, else the object ends
abbrev pub free_did : Storage → Pointer → Did
free_did s p =
    release_then (release_case s p) (is_null p) p (Done no_change None Nothing)
    (Done (record no_change { released = Some p.object }) None Nothing)
