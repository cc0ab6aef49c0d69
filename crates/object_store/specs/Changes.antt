-- A store changes the cells of its range alone, and no reach; its range then holds the bytes.
use Rattle.std.specs.Prelude.{◌≡◌, ◌≢◌, ℕ, ◌+◌, ◌<◌, ◌≤◌, ◌⊎◌, slice_get, List, length, Option}
use Rattle.object_store.specs.declared.by.By.{By}
use Rattle.object_store.specs.declared.pointer.Pointer.{Pointer}
use Rattle.object_store.specs.Storage.{Storage}
use Rattle.object_store.specs.Steps.{cells_of, bytes_at, with_store}
use Rattle.object_store.specs.Reach.{reach, IsReachedToStore}

-- The cells of all other objects, and those before and behind the range, are as before.
abbrev pub ChangesOnly : Storage → Storage → Pointer → ℕ → Type 0
ChangesOnly old new place len = (number k : ℕ)
    → (number ≢ place.object) ⊎ ((k < place.offset) ⊎ (place.offset + len ≤ k))
    → slice_get (cells_of new.objects number) k ≡ slice_get (cells_of old.objects number) k

-- Each access reaches its range, or is the same case, as before.
abbrev pub SameReach : Storage → Storage → Type 0
SameReach old new = (place : Pointer) (len align : ℕ) (by : By)
    → reach new place len align by ≡ reach old place len align by

-- A store is there: its range holds the bytes that were stored.
abbrev pub StoresAreThere : Type 0
StoresAreThere = (s : Storage) (place : Pointer) (bytes : List (Option ℕ)) → IsReachedToStore s place (length bytes)
    → bytes_at (with_store s place bytes) place (length bytes) ≡ bytes
