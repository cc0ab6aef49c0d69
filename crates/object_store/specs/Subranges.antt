-- Subranges of a range that was reached.
use Rattle.std.specs.Prelude.{ℕ, ◌+◌, ◌≤◌}
use Rattle.object_store.specs.declared.pointer.Pointer.{Pointer}
use Rattle.object_store.specs.Storage.{Storage}
use Rattle.object_store.specs.Reach.{IsReached, IsReachedToStore}

-- the pointer, so many bytes on
abbrev pub move_by : ℕ → Pointer → Pointer
move_by n place = record place { offset = place.offset + n }

-- Each part of a range that is reached is reached.
abbrev pub SubrangesAreReached : Type 0
SubrangesAreReached = (s : Storage) (place : Pointer) (len at n : ℕ) → at + n ≤ len → IsReached s place len
    → IsReached s (move_by at place) n

-- Each part of a range that is reached to store is reached to store.
abbrev pub SubrangesAreReachedToStore : Type 0
SubrangesAreReachedToStore = (s : Storage) (place : Pointer) (len at n : ℕ) → at + n ≤ len
    → IsReachedToStore s place len
    → IsReachedToStore s (move_by at place) n
