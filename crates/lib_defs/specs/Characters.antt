-- The characters of a text that is read to be written.
use Rattle.std.specs.Prelude.{◌≡◌, ℕ, zero, suc, ◌+◌, ◌<◌, ◌≤◌, ◌⊎◌, List, [], ◌∷◌, ◌++◌, length, slice_index}
use Rattle.std.specs.Prelude.{Option, Some, None}
use Rattle.object_store.specs.declared.by.By.TheVariants.{OtherRead}
use Rattle.object_store.specs.declared.pointer.Pointer.{Pointer}
use Rattle.object_store.specs.Storage.{Storage}
use Rattle.object_store.specs.Steps.{bytes_at}
use Rattle.object_store.specs.Load.{known_number}
use Rattle.lib_defs.specs.Units.{unit_place, rsize_max}
use Rattle.lib_defs.specs.Reply.{Stop}
use Rattle.lib_defs.specs.Constraints.{Look, Saw, Stuck, see_range}
use Rattle.lib_defs.specs.PlainMemory.{see_known}

-- characters as far as they come, and why no more of them do, where a stop comes
pub record Characters : Type 0 where
  pub list : List ℕ
  pub stop : Option Stop

abbrev pub ended_by : Option Stop → Characters
ended_by stop = record { list = []; stop = stop }

abbrev pub behind : List ℕ → Characters → Characters
behind front rest = record rest { list = front ++ rest.list }

-- one character, by a function that is none of the string functions
abbrev pub see_character : Storage → Pointer → Look ℕ
see_character s p = see_range s p 1 1 OtherRead (see_known (known_number (bytes_at s p 1)))

abbrev pub character_then : Look ℕ → (Unit {0} → Characters) → Characters
character_then (Stuck stop) rest = ended_by (Some stop)
character_then (Saw zero) rest = ended_by None
character_then (Saw (suc c)) rest = behind (suc c ∷ []) (rest tt)

-- What the characters from the k-th on come to, at most so many, by conditions on how many there are: each of them is
-- read, and is no null; and they are as many as may be, or the null is behind them, or the read of the next stops.
pub record IsCharacter (s : Storage) (p : Pointer) (k c : ℕ) : Type 0 where
  pub read : see_character s (unit_place 1 p k) ≡ Saw c
  pub some : 0 < c

abbrev pub EndsWith : Storage → Pointer → (k n most : ℕ) → Option Stop → Type 0
EndsWith s p k n most None = (n ≡ most) ⊎ (see_character s (unit_place 1 p (k + n)) ≡ Saw 0)
EndsWith s p k n most (Some stop) = (n < most) × (see_character s (unit_place 1 p (k + n)) ≡ Stuck stop)

pub record AreRead (s : Storage) (p : Pointer) (k most : ℕ) (c : Characters) : Type 0 where
  pub within : length c.list ≤ most
  pub each : (i : ℕ) → i < length c.list → IsCharacter s p (k + i) (slice_index c.list i)
  pub ended : EndsWith s p k (length c.list) most c.stop

-- The characters that meet them: those from the k-th on, read one by one to the null, at most so many
abbrev pub characters_from : Storage → Pointer → (k most : ℕ) → Characters
characters_from s p k zero = ended_by None
characters_from s p k (suc most) =
    character_then (see_character s (unit_place 1 p k)) (λ u. characters_from s p (suc k) most)

-- those at a place
abbrev pub characters_at : Storage → Pointer → (most : ℕ) → Characters
characters_at s p most = characters_from s p 0 most

-- those of a string: no object has more
abbrev pub string_at : Storage → Pointer → Characters
string_at s p = characters_at s p (rsize_max + 1)

-- all of them, where no stop comes
abbrev pub whole_by : List ℕ → Option Stop → Look (List ℕ)
whole_by list None = Saw list
whole_by list (Some stop) = Stuck stop

abbrev pub whole : Characters → Look (List ℕ)
whole characters = whole_by characters.list characters.stop
