-- The units from a pointer, read one at a time, as far as they pass a test.
use Rattle.std.specs.Prelude.{◌≡◌, ℕ, zero, suc, ◌<◌, ◌≤◌, ◌⊎◌, Bool, true, false, Option, Some, None}
use Rattle.std.specs.Prelude.{if◌then◌else◌}
use Rattle.critical_table.specs.declared.case.Case.{Case}
use Rattle.object_store.specs.declared.by.By.TheVariants.{TextRead}
use Rattle.object_store.specs.declared.pointer.Pointer.{Pointer}
use Rattle.object_store.specs.Storage.{Storage}
use Rattle.object_store.specs.Steps.{bytes_at}
use Rattle.object_store.specs.Reach.{reach}
use Rattle.object_store.specs.Load.{known_number}
use Rattle.lib_defs.specs.declared.reading.Reading.{Reading}
use Rattle.lib_defs.specs.declared.reading.Reading.TheVariants.{Length, Unreached, Unknown}
use Rattle.lib_defs.specs.Units.{unit_place}

-- the case that a read of the k-th unit is
abbrev pub unit_case : ℕ → Storage → Pointer → ℕ → Option Case
unit_case w s p k = reach s (unit_place w p k) w w TextRead

-- the number of its bytes, where none is indeterminate; that of the null is 0
abbrev pub unit_number : ℕ → Storage → Pointer → ℕ → Option ℕ
unit_number w s p k = known_number (bytes_at s (unit_place w p k) w)

-- a unit that is reached and has this number, or none
pub record IsUnit (w : ℕ) (s : Storage) (p : Pointer) (k : ℕ) (found : Option ℕ) : Type 0 where
  pub reached : unit_case w s p k ≡ None
  pub number : unit_number w s p k ≡ found

-- a unit that is reached and determinate, and of which the test answers so
pub record IsTested (test : ℕ → Bool) (answer : Bool) (w : ℕ) (s : Storage) (p : Pointer) (k : ℕ) : Type 0 where
  pub number : ℕ
  pub unit : IsUnit w s p k (Some number)
  pub answers : test number ≡ answer

-- the first n units pass
abbrev pub AllPass : (ℕ → Bool) → ℕ → Storage → Pointer → ℕ → Type 0
AllPass test w s p n = (k : ℕ) → k < n → IsTested test true w s p k

-- What the units that pass come to, of at most m, by conditions on one n. There are n of them: the first n pass, and
-- there are no more, or the next does not pass.
pub record Ends (test : ℕ → Bool) (w : ℕ) (s : Storage) (p : Pointer) (m n : ℕ) : Type 0 where
  pub within : n ≤ m
  pub before : AllPass test w s p n
  pub ended : (n ≡ m) ⊎ IsTested test false w s p n

-- the first n pass, and the next is not reached
pub record TrapsAt (test : ℕ → Bool) (w : ℕ) (s : Storage) (p : Pointer) (m : ℕ) (case : Case) (place : Pointer)
    : Type 0 where
  pub n : ℕ
  pub within : n < m
  pub before : AllPass test w s p n
  pub at : place ≡ unit_place w p n
  pub fails : unit_case w s p n ≡ Some case

-- the first n pass, and a byte of the next is indeterminate
pub record IsUnknown (test : ℕ → Bool) (w : ℕ) (s : Storage) (p : Pointer) (m : ℕ) : Type 0 where
  pub n : ℕ
  pub within : n < m
  pub before : AllPass test w s p n
  pub unit : IsUnit w s p n None

abbrev pub Reads : (ℕ → Bool) → ℕ → Storage → Pointer → ℕ → Reading → Type 0
Reads test w s p m (Length n) = Ends test w s p m n
Reads test w s p m (Unreached case place) = TrapsAt test w s p m case place
Reads test w s p m Unknown = IsUnknown test w s p m

-- The one reading that meets them, which nothing unfolds.
abbrev pub stop_at : (ℕ → Bool) → Option Case → Option ℕ → Pointer → ℕ → Option Reading
stop_at test (Some case) number place k = Some (Unreached case place)
stop_at test None None place k = Some Unknown
stop_at test None (Some number) place k = if test number then None else Some (Length k)

abbrev pub stop : (ℕ → Bool) → ℕ → Storage → Pointer → ℕ → Option Reading
stop test w s p k = stop_at test (unit_case w s p k) (unit_number w s p k) (unit_place w p k) k

-- the reading that a unit ends, or that of the units behind it
abbrev pub or_later : Option Reading → (Unit {0} → Reading) → Reading
or_later (Some reading) later = reading
or_later None later = later tt

abbrev pub span_from : (ℕ → Bool) → ℕ → Storage → Pointer → ℕ → ℕ → Reading
span_from test w s p k zero = Length k
span_from test w s p k (suc m) = or_later (stop test w s p k) (λ u. span_from test w s p (suc k) m)

unfoldable pub span : (ℕ → Bool) → ℕ → Storage → Pointer → ℕ → Reading
span test w s p m = span_from test w s p 0 m
