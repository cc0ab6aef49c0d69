-- What the constraints and actions of Annex K speak of.
use Rattle.std.specs.Prelude.{ℕ, ◌+◌, ◌*◌, ◌==◌, ◌&&◌, nat_lt, not, Bool, List, [], ◌∷◌, replicate, Option, Some}
use Rattle.std.specs.Prelude.{None, if◌then◌else◌}
use Rattle.object_store.specs.declared.pointer.Pointer.{Pointer}
use Rattle.object_store.specs.Storage.{Storage}
use Rattle.object_store.specs.Steps.{bytes_at}
use Rattle.lib_defs.specs.Units.{unit_place, size, rsize_max}
use Rattle.lib_defs.specs.Reply.{Patch, Fill}

abbrev pub is_null : Pointer → Bool
is_null p = p.object == 0

-- above RSIZE_MAX
abbrev pub above : ℕ → Bool
above n = nat_lt rsize_max n

-- n bytes at p and k bytes at q have a byte in common, by their numbers alone
abbrev pub overlap : Pointer → ℕ → Pointer → ℕ → Bool
overlap p n q k =
    (p.object == q.object)
    && (nat_lt 0 n && (nat_lt 0 k && (nat_lt p.offset (q.offset + k) && nat_lt q.offset (p.offset + n))))

-- max units of one byte each at p, if p is not null and max is not above RSIZE_MAX
abbrev pub fill_action : ℕ → Pointer → ℕ → ℕ → Option Fill
fill_action w p max byte =
    if not (is_null p) && not (above max) then Some (record { place = p; len = size w max; byte = byte }) else None

-- max nulls at p, on the same terms
abbrev pub clear_action : ℕ → Pointer → ℕ → Option Fill
clear_action w p max = fill_action w p max 0

-- a null at p, if p is not null and max is from 1 to RSIZE_MAX
abbrev pub end_action : ℕ → Pointer → ℕ → Option Fill
end_action w p max =
    if not (is_null p) && (nat_lt 0 max && not (above max)) then Some (record { place = p; len = w; byte = 0 })
    else None

-- the bytes of n units
abbrev pub units : ℕ → Storage → Pointer → ℕ → List (Option ℕ)
units w s p n = bytes_at s p (size w n)

-- a null
abbrev pub null_unit : ℕ → List (Option ℕ)
null_unit w = replicate w (Some 0)

-- k units and a null: the units first
abbrev pub ended_units : ℕ → Storage → Pointer → Pointer → ℕ → List Patch
ended_units w s to from k =
    record { place = to; bytes = bytes_at s from (w * k) }
    ∷ record { place = unit_place w to k; bytes = null_unit w }
    ∷ []

-- how many bytes are read of a text of at most n units that has k: the null too, where one was found before n
abbrev pub bytes_read : ℕ → ℕ → ℕ → ℕ
bytes_read w k n = w * (if nat_lt k n then k + 1 else n)
