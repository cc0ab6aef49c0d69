-- The text at a pointer: its units before the first null (K.3.7.4.4).
use Rattle.std.specs.Prelude.{ℕ, ◌==◌, Bool, not}
use Rattle.object_store.specs.declared.pointer.Pointer.{Pointer}
use Rattle.object_store.specs.Storage.{Storage}
use Rattle.lib_defs.specs.declared.reading.Reading.{Reading}
use Rattle.lib_defs.specs.Spans.{Reads, span}

-- a unit that is no null
abbrev pub goes_on : ℕ → Bool
goes_on number = not (number == 0)

-- What a text of at most m units comes to: n is at most m, the units before it are reached, determinate and no null,
-- and n is m or the unit there is null; or the reach of a unit fails; or one is indeterminate.
abbrev pub ReadsText : ℕ → Storage → Pointer → ℕ → Reading → Type 0
ReadsText w s p m reading = Reads goes_on w s p m reading

-- the one reading that meets it
abbrev pub text : ℕ → Storage → Pointer → ℕ → Reading
text w s p m = span goes_on w s p m
