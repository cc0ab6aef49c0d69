-- Lines of a journal, for examples.
use Rattle.std.proofs.Common.{ℕ, List, [], ◌∷◌}
use Rattle.std.specs.Prelude.{codes, pos}
use Rattle.object_store.specs.declared.by.By.TheVariants.{Star}
use Rattle.object_store.specs.declared.class.Class.TheVariants.{Static, Automatic}
use Rattle.object_store.specs.declared.mark.Mark.TheVariants.{Literal}
use Rattle.lib_defs.specs.declared.shown.Shown.TheVariants.{Number, Place}
use Rattle.run_defs.specs.declared.attempt.Attempt.{Attempt}
use Rattle.run_defs.specs.declared.event.Event.{Event}
use Rattle.run_defs.specs.declared.event.Event.TheVariants as event
use Rattle.run_defs.specs.declared.outcome.End.TheVariants as end
use Rattle.run_defs.specs.Evaluation.{whole}
use Rattle.run_defs.proofs.ExampleRuns.{row}

-- Three lines: a static object of 8 bytes with the number 2, a literal of 5 bytes with 4, an automatic object with 6.
abbrev pub begins : List Event
begins =
    event.Made 2 8 Static
    ∷ event.Made 4 5 Static
    ∷ event.Sealed 4 (record { at = 0; len = 5; mark = Literal })
    ∷ event.Made 6 4 Automatic ∷ []

abbrev pub exits : Event
exits = event.Ended (end.Exited 0)

abbrev pub stores : ℕ → ℕ → ℕ → Event
stores object at len = event.Stored (record { object = object; at = at; len = len })

abbrev pub attempt : ℕ → ℕ → Attempt
attempt object len = record { place = whole object 4; len = len; align = 1; by = Star }

-- strcpy_s(p, 2, 4:0), where the object of p has the number
abbrev pub begins_copy : ℕ → Event
begins_copy object = event.Called (row 5) (Place object 0 ∷ Number (pos 2) ∷ Place 4 0 ∷ [])

abbrev pub violates : ℕ → Event
violates k = event.Violated (row 5) k

abbrev pub gives : ℕ → Event
gives n = event.Returned (row 5) (Number (pos n))

abbrev pub aborts : Event
aborts = event.HandlerCalled (codes "abort_handler_s")
