-- What holds of each meaning, whatever the library, the unit, its input and its budgets are.
use Rattle.std.specs.Prelude.{◌≡◌, List, [], ◌∷◌, ◌++◌}
use Rattle.lib_defs.specs.Library.{Library}
use Rattle.lib_defs.specs.World.{Input}
use Rattle.run_defs.specs.declared.event.Event.{Event}
use Rattle.run_defs.specs.declared.event.Event.TheVariants.{Ended}
use Rattle.run_defs.specs.Outcomes.{end_of}
use Rattle.run_defs.specs.Starts.{Budgets}
use Rattle.c_core.specs.TreeUnit.{Program}
use Rattle.code_gen.specs.Meaning.{Meaning, meaning}

-- the last line of the journal is the end, and tells the outcome
pub record EndsWithEnd (m : Meaning) : Type 0 where
  pub before : List Event
  pub last : m.journal ≡ before ++ Ended (end_of m.outcome) ∷ []

abbrev pub EachJournalEnds : Type 0
EachJournalEnds = (library : Library) (program : Program) (input : Input) (budgets : Budgets)
    → EndsWithEnd (meaning library program input budgets)
