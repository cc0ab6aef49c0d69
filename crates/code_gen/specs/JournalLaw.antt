-- The journal of each run is lawful: over every library that keeps its laws, for each well-typed unit, input and
-- budgets.
use Rattle.std.specs.Prelude.{ℕ, ◌<◌, ◌≤◌}
use Rattle.std.specs.List.{All}
use Rattle.lib_defs.specs.Library.{Library}
use Rattle.lib_defs.specs.Laws.{KeepsLaws}
use Rattle.lib_defs.specs.World.{Input}
use Rattle.run_defs.specs.Starts.{Budgets}
use Rattle.run_defs.specs.Replay.{IsLawful}
use Rattle.c_core.specs.TreeUnit.{Program}
use Rattle.c_core.specs.TypedUnit.{IsWellTyped}
use Rattle.code_gen.specs.Meaning.{meaning}

-- A run takes at most so many ticks.
abbrev pub most_ticks : ℕ
most_ticks = 2000000000

abbrev pub EachJournalIsLawful : Type 0
EachJournalIsLawful = (library : Library) → KeepsLaws library → (program : Program) → IsWellTyped program
    → (input : Input) → All (λ (b : ℕ). b < 256) input.bytes → (budgets : Budgets) → budgets.ticks ≤ most_ticks
    → IsLawful (meaning library program input budgets).journal
