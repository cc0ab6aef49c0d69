-- The last event of a run is its end.
use Rattle.std.specs.Prelude.{Option}
use Rattle.std.proofs.Common.{refl}
use Rattle.lib_defs.specs.declared.value.Value.{Value}
use Rattle.run_defs.specs.Evaluation.{Evaluation, Gives, Stops}
use Rattle.run_defs.specs.Starts.{Budgets}
use Rattle.code_gen.specs.Meaning.{ended, run}
use Rattle.code_gen.specs.Law.{EndsWithEnd, EachJournalEnds}

ended_ends : (e : Evaluation (Option Value)) (budgets : Budgets) → EndsWithEnd (ended e budgets)
ended_ends (Gives value s) budgets = record { before = s.journal; last = refl }
ended_ends (Stops outcome s) budgets = record { before = s.journal; last = refl }

pub each_ends : EachJournalEnds
each_ends library program input budgets = ended_ends (run library program input budgets) budgets
