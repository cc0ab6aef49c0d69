-- By the runs of its functions.
use Rattle.code_gen.proofs.UnitRuns.{each_unit_runs}
use Rattle.code_gen.proofs.laws.unit_run_law.Goals as goal

pub returns : goal.returns
returns c = each_unit_runs
