-- The law of the start and of the steps.
use Rattle.run_defs.proofs.Starting.{runs_keep}
use Rattle.run_defs.proofs.laws.step_law.Goals as goal

pub returns : goal.returns
returns c = runs_keep
