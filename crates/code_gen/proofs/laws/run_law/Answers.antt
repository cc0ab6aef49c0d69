-- By what each node's instructions do.
use Rattle.code_gen.proofs.PlainRuns.{plain_runs}
use Rattle.code_gen.proofs.laws.run_law.Goals as goal

pub returns : goal.returns
returns c = plain_runs
