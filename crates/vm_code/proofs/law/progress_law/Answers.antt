-- By what stands at each place of a run.
use Rattle.vm_code.proofs.NeverSticks.{calls_never_stick, runs_never_stick}
use Rattle.vm_code.proofs.law.progress_law.Goals as goal

pub returns-clause-calls : goal.returns-clause-calls
returns-clause-calls c = calls_never_stick

pub returns-clause-runs : goal.returns-clause-runs
returns-clause-runs c = runs_never_stick
