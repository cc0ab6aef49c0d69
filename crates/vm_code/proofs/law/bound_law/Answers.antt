-- By what each step leaves of the run.
use Rattle.vm_code.proofs.Counted.{bounded}
use Rattle.vm_code.proofs.law.bound_law.Goals as goal

pub returns : goal.returns
returns c = bounded
