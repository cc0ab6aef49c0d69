-- More steps change nothing of a run that is over.
use Rattle.vm_code.proofs.EndLemmas.{one_end}
use Rattle.vm_code.proofs.law.end_law.Goals as goal

pub returns : goal.returns
returns c = one_end
