-- By cases on the answer.
use Rattle.acc_run.proofs.Exact.{exactly_due}
use Rattle.acc_run.proofs.top.exact.Goals as goal

pub returns : goal.returns
returns c words shelf out err outcome answer answers due no_shelf no_out no_err =
    exactly_due words shelf out err outcome due answer no_shelf no_out no_err answers
