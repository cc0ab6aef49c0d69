-- Where a flush fails, the whole line was written, which is a front of it.
use Rattle.acc_run.proofs.PartialWrites.{all_written, on_err}
use Rattle.acc_run.proofs.reporting.try_report.Goals as goal

pub returns-in_err-flush-clause-part : goal.returns-in_err-flush-clause-part
returns-in_err-flush-clause-part g c =
    on_err c.from_residual-in_err-flush.result (all_written _ _ _ c.in_ok-write_line.ensures.written)

pub returns-clause-part : goal.returns-clause-part
returns-clause-part g c =
    on_err c.flush-2.result (rw c.flush-2.ensures.written (all_written _ _ _ c.in_ok-write_line.ensures.written))
