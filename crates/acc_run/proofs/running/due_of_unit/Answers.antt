-- No program ends for want of memory.
use Rattle.std.proofs.Common.{sym, ◌∙◌, subst}
use Rattle.acc_run.proofs.Ends.{OfUnit, sum_ends}
use Rattle.acc_run.proofs.running.due_of_unit.Goals as goal

pub returns-clause-memory : goal.returns-clause-memory
returns-clause-memory c is = absurd (subst OfUnit (sym c.end_of.ensures ∙ is) (sum_ends _ _ _))
