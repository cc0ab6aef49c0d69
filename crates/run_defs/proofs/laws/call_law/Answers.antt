-- The law of library calls.
use Rattle.run_defs.proofs.Completing.{calls_lawful}
use Rattle.run_defs.proofs.laws.call_law.Goals as goal

pub returns : goal.returns
returns c = calls_lawful
