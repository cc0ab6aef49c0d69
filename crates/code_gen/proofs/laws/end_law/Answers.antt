-- By how a run ends.
use Rattle.code_gen.proofs.Ends.{each_ends}
use Rattle.code_gen.proofs.laws.end_law.Goals as goal

pub returns : goal.returns
returns c = each_ends
