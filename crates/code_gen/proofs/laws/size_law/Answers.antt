-- Node by node.
use Rattle.code_gen.proofs.Sizes.{all_long}
use Rattle.code_gen.proofs.laws.size_law.Goals as goal

pub returns : goal.returns
returns c = all_long
