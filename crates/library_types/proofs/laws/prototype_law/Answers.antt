-- Function by function.
use Rattle.library_types.proofs.Agree.{types_agree}
use Rattle.library_types.proofs.laws.prototype_law.Goals as goal

pub returns : goal.returns
returns c = types_agree
