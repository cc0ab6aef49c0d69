-- By what each part of a unit leaves of the automatic objects that live.
use Rattle.code_gen.proofs.LivingLaw.{are_a_stack}
use Rattle.code_gen.proofs.laws.lifetime_law.Goals as goal

pub returns : goal.returns
returns c = are_a_stack
