-- By what is known of the instructions as they are passed.
use Rattle.vm_code.proofs.Blame.{blame_is_fair}
use Rattle.vm_code.proofs.law.blame_law.Goals as goal

pub returns : goal.returns
returns c = blame_is_fair
