-- Each by its bytes.
use Rattle.lib_defs.proofs.Messages.{stands_there}
use Rattle.lib_defs.proofs.laws.message_law.Goals as goal

pub returns : goal.returns
returns c = stands_there
