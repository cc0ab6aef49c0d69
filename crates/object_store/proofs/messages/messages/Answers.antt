-- The bytes of the texts.
use Rattle.std.proofs.Common.{rules}
use Rattle.object_store.specs.Messages.{message_bytes}
use Rattle.object_store.proofs.messages.messages.Goals as goal

pub returns : goal.returns
unfolding message_bytes
returns c = search rules
