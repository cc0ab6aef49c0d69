-- The message object has 131 bytes, and none of them counts.
use Rattle.std.proofs.Common.{rules}
use Rattle.object_store.specs.Messages.{message_bytes}
use Rattle.object_store.proofs.store.Store.new.Goals as goal

pub invariant_of-result : goal.invariant_of-result
unfolding message_bytes
invariant_of-result c = search rules
