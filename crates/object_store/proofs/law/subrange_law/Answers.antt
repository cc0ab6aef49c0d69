-- Both laws of parts.
use Rattle.object_store.proofs.Subranges.{subranges_are_reached, subranges_are_reached_to_store}
use Rattle.object_store.proofs.law.subrange_law.Goals as goal

pub returns-clause-read : goal.returns-clause-read
returns-clause-read c = subranges_are_reached

pub returns-clause-store : goal.returns-clause-store
returns-clause-store c = subranges_are_reached_to_store
