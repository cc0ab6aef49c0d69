-- The bytes that were stored are there.
use Rattle.object_store.proofs.ReadBack.{stores_are_there}
use Rattle.object_store.proofs.law.store_law.Goals as goal

pub returns : goal.returns
returns c = stores_are_there
