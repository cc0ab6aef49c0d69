-- Both ranges lie in one object.
use Rattle.object_store.proofs.RangeLemmas.{shift_is_copy}
use Rattle.object_store.proofs.ranges.shift_at.Goals as goal

pub returns : goal.returns
returns c =
    shift_is_copy c.args.slots.now.items c.args.to c.args.from c.args.len c.index_of.result
    c.index_mut-slot.result.now c.shift.new.self
    c.requires.to c.requires.from c.requires.same c.index_of.ensures c.index_mut-slot.ensures.value c.shift.ensures
