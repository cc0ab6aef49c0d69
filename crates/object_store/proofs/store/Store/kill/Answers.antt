-- The bytes of the object that dies are in the count.
use Rattle.object_store.proofs.Found.{live_at}
use Rattle.object_store.proofs.Counting.{IsConsistent-dead}
use Rattle.object_store.proofs.store.Store.kill.Goals as goal

pub overflow_sub-self : goal.overflow_sub-self
overflow_sub-self c =
    let known = rw (← c.self.view_is) at (live_at c.args.self.now c.args.object c.requires) in
    (IsConsistent-dead c.self.inside.slots.items c.args.object c.index_of-index.result c.size-size.result
    c.self.inside.budget
    c.self.inside.live c.self.inside.open_calls c.index_mut-slot.result.now c.kill.new.self known
    c.index_of-index.ensures
    c.if-index-gt0.true c.index_mut-slot.ensures.value c.kill.ensures c.size-size.ensures c.self.invariant).0

pub invariant_of-self : goal.invariant_of-self
invariant_of-self c =
    let known = rw (← c.self.view_is) at (live_at c.args.self.now c.args.object c.requires) in
    (IsConsistent-dead c.self.inside.slots.items c.args.object c.index_of-index.result c.size-size.result
    c.self.inside.budget
    c.self.inside.live c.self.inside.open_calls c.index_mut-slot.result.now c.kill.new.self known
    c.index_of-index.ensures
    c.if-index-gt0.true c.index_mut-slot.ensures.value c.kill.ensures c.size-size.ensures c.self.invariant).1
