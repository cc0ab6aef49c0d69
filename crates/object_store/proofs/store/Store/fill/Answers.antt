-- A range that was reached lies in its object, and a store there leaves the count as it is.
use Rattle.std.proofs.Common.{replicate, Some, arith, sym}
use Rattle.std.proofs.lemmas.List.{length-replicate}
use Rattle.object_store.specs.Storage.{Storage}
use Rattle.object_store.proofs.Outside.{with_store_alone}
use Rattle.object_store.proofs.SameReach.{with_store_reach}
use Rattle.object_store.proofs.RangeLemmas.{in_range_to_store, IsConsistent-with_bytes, with_store_some}
use Rattle.object_store.proofs.RangeLemmas.{with_store_none}
use Rattle.object_store.proofs.store.Store.fill.Goals as goal

pub returns-then-len-eq0-clause-stored : goal.returns-then-len-eq0-clause-stored
returns-then-len-eq0-clause-stored c =
    with_store_none c.args.self.now c.args.place (replicate c.args.len (Some c.args.byte))
    (rw length-replicate (omega arith))

pub fill_at-requires : goal.fill_at-requires
fill_at-requires c =
    rw (← c.self.view_is) at (in_range_to_store c.args.self.now c.args.place c.args.len c.requires.reached)

pub invariant_of-self : goal.invariant_of-self
invariant_of-self c =
    let r = rw (← c.self.view_is) at (in_range_to_store c.args.self.now c.args.place c.args.len c.requires.reached) in
    rw c.fill_at.ensures
    (IsConsistent-with_bytes c.self.inside.slots.items c.args.place (replicate c.args.len (Some c.args.byte))
    c.args.len c.self.inside.budget
    c.self.inside.live c.self.inside.open_calls r (sym (length-replicate c.args.len (Some c.args.byte)))
    c.self.invariant)

pub returns-clause-stored : goal.returns-clause-stored
returns-clause-stored c =
    let s : Storage = record {
      objects = c.self.inside.slots.items;
      budget = c.self.inside.budget;
      open_calls =
          c.self.inside.open_calls;
      writes = c.self.inside.writes;
    } in
    rw (← c.self.view_is) (with_store_some s c.args.place (replicate c.args.len (Some c.args.byte))
    c.fill_at.new.slots.items c.push.new.self c.args.len
    (omega arith) (sym (length-replicate c.args.len (Some c.args.byte))) c.fill_at.ensures c.push.ensures)

pub returns-clause-alone : goal.returns-clause-alone
returns-clause-alone c =
    (with_store_alone c.args.self.now _ c.args.place (replicate c.args.len (Some c.args.byte)) c.args.len
    (in_range_to_store c.args.self.now c.args.place c.args.len c.requires.reached)
    (sym (length-replicate c.args.len (Some c.args.byte))) (returns-clause-stored c))

pub returns-clause-reach : goal.returns-clause-reach
returns-clause-reach c =
    with_store_reach c.args.self.now _ c.args.place (replicate c.args.len (Some c.args.byte)) c.args.len
    c.requires.reached (sym (length-replicate c.args.len (Some c.args.byte))) (returns-clause-stored c)
