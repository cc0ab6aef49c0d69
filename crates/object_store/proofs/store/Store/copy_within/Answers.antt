-- A range that was reached lies in its object, and a store there leaves the count as it is.
use Rattle.std.proofs.Common.{arith, sym, ◌∙◌}
use Rattle.object_store.specs.Storage.{Storage}
use Rattle.object_store.specs.Steps.{bytes_in}
use Rattle.object_store.proofs.Outside.{with_store_alone}
use Rattle.object_store.proofs.SameReach.{with_store_reach}
use Rattle.object_store.proofs.RangeLemmas.{in_range, in_range_to_store, IsConsistent-with_bytes, with_store_some}
use Rattle.object_store.proofs.RangeLemmas.{with_store_none, length-bytes_in}
use Rattle.object_store.proofs.store.Store.copy_within.Goals as goal

pub returns-then-len-eq0-clause-stored : goal.returns-then-len-eq0-clause-stored
returns-then-len-eq0-clause-stored c =
    with_store_none c.args.self.now c.args.to (bytes_in c.args.self.now.objects c.args.from c.args.len)
    (sym (length-bytes_in c.args.self.now.objects c.args.from c.args.len
    (in_range c.args.self.now c.args.from c.args.len c.requires.from)) ∙ c.if-len-eq0.true)

pub copy_at-requires-clause-to : goal.copy_at-requires-clause-to
copy_at-requires-clause-to c =
    rw (← c.self.view_is) at (in_range_to_store c.args.self.now c.args.to c.args.len c.requires.to)

pub invariant_of-self : goal.invariant_of-self
invariant_of-self c =
    let r = rw (← c.self.view_is) at (in_range_to_store c.args.self.now c.args.to c.args.len c.requires.to) in
    rw c.copy_at.ensures
    (IsConsistent-with_bytes c.self.inside.slots.items c.args.to
    (bytes_in c.self.inside.slots.items c.args.from c.args.len) c.args.len c.self.inside.budget
    c.self.inside.live c.self.inside.open_calls r
    (length-bytes_in c.self.inside.slots.items c.args.from c.args.len
    (rw (← c.self.view_is) at (in_range c.args.self.now c.args.from c.args.len c.requires.from))) c.self.invariant)

pub returns-clause-stored : goal.returns-clause-stored
returns-clause-stored c =
    let s : Storage = record {
      objects = c.self.inside.slots.items;
      budget = c.self.inside.budget;
      open_calls =
          c.self.inside.open_calls;
      writes = c.self.inside.writes;
    } in
    rw (← c.self.view_is) (with_store_some s c.args.to (bytes_in c.self.inside.slots.items c.args.from c.args.len)
    c.copy_at.new.slots.items c.push.new.self c.args.len
    (omega arith)
    (length-bytes_in c.self.inside.slots.items c.args.from c.args.len
    (rw (← c.self.view_is) at (in_range c.args.self.now c.args.from c.args.len c.requires.from)))
    c.copy_at.ensures c.push.ensures)

pub copy_at-requires-clause-from : goal.copy_at-requires-clause-from
copy_at-requires-clause-from c =
    rw (← c.self.view_is) at (in_range c.args.self.now c.args.from c.args.len c.requires.from)

pub returns-clause-alone : goal.returns-clause-alone
returns-clause-alone c =
    (with_store_alone c.args.self.now _ c.args.to (bytes_in c.args.self.now.objects c.args.from c.args.len) c.args.len
    (in_range_to_store c.args.self.now c.args.to c.args.len c.requires.to)
    (length-bytes_in c.args.self.now.objects c.args.from c.args.len
    (in_range c.args.self.now c.args.from c.args.len c.requires.from)) (returns-clause-stored c))

pub returns-clause-reach : goal.returns-clause-reach
returns-clause-reach c =
    with_store_reach c.args.self.now _ c.args.to (bytes_in c.args.self.now.objects c.args.from c.args.len)
    c.args.len c.requires.to
    (length-bytes_in c.args.self.now.objects c.args.from c.args.len
    (in_range c.args.self.now c.args.from c.args.len c.requires.from)) (returns-clause-stored c)
