-- A range that was reached lies in its object, and a store there leaves the count as it is.
use Rattle.std.proofs.Common.{length, map, Some, arith, sym, rules}
use Rattle.std.proofs.lemmas.Grind.{common_steps}
use Rattle.std.proofs.lemmas.List.{length-map}
use Rattle.object_store.specs.Storage.{Storage}
use Rattle.object_store.specs.Ranges.{IsLiveRange}
use Rattle.object_store.proofs.Outside.{with_store_alone}
use Rattle.object_store.proofs.SameReach.{with_store_reach}
use Rattle.object_store.proofs.RangeLemmas.{in_range_to_store, IsConsistent-with_bytes, with_store_some}
use Rattle.object_store.proofs.RangeLemmas.{with_store_none}
use Rattle.object_store.proofs.store.Store.put.Goals as goal

pub returns-then-is_empty-clause-stored : goal.returns-then-is_empty-clause-stored
returns-then-is_empty-clause-stored c =
    with_store_none c.args.self.now c.args.place (map Some c.args.bytes.now) (rw length-map (search rules))

pub put_at-requires : goal.put_at-requires
put_at-requires c =
    rw (← c.self.view_is) at (in_range_to_store c.args.self.now c.args.place (length c.args.bytes.now)
    c.requires.reached)

pub invariant_of-self : goal.invariant_of-self
invariant_of-self c =
    let r = rw (← c.self.view_is) at (in_range_to_store c.args.self.now c.args.place (length c.args.bytes.now)
    c.requires.reached) in
    rw c.put_at.ensures (IsConsistent-with_bytes c.self.inside.slots.items c.args.place (map Some c.args.bytes.now)
    (length c.args.bytes.now) c.self.inside.budget
    c.self.inside.live c.self.inside.open_calls r (sym (length-map c.args.bytes.now (λ b. Some b))) c.self.invariant)

pub returns-clause-stored : goal.returns-clause-stored
returns-clause-stored c =
    let s : Storage = record {
      objects = c.self.inside.slots.items;
      budget = c.self.inside.budget;
      open_calls =
          c.self.inside.open_calls;
      writes = c.self.inside.writes;
    } in
    rw (← c.self.view_is) (with_store_some s c.args.place (map Some c.args.bytes.now) c.put_at.new.slots.items
    c.push.new.self (length c.args.bytes.now)
    (grind (arith, common_steps)) (sym (length-map c.args.bytes.now (λ b. Some b))) c.put_at.ensures c.push.ensures)

pub overflow_cast-bytes : goal.overflow_cast-bytes
overflow_cast-bytes c =
    let r : IsLiveRange c.args.self.now.objects c.args.place (length c.args.bytes.now) =
    in_range_to_store c.args.self.now c.args.place (length c.args.bytes.now) c.requires.reached in
    omega (arith, r.within)

pub returns-clause-alone : goal.returns-clause-alone
returns-clause-alone c =
    (with_store_alone c.args.self.now _ c.args.place (map Some c.args.bytes.now) (length c.args.bytes.now)
    (in_range_to_store c.args.self.now c.args.place (length c.args.bytes.now) c.requires.reached)
    (sym (length-map c.args.bytes.now (λ b. Some b))) (returns-clause-stored c))

pub returns-clause-reach : goal.returns-clause-reach
returns-clause-reach c =
    with_store_reach c.args.self.now _ c.args.place (map Some c.args.bytes.now) (length c.args.bytes.now)
    c.requires.reached (sym (length-map c.args.bytes.now (λ b. Some b))) (returns-clause-stored c)
