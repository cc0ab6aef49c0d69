-- An answer that is good says that the range is reached.
use Rattle.object_store.proofs.ReachRows.{ok_reached, ok_reached_to_store}
use Rattle.object_store.proofs.store.Store.reach.Goals as goal

pub returns-in-Some-clause-reached : goal.returns-in-Some-clause-reached
returns-in-Some-clause-reached c =
    ok_reached c.args.self.now c.args.place c.args.len c.args.align c.args.by c.reach.result
    (rw (← c.in-Some.ensures.found) c.reach.ensures.table)

pub returns-in-Some-clause-stores : goal.returns-in-Some-clause-stores
returns-in-Some-clause-stores c =
    ok_reached_to_store c.args.self.now c.args.place c.args.len c.args.align c.args.by c.reach.result
    (rw (← c.in-Some.ensures.found) c.reach.ensures.table)
