-- A range that was reached lies in its object.
use Rattle.std.proofs.Common.{sym}
use Rattle.object_store.proofs.RangeLemmas.{in_range, length-bytes_in}
use Rattle.object_store.proofs.store.Store.view.Goals as goal

pub cells_at-requires : goal.cells_at-requires
cells_at-requires c = rw (← c.self.view_is) at (in_range c.args.self.now c.args.place c.args.len c.requires)

pub returns-clause-len : goal.returns-clause-len
returns-clause-len c =
    rw (c.new.ensures, c.cells_at.ensures) (sym (length-bytes_in c.self.inside.slots.items c.args.place c.args.len
    (rw (← c.self.view_is) at (in_range c.args.self.now c.args.place c.args.len c.requires))))
