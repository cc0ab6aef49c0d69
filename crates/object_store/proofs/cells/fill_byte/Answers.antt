-- Each step writes the cell that belongs there.
use Rattle.std.proofs.Common.{arith, replicate, None, Some, ◌∙◌, ap, sym}
use Rattle.std.proofs.lemmas.List.{get_or-replicate, length-replicate}
use Rattle.object_store.specs.Steps.{stored_cell}
use Rattle.object_store.proofs.CellLists.{map_step}
use Rattle.object_store.proofs.cells.fill_byte.Goals as goal

pub loop-i-preserved : goal.loop-i-preserved
loop-i-preserved c =
    map_step stored_cell c.args.cells.now c.args.at (replicate c.args.len (Some c.args.byte)) c.loop-i.cells
    c.loop-i.i c.plain.result None
    c.loop-i.invariant (rw length-replicate (omega arith)) (rw length-replicate (omega arith))
    (c.plain.ensures
    ∙ ap stored_cell (sym (get_or-replicate c.args.len c.loop-i.i (Some c.args.byte) None (omega arith))))
