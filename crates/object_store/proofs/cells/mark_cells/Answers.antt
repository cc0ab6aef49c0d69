-- Each step writes the cell that belongs there.
use Rattle.std.proofs.Common.{List, arith, None, ap}
use Rattle.std.proofs.lemmas.List.{length-map}
use Rattle.object_store.specs.declared.cell.Cell.{Cell}
use Rattle.object_store.specs.Steps.{stored_cell, mark_cell, range}
use Rattle.object_store.proofs.CellLists.{map_step, length-range, read_paste}
use Rattle.object_store.proofs.cells.mark_cells.Goals as goal

pub loop-i-preserved : goal.loop-i-preserved
loop-i-preserved c =
    let old : List Cell = c.args.cells.now in
    let count = length-range old c.args.at c.args.len (omega arith) in
    map_step (mark_cell c.args.mark) old c.args.at (range old c.args.at c.args.len) c.loop-i.cells c.loop-i.i _
    (stored_cell None)
    c.loop-i.invariant (omega arith) (omega arith)
    (ap (mark_cell c.args.mark) (read_paste old c.args.at _ c.loop-i.i c.loop-i.cells c.loop-i.invariant c.args.at
    c.args.len
    c.loop-i.i (stored_cell None) (omega arith) (omega arith) (omega arith) (rw length-map (omega arith))))
