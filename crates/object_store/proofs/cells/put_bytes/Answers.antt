-- Each step writes the cell that belongs there.
use Rattle.std.proofs.Common.{arith, map, None, Some, ◌∙◌, ap, sym}
use Rattle.std.proofs.lemmas.List.{length-map, get_or-map}
use Rattle.object_store.specs.Steps.{stored_cell}
use Rattle.object_store.proofs.CellLists.{map_step}
use Rattle.object_store.proofs.cells.put_bytes.Goals as goal

pub loop-i-preserved : goal.loop-i-preserved
loop-i-preserved c =
    map_step stored_cell c.args.cells.now c.args.at (map Some c.args.bytes.now) c.loop-i.cells c.loop-i.i
    c.plain.result None
    c.loop-i.invariant (rw length-map (omega arith)) (rw length-map (omega arith))
    (c.plain.ensures ∙ ap stored_cell (sym (get_or-map Some c.args.bytes.now c.loop-i.i 0 None (omega arith))))
