-- Each step writes the cell that belongs there.
use Rattle.std.proofs.Common.{◌≡◌, ℕ, List, length, arith, map, Option, None, ◌∙◌, ap, sym}
use Rattle.std.proofs.lemmas.List.{length-map, get_or-map}
use Rattle.object_store.specs.declared.cell.Cell.{Cell}
use Rattle.object_store.specs.Steps.{stored_cell, range}
use Rattle.object_store.proofs.CellLists.{map_step, length-range, read_paste}
use Rattle.object_store.proofs.cells.move_down.Goals as goal

pub loop-i-preserved : goal.loop-i-preserved
loop-i-preserved c =
    let old : List Cell = c.args.cells.now in
    let moved : List Cell = range old c.args.from c.args.len in
    let count : length moved ≡ c.args.len = length-range old c.args.from c.args.len (omega arith) in
    let bytes : List (Option ℕ) = map (λ c. c.byte) moved in
    let same : length bytes ≡ c.args.len = length-map moved (λ c. c.byte) ∙ count in
    map_step stored_cell old c.args.to bytes c.loop-i.cells c.loop-i.i c.plain.result None
    c.loop-i.invariant (omega arith) (omega arith)
    (c.plain.ensures ∙ ap stored_cell (ap (λ (x : Cell). x.byte)
    (read_paste old c.args.to (map stored_cell bytes) c.loop-i.i c.loop-i.cells c.loop-i.invariant c.args.from
    c.args.len
    c.loop-i.i (stored_cell None) (omega arith) (omega arith) (omega arith) (rw length-map (omega arith)))
    ∙ sym (get_or-map (λ c. c.byte) moved c.loop-i.i (stored_cell None) None (omega arith))))
