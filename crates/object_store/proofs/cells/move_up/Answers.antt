-- Each step writes the cell that belongs there.
use Rattle.std.proofs.Common.{◌≡◌, ℕ, ◌-◌, List, length, arith, map, Option, None, ◌∙◌, ap, sym}
use Rattle.std.proofs.lemmas.List.{length-map, get_or-map}
use Rattle.object_store.specs.declared.cell.Cell.{Cell}
use Rattle.object_store.specs.Steps.{stored_cell, range}
use Rattle.object_store.proofs.CellLists.{map_step_back, length-range, read_paste_back}
use Rattle.object_store.proofs.cells.move_up.Goals as goal

pub loop-left-preserved : goal.loop-left-preserved
loop-left-preserved c =
    let old : List Cell = c.args.cells.now in
    let n : ℕ = c.loop-left.left - 1 in
    let moved : List Cell = range old c.args.from c.args.len in
    let count : length moved ≡ c.args.len = length-range old c.args.from c.args.len (omega arith) in
    let bytes : List (Option ℕ) = map (λ c. c.byte) moved in
    let same : length bytes ≡ c.args.len = length-map moved (λ c. c.byte) ∙ count in (
      omega arith,
      map_step_back stored_cell old c.args.to bytes c.loop-left.cells c.loop-left.left n c.plain.result None
          (omega arith) c.loop-left.invariant.1 (omega arith) (omega arith)
          (c.plain.ensures ∙ ap stored_cell (ap (λ (x : Cell). x.byte)
          (read_paste_back old c.args.to (map stored_cell bytes) c.loop-left.left c.loop-left.cells
          c.loop-left.invariant.1
          c.args.from c.args.len n (stored_cell None) (omega arith) (omega arith) (omega arith))
          ∙ sym (get_or-map (λ c. c.byte) moved n (stored_cell None) None (omega arith)))),
    )
