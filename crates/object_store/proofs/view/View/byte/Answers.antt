-- The view is as long as its cells.
use Rattle.std.proofs.Common.{◌≡◌, List, length, arith, ap, refl, ◌∙◌, sym, None}
use Rattle.std.proofs.lemmas.List.{length-map}
use Rattle.std.proofs.lemmas.Option.{slice_get-map, slice_get-get_or}
use Rattle.object_store.specs.declared.cell.Cell.{Cell}
use Rattle.object_store.specs.Steps.{stored_cell}
use Rattle.object_store.proofs.view.View.byte.Goals as goal

pub returns : goal.returns
returns c =
    let cells : List Cell = c.self.inside.cells.now in
    let same : length cells ≡ length c.args.self.now = sym (length-map cells (λ x. x.byte))
    ∙ ap length c.self.view_is in
    rw (← c.self.view_is, slice_get-map, slice_get-get_or cells c.args.index (stored_cell None) (omega arith)) refl
