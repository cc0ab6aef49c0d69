-- The first null of the cells is the first of their bytes.
use Rattle.std.proofs.Common.{◌∙◌, sym}
use Rattle.object_store.specs.Steps.{is_null}
use Rattle.object_store.proofs.Positions.{position-map}
use Rattle.object_store.proofs.view.View.zero.Goals as goal

pub returns : goal.returns
returns c =
    rw (← c.self.view_is) (c.first_null.ensures ∙ sym (position-map (λ x. x.byte) is_null c.self.inside.cells.now))
