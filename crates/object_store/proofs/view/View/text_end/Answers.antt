-- The first such cell is the first such byte.
use Rattle.std.proofs.Common.{◌∙◌, sym}
use Rattle.object_store.specs.Steps.{is_text_end}
use Rattle.object_store.proofs.Positions.{position-map}
use Rattle.object_store.proofs.view.View.text_end.Goals as goal

pub returns : goal.returns
returns c =
    rw (← c.self.view_is) (c.first_text_end.ensures
    ∙ sym (position-map (λ x. x.byte) is_text_end c.self.inside.cells.now))
