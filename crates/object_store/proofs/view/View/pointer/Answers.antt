-- The four ranges of the cells are those of their bytes.
use Rattle.std.proofs.lemmas.List.{take-map, drop-map}
use Rattle.object_store.specs.Load.{load_pointer}
use Rattle.object_store.proofs.view.View.pointer.Goals as goal

pub returns : goal.returns
unfolding load_pointer
returns c =
    rw (
      ← c.self.view_is,
      c.ok_or.ensures.value,
      c.known_pointer.ensures,
      c.number_of_four.ensures,
      c.number_of_four-2.ensures,
      c.number_of_four-3.ensures,
      c.number_of_four-4.ensures,
    ) (simp (take-map, drop-map))
