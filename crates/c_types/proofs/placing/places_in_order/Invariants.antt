-- The places so far, and those of the rest.
use Rattle.std.proofs.Common.{◌≡◌, ◌≤◌, ◌++◌, length, drop}
use Rattle.c_types.specs.Layouts.{end_from, places_from, largest}
use Rattle.c_types.proofs.placing.places_in_order.Given as goal

abbrev pub invariant-loop-layout : goal.invariant-loop-layout
invariant-loop-layout l = (end_from l.from (drop l.layout-index l.layouts) ≡ end_from 0 l.layouts)
    × (l.from ≤ largest)
    × (l.places.items ++ places_from l.from (drop l.layout-index l.layouts) ≡ places_from 0 l.layouts)
    × (length l.places.items ≡ l.layout-index)
