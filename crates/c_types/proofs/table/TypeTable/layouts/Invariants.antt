-- The layouts so far, and those of the rest, are all.
use Rattle.std.proofs.Common.{◌≡◌, length, drop}
use Rattle.c_types.specs.Layouts.{layouts_of, layouts_after}
use Rattle.c_types.proofs.table.TypeTable.layouts.Given as goal

abbrev pub invariant-loop-id : goal.invariant-loop-id
invariant-loop-id l =
    (layouts_after l.layouts.items (layouts_of l.self (drop l.id-index l.types)) ≡ layouts_of l.self l.types)
    × (length l.layouts.items ≡ l.id-index)
