-- The size so far, and those of the rest.
use Rattle.std.proofs.Common.{◌≡◌, drop}
use Rattle.c_types.specs.Layouts.{largest_from}
use Rattle.c_types.proofs.placing.largest_size.Given as goal

abbrev pub invariant-loop-layout : goal.invariant-loop-layout
invariant-loop-layout l = largest_from l.size (drop l.layout-index l.layouts) ≡ largest_from 0 l.layouts
