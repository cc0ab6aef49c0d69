-- The alignment so far, and those of the rest.
use Rattle.std.proofs.Common.{◌≡◌, drop}
use Rattle.c_types.specs.Layouts.{strictest_from}
use Rattle.c_types.proofs.placing.strictest.Given as goal

abbrev pub invariant-loop-layout : goal.invariant-loop-layout
invariant-loop-layout l = strictest_from l.align (drop l.layout-index l.layouts) ≡ strictest_from 1 l.layouts
