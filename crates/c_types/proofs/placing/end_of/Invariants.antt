-- The end so far, and the rest.
use Rattle.std.proofs.Common.{◌≡◌, ◌≤◌, drop}
use Rattle.c_types.specs.Layouts.{end_from, largest}
use Rattle.c_types.proofs.placing.end_of.Given as goal

abbrev pub invariant-loop-layout : goal.invariant-loop-layout
invariant-loop-layout l = (end_from l.end (drop l.layout-index l.layouts) ≡ end_from 0 l.layouts) × (l.end ≤ largest)
