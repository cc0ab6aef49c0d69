-- The elements so far stand there, and the others are still to come.
use Rattle.std.proofs.Common.{◌≡◌, ◌++◌}
use Rattle.c_initial_rules.specs.Seals.{of_elements}
use Rattle.c_initial_rules.proofs.seals.element_seals.Given as goal

abbrev pub decreases-loop-left : goal.decreases-loop-left
decreases-loop-left l = l.left

abbrev pub invariant-loop-left : goal.invariant-loop-left
invariant-loop-left l = l.all.items ++ of_elements l.left l.at l.size l.ranges
    ≡ of_elements l.fn.count 0 l.size l.ranges
