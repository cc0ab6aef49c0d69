-- The ranges so far stand behind what was there.
use Rattle.std.proofs.Common.{◌≡◌, ◌++◌, drop}
use Rattle.c_initial_rules.specs.Seals.{all_later}
use Rattle.c_initial_rules.proofs.seals.push_later.Given as goal

abbrev pub invariant-loop-range : goal.invariant-loop-range
invariant-loop-range l = l.all.items ++ all_later l.by (drop l.range-index l.ranges)
    ≡ l.initial.all.items ++ all_later l.by l.ranges
