-- What the loop of `leave` keeps.
use Rattle.std.proofs.Common.{◌≡◌, ◌≤◌, length, take}
use Rattle.c_parser.proofs.scope.Scope.leave.Given as goal

abbrev pub invariant-loop-self : goal.invariant-loop-self
invariant-loop-self l = (l.outer ≤ length l.self) × (l.self ≡ take (length l.self) l.initial.self)

abbrev pub decreases-loop-self : goal.decreases-loop-self
decreases-loop-self l = length l.self
