-- The scopes that are left.
use Rattle.std.proofs.Common.{◌≡◌, length}
use Rattle.c_scopes.specs.Scopes.{found}
use Rattle.c_scopes.specs.Inner.{outwards}
use Rattle.c_scopes.proofs.scopes.find_in.Given as goal

abbrev pub invariant-loop-scope : goal.invariant-loop-scope
invariant-loop-scope l = found (outwards l.fn.scopes) l.tag l.name ≡ found (outwards l.left) l.tag l.name

abbrev pub decreases-loop-scope : goal.decreases-loop-scope
decreases-loop-scope l = length l.left
