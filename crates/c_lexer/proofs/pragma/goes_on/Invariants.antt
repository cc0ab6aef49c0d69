-- A comment goes on in the rest where it does in all.
use Rattle.std.proofs.Common.{◌≡◌, length}
use Rattle.c_lexer.specs.ReadDirective.{goes_on}
use Rattle.c_lexer.proofs.pragma.goes_on.Given as goal

abbrev pub invariant-loop-rest : goal.invariant-loop-rest
invariant-loop-rest l = goes_on l.rest ≡ goes_on l.bytes

abbrev pub decreases-loop-rest : goal.decreases-loop-rest
decreases-loop-rest l = length l.rest
