-- The units so far, and those of the rest.
use Rattle.std.proofs.Common.{◌≡◌, ◌++◌, length}
use Rattle.c_lexer.specs.ReadCharacters.{units_at}
use Rattle.c_lexer.proofs.characters.units_at.Given as goal

abbrev pub invariant-loop-value : goal.invariant-loop-value
invariant-loop-value l = (l.units.items ++ (units_at l.wide l.rest).0, (units_at l.wide l.rest).1)
    ≡ units_at l.wide l.fn.bytes

abbrev pub decreases-loop-value : goal.decreases-loop-value
decreases-loop-value l = length l.rest
