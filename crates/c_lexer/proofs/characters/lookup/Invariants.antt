-- What the rest of the table has is what the table has.
use Rattle.std.proofs.Common.{◌≡◌, length}
use Rattle.c_lexer.specs.Characters.{value_at}
use Rattle.c_lexer.proofs.characters.lookup.Given as goal

abbrev pub invariant-loop-table : goal.invariant-loop-table
invariant-loop-table l = value_at l.table l.byte ≡ value_at l.initial.table l.byte

abbrev pub decreases-loop-table : goal.decreases-loop-table
decreases-loop-table l = length l.table
