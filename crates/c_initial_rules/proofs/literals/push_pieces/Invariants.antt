-- The pieces so far stand behind what was there.
use Rattle.std.proofs.Common.{◌≡◌, ◌++◌, drop}
use Rattle.c_initial_rules.specs.Literals.{bytes_of_pieces}
use Rattle.c_initial_rules.proofs.literals.push_pieces.Given as goal

abbrev pub invariant-loop-piece : goal.invariant-loop-piece
invariant-loop-piece l = l.bytes.items ++ bytes_of_pieces l.wide (drop l.piece-index l.pieces)
    ≡ l.initial.bytes.items ++ bytes_of_pieces l.wide l.pieces
