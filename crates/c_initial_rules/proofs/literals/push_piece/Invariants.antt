-- The units so far stand behind what was there.
use Rattle.std.proofs.Common.{◌≡◌, ◌++◌, drop}
use Rattle.c_initial_rules.specs.Literals.{piece_bytes}
use Rattle.c_initial_rules.proofs.literals.push_piece.Given as goal

abbrev pub invariant-loop-unit : goal.invariant-loop-unit
invariant-loop-unit l = l.bytes.items ++ piece_bytes l.wide (drop l.unit-index l.units)
    ≡ l.initial.bytes.items ++ piece_bytes l.wide l.units
