-- The units so far.
use Rattle.std.proofs.Common.{◌≡◌, take}
use Rattle.c_expr.specs.Operands.{units_among}
use Rattle.c_expr.proofs.primary.units_among.Given as goal

abbrev pub invariant-loop-piece : goal.invariant-loop-piece
invariant-loop-piece l = l.count ≡ units_among (take l.piece-index l.piece-items)
