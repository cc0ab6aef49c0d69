-- The literals so far, and those behind them.
use Rattle.std.proofs.Common.{◌≡◌, ℤ, List, length, ◌++◌}
use Rattle.c_reading.specs.Parser.{and_then, pure}
use Rattle.c_reading.specs.ReadExpr.{pieces}
use Rattle.c_parser.proofs.read.pieces.pieces.Given as goal

abbrev pub invariant-each : goal.invariant-each
invariant-each l =
    pieces l.wide l.tokens
    ≡ and_then (pieces l.wide l.rest) (λ behind. pure {A = List (List ℤ)} (l.more.items ++ behind))

abbrev pub decreases-each : goal.decreases-each
decreases-each l = length l.rest
