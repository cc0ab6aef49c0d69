-- What the loop of `externals` keeps.
use Rattle.std.proofs.Common.{◌≡◌, length, map, ◌++◌}
use Rattle.std.specs.Prelude.{is_some}
use Rattle.c_reading.specs.Parser.{and_then, pure, many}
use Rattle.c_reading.specs.ReadBody.{external_at, externals}
use Rattle.c_syntax.specs.ScopesUnit.{external_adds}
use Rattle.c_syntax.specs.ViewUnit.{external_of}
use Rattle.c_parser.proofs.body.unit.externals.Given as goal

abbrev pub invariant-each : goal.invariant-each
invariant-each l =
    externals l.k l.tokens
    ≡ and_then (many (λ s o. is_some o) (external_at l.k) (λ s one. s ++ external_adds one) l.scope l.rest)
    (λ more. pure (map external_of l.all.items ++ more))

abbrev pub decreases-each : goal.decreases-each
decreases-each l = length l.rest
