-- What the loop of `qualifiers` keeps.
use Rattle.std.proofs.Common.{◌≡◌, ◌++◌, length}
use Rattle.c_reading.specs.Parser.{and_then, pure}
use Rattle.c_reading.specs.ReadDeclarator.{qualifiers}
use Rattle.c_syntax.specs.Scopes.{Scope}
use Rattle.c_parser.proofs.read.qualifier.qualifiers.Given as goal

abbrev pub invariant-words : goal.invariant-words
invariant-words l = (scope : Scope)
    → qualifiers scope l.tokens ≡ and_then (qualifiers scope l.rest) (λ more. pure (l.all.items ++ more))

abbrev pub decreases-words : goal.decreases-words
decreases-words l = length l.rest
