-- The goals of `assert_on` that are answered by hand.
use Rattle.std.proofs.Common.{rules}
use Rattle.c_reading.specs.ReadBody.{assert_on}
use Rattle.c_parser.proofs.body.assertion.assert_on.Goals as goal

pub returns-clause-reads : goal.returns-clause-reads
unfolding assert_on
returns-clause-reads c = let reads = c.message.ensures.reads c.args.k in search rules
