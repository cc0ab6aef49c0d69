-- A number of 64 bits has at most 20 characters.
use Rattle.std.proofs.Common.{arith, length-append}
use Rattle.run_defs.proofs.Integers.{short_integer}
use Rattle.run_defs.proofs.parts.push_integer.Goals as goal

pub returns-clause-short : goal.returns-clause-short
returns-clause-short c = λ h. grind (arith, length-append, short_integer c.args.number h)
