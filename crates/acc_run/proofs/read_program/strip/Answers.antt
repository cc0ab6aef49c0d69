-- What the standard library says of a prefix, in the words of these contracts.
use Rattle.acc_run.proofs.Fronts.{strip_cases}
use Rattle.acc_run.proofs.read_program.strip.Goals as goal

pub returns-clause-found : goal.returns-clause-found
returns-clause-found c =
    (strip_cases c.args.bytes.now c.args.text.now c.strip_prefix.result c.strip_prefix.ensures.cases).0

pub returns-clause-none : goal.returns-clause-none
returns-clause-none c =
    (strip_cases c.args.bytes.now c.args.text.now c.strip_prefix.result c.strip_prefix.ensures.cases).1
