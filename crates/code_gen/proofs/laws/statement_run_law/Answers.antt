-- By what each statement's code does.
use Rattle.code_gen.proofs.PlainStatementRuns.{statements_run}
use Rattle.code_gen.proofs.laws.statement_run_law.Goals as goal

pub returns : goal.returns
returns c = statements_run
