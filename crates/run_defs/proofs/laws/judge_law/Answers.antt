-- The law of the judge.
use Rattle.run_defs.proofs.Judging.{judge_right}
use Rattle.run_defs.proofs.laws.judge_law.Goals as goal

pub returns : goal.returns
returns c = judge_right
