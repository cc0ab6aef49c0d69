-- By what each part of a run keeps.
use Rattle.code_gen.proofs.LawfulRuns.{each_lawful}
use Rattle.code_gen.proofs.laws.journal_law.Goals as goal

pub returns : goal.returns
returns c = each_lawful
