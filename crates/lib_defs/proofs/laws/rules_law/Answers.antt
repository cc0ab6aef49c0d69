-- By the name of the row.
use Rattle.lib_defs.proofs.NamedRows.{facts_of}
use Rattle.lib_defs.proofs.laws.rules_law.Goals as goal

pub returns : goal.returns
returns c = λ name values rule is. (facts_of name values rule is).keeps
