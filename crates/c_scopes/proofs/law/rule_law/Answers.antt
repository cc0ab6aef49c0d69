-- The law of rules.
use Rattle.c_scopes.proofs.Least.{tells_least, fits_where_none}
use Rattle.c_scopes.proofs.law.rule_law.Goals as goal

pub returns : goal.returns
returns c = record { least = tells_least; fits = fits_where_none }
