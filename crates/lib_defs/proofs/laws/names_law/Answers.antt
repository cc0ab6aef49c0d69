-- By the list of the names.
use Rattle.lib_defs.proofs.RowNames.{row_has_name, name_has_row}
use Rattle.lib_defs.proofs.laws.names_law.Goals as goal

pub returns : goal.returns
returns c = record { found = row_has_name; all = name_has_row }
