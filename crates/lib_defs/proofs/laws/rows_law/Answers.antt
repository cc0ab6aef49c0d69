-- By the facts of the row and its form.
use Rattle.lib_defs.proofs.AnnexRows.{annex_row_fits}
use Rattle.lib_defs.proofs.laws.rows_law.Goals as goal

pub returns : goal.returns
returns c = annex_row_fits
