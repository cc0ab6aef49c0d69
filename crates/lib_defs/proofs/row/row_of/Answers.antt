-- The number found is that of a name.
use Rattle.std.proofs.Common.{rules}
use Rattle.lib_defs.proofs.RowNames.{row_is_row}
use Rattle.lib_defs.proofs.row.row_of.Goals as goal

pub returns-then-eq-clause-row : goal.returns-then-eq-clause-row
returns-then-eq-clause-row c = row_is_row c.args.name.now (record { 0 = c.loop-rows.number }) (search rules)
