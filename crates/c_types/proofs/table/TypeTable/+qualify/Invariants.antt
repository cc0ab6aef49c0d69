-- The elements of an array have lower ids.
use Rattle.c_types.proofs.table.TypeTable.+qualify.Given as goal

abbrev pub decreases-qualify : goal.decreases-qualify
decreases-qualify l = l.id.0
