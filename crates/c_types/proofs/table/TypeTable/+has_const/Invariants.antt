-- The elements of an array have lower ids.
use Rattle.c_types.proofs.table.TypeTable.+has_const.Given as goal

abbrev pub decreases-has_const : goal.decreases-has_const
decreases-has_const l = l.id.0
