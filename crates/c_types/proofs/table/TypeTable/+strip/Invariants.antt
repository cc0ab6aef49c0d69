-- The elements of an array have lower ids.
use Rattle.c_types.proofs.table.TypeTable.+strip.Given as goal

abbrev pub decreases-strip : goal.decreases-strip
decreases-strip l = l.id.0
