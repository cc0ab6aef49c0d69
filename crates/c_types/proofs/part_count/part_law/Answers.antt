-- The law of parts.
use Rattle.c_types.proofs.Counting.{height_below, comparisons_below}
use Rattle.c_types.proofs.part_count.part_law.Goals as goal

pub returns : goal.returns
returns c = record { depth = height_below; steps = comparisons_below }
