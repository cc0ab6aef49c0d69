-- The law of growth.
use Rattle.c_types.proofs.Kept.{grows_own, grows_then, layout_stays, const_stays}
use Rattle.c_types.proofs.growth.growth_law.Goals as goal

pub returns : goal.returns
returns c = record { none = grows_own; steps = grows_then; layouts = layout_stays; constants = const_stays }
