-- It goes down the derivations.
use Rattle.std.proofs.Common.{length}
use Rattle.c_type_parts.proofs.derivations.+derived_type.Given as goal

abbrev pub decreases-derived_type : goal.decreases-derived_type
decreases-derived_type l = length l.all.now
