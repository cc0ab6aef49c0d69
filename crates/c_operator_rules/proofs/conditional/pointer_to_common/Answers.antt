-- The pointer to a type that was made.
use Rattle.c_conversions.specs.Kinds.{pointer_to}
use Rattle.c_conversions.proofs.Keeping.{over_made}
use Rattle.c_operator_rules.proofs.conditional.pointer_to_common.Goals as goal

pub returns : goal.returns
returns c = over_made pointer_to c.in_ok-to.ensures c.in_ok-made.ensures
