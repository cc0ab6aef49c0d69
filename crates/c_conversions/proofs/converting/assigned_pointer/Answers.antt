use Rattle.c_conversions.specs.Converting.{pointer_as}
use Rattle.c_conversions.proofs.Keeping.{core_there, part_stays, over}
use Rattle.c_conversions.proofs.converting.assigned_pointer.Goals as goal

pub pointer_as-requires-clause-operand : goal.pointer_as-requires-clause-operand
pointer_as-requires-clause-operand c = core_there c.in_ok-of.ensures c.args.operand.core c.requires.operand

pub returns : goal.returns
returns c =
    over pointer_as c.in_ok-of.ensures (part_stays c.in_ok-of.ensures c.args.operand c.requires.operand)
    c.in_ok-made.ensures
