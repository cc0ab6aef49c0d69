-- One more type.
use Rattle.c_predeclared.proofs.Parts.{parts_next}
use Rattle.c_predeclared.proofs.prototypes.part_types.Goals as goal

pub loop-part-preserved : goal.loop-part-preserved
loop-part-preserved c = parts_next c.args.parts.now c.loop-part.part-index _ c.loop-part-test.true c.loop-part.invariant
    c.in_ok-of.ensures c.in_ok-push.ensures.items
