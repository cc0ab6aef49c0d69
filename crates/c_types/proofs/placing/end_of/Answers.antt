-- The end is past the largest object as soon as a byte on the way to it is.
use Rattle.std.proofs.Common.{◌+◌, drop, arith}
use Rattle.c_types.proofs.Ends.{end_from_ge, end_step}
use Rattle.c_types.proofs.placing.end_of.Goals as goal

pub returns-then-end-from : goal.returns-then-end-from
returns-then-end-from c =
    let xs = c.args.layouts.now in
    let step = end_step c.loop-layout.end xs c.loop-layout.layout-index _ (record { size = 0; align = 0 })
    c.round_up.result c.from.result c.loop-layout-test.true c.round_up.ensures.value c.from.ensures in
    omega (
      arith,
      step,
      end_from_ge (c.round_up.result + c.from.result) (drop (c.loop-layout.layout-index + 1) xs),
      c.loop-layout.invariant.0,
      c.if-end-from.true,
      c.from-in-loop-layout.ensures,
    )
