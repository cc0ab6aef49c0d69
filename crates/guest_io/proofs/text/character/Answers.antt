-- A range that is reached ends at the upper bound of its pointer at most.
use Rattle.std.proofs.Common.{arith}
use Rattle.object_store.proofs.RangeLemmas.{in_range}
use Rattle.guest_io.proofs.text.character.Goals as goal

pub returns-in-Some-clause-within : goal.returns-in-Some-clause-within
returns-in-Some-clause-within c =
    let r = in_range c.args.store.now c.args.place 1 c.in-Ok.ensures.reached in
    omega (arith, r.within)
