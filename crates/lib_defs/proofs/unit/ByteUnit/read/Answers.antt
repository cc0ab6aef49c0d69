-- The unit is the number of the bytes that the view has at its place.
use Rattle.std.proofs.Common.{◌≡◌, refl, rules, ap, ◌*◌, take, drop, Some, ◌+◌, arith}
use Rattle.object_store.specs.Load.{known_number}
use Rattle.lib_defs.proofs.Views.{one_byte}
use Rattle.lib_defs.proofs.unit.ByteUnit.read.Goals as goal

pub returns-in-None-clause-value : goal.returns-in-None-clause-value
returns-in-None-clause-value c = rw (one_byte c.args.view.now c.args.index _ c.byte.ensures, c.in-None.is) refl

pub returns-in-Some-clause-value : goal.returns-in-Some-clause-value
returns-in-Some-clause-value c =
    let one : c.in-Some.byte + 256 * 0 ≡ c.in-Some.byte = omega arith in
    let h : known_number (take 1 (drop (1 * c.args.index) c.args.view.now)) ≡ Some c.in-Some.byte =
    rw (one_byte c.args.view.now c.args.index _ c.byte.ensures, c.in-Some.is) (ap Some one) in
    rw h (search rules)
