-- A value of 64 bits times a power below 2 ^ 64 fits 128 bits, so the machine's product is the exact one.
use Rattle.std.proofs.Common.{◌*ℤ◌, FitsSigned, rules}
use Rattle.std.specs.Int.{w128}
use Rattle.std.proofs.lemmas.Int.{to_z-of_z}
use Rattle.acc_num.proofs.Ranges.{shift_fits}
use Rattle.acc_num.proofs.shift.times_power.Goals as goal

pub overflow_mul-a : goal.overflow_mul-a
overflow_mul-a c =
    let left : FitsSigned w128 c.args.a = c.ranges.a in
    let power : FitsSigned w128 c.power_of_two.result = search rules in
    simp to_z-of_z (rw c.power_of_two.ensures (shift_fits _ _ _ c.requires.count c.requires.left_in_range))

pub returns-clause-value : goal.returns-clause-value
returns-clause-value c =
    let left : FitsSigned w128 c.args.a = c.ranges.a in
    let power : FitsSigned w128 c.power_of_two.result = search rules in
    let product : FitsSigned w128 (c.args.a *ℤ c.power_of_two.result) =
    rw c.power_of_two.ensures (shift_fits _ _ _ c.requires.count c.requires.left_in_range) in
    rw c.power_of_two.ensures at (simp to_z-of_z at c.represent.ensures.value)
