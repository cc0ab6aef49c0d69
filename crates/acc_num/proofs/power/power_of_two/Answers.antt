-- 2 ^ bits is below 2 ^ 127, so no bit is shifted out.
use Rattle.std.proofs.Common.{◌^◌, ◌<◌, arith}
use Rattle.std.proofs.Math.Pow.{pow-lt}
use Rattle.std.proofs.lemmas.Int.{ints}
use Rattle.acc_num.proofs.power.power_of_two.Goals as goal

pub returns : goal.returns
returns c =
    let small : 2 ^ c.args.bits < 2 ^ 127 = pow-lt {j = 127} (omega arith) in
    omega (arith, ints)
