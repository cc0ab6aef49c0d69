-- A product of two values of a signed kind fits 128 bits, so the machine's product is the exact one.
use Rattle.std.proofs.Common.{◌≡◌, ◌*ℤ◌, true, FitsSigned}
use Rattle.std.specs.Int.{w128}
use Rattle.std.proofs.lemmas.Int.{to_z-of_z}
use Rattle.acc_num.specs.Kinds.{is_signed}
use Rattle.acc_num.proofs.Ranges.{product_fits}
use Rattle.acc_num.proofs.arithmetic.mul.Goals as goal

pub returns-then-is_signed-clause-value : goal.returns-then-is_signed-clause-value
returns-then-is_signed-clause-value c =
    let signed : is_signed c.args.kind ≡ true = cc in
    let left : FitsSigned w128 c.args.a = c.ranges.a in
    let right : FitsSigned w128 c.args.b = c.ranges.b in
    let product : FitsSigned w128 (c.args.a *ℤ c.args.b) =
    product_fits _ _ _ signed c.requires.left_in_range c.requires.right_in_range in
    simp to_z-of_z at c.represent.ensures.value
