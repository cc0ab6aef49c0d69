-- How long numbers of 64 bits are in decimal.
use Rattle.std.proofs.Common.{suc, ◌≤◌, length, arith}
use Rattle.std.specs.Prelude.{ℤ, pos, negsuc}
use Rattle.std.specs.Fmt.{decimal, signed_decimal}
use Rattle.std.proofs.lemmas.Fmt.{length-decimal-le_wide}
use Rattle.lib_defs.specs.declared.shown.Shown.TheVariants.{Number}
use Rattle.run_defs.specs.Short.{IsShort}

pub short_integer : (z : ℤ) → IsShort (Number z) → length (signed_decimal z) ≤ 20
short_integer (pos n) h = length-decimal-le_wide 20 n (omega arith) (omega (arith, h)) (omega (arith, h))
short_integer (negsuc n) h =
    let le : length (decimal (suc n)) ≤ 19 =
    length-decimal-le_wide 19 (suc n) (omega arith) (omega (arith, h)) (omega (arith, h))
    in omega (arith, le)
