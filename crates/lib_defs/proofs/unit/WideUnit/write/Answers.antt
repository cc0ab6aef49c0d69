-- The wide character that was written is read.
use Rattle.std.proofs.Common.{◌≡◌, ℕ, ◌/◌, ◌%◌, rules}
use Rattle.lib_defs.specs.Units.{wide_number}
use Rattle.lib_defs.proofs.UnitBytes.{wide_back, set_four}
use Rattle.lib_defs.proofs.unit.WideUnit.write.Goals as goal

pub returns-clause-read : goal.returns-clause-read
returns-clause-read c =
    let n : ℕ = c.unsigned-number.result in
    let is : n ≡ wide_number c.args.unit = search rules in
    rw (set_four c.args.cells.now (n % 256) (n / 256 % 256) (n / 256 / 256 % 256) (n / 256 / 256 / 256 % 256)
    c.requires.long)
    (wide_back c.args.unit n is c.requires.fits)
