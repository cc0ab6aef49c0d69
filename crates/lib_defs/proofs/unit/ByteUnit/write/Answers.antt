-- The byte that was written is read.
use Rattle.std.proofs.Common.{◌≡◌, rules}
use Rattle.lib_defs.specs.Units.{byte_number}
use Rattle.lib_defs.proofs.UnitBytes.{byte_back, set_one}
use Rattle.lib_defs.proofs.unit.ByteUnit.write.Goals as goal

pub returns-clause-read : goal.returns-clause-read
returns-clause-read c =
    let is : c.byte_of.result ≡ byte_number c.args.unit = search rules in
    rw (set_one c.args.cells.now c.byte_of.result c.requires.long)
    (byte_back c.args.unit c.byte_of.result is c.requires.fits)
