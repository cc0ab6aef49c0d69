-- Row by row.
use Rattle.lib_defs.proofs.ProfileLaws.{profile_keeps, has_all}
use Rattle.lib_defs.proofs.laws.profile_law.Goals as goal

pub returns : goal.returns
returns c = record { keeps = profile_keeps; all = has_all }
