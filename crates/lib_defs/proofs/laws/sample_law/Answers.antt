-- Row by row.
use Rattle.lib_defs.proofs.SampleLaws.{sample_keeps}
use Rattle.lib_defs.proofs.laws.sample_law.Goals as goal

pub returns : goal.returns
returns c = sample_keeps
