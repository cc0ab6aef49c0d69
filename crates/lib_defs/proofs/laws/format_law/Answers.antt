-- Piece by piece.
use Rattle.lib_defs.proofs.FormatLemmas.{format_is}
use Rattle.lib_defs.proofs.laws.format_law.Goals as goal

pub returns : goal.returns
returns c = format_is
