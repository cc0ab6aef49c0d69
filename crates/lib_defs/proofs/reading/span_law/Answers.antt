-- The law, by induction over the units.
use Rattle.lib_defs.proofs.Spans.{span_is, span_reads}
use Rattle.lib_defs.proofs.reading.span_law.Goals as goal

pub returns : goal.returns
returns c = record { is = span_reads; alone = span_is }
