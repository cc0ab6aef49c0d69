-- How a run ends.
use Rattle.critical_table.specs.declared.ended.Ended.{Ended}
use Rattle.critical_table.specs.declared.ended.Ended.TheVariants as ended
use Rattle.run_defs.specs.declared.outcome.End.{End}
use Rattle.run_defs.specs.declared.outcome.End.TheVariants as end
use Rattle.run_defs.specs.declared.outcome.Outcome.{Outcome}
use Rattle.run_defs.specs.declared.outcome.Outcome.TheVariants as outcome

-- the end of a command that such a run is
abbrev pub ended_of : Outcome → Ended
ended_of (outcome.Exited status) = ended.Exited status
ended_of outcome.Aborted = ended.Aborted
ended_of (outcome.Trapped case pos) = ended.Trapped case pos
ended_of (outcome.Undefined code pos) = ended.Undefined code pos
ended_of outcome.OutOfTicks = ended.OutOfTicks
ended_of outcome.OutOfBytes = ended.OutOfBytes
ended_of outcome.ReadFault = ended.ReadFault

-- what the last line of its journal shows of it
abbrev pub end_of : Outcome → End
end_of (outcome.Exited status) = end.Exited status
end_of outcome.Aborted = end.Aborted
end_of (outcome.Trapped case pos) = end.Trapped case
end_of (outcome.Undefined code pos) = end.Undefined code
end_of outcome.OutOfTicks = end.OutOfTicks
end_of outcome.OutOfBytes = end.OutOfBytes
end_of outcome.ReadFault = end.ReadFault

-- The outcome of a run that a library row ends: by exit, by abort, or by a read of a broken input. No row ends a run
-- otherwise, so the last clause never matters.
abbrev pub row_outcome : Ended → Outcome
row_outcome (ended.Exited status) = outcome.Exited status
row_outcome ended.ReadFault = outcome.ReadFault
row_outcome _ = outcome.Aborted
