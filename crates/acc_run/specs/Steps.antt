-- The two steps of the top call: a command with its output, and then the report.
use Rattle.std.specs.Prelude.{◌≡◌, ◌≢◌, ◌⊎◌, ℕ, List}
use Rattle.acc_io.specs.Bytes.{Gains, GainsPart}
use Rattle.acc_io.specs.Held.{Held}
use Rattle.critical_table.specs.declared.ended.Ended.{Ended}
use Rattle.critical_table.specs.declared.ended.Ended.TheVariants.{Printed, WriteFault}
use Rattle.critical_table.specs.Report.{report_of}
use Rattle.acc_run.specs.Answer.{Observed, HasFailed, KeepsCount, IsCause, table_text}

-- A command ended: all the output that is due is written, or a front of it where the output failed.
abbrev pub Performs : List (List ℕ) → Observed Held → Observed (List ℕ) → Ended → Type 0
Performs words shelf out WriteFault =
    HasFailed out × ((due : Ended) × (output : List ℕ) × IsCause words shelf due output
    × GainsPart out.before out.after output)
Performs words shelf out ended =
    KeepsCount out × ((output : List ℕ) × IsCause words shelf ended output × Gains out.before out.after output)

-- The table was written, or a front of it where the output failed.
abbrev pub PerformsTable : Observed (List ℕ) → Ended → Type 0
PerformsTable out answer =
    ((answer ≡ Printed) × KeepsCount out × Gains out.before out.after table_text)
    ⊎ ((answer ≡ WriteFault) × HasFailed out × GainsPart out.before out.after table_text)

-- An end was reported: after a failed write nothing more is written; else its line is written, or a front of it where
-- a sink failed. The output gets nothing more.
abbrev pub Reports : Observed (List ℕ) → Observed (List ℕ) → Ended → Ended → Type 0
Reports out err ended answer =
    (out.after ≡ out.before)
    × (((ended ≡ WriteFault) × (answer ≡ WriteFault) × KeepsCount out × KeepsCount err × (err.after ≡ err.before))
    ⊎ (((ended ≢ WriteFault) × (answer ≡ ended) × KeepsCount out × KeepsCount err
    × Gains err.before err.after (report_of ended))
    ⊎ ((ended ≢ WriteFault) × (answer ≡ WriteFault) × (HasFailed out ⊎ HasFailed err)
    × GainsPart err.before err.after (report_of ended))))
