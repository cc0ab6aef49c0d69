-- What the top call answers, why, and what it writes: by the job of the words, the unit that the shelf gave, its
-- meaning, and the report.
use Rattle.std.specs.Prelude.{◌≡◌, ◌⊎◌, ℕ, ◌+◌, List, [], length, Option, Some, None, IfSome}
use Rattle.std.specs.List.{flat_map}
use Rattle.acc_io.specs.Cause.{FaultCounted}
use Rattle.acc_io.specs.Bytes.{Gains, GainsPart}
use Rattle.acc_io.specs.Held.{Held, file_of}
use Rattle.critical_table.specs.declared.refusal.Refusal.TheVariants.{Syntax}
use Rattle.critical_table.specs.declared.ended.Ended.{Ended}
use Rattle.critical_table.specs.declared.ended.Ended.TheVariants.{WriteFault, ShelfFault, Refused, Usage, Printed}
use Rattle.critical_table.specs.declared.ended.Ended.TheVariants.{Memory}
use Rattle.critical_table.specs.Report.{report_of}
use Rattle.critical_table.specs.Table.{table_lines}
use Rattle.acc_run.specs.Program.{UnitParts, IsUnit}
use Rattle.acc_run.specs.Meaning.{Outcome, meaning_of}
use Rattle.acc_run.specs.Job.{Job, Run, Table, job_of}

-- An object of the outside before and after a call: the count of its faults, and what it tells, if it does.
pub record Observed (T : Type 0) : Type 0 where
  pub faults_before : ℕ
  pub faults_after : ℕ
  pub before : Option T
  pub after : Option T

-- what is observed of an object by two of its ghost members
abbrev pub observe : {A T : Type 0} → (A → ℕ) → (A → Option T) → A → A → Observed T
observe faults contents old new = record {
  faults_before = faults old;
  faults_after = faults new;
  before =
      contents old;
  after = contents new;
}

-- its count rose
abbrev pub HasFailed : {T : Type 0} → Observed T → Type 0
HasFailed object = FaultCounted object.faults_before object.faults_after

-- its count is as it was
abbrev pub KeepsCount : {T : Type 0} → Observed T → Type 0
KeepsCount object = object.faults_after ≡ object.faults_before

-- The shelf gave this unit for the file: where the shelf tells its files, the first one of that name.
abbrev pub HasUnit : Option Held → List ℕ → List ℕ → Type 0
HasUnit contents file unit = IfSome contents (λ held. file_of held.files file ≡ Some unit)

-- These bytes are no unit: they are refused at their first place.
abbrev pub refusal : Outcome
refusal = record { ended = Refused Syntax (record { line = 1; column = 1 }); output = [] }

-- What becomes of a unit: its meaning, or the refusal where the bytes are none.
abbrev pub IsOutcomeOf : List ℕ → Outcome → Type 0
IsOutcomeOf unit outcome =
    ((parts : UnitParts) × IsUnit parts unit × (outcome ≡ meaning_of parts))
    ⊎ (((parts : UnitParts) → IsUnit parts unit → ⊥) × (outcome ≡ refusal))

-- the table of cases and codes, line after line
abbrev pub table_text : List ℕ
table_text = flat_map (λ line. line) table_lines

-- Why an end comes, with what is written to the output. Want of memory may come at any time.
abbrev pub IsCause : List (List ℕ) → Observed Held → Ended → List ℕ → Type 0
IsCause words shelf Usage output = (job_of words ≡ None) × (output ≡ [])
IsCause words shelf ShelfFault output = (file : List ℕ) × (job_of words ≡ Some (Run file)) × HasFailed shelf
    × (output ≡ [])
IsCause words shelf Memory output = output ≡ []
IsCause words shelf Printed output = (job_of words ≡ Some Table) × (output ≡ table_text)
IsCause words shelf WriteFault output = ⊥
IsCause words shelf ended output =
    (file unit : List ℕ) × (job_of words ≡ Some (Run file)) × HasUnit shelf.before file unit
    × IsOutcomeOf unit (record { ended = ended; output = output })

-- What an answer says. A failed write stands above every other end: then what was due is written in part.
-- Any other answer is the end that is due, and all of its output and its report is written.
abbrev pub Answers : List (List ℕ) → Observed Held → Observed (List ℕ) → Observed (List ℕ) → Ended → Type 0
Answers words shelf out err WriteFault =
    (HasFailed out ⊎ HasFailed err)
    × ((due : Ended) × (output : List ℕ) × IsCause words shelf due output
    × GainsPart out.before out.after output × GainsPart err.before err.after (report_of due))
Answers words shelf out err ended =
    KeepsCount out × KeepsCount err
    × ((output : List ℕ) × IsCause words shelf ended output
    × Gains out.before out.after output × Gains err.before err.after (report_of ended))

-- What is due to a job, where a shelf tells the file.
abbrev pub IsDue : Option Job → Option Held → Outcome → Type 0
IsDue None contents outcome = outcome ≡ record { ended = Usage; output = [] }
IsDue (Some Table) contents outcome = outcome ≡ record { ended = Printed; output = table_text }
IsDue (Some (Run file)) contents outcome =
    (held : Held) × (unit : List ℕ) × (contents ≡ Some held) × (file_of held.files file ≡ Some unit)
    × IsOutcomeOf unit outcome

-- The answer is what is due, and all of its output and its report is written.
pub record IsReported (outcome : Outcome) (out err : Observed (List ℕ)) (answer : Ended) : Type 0 where
  pub end : answer ≡ outcome.ended
  pub output : Gains out.before out.after outcome.output
  pub report : Gains err.before err.after (report_of outcome.ended)

-- Over a shelf that doesn't fail, and sinks with room for 200 bytes more than the text, the answer is what is due,
-- unless memory ran out.
abbrev pub IsComplete : List (List ℕ) → Option Held → Type 0 → (ℕ → Type 0) → (ℕ → Type 0) → Ended → Type 0
IsComplete words contents shelf_is_sound out_has_room err_has_room answer =
    (outcome : Outcome) → IsDue (job_of words) contents outcome →
    shelf_is_sound → out_has_room (length outcome.output + 200) → err_has_room 200 →
    (answer ≡ outcome.ended) ⊎ (answer ≡ Memory)
