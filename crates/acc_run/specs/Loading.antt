-- How much of a file is read.
use Rattle.std.specs.Prelude.{◌≡◌, ◌⊎◌, ℕ, ◌+◌, ◌<◌, ◌≤◌, List, ◌++◌, length, Option, Some, None}
use Rattle.std.specs.Option.{option_map}
use Rattle.acc_io.specs.Held.{Held, Selects, Reads, deselect}
use Rattle.acc_run.specs.Program.{longest_unit}
use Rattle.acc_run.specs.Job.{Job, Run, Table}

-- one byte more than the longest unit, which tells that a file is longer
abbrev pub most_read : ℕ
most_read = longest_unit + 1

-- These bytes are the whole file, or so many of its first bytes that it is longer than any unit.
abbrev pub ReadsFile : List ℕ → List ℕ → Type 0
ReadsFile file bytes = (file ≡ bytes) ⊎ ((rest : List ℕ) × (file ≡ bytes ++ rest) × (longest_unit < length bytes))

-- The shelf gave at most so many bytes of what was left of the selected file.
abbrev pub ReadsAtMost : ℕ → Option Held → Option Held → Type 0
ReadsAtMost most before now = (bytes : List ℕ) × (length bytes ≤ most) × Reads before now bytes

-- What a job takes from the shelf: at most `most_read` bytes of its file, from the first on, or none where no such
-- file was selected. The files stay. A job without a file leaves the shelf as it was.
abbrev pub ReadsForJob : Option Job → Option Held → Option Held → Type 0
ReadsForJob None before now = now ≡ before
ReadsForJob (Some Table) before now = now ≡ before
ReadsForJob (Some (Run file)) before now =
    (now ≡ option_map deselect before)
    ⊎ ((start : Option Held) × Selects before start file × ReadsAtMost most_read start now)
