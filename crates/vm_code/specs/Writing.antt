-- What a call that writes a text to a sink has done: all of it is written, or a front of it where a fault was counted.
use Rattle.std.specs.Prelude.{ℕ, ◌+◌, List, length, Option, Result, Ok, Err, IsOk}
use Rattle.acc_io.specs.Bytes.{Gains, GainsPart}
use Rattle.acc_io.specs.Cause.{HasCause}
use Rattle.acc_io.specs.declared.failed.Failed.{Failed}

abbrev pub Writes : Option (List ℕ) → Option (List ℕ) → Result (Unit {0}) Failed → List ℕ → Type 0
Writes before now (Ok done) text = Gains before now text
Writes before now (Err failed) text = GainsPart before now text

abbrev pub all_written : Result (Unit {0}) Failed
all_written = Ok tt

-- Where there was room for the text it is written, and the room behind it is left.
pub record Told (faults faults_now : ℕ) (before now : Option (List ℕ)) (room room_now : ℕ → Type 0)
    (result : Result (Unit {0}) Failed) (bytes : List ℕ) : Type 0 where
  pub cause : HasCause faults faults_now result
  pub gained : Writes before now result bytes
  pub room_left : (more : ℕ) → room (length bytes + more) → IsOk result × room_now more
