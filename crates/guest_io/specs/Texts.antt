-- The text at a pointer, as it is read to be written.
use Rattle.std.specs.Prelude.{◌≡◌, ℕ, List, ◌++◌, None, Some, Bool, true, false, codes}
use Rattle.critical_table.specs.declared.ended.Ended.TheVariants as ended
use Rattle.object_store.specs.declared.pointer.Pointer.{Pointer}
use Rattle.object_store.specs.Storage.{Storage}
use Rattle.lib_defs.specs.declared.step.LibStep.{LibStep}
use Rattle.lib_defs.specs.declared.step.LibStep.TheVariants as step
use Rattle.lib_defs.specs.Reply.{Stop, stop_step}
use Rattle.lib_defs.specs.Constraints.{Look, Stuck}
use Rattle.lib_defs.specs.Characters.{string_at}
use Rattle.lib_defs.specs.Answers.{is_read_fault, is_write_fault}

-- the characters before its null, or before the first that is not read
unfoldable pub text_of : Storage → Pointer → List ℕ
text_of s p = (string_at s p).list

-- the text is read to its null
pub record IsEnded (s : Storage) (p : Pointer) : Type 0 where
  pub ended : (string_at s p).stop ≡ None

-- Why it is not, as the answer of a row
pub record IsStopped (s : Storage) (p : Pointer) (answer : LibStep) : Type 0 where
  pub stop : Stop
  pub stopped : (string_at s p).stop ≡ Some stop
  pub step : answer ≡ stop_step stop

-- a look does not go on, and this is the answer of a row
pub record IsStuck {A : Type 0} (seen : Look A) (answer : LibStep) : Type 0 where
  pub stop : Stop
  pub stuck : seen ≡ Stuck stop
  pub step : answer ≡ stop_step stop

-- the run ends as aborted
abbrev pub is_aborted : LibStep → Bool
is_aborted (step.End ended.Aborted) = true
is_aborted _ = false

-- the answer is no fault of a stream, and no abort
pub record IsQuiet (answer : LibStep) : Type 0 where
  pub read : is_read_fault answer ≡ false
  pub write : is_write_fault answer ≡ false
  pub aborted : is_aborted answer ≡ false

-- what the default handler tells of a text (K.3.6.1.2)
abbrev pub abort_text : Storage → Pointer → List ℕ
abort_text s p = codes "abort_handler_s: " ++ text_of s p ++ codes "\n"
