-- What a library row answers, as plain data.
use Rattle.std.specs.Prelude.{ℕ, List, [], ◌∷◌, replicate, Option, Some, None}
use Rattle.critical_table.specs.declared.case.Case.{Case}
use Rattle.critical_table.specs.declared.case.Case.TheVariants.{L9}
use Rattle.critical_table.specs.declared.code.Code.{Code}
use Rattle.critical_table.specs.declared.ended.Ended.{Ended}
use Rattle.object_store.specs.declared.by.By.{By}
use Rattle.object_store.specs.declared.by.By.TheVariants.{OtherRead}
use Rattle.object_store.specs.declared.class.Class.TheVariants.{Allocated}
use Rattle.object_store.specs.declared.pointer.Pointer.{Pointer}
use Rattle.object_store.specs.Storage.{Storage}
use Rattle.object_store.specs.Steps.{with_new, with_dead, with_store}
use Rattle.lib_defs.specs.declared.handler.Handler.{Handler}
use Rattle.lib_defs.specs.declared.step.LibStep.{LibStep}
use Rattle.lib_defs.specs.declared.step.LibStep.TheVariants as step
use Rattle.lib_defs.specs.declared.step.Rest.{Rest}
use Rattle.lib_defs.specs.declared.value.Value.{Value}
use Rattle.lib_defs.specs.declared.violation.Violation.{Violation}
use Rattle.lib_defs.specs.Violations.{errno_of}

-- bytes that go to a place; none where one is indeterminate
pub record Patch : Type 0 where
  pub place : Pointer
  pub bytes : List (Option ℕ)

-- one byte everywhere in a range: the action of a row
pub record Fill : Type 0 where
  pub place : Pointer
  pub len : ℕ
  pub byte : ℕ

abbrev pub patch_of : Fill → Patch
patch_of f = record { place = f.place; bytes = replicate f.len (Some f.byte) }

-- What a row that is done has made of the objects, in this order: an allocated one of this size is made; stores; the
-- one with this number ends.
pub record Change : Type 0 where
  pub made : Option ℕ
  pub stores : List Patch
  pub released : Option ℕ

abbrev pub no_change : Change
no_change = record { made = None; stores = []; released = None }

-- Why a row does not go on: the reach of a range fails; a pointer is no value for the row; printf's argument with
-- this number, from 1, is missing or of another kind; an operation is undefined; the run ends.
pub data Stop : Type 0 where
  FailsReach : (case : Case) (place : Pointer) (len align : ℕ) (by : By) → Stop
  FailsValue : (case : Case) (value : Pointer) → Stop
  FailsArgument : (number : ℕ) → Stop
  IsUndefined : (code : Code) → Stop
  Ends : (ended : Ended) → Stop

-- A row is done: with a change of the store, a handler that is set, if any, and a value. Or its constraint with this
-- number, from 1, fails: with its class, the action, if there is one, and the failure value. Or it wants a guest's
-- function called with three pointers. Or it does not go on.
pub data Did : Type 0 where
  Done : (change : Change) (set : Option Pointer) (value : Value) → Did
  Broken : (constraint : ℕ) (class : Violation) (action : Option Fill) (value : Value) → Did
  Asks : (function first second third : Pointer) (rest : Rest) → Did
  Fails : (stop : Stop) → Did

abbrev pub null : Pointer
null = record { object = 0; offset = 0; low = 0; high = 0 }

-- the answer that the program sees; a trap that is no reach has alignment 0
abbrev pub stop_step : Stop → LibStep
stop_step (FailsReach case place len align by) = step.Trap case place len align by
stop_step (FailsValue case value) = step.Trap case value 0 0 OtherRead
stop_step (FailsArgument number) = step.Trap L9 null number 0 OtherRead
stop_step (IsUndefined code) = step.Undef code
stop_step (Ends ended) = step.End ended

abbrev pub step_of : Did → LibStep
step_of (Done change set value) = step.Done value
step_of (Broken constraint class action value) = step.Violated constraint (errno_of class) value
step_of (Asks function first second third rest) = step.Ask function first second third rest
step_of (Fails stop) = stop_step stop

-- the store after it
abbrev pub with_stores : List Patch → Storage → Storage
with_stores [] s = s
with_stores (p ∷ ps) s = with_stores ps (with_store s p.place p.bytes)

abbrev pub with_made : Option ℕ → Storage → Storage
with_made None s = s
with_made (Some size) s = with_new s size Allocated

abbrev pub with_released : Option ℕ → Storage → Storage
with_released None s = s
with_released (Some number) s = with_dead s number

abbrev pub with_change : Change → Storage → Storage
with_change change s = with_released change.released (with_stores change.stores (with_made change.made s))

abbrev pub with_action : Option Fill → Storage → Storage
with_action None s = s
with_action (Some f) s = with_stores (patch_of f ∷ []) s

abbrev pub store_after : Did → Storage → Storage
store_after (Done change set value) s = with_change change s
store_after (Broken constraint class action value) s = with_action action s
store_after (Asks function first second third rest) s = s
store_after (Fails stop) s = s

-- the handler after it
abbrev pub handler_with : Option Pointer → Handler → Handler
handler_with None handler = handler
handler_with (Some new) handler = record handler { current = new }

abbrev pub handler_after : Did → Handler → Handler
handler_after (Done change set value) handler = handler_with set handler
handler_after _ handler = handler
