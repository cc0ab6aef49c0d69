-- What a row of Annex K is, and what it does.
use Rattle.std.specs.Prelude.{ℕ, List, Option, Some, None}
use Rattle.critical_table.specs.declared.case.Case.{Case}
use Rattle.object_store.specs.declared.by.By.{By}
use Rattle.object_store.specs.declared.by.By.TheVariants.{TextWrite}
use Rattle.object_store.specs.declared.pointer.Pointer.{Pointer}
use Rattle.object_store.specs.Storage.{Storage}
use Rattle.object_store.specs.Reach.{reach}
use Rattle.lib_defs.specs.declared.value.Value.{Value}
use Rattle.lib_defs.specs.declared.value.Value.TheVariants.{Num}
use Rattle.lib_defs.specs.declared.violation.Violation.{Violation}
use Rattle.lib_defs.specs.Violations.{errno_of}
use Rattle.lib_defs.specs.Reply.{Patch, Fill, FailsReach, Did, Done, Broken, Fails, no_change}
use Rattle.lib_defs.specs.Constraints.{Look, Saw, Stuck, Constraint, Refusal, Breaks, Stops, refusal}

-- A row of the table for units of a width, at its arguments: its constraints in order; what is stored where one of
-- them fails, if the arguments demand it; the value of the call then; and what it does where all of them hold.
pub record Rule : Type 0 where
  pub width : ℕ
  pub constraints : List Constraint
  pub action : Option Fill
  pub failure : Violation → Value
  pub success : Storage → Did

-- a row that is done with these stores
abbrev pub done_with : List Patch → Value → Did
done_with patches value = Done (record no_change { stores = patches }) None value

-- goes on where a range is reached
abbrev pub reach_then_case : Option Case → Pointer → (len align : ℕ) → By → Did → Did
reach_then_case None place len align by go = go
reach_then_case (Some case) place len align by go = Fails (FailsReach case place len align by)

abbrev pub reach_then : Storage → Pointer → (len align : ℕ) → By → Did → Did
reach_then s place len align by go = reach_then_case (reach s place len align by) place len align by go

-- goes on with what was seen
abbrev pub look_then : {A : Type 0} → Look A → (A → Did) → Did
look_then (Saw a) go = go a
look_then (Stuck stop) go = Fails stop

-- the action is reached as a whole
abbrev pub act_then : ℕ → Option Fill → Storage → Did → Did
act_then w None s go = go
act_then w (Some f) s go = reach_then s f.place f.len w TextWrite go

abbrev pub refuse : Rule → Refusal → Storage → Did
refuse r (Breaks k class) s = act_then r.width r.action s (Broken k class r.action (r.failure class))
refuse r (Stops stop) s = Fails stop

abbrev pub run_by : Option Refusal → Rule → Storage → Did
run_by None r s = r.success s
run_by (Some why) r s = refuse r why s

-- what the row does
abbrev pub run_rule : Rule → Storage → Did
run_rule r s = run_by (refusal r.constraints 1 s) r s

-- the failure value of most rows is the value of the class
abbrev pub errno_value : Violation → Value
errno_value class = Num (errno_of class)
