-- What the laws of libraries ask of a row of Annex K, by its own constraints, action and failure value.
use Rattle.std.specs.Prelude.{◌≡◌, ℕ, zero, suc, ◌≤◌, true, List, length, Option, Some, None, slice_get}
use Rattle.object_store.specs.declared.pointer.Pointer.{Pointer}
use Rattle.object_store.specs.Storage.{Storage}
use Rattle.object_store.specs.Reach.{reach}
use Rattle.lib_defs.specs.declared.value.Value.{Value}
use Rattle.lib_defs.specs.declared.violation.Violation.{Violation}
use Rattle.lib_defs.specs.Reply.{Fill, Change, Stop, FailsReach, FailsValue, FailsArgument}
use Rattle.lib_defs.specs.Reply.{IsUndefined, Ends, Did, Done, Broken, Asks, Fails}
use Rattle.lib_defs.specs.Constraints.{classes, decisions}
use Rattle.lib_defs.specs.Rules.{Rule, run_rule}
use Rattle.lib_defs.specs.Shown.{none_fails, is_first_failing}
use Rattle.lib_defs.specs.Laws.{IsSized, AreReached, IfReached, is_row_code}

-- done: no decided constraint fails; at most four stores, to reached ranges, and no other change
pub record RuleDone (r : Rule) (s : Storage) (change : Change) (set : Option Pointer) : Type 0 where
  pub passes : none_fails (decisions r.constraints) ≡ true
  pub reached : AreReached s change.stores
  pub few : length change.stores ≤ 4
  pub makes_none : change.made ≡ None
  pub ends_none : change.released ≡ None
  pub sets_none : set ≡ None

-- the class of the constraint with this number, from 1
abbrev pub class_at : List Violation → ℕ → Option Violation
class_at cs zero = None
class_at cs (suc k) = slice_get cs k

-- broken: the first constraint that may fail, with its class; the row's action, reached; the failure value
pub record RuleBroken (r : Rule) (s : Storage) (k : ℕ) (told : Violation) (fill : Option Fill) (value : Value)
    : Type 0 where
  pub first : is_first_failing (decisions r.constraints) k ≡ true
  pub class : class_at (classes r.constraints) k ≡ Some told
  pub action : fill ≡ r.action
  pub reached : IfReached s fill
  pub failure : value ≡ r.failure told

-- a stop: the reach that fails, or an undefined operation of the rows
abbrev pub RuleStop : Storage → Stop → Type 0
RuleStop s (FailsReach case place len align by) = reach s place len align by ≡ Some case
RuleStop s (FailsValue case value) = ⊥
RuleStop s (FailsArgument number) = ⊥
RuleStop s (IsUndefined code) = is_row_code code ≡ true
RuleStop s (Ends ended) = ⊥

abbrev pub RuleFits : Rule → Storage → Did → Type 0
RuleFits r s (Done change set value) = RuleDone r s change set
RuleFits r s (Broken k class action value) = RuleBroken r s k class action value
RuleFits r s (Asks function first second third rest) = ⊥
RuleFits r s (Fails stop) = RuleStop s stop

-- the row keeps the laws in every store
abbrev pub RuleKeeps : Rule → Type 0
RuleKeeps r = (s : Storage) → IsSized s → RuleFits r s (run_rule r s)
