-- A row of Annex K answers its call as every library does.
use Rattle.std.proofs.Common.{◌≡◌, ℕ, zero, suc, ◌-◌, ◌==◌, Bool, false, List, slice_get, Option, Some, refl, sym, ap}
use Rattle.std.proofs.Common.{◌∙◌, arith}
use Rattle.std.proofs.lemmas.Grind.{common_steps}
use Rattle.object_store.specs.declared.pointer.Pointer.{Pointer}
use Rattle.lib_defs.specs.declared.row.Row.{Row}
use Rattle.lib_defs.specs.declared.row_name.RowName.{RowName}
use Rattle.lib_defs.specs.declared.step.Rest.{Rest}
use Rattle.lib_defs.specs.declared.value.Arg.{Arg}
use Rattle.lib_defs.specs.declared.value.Value.{Value}
use Rattle.lib_defs.specs.declared.violation.Violation.{Violation}
use Rattle.lib_defs.specs.RowNumbers.{name_at}
use Rattle.lib_defs.specs.Reply.{Fill, Change, Stop, FailsReach, FailsValue, FailsArgument, IsUndefined, Ends, Did}
use Rattle.lib_defs.specs.Reply.{Done, Broken, Asks, Fails}
use Rattle.lib_defs.specs.Constraints.{decisions, classes}
use Rattle.lib_defs.specs.Rules.{Rule, run_rule}
use Rattle.lib_defs.specs.RowTable.{violation_at}
use Rattle.lib_defs.specs.Shown.{line_decisions, line_action, failure_at, write_of}
use Rattle.lib_defs.specs.World.{World, Streams}
use Rattle.lib_defs.specs.Library.{values_of}
use Rattle.lib_defs.specs.Laws.{IsSized, shown_at, HasForm, DoneFits, BrokenFits, RowStopFits, CallFits}
use Rattle.lib_defs.specs.RuleLaws.{RuleDone, RuleBroken, class_at, RuleStop, RuleFits}
use Rattle.lib_defs.proofs.NamedRows.{Facts}

-- the value that is answered, if one is
abbrev pub Gives : (Value → Type 0) → Did → Type 0
Gives P (Done change set value) = P value
Gives P (Broken k class action value) = P value
Gives P (Asks function first second third rest) = Unit {0}
Gives P (Fails stop) = Unit {0}

-- a stop that any row may come to
pub stop_fits : (row : Row) (args : List Arg) (w : World) (streams : Streams) (stop : Stop) → RuleStop w.store stop
    → RowStopFits row args w streams stop
stop_fits row args w streams (FailsReach case place len align by) h = h
stop_fits row args w streams (FailsValue case value) h = absurd h
stop_fits row args w streams (FailsArgument number) h = absurd h
stop_fits row args w streams (IsUndefined code) h = h
stop_fits row args w streams (Ends ended) h = absurd h

module _ (row : Row) (args : List Arg) (name : RowName) (r : Rule) (named : name_at row ≡ Some name)
    (facts : Facts name (values_of args) r) where
  decided_is : line_decisions row (shown_at row args) ≡ decisions facts.seen.constraints
  decided_is = rw (named, facts.is) refl

  action_is : line_action row (shown_at row args) ≡ write_of facts.seen.action
  action_is = rw (named, facts.is) refl

  class_of : (k : ℕ) (told : Violation) → class_at (classes r.constraints) k ≡ Some told
      → violation_at row k ≡ Some told
  class_of zero told e = cc
  class_of (suc k) told e =
      let less : suc k - 1 ≡ k = omega arith in
      let some : (suc k == 0) ≡ false = grind (arith, common_steps) in
      rw (some, named, less) (ap (λ cs. slice_get cs k) (sym facts.classes) ∙ e)

  failure_of : (k : ℕ) (told : Violation) → violation_at row k ≡ Some told → failure_at row k ≡ Some (r.failure told)
  failure_of k told e = rw (e, named, facts.named_is) (ap Some (sym (facts.failure told)))

  module _ (w : World) (waits : Rest → Bool) (streams : Streams) where
    done_fits : (change : Change) (set : Option Pointer) (value : Value) → HasForm row args value
        → RuleDone r w.store change set
        → DoneFits row args w change set value
    done_fits change set value form h = record {
      passes = rw decided_is (facts.same.passes h.passes);
      made = rw h.makes_none tt;
      reached = rw h.makes_none h.reached;
      few = h.few;
      released = rw h.ends_none tt;
      set = rw h.sets_none tt;
      form = form;
    }

    broken_fits : (k : ℕ) (told : Violation) (action : Option Fill) (value : Value) → HasForm row args value
        → RuleBroken r w.store k told action value → BrokenFits row args w k told action value
    broken_fits k told action value form h = record {
      first = rw decided_is (facts.same.first k h.first);
      class = class_of k told h.class;
      by_values = ap write_of h.action ∙ facts.same.action ∙ sym action_is;
      reached = h.reached;
      failure = failure_of k told (class_of k told h.class) ∙ ap Some (sym h.failure);
      form = form;
    }

    did_fits : (d : Did) → Gives (HasForm row args) d → RuleFits r w.store d → CallFits waits row args w streams d
    did_fits (Done change set value) form h = done_fits change set value form h
    did_fits (Broken k told action value) form h = broken_fits k told action value form h
    did_fits (Asks function first second third rest) form h = absurd h
    did_fits (Fails stop) form h = stop_fits row args w streams stop h

    -- what the row does, where its values have their form
    pub rule_fits_call : IsSized w.store → Gives (HasForm row args) (run_rule r w.store)
        → CallFits waits row args w streams (run_rule r w.store)
    rule_fits_call sized form = did_fits (run_rule r w.store) form (facts.keeps w.store sized)
