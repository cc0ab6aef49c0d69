-- Rows that decide nothing by the values of a line answer their calls.
use Rattle.std.proofs.Common.{◌≡◌, Bool, true, List, Option, Some, None}
use Rattle.std.proofs.Common.{Some, None, arith}
use Rattle.lib_defs.specs.declared.row.Row.{Row}
use Rattle.lib_defs.specs.declared.row_name.RowName.{RowName}
use Rattle.lib_defs.specs.declared.step.Rest.{Rest}
use Rattle.lib_defs.specs.declared.value.Arg.{Arg}
use Rattle.lib_defs.specs.declared.value.Value.{Value}
use Rattle.lib_defs.specs.RowNumbers.{name_at}
use Rattle.lib_defs.specs.Prototypes.{IsGiven, prototype}
use Rattle.lib_defs.specs.Reply.{no_change}
use Rattle.lib_defs.specs.Reply.{Did, Done, Broken, Asks, Fails}
use Rattle.lib_defs.specs.Shown.{none_fails, line_decisions}
use Rattle.lib_defs.specs.World.{World, Reply}
use Rattle.lib_defs.specs.StreamRows.{reply_with}
use Rattle.lib_defs.specs.Laws.{shown_at, HasForm, DoneFits, CallFits}
use Rattle.lib_defs.proofs.AnnexRows.{has_form}
use Rattle.lib_defs.proofs.RowsFit.{stop_fits}
use Rattle.lib_defs.proofs.PlainFits.{PlainFits}

module _ (row : Row) (args : List Arg) (w : World) (keeps : Rest → Bool) where
  -- the answer fits its call
  abbrev pub Fits : Reply → Type 0
  Fits reply = CallFits keeps row args w reply.streams reply.did

  abbrev pub FitsAny : Option Reply → Type 0
  FitsAny None = Unit {0}
  FitsAny (Some reply) = Fits reply

  -- a row of no table of constraints decides nothing by its values
  abbrev pub Undecided : Type 0
  Undecided = none_fails (line_decisions row (shown_at row args)) ≡ true

  pub answer_fits : Undecided → (value : Value) → HasForm row args value → DoneFits row args w no_change None value
  answer_fits passes value form =
      record { passes = passes; made = tt; reached = tt; few = omega arith; released = tt; set = tt; form = form }

  -- a row without constraints that makes and ends no object
  pub plain_fits : (name : RowName) → name_at row ≡ Some name → Undecided → (d : Did)
      → PlainFits (IsGiven (prototype name).gives) w.store d → Fits (reply_with w d)
  plain_fits name named passes (Done change set value) h = record {
    passes = passes;
    made = rw h.0.makes_none tt;
    reached = rw h.0.makes_none h.0.reached;
    few = h.0.few;
    released = rw h.0.ends_none tt;
    set = rw h.0.sets_none tt;
    form = has_form row args name named value (λ fit. h.1);
  }
  plain_fits name named passes (Broken k class action value) h = absurd h
  plain_fits name named passes (Asks function first second third rest) h = absurd h
  plain_fits name named passes (Fails stop) h = stop_fits row args w w.streams stop h
