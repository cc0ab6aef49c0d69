-- Tests of a line's row, and ranges that stay reached.
use Rattle.std.proofs.Common.{◌≡◌, ℕ, Bool, true, false, not, ◌&&◌, List, [], ◌∷◌, length, Option, Some, None, cond}
use Rattle.std.proofs.Common.{refl, ap, subst, sym, ◌∙◌}
use Rattle.std.specs.Prelude.{is_none}
use Rattle.std.proofs.lemmas.Bool.{eq-eqb, and_from, or_right}
use Rattle.critical_table.specs.declared.case.Case.{Case}
use Rattle.critical_table.specs.declared.case.Case.TheVariants.{L9}
use Rattle.critical_table.specs.declared.ended.Ended.{Ended}
use Rattle.critical_table.specs.declared.ended.Ended.TheVariants as ended
use Rattle.object_store.specs.declared.by.By.{By}
use Rattle.object_store.specs.declared.pointer.Pointer.{Pointer}
use Rattle.object_store.specs.Object.{Object}
use Rattle.object_store.specs.Storage.{Storage}
use Rattle.object_store.specs.Reach.{reach, IsReachedToStore}
use Rattle.lib_defs.specs.declared.row.Row.{Row}
use Rattle.lib_defs.specs.declared.row_name.RowName.{RowName}
use Rattle.lib_defs.specs.declared.row_name.RowName.TheVariants as n
use Rattle.lib_defs.specs.declared.value.Value.TheVariants.{Ptr}
use Rattle.lib_defs.specs.RowNumbers.{name_at}
use Rattle.lib_defs.specs.Reply.{Patch}
use Rattle.lib_defs.specs.Columns.{is_null}
use Rattle.lib_defs.specs.Laws.{AreReached, is_handler}
use Rattle.run_defs.specs.Outcomes.{row_outcome, end_of}
use Rattle.run_defs.specs.State.{State, bytes_patched}
use Rattle.run_defs.specs.RowKinds.{is_setter, is_printer, is_release_name, is_release}
use Rattle.run_defs.specs.Functions.{Function, OfLibrary, OfUnit, Environment, function_at, value_shown, ByLibrary}
use Rattle.run_defs.specs.Functions.{OfOtherType, handles}
use Rattle.run_defs.specs.Fits.{same_row, is_quiet, is_case, release_trap, is_row_trap}
use Rattle.run_defs.specs.Kept.{outlines}
use Rattle.run_defs.proofs.Outlines.{reach-outlines, outlines-stored}
use Rattle.run_defs.proofs.RowFacts.{no_handler}

pub same_row_itself : (row : Row) → same_row row row ≡ true
same_row_itself row = eq-eqb row.0 row.0 refl

pub setter_row : (row : Row) → name_at row ≡ Some n.SetConstraintHandlerS → is_setter row ≡ true
setter_row row is = rw is refl

pub printer_row : (row : Row) → name_at row ≡ Some n.Printf → is_printer row ≡ true
printer_row row is = rw is refl

pub release_row : (row : Row) (name : RowName) → is_release_name name ≡ true → name_at row ≡ Some name
    → is_release row ≡ true
release_row row name releases is = rw is releases

-- a library function that is called as the handler is one
pub library_handler : (found : Option Function) (row : Row) → handles found ≡ ByLibrary row → is_handler row ≡ true
library_handler None row is = cc
library_handler (Some (OfUnit name true compares)) row is = cc
library_handler (Some (OfUnit name false compares)) row is = cc
library_handler (Some (OfLibrary r)) row is = by_test (is_handler r) refl is
  where
    by_test : (test : Bool) → is_handler r ≡ test → cond test (ByLibrary r) OfOtherType ≡ ByLibrary row
        → is_handler row ≡ true
    by_test true handler is = let same : r ≡ row = cc in subst (λ x. is_handler x ≡ true) same handler
    by_test false handler is = cc

pub none_at : (found : Option Function) → is_none found ≡ true → found ≡ None
none_at None is = refl
none_at (Some f) is = cc

-- set_constraint_handler_s with what is neither null nor a function's number
pub setter_trap : (e : Environment) (row : Row) (store : Storage) (p : Pointer) → is_setter row ≡ true
    → is_null p ≡ false
    → function_at e p ≡ None → is_row_trap store L9 (value_shown e (Ptr p)) row ≡ true
setter_trap e row store p setter null at =
    or_right (is_release row && is_case L9 (release_trap store (value_shown e (Ptr p)))) _
    (and_from (is_setter row) _ setter (no_handler e p null at))

pub from_not : (b : Bool) → not b ≡ true → b ≡ false
from_not true is = cc
from_not false is = refl

-- a row ends a run neither by a trap nor by an undefined operation
pub row_quiet : (end : Ended) → is_quiet (end_of (row_outcome end)) ≡ true
row_quiet (ended.Exited status) = refl
row_quiet ended.ReadFault = refl
row_quiet _ = refl

-- A range stays reached where the objects stay as they are but for bytes.
abbrev reach_of : Pointer → ℕ → ℕ → By → List Object → Option Case
reach_of place len align by objects =
    reach (record { objects = objects; budget = 0; open_calls = 0; writes = [] }) place len align by

pub still_reached : (old new : Storage) → outlines new.objects ≡ outlines old.objects → (place : Pointer) (len : ℕ)
    → IsReachedToStore old place len → IsReachedToStore new place len
still_reached old new same place len r = record {
  align = r.align;
  by = r.by;
  storing = r.storing;
  reached = sym (reach-outlines new place len r.align r.by) ∙ ap (reach_of place len r.align r.by) same
      ∙ reach-outlines old place len r.align r.by ∙ r.reached;
}

pub all_reached : (old new : Storage) → outlines new.objects ≡ outlines old.objects → (ps : List Patch)
    → AreReached old ps
    → AreReached new ps
all_reached old new same [] each = tt
all_reached old new same (p ∷ ps) each =
    (still_reached old new same p.place (length p.bytes) each.0, all_reached old new same ps each.1)

pub outlines-patched : (s : State) (place : Pointer) (bytes : List (Option ℕ))
    → IsReachedToStore s.world.store place (length bytes)
    → outlines (bytes_patched bytes place s).world.store.objects ≡ outlines s.world.store.objects
outlines-patched s place [] reached = refl
outlines-patched s place (b ∷ bytes) reached = outlines-stored s.world.store place (b ∷ bytes) reached
