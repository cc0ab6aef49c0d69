-- A lawful journal: a replay that knows the objects without their bytes, the handler that was set last, and the open
-- library calls; it sees no unit and no machine (L.2, L.3, K.3.1.4).
use Rattle.std.specs.Prelude.{◌≡◌, ℕ, nat_le, Bool, true, false, not, ◌&&◌, ◌||◌, List, [], ◌∷◌, Option, Some, None}
use Rattle.std.specs.Prelude.{codes, if◌then◌else◌}
use Rattle.std.specs.Option.{option_and_then}
use Rattle.std.specs.Str.{bytes_eq, bytes_eq}
use Rattle.critical_table.specs.declared.case.Case.{Case}
use Rattle.critical_table.specs.declared.case.Case.TheVariants.{L3, L9}
use Rattle.object_store.specs.declared.writes.Write.{Write}
use Rattle.object_store.specs.Storage.{Storage, is_live}
use Rattle.object_store.specs.Steps.{with_new, with_dead, with_mark}
use Rattle.object_store.specs.Reach.{reach}
use Rattle.lib_defs.specs.declared.row.Row.{Row}
use Rattle.lib_defs.specs.declared.shown.Shown.{Shown}
use Rattle.lib_defs.specs.Shown.{line_decisions, line_action, failure_at, none_fails, is_first_failing}
use Rattle.run_defs.specs.declared.event.Event.{Event}
use Rattle.run_defs.specs.declared.event.Event.TheVariants as event
use Rattle.run_defs.specs.declared.outcome.End.{End}
use Rattle.run_defs.specs.declared.outcome.End.TheVariants.{Trapped, Undefined}
use Rattle.run_defs.specs.State.{has_range}
use Rattle.run_defs.specs.RowKinds.{is_setter, is_printer}
use Rattle.run_defs.specs.Fits.{same_case, same_row, same_write, is_failure, is_function, is_made, is_marked, is_store}
use Rattle.run_defs.specs.Fits.{is_told, is_quiet, is_case, is_call_trap, is_row_trap}

-- An open call runs, with a store so far or without; or its handler does, since the constraint with this number is
-- violated.
pub data Phase : Type 0 where
  Running : (stored : Bool) → Phase
  Handling : (constraint : ℕ) → Phase

pub record OpenCall : Type 0 where
  pub row : Row
  pub values : List Shown
  pub phase : Phase

-- What has to stand next: any line that fits; after `violated` the action's store, and then the handler; after
-- `handled` the return; after a trap or a stop the end; after the end no line.
pub data Due : Type 0 where
  AnyLine : Due
  TheStore : (constraint : ℕ) (write : Write) → Due
  TheHandler : (constraint : ℕ) → Due
  TheReturn : (constraint : ℕ) → Due
  TheEnd : (told : End) → Due
  NoLine : Due

-- store: the objects, whose bytes are all indeterminate; its budget and open calls are not looked at
-- handler: the name of the handler that was set last
-- calls: the library calls that are open, the last one first
pub record Replay : Type 0 where
  pub store : Storage
  pub handler : List ℕ
  pub calls : List OpenCall
  pub due : Due

abbrev pub when : {A : Type 0} → Bool → A → Option A
when holds x = if holds then Some x else None

-- Open calls.

-- whether the call on top passes the test
abbrev pub on_top : (OpenCall → Bool) → List OpenCall → Bool
on_top test [] = false
on_top test (c ∷ calls) = test c

abbrev pub is_running : Phase → Bool
is_running (Running stored) = true
is_running (Handling k) = false

-- it runs without a store so far
abbrev pub is_fresh : Phase → Bool
is_fresh (Running stored) = not stored
is_fresh (Handling k) = false

abbrev pub runs : (Row → Bool) → OpenCall → Bool
runs test c = is_running c.phase && test c.row

abbrev pub open_call : Row → List Shown → OpenCall
open_call row values = record { row = row; values = values; phase = Running false }

-- a store was done while the call on top runs
abbrev pub stored_phase : Phase → Phase
stored_phase (Running stored) = Running true
stored_phase (Handling k) = Handling k

abbrev pub with_phase : (Phase → Phase) → List OpenCall → List OpenCall
with_phase change [] = []
with_phase change (c ∷ calls) = record c { phase = change c.phase } ∷ calls

-- Lines, each by what is due.

-- `violated ROW K`: the call on top is ROW's and runs, without a store so far, and by the values of its line K may be
-- the first constraint that fails. Then the action's store is due, if the values demand one.
abbrev pub due_action : ℕ → Option Write → Due
due_action k None = TheHandler k
due_action k (Some w) = TheStore k w

abbrev pub violated : Row → ℕ → Replay → List OpenCall → Option Replay
violated row k r [] = None
violated row k r (c ∷ calls) =
    when (same_row c.row row && (is_fresh c.phase && is_first_failing (line_decisions row c.values) k))
    (record r { due = due_action k (line_action row c.values) })

-- `handled`: the call on top is in its handler
abbrev pub handled_in : Phase → Replay → Option Replay
handled_in (Running stored) r = None
handled_in (Handling k) r = Some (record r { due = TheReturn k })

abbrev pub handled : Replay → List OpenCall → Option Replay
handled r [] = None
handled r (c ∷ calls) = handled_in c.phase r

-- `ret ROW VALUE` of a call that runs: the values of its line decide of no constraint that it fails
abbrev pub returned : Row → Replay → List OpenCall → Option Replay
returned row r [] = None
returned row r (c ∷ calls) =
    when (runs (same_row row) c && none_fails (line_decisions row c.values)) (record r { calls = calls })

-- `ret ROW VALUE` behind `handled`: the failure value
abbrev pub failed : Row → Shown → ℕ → Replay → List OpenCall → Option Replay
failed row value k r [] = None
failed row value k r (c ∷ calls) =
    when (same_row c.row row && is_failure (failure_at row k) value) (record r { calls = calls; due = AnyLine })

-- `trap CASE .. function VALUE`: a call; or what a row tests of its argument
abbrev pub is_value_trap : Replay → Case → Shown → Bool
is_value_trap r case value =
    is_call_trap case value || on_top (runs (λ (row : Row). is_row_trap r.store case value row)) r.calls

-- where any line may stand
abbrev pub any_line : Replay → Event → Option Replay
any_line r (event.Made object size class) =
    when (is_made r.store object size class) (record r { store = with_new r.store size class })
any_line r (event.Sealed object seal) =
    when (is_marked seal.mark && has_range r.store object seal.at seal.len)
    (record r { store = with_mark r.store object seal.at seal.len seal.mark })
any_line r (event.Stored write) = when (is_store r.store write) (record r { calls = with_phase stored_phase r.calls })
any_line r (event.Died object) = when (is_live r.store object) (record r { store = with_dead r.store object })
any_line r (event.Called row values) = Some (record r { calls = open_call row values ∷ r.calls })
any_line r (event.Returned row value) = returned row r r.calls
any_line r (event.HandlerSet name) = when (on_top (runs is_setter) r.calls) (record r { handler = name })
any_line r (event.Violated row k) = violated row k r r.calls
any_line r (event.HandlerCalled name) = None
any_line r event.HandlerReturned = handled r r.calls
any_line r (event.ReachFailed case pos attempt) =
    when (is_case case (reach r.store attempt.place attempt.len attempt.align attempt.by))
    (record r { due = TheEnd (Trapped case) })
any_line r (event.ValueFailed case pos value) =
    when (is_value_trap r case value) (record r { due = TheEnd (Trapped case) })
any_line r (event.ArgumentFailed pos k) =
    when (on_top (runs is_printer) r.calls && nat_le 2 k) (record r { due = TheEnd (Trapped L9) })
any_line r (event.Stopped code pos) = Some (record r { due = TheEnd (Undefined code) })
any_line r (event.Ended end) = when (is_quiet end) (record r { due = NoLine })

-- where the action's store is due: that store, and no other
abbrev pub the_store : ℕ → Write → Replay → Event → Option Replay
the_store k due r (event.Stored write) = when (same_write write due && is_store r.store write)
    (record r { calls = with_phase stored_phase r.calls; due = TheHandler k })
the_store k due r _ = None

-- where the handler is due: the one set last; or it is of another type; or the run ends
abbrev pub the_handler : ℕ → Replay → Event → Option Replay
the_handler k r (event.HandlerCalled name) = when (bytes_eq name r.handler)
    (record r { calls = with_phase (λ (phase : Phase). Handling k) r.calls; due = AnyLine })
the_handler k r (event.ValueFailed case pos value) =
    when (same_case case L3 && is_function value) (record r { due = TheEnd (Trapped case) })
the_handler k r (event.Ended end) = when (is_quiet end) (record r { due = NoLine })
the_handler k r _ = None

-- where the return of the call is due
abbrev pub the_return : ℕ → Replay → Event → Option Replay
the_return k r (event.Returned row value) = failed row value k r r.calls
the_return k r _ = None

-- where the end is due: the one that the trap or the stop is
abbrev pub the_end : End → Replay → Event → Option Replay
the_end told r (event.Ended end) = when (is_told told end) (record r { due = NoLine })
the_end told r _ = None

-- the replay behind a line, where the line fits
abbrev pub step_at : Due → Replay → Event → Option Replay
step_at AnyLine r e = any_line r e
step_at (TheStore k w) r e = the_store k w r e
step_at (TheHandler k) r e = the_handler k r e
step_at (TheReturn k) r e = the_return k r e
step_at (TheEnd told) r e = the_end told r e
step_at NoLine r e = None

abbrev pub step : Replay → Event → Option Replay
step r e = step_at r.due r e

abbrev pub replay : Replay → List Event → Option Replay
replay r [] = Some r
replay r (e ∷ journal) = option_and_then (λ (r1 : Replay). replay r1 journal) (step r e)

-- before the first line: no object is made, and abort_handler_s is the handler
abbrev pub at_start : Replay
at_start = record {
  store = record { objects = []; budget = 0; open_calls = 0; writes = [] };
  handler = codes "abort_handler_s";
  calls = [];
  due = AnyLine;
}

-- Each line fits, and the last one is the end.
pub record IsLawful (journal : List Event) : Type 0 where
  pub last : Replay
  pub fits : replay at_start journal ≡ Some last
  pub ends : last.due ≡ NoLine
