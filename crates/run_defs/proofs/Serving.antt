-- A library call opens a call and closes it, whatever its row, the handler and functions of the unit do in between.
use Rattle.std.proofs.Common.{◌≡◌, ℕ, zero, suc, ◌+◌, ◌≤◌, Bool, true, false, List, [], ◌∷◌, length, replicate, Option}
use Rattle.std.proofs.Common.{Some, None, refl, arith, subst, sym, ◌∙◌}
use Rattle.std.proofs.lemmas.List.{length-replicate}
use Rattle.std.proofs.lemmas.Bool.{le-leb, eq-eqb, and_from, or_left, or_right, cond-true, and_parts}
use Rattle.std.proofs.lemmas.Slice.Eq.{bytes_eq-Decides}
use Rattle.critical_table.specs.declared.case.Case.{Case}
use Rattle.critical_table.specs.declared.case.Case.TheVariants.{L3, L6, L9}
use Rattle.critical_table.specs.declared.pos.Pos.{Pos}
use Rattle.object_store.specs.declared.class.Class.TheVariants.{Allocated}
use Rattle.object_store.specs.declared.pointer.Pointer.{Pointer}
use Rattle.object_store.specs.Storage.{Storage}
use Rattle.object_store.specs.Reach.{IsReachedToStore}
use Rattle.lib_defs.specs.declared.handler.Handler.{Handler}
use Rattle.lib_defs.specs.declared.row.Row.{Row}
use Rattle.lib_defs.specs.declared.row_name.RowName.{RowName}
use Rattle.lib_defs.specs.declared.row_name.RowName.TheVariants as n
use Rattle.lib_defs.specs.declared.shown.Shown.{Shown}
use Rattle.lib_defs.specs.declared.shown.Shown.TheVariants.{Function as FunctionShown}
use Rattle.lib_defs.specs.declared.step.Rest.{Rest}
use Rattle.lib_defs.specs.declared.value.Arg.{Arg}
use Rattle.lib_defs.specs.declared.value.Value.{Value}
use Rattle.lib_defs.specs.declared.value.Value.TheVariants.{Ptr}
use Rattle.lib_defs.specs.Units.{rsize_max}
use Rattle.lib_defs.specs.RowNumbers.{name_at}
use Rattle.lib_defs.specs.Reply.{Patch, Fill, Change, Stop, FailsReach, FailsValue, FailsArgument, IsUndefined, Ends}
use Rattle.lib_defs.specs.Reply.{Did, Done, Broken, Asks, Fails, with_made}
use Rattle.lib_defs.specs.Columns.{is_null}
use Rattle.lib_defs.specs.Shown.{line_values, line_decisions, line_action, failure_at, none_fails, is_first_failing}
use Rattle.lib_defs.specs.Shown.{write_of_len, write_of}
use Rattle.lib_defs.specs.World.{Streams, World, Reply, Flows, world}
use Rattle.lib_defs.specs.Library.{values_of}
use Rattle.lib_defs.specs.Laws.{IfMade, IfSet, AreReached, IfReached, StopFits, ValueFits, RowStopFits, CallFits}
use Rattle.lib_defs.specs.Laws.{ResumeFits, HandlerFits, KeepsLaws, IsWorld}
use Rattle.run_defs.specs.declared.event.Event.TheVariants as event
use Rattle.run_defs.specs.declared.library_call.LibraryCall.{LibraryCall}
use Rattle.run_defs.specs.declared.library_call.Waits.{Waits}
use Rattle.run_defs.specs.declared.library_call.Waits.TheVariants.{ForHandler, ForFunction}
use Rattle.run_defs.specs.declared.outcome.End.TheVariants as end
use Rattle.run_defs.specs.declared.outcome.Outcome.TheVariants.{Trapped, OutOfTicks}
use Rattle.run_defs.specs.Outcomes.{row_outcome}
use Rattle.run_defs.specs.State.{State, logged, with_streams, made, bytes_patched, patched, all_patched}
use Rattle.run_defs.specs.Evaluation.{Evaluation, Gives, Stops, bind, ticked_at}
use Rattle.run_defs.specs.Functions.{Function, OfLibrary, OfUnit, Environment, function_at, function_name, handler_name}
use Rattle.run_defs.specs.Functions.{value_shown, function_number, Handles, ByUnit, ByLibrary, OfOtherType, handles}
use Rattle.run_defs.specs.Served.{Served, Answers, Wants, stopped, row_made, row_released, row_set, returned, acted}
use Rattle.run_defs.specs.Served.{told, handler_returned, row_handled, Failure, handled, Wish, asked, served}
use Rattle.run_defs.specs.Fits.{same_case, is_row_trap}
use Rattle.run_defs.specs.Replay.{Handling, OpenCall, open_call, AnyLine, TheHandler, TheReturn, NoLine, due_action}
use Rattle.run_defs.specs.Kept.{outlined_store, Reads, with_flag, seen, most_objects, At, Closes}
use Rattle.run_defs.proofs.Outlines.{outlines-stored, is_store-outlines}
use Rattle.run_defs.proofs.Worlds.{sized_stored, length-stored, bytes_left}
use Rattle.run_defs.proofs.Following.{reads_on, same_case_itself, at_made, at_died, at_patched, quiet_closes}
use Rattle.run_defs.proofs.Following.{told_closes, reach_closes, value_closes, undefined_closes, at_tick}
use Rattle.run_defs.proofs.RowFacts.{failure_shown, release_shown, no_function, no_handler}
use Rattle.run_defs.proofs.RowLines.{same_row_itself, setter_row, printer_row, release_row, library_handler, from_not}
use Rattle.run_defs.proofs.RowLines.{row_quiet, all_reached, outlines-patched}

-- a call that has begun
abbrev pub opened : Row → List Arg → OpenCall
opened row args = open_call row (line_values row (values_of args))

-- and one whose handler runs
abbrev pub violating : Row → List Arg → ℕ → OpenCall
violating row args k = record { row = row; values = line_values row (values_of args); phase = Handling k }

-- The open calls while a function of the unit is wanted: the call is on top of those behind it.
abbrev pub WaitingFor : (Row → List Arg → Rest → Bool) → Row → Waits → (inner calls : List OpenCall) → Type 0
WaitingFor waits row (ForHandler k value) inner calls = (args : List Arg) × (flag : Bool)
    × (inner ≡ violating row args k ∷ with_flag flag calls) × (failure_at row k ≡ Some value)
WaitingFor waits row (ForFunction rest) inner calls = (args : List Arg) × (flag : Bool)
    × (inner ≡ opened row args ∷ with_flag flag calls) × (waits row args rest ≡ true)

-- What a call comes to keeps the open calls.
abbrev pub Serves : Environment → (Row → List Arg → Rest → Bool) → List OpenCall → Evaluation Served → Type 0
Serves e waits calls (Gives (Answers value) s) = At e s calls
Serves e waits calls (Gives (Wants f args suspended) s) = (inner : List OpenCall) × At e s inner
    × WaitingFor waits suspended.call.row suspended.waits inner calls
Serves e waits calls (Stops outcome s) = Closes outcome s

-- the replay's call on top has its handler due
record HandlerDue (e : Environment) (s : State) (calls : List OpenCall) (k : ℕ) : Type 0 where
  flag : Bool
  reads : Reads s (seen e flag s calls (TheHandler k))
  world : IsWorld s.world
  few : length s.world.store.objects + s.ticks ≤ most_objects

module _ (e : Environment) where
  at_all_patched : (calls : List OpenCall) (ps : List Patch) (s : State) → AreReached s.world.store ps → At e s calls
      → At e (all_patched ps s) calls
  at_all_patched calls [] s each a = a
  at_all_patched calls (p ∷ ps) s each a = at_all_patched calls ps (patched p s)
      (all_reached s.world.store (patched p s).world.store (outlines-patched s p.place p.bytes each.0) ps each.1)
      (at_patched e s calls p each.0 a)

  at_released : (calls : List OpenCall) (number : Option ℕ) (s : State) → At e s calls
      → At e (row_released number s) calls
  at_released calls None s a = a
  at_released calls (Some number) s a = at_died e s calls number a

  -- a row leaves bytes of the input
  pub at_streams : (calls : List OpenCall) (streams : Streams) (s : State) → Flows s.world.streams streams
      → At e s calls
      → At e (with_streams streams s) calls
  at_streams calls streams s flows a = record {
    flag = a.flag;
    reads = a.reads;
    world = record { sized = a.world.sized; bytes = bytes_left s.world.streams streams flows a.world.bytes };
    few = a.few;
  }

  -- a stop that any row may come to
  stop_closes : (stop : Stop) (streams : Streams) (pos : Pos) (s : State) (waits : Row → List Arg → Rest → Bool)
      (inner calls : List OpenCall) → StopFits s.world.store streams stop → At e s inner
      → Serves e waits calls (stopped e stop pos s)
  stop_closes (FailsReach case place len align by) streams pos s waits inner calls fits a = reach_closes e s inner case
      (record { place = place; len = len; align = align; by = by }) pos fits a
  stop_closes (FailsValue case value) streams pos s waits inner calls fits a = absurd fits
  stop_closes (FailsArgument k) streams pos s waits inner calls fits a = absurd fits
  stop_closes (IsUndefined code) streams pos s waits inner calls fits a = undefined_closes e s inner code pos a
  stop_closes (Ends end) streams pos s waits inner calls fits a =
      quiet_closes e s inner (row_outcome end) (row_quiet end) a

  module _ (laws : KeepsLaws e.library) (call : LibraryCall) (args : List Arg) (flag : Bool)
      (calls : List OpenCall) where
    abbrev values : List Shown
    values = line_values call.row (values_of args)

    abbrev now : List OpenCall
    now = opened call.row args ∷ with_flag flag calls

    abbrev its_handler : ℕ → List OpenCall
    its_handler k = violating call.row args k ∷ with_flag flag calls

    abbrev Fine : Evaluation Served → Type 0
    Fine x = Serves e laws.waits calls x

    -- A row that is done.

    at_set : (set : Option Pointer) (value : Value) (handler : Handler) (s : State)
        → IfSet call.row args handler set value
        → At e s now → At e (row_set e set s) now
    at_set None value handler s fits a = a
    at_set (Some p) value handler s fits a = record {
      flag = a.flag;
      reads = reads_on s (event.HandlerSet (handler_name e p)) (seen e a.flag s now AnyLine) _ a.reads
          (cond-true _ _ _ (and_from _ _ refl (setter_row call.row fits.setter)));
      world = record { sized = a.world.sized; bytes = a.world.bytes };
      few = a.few;
    }

    at_returned : (value : Shown) (s : State) → none_fails (line_decisions call.row values) ≡ true → At e s now
        → At e (logged (event.Returned call.row value) s) calls
    at_returned value s passes a = record {
      flag = flag;
      reads = reads_on s (event.Returned call.row value) (seen e a.flag s now AnyLine) _ a.reads
          (cond-true _ _ _ (and_from _ _ (and_from _ _ refl (same_row_itself call.row)) passes));
      world = a.world;
      few = a.few;
    }

    finish : (change : Change) (set : Option Pointer) (value : Value) (handler : Handler) (s : State)
        → none_fails (line_decisions call.row values) ≡ true → IfSet call.row args handler set value
        → AreReached s.world.store change.stores → At e s now
        → Fine (returned e call value (row_set e set (row_released change.released (all_patched change.stores s))))
    finish change set value handler s passes fits reached a =
        let s1 : State = all_patched change.stores s in
        let s2 : State = row_released change.released s1 in
        at_returned (value_shown e value) (row_set e set s2) passes
        (at_set set value handler s2 fits (at_released now change.released s1 (at_all_patched now change.stores s
        reached a)))

    done_by : (size : ℕ) (change : Change) (set : Option Pointer) (value : Value) (handler : Handler) (s : State)
        (ticks : ℕ)
        → ticks ≡ s.ticks → none_fails (line_decisions call.row values) ≡ true → IfSet call.row args handler set value
        → 1 ≤ size → size ≤ rsize_max → AreReached (with_made (Some size) s.world.store) change.stores → At e s now
        → Fine (bind (bind (bind (ticked_at ticks s) (λ u s1. Gives (tt {0}) (made size Allocated s1))) (λ u s1.
        Gives (tt {0}) (row_set e set (row_released change.released (all_patched change.stores s1)))))
        (λ u s1. returned e call value s1))
    done_by size change set value handler s zero is passes fits some within reached a =
        quiet_closes e s now OutOfTicks refl a
    done_by size change set value handler s (suc left) is passes fits some within reached a =
        finish change set value handler (made size Allocated (record s { ticks = left })) passes fits reached
        (at_made e (record s { ticks = left }) now size Allocated some within (omega (arith, is, a.few))
        (at_tick e s now left is a))

    done_serves : (size : Option ℕ) (change : Change) → size ≡ change.made → (set : Option Pointer) (value : Value)
        (handler : Handler) (s : State) → none_fails (line_decisions call.row values) ≡ true
        → IfSet call.row args handler set value → IfMade s.world.store size value
        → AreReached (with_made size s.world.store) change.stores → At e s now
        → Fine (bind (bind (row_made size s) (λ u s1.
        Gives (tt {0}) (row_set e set (row_released change.released (all_patched change.stores s1)))))
        (λ u s1. returned e call value s1))
    done_serves None change is set value handler s passes fits sized reached a =
        finish change set value handler s passes fits reached a
    done_serves (Some size) change is set value handler s passes fits sized reached a =
        done_by size change set value handler s s.ticks refl passes fits sized.some sized.within reached a

    -- A row that does not go on.

    row_trap : (name : RowName) → name_at call.row ≡ Some name → (case : Case) (p : Pointer) (store : Storage)
        → length store.objects ≤ most_objects → ValueFits name store case p
        → is_row_trap (outlined_store store.objects) case (value_shown e (Ptr p)) call.row ≡ true
    row_trap n.Free named case p store few fits =
        or_left _ _ (and_from _ _ (release_row call.row n.Free refl named) (release_shown e store p case few fits))
    row_trap n.Realloc named case p store few fits =
        or_left _ _ (and_from _ _ (release_row call.row n.Realloc refl named) (release_shown e store p case few fits))
    row_trap n.SetConstraintHandlerS named case p store few fits =
        let parts = and_parts _ _ fits.1 in
        or_right _ _ (and_from _ _ (setter_row call.row named) (and_from _ _
        (subst (λ c. same_case c L9 ≡ true) (sym fits.0) refl)
        (no_handler e p (from_not (is_null p) parts.0) (rw parts.1 refl))))
    row_trap _ named case p store few fits = absurd fits

    row_stop_closes : (stop : Stop) (streams before : Streams) (handler : Handler) (s : State)
        → RowStopFits call.row args (world s.world.store handler before) streams stop → At e s now
        → Fine (stopped e stop call.pos s)
    row_stop_closes (FailsReach case place len align by) streams before handler s fits a =
        stop_closes (FailsReach case place len align by) streams call.pos s laws.waits now calls fits a
    row_stop_closes (FailsValue case p) streams before handler s fits a = told_closes e s
        (event.ValueFailed case call.pos (value_shown e (Ptr p))) (seen e a.flag s now AnyLine) (Trapped case call.pos)
        a.reads
        (cond-true _ _ _ (or_right _ _ (and_from _ _ refl
        (row_trap fits.name fits.named case p s.world.store (omega (arith, a.few)) fits.fits))))
        (same_case_itself case)
    row_stop_closes (FailsArgument k) streams before handler s fits a = told_closes e s
        (event.ArgumentFailed call.pos k) (seen e a.flag s now AnyLine) (Trapped L9 call.pos) a.reads
        (cond-true _ _ _ (and_from _ _ (and_from _ _ refl (printer_row call.row fits.printer)) (le-leb 2 k
        fits.behind)))
        (same_case_itself L9)
    row_stop_closes (IsUndefined code) streams before handler s fits a =
        stop_closes (IsUndefined code) streams call.pos s laws.waits now calls fits a
    row_stop_closes (Ends end) streams before handler s fits a =
        stop_closes (Ends end) streams call.pos s laws.waits now calls fits a

    -- A constraint that fails.

    acted_by : (k : ℕ) (f : Fill) (n : ℕ) (s : State) → IsReachedToStore s.world.store f.place n → IsWorld s.world
        → length s.world.store.objects + s.ticks ≤ most_objects
        → Reads s (seen e false s now (due_action k (write_of_len n f)))
        → HandlerDue e (bytes_patched (replicate n (Some f.byte)) f.place s) now k
    acted_by k f zero s reached w few r = record { flag = false; reads = r; world = w; few = few }
    acted_by k f (suc n) s reached w few r =
        let bytes : List (Option ℕ) = replicate (suc n) (Some f.byte) in
        let long : length bytes ≡ suc n = length-replicate (suc n) (Some f.byte) in
        let reaches : IsReachedToStore s.world.store f.place (length bytes) =
        subst (IsReachedToStore s.world.store f.place) (sym long) reached in record {
          flag = true;
          reads = reads_on s
              (event.Stored (record { object = f.place.object; at = f.place.offset; len = length bytes }))
              (seen e false s now (due_action k (write_of_len (suc n) f))) _ r
              (cond-true _ _ _ (and_from _ _
              (and_from _ _ (eq-eqb f.place.object f.place.object refl)
              (and_from _ _ (eq-eqb f.place.offset f.place.offset refl) (eq-eqb (length bytes) (suc n) long)))
              (is_store-outlines s.world.store f.place bytes reaches (omega arith)))
              ∙ rw (outlines-stored s.world.store f.place bytes reaches) refl);
          world = record { sized = sized_stored s.world.store f.place bytes reaches w.sized; bytes = w.bytes };
          few = rw (length-stored s.world.store.objects f.place bytes) few;
        }

    at_acted : (k : ℕ) (action : Option Fill) (s : State) → IfReached s.world.store action → IsWorld s.world
        → length s.world.store.objects + s.ticks ≤ most_objects
        → Reads s (seen e false s now (due_action k (write_of action))) → HandlerDue e (acted action s) now k
    at_acted k None s reached w few r = record { flag = false; reads = r; world = w; few = few }
    at_acted k (Some f) s reached w few r = acted_by k f f.len s reached w few r

    at_violated : (k : ℕ) (action : Option Fill) (s : State)
        → is_first_failing (line_decisions call.row values) k ≡ true
        → write_of action ≡ line_action call.row values → IfReached s.world.store action → IsWorld s.world
        → length s.world.store.objects + s.ticks ≤ most_objects → Reads s (seen e false s now AnyLine)
        → HandlerDue e (acted action (logged (event.Violated call.row k) s)) now k
    at_violated k action s first by_values reached w few r =
        let line : State = logged (event.Violated call.row k) s in
        let told : Reads line (seen e false s now (due_action k (line_action call.row values))) =
        reads_on s (event.Violated call.row k) (seen e false s now AnyLine) _ r
        (cond-true _ _ _ (and_from _ _ (same_row_itself call.row) (and_from _ _ refl first))) in
        at_acted k action line reached w few
        (subst (λ due. Reads line (seen e false s now (due_action k due))) (sym by_values) told)

    -- The handler runs.

    at_handler : (k : ℕ) (s : State) → HandlerDue e s now k
        → At e (logged (event.HandlerCalled (handler_name e s.world.handler.current)) s) (its_handler k)
    at_handler k s due = record {
      flag = false;
      reads = reads_on s (event.HandlerCalled (handler_name e s.world.handler.current))
          (seen e due.flag s now (TheHandler k)) _ due.reads
          (cond-true _ _ _ ((bytes_eq-Decides (handler_name e s.world.handler.current) _).1 refl));
      world = due.world;
      few = due.few;
    }

    pub at_failed : (k : ℕ) (value : Value) (s : State) → failure_at call.row k ≡ Some value → At e s (its_handler k)
        → Fine (handler_returned e call value s)
    at_failed k value s failure a =
        let back : Reads (logged event.HandlerReturned s) (seen e a.flag s (its_handler k) (TheReturn k)) =
        reads_on s event.HandlerReturned (seen e a.flag s (its_handler k) AnyLine) _ a.reads refl in record {
          flag = flag;
          reads = reads_on (logged event.HandlerReturned s) (event.Returned call.row (value_shown e value))
              (seen e a.flag s (its_handler k) (TheReturn k)) _ back
              (cond-true _ _ _ (and_from _ _ (same_row_itself call.row) (failure_shown e call.row k value failure)));
          world = a.world;
          few = a.few;
        }

    row_serves : (did : Did) (streams : Streams) (w : World) (k : ℕ) (value : Value) (s : State)
        → w.store ≡ s.world.store
        → failure_at call.row k ≡ Some value → HandlerFits w streams did → At e s (its_handler k)
        → Fine (row_handled e call value did s)
    row_serves (Done change set v) streams w k value s is failure fits a = at_failed k value s failure a
    row_serves (Broken c class action v) streams w k value s is failure fits a = at_failed k value s failure a
    row_serves (Asks function first second third rest) streams w k value s is failure fits a =
        at_failed k value s failure a
    row_serves (Fails stop) streams w k value s is failure fits a = stop_closes stop streams call.pos s laws.waits
        (its_handler k) calls (subst (λ store. StopFits store streams stop) is fits) a

    handles_serves : (kind : Handles) (failure : Failure) (s : State)
        → handles (function_at e s.world.handler.current) ≡ kind
        → failure_at call.row failure.constraint ≡ Some failure.value → HandlerDue e s now failure.constraint
        → Fine (handled e call failure kind s)
    handles_serves ByUnit failure s kind value due =
        (its_handler failure.constraint, at_handler failure.constraint s due, (args, flag, refl, value))
    handles_serves (ByLibrary row) failure s kind value due =
        let reply : Reply = e.library.call row (told failure.class) s.world in
        row_serves reply.did reply.streams s.world failure.constraint failure.value
        (with_streams reply.streams (logged (event.HandlerCalled (handler_name e s.world.handler.current)) s)) refl
        value
        (laws.handler row (told failure.class) s.world (library_handler (function_at e s.world.handler.current) row
        kind))
        (at_streams (its_handler failure.constraint) reply.streams _
        (laws.call_flows row (told failure.class) s.world) (at_handler failure.constraint s due))
    handles_serves OfOtherType failure s kind value due = told_closes e s
        (event.ValueFailed L3 call.pos (FunctionShown (handler_name e s.world.handler.current)))
        (seen e due.flag s now (TheHandler failure.constraint)) (Trapped L3 call.pos) due.reads refl refl

    -- no tick is left for the handler
    no_tick : (k : ℕ) (s : State) → HandlerDue e s now k → Closes OutOfTicks s
    no_tick k s due = record {
      last = seen e due.flag s now NoLine;
      fits = reads_on s (event.Ended end.OutOfTicks) (seen e due.flag s now (TheHandler k)) _ due.reads refl;
      ends = refl;
    }

    handler_ticks : (failure : Failure) (s : State) (ticks : ℕ) → ticks ≡ s.ticks
        → failure_at call.row failure.constraint ≡ Some failure.value → HandlerDue e s now failure.constraint
        → Fine (bind (ticked_at ticks s) (λ u s1. handled e call failure (handles (function_at e
        s1.world.handler.current)) s1))
    handler_ticks failure s zero is value due = no_tick failure.constraint s due
    handler_ticks failure s (suc left) is value due =
        handles_serves (handles (function_at e s.world.handler.current)) failure (record s { ticks = left }) refl value
        (record { flag = due.flag; reads = due.reads; world = due.world; few = omega (arith, is, due.few) })

    -- A function of the unit that the row wants.

    asked_serves : (found : Option Function) (wish : Wish) (s : State) → function_at e wish.function ≡ found
        → laws.waits call.row args wish.rest ≡ true → At e s now → Fine (asked e call found wish s)
    asked_serves None wish s at waits a = value_closes e s now L6 (value_shown e (Ptr wish.function)) call.pos
        (no_function e wish.function at) a
    asked_serves (Some (OfUnit name handles true)) wish s at waits a = by_ticks s.ticks refl
      where
        by_ticks : (ticks : ℕ) → ticks ≡ s.ticks → Fine (bind (ticked_at ticks s) (λ u s1. Gives (Wants
            (function_number wish.function) wish.arguments
            (record { call = call; waits = ForFunction wish.rest })) s1))
        by_ticks zero is = quiet_closes e s now OutOfTicks refl a
        by_ticks (suc left) is = (now, at_tick e s now left is a, (args, flag, refl, waits))
    asked_serves (Some (OfUnit name handles false)) wish s at waits a =
        value_closes e s now L3 (FunctionShown (function_name (OfUnit name handles false))) call.pos refl a
    asked_serves (Some (OfLibrary row)) wish s at waits a =
        value_closes e s now L3 (FunctionShown (function_name (OfLibrary row))) call.pos refl a

    -- What the row answers: once it has asked, and at first.

    pub resumed_serves : (did : Did) (streams before : Streams) (handler : Handler) (s : State)
        → ResumeFits (laws.waits call.row args) call.row args (world s.world.store handler before) streams did
        → At e s now → Fine (served e call did s)
    resumed_serves (Done change set value) streams before handler s fits a =
        done_serves change.made change refl set value handler s fits.done.passes fits.done.set fits.done.made
        fits.done.reached a
    resumed_serves (Broken k class action value) streams before handler s fits a = absurd fits
    resumed_serves (Asks function first second third rest) streams before handler s fits a =
        asked_serves (function_at e function) _ s refl fits a
    resumed_serves (Fails stop) streams before handler s fits a = row_stop_closes stop streams before handler s fits a

    pub called_serves : (did : Did) (streams before : Streams) (handler : Handler) (s : State)
        → CallFits (laws.waits call.row args) call.row args (world s.world.store handler before) streams did
        → (a : At e s now) → a.flag ≡ false → Fine (served e call did s)
    called_serves (Done change set value) streams before handler s fits a fresh =
        done_serves change.made change refl set value handler s fits.passes fits.set fits.made fits.reached a
    called_serves (Broken k class action value) streams before handler s fits a fresh =
        let due : HandlerDue e (acted action (logged (event.Violated call.row k) s)) now k =
        at_violated k action s fits.first fits.by_values fits.reached a.world a.few
        (subst (λ b. Reads s (seen e b s now AnyLine)) fresh a.reads) in
        handler_ticks (record { constraint = k; class = class; value = value })
        (acted action (logged (event.Violated call.row k) s)) _ refl fits.failure due
    called_serves (Asks function first second third rest) streams before handler s fits a fresh =
        asked_serves (function_at e function) _ s refl fits a
    called_serves (Fails stop) streams before handler s fits a fresh =
        row_stop_closes stop streams before handler s fits a
