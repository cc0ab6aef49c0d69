-- A whole library call: it begins, goes on as often as a function of the unit has returned, and is closed.
use Rattle.std.proofs.Common.{◌≡◌, ℕ, zero, suc, Bool, true, false, List, ◌∷◌, refl, subst}
use Rattle.std.proofs.lemmas.Bool.{or_right, cond-true, and_parts}
use Rattle.critical_table.specs.declared.case.Case.TheVariants.{L9}
use Rattle.object_store.specs.declared.pointer.Pointer.{Pointer}
use Rattle.lib_defs.specs.declared.value.Arg.{Arg}
use Rattle.lib_defs.specs.declared.value.Value.{Value}
use Rattle.lib_defs.specs.declared.value.Value.TheVariants.{Ptr}
use Rattle.lib_defs.specs.Columns.{is_null}
use Rattle.lib_defs.specs.Shown.{line_values}
use Rattle.lib_defs.specs.World.{Reply}
use Rattle.lib_defs.specs.Library.{values_of}
use Rattle.lib_defs.specs.Laws.{KeepsLaws, first_pointer}
use Rattle.run_defs.specs.declared.event.Event.TheVariants as event
use Rattle.run_defs.specs.declared.library_call.LibraryCall.{LibraryCall}
use Rattle.run_defs.specs.declared.library_call.Waits.{Waits}
use Rattle.run_defs.specs.declared.library_call.Waits.TheVariants.{ForHandler, ForFunction}
use Rattle.run_defs.specs.declared.outcome.Outcome.TheVariants.{Trapped, OutOfTicks}
use Rattle.run_defs.specs.State.{State, logged, with_streams}
use Rattle.run_defs.specs.Evaluation.{Evaluation, Gives, Stops}
use Rattle.run_defs.specs.Functions.{Environment, function_at, value_shown}
use Rattle.run_defs.specs.Served.{Served, Answers, Wants, sets_no_function, begun_if, begun, gone_on, continued}
use Rattle.run_defs.specs.Calls.{Enter, completed, library_call}
use Rattle.run_defs.specs.Fits.{is_call_trap}
use Rattle.run_defs.specs.Replay.{OpenCall, AnyLine, Replay, is_value_trap}
use Rattle.run_defs.specs.Kept.{Reads, with_flag, seen, At, Keeps, EnterKeeps, CallsAreLawful}
use Rattle.run_defs.proofs.Worlds.{bytes_left}
use Rattle.run_defs.proofs.Following.{reads_on, quiet_closes, told_closes, keeps_bind, keeps_tick, at_tick}
use Rattle.run_defs.proofs.RowLines.{from_not, none_at, setter_trap}
use Rattle.run_defs.proofs.Serving.{opened, WaitingFor, Serves, at_streams, at_failed, resumed_serves, called_serves}

module _ (e : Environment) where
  module _ (laws : KeepsLaws e.library) where
    -- A call that has begun.

    reads_called : (call : LibraryCall) (args : List Arg) (s : State) (calls : List OpenCall) (a : At e s calls)
        → Reads (logged (event.Called call.row (line_values call.row (values_of args))) s)
        (seen e false s (opened call.row args ∷ with_flag a.flag calls) AnyLine)
    reads_called call args s calls a = reads_on s (event.Called call.row (line_values call.row (values_of args)))
        (seen e a.flag s calls AnyLine) _ a.reads refl

    begun_by : (test : Bool) (call : LibraryCall) (args : List Arg) (s : State) (calls : List OpenCall)
        → sets_no_function e call.row (first_pointer args) ≡ test → At e s calls
        → Serves e laws.waits calls
        (begun_if test e call args (logged (event.Called call.row (line_values call.row (values_of args))) s))
    begun_by true call args s calls is a =
        let p : Pointer = first_pointer args in
        let line : State = logged (event.Called call.row (line_values call.row (values_of args))) s in
        let now : List OpenCall = opened call.row args ∷ with_flag a.flag calls in
        let parts = and_parts _ _ is in
        let pointer = and_parts _ _ parts.1 in
        let r : Replay = seen e false line now AnyLine in
        let trap : is_value_trap r L9 (value_shown e (Ptr p)) ≡ true =
        or_right (is_call_trap L9 (value_shown e (Ptr p))) _ (setter_trap e call.row r.store p parts.0
        (from_not (is_null p) pointer.0) (none_at (function_at e p) pointer.1)) in
        told_closes e line (event.ValueFailed L9 call.pos (value_shown e (Ptr p))) r (Trapped L9 call.pos)
        (reads_called call args s calls a)
        (cond-true (is_value_trap r L9 (value_shown e (Ptr p))) _ _ trap) refl
    begun_by false call args s calls is a =
        let reply : Reply = e.library.call call.row args s.world in
        let line : State = logged (event.Called call.row (line_values call.row (values_of args))) s in
        called_serves e laws call args a.flag calls reply.did reply.streams s.world.streams s.world.handler
        (with_streams reply.streams line) (laws.call call.row args s.world a.world)
        (record {
          flag = false;
          reads = reads_called call args s calls a;
          world = record {
            sized = a.world.sized;
            bytes = bytes_left s.world.streams reply.streams (laws.call_flows call.row args s.world) a.world.bytes;
          };
          few = a.few;
        }) refl

    begun_serves : (call : LibraryCall) (args : List Arg) (s : State) (calls : List OpenCall) → At e s calls
        → Serves e laws.waits calls (begun e call args s)
    begun_serves call args s calls a =
        begun_by (sets_no_function e call.row (first_pointer args)) call args s calls refl a

    -- One that goes on.

    gone_on_serves : (call : LibraryCall) (waits : Waits) (answer : Value) (s : State) (inner calls : List OpenCall)
        → WaitingFor laws.waits call.row waits inner calls → At e s inner
        → Serves e laws.waits calls (gone_on e call waits answer s)
    gone_on_serves call (ForHandler k value) answer s inner calls w a =
        at_failed e laws call w.0 w.1 calls k value s w.3 (subst (At e s) w.2 a)
    gone_on_serves call (ForFunction rest) answer s inner calls w a =
        let reply : Reply = e.library.resume rest answer s.world in
        resumed_serves e laws call w.0 w.1 calls reply.did reply.streams s.world.streams s.world.handler
        (with_streams reply.streams s) (laws.resume call.row w.0 rest answer s.world a.world w.3)
        (at_streams e (opened call.row w.0 ∷ with_flag w.1 calls) reply.streams s
        (laws.resume_flows rest answer s.world) (subst (At e s) w.2 a))

    -- A whole call.

    module _ (enter : Enter) (enters : EnterKeeps e enter) where
      completed_keeps : (n : ℕ) (calls : List OpenCall) (x : Evaluation Served) → Serves e laws.waits calls x
          → Keeps e calls (completed e n enter x)
      completed_keeps n calls (Stops outcome s) closes = closes
      completed_keeps n calls (Gives (Answers value) s) a = a
      completed_keeps zero calls (Gives (Wants f args suspended) s) w = quiet_closes e s w.0 OutOfTicks refl w.1
      completed_keeps (suc n) calls (Gives (Wants f args suspended) s) w = keeps_bind e w.0 calls _ _
          (enters f args suspended.call.pos s w.0 w.1)
          (λ value s1 a1. completed_keeps n calls (continued e suspended value s1)
          (gone_on_serves suspended.call suspended.waits value s1 w.0 calls w.2 a1))

      pub call_keeps : (n : ℕ) (call : LibraryCall) (args : List Arg) (s : State) (calls : List OpenCall) → At e s calls
          → Keeps e calls (library_call e n enter call args s)
      call_keeps n call args s calls a = keeps_tick e calls calls s _ a (λ left is.
          completed_keeps n calls (begun e call args (record s { ticks = left }))
          (begun_serves call args (record s { ticks = left }) calls (at_tick e s calls left is a)))

pub calls_lawful : CallsAreLawful
calls_lawful e laws enter enters n call args s calls a = call_keeps e laws enter enters n call args s calls a
