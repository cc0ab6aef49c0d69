-- What is kept over the evaluations of a unit's parts: the replay of the journal so far has come to the objects without
-- their bytes, to the handler, and to the library calls that are open.
use Rattle.std.specs.Prelude.{◌≡◌, ℕ, ◌+◌, ◌≤◌, Bool, List, [], map, length, Some, None}
use Rattle.critical_table.specs.declared.pos.Pos.{Pos}
use Rattle.object_store.specs.declared.cell.Cell.{Cell}
use Rattle.object_store.specs.Object.{Object}
use Rattle.object_store.specs.Storage.{Storage}
use Rattle.lib_defs.specs.declared.value.Arg.{Arg}
use Rattle.lib_defs.specs.declared.value.Value.{Value}
use Rattle.lib_defs.specs.Laws.{IsWorld, KeepsLaws}
use Rattle.run_defs.specs.declared.library_call.LibraryCall.{LibraryCall}
use Rattle.run_defs.specs.declared.outcome.Outcome.{Outcome}
use Rattle.run_defs.specs.State.{State}
use Rattle.run_defs.specs.Evaluation.{Evaluation, Gives, Stops, finished}
use Rattle.run_defs.specs.Functions.{Environment, handler_name}
use Rattle.run_defs.specs.Calls.{Enter, library_call}
use Rattle.run_defs.specs.Replay.{Phase, Running, Handling, OpenCall, Due, AnyLine, Replay, with_phase, replay}
use Rattle.run_defs.specs.Replay.{at_start, IsLawful}

-- a cell without its byte
abbrev pub outlined : Cell → Cell
outlined c = record { byte = None; mark = c.mark }

abbrev pub outline : Object → Object
outline o = record o { cells = map outlined o.cells }

abbrev pub outlines : List Object → List Object
outlines objects = map outline objects

-- a store of these objects without their bytes, with nothing else
abbrev pub outlined_store : List Object → Storage
outlined_store objects = record { objects = outlines objects; budget = 0; open_calls = 0; writes = [] }

-- the replay of the state's journal comes to r
abbrev pub Reads : State → Replay → Type 0
Reads s r = replay at_start s.journal ≡ Some r

-- whether the call on top has stored while it runs
abbrev pub flag_phase : Bool → Phase → Phase
flag_phase flag (Running stored) = Running flag
flag_phase flag (Handling k) = Handling k

abbrev pub with_flag : Bool → List OpenCall → List OpenCall
with_flag flag calls = with_phase (flag_phase flag) calls

-- what the replay has come to: the objects and the handler are those of the state
abbrev pub seen : Environment → Bool → State → List OpenCall → Due → Replay
seen e flag s calls due = record {
  store = outlined_store s.world.store.objects;
  handler = handler_name e s.world.handler.current;
  calls = with_flag flag calls;
  due = due;
}

-- the most objects that a run makes: their numbers are below those of functions
abbrev pub most_objects : ℕ
most_objects = 2004194305

-- The open calls are these, but for whether the one on top has stored, and any line may stand next. Each object that
-- may still be made takes a tick.
pub record At (e : Environment) (s : State) (calls : List OpenCall) : Type 0 where
  pub flag : Bool
  pub reads : Reads s (seen e flag s calls AnyLine)
  pub world : IsWorld s.world
  pub few : length s.world.store.objects + s.ticks ≤ most_objects

-- the journal with this end is lawful
abbrev pub Closes : Outcome → State → Type 0
Closes outcome s = IsLawful (finished outcome s).journal

-- The open calls are the same again at each evaluation that gives a value, and the journal is lawful at each that
-- stops.
abbrev pub Keeps : {A : Type 0} → Environment → List OpenCall → Evaluation A → Type 0
Keeps e calls (Gives value s) = At e s calls
Keeps e calls (Stops outcome s) = Closes outcome s

-- What is asked of the functions of a unit.
abbrev pub EnterKeeps : Environment → Enter → Type 0
EnterKeeps e enter = (f : ℕ) (args : List Value) (pos : Pos) (s : State) (calls : List OpenCall) → At e s calls
    → Keeps e calls (enter f args pos s)

-- A library call keeps it, whatever rows do that keep their laws, where functions of the unit keep it: at any depth of
-- handlers that call the library again.
abbrev pub CallsAreLawful : Type 0
CallsAreLawful = (e : Environment) → KeepsLaws e.library → (enter : Enter) → EnterKeeps e enter
    → (n : ℕ) (call : LibraryCall) (args : List Arg) (s : State) (calls : List OpenCall) → At e s calls
    → Keeps e calls (library_call e n enter call args s)
