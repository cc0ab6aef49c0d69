-- The start of a run and the steps of a unit keep the journal lawful.
use Rattle.std.specs.Prelude.{◌≡◌, ℕ, ◌+◌, ◌<◌, ◌≤◌, true, List, [], length, codes}
use Rattle.std.specs.List.{All}
use Rattle.acc_num.specs.declared.kind.IntKind.{IntKind}
use Rattle.critical_table.specs.declared.code.Code.{Code}
use Rattle.critical_table.specs.declared.pos.Pos.{Pos}
use Rattle.object_store.specs.declared.pointer.Pointer.{Pointer}
use Rattle.lib_defs.specs.Units.{rsize_max}
use Rattle.lib_defs.specs.Reply.{Patch}
use Rattle.lib_defs.specs.World.{Input}
use Rattle.run_defs.specs.declared.event.Event.TheVariants.{Stopped}
use Rattle.run_defs.specs.declared.outcome.Outcome.TheVariants.{Undefined}
use Rattle.run_defs.specs.declared.seal.Seal.{Seal}
use Rattle.run_defs.specs.State.{State, logged, sealed, died, call_left}
use Rattle.run_defs.specs.Evaluation.{stored, automatic_made, call_entered}
use Rattle.run_defs.specs.Loads.{number_loaded, pointer_loaded}
use Rattle.run_defs.specs.Functions.{Environment, handler_name}
use Rattle.run_defs.specs.Starts.{Budgets, StaticObject, start_state, statics_placed}
use Rattle.run_defs.specs.Fits.{is_marked}
use Rattle.run_defs.specs.Replay.{OpenCall}
use Rattle.run_defs.specs.Kept.{most_objects, At, Closes, Keeps}

-- a seal that gives its bytes a mark
abbrev pub SetsMark : Seal → Type 0
SetsMark seal = is_marked seal.mark ≡ true

-- a static object has a size that a store makes, and its seals set marks
pub record IsStatic (object : StaticObject) : Type 0 where
  pub some : 1 ≤ length object.bytes
  pub within : length object.bytes ≤ rsize_max
  pub seals : All SetsMark object.seals

-- The handler at the start is abort_handler_s; no more objects are made than a run may have.
pub record StartIsLawful (e : Environment) : Type 0 where
  pub start : (budgets : Budgets) (input : Input) (handler : Pointer) → handler_name e handler ≡ codes "abort_handler_s"
      → All (λ (b : ℕ). b < 256) input.bytes → budgets.ticks < most_objects
      → At e (start_state budgets input handler) []
  pub size : (budgets : Budgets) (input : Input) (handler : Pointer)
      → length (start_state budgets input handler).world.store.objects + (start_state budgets input handler).ticks
      ≡ 1 + budgets.ticks
  pub statics : (objects : List StaticObject) (s : State) (calls : List OpenCall) → All IsStatic objects
      → length objects + (length s.world.store.objects + s.ticks) ≤ most_objects → At e s calls
      → Keeps e calls (statics_placed objects s)

-- Each step of a unit.
pub record StepsAreLawful (e : Environment) : Type 0 where
  pub number : (kind : IntKind) (place : Pointer) (pos : Pos) (s : State) (calls : List OpenCall) → At e s calls
      → Keeps e calls (number_loaded kind place pos s)
  pub pointer : (place : Pointer) (pos : Pos) (s : State) (calls : List OpenCall) → At e s calls
      → Keeps e calls (pointer_loaded place pos s)
  pub store : (align : ℕ) (p : Patch) (pos : Pos) (s : State) (calls : List OpenCall) → At e s calls
      → Keeps e calls (stored align p pos s)
  pub make : (size : ℕ) (s : State) (calls : List OpenCall) → 1 ≤ size → size ≤ rsize_max → At e s calls
      → Keeps e calls (automatic_made size s)
  pub seal : (s : State) (calls : List OpenCall) (number : ℕ) (marks : Seal) → SetsMark marks → At e s calls
      → At e (sealed number marks s) calls
  pub die : (s : State) (calls : List OpenCall) (number : ℕ) → At e s calls → At e (died number s) calls
  pub enter : (s : State) (calls : List OpenCall) → At e s calls → Keeps e calls (call_entered s)
  pub leave : (s : State) (calls : List OpenCall) → At e s calls → At e (call_left s) calls
  pub stop : (code : Code) (pos : Pos) (s : State) (calls : List OpenCall) → At e s calls
      → Closes (Undefined code pos) (logged (Stopped code pos) s)

pub record RunsKeep (e : Environment) : Type 0 where
  pub start : StartIsLawful e
  pub steps : StepsAreLawful e
