-- Evaluations: what comes of a part of a unit, and how a run stops there.
use Rattle.std.specs.Prelude.{ℕ, zero, suc, Bool, true, false, length, Option, Some, None}
use Rattle.critical_table.specs.declared.case.Case.{Case}
use Rattle.critical_table.specs.declared.code.Code.{Code}
use Rattle.critical_table.specs.declared.pos.Pos.{Pos}
use Rattle.object_store.specs.declared.by.By.TheVariants.{Store}
use Rattle.object_store.specs.declared.class.Class.TheVariants.{Automatic}
use Rattle.object_store.specs.declared.pointer.Pointer.{Pointer}
use Rattle.object_store.specs.Storage.{fits}
use Rattle.object_store.specs.Steps.{next_number, with_call}
use Rattle.object_store.specs.Reach.{reach}
use Rattle.lib_defs.specs.declared.shown.Shown.{Shown}
use Rattle.lib_defs.specs.Reply.{Patch}
use Rattle.run_defs.specs.declared.attempt.Attempt.{Attempt}
use Rattle.run_defs.specs.declared.event.Event.TheVariants.{ReachFailed, ValueFailed, Stopped, Ended}
use Rattle.run_defs.specs.declared.outcome.Outcome.{Outcome}
use Rattle.run_defs.specs.declared.outcome.Outcome.TheVariants.{Trapped, Undefined, OutOfTicks, OutOfBytes}
use Rattle.run_defs.specs.Outcomes.{end_of}
use Rattle.run_defs.specs.State.{State, logged, with_storage, made, patched}

-- a value and the state after it; or the run stops, in this state
pub data Evaluation (A : Type 0) : Type 0 where
  Gives : (value : A) (s : State) → Evaluation A
  Stops : (outcome : Outcome) (s : State) → Evaluation A

-- one after another
abbrev pub bind : {A B : Type 0} → Evaluation A → (A → State → Evaluation B) → Evaluation B
bind (Gives value s) next = next value s
bind (Stops outcome s) next = Stops outcome s

-- Stops, each with its line.

-- an access does not reach its range
abbrev pub fails_reach : {A : Type 0} → Case → Attempt → Pos → State → Evaluation A
fails_reach case attempt pos s = Stops (Trapped case pos) (logged (ReachFailed case pos attempt) s)

-- a pointer is no value for a call, a release or a handler
abbrev pub fails_value : {A : Type 0} → Case → Shown → Pos → State → Evaluation A
fails_value case value pos s = Stops (Trapped case pos) (logged (ValueFailed case pos value) s)

-- an operation is undefined
abbrev pub undefined : {A : Type 0} → Code → Pos → State → Evaluation A
undefined code pos s = Stops (Undefined code pos) (logged (Stopped code pos) s)

-- Steps that may stop.

-- a tick is taken, where one is left
abbrev pub ticked_at : ℕ → State → Evaluation (Unit {0})
ticked_at zero s = Stops OutOfTicks s
ticked_at (suc left) s = Gives tt (record s { ticks = left })

abbrev pub ticked : State → Evaluation (Unit {0})
ticked s = ticked_at s.ticks s

-- the live bytes stay within the budget
abbrev pub within_if : Bool → State → Evaluation (Unit {0})
within_if true s = Gives tt s
within_if false s = Stops OutOfBytes s

abbrev pub within : ℕ → State → Evaluation (Unit {0})
within size s = within_if (fits s.world.store 0 size) s

-- an access reaches its range, or is a critical case (L.3)
abbrev pub reached_if : Option Case → Attempt → Pos → State → Evaluation (Unit {0})
reached_if None attempt pos s = Gives tt s
reached_if (Some case) attempt pos s = fails_reach case attempt pos s

abbrev pub reached : Attempt → Pos → State → Evaluation (Unit {0})
reached attempt pos s =
    reached_if (reach s.world.store attempt.place attempt.len attempt.align attempt.by) attempt pos s

-- A store of the unit's own: each, of an initialiser or a parameter too, reaches its range as a store first.
abbrev pub store_attempt : ℕ → Patch → Attempt
store_attempt align p = record { place = p.place; len = length p.bytes; align = align; by = Store }

abbrev pub stored : ℕ → Patch → Pos → State → Evaluation (Unit {0})
stored align p pos s = bind (reached (store_attempt align p) pos s) (λ u s1. Gives tt (patched p s1))

-- the pointer to an object of this size, with its bounds
abbrev pub whole : ℕ → ℕ → Pointer
whole number size = record { object = number; offset = 0; low = 0; high = size }

-- An automatic object is made: a tick is taken first, and then its bytes are counted.
abbrev pub automatic_made : ℕ → State → Evaluation Pointer
automatic_made size s = bind (ticked s) (λ u s1. bind (within size s1) (λ v s2.
    Gives (whole (next_number s2.world.store Automatic) size) (made size Automatic s2)))

-- A guest's function is entered, behind the tick of its call: 256 bytes are counted until it is left.
abbrev pub call_entered : State → Evaluation (Unit {0})
call_entered s = bind (within 256 s) (λ u s1. Gives tt (with_storage (with_call s1.world.store) s1))

-- the run is over: its last event
abbrev pub finished : Outcome → State → State
finished outcome s = logged (Ended (end_of outcome)) s
