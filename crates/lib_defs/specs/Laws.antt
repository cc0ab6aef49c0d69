-- The laws that every library keeps.
use Rattle.std.specs.Prelude.{◌≡◌, ℕ, ◌<◌, ◌≤◌, ◌%◌, nat_lt, Bool, true, false, not, ◌&&◌, List, [], ◌∷◌}
use Rattle.std.specs.Prelude.{length, Option, Some, None, if◌then◌else◌}
use Rattle.std.specs.List.{All}
use Rattle.std.specs.Option.{option_map_or}
use Rattle.critical_table.specs.declared.case.Case.{Case}
use Rattle.critical_table.specs.declared.case.Case.TheVariants.{L9}
use Rattle.critical_table.specs.declared.code.Code.{Code}
use Rattle.critical_table.specs.declared.code.Code.TheVariants.{U05, U09, U11}
use Rattle.critical_table.specs.declared.ended.Ended.{Ended}
use Rattle.critical_table.specs.declared.ended.Ended.TheVariants as ended
use Rattle.object_store.specs.declared.class.Class.TheVariants.{Allocated}
use Rattle.object_store.specs.declared.pointer.Pointer.{Pointer}
use Rattle.object_store.specs.Object.{Object}
use Rattle.object_store.specs.Storage.{Storage, is_live}
use Rattle.object_store.specs.Steps.{next_number}
use Rattle.object_store.specs.Reach.{reach, IsReachedToStore}
use Rattle.lib_defs.specs.declared.handler.Handler.{Handler}
use Rattle.lib_defs.specs.declared.row.Row.{Row}
use Rattle.lib_defs.specs.declared.row_name.RowName.{RowName}
use Rattle.lib_defs.specs.declared.row_name.RowName.TheVariants as n
use Rattle.lib_defs.specs.declared.shown.Shown.{Shown}
use Rattle.lib_defs.specs.declared.step.Rest.{Rest}
use Rattle.lib_defs.specs.declared.value.Arg.{Arg}
use Rattle.lib_defs.specs.declared.value.Value.{Value}
use Rattle.lib_defs.specs.declared.value.Value.TheVariants.{Ptr, Nothing}
use Rattle.lib_defs.specs.declared.violation.Violation.{Violation}
use Rattle.lib_defs.specs.Units.{rsize_max}
use Rattle.lib_defs.specs.RowNumbers.{name_at}
use Rattle.lib_defs.specs.Prototypes.{FitRow, IsGivenBy}
use Rattle.lib_defs.specs.Reply.{Patch, Fill, Change, no_change, Stop, FailsReach, FailsValue, FailsArgument}
use Rattle.lib_defs.specs.Reply.{IsUndefined, Ends, Did, Done, Broken, Asks, Fails, with_made}
use Rattle.lib_defs.specs.Handlers.{first_function}
use Rattle.lib_defs.specs.Columns.{is_null}
use Rattle.lib_defs.specs.Allocation.{release_case}
use Rattle.lib_defs.specs.RowTable.{ptr, violation_at}
use Rattle.lib_defs.specs.Shown.{line_values, line_decisions, line_action, failure_at, write_of, none_fails}
use Rattle.lib_defs.specs.Shown.{is_first_failing}
use Rattle.lib_defs.specs.World.{Streams, World, Broken as BrokenInput, Flows}
use Rattle.lib_defs.specs.Library.{Library, values_of}
use Rattle.lib_defs.specs.Variants.{KeepsVariants}

-- each object has a size that a store makes
abbrev pub IsSized : Storage → Type 0
IsSized s = All (λ (o : Object). length o.cells ≤ rsize_max) s.objects

-- a world of a run: sizes are such, and input is bytes
pub record IsWorld (w : World) : Type 0 where
  pub sized : IsSized w.store
  pub bytes : All (λ (b : ℕ). b < 256) w.streams.input.bytes

abbrev pub first_pointer : List Arg → Pointer
first_pointer args = ptr (values_of args) 0

abbrev pub shown_at : Row → List Arg → List Shown
shown_at row args = line_values row (values_of args)

-- An object that is made has a size from 1 to RSIZE_MAX, and the call answers the pointer to it with its bounds.
pub record MadeFits (s : Storage) (size : ℕ) (value : Value) : Type 0 where
  pub some : 1 ≤ size
  pub within : size ≤ rsize_max
  pub answer : value ≡ Ptr (record { object = next_number s Allocated; offset = 0; low = 0; high = size })

abbrev pub IfMade : Storage → Option ℕ → Value → Type 0
IfMade s None value = Unit {0}
IfMade s (Some size) value = MadeFits s size value

-- An object that ends lives, is allocated, and is the one that the first argument points to.
pub record ReleasedFits (s : Storage) (args : List Arg) (number : ℕ) : Type 0 where
  pub live : is_live s number ≡ true
  pub allocated : number % 2 ≡ 1
  pub first : (first_pointer args).object ≡ number

abbrev pub IfReleased : Storage → List Arg → Option ℕ → Type 0
IfReleased s args None = Unit {0}
IfReleased s args (Some number) = ReleasedFits s args number

-- The row set_constraint_handler_s alone sets a handler: its argument, or the fallback where that is null. The answer
-- is the one before.
pub record SetFits (row : Row) (args : List Arg) (handler : Handler) (set : Pointer) (value : Value) : Type 0 where
  pub setter : name_at row ≡ Some n.SetConstraintHandlerS
  pub new : set ≡ (if is_null (first_pointer args) then handler.fallback else first_pointer args)
  pub former : value ≡ Ptr handler.current

abbrev pub IfSet : Row → List Arg → Handler → Option Pointer → Value → Type 0
IfSet row args handler None value = Unit {0}
IfSet row args handler (Some new) value = SetFits row args handler new value

-- each store is to a range that is reached
abbrev pub AreReached : Storage → List Patch → Type 0
AreReached s [] = Unit {0}
AreReached s (p ∷ ps) = IsReachedToStore s p.place (length p.bytes) × AreReached s ps

abbrev pub IfReached : Storage → Option Fill → Type 0
IfReached s None = Unit {0}
IfReached s (Some f) = IsReachedToStore s f.place f.len

-- the value is of the form that the prototype gives, where the arguments fit the prototype
abbrev pub HasForm : Row → List Arg → Value → Type 0
HasForm row args value = FitRow row args → IsGivenBy row value

-- A row that is done: the values of the call's line decide of no constraint that it fails. At most four stores, to
-- ranges that are reached once the object is made; a store changes no reach.
pub record DoneFits (row : Row) (args : List Arg) (w : World) (change : Change) (new : Option Pointer)
    (value : Value) : Type 0 where
  pub passes : none_fails (line_decisions row (shown_at row args)) ≡ true
  pub made : IfMade w.store change.made value
  pub reached : AreReached (with_made change.made w.store) change.stores
  pub few : length change.stores ≤ 4
  pub released : IfReleased w.store args change.released
  pub set : IfSet row args w.handler new value
  pub form : HasForm row args value

-- A constraint that fails: it is the first as far as the values of the call's line decide, and has its class. The
-- action is the one that the values give, and is reached. The value is the failure value.
pub record BrokenFits (row : Row) (args : List Arg) (w : World) (k : ℕ) (told : Violation) (action : Option Fill)
    (value : Value) : Type 0 where
  pub first : is_first_failing (line_decisions row (shown_at row args)) k ≡ true
  pub class : violation_at row k ≡ Some told
  pub by_values : write_of action ≡ line_action row (shown_at row args)
  pub reached : IfReached w.store action
  pub failure : failure_at row k ≡ Some value
  pub form : HasForm row args value

-- the codes of the rows
abbrev pub is_row_code : Code → Bool
is_row_code U05 = true
is_row_code U09 = true
is_row_code U11 = true
is_row_code _ = false

-- The run ends by exit or abort, or where a read fails: the input is broken, and all of it is used. A write that
-- fails is no matter of the meaning.
abbrev pub EndFits : Streams → Ended → Type 0
EndFits streams (ended.Exited status) = Unit {0}
EndFits streams ended.Aborted = Unit {0}
EndFits streams ended.ReadFault = (streams.input.bytes ≡ []) × (streams.input.ending ≡ BrokenInput)
EndFits streams _ = ⊥

abbrev pub is_handler_name : RowName → Bool
is_handler_name n.AbortHandlerS = true
is_handler_name n.IgnoreHandlerS = true
is_handler_name _ = false

-- A stop that any row may come to. A reach that fails is that reach in the store as it is.
abbrev pub StopFits : Storage → Streams → Stop → Type 0
StopFits s streams (FailsReach case place len align by) = reach s place len align by ≡ Some case
StopFits s streams (FailsValue case value) = ⊥
StopFits s streams (FailsArgument number) = ⊥
StopFits s streams (IsUndefined code) = is_row_code code ≡ true
StopFits s streams (Ends ended) = EndFits streams ended

-- a case of a value alone: of free and realloc that of a release; of set_constraint_handler_s that of a pointer that
-- is neither null nor a function's
abbrev pub ValueFits : RowName → Storage → Case → Pointer → Type 0
ValueFits n.Free s case p = release_case s p ≡ Some case
ValueFits n.Realloc s case p = release_case s p ≡ Some case
ValueFits n.SetConstraintHandlerS s case p =
    (case ≡ L9) × ((not (is_null p) && nat_lt p.object first_function) ≡ true)
ValueFits _ s case p = ⊥

-- the row tells of its first argument
pub record ValueStop (row : Row) (args : List Arg) (s : Storage) (case : Case) (p : Pointer) : Type 0 where
  pub name : RowName
  pub named : name_at row ≡ Some name
  pub first : p ≡ first_pointer args
  pub fits : ValueFits name s case p

-- printf tells of an argument behind its format
pub record ArgumentStop (row : Row) (number : ℕ) : Type 0 where
  pub printer : name_at row ≡ Some n.Printf
  pub behind : 2 ≤ number

abbrev pub RowStopFits : Row → List Arg → World → Streams → Stop → Type 0
RowStopFits row args w streams (FailsValue case value) = ValueStop row args w.store case value
RowStopFits row args w streams (FailsArgument number) = ArgumentStop row number
RowStopFits row args w streams stop = StopFits w.store streams stop

-- What a row answers to its call. `waits` tells what it may keep while it waits for a guest's function.
abbrev pub CallFits : (Rest → Bool) → Row → List Arg → World → Streams → Did → Type 0
CallFits waits row args w streams (Done change set value) = DoneFits row args w change set value
CallFits waits row args w streams (Broken k class action value) = BrokenFits row args w k class action value
CallFits waits row args w streams (Asks function first second third rest) = waits rest ≡ true
CallFits waits row args w streams (Fails stop) = RowStopFits row args w streams stop

-- What it answers once that function has returned: no constraint fails any more, no object is made or ends, and no
-- handler is set.
pub record GoesOnFits (row : Row) (args : List Arg) (w : World) (change : Change) (set : Option Pointer)
    (value : Value) : Type 0 where
  pub done : DoneFits row args w change set value
  pub makes_none : change.made ≡ None
  pub ends_none : change.released ≡ None
  pub sets_none : set ≡ None

abbrev pub ResumeFits : (Rest → Bool) → Row → List Arg → World → Streams → Did → Type 0
ResumeFits waits row args w streams (Done change set value) = GoesOnFits row args w change set value
ResumeFits waits row args w streams (Broken k class action value) = ⊥
ResumeFits waits row args w streams (Asks function first second third rest) = waits rest ≡ true
ResumeFits waits row args w streams (Fails stop) = RowStopFits row args w streams stop

-- the library functions that may be handlers
abbrev pub is_handler : Row → Bool
is_handler row = option_map_or is_handler_name (name_at row) false

-- A library function that is called as a handler changes nothing, or stops as any row may.
abbrev pub HandlerFits : World → Streams → Did → Type 0
HandlerFits w streams (Done change set value) = (change ≡ no_change) × (set ≡ None) × (value ≡ Nothing)
HandlerFits w streams (Broken k class action value) = ⊥
HandlerFits w streams (Asks function first second third rest) = ⊥
HandlerFits w streams (Fails stop) = StopFits w.store streams stop

-- The library keeps the laws, at all arguments and in all worlds.
pub record KeepsLaws (l : Library) : Type 0 where
  pub waits : Row → List Arg → Rest → Bool
  pub call : (row : Row) (args : List Arg) (w : World) → IsWorld w
      → CallFits (waits row args) row args w (l.call row args w).streams (l.call row args w).did
  pub resume : (row : Row) (args : List Arg) (rest : Rest) (value : Value) (w : World) → IsWorld w
      → waits row args rest ≡ true
      → ResumeFits (waits row args) row args w (l.resume rest value w).streams (l.resume rest value w).did
  pub handler : (row : Row) (args : List Arg) (w : World) → is_handler row ≡ true
      → HandlerFits w (l.call row args w).streams (l.call row args w).did
  pub call_flows : (row : Row) (args : List Arg) (w : World) → Flows w.streams (l.call row args w).streams
  pub resume_flows : (rest : Rest) (value : Value) (w : World) → Flows w.streams (l.resume rest value w).streams
  pub variants : KeepsVariants l
