-- What is said of the runs of examples: what a unit means, and that the machine does this with its code.
use Rattle.std.specs.Prelude.{ℕ, ◌++◌, List, [], ◌∷◌, Option, Some, None}
use Rattle.std.specs.Fmt.{digits}
use Rattle.acc_num.specs.Numbers.{value_of}
use Rattle.acc_num.specs.Operations.{power_of_two, converted_to}
use Rattle.critical_table.specs.declared.case.Case.{Case}
use Rattle.critical_table.specs.declared.code.Code.{Code}
use Rattle.object_store.specs.declared.by.By.{By}
use Rattle.object_store.specs.declared.class.Class.TheVariants.{Static, Automatic, Allocated}
use Rattle.object_store.specs.declared.mark.Mark.TheVariants.{Literal, Const}
use Rattle.object_store.specs.declared.pointer.Pointer.{Pointer}
use Rattle.object_store.specs.Storage.{live_bytes}
use Rattle.object_store.specs.Messages.{message_bytes}
use Rattle.object_store.specs.Reach.{reach_table}
use Rattle.object_store.specs.Load.{integer_bytes, pointer_bytes, load_integer, load_pointer}
use Rattle.c_types.specs.Compatible.{agree, bare_agree, all_agree}
use Rattle.c_core.specs.Operations.{operator_outcome, negation, complement}
use Rattle.lib_defs.specs.declared.shown.Shown.{Shown}
use Rattle.lib_defs.specs.Spans.{span}
use Rattle.lib_defs.specs.World.{Input, AtEnd}
use Rattle.lib_defs.specs.Profile.{profile}
use Rattle.run_defs.specs.declared.event.Event.{Event}
use Rattle.run_defs.specs.declared.event.Event.TheVariants.{Made, Sealed, Stored, Called, Returned, ReachFailed}
use Rattle.run_defs.specs.declared.event.Event.TheVariants.{Stopped, Ended}
use Rattle.run_defs.specs.declared.outcome.Outcome.{Outcome}
use Rattle.run_defs.specs.Outcomes.{end_of}
use Rattle.c_core.specs.TreeUnit.{Program}
use Rattle.vm_code.specs.Contents.{Contents}
use Rattle.vm_code.specs.CodeFunctions.{environment}
use Rattle.vm_code.specs.Frames.{Place, Ends}
use Rattle.vm_code.specs.Machine.{run, started}
use Rattle.run_defs.specs.Starts.{Budgets}
use Rattle.code_gen.specs.Meaning.{Meaning, meaning, meaning_at}
use Rattle.code_gen.specs.UnitCode.{unit_code}
use Rattle.code_gen.proofs.Trees.{at}

-- what a run computes with
unfoldable pub words : Unit {0}
unfolding message_bytes live_bytes reach_table integer_bytes pointer_bytes load_integer load_pointer operator_outcome
    negation complement value_of power_of_two converted_to agree bare_agree all_agree span digits
words = tt

abbrev pub no_input : Input
no_input = record { bytes = []; ending = AtEnd }

-- What the machine does with the code of the unit, if it ends within so many instructions.
abbrev pub ended_run : Budgets → Place → Option Meaning
ended_run budgets (Ends outcome s) = Some (meaning_at outcome budgets s)
ended_run budgets place = None

abbrev pub machine_run : Contents → Input → Budgets → (instructions : ℕ) → Option Meaning
machine_run code input budgets instructions = ended_run budgets
    (run (environment profile code) code (started profile code budgets input) instructions)

-- the meaning of a unit over an input, and the run of its code
abbrev pub runs_over : Program → Input → (ticks bytes : ℕ) → Meaning × Option Meaning
runs_over program input ticks bytes =
    let budgets : Budgets = record { ticks = ticks; bytes = bytes } in
    (meaning profile program input budgets, machine_run (unit_code program) input budgets 3000)

-- over an empty input
abbrev pub runs : Program → (ticks bytes : ℕ) → Meaning × Option Meaning
runs program ticks bytes = runs_over program no_input ticks bytes

-- each journal begins with the message object, and ends with the end
abbrev pub journal_of : List Event → Outcome → List Event
journal_of events outcome =
    Made 2 131 Static ∷ Sealed 2 (record { at = 0; len = 131; mark = Literal }) ∷ events ++ Ended (end_of outcome) ∷ []

abbrev pub meant : Outcome → (output err : List ℕ) → List Event → ℕ → Meaning
meant outcome output err events ticks =
    record { outcome = outcome; output = output; err = err; journal = journal_of events outcome; ticks = ticks }

-- the machine does what the meaning says
abbrev pub both : Meaning → Meaning × Option Meaning
both m = (m, Some m)

-- how a run ends, its output, the events between, and the ticks that it takes; nothing on the error output
abbrev pub says : Outcome → List ℕ → List Event → ℕ → Meaning × Option Meaning
says outcome output events ticks = both (meant outcome output [] events ticks)

-- the same with an error output
abbrev pub tells : Outcome → (output err : List ℕ) → List Event → ℕ → Meaning × Option Meaning
tells outcome output err events ticks = both (meant outcome output err events ticks)

-- ---- events

abbrev pub made : (object size : ℕ) → Event
made object size = Made object size Automatic

abbrev pub static : (object size : ℕ) → Event
static object size = Made object size Static

abbrev pub heap : (object size : ℕ) → Event
heap object size = Made object size Allocated

abbrev pub stored : (object at len : ℕ) → Event
stored object at len = Stored (record { object = object; at = at; len = len })

abbrev pub literal_marks : (object len : ℕ) → Event
literal_marks object len = Sealed object (record { at = 0; len = len; mark = Literal })

abbrev pub const_marks : (object at len : ℕ) → Event
const_marks object at len = Sealed object (record { at = at; len = len; mark = Const })

abbrev pub called : (row : ℕ) → List Shown → Event
called row values = Called (record { 0 = row }) values

abbrev pub gave : (row : ℕ) → Shown → Event
gave row value = Returned (record { 0 = row }) value

abbrev pub unreached : Case → (column : ℕ) → Pointer → (len align : ℕ) → By → Event
unreached case column place len align by =
    ReachFailed case (at column) (record { place = place; len = len; align = align; by = by })

abbrev pub undefined : Code → (column : ℕ) → Event
undefined code column = Stopped code (at column)

abbrev pub pointer : (object offset low high : ℕ) → Pointer
pointer object offset low high = record { object = object; offset = offset; low = low; high = high }
