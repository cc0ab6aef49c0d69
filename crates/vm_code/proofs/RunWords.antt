-- Short words for runs of codes.
use Rattle.std.specs.Prelude.{ℕ, ◌+◌, List, [], ◌∷◌, ◌++◌, Option, Some, None, codes, drop, pos}
use Rattle.acc_num.specs.declared.kind.IntKind.TheVariants as k
use Rattle.critical_table.specs.declared.pos.Pos.{Pos}
use Rattle.object_store.specs.declared.class.Class.TheVariants.{Automatic}
use Rattle.object_store.specs.declared.pointer.Pointer.{Pointer}
use Rattle.lib_defs.specs.declared.value.ArgKind.{ArgKind}
use Rattle.lib_defs.specs.World.{Input, AtEnd}
use Rattle.lib_defs.specs.Library.{Library}
use Rattle.lib_defs.specs.Sample.{sample}
use Rattle.run_defs.specs.declared.event.Event.{Event}
use Rattle.run_defs.specs.declared.event.Event.TheVariants.{Ended, Stored, Made, Died}
use Rattle.run_defs.specs.declared.outcome.Outcome.{Outcome}
use Rattle.run_defs.specs.Outcomes.{end_of}
use Rattle.run_defs.specs.Evaluation.{finished}
use Rattle.run_defs.specs.Starts.{Budgets}
use Rattle.c_core.specs.declared.form.Form.{Form}
use Rattle.c_core.specs.declared.form.Form.TheVariants as form
use Rattle.c_core.specs.declared.form.Scalar.TheVariants as scalar
use Rattle.c_core.specs.declared.operator.Operator.{Operator}
use Rattle.vm_code.specs.declared.instr.Instr.{Instr}
use Rattle.vm_code.specs.declared.instr.Instr.TheVariants as i
use Rattle.vm_code.specs.declared.parts.CodeFunction.{CodeFunction}
use Rattle.vm_code.specs.declared.parts.CodeCalled.{CodeCalled}
use Rattle.vm_code.specs.Contents.{Contents}
use Rattle.vm_code.specs.CodeFunctions.{environment, function_pointer}
use Rattle.vm_code.specs.Frames.{Place, Ends}
use Rattle.vm_code.specs.Machine.{run, begun_count, started}

-- the place of an instruction in the examples: its number as the column
abbrev pub here : ℕ → Pos
here column = record { line = 1; column = column }

abbrev pub placed_from : ℕ → List Instr → List (Instr × Pos)
placed_from k [] = []
placed_from k (x ∷ xs) = (x, here k) ∷ placed_from (k + 1) xs

-- an `int`
abbrev pub int : ℕ → Instr
int n = i.Number k.I32 (pos n)

abbrev pub load_int : Instr
load_int = i.Load (scalar.Number k.I32)

abbrev pub store_int : Instr
store_int = i.Store (scalar.Number k.I32)

abbrev pub with : Operator → Instr
with operator = i.Binary operator k.I32

-- the pointer to a function, and to an object of this size
abbrev pub function : ℕ → Instr
function f = i.Pointer (function_pointer f)

abbrev pub object : (number size : ℕ) → Pointer
object number size = record { object = number; offset = 0; low = 0; high = size }

abbrev pub gives_int : Form
gives_int = form.Number k.I32

-- main, which starts at 0
abbrev pub main : CodeFunction
main = record { name = codes "main"; start = 0; parameters = []; form = gives_int; room = 0 }

-- code of main alone, and of main and other functions, through these called types
abbrev pub unit : List CodeFunction → List CodeCalled → List Instr → Contents
unit functions types instrs = record {
  instrs = placed_from 0 instrs;
  functions = main ∷ functions;
  objects = [];
  texts = [];
  types = types;
}

-- The called types 0 and 1, of handlers and of the functions that rows want, here of no function; and type 2, of these.
abbrev pub called : List ℕ → List Form → List ArgKind → Form → CodeCalled
called functions arguments kinds gives =
    record { functions = functions; arguments = arguments; kinds = kinds; form = gives }

abbrev pub handlers : List ℕ → CodeCalled
handlers functions = called functions (form.Pointer ∷ form.Pointer ∷ gives_int ∷ []) [] form.Nothing

abbrev pub comparers : List ℕ → CodeCalled
comparers functions = called functions (form.Pointer ∷ form.Pointer ∷ form.Pointer ∷ []) [] gives_int

abbrev pub types_of : List ℕ → List Form → List ArgKind → Form → List CodeCalled
types_of functions arguments kinds gives =
    handlers [] ∷ comparers [] ∷ called functions arguments kinds gives ∷ []

abbrev pub alone : List Instr → Contents
alone instrs = unit [] [] instrs

-- What is seen of a run that is over: its outcome, its output, its journal without the two lines of the message object,
-- the ticks that are left, and how many instructions began.
pub record Seen : Type 0 where
  pub outcome : Outcome
  pub output : List ℕ
  pub events : List Event
  pub ticks : ℕ
  pub instructions : ℕ

abbrev pub seen_at : Place → ℕ → Option Seen
seen_at (Ends outcome s) n = Some (record {
  outcome = outcome;
  output = s.world.streams.output;
  events = drop 2 (finished outcome s).journal;
  ticks = s.ticks;
  instructions = n;
})
seen_at _ n = None

abbrev pub seen : Library → Contents → Budgets → Input → (fuel : ℕ) → Option Seen
seen library code budgets input fuel =
    seen_at (run (environment library code) code (started library code budgets input) fuel)
    (begun_count (environment library code) code (started library code budgets input) fuel)

abbrev pub budgets : (ticks bytes : ℕ) → Budgets
budgets ticks bytes = record { ticks = ticks; bytes = bytes }

abbrev pub no_input : Input
no_input = record { bytes = []; ending = AtEnd }

-- a run without input, within 10 ticks and 1,000 bytes, of at most 60 instructions
abbrev pub seen_of : Contents → Option Seen
seen_of code = seen sample code (budgets 10 1000) no_input 60

-- where it is then
abbrev pub place_of_run : Contents → Place
place_of_run code = run (environment sample code) code (started sample code (budgets 10 1000) no_input) 60

-- what is to be seen of a run that writes this, with its last event
abbrev pub writes : List ℕ → Outcome → List Event → (ticks instructions : ℕ) → Option Seen
writes output outcome events ticks instructions = Some (record {
  outcome = outcome;
  output = output;
  events = events ++ Ended (end_of outcome) ∷ [];
  ticks = ticks;
  instructions = instructions;
})

abbrev pub ends : Outcome → List Event → (ticks instructions : ℕ) → Option Seen
ends = writes []

abbrev pub wrote : (number at len : ℕ) → Event
wrote number at len = Stored (record { object = number; at = at; len = len })

abbrev pub made : (number size : ℕ) → Event
made number size = Made number size Automatic

abbrev pub died : ℕ → Event
died number = Died number
