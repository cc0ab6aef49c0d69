-- What a program means: how its run ends, what it writes, its journal, and the ticks that it takes (5.1.2.3).
use Rattle.std.specs.Prelude.{ℕ, ◌+◌, ◌-◌, List, [], ◌∷◌, map, Option, unwrap_or, if◌then◌else◌}
use Rattle.std.specs.Str.{bytes_eq}
use Rattle.critical_table.specs.declared.pos.Pos.{Pos}
use Rattle.object_store.specs.declared.pointer.Pointer.{Pointer}
use Rattle.lib_defs.specs.declared.row.Row.{Row}
use Rattle.lib_defs.specs.declared.row_name.RowName.TheVariants.{AbortHandlerS}
use Rattle.lib_defs.specs.Names.{name_text}
use Rattle.lib_defs.specs.RowNumbers.{row_named}
use Rattle.std.specs.Option.{option_map_or}
use Rattle.lib_defs.specs.declared.value.Value.{Value}
use Rattle.lib_defs.specs.declared.value.Value.TheVariants.{Nothing}
use Rattle.lib_defs.specs.RowTable.{modulo_byte}
use Rattle.lib_defs.specs.Reply.{null}
use Rattle.lib_defs.specs.Library.{Library}
use Rattle.lib_defs.specs.World.{Input}
use Rattle.run_defs.specs.declared.event.Event.{Event}
use Rattle.run_defs.specs.declared.outcome.Outcome.{Outcome}
use Rattle.run_defs.specs.declared.outcome.Outcome.TheVariants.{Exited}
use Rattle.run_defs.specs.State.{State}
use Rattle.run_defs.specs.Evaluation.{Evaluation, Gives, Stops, bind, ticked, finished}
use Rattle.run_defs.specs.Starts.{Budgets, StaticObject, start_state, statics_placed}
use Rattle.c_core.specs.declared.named.FunctionName.TheVariants.{Library as LibraryName}
use Rattle.c_core.specs.TreeUnit.{Definition, Static, Program}
use Rattle.c_core.specs.TypedUnit.{main_name}
use Rattle.vm_code.specs.CodeFunctions.{function_pointer}
use Rattle.code_gen.specs.Designation.{function_number}
use Rattle.vm_code.specs.Accesses.{number_in}
use Rattle.code_gen.specs.Calls.{enter_below}
use Rattle.code_gen.specs.StaticContents.{static_bytes, seal_of}

pub record Meaning : Type 0 where
  pub outcome : Outcome
  pub output : List ℕ
  pub err : List ℕ
  pub journal : List Event
  pub ticks : ℕ

-- ---- the start

-- the handler that a run begins with: abort_handler_s (K.3.6.1.2)
abbrev pub first_handler : List Definition → Pointer
first_handler functions =
    option_map_or (λ (row : Row). function_pointer (function_number functions (LibraryName row.0)))
    (row_named (name_text AbortHandlerS)) null

abbrev pub static_object : Program → Static → StaticObject
static_object program static =
    record { bytes = static_bytes program static; seals = map seal_of static.seals }

-- the static objects of the unit, behind the message object
abbrev pub started : Program → Input → Budgets → Evaluation (Unit {0})
started program input budgets =
    statics_placed (map (static_object program) program.statics)
    (start_state budgets input (first_handler program.functions))

-- ---- the call of `main` (5.1.2.2.1)

-- the number of `main`, where functions are numbered from this one
abbrev pub main_from : ℕ → List Definition → ℕ
main_from number [] = 0
main_from number (first ∷ rest) = if bytes_eq first.name main_name then number else main_from (number + 1) rest

-- where it stands
abbrev pub main_token : List Definition → Pos
main_token [] = record { line = 0; column = 0 }
main_token (first ∷ rest) = if bytes_eq first.name main_name then first.token else main_token rest

abbrev pub main_called : Library → Program → Budgets → State → Evaluation (Option Value)
main_called library program budgets s = bind (ticked s) (λ u s1.
    enter_below budgets.ticks library program (main_from 1 program.functions) [] null (main_token program.functions) s1)

abbrev pub run : Library → Program → Input → Budgets → Evaluation (Option Value)
run library program input budgets =
    bind (started program input budgets) (λ u s. main_called library program budgets s)

-- ---- the end

-- the status is that of the value of `main` (5.1.2.2.3, 7.22.4.4p5)
abbrev pub status_of : Option Value → ℕ
status_of value = modulo_byte (number_in (unwrap_or value Nothing))

abbrev pub meaning_at : Outcome → Budgets → State → Meaning
meaning_at outcome budgets s = record {
  outcome = outcome;
  output = s.world.streams.output;
  err = s.world.streams.err;
  journal = (finished outcome s).journal;
  ticks = budgets.ticks - s.ticks;
}

abbrev pub ended : Evaluation (Option Value) → Budgets → Meaning
ended (Gives value s) budgets = meaning_at (Exited (status_of value)) budgets s
ended (Stops outcome s) budgets = meaning_at outcome budgets s

-- The meaning of a unit.
abbrev pub meaning : Library → Program → Input → Budgets → Meaning
meaning library program input budgets = ended (run library program input budgets) budgets
