-- What a call does (6.5.2.2), and what a function of the unit does (6.9.1).
use Rattle.std.specs.Prelude.{ℕ, zero, suc, Bool, true, false, List, [], reverse, Option, Some, None, unwrap_or}
use Rattle.std.specs.Prelude.{pos as positive}
use Rattle.std.specs.Str.{bytes_eq}
use Rattle.critical_table.specs.declared.case.Case.TheVariants.{L3, L6}
use Rattle.critical_table.specs.declared.pos.Pos.{Pos}
use Rattle.object_store.specs.declared.pointer.Pointer.{Pointer}
use Rattle.c_types.specs.CType.{CType, Plain, Pointer as PointerType}
use Rattle.c_types.specs.Compatible.{compatible}
use Rattle.lib_defs.specs.declared.value.Arg.{Arg}
use Rattle.lib_defs.specs.declared.value.Value.{Value}
use Rattle.lib_defs.specs.declared.value.Value.TheVariants.{Num, Ptr, Nothing}
use Rattle.lib_defs.specs.Library.{Library, values_of}
use Rattle.lib_defs.specs.Reply.{null}
use Rattle.run_defs.specs.declared.outcome.Outcome.TheVariants.{OutOfTicks}
use Rattle.run_defs.specs.State.{State, call_left}
use Rattle.run_defs.specs.Evaluation.{Evaluation, Gives, Stops, bind, fails_value, ticked, call_entered}
use Rattle.run_defs.specs.Functions.{Environment, function_number, value_shown}
use Rattle.run_defs.specs.Calls.{library_call}
use Rattle.run_defs.specs.Calls as entering
use Rattle.c_core.specs.TreeUnit.{Definition, Program}
use Rattle.c_core.specs.TypedUnit.{main_name}
use Rattle.vm_code.specs.Slots.{numbers, all_died}
use Rattle.code_gen.specs.ProgramFunctions.{Named, UnitFunction, LibraryFunction, function_numbered, designated_by}
use Rattle.code_gen.specs.ProgramFunctions.{type_of_function, environment}
use Rattle.code_gen.specs.Expressions.{Call}
use Rattle.code_gen.specs.Flows.{Flow, Returned}
use Rattle.code_gen.specs.Blocks.{parameters_made, parameters_sealed}
use Rattle.code_gen.specs.Statements.{statement}

-- What the function of the unit with this number does once a call of it has taken its tick: with these arguments, the
-- object that a structure is returned to, and the place of the call. It gives a value, or none.
abbrev pub Enter : Type 0
Enter = (number : ℕ) → List Value → (result : Pointer) → Pos → State → Evaluation (Option Value)

-- a function that a library call wants, a handler or one that a row asks for; no structure is returned there
abbrev pub wanted : Enter → entering.Enter
wanted enter number args here s =
    bind (enter number args null here s) (λ value s1. Gives (unwrap_or value Nothing) s1)

-- ---- calls

-- the function that is called, once it has been tested: the tick is taken behind the test
abbrev pub function_call : Environment → Enter → (number : ℕ) → Named → List Arg → (result : Pointer) → Pos → State
    → Evaluation (Option Value)
function_call e enter number (UnitFunction definition) args result here s =
    bind (ticked s) (λ u s1. enter number (values_of args) result here s1)
function_call e enter number (LibraryFunction row name) args result here s =
    bind (library_call e s.ticks (wanted enter) (record { row = row; pos = here }) args s)
    (λ value s1. Gives (Some value) s1)

-- a function may be called through a compatible type alone (6.5.2.2p9)
abbrev pub if_compatible : Bool → Environment → Pointer → Pos → State → (State → Evaluation (Option Value))
    → Evaluation (Option Value)
if_compatible true e p here s go = go s
if_compatible false e p here s go = fails_value L3 (value_shown e (Ptr p)) here s

-- the type of the function to which a pointer of a type points
abbrev pub called_type : CType → CType
called_type (Plain (PointerType to) quals) = to
called_type other = other

abbrev pub call_of : Environment → Enter → Option Named → Call
call_of e enter None type p args result here s = fails_value L6 (value_shown e (Ptr p)) here s
call_of e enter (Some function) type p args result here s =
    if_compatible (compatible (called_type type) (type_of_function function)) e p here s
    (function_call e enter (function_number p) function args result here)

abbrev pub call : Library → Program → Enter → Call
call library program enter type p args result here s =
    call_of (environment library program) enter (designated_by program.functions p) type p args result here s

-- ---- functions of the unit

-- what a call has as its value, where the body went on in the caller or came to its end
abbrev pub returned_value : Flow → Option Value
returned_value (Returned value) = value
returned_value other = None

-- the end of `main` returns 0 (5.1.2.2.3)
abbrev pub main_value : Bool → Option Value → Option Value
main_value true None = Some (Num (positive 0))
main_value is_main value = value

-- An activation: its bytes are counted, its parameters are made, stored and marked, and its body runs. Then its
-- parameters die, the last made first, and its bytes are given back.
abbrev pub activation : Program → Call → Definition → List Value → (result : Pointer) → Pos → State
    → Evaluation (Option Value)
activation program call function args result here s =
    bind (call_entered s) (λ u s1.
    bind (parameters_made function.parameters 0 args [] here s1) (λ held s2.
    bind (statement program call result function.body held (parameters_sealed function.parameters (reverse held) s2))
    (λ flow s3.
    Gives (main_value (bytes_eq function.name main_name) (returned_value flow))
    (call_left (all_died (numbers held) s3)))))

-- A library function is not entered: a library call wants functions of the unit alone.
abbrev pub entered : Option Named → Program → Call → Enter
entered (Some (UnitFunction function)) program call number args result here s =
    activation program call function args result here s
entered other program call number args result here s = Gives None s

-- The functions of a program, where fewer than n ticks are left once a call has taken its tick. So n is above 0 at
-- each.
abbrev pub enter_below : ℕ → Library → Program → Enter
enter_below zero library program number args result here s = Stops OutOfTicks s
enter_below (suc n) library program number args result here s =
    entered (function_numbered program.functions number) program (call library program (enter_below n library program))
    number args result here s
