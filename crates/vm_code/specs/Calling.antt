-- Calls: a function of the unit is entered, and left; a library function does its row (6.5.2.2).
use Rattle.std.specs.Prelude.{ℕ, ◌+◌, ◌&&◌, Bool, true, false, pos, List, [], ◌∷◌, ◌++◌, Option, Some}
use Rattle.std.specs.Prelude.{None}
use Rattle.critical_table.specs.declared.case.Case.TheVariants.{L3, L6}
use Rattle.critical_table.specs.declared.pos.Pos.{Pos}
use Rattle.object_store.specs.declared.pointer.Pointer.{Pointer}
use Rattle.lib_defs.specs.declared.shown.Shown.TheVariants.{Function as FunctionShown}
use Rattle.lib_defs.specs.declared.value.Arg.{Arg}
use Rattle.lib_defs.specs.declared.value.ArgKind.{ArgKind}
use Rattle.lib_defs.specs.declared.value.Value.{Value}
use Rattle.lib_defs.specs.declared.value.Value.TheVariants.{Num, Ptr, Nothing}
use Rattle.lib_defs.specs.Reply.{null}
use Rattle.lib_defs.specs.RowTable.{modulo_byte}
use Rattle.run_defs.specs.declared.outcome.Outcome.TheVariants.{Exited}
use Rattle.run_defs.specs.State.{State, call_left}
use Rattle.run_defs.specs.Evaluation.{Evaluation, Gives, Stops, bind, fails_value, ticked, automatic_made, call_entered}
use Rattle.run_defs.specs.Functions.{Function, OfLibrary, OfUnit, Environment, function_at}
use Rattle.run_defs.specs.Functions.{function_name, value_shown}
use Rattle.run_defs.specs.Served.{Served, Answers, Wants, begun, continued}
use Rattle.c_core.specs.declared.form.Form.{Form}
use Rattle.c_core.specs.declared.form.Form.TheVariants as form
use Rattle.c_core.specs.declared.form.Scalar.TheVariants as scalar
use Rattle.vm_code.specs.declared.parts.Parameter.{Parameter}
use Rattle.vm_code.specs.declared.parts.CodeFunction.{CodeFunction}
use Rattle.vm_code.specs.declared.parts.CodeCalled.{CodeCalled}
use Rattle.vm_code.specs.Accesses.{number_in, pointer_in, scalar_stored, copied}
use Rattle.vm_code.specs.Contents.{Contents}
use Rattle.vm_code.specs.Contents as code_parts
use Rattle.vm_code.specs.CodeFunctions.{calls_function}
use Rattle.vm_code.specs.Slots.{Held, numbers, all_died}
use Rattle.vm_code.specs.Frames.{Activation, Frame, Active, Waiting, Place, Goes, Ends, Stuck, after, stops}

-- ---- a function of the unit is entered

-- the value is such as is passed for this
abbrev pub fits_form : Form → Value → Bool
fits_form (form.Number kind) (Num n) = true
fits_form form.Pointer (Ptr p) = true
fits_form form.Place (Ptr p) = true
fits_form _ _ = false

abbrev pub fit_parameters : List Parameter → List Value → Bool
fit_parameters [] [] = true
fit_parameters (p ∷ ps) (v ∷ vs) = fits_form p.form v && fit_parameters ps vs
fit_parameters _ _ = false

-- An argument is stored in the parameter's object; a structure of this size is copied (6.5.2.2p4).
abbrev pub argument_stored : Form → (size : ℕ) → Pointer → Value → Pos → State → Evaluation (Unit {0})
argument_stored (form.Number kind) size place v here s = scalar_stored (scalar.Number kind) place v here s
argument_stored form.Pointer size place v here s = scalar_stored scalar.Pointer place v here s
argument_stored form.Place size place v here s = copied size place (pointer_in v) here s
argument_stored form.Nothing size place v here s = Gives tt s

-- The parameters are made in order, each is stored, and the k-th, from 0, stands in slot k (6.9.1p9, p10).
abbrev pub parameters_made : ℕ → List Parameter → List Value → List Held → Pos → State → Evaluation (List Held)
parameters_made slot (p ∷ ps) (v ∷ vs) held here s =
    bind (automatic_made p.size s) (λ place s1.
    bind (argument_stored p.form p.size place v here s1) (λ u s2.
    parameters_made (slot + 1) ps vs (record { slot = slot; number = place.object; size = p.size } ∷ held) here s2))
parameters_made slot _ _ held here s = Gives held s

-- what is called: the function's number, the arguments, the place of the object for a structure, the place of the call
pub record Entry : Type 0 where
  pub function : ℕ
  pub arguments : List Value
  pub result : Pointer
  pub pos : Pos

abbrev pub activation : Entry → CodeFunction → List Held → Activation
activation entry function held = record {
  function = entry.function;
  at = function.start;
  operands = [];
  held = held;
  result = entry.result;
  answered = true;
}

-- The bytes of the call are counted, and the parameters are made; the tick of the call is taken.
abbrev pub entered_if : Bool → CodeFunction → Entry → List Frame → State → Place
entered_if false function entry frames s = Stuck
entered_if true function entry frames s = after (call_entered s) (λ u s1.
    after (parameters_made 0 function.parameters entry.arguments [] entry.pos s1) (λ held s2.
    Goes (Active (activation entry function held) ∷ frames) s2))

abbrev pub entered_at : Option CodeFunction → Entry → List Frame → State → Place
entered_at None entry frames s = Stuck
entered_at (Some function) entry frames s =
    entered_if (fit_parameters function.parameters entry.arguments) function entry frames s

abbrev pub entered : Contents → Entry → List Frame → State → Place
entered code entry frames s = entered_at (code_parts.function_at code.functions entry.function) entry frames s

-- ---- a call has returned

-- What a call leaves: the place of a structure; a value, which is 0 or a null pointer where the function gave none.
abbrev pub left_by : Form → Pointer → Value → List Value
left_by form.Nothing result v = []
left_by form.Place result v = Ptr result ∷ []
left_by (form.Number kind) result Nothing = Num (pos 0) ∷ []
left_by (form.Number kind) result v = v ∷ []
left_by form.Pointer result Nothing = Ptr null ∷ []
left_by form.Pointer result v = v ∷ []

abbrev pub is_value : Value → Bool
is_value Nothing = false
is_value _ = true

abbrev pub row_left : Value → List Value
row_left Nothing = []
row_left v = v ∷ []

-- what a call of a library function comes to: an answer, or a function of the unit that is entered
abbrev pub replied : Contents → Evaluation Served → List Frame → (Value → State → Place) → Place
replied code (Stops outcome s) frames next = Ends outcome s
replied code (Gives (Answers v) s) frames next = next v s
replied code (Gives (Wants function arguments call) s) frames next =
    entered code (record { function = function; arguments = arguments; result = null; pos = call.call.pos })
    (Waiting call ∷ frames) s

-- A call has returned to these frames: with a value, or Nothing, and with what it leaves on the stack of a function.
-- The return of `main` ends the run; without a value its status is 0 (5.1.2.2.3).
abbrev pub returned : Environment → Contents → (left : List Value) → Value → List Frame → State → Place
returned e code left v [] s = Ends (Exited (modulo_byte (number_in v))) s
returned e code left v (Active a ∷ frames) s =
    Goes (Active (record a { operands = left ++ a.operands; answered = is_value v }) ∷ frames) s
returned e code left v (Waiting call ∷ frames) s =
    replied code (continued e call v s) frames (λ w s1. returned e code (row_left w) w frames s1)

-- A function of this form returns: what its frame holds dies, the last made first, and the bytes of the call are given
-- back (6.2.4p6).
abbrev pub leaves : Environment → Contents → Form → Activation → Value → List Frame → State → Place
leaves e code gives a v frames s =
    returned e code (left_by gives a.result v) v frames (call_left (all_died (numbers a.held) s))

-- ---- a call through a pointer

-- the arguments of a library function, with their kinds
abbrev pub args_of : List Value → List ArgKind → List Arg
args_of (v ∷ vs) (k ∷ ks) = record { value = v; kind = k } ∷ args_of vs ks
args_of _ _ = []

abbrev pub row_called : Environment → Contents → Function → CodeCalled → Entry → List Frame → State → Place
row_called e code (OfUnit name handles compares) called entry frames s = entered code entry frames s
row_called e code (OfLibrary row) called entry frames s =
    replied code (begun e (record { row = row; pos = entry.pos }) (args_of entry.arguments called.kinds) s) frames
    (λ v s1. returned e code (row_left v) v frames s1)

-- The function's type is compatible with the one that it is called through, and the call takes its tick (6.5.2.2p9).
abbrev pub compatible_if : Bool → Environment → Contents → Function → CodeCalled → Entry → List Frame → State → Place
compatible_if false e code f called entry frames s =
    stops (fails_value L3 (FunctionShown (function_name f)) entry.pos s)
compatible_if true e code f called entry frames s =
    after (ticked s) (λ u s1. row_called e code f called entry frames s1)

abbrev pub called_at : Option Function → Environment → Contents → Pointer → CodeCalled → Entry → List Frame → State
    → Place
called_at None e code p called entry frames s =
    stops (fails_value L6 (value_shown e (Ptr p)) entry.pos s)
called_at (Some f) e code p called entry frames s =
    compatible_if (calls_function entry.function called) e code f called entry frames s

-- The pointer designates a function, or the run traps (6.5.2.2p1, 6.5.3.2p4).
abbrev pub called_through : Environment → Contents → Pointer → CodeCalled → Entry → List Frame → State → Place
called_through e code p called entry frames s = called_at (function_at e p) e code p called entry frames s
