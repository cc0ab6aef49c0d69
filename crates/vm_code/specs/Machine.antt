-- The machine: what each instruction does, and a run.
use Rattle.std.specs.Prelude.{◌≡◌, ℕ, zero, suc, ◌+◌, ◌-ℤ◌, ◌&&◌, nat_lt, nat_le, Bool, true, false, ℤ, List, [], ◌∷◌}
use Rattle.std.specs.Prelude.{length, map, replicate, Option, Some, None, if◌then◌else◌}
use Rattle.std.specs.List.{slice_get}
use Rattle.acc_num.specs.Operations.{is_zero, converted_to}
use Rattle.critical_table.specs.declared.code.Code.TheVariants.{U04}
use Rattle.critical_table.specs.declared.pos.Pos.{Pos}
use Rattle.object_store.specs.declared.by.By.{By}
use Rattle.object_store.specs.declared.by.By.TheVariants.{Store}
use Rattle.object_store.specs.declared.mark.Mark.TheVariants.{Const}
use Rattle.object_store.specs.declared.pointer.Pointer.{Pointer}
use Rattle.lib_defs.specs.declared.value.Value.{Value}
use Rattle.lib_defs.specs.declared.value.Value.TheVariants.{Num, Ptr, Nothing}
use Rattle.lib_defs.specs.Columns.{is_null}
use Rattle.lib_defs.specs.Library.{Library}
use Rattle.lib_defs.specs.Units.{size}
use Rattle.lib_defs.specs.Reply.{null}
use Rattle.lib_defs.specs.World.{Input}
use Rattle.run_defs.specs.declared.outcome.Outcome.{Outcome}
use Rattle.run_defs.specs.State.{State, sealed, died, patched}
use Rattle.run_defs.specs.Evaluation.{Evaluation, Gives, bind, undefined, ticked, reached, stored, automatic_made}
use Rattle.run_defs.specs.Evaluation.{finished}
use Rattle.run_defs.specs.Functions.{Environment, function_number}
use Rattle.run_defs.specs.Loads.{found, known}
use Rattle.run_defs.specs.Starts.{Budgets, StaticObject, start_state, statics_placed}
use Rattle.c_core.specs.declared.form.Form.{Form}
use Rattle.c_core.specs.declared.form.Form.TheVariants as form
use Rattle.c_core.specs.declared.form.Scalar.{Scalar}
use Rattle.c_core.specs.declared.form.Scalar.TheVariants as scalar
use Rattle.c_core.specs.Operations.{operator_outcome, negation, complement, compares}
use Rattle.vm_code.specs.declared.instr.Instr.{Instr}
use Rattle.vm_code.specs.declared.instr.Instr.TheVariants as i
use Rattle.vm_code.specs.declared.parts.CodeFunction.{CodeFunction}
use Rattle.vm_code.specs.declared.parts.CodeObject.{CodeObject}
use Rattle.vm_code.specs.declared.parts.CodeCalled.{CodeCalled}
use Rattle.vm_code.specs.Accesses.{loaded, copied}
use Rattle.vm_code.specs.Pointers.{moved, difference, ordered, same_pointer, member_place, array_pointer}
use Rattle.vm_code.specs.Operators.{computed, told, told_if_found, pointer_moved, assigned}
use Rattle.vm_code.specs.Contents.{Contents, function_at}
use Rattle.vm_code.specs.CodeFunctions.{environment, abort_handler, main_function, end_of}
use Rattle.vm_code.specs.Slots.{Held, place_of, held_in, without}
use Rattle.vm_code.specs.Frames.{Activation, Frame, Active, Waiting, Place, Goes, Ends, Stuck, after, stops}
use Rattle.vm_code.specs.Calling.{Entry, entered, leaves, called_through}

-- ---- operands

abbrev pub on_top : List Value → (Value → List Value → Place) → Place
on_top [] next = Stuck
on_top (v ∷ below) next = next v below

abbrev pub on_two : List Value → (Value → Value → List Value → Place) → Place
on_two vs next = on_top vs (λ w below. on_top below (λ v rest. next v w rest))

abbrev pub on_number : List Value → (ℤ → List Value → Place) → Place
on_number (Num n ∷ below) next = next n below
on_number _ next = Stuck

abbrev pub on_numbers : List Value → (ℤ → ℤ → List Value → Place) → Place
on_numbers vs next = on_number vs (λ b below. on_number below (λ a rest. next a b rest))

abbrev pub on_pointer : List Value → (Pointer → List Value → Place) → Place
on_pointer (Ptr p ∷ below) next = next p below
on_pointer _ next = Stuck

abbrev pub on_pointers : List Value → (Pointer → Pointer → List Value → Place) → Place
on_pointers vs next = on_pointer vs (λ q below. on_pointer below (λ p rest. next p q rest))

abbrev pub on_scalar : Scalar → List Value → (Value → List Value → Place) → Place
on_scalar (scalar.Number kind) vs next = on_number vs (λ n below. next (Num n) below)
on_scalar scalar.Pointer vs next = on_pointer vs (λ p below. next (Ptr p) below)

-- a value of this form; there is none of the form Nothing
abbrev pub on_form : Form → List Value → (Value → List Value → Place) → Place
on_form (form.Number kind) vs next = on_number vs (λ n below. next (Num n) below)
on_form form.Pointer vs next = on_pointer vs (λ p below. next (Ptr p) below)
on_form form.Place vs next = on_pointer vs (λ p below. next (Ptr p) below)
on_form form.Nothing vs next = Stuck

-- so many operands, in the order in which they were pushed; front is what has been taken off already
abbrev pub on_operands : ℕ → List Value → (front : List Value) → (List Value → List Value → Place) → Place
on_operands zero vs front next = next front vs
on_operands (suc n) [] front next = Stuck
on_operands (suc n) (v ∷ below) front next = on_operands n below (v ∷ front) next

-- ---- a step

-- the function that runs, with its frame and those around it; the place of the instruction, and the state
pub record Context : Type 0 where
  pub environment : Environment
  pub code : Contents
  pub function : CodeFunction
  pub frame : Activation
  pub rest : List Frame
  pub pos : Pos
  pub state : State

-- goes on at an instruction, with these operands and objects
abbrev pub goes_to : Context → ℕ → List Value → List Held → State → Place
goes_to c at operands held s =
    Goes (Active (record (c.frame) { at = at; operands = operands; held = held }) ∷ c.rest) s

-- goes on at the next one
abbrev pub next : Context → List Value → State → Place
next c operands s = goes_to c (c.frame.at + 1) operands c.frame.held s

-- pushes a value
abbrev pub push : Context → Value → Place
push c v = next c (v ∷ c.frame.operands) c.state

-- pushes what an evaluation gives
abbrev pub gives : Context → List Value → Evaluation Value → Place
gives c below evaluation = after evaluation (λ v s. next c (v ∷ below) s)

-- does what an evaluation does
abbrev pub does : Context → List Value → Evaluation (Unit {0}) → Place
does c below evaluation = after evaluation (λ u s. next c below s)

abbrev pub on_held : Option Held → (Held → Place) → Place
on_held None next = Stuck
on_held (Some held) next = next held

abbrev pub on_slot : Context → ℕ → (Held → Place) → Place
on_slot c slot next = on_held (held_in slot c.frame.held) next

-- an object is made in a slot
abbrev pub makes : Context → (slot size : ℕ) → Evaluation Pointer → Place
makes c slot bytes evaluation = after evaluation (λ place s. goes_to c (c.frame.at + 1) c.frame.operands
    (record { slot = slot; number = place.object; size = bytes } ∷ c.frame.held) s)

-- the object of a slot dies, if the slot holds one
abbrev pub kills : Context → ℕ → Option Held → Place
kills c slot None = next c c.frame.operands c.state
kills c slot (Some held) =
    goes_to c (c.frame.at + 1) c.frame.operands (without slot c.frame.held) (died held.number c.state)

-- a range of a slot's object is const from now on
abbrev pub seals : Context → (at len : ℕ) → Held → Place
seals c at len held = if nat_le (at + len) held.size
    then next c c.frame.operands (sealed held.number (record { at = at; len = len; mark = Const }) c.state)
    else Stuck

-- the pointer reaches so many bytes
abbrev pub reaches : Pointer → (len align : ℕ) → By → Pos → State → Evaluation Value
reaches p len align by here s = bind (reached (record { place = p; len = len; align = align; by = by }) here s)
    (λ u s1. Gives (Ptr p) s1)

-- A text is stored. It may be longer than any object: then the length of the access is cut.
abbrev pub text_stored : Pointer → List ℕ → Pos → State → Evaluation (Unit {0})
text_stored p text here s =
    bind (reached (record { place = p; len = size 1 (length text); align = 1; by = Store }) here s)
    (λ u s1. Gives tt (patched (record { place = p; bytes = known text }) s1))

abbrev pub pools : Context → Option (List ℕ) → Pointer → List Value → Place
pools c None p below = Stuck
pools c (Some text) p below = does c below (text_stored p text c.pos c.state)

-- where the value that is looked for leads: to the place of its pair, or else to that of the default behind the pairs
abbrev pub default_place : Option (Instr × Pos) → Option ℕ
default_place (Some (i.Default to, here)) = Some to
default_place _ = None

abbrev pub pair_place : Option (Instr × Pos) → ℤ → Option ℕ → Option ℕ
pair_place (Some (i.Pair value to, here)) n others = if is_zero (value -ℤ n) then Some to else others
pair_place _ n others = None

abbrev pub case_place : List (Instr × Pos) → (at count : ℕ) → ℤ → Option ℕ
case_place instrs at zero n = default_place (slice_get instrs at)
case_place instrs at (suc count) n = pair_place (slice_get instrs at) n (case_place instrs (at + 1) count n)

abbrev pub to_case : Context → Option ℕ → List Value → Place
to_case c None below = Stuck
to_case c (Some to) below = goes_to c to below c.frame.held c.state

-- the value of the last call is used
abbrev pub uses : Context → Bool → Place
uses c true = next c c.frame.operands c.state
uses c false = stops (undefined U04 c.pos c.state)

-- The object for a structure stands above the arguments, and these above the function.
abbrev pub on_result : Form → List Value → (Pointer → List Value → Place) → Place
on_result form.Place vs next = on_pointer vs next
on_result _ vs next = next null vs

abbrev pub calls : Context → ℕ → Option CodeCalled → Place
calls c count None = Stuck
calls c count (Some called) = on_result called.form c.frame.operands (λ result below.
    on_operands count below [] (λ arguments below1. on_pointer below1 (λ p below2.
    called_through c.environment c.code p called
    (record { function = function_number p; arguments = arguments; result = result; pos = c.pos })
    (Active (record (c.frame) { at = c.frame.at + 1; operands = below2 }) ∷ c.rest) c.state)))

-- What each instruction does.
abbrev pub act : Context → Instr → Place
act c (i.Number kind n) = push c (Num n)
act c (i.Pointer p) = push c (Ptr p)
act c (i.Slot slot) = on_slot c slot (λ held. push c (Ptr (place_of held)))
act c i.Result = push c (Ptr c.frame.result)
act c i.Duplicate = on_top c.frame.operands (λ v below. next c (v ∷ v ∷ below) c.state)
act c i.Drop = on_top c.frame.operands (λ v below. next c below c.state)
act c i.Swap = on_two c.frame.operands (λ v w below. next c (v ∷ w ∷ below) c.state)
act c i.Over = on_two c.frame.operands (λ v w below. next c (v ∷ w ∷ v ∷ below) c.state)
act c (i.Reach len align by) =
    on_pointer c.frame.operands (λ p below. gives c below (reaches p len align by c.pos c.state))
act c (i.Load scalar) = on_pointer c.frame.operands (λ p below. gives c below (loaded scalar p c.pos c.state))
act c (i.Store scalar) = on_scalar scalar c.frame.operands (λ v below. on_pointer below (λ p rest.
    gives c rest (assigned scalar p v c.pos c.state)))
act c (i.Zero len) = on_pointer c.frame.operands (λ p below.
    does c below (stored 1 (record { place = p; bytes = replicate len (Some 0) }) c.pos c.state))
act c (i.Pool text) = on_pointer c.frame.operands (λ p below. pools c (slice_get c.code.texts text) p below)
act c (i.Copy len) = on_pointers c.frame.operands (λ to from below.
    gives c below (bind (copied len to from c.pos c.state) (λ u s. Gives (Ptr to) s)))
act c (i.Make slot bytes) = makes c slot bytes (automatic_made bytes c.state)
act c (i.Seal slot at len) = on_slot c slot (seals c at len)
act c (i.Kill slot) = kills c slot (held_in slot c.frame.held)
act c (i.Binary operator kind) = on_numbers c.frame.operands (λ a b below.
    gives c below (computed (operator_outcome operator kind a b) c.pos c.state))
act c (i.Negate kind) =
    on_number c.frame.operands (λ a below. gives c below (computed (negation kind a) c.pos c.state))
act c (i.Flip kind) = on_number c.frame.operands (λ a below. next c (Num (complement kind a) ∷ below) c.state)
act c (i.Convert kind) = on_number c.frame.operands (λ a below. next c (Num (converted_to kind a) ∷ below) c.state)
act c i.Not = on_number c.frame.operands (λ a below. next c (told (is_zero a) ∷ below) c.state)
act c (i.Compare comparison) =
    on_numbers c.frame.operands (λ a b below. next c (told (compares comparison a b) ∷ below) c.state)
act c i.IsNull = on_pointer c.frame.operands (λ p below. next c (told (is_null p) ∷ below) c.state)
act c i.Same = on_pointers c.frame.operands (λ p q below. next c (told (same_pointer p q) ∷ below) c.state)
act c (i.Order relation) =
    on_pointers c.frame.operands (λ p q below. gives c below (told_if_found (ordered relation p q) c.pos c.state))
act c (i.Step stride) = on_number c.frame.operands (λ n below. on_pointer below (λ p rest.
    gives c rest (pointer_moved (moved stride p n) c.pos c.state)))
act c (i.Difference bytes) = on_pointers c.frame.operands (λ p q below.
    gives c below (bind (found (difference bytes p q) c.pos c.state) (λ n s. Gives (Num n) s)))
act c (i.Member at) = on_pointer c.frame.operands (λ p below. next c (Ptr (member_place at p) ∷ below) c.state)
act c (i.Narrow len) = on_pointer c.frame.operands (λ p below. next c (Ptr (array_pointer len p) ∷ below) c.state)
act c (i.Jump to) = goes_to c to c.frame.operands c.frame.held c.state
act c (i.IfZero to) = on_number c.frame.operands (λ n below.
    if is_zero n then goes_to c to below c.frame.held c.state else next c below c.state)
act c (i.Cases count) = on_number c.frame.operands (λ n below.
    to_case c (case_place c.code.instrs (c.frame.at + 1) count n) below)
act c (i.Pair value to) = Stuck
act c (i.Default to) = Stuck
act c i.Tick = does c c.frame.operands (ticked c.state)
act c (i.Call count type) = calls c count (slice_get c.code.types type)
act c i.Used = uses c c.frame.answered
act c i.Give = on_form c.function.form c.frame.operands (λ v below.
    leaves c.environment c.code c.function.form c.frame v c.rest c.state)
act c i.Leave = leaves c.environment c.code c.function.form c.frame Nothing c.rest c.state

-- the instruction at a place of a function
abbrev pub fetched_if : Bool → Contents → ℕ → Option (Instr × Pos)
fetched_if false code at = None
fetched_if true code at = slice_get code.instrs at

abbrev pub fetched : Contents → CodeFunction → ℕ → Option (Instr × Pos)
fetched code function at = fetched_if (nat_le function.start at && nat_lt at (end_of code function)) code at

abbrev pub acts : Option (Instr × Pos) → Environment → Contents → CodeFunction → Activation → List Frame → State → Place
acts None e code function frame rest s = Stuck
acts (Some (instr, here)) e code function frame rest s = act (record {
  environment = e;
  code = code;
  function = function;
  frame = frame;
  rest = rest;
  pos = here;
  state = s;
}) instr

abbrev pub step_in : Option CodeFunction → Environment → Contents → Activation → List Frame → State → Place
step_in None e code frame rest s = Stuck
step_in (Some function) e code frame rest s = acts (fetched code function frame.at) e code function frame rest s

-- One step: an instruction begins.
abbrev pub step : Environment → Contents → List Frame → State → Place
step e code [] s = Stuck
step e code (Waiting call ∷ rest) s = Stuck
step e code (Active frame ∷ rest) s = step_in (function_at code.functions frame.function) e code frame rest s

-- ---- a run

-- at most n steps
abbrev pub run : Environment → Contents → Place → ℕ → Place
run e code (Ends outcome s) n = Ends outcome s
run e code Stuck n = Stuck
run e code (Goes frames s) zero = Goes frames s
run e code (Goes frames s) (suc n) = run e code (step e code frames s) n

-- how many instructions begin in at most n steps
abbrev pub begun_count : Environment → Contents → Place → ℕ → ℕ
begun_count e code (Ends outcome s) n = 0
begun_count e code Stuck n = 0
begun_count e code (Goes frames s) zero = 0
begun_count e code (Goes frames s) (suc n) = begun_count e code (step e code frames s) n + 1

abbrev pub static_of : CodeObject → StaticObject
static_of object = record { bytes = object.bytes; seals = object.seals }

-- a call without arguments from outside of the code
abbrev pub outer_entry : ℕ → Entry
outer_entry f = record { function = f; arguments = []; result = null; pos = record { line = 1; column = 1 } }

abbrev pub main_called : Environment → Contents → Option ℕ → State → Place
main_called e code None s = Stuck
main_called e code (Some f) s = after (ticked s) (λ u s1. entered code (outer_entry f) [] s1)

-- The start of a run: the static objects are made in turn, and `main` is called (5.1.2.2.1).
abbrev pub started : Library → Contents → Budgets → Input → Place
started library code budgets input =
    after (statics_placed (map static_of code.objects) (start_state budgets input (abort_handler code))) (λ u s.
    main_called (environment library code) code (main_function code) s)

-- The run of code over an input, within budgets: its outcome, the state behind its last event, and how many
-- instructions began.
pub record RunsTo (library : Library) (code : Contents) (budgets : Budgets) (input : Input) (outcome : Outcome)
    (s : State) (instructions : ℕ) : Type 0 where
  pub before : State
  pub ends : run (environment library code) code (started library code budgets input) instructions ≡ Ends outcome before
  pub last : s ≡ finished outcome before
  pub all_begin :
      begun_count (environment library code) code (started library code budgets input) instructions ≡ instructions
