-- Valid code never sticks: no run of it meets an operand that is missing or of another kind, a slot that holds no
-- object but at a `kill`, or a place outside of its function.
use Rattle.std.specs.Prelude.{◌≡◌, true, ℕ, ◌+◌, ◌≤◌, List, [], ◌∷◌, Some, slice_get}
use Rattle.acc_num.specs.declared.kind.IntKind.TheVariants.{I32}
use Rattle.critical_table.specs.declared.pos.Pos.{Pos}
use Rattle.lib_defs.specs.declared.value.Value.{Value}
use Rattle.lib_defs.specs.declared.value.Value.TheVariants.{Num, Ptr}
use Rattle.lib_defs.specs.Laws.{KeepsLaws}
use Rattle.lib_defs.specs.Library.{Library}
use Rattle.lib_defs.specs.World.{Input}
use Rattle.run_defs.specs.State.{State}
use Rattle.run_defs.specs.Starts.{Budgets}
use Rattle.c_core.specs.declared.form.Form.TheVariants as form
use Rattle.c_core.specs.declared.form.Scalar.{Scalar}
use Rattle.c_core.specs.declared.form.Scalar.TheVariants as scalar
use Rattle.vm_code.specs.declared.instr.Instr.{Instr}
use Rattle.vm_code.specs.declared.instr.Instr.TheVariants as i
use Rattle.vm_code.specs.declared.parts.CodeFunction.{CodeFunction}
use Rattle.vm_code.specs.declared.parts.CodeCalled.{CodeCalled}
use Rattle.vm_code.specs.Contents.{Contents, function_at}
use Rattle.vm_code.specs.CodeFunctions.{handler_type, comparing_type, environment, main_function}
use Rattle.vm_code.specs.Slots.{Held, held_in}
use Rattle.vm_code.specs.Frames.{Activation, Active, Waiting, Place, Goes, Ends, Stuck}
use Rattle.vm_code.specs.Calling.{fit_parameters, Entry, entered}
use Rattle.vm_code.specs.Machine.{fetched, run, started}
use Rattle.vm_code.specs.OperandKinds.{Kinds, kinds_after}
use Rattle.vm_code.specs.Valid.{IsValid}

-- The value is an operand of a kind: a number, or a pointer.
abbrev pub IsOfKind : Scalar → Value → Type 0
IsOfKind (scalar.Number kind) (Num n) = Unit {0}
IsOfKind scalar.Pointer (Ptr p) = Unit {0}
IsOfKind _ _ = ⊥

-- operands of these kinds, and no others
abbrev pub AreOfKinds : Kinds → List Value → Type 0
AreOfKinds [] [] = Unit {0}
AreOfKinds (kind ∷ kinds) (v ∷ vs) = IsOfKind kind v × AreOfKinds kinds vs
AreOfKinds _ _ = ⊥

-- An instruction that uses a slot finds an object in it, and a seal lies in that object. A `kill` may find none.
abbrev pub FindsObject : Instr → List Held → Type 0
FindsObject (i.Slot slot) held = (h : Held) × (held_in slot held ≡ Some h)
FindsObject (i.Seal slot at len) held = (h : Held) × (held_in slot held ≡ Some h) × (at + len ≤ h.size)
FindsObject _ held = Unit {0}

-- The function that runs has a next instruction within its own code, and this finds its operands, each of its kind, and
-- its object.
pub record IsReady (code : Contents) (a : Activation) : Type 0 where
  pub function : CodeFunction
  pub running : function_at code.functions a.function ≡ Some function
  pub instr : Instr
  pub pos : Pos
  pub next : fetched code function a.at ≡ Some (instr, pos)
  pub kinds : Kinds
  pub operands : AreOfKinds kinds a.operands
  pub left : Kinds
  pub found : kinds_after code function.form instr kinds ≡ Some left
  pub object : FindsObject instr a.held

-- The run is over, or goes on in a function that is ready.
abbrev pub IsOverOrReady : Contents → Place → Type 0
IsOverOrReady code (Goes (Active a ∷ frames) s) = IsReady code a
IsOverOrReady code (Goes (Waiting call ∷ frames) s) = ⊥
IsOverOrReady code (Goes [] s) = ⊥
IsOverOrReady code (Ends outcome s) = Unit {0}
IsOverOrReady code Stuck = ⊥

-- What functions take that are handlers (K.3.6.1), and those that rows want (K.3.6.3.1).
pub record HasRowTypes (code : Contents) : Type 0 where
  pub handlers : (called : CodeCalled) → slice_get code.types handler_type ≡ Some called
      → called.arguments ≡ form.Pointer ∷ form.Pointer ∷ form.Number I32 ∷ []
  pub comparing : (called : CodeCalled) → slice_get code.types comparing_type ≡ Some called
      → called.arguments ≡ form.Pointer ∷ form.Pointer ∷ form.Pointer ∷ []

-- The code has a function `main`, which takes nothing (5.1.2.2.1).
pub record HasMain (code : Contents) : Type 0 where
  pub number : ℕ
  pub named : main_function code ≡ Some number
  pub function : CodeFunction
  pub stands : function_at code.functions number ≡ Some function
  pub takes_none : function.parameters ≡ []

-- A call of any function of valid code from any state, with arguments that fit its parameters, over each library.
abbrev pub CallsNeverStick : Type 0
CallsNeverStick = (library : Library) (code : Contents) (entry : Entry) (function : CodeFunction) (s : State) (n : ℕ)
    → KeepsLaws library → IsValid code → HasRowTypes code
    → function_at code.functions entry.function ≡ Some function
    → fit_parameters function.parameters entry.arguments ≡ true
    → IsOverOrReady code (run (environment library code) code (entered code entry [] s) n)

-- A run of valid code from its start, over each library, with any input and within any budgets.
abbrev pub RunsNeverStick : Type 0
RunsNeverStick = (library : Library) (code : Contents) (budgets : Budgets) (input : Input) (n : ℕ)
    → KeepsLaws library → IsValid code → HasRowTypes code → HasMain code
    → IsOverOrReady code (run (environment library code) code (started library code budgets input) n)
