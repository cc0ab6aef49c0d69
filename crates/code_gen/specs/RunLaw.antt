-- The machine's run of the code of an expression is what the meaning of the expression gives, where each call in it
-- runs as it is meant.
use Rattle.std.specs.Prelude.{◌≡◌, ℕ, ◌+◌, ◌<◌, ◌≤◌, Bool, true, false, List, [], ◌∷◌, ◌++◌, Option, Some, None, ℤ}
use Rattle.std.specs.List.{slice_get}
use Rattle.critical_table.specs.declared.pos.Pos.{Pos}
use Rattle.object_store.specs.declared.pointer.Pointer.{Pointer}
use Rattle.lib_defs.specs.declared.value.Value.{Value}
use Rattle.lib_defs.specs.declared.value.Value.TheVariants.{Num, Ptr}
use Rattle.run_defs.specs.State.{State}
use Rattle.run_defs.specs.Evaluation.{Evaluation, Gives, Stops}
use Rattle.run_defs.specs.Functions.{Environment, function_number as pointed_function}
use Rattle.c_core.specs.declared.form.Form.{Form}
use Rattle.c_core.specs.declared.form.Form.TheVariants as form
use Rattle.c_core.specs.declared.form.Content.{Content}
use Rattle.c_core.specs.Forms.{form_of, content_form, given_form}
use Rattle.c_core.specs.Named.{Names, size_in}
use Rattle.c_core.specs.Tree.{Core, At, Node, Cores, NoCore, MoreCores, type_in}
use Rattle.c_core.specs.Tree as tree
use Rattle.c_core.specs.TreeUnit.{Program}
use Rattle.c_core.specs.Typed.{CoreTyped}
use Rattle.c_core.specs.Types.{IsLeft}
use Rattle.vm_code.specs.declared.instr.Instr.{Instr}
use Rattle.vm_code.specs.declared.parts.CodeCalled.{CodeCalled}
use Rattle.vm_code.specs.declared.parts.CodeFunction.{CodeFunction}
use Rattle.vm_code.specs.Calling.{called_through}
use Rattle.vm_code.specs.Contents.{Contents, function_at}
use Rattle.vm_code.specs.Frames.{Activation, Frame, Active, Place, Goes, Ends, Stuck}
use Rattle.vm_code.specs.Machine.{fetched, run}
use Rattle.vm_code.specs.Slots.{Held, held_in, numbers}
use Rattle.code_gen.specs.Arguments.{arguments}
use Rattle.code_gen.specs.CalledTypes.{Through, through, type_number}
use Rattle.code_gen.specs.Evaluating.{Yield}
use Rattle.code_gen.specs.ExpressionCode.{code_at, objects_in, size_in as size_of_code}
use Rattle.code_gen.specs.Expressions.{Call, value, unused}

-- ---- what a value leaves

-- a value of this form
abbrev pub HasKind : Form → Value → Type 0
HasKind (form.Number kind) v = (n : ℤ) × (v ≡ Num n)
HasKind form.Pointer v = (p : Pointer) × (v ≡ Ptr p)
HasKind form.Place v = (p : Pointer) × (v ≡ Ptr p)
HasKind form.Nothing v = Unit {0}

-- it stands on top of the operands, if there is one
abbrev pub pushed : Form → Value → List Value → List Value
pushed form.Nothing v operands = operands
pushed other v operands = v ∷ operands

-- ---- the value objects of a full expression

-- They stand in slots from a low one on and below a high one; the last that was made has the highest.
abbrev pub AreValues : (low high : ℕ) → List Held → Type 0
AreValues low high [] = Unit {0}
AreValues low high (h ∷ rest) = (low ≤ h.slot) × (h.slot < high) × AreValues low h.slot rest

-- what an activation holds on top of the objects of blocks and parameters: the value objects with these numbers
pub record Holding (low high : ℕ) (made : List ℕ) : Type 0 where
  pub objects : List Held
  pub slots : AreValues low high objects
  pub same : numbers objects ≡ made
  pub answered : Bool

abbrev pub holding : Activation → List Held → (answered : Bool) → Activation
holding frame objects answered = record frame { held = objects ++ frame.held; answered = answered }

-- the objects of blocks and parameters have slots below those of value objects
abbrev pub AreBelow : ℕ → List Held → Type 0
AreBelow low [] = Unit {0}
AreBelow low (h ∷ rest) = (h.slot < low) × AreBelow low rest

-- ---- runs

-- at most so many ticks are left at a place
abbrev pub LeavesAt : ℕ → Place → Type 0
LeavesAt most (Goes frames s) = s.ticks ≤ most
LeavesAt most (Ends outcome s) = s.ticks ≤ most
LeavesAt most Stuck = Unit {0}

-- from one place the machine comes to another: so many steps more, whatever comes behind
pub record Comes (e : Environment) (code : Contents) (from to : Place) : Type 0 where
  pub by : (k : ℕ) → (n : ℕ) × (run e code from n ≡ run e code to k)

abbrev pub Arrives : {A : Type 0} → Environment → Contents → Place → Evaluation A → (Left : A → Type 0)
    → ((v : A) → Left v → State → Place) → Type 0
Arrives e code from (Gives v s) Left to = (left : Left v) × Comes e code from (to v left s)
Arrives e code from (Stops outcome s) Left to = Comes e code from (Ends outcome s)

-- From a place where at most so many ticks are left the machine does what an evaluation does. It comes to where the
-- value leads, in the state that is given; or it ends with the same outcome in the same state, and so with the same
-- output, journal and ticks. What is left beside the value says where that is.
pub record Reaches {A : Type 0} (e : Environment) (code : Contents) (most : ℕ) (from : Place)
    (evaluation : Evaluation A) (Left : A → Type 0) (to : (v : A) → Left v → State → Place) : Type 0 where
  pub arrives : LeavesAt most from → Arrives e code from evaluation Left to

-- these instructions stand in a function from a place on
abbrev pub StandAt : Contents → CodeFunction → ℕ → List (Instr × Pos) → Type 0
StandAt code function at [] = Unit {0}
StandAt code function at (instr ∷ rest) =
    (fetched code function at ≡ Some instr) × StandAt code function (at + 1) rest

-- the objects that may be named stand in slots, with their sizes
abbrev pub InSlots : Names → List Held → Type 0
InSlots names held = (slot size : ℕ) → size_in slot names.objects ≡ Some size
    → (h : Held) × (held_in slot held ≡ Some h) × (h.size ≡ size)

-- the activation at an instruction, with these operands, in front of other frames
abbrev pub standing : Activation → List Frame → ℕ → List Value → State → Place
standing frame rest at operands s = Goes (Active (record frame { at = at; operands = operands }) ∷ rest) s

-- what is left of an expression: its value, of its form, and the value objects that are made
pub record Left (form : Form) (low high : ℕ) (x : Yield) : Type 0 where
  pub kind : HasKind form x.value
  pub now : Holding low high x.made

-- a function that runs: its code, its activation, the frames around it, and the most ticks that may be left
pub record Running : Type 0 where
  pub environment : Environment
  pub code : Contents
  pub function : CodeFunction
  pub frame : Activation
  pub rest : List Frame
  pub most : ℕ
  pub own : function_at code.functions frame.function ≡ Some function

-- ---- calls

-- values of arguments, each of its form, and each there
abbrev pub AreArguments : Cores → List Value → Type 0
AreArguments NoCore [] = Unit {0}
AreArguments (MoreCores first rest) (v ∷ vs) = HasKind (form_of first) v × AreArguments rest vs
AreArguments cores values = ⊥

-- each leaves a value
abbrev pub AreLeft : Cores → Type 0
AreLeft NoCore = Unit {0}
AreLeft (MoreCores first rest) = IsLeft (form_of first) × AreLeft rest

-- what a call leaves: its value, and any where the function ended without one (6.9.1p12)
abbrev pub value_left : Option Content → (result : Pointer) → Option Value → Value
value_left gives result (Some v) = v
value_left gives result None = unused gives result

-- a value is of the form that the call gives, and the caller knows whether there is one
abbrev pub IsGivenSo : Option Content → Option Value → (answered : Bool) → Type 0
IsGivenSo None given answered = Unit {0}
IsGivenSo (Some content) (Some v) answered = HasKind (content_form content) v × (answered ≡ true)
IsGivenSo (Some content) None answered = answered ≡ false

module _ (e : Environment) (code : Contents) (most : ℕ) (rest : List Frame) (table : List Through) (call : Call) where
  -- The type that a call is made through stands in the table of called types, and from the call the machine does what
  -- the call means.
  pub record CallRuns (gives : Option Content) (function : Core) (operands : Cores) : Type 0 where
    pub called : CodeCalled
    pub stands : slice_get code.types (type_number table (through function operands)) ≡ Some called
    pub form_is : called.form ≡ given_form gives
    pub left : AreLeft operands
    pub runs : (p result : Pointer) (values : List Value) → AreArguments operands values → (pos : Pos)
        (frame : Activation) (s : State) → s.ticks ≤ most
        → Reaches e code most (called_through e code p called
        (record { function = pointed_function p; arguments = values; result = result; pos = pos })
        (Active frame ∷ rest) s) (call (type_in function) p (arguments operands values) result pos s)
        (λ given. (answered : Bool) × IsGivenSo gives given answered)
        (λ given left s1. Goes (Active (record frame {
          operands = pushed (given_form gives) (value_left gives result given) frame.operands;
          answered = left.0;
        }) ∷ rest) s1)

  -- each call in an expression runs so
  abbrev mutual
    pub CallsRun : Core → Type 0
    CallsRun (At of here node) = CallsOfNodeRun node

    pub CallsOfNodeRun : Node → Type 0
    CallsOfNodeRun (tree.Number kind value) = Unit {0}
    CallsOfNodeRun tree.Null = Unit {0}
    CallsOfNodeRun (tree.Object name) = Unit {0}
    CallsOfNodeRun (tree.Function name) = Unit {0}
    CallsOfNodeRun (tree.Reach by size align pointer) = CallsRun pointer
    CallsOfNodeRun (tree.Member at place) = CallsRun place
    CallsOfNodeRun (tree.Load scalar place) = CallsRun place
    CallsOfNodeRun (tree.Narrow size place) = CallsRun place
    CallsOfNodeRun (tree.AddressOf place) = CallsRun place
    CallsOfNodeRun (tree.Convert kind value) = CallsRun value
    CallsOfNodeRun (tree.Retype pointer) = CallsRun pointer
    CallsOfNodeRun (tree.NotNull pointer) = CallsRun pointer
    CallsOfNodeRun (tree.IsNull pointer) = CallsRun pointer
    CallsOfNodeRun (tree.Discard value) = CallsRun value
    CallsOfNodeRun (tree.Negate kind value) = CallsRun value
    CallsOfNodeRun (tree.Flip kind value) = CallsRun value
    CallsOfNodeRun (tree.Not value) = CallsRun value
    CallsOfNodeRun (tree.Arithmetic operator kind left right) = CallsRun left × CallsRun right
    CallsOfNodeRun (tree.Compare comparison left right) = CallsRun left × CallsRun right
    CallsOfNodeRun (tree.Same equal left right) = CallsRun left × CallsRun right
    CallsOfNodeRun (tree.Order relation left right) = CallsRun left × CallsRun right
    CallsOfNodeRun (tree.Step stride number_first pointer number) = CallsRun pointer × CallsRun number
    CallsOfNodeRun (tree.Difference size left right) = CallsRun left × CallsRun right
    CallsOfNodeRun (tree.AndAlso left right) = CallsRun left × CallsRun right
    CallsOfNodeRun (tree.OrElse left right) = CallsRun left × CallsRun right
    CallsOfNodeRun (tree.Cond test first second) = CallsRun test × CallsRun first × CallsRun second
    CallsOfNodeRun (tree.Comma left right) = CallsRun left × CallsRun right
    CallsOfNodeRun (tree.Assign scalar place value) = CallsRun place × CallsRun value
    CallsOfNodeRun (tree.AssignWhole size place value) = CallsRun place × CallsRun value
    CallsOfNodeRun (tree.Update change place number) = CallsRun place × CallsRun number
    CallsOfNodeRun (tree.Postfix change place) = CallsRun place
    CallsOfNodeRun (tree.Call used gives function operands) =
        CallsRun function × CallsAmongRun operands × CallRuns gives function operands
    CallsOfNodeRun (tree.ValueObject size value) = CallsRun value

    pub CallsAmongRun : Cores → Type 0
    CallsAmongRun NoCore = Unit {0}
    CallsAmongRun (MoreCores first rest) = CallsRun first × CallsAmongRun rest

-- each call in an expression of a function that runs
abbrev pub CallsRunIn : Running → List Through → Call → Core → Type 0
CallsRunIn it table call core = CallsRun it.environment it.code it.most it.rest table call core

-- there it stands, and holds value objects
abbrev pub stands_at : Running → List Held → (answered : Bool) → ℕ → List Value → State → Place
stands_at it objects answered at operands s = standing (holding it.frame objects answered) it.rest at operands s

-- what an expression may name is there, and its value objects have slots of their own
pub record IsAround (names : Names) (low : ℕ) (held : List Held) : Type 0 where
  pub named : InSlots names held
  pub below : AreBelow low held

-- Where the code of an expression stands, the machine does what the expression means, and leaves its value; the value
-- objects that it makes stand on top of those before.
abbrev pub EachExpressionRuns : Type 0
EachExpressionRuns = (it : Running) (program : Program) (table : List Through) (call : Call) (names : Names)
    (low : ℕ) → IsAround names low it.frame.held → (core : Core) → CoreTyped names core → CallsRunIn it table call core
    → (at slot : ℕ) → low ≤ slot → StandAt it.code it.function at (code_at program table at slot core)
    → (operands : List Value) (made : List ℕ) (now : Holding low slot made) (s : State)
    → Reaches it.environment it.code it.most (stands_at it now.objects now.answered at operands s)
    (value program call it.frame.held core made s) (Left (form_of core) low (slot + objects_in core))
    (λ x left s1. stands_at it left.now.objects left.now.answered (at + size_of_code core)
    (pushed (form_of core) x.value operands) s1)
