-- The machine's run of the code of a statement is what the meaning of the statement gives, where each call in it runs
-- as it is meant.
use Rattle.std.specs.Prelude.{◌≡◌, ℕ, ◌+◌, ◌≤◌, Bool, List, [], ◌∷◌, ◌++◌, length, map, unwrap_or, Some}
use Rattle.std.specs.List.{slice_get}
use Rattle.lib_defs.specs.declared.value.Value.TheVariants.{Nothing}
use Rattle.run_defs.specs.State.{State}
use Rattle.run_defs.specs.Functions.{Environment}
use Rattle.c_core.specs.Forms.{given_form}
use Rattle.c_core.specs.declared.statement.Local.{Local}
use Rattle.c_core.specs.Named.{Names}
use Rattle.c_core.specs.Tree.{Core}
use Rattle.c_core.specs.TreeUnit.{Statement, Stands, Action, Statements, NoStatement, MoreStatements, Program}
use Rattle.c_core.specs.TreeUnit as unit
use Rattle.c_core.specs.Types.{IsSize}
use Rattle.c_core.specs.TypedUnit.{Flow as FlowTyped, StatementTyped}
use Rattle.vm_code.specs.Calling.{leaves}
use Rattle.vm_code.specs.Contents.{Contents}
use Rattle.vm_code.specs.Frames.{Frame, Place}
use Rattle.vm_code.specs.Slots.{Held, numbers, all_died}
use Rattle.code_gen.specs.CalledTypes.{Through}
use Rattle.code_gen.specs.Expressions.{Call}
use Rattle.code_gen.specs.Flows.{Flow, Next, Broke, Continued, Returned}
use Rattle.code_gen.specs.RunLaw.{CallsRun, IsAround, Reaches, Running, StandAt, standing, stands_at}
use Rattle.code_gen.specs.StatementCode.{Around, statement_size, statement_code, texts_in}
use Rattle.code_gen.specs.Statements.{statement}

-- ---- calls in statements

module _ (e : Environment) (code : Contents) (most : ℕ) (rest : List Frame) (table : List Through) (call : Call) where
  abbrev Calls : Core → Type 0
  Calls core = CallsRun e code most rest table call core

  -- each call in a statement runs as it is meant
  abbrev mutual
    pub StatementCallsRun : Statement → Type 0
    StatementCallsRun (Stands here action) = ActionCallsRun action

    pub ActionCallsRun : Action → Type 0
    ActionCallsRun (unit.Block locals items) = ItemsCallsRun items
    ActionCallsRun (unit.Zero slot size) = Unit {0}
    ActionCallsRun (unit.Initialize slot at content value) = Calls value
    ActionCallsRun (unit.InitializeBytes slot at bytes) = Unit {0}
    ActionCallsRun (unit.SealBytes slot at len) = Unit {0}
    ActionCallsRun (unit.Evaluate core) = Calls core
    ActionCallsRun (unit.If test first second) =
        Calls test × StatementCallsRun first × StatementCallsRun second
    ActionCallsRun (unit.While test body) = Calls test × StatementCallsRun body
    ActionCallsRun (unit.Do body test) = StatementCallsRun body × Calls test
    ActionCallsRun (unit.For test step body) = Calls test × Calls step × StatementCallsRun body
    ActionCallsRun (unit.Switch value locals items cases default) = Calls value × ItemsCallsRun items
    ActionCallsRun unit.Break = Unit {0}
    ActionCallsRun unit.Continue = Unit {0}
    ActionCallsRun unit.Return = Unit {0}
    ActionCallsRun (unit.ReturnValue value) = Calls value
    ActionCallsRun (unit.ReturnWhole size value) = Calls value

    pub ItemsCallsRun : Statements → Type 0
    ItemsCallsRun NoStatement = Unit {0}
    ItemsCallsRun (MoreStatements first rest) = StatementCallsRun first × ItemsCallsRun rest

-- each call in a statement, in one action, or in the items of a block, of a function that runs
abbrev pub StatementCallsRunIn : Running → List Through → Call → Statement → Type 0
StatementCallsRunIn it table call st = StatementCallsRun it.environment it.code it.most it.rest table call st

abbrev pub ActionCallsRunIn : Running → List Through → Call → Action → Type 0
ActionCallsRunIn it table call action = ActionCallsRun it.environment it.code it.most it.rest table call action

abbrev pub ItemsCallsRunIn : Running → List Through → Call → Statements → Type 0
ItemsCallsRunIn it table call items = ItemsCallsRun it.environment it.code it.most it.rest table call items

-- ---- where a statement leads

-- The objects in these slots, which a jump leaves, are held on top of others.
pub record OnTop (slots : List ℕ) (held : List Held) : Type 0 where
  pub left : List Held
  pub others : List Held
  pub both : held ≡ left ++ others
  pub slots_are : map (λ (h : Held). h.slot) left ≡ slots

-- each is the size of an object
abbrev pub AreSizes : List Local → Type 0
AreSizes [] = Unit {0}
AreSizes (local ∷ rest) = IsSize local.size × AreSizes rest

-- A function gives what its code says; objects that a statement may name have sizes and are held, and so are those that
-- its jumps leave.
pub record Inside (it : Running) (names : Names) (flow : FlowTyped) (around : Around) : Type 0 where
  pub form_is : it.function.form ≡ given_form flow.gives
  pub above : flow.slots ≤ around.values
  pub named : IsAround names around.values it.frame.held
  pub sizes : AreSizes names.objects
  pub breaks : OnTop around.left it.frame.held
  pub continues : OnTop around.left_again it.frame.held

-- A jump lets the objects that it leaves die first: those of the blocks that the meaning still has to leave there.
abbrev pub jumped : {slots : List ℕ} {held : List Held} → Running → OnTop slots held → ℕ → (answered : Bool) → State
    → Place
jumped it objects to answered s = standing (record it.frame { held = objects.others; answered = answered }) it.rest to
    [] (all_died (numbers objects.left) s)

-- to the next statement, out of the loop or switch, to the end of the body of the loop, or to the caller
abbrev pub leads : {names : Names} {flow : FlowTyped} {around : Around} (it : Running) → Inside it names flow around
    → (next : ℕ) → Flow → (answered : Bool) → State → Place
leads it inside next Next answered s = stands_at it [] answered next [] s
leads {around = around} it inside next Broke answered s = jumped it inside.breaks around.behind answered s
leads {around = around} it inside next Continued answered s = jumped it inside.continues around.again answered s
leads it inside next (Returned value) answered s =
    leaves it.environment it.code it.function.form it.frame (unwrap_or value Nothing) it.rest s

-- these are the texts of the code from a number on
abbrev pub TextsStandAt : Contents → ℕ → List (List ℕ) → Type 0
TextsStandAt code text [] = Unit {0}
TextsStandAt code text (bytes ∷ rest) =
    (slice_get code.texts text ≡ Some bytes) × TextsStandAt code (text + 1) rest

-- Where the code of a statement stands, with the literals that initialize its arrays, the machine does what the
-- statement means, and goes on where the program does.
abbrev pub EachStatementRuns : Type 0
EachStatementRuns = (it : Running) (program : Program) (table : List Through) (call : Call) (names : Names)
    (flow : FlowTyped) (around : Around) (inside : Inside it names flow around) (st : Statement)
    → StatementTyped names flow st → StatementCallsRunIn it table call st → (at text : ℕ)
    → StandAt it.code it.function at (statement_code program table at text around st)
    → TextsStandAt it.code text (texts_in st) → (answered : Bool) (s : State)
    → Reaches it.environment it.code it.most (stands_at it [] answered at [] s)
    (statement program call it.frame.result st it.frame.held s) (λ f. Bool)
    (leads it inside (at + statement_size (length around.left) (length around.left_again) st))
