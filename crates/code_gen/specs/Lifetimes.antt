-- Automatic objects are a stack (6.2.4p2, p5, p8): those that a part of a unit makes die before those that lived when
-- it began. So each lives until its turn comes.
use Rattle.std.specs.Prelude.{◌≡◌, ℕ, ◌+◌, ◌≤◌, Bool, true, false, List, [], ◌∷◌, ◌++◌, length, map, reverse, Option}
use Rattle.std.specs.Prelude.{Some, None}
use Rattle.std.specs.List.{Contains}
use Rattle.critical_table.specs.declared.pos.Pos.{Pos}
use Rattle.object_store.specs.declared.class.Class.{Class}
use Rattle.object_store.specs.declared.class.Class.TheVariants.{Automatic, Static as StaticClass}
use Rattle.object_store.specs.declared.mark.Mark.TheVariants.{Const}
use Rattle.object_store.specs.declared.pointer.Pointer.{Pointer}
use Rattle.object_store.specs.Object.{Object, number_of}
use Rattle.object_store.specs.Storage.{is_live}
use Rattle.object_store.specs.Steps.{next_number}
use Rattle.c_types.specs.CType.{CType}
use Rattle.lib_defs.specs.declared.row.Row.{Row}
use Rattle.lib_defs.specs.declared.value.Arg.{Arg}
use Rattle.lib_defs.specs.declared.value.Value.{Value}
use Rattle.lib_defs.specs.Laws.{DoneFits, IsWorld, KeepsLaws}
use Rattle.lib_defs.specs.Reply.{Change}
use Rattle.lib_defs.specs.Library.{Library}
use Rattle.run_defs.specs.State.{State, static_made, sealed, died, all_patched, has_range}
use Rattle.run_defs.specs.declared.seal.Seal.{Seal}
use Rattle.run_defs.specs.Served.{row_made}
use Rattle.run_defs.specs.Evaluation.{Evaluation, Gives, Stops}
use Rattle.c_core.specs.declared.function.Range.{Range}
use Rattle.c_core.specs.declared.statement.Local.{Local}
use Rattle.c_core.specs.Named.{Names, names_in_block, size_in, LieIn}
use Rattle.c_core.specs.Tree.{Core}
use Rattle.c_core.specs.TreeUnit.{Statement, Statements, Parameter, Definition, Static, Program}
use Rattle.c_core.specs.Typed.{CoreTyped}
use Rattle.c_core.specs.TypedUnit.{IsWellTyped, Flow, AreFresh, StatementTyped, StatementsTyped, DefinitionTyped}
use Rattle.c_core.specs.TypedUnit.{StaticTyped, parameter_objects}
use Rattle.vm_code.specs.Slots.{Held, held_in, numbers}
use Rattle.code_gen.specs.Designation.{place_in}
use Rattle.code_gen.specs.Evaluating.{Yield}
use Rattle.code_gen.specs.Expressions.{Call, value}
use Rattle.code_gen.specs.Blocks.{locals_made, parameters_made, ranges_sealed, parameters_sealed}
use Rattle.code_gen.specs.Statements.{statement, items_from}
use Rattle.code_gen.specs.Calls.{call, enter_below}
use Rattle.code_gen.specs.Meaning.{static_object}

-- ---- the automatic objects that live

pub record Living : Type 0 where
  pub number : ℕ
  pub size : ℕ

-- the size of an object that lives and is automatic
abbrev pub automatic_size : Class → ℕ → Option ℕ
automatic_size Automatic size = Some size
automatic_size other size = None

abbrev pub size_if : (live : Bool) → Class → ℕ → Option ℕ
size_if true class size = automatic_size class size
size_if false class size = None

abbrev pub living_size : Object → Option ℕ
living_size o = size_if o.live o.class (length o.cells)

-- those with a size, the k-th object first; the last made stands first
abbrev pub living_from : ℕ → List (Option ℕ) → List Living
living_from k [] = []
living_from k (None ∷ rest) = living_from (k + 1) rest
living_from k (Some size ∷ rest) =
    living_from (k + 1) rest ++ record { number = number_of Automatic k; size = size } ∷ []

abbrev pub living : State → List Living
living s = living_from 1 (map living_size s.world.store.objects)

abbrev pub living_numbers : List Living → List ℕ
living_numbers objects = map (λ (x : Living). x.number) objects

-- the object in a slot
abbrev pub as_living : Held → Living
as_living h = record { number = h.number; size = h.size }

-- ---- what is said of a part of a unit

-- of the value and the state that an evaluation gives
abbrev pub OnGives : {A : Type 0} → (A → State → Type 0) → Evaluation A → Type 0
OnGives P (Gives value s) = P value s
OnGives P (Stops outcome s) = Unit {0}

-- From one state to another the automatic objects that live stay the same.
pub record Rests (s s1 : State) : Type 0 where
  pub world : IsWorld s1.world
  pub same : living s1 ≡ living s

-- Value objects are made on top of those that live; the numbers of the full expression's are these before and after.
pub record Grows (made made1 : List ℕ) (s s1 : State) : Type 0 where
  pub new : List Living
  pub world : IsWorld s1.world
  pub on_top : living s1 ≡ new ++ living s
  pub numbers : made1 ≡ living_numbers new ++ made

-- The objects that are made where a statement stands are held, with their sizes, and live.
abbrev pub IsHeld : List Held → State → (slot size : ℕ) → Type 0
IsHeld held s slot size =
    (h : Held) × (held_in slot held ≡ Some h) × (h.size ≡ size) × Contains (living s) (as_living h)

abbrev pub Holds : List Local → List Held → State → Type 0
Holds objects held s = (slot size : ℕ) → size_in slot objects ≡ Some size → IsHeld held s slot size

-- each of these lives when its turn to die comes
abbrev pub AllLive : List ℕ → State → Type 0
AllLive [] s = Unit {0}
AllLive (number ∷ rest) s = (is_live s.world.store number ≡ true) × AllLive rest (died number s)

-- the marks of parameters lie in objects that live, each when its turn comes
abbrev pub RangesLie : ℕ → List Range → State → Type 0
RangesLie number [] s = Unit {0}
RangesLie number (range ∷ rest) s = (has_range s.world.store number range.at range.len ≡ true)
    × RangesLie number rest (sealed number (record { at = range.at; len = range.len; mark = Const }) s)

abbrev pub MarksLie : List Parameter → List Held → State → Type 0
MarksLie (parameter ∷ rest) (h ∷ held) s =
    RangesLie h.number parameter.seals s × MarksLie rest held (ranges_sealed h.number parameter.seals s)
MarksLie _ _ s = Unit {0}

-- the marks of a static object lie in it; the object lives, and each finds its range when its turn comes
abbrev pub SealsWithin : ℕ → List Seal → Type 0
SealsWithin size [] = Unit {0}
SealsWithin size (seal ∷ rest) = (seal.at + seal.len ≤ size) × SealsWithin size rest

abbrev pub SealsLie : ℕ → List Seal → State → Type 0
SealsLie number [] s = Unit {0}
SealsLie number (seal ∷ rest) s =
    (has_range s.world.store number seal.at seal.len ≡ true) × SealsLie number rest (sealed number seal s)

-- an object that a row ends, if it ends one, lives
abbrev pub IfLives : Option ℕ → State → Type 0
IfLives None s = Unit {0}
IfLives (Some number) s = is_live s.world.store number ≡ true

-- ---- the laws

module _ (library : Library) (program : Program) (n : ℕ) where
  -- what a call does, where so many ticks may be left
  abbrev pub its_call : Call
  its_call = call library program (enter_below n library program)

  -- Each part of the unit leaves the automatic objects that lived as they were; value objects of a full expression are
  -- made on top of them.
  pub record ObjectsNest : Type 0 where
    pub call : (type : CType) (p : Pointer) (args : List Arg) (result : Pointer) (here : Pos) (s : State)
        → IsWorld s.world → OnGives (λ v s1. Rests s s1) (its_call type p args result here s)
    pub expression : (names : Names) (core : Core) → CoreTyped names core → (held : List Held) (made : List ℕ)
        (s : State) → IsWorld s.world
        → OnGives (λ (x : Yield) s1. Grows made x.made s s1) (value program its_call held core made s)
    pub statement : (result : Pointer) (names : Names) (flow : Flow) (st : Statement) → StatementTyped names flow st
        → (held : List Held) (s : State) → IsWorld s.world
        → OnGives (λ f s1. Rests s s1) (statement program its_call result st held s)

  -- So the test of a death never matters: at the end of a full expression, whatever is done with its value; of a block;
  -- and of a function. Nor does that of a parameter's mark.
  pub record TestsNeverMatter : Type 0 where
    pub full_expression : (names : Names) (core : Core) → CoreTyped names core → (held : List Held) (s : State)
        → IsWorld s.world
        → OnGives (λ (x : Yield) s1. (s2 : State) → Rests s1 s2 → AllLive x.made s2)
        (value program its_call held core [] s)
    pub block : (result : Pointer) (names : Names) (flow : Flow) (locals : List Local) (items : Statements)
        → AreFresh flow.slots locals names.objects → StatementsTyped (names_in_block locals names) flow items
        → (at : ℕ) (held : List Held) (s : State) → IsWorld s.world → OnGives (λ (made : List Held) s1.
        OnGives (λ f s2. AllLive (numbers made) s2) (items_from program its_call result items at (made ++ held) s1))
        (locals_made locals [] s)
    pub function : (functions statics : List Pos) (f : Definition) → DefinitionTyped functions statics f
        → (args : List Value) (result : Pointer) (here : Pos) (s : State) → IsWorld s.world
        → OnGives (λ (held : List Held) s1. MarksLie f.parameters (reverse held) s1
        × OnGives (λ flow s2. AllLive (numbers held) s2)
        (statement program its_call result f.body held (parameters_sealed f.parameters (reverse held) s1)))
        (parameters_made f.parameters 0 args [] here s)

-- Where a statement runs, each object that it may name is held and lives: at the start of a function and of a block,
-- and as long as these run. So the mark of an object of a block lies in an object that lives.
pub record ObjectsAreHeld : Type 0 where
  pub function : (functions statics : List Pos) (f : Definition) → DefinitionTyped functions statics f
      → (args : List Value) (here : Pos) (s : State) → IsWorld s.world
      → OnGives (λ (held : List Held) s1. Holds (parameter_objects 0 f.parameters) held s1)
      (parameters_made f.parameters 0 args [] here s)
  pub block : (slots : ℕ) (names : Names) (locals : List Local) → AreFresh slots locals names.objects
      → (held : List Held) (s : State) → IsWorld s.world → Holds names.objects held s
      → OnGives (λ (made : List Held) s1. Holds (names_in_block locals names).objects (made ++ held) s1)
      (locals_made locals [] s)
  pub rests : (objects : List Local) (held : List Held) (s s1 : State) (top : List Living)
      → living s1 ≡ top ++ living s → Holds objects held s → Holds objects held s1
  pub mark : (objects : List Local) (held : List Held) (s : State) → Holds objects held s → (slot at len : ℕ)
      → LieIn objects slot at len → has_range s.world.store (place_in slot held).object at len ≡ true

-- The same at the start, of static objects with their marks, and of rows, which end an object once theirs is made and
-- bytes are stored.
pub record OthersLive : Type 0 where
  pub static : (program : Program) (functions : List Pos) (statics : List Static) (static : Static)
      → StaticTyped functions statics static → (s : State)
      → SealsLie (next_number s.world.store StaticClass) (static_object program static).seals
      (static_made (static_object program static).bytes s)
  pub release : (row : Row) (args : List Arg) (s : State) (change : Change) (set : Option Pointer) (answer : Value)
      → DoneFits row args s.world change set answer → IsWorld s.world
      → OnGives (λ u s1. IfLives change.released (all_patched change.stores s1)) (row_made change.made s)

pub record Lifetimes (library : Library) (program : Program) : Type 0 where
  pub nest : (n : ℕ) → ObjectsNest library program n
  pub tests : (n : ℕ) → TestsNeverMatter library program n

abbrev pub AutomaticObjectsAreAStack : Type 0
AutomaticObjectsAreAStack =
    ObjectsAreHeld × OthersLive × ((library : Library) → KeepsLaws library → (program : Program) → IsWellTyped program
    → Lifetimes library program)
