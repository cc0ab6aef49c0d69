-- Well-typed statements, functions, static objects and units.
use Rattle.std.specs.Prelude.{◌≡◌, ℕ, suc, ◌+◌, ◌<◌, ◌≤◌, Bool, true, false, List, [], ◌∷◌, length, map, Option, Some}
use Rattle.std.specs.Prelude.{None, IsSomeAnd, IfSome, if◌then◌else◌}
use Rattle.std.specs.Str.{bytes_eq}
use Rattle.acc_num.specs.Kinds.{bytes_of}
use Rattle.acc_num.specs.Numbers.{InRange}
use Rattle.acc_num.specs.declared.kind.IntKind.{IntKind}
use Rattle.acc_num.specs.declared.kind.IntKind.TheVariants.{I32}
use Rattle.critical_table.specs.declared.pos.Pos.{Pos}
use Rattle.c_types.specs.CType.{CType, CTypes, Plain, Nil, Cons}
use Rattle.c_types.specs.CType as type
use Rattle.c_core.specs.declared.form.Form.{Form}
use Rattle.c_core.specs.declared.form.Form.TheVariants as form
use Rattle.c_core.specs.declared.form.Scalar.TheVariants as scalar
use Rattle.c_core.specs.declared.form.Content.{Content}
use Rattle.c_core.specs.declared.form.Content.TheVariants as content
use Rattle.c_core.specs.declared.function.Range.{Range}
use Rattle.c_core.specs.declared.statement.Local.{Local}
use Rattle.c_core.specs.declared.statement.Case.{Case}
use Rattle.c_core.specs.declared.static_object.Bounds.{Bounds}
use Rattle.c_core.specs.declared.static_object.Seal.{Seal}
use Rattle.c_core.specs.TreeUnit.{Statement, Stands, Action, Statements, NoStatement, MoreStatements, Parameter}
use Rattle.c_core.specs.TreeUnit.{Definition, StaticValue, StaticNumber, StaticNull, StaticAddress, StaticFunction}
use Rattle.c_core.specs.TreeUnit.{StaticBytes, StaticItem, Static, Program}
use Rattle.c_core.specs.TreeUnit as unit
use Rattle.c_core.specs.Forms.{scalar_form, content_form, given_form, form_of}
use Rattle.c_core.specs.Types.{value_form, IsNumber, IsSize, IsGiven, content_size}
use Rattle.c_core.specs.Named.{Names, NamesFunction, AreDistinct, AreRising, same_place, size_in, LieIn, names_in_block}
use Rattle.c_core.specs.Typed.{CoreTyped}
use Rattle.c_core.specs.Calls.{calls_in_functions}

-- how many functions, static objects, slots and calls there may be at most
abbrev pub most : ℕ
most = 4194304

-- Where a statement stands: what its function gives, below which number its slots lie, and whether a `break` or a
-- `continue` has a statement to leave or to go on with.
pub record Flow : Type 0 where
  pub gives : Option Content
  pub slots : ℕ
  pub breaks : Bool
  pub continues : Bool

abbrev pub in_loop : Flow → Flow
in_loop flow = record flow { breaks = true; continues = true }

abbrev pub in_switch : Flow → Flow
in_switch flow = record flow { breaks = true }

-- The objects of a block have a size, and slots that no object has that is made.
abbrev pub AreFresh : ℕ → List Local → List Local → Type 0
AreFresh slots [] objects = Unit {0}
AreFresh slots (local ∷ rest) objects =
    (local.slot < slots) × IsSize local.size × (size_in local.slot objects ≡ None)
    × AreFresh slots rest (local ∷ objects)

abbrev pub AreBytes : List ℕ → Type 0
AreBytes [] = Unit {0}
AreBytes (byte ∷ rest) = (byte < 256) × AreBytes rest

abbrev pub count_of : Statements → ℕ
count_of NoStatement = 0
count_of (MoreStatements first rest) = suc (count_of rest)

-- each label has a value of the kind, and stands in front of an item or at the end
abbrev pub AreCases : IntKind → ℕ → List Case → Type 0
AreCases kind items [] = Unit {0}
AreCases kind items (label ∷ rest) = InRange kind label.value × (label.at ≤ items) × AreCases kind items rest

abbrev pub AreLabels : Form → Statements → List Case → Option ℕ → Type 0
AreLabels (form.Number kind) items cases default =
    AreCases kind (count_of items) cases × IfSome default (λ at. at ≤ count_of items)
AreLabels other items cases default = ⊥

-- what a `return` with this value hands over is what the function gives
abbrev pub IsReturned : Option Content → Form → Type 0
IsReturned (Some (content.Scalar scalar)) value = value ≡ scalar_form scalar
IsReturned other value = ⊥

abbrev mutual
  pub StatementTyped : Names → Flow → Statement → Type 0
  StatementTyped names flow (Stands pos action) = ActionTyped names flow action

  pub ActionTyped : Names → Flow → Action → Type 0
  ActionTyped names flow (unit.Block locals items) =
      AreFresh flow.slots locals names.objects × StatementsTyped (names_in_block locals names) flow items
  ActionTyped names flow (unit.Zero slot size) = size_in slot names.objects ≡ Some size
  ActionTyped names flow (unit.Initialize slot at content value) =
      IsSize (content_size content) × LieIn names.objects slot at (content_size content)
      × (form_of value ≡ content_form content) × CoreTyped names value
  ActionTyped names flow (unit.InitializeBytes slot at bytes) =
      AreBytes bytes × (0 < length bytes) × LieIn names.objects slot at (length bytes)
  ActionTyped names flow (unit.SealBytes slot at len) = (0 < len) × LieIn names.objects slot at len
  ActionTyped names flow (unit.Evaluate core) = (form_of core ≡ form.Nothing) × CoreTyped names core
  ActionTyped names flow (unit.If test first second) =
      IsNumber (form_of test) × CoreTyped names test × StatementTyped names flow first
      × StatementTyped names flow second
  ActionTyped names flow (unit.While test body) =
      IsNumber (form_of test) × CoreTyped names test × StatementTyped names (in_loop flow) body
  ActionTyped names flow (unit.Do body test) =
      StatementTyped names (in_loop flow) body × IsNumber (form_of test) × CoreTyped names test
  ActionTyped names flow (unit.For test step body) =
      IsNumber (form_of test) × CoreTyped names test × (form_of step ≡ form.Nothing) × CoreTyped names step
      × StatementTyped names (in_loop flow) body
  ActionTyped names flow (unit.Switch value locals items cases default) =
      CoreTyped names value × AreLabels (form_of value) items cases default × AreFresh flow.slots locals names.objects
      × StatementsTyped (names_in_block locals names) (in_switch flow) items
  ActionTyped names flow unit.Break = flow.breaks ≡ true
  ActionTyped names flow unit.Continue = flow.continues ≡ true
  ActionTyped names flow unit.Return = flow.gives ≡ None
  ActionTyped names flow (unit.ReturnValue value) = IsReturned flow.gives (form_of value) × CoreTyped names value
  ActionTyped names flow (unit.ReturnWhole size value) =
      IsSize size × (flow.gives ≡ Some (content.Whole size)) × (form_of value ≡ form.Place) × CoreTyped names value

  pub StatementsTyped : Names → Flow → Statements → Type 0
  StatementsTyped names flow NoStatement = Unit {0}
  StatementsTyped names flow (MoreStatements first rest) =
      StatementTyped names flow first × StatementsTyped names flow rest

-- ---- functions

-- the objects of parameters from a number on
abbrev pub parameter_objects : ℕ → List Parameter → List Local
parameter_objects slot [] = []
parameter_objects slot (parameter ∷ rest) =
    record { slot = slot; size = content_size parameter.content } ∷ parameter_objects (suc slot) rest

-- so many bytes of an object, if any are const
abbrev pub LieWithin : ℕ → List Range → Type 0
LieWithin size [] = Unit {0}
LieWithin size (range ∷ rest) = (0 < range.len) × (range.at + range.len ≤ size) × LieWithin size rest

abbrev pub ParametersTyped : List Parameter → Type 0
ParametersTyped [] = Unit {0}
ParametersTyped (parameter ∷ rest) =
    IsSize (content_size parameter.content) × LieWithin (content_size parameter.content) parameter.seals
    × ParametersTyped rest

-- each parameter holds what a value of its type is
abbrev pub AreTaken : CTypes → List Parameter → Type 0
AreTaken Nil [] = Unit {0}
AreTaken Nil (parameter ∷ rest) = ⊥
AreTaken (Cons type types) [] = ⊥
AreTaken (Cons type types) (parameter ∷ rest) =
    (value_form type ≡ Some (content_form parameter.content)) × AreTaken types rest

-- the type is that of a function with these parameters that gives this (6.9.1p2, p7)
abbrev pub IsDefined : CType → List Parameter → Option Content → Type 0
IsDefined (Plain (type.Function result parameters false) quals) taken gives =
    (value_form result ≡ Some (given_form gives)) × AreTaken parameters taken
IsDefined other taken gives = ⊥

-- A function among functions and static objects with these tokens.
pub record DefinitionTyped (functions statics : List Pos) (function : Definition) : Type 0 where
  pub type : IsDefined function.type function.parameters function.gives
  pub gives : IsGiven function.gives
  pub parameters : ParametersTyped function.parameters
  pub taken : length function.parameters ≤ function.slots
  pub slots : function.slots ≤ most
  pub body : StatementTyped
      (record { functions = functions; statics = statics; objects = parameter_objects 0 function.parameters })
      (record { gives = function.gives; slots = function.slots; breaks = false; continues = false })
      function.body

abbrev pub DefinitionsTyped : List Pos → List Pos → List Definition → Type 0
DefinitionsTyped functions statics [] = Unit {0}
DefinitionsTyped functions statics (first ∷ rest) =
    DefinitionTyped functions statics first × DefinitionsTyped functions statics rest

-- ---- static objects

abbrev pub size_at : Pos → List Static → Option ℕ
size_at token [] = None
size_at token (first ∷ rest) = if same_place first.token token then Some first.size else size_at token rest

-- A byte of an object of this size, or its end, between the bounds that the pointer has there.
abbrev pub IsAddress : ℕ → ℕ → Option Bounds → Type 0
IsAddress size offset None = offset ≤ size
IsAddress size offset (Some bounds) = (bounds.low ≤ offset) × (offset ≤ bounds.high) × (bounds.high ≤ size)

abbrev pub value_size : StaticValue → ℕ
value_size (StaticNumber kind value) = bytes_of kind
value_size (StaticBytes bytes) = length bytes
value_size other = 16

abbrev pub ValueTyped : List Pos → List Static → StaticValue → Type 0
ValueTyped functions statics (StaticNumber kind value) = InRange kind value
ValueTyped functions statics StaticNull = Unit {0}
ValueTyped functions statics (StaticAddress address) =
    IsSomeAnd (size_at address.object statics) (λ size. IsAddress size address.offset address.bounds)
ValueTyped functions statics (StaticFunction name) = NamesFunction functions name
ValueTyped functions statics (StaticBytes bytes) = AreBytes bytes × (0 < length bytes)

abbrev pub ItemsTyped : List Pos → List Static → ℕ → List StaticItem → Type 0
ItemsTyped functions statics size [] = Unit {0}
ItemsTyped functions statics size (item ∷ rest) =
    ValueTyped functions statics item.value × (item.at + value_size item.value ≤ size)
    × ItemsTyped functions statics size rest

abbrev pub SealsTyped : ℕ → List Seal → Type 0
SealsTyped size [] = Unit {0}
SealsTyped size (seal ∷ rest) = (0 < seal.len) × (seal.at + seal.len ≤ size) × SealsTyped size rest

-- A static object among these functions and static objects.
pub record StaticTyped (functions : List Pos) (statics : List Static) (static : Static) : Type 0 where
  pub size : IsSize static.size
  pub items : ItemsTyped functions statics static.size static.items
  pub seals : SealsTyped static.size static.seals

abbrev pub StaticsTyped : List Pos → List Static → List Static → Type 0
StaticsTyped functions statics [] = Unit {0}
StaticsTyped functions statics (first ∷ rest) =
    StaticTyped functions statics first × StaticsTyped functions statics rest

-- ---- the unit

-- the name of the function that a run begins with (5.1.2.2.1)
abbrev pub main_name : List ℕ
main_name = 109 ∷ 97 ∷ 105 ∷ 110 ∷ []

abbrev pub mains : List Definition → List Definition
mains [] = []
mains (first ∷ rest) = if bytes_eq first.name main_name then first ∷ mains rest else mains rest

-- exactly one function is a `main`; it takes nothing and gives an `int`
abbrev pub HasMain : List Definition → Type 0
HasMain (main ∷ []) = (main.parameters ≡ []) × (main.gives ≡ Some (content.Scalar (scalar.Number I32)))
HasMain others = ⊥

abbrev pub tokens_of : List Definition → List Pos
tokens_of functions = map (λ (f : Definition). f.token) functions

abbrev pub static_tokens : List Static → List Pos
static_tokens statics = map (λ (s : Static). s.token) statics

-- A unit whose functions are in the order of their definitions, and its static objects in that of their tokens.
pub record IsWellTyped (program : Program) : Type 0 where
  pub functions : DefinitionsTyped (tokens_of program.functions) (static_tokens program.statics) program.functions
  pub statics : StaticsTyped (tokens_of program.functions) program.statics program.statics
  pub main : HasMain (mains program.functions)
  pub distinct : AreDistinct (tokens_of program.functions)
  pub rising : AreRising (static_tokens program.statics)
  pub few_functions : length program.functions ≤ most
  pub few_statics : length program.statics ≤ most
  pub few_calls : calls_in_functions program.functions ≤ most
