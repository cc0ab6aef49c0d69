-- Core statements, functions, static objects and the unit as contracts see them.
use Rattle.std.specs.Prelude.{ℕ, ℤ, List, [], ◌∷◌, Option}
use Rattle.acc_num.specs.declared.kind.IntKind.{IntKind}
use Rattle.critical_table.specs.declared.pos.Pos.{Pos}
use Rattle.c_types.specs.CType.{CType}
use Rattle.c_types.specs.Types.{Types}
use Rattle.c_core.specs.declared.form.Content.{Content}
use Rattle.c_core.specs.declared.named.FunctionName.{FunctionName}
use Rattle.c_core.specs.declared.statement.Local.{Local}
use Rattle.c_core.specs.declared.statement.Case.{Case}
use Rattle.c_core.specs.declared.function.Range.{Range}
use Rattle.c_core.specs.declared.static_object.Seal.{Seal}
use Rattle.c_core.specs.declared.static_object.Address.{Address}
use Rattle.c_core.specs.Tree.{Core}

mutual
  -- a statement with its place
  pub data Statement : Type 0 where
    Stands : (pos : Pos) (action : Action) → Statement

  -- what a statement does
  pub data Action : Type 0 where
    Block : (locals : List Local) (items : Statements) → Action
    Zero : (slot size : ℕ) → Action
    Initialize : (slot at : ℕ) (content : Content) (value : Core) → Action
    InitializeBytes : (slot at : ℕ) (bytes : List ℕ) → Action
    SealBytes : (slot at len : ℕ) → Action
    Evaluate : (core : Core) → Action
    If : (test : Core) (first second : Statement) → Action
    While : (test : Core) (body : Statement) → Action
    Do : (body : Statement) (test : Core) → Action
    For : (test step : Core) (body : Statement) → Action
    Switch : (value : Core) (locals : List Local) (items : Statements) (cases : List Case) (default : Option ℕ) → Action
    Break : Action
    Continue : Action
    Return : Action
    ReturnValue : (value : Core) → Action
    ReturnWhole : (size : ℕ) (value : Core) → Action

  pub data Statements : Type 0 where
    NoStatement : Statements
    MoreStatements : (first : Statement) (rest : Statements) → Statements

abbrev pub statements : List Statement → Statements
statements [] = NoStatement
statements (first ∷ rest) = MoreStatements first (statements rest)

-- a parameter: what its object holds, and which bytes of it are const
pub record Parameter : Type 0 where
  pub content : Content
  pub seals : List Range

-- a function definition (6.9.1)
pub record Definition : Type 0 where
  pub token : Pos
  pub name : List ℕ
  pub type : CType
  pub parameters : List Parameter
  pub gives : Option Content
  pub slots : ℕ
  pub body : Statement

-- what an item of a static object's initializer stores
pub data StaticValue : Type 0 where
  StaticNumber : (kind : IntKind) (value : ℤ) → StaticValue
  StaticNull : StaticValue
  StaticAddress : (address : Address) → StaticValue
  StaticFunction : (name : FunctionName) → StaticValue
  StaticBytes : (bytes : List ℕ) → StaticValue

pub record StaticItem : Type 0 where
  pub at : ℕ
  pub value : StaticValue

-- a static object or a string literal
pub record Static : Type 0 where
  pub token : Pos
  pub size : ℕ
  pub items : List StaticItem
  pub seals : List Seal

-- the functions in the order of their definitions, the static objects in the order of their tokens
pub record Program : Type 0 where
  pub types : Types
  pub functions : List Definition
  pub statics : List Static
