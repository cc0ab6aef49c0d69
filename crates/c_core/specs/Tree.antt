-- Core expressions as contracts see them: types are trees, and everything else is plain numbers.
use Rattle.std.specs.Prelude.{ℕ, ℤ, Bool, List, [], ◌∷◌, Option}
use Rattle.acc_num.specs.declared.kind.IntKind.{IntKind}
use Rattle.critical_table.specs.declared.pos.Pos.{Pos}
use Rattle.c_types.specs.CType.{CType}
use Rattle.c_core.specs.declared.form.Scalar.{Scalar}
use Rattle.c_core.specs.declared.form.Content.{Content}
use Rattle.c_core.specs.declared.named.ObjectName.{ObjectName}
use Rattle.c_core.specs.declared.named.FunctionName.{FunctionName}
use Rattle.c_core.specs.declared.operator.Operator.{Operator}
use Rattle.c_core.specs.declared.operator.Comparison.{Comparison}
use Rattle.c_core.specs.declared.operator.Relation.{Relation}
use Rattle.c_core.specs.declared.operator.By.{By}
use Rattle.c_core.specs.declared.operator.Stride.{Stride}
use Rattle.c_core.specs.declared.operator.Change.{Change}

mutual
  -- an expression with its type and its place
  pub data Core : Type 0 where
    At : (of : CType) (pos : Pos) (node : Node) → Core

  pub data Node : Type 0 where
    Number : (kind : IntKind) (value : ℤ) → Node
    Null : Node
    Object : (name : ObjectName) → Node
    Function : (name : FunctionName) → Node
    Reach : (by : By) (size align : ℕ) (pointer : Core) → Node
    Member : (at : ℕ) (place : Core) → Node
    Load : (scalar : Scalar) (place : Core) → Node
    Narrow : (size : ℕ) (place : Core) → Node
    AddressOf : (place : Core) → Node
    Convert : (kind : IntKind) (value : Core) → Node
    Retype : (pointer : Core) → Node
    NotNull : (pointer : Core) → Node
    IsNull : (pointer : Core) → Node
    Discard : (value : Core) → Node
    Negate : (kind : IntKind) (value : Core) → Node
    Flip : (kind : IntKind) (value : Core) → Node
    Not : (value : Core) → Node
    Arithmetic : (operator : Operator) (kind : IntKind) (left right : Core) → Node
    Compare : (comparison : Comparison) (left right : Core) → Node
    Same : (equal : Bool) (left right : Core) → Node
    Order : (relation : Relation) (left right : Core) → Node
    -- whichever of both stands first, the pointer and the number
    Step : (stride : Stride) (number_first : Bool) (pointer number : Core) → Node
    Difference : (size : ℕ) (left right : Core) → Node
    AndAlso : (left right : Core) → Node
    OrElse : (left right : Core) → Node
    Cond : (test first second : Core) → Node
    Comma : (left right : Core) → Node
    Assign : (scalar : Scalar) (place value : Core) → Node
    AssignWhole : (size : ℕ) (place value : Core) → Node
    Update : (change : Change) (place number : Core) → Node
    Postfix : (change : Change) (place : Core) → Node
    Call : (used : Bool) (gives : Option Content) (function : Core) (arguments : Cores) → Node
    ValueObject : (size : ℕ) (value : Core) → Node

  pub data Cores : Type 0 where
    NoCore : Cores
    MoreCores : (first : Core) (rest : Cores) → Cores

abbrev pub type_in : Core → CType
type_in (At of pos node) = of

abbrev pub pos_in : Core → Pos
pos_in (At of pos node) = pos

abbrev pub node_in : Core → Node
node_in (At of pos node) = node

abbrev pub cores : List Core → Cores
cores [] = NoCore
cores (first ∷ rest) = MoreCores first (cores rest)
