-- Trees without where their parts lie in memory: initializers, declarations, statements and the unit.
use Rattle.std.specs.Prelude.{ℕ, Bool, List, Option}
use Rattle.critical_table.specs.declared.pos.Pos.{Pos}
use Rattle.c_syntax.specs.Tree.{Literals, Expr, Specifiers, Declarator}

mutual
  -- 6.7.9
  pub data Initializer : Type 0 where
    Single : (expr : Expr) → Initializer
    Braces : (pos : Pos) (items : Items) (comma : Bool) → Initializer

  -- with the designator's place
  pub data Item : Type 0 where
    Plain : (initializer : Initializer) → Item
    ForMember : (pos : Pos) (name : List ℕ) (initializer : Initializer) → Item
    ForIndex : (pos : Pos) (index : Expr) (initializer : Initializer) → Item

  pub data Items : Type 0 where
    NoItem : Items
    MoreItems : (first : Item) (rest : Items) → Items

-- a declarator and what follows its `=` (6.7)
pub record InitDeclarator : Type 0 where
  pub declarator : Declarator
  pub initializer : Option Initializer

-- 6.7
pub record Declaration : Type 0 where
  pub specifiers : Specifiers
  pub declarators : List InitDeclarator

-- 6.7.10
pub record Assert : Type 0 where
  pub pos : Pos
  pub condition : Expr
  pub message : Literals

-- what stands before the first semicolon of a `for` (6.8.5.3); a declaration has that semicolon
pub data ForInit : Type 0 where
  WithDeclaration : (declaration : Declaration) → ForInit
  WithExpression : (expr : Option Expr) → ForInit

mutual
  -- 6.8
  pub data Statement : Type 0 where
    Block : (items : BlockItems) → Statement
    ExprStmt : (expr : Option Expr) → Statement
    If : (pos : Pos) (test : Expr) (then : Statement) → Statement
    IfElse : (pos : Pos) (test : Expr) (then else : Statement) → Statement
    Switch : (pos : Pos) (test : Expr) (items : SwitchItems) → Statement
    While : (pos : Pos) (test : Expr) (body : Statement) → Statement
    Do : (pos : Pos) (body : Statement) (test : Expr) → Statement
    For : (pos : Pos) (init : ForInit) (test step : Option Expr) (body : Statement) → Statement
    Break : (pos : Pos) → Statement
    Continue : (pos : Pos) → Statement
    Return : (pos : Pos) (value : Option Expr) → Statement

  -- 6.8.2
  pub data BlockItem : Type 0 where
    Declared : (declaration : Declaration) → BlockItem
    Asserted : (assert : Assert) → BlockItem
    Executes : (statement : Statement) → BlockItem

  pub data BlockItems : Type 0 where
    NoBlockItem : BlockItems
    MoreBlockItems : (first : BlockItem) (rest : BlockItems) → BlockItems

  -- 6.8.1
  pub data SwitchItem : Type 0 where
    Case : (pos : Pos) (value : Expr) → SwitchItem
    Default : (pos : Pos) → SwitchItem
    InBlock : (item : BlockItem) → SwitchItem

  pub data SwitchItems : Type 0 where
    NoSwitchItem : SwitchItems
    MoreSwitchItems : (first : SwitchItem) (rest : SwitchItems) → SwitchItems

-- 6.9.1
pub record Function : Type 0 where
  pub specifiers : Specifiers
  pub declarator : Declarator
  pub body : BlockItems

-- 6.9
pub data External : Type 0 where
  Defines : (function : Function) → External
  Declaring : (declaration : Declaration) → External
  Asserting : (assert : Assert) → External

pub record Tree : Type 0 where
  pub externals : List External
  pub end : Pos
