-- Trees without where their parts lie in memory: declarators, specifiers, type names and expressions, which hold each
-- other. A list of parts is a type of its own, and no node.
use Rattle.std.specs.Prelude.{ℕ, ℤ, Bool, List, Option}
use Rattle.critical_table.specs.declared.pos.Pos.{Pos}
use Rattle.c_syntax.specs.declared.expression.Constant.{Constant}
use Rattle.c_syntax.specs.declared.operator.Access.{Access}
use Rattle.c_syntax.specs.declared.operator.Infix.{Infix}
use Rattle.c_syntax.specs.declared.operator.Measure.{Measure}
use Rattle.c_syntax.specs.declared.operator.Postfix.{Postfix}
use Rattle.c_syntax.specs.declared.operator.Prefix.{Prefix}
use Rattle.c_syntax.specs.declared.specifier.BasicWord.{BasicWord}
use Rattle.c_syntax.specs.declared.specifier.CompoundWord.{CompoundWord}
use Rattle.c_syntax.specs.declared.specifier.Qualifier.{Qualifier}
use Rattle.c_syntax.specs.declared.specifier.Storage.{Storage}
use Rattle.c_syntax.specs.declared.specifier.Tag.{Tag}

-- adjacent string literals: the units of each, and whether they are wide (6.4.5p5)
pub record Literals : Type 0 where
  pub pieces : List (List ℤ)
  pub wide : Bool

mutual
  -- 6.5
  pub data Expr : Type 0 where
    Const : (pos : Pos) (constant : Constant) → Expr
    Id : (pos : Pos) (name : List ℕ) → Expr
    Text : (pos : Pos) (text : Literals) → Expr
    Paren : (inner : Expr) → Expr
    Index : (pos : Pos) (array index : Expr) → Expr
    Call : (pos : Pos) (function : Expr) (arguments : Exprs) → Expr
    Member : (pos : Pos) (access : Access) (whole : Expr) (name : List ℕ) → Expr
    PostfixOp : (pos : Pos) (operator : Postfix) (operand : Expr) → Expr
    PrefixOp : (pos : Pos) (operator : Prefix) (operand : Expr) → Expr
    MeasureOp : (pos : Pos) (operator : Measure) (type : TypeName) → Expr
    Cast : (pos : Pos) (type : TypeName) (operand : Expr) → Expr
    InfixOp : (pos : Pos) (operator : Infix) (left right : Expr) → Expr
    Cond : (pos : Pos) (test then else : Expr) → Expr

  pub data Exprs : Type 0 where
    NoExpr : Exprs
    MoreExprs : (first : Expr) (rest : Exprs) → Exprs

  -- an expression that may be left out
  pub data Maybe : Type 0 where
    Without : Maybe
    With : (expr : Expr) → Maybe

  -- 6.7.7
  pub data TypeName : Type 0 where
    NamedType : (specifiers : Specifiers) (declarator : Declarator) → TypeName

  -- 6.7.1 to 6.7.4, with the place of the first token
  pub data Specifier : Type 0 where
    StorageClass : (pos : Pos) (word : Storage) → Specifier
    TypeQualifier : (pos : Pos) (word : Qualifier) → Specifier
    Inline : (pos : Pos) → Specifier
    BasicType : (pos : Pos) (word : BasicWord) → Specifier
    CompoundTag : (pos : Pos) (word : CompoundWord) (tag : Tag) → Specifier
    Compound : (pos : Pos) (word : CompoundWord) (tag : Option Tag) (members : Members) → Specifier
    EnumTag : (pos : Pos) (tag : Tag) → Specifier
    Enum : (pos : Pos) (tag : Option Tag) (enumerators : Enumerators) (comma : Bool) → Specifier
    TypedefName : (pos : Pos) (name : List ℕ) → Specifier

  pub data Specifiers : Type 0 where
    NoSpecifier : Specifiers
    MoreSpecifiers : (first : Specifier) (rest : Specifiers) → Specifiers

  -- 6.7.2.1
  pub data MemberDeclaration : Type 0 where
    Declares : (specifiers : Specifiers) (declarators : Declarators) → MemberDeclaration

  pub data Members : Type 0 where
    NoMember : Members
    MoreMembers : (first : MemberDeclaration) (rest : Members) → Members

  pub data Declarators : Type 0 where
    NoDeclarator : Declarators
    MoreDeclarators : (first : Declarator) (rest : Declarators) → Declarators

  -- 6.7.2.2
  pub data Enumerator : Type 0 where
    Enumerates : (pos : Pos) (name : List ℕ) (value : Maybe) → Enumerator

  pub data Enumerators : Type 0 where
    NoEnumerator : Enumerators
    MoreEnumerators : (first : Enumerator) (rest : Enumerators) → Enumerators

  -- 6.7.6; Omitted stands where an abstract declarator omits the identifier, and is no node
  pub data Declarator : Type 0 where
    Omitted : Declarator
    Name : (pos : Pos) (name : List ℕ) → Declarator
    DParen : (inner : Declarator) → Declarator
    PointerTo : (qualifiers : List Qualifier) (inner : Declarator) → Declarator
    ArrayOf : (inner : Declarator) (length : Maybe) → Declarator
    FunctionOf : (inner : Declarator) (parameters : Parameters) (variadic : Bool) → Declarator

  -- 6.7.6.3
  pub data Parameter : Type 0 where
    Param : (specifiers : Specifiers) (declarator : Declarator) → Parameter

  pub data Parameters : Type 0 where
    NoParameter : Parameters
    MoreParameters : (first : Parameter) (rest : Parameters) → Parameters
