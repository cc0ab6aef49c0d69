-- The literals of a tree: each string literal is one of the static objects (6.4.5p6), and each character constant has
-- the value of an `int` (6.4.4.4p10).
use Rattle.std.specs.Prelude.{List, IsSome}
use Rattle.acc_num.specs.Numbers.{InRange}
use Rattle.acc_num.specs.declared.kind.IntKind.TheVariants.{I32}
use Rattle.critical_table.specs.declared.pos.Pos.{Pos}
use Rattle.c_core.specs.Named.{number_at}
use Rattle.c_syntax.specs.declared.expression.Constant.{Constant}
use Rattle.c_syntax.specs.declared.expression.Constant.TheVariants as constant
use Rattle.c_syntax.specs.Tree.{Expr, Exprs, Maybe, TypeName, Specifier, Specifiers, MemberDeclaration, Members}
use Rattle.c_syntax.specs.Tree.{Declarators, Enumerators, Declarator, Parameter, Parameters}
use Rattle.c_syntax.specs.Tree as tree

abbrev pub IsInt : Constant → Type 0
IsInt (constant.Number number) = Unit {0}
IsInt (constant.Character n wide) = InRange I32 n

-- `statics` are the tokens of the static objects
abbrev mutual
  pub LiteralsInExpr : (statics : List Pos) → Expr → Type 0
  LiteralsInExpr statics (tree.Const at constant) = IsInt constant
  LiteralsInExpr statics (tree.Id at x) = Unit {0}
  LiteralsInExpr statics (tree.Text at text) = IsSome (number_at at statics)
  LiteralsInExpr statics (tree.Paren inner) = LiteralsInExpr statics inner
  LiteralsInExpr statics (tree.Index at array index) = LiteralsInExpr statics array × LiteralsInExpr statics index
  LiteralsInExpr statics (tree.Call at function arguments) =
      LiteralsInExpr statics function × LiteralsInExprs statics arguments
  LiteralsInExpr statics (tree.Member at access whole x) = LiteralsInExpr statics whole
  LiteralsInExpr statics (tree.PostfixOp at operator operand) = LiteralsInExpr statics operand
  LiteralsInExpr statics (tree.PrefixOp at operator operand) = LiteralsInExpr statics operand
  LiteralsInExpr statics (tree.MeasureOp at operator type) = LiteralsInTypeName statics type
  LiteralsInExpr statics (tree.Cast at type operand) = LiteralsInTypeName statics type × LiteralsInExpr statics operand
  LiteralsInExpr statics (tree.InfixOp at operator left right) =
      LiteralsInExpr statics left × LiteralsInExpr statics right
  LiteralsInExpr statics (tree.Cond at test then else) =
      LiteralsInExpr statics test × LiteralsInExpr statics then × LiteralsInExpr statics else

  pub LiteralsInExprs : List Pos → Exprs → Type 0
  LiteralsInExprs statics tree.NoExpr = Unit {0}
  LiteralsInExprs statics (tree.MoreExprs first rest) = LiteralsInExpr statics first × LiteralsInExprs statics rest

  pub LiteralsInMaybe : List Pos → Maybe → Type 0
  LiteralsInMaybe statics tree.Without = Unit {0}
  LiteralsInMaybe statics (tree.With expr) = LiteralsInExpr statics expr

  pub LiteralsInTypeName : List Pos → TypeName → Type 0
  LiteralsInTypeName statics (tree.NamedType specifiers declarator) =
      LiteralsInSpecifiers statics specifiers × LiteralsInDeclarator statics declarator

  pub LiteralsInSpecifier : List Pos → Specifier → Type 0
  LiteralsInSpecifier statics (tree.StorageClass at word) = Unit {0}
  LiteralsInSpecifier statics (tree.TypeQualifier at word) = Unit {0}
  LiteralsInSpecifier statics (tree.Inline at) = Unit {0}
  LiteralsInSpecifier statics (tree.BasicType at word) = Unit {0}
  LiteralsInSpecifier statics (tree.CompoundTag at word tag) = Unit {0}
  LiteralsInSpecifier statics (tree.Compound at word tag members) = LiteralsInMembers statics members
  LiteralsInSpecifier statics (tree.EnumTag at tag) = Unit {0}
  LiteralsInSpecifier statics (tree.Enum at tag enumerators comma) = LiteralsInEnumerators statics enumerators
  LiteralsInSpecifier statics (tree.TypedefName at x) = Unit {0}

  pub LiteralsInSpecifiers : List Pos → Specifiers → Type 0
  LiteralsInSpecifiers statics tree.NoSpecifier = Unit {0}
  LiteralsInSpecifiers statics (tree.MoreSpecifiers first rest) =
      LiteralsInSpecifier statics first × LiteralsInSpecifiers statics rest

  pub LiteralsInMember : List Pos → MemberDeclaration → Type 0
  LiteralsInMember statics (tree.Declares specifiers declarators) =
      LiteralsInSpecifiers statics specifiers × LiteralsInDeclarators statics declarators

  pub LiteralsInMembers : List Pos → Members → Type 0
  LiteralsInMembers statics tree.NoMember = Unit {0}
  LiteralsInMembers statics (tree.MoreMembers first rest) =
      LiteralsInMember statics first × LiteralsInMembers statics rest

  pub LiteralsInDeclarators : List Pos → Declarators → Type 0
  LiteralsInDeclarators statics tree.NoDeclarator = Unit {0}
  LiteralsInDeclarators statics (tree.MoreDeclarators first rest) =
      LiteralsInDeclarator statics first × LiteralsInDeclarators statics rest

  pub LiteralsInEnumerators : List Pos → Enumerators → Type 0
  LiteralsInEnumerators statics tree.NoEnumerator = Unit {0}
  LiteralsInEnumerators statics (tree.MoreEnumerators (tree.Enumerates at x value) rest) =
      LiteralsInMaybe statics value × LiteralsInEnumerators statics rest

  pub LiteralsInDeclarator : List Pos → Declarator → Type 0
  LiteralsInDeclarator statics tree.Omitted = Unit {0}
  LiteralsInDeclarator statics (tree.Name at x) = Unit {0}
  LiteralsInDeclarator statics (tree.DParen inner) = LiteralsInDeclarator statics inner
  LiteralsInDeclarator statics (tree.PointerTo qualifiers inner) = LiteralsInDeclarator statics inner
  LiteralsInDeclarator statics (tree.ArrayOf inner length) =
      LiteralsInDeclarator statics inner × LiteralsInMaybe statics length
  LiteralsInDeclarator statics (tree.FunctionOf inner parameters variadic) =
      LiteralsInDeclarator statics inner × LiteralsInParameters statics parameters

  pub LiteralsInParameter : List Pos → Parameter → Type 0
  LiteralsInParameter statics (tree.Param specifiers declarator) =
      LiteralsInSpecifiers statics specifiers × LiteralsInDeclarator statics declarator

  pub LiteralsInParameters : List Pos → Parameters → Type 0
  LiteralsInParameters statics tree.NoParameter = Unit {0}
  LiteralsInParameters statics (tree.MoreParameters first rest) =
      LiteralsInParameter statics first × LiteralsInParameters statics rest
