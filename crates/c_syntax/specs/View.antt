-- The tree of what the program holds: expressions, declarators, specifiers and type names.
use Rattle.std.specs.Prelude.{List, [], ◌∷◌, map, Option, Some, None, Box}
use Rattle.std.specs.Global.{Global}
use Rattle.c_syntax.specs.declared.expression.Literals as code
use Rattle.c_syntax.specs.declared.expression.Expr as e
use Rattle.c_syntax.specs.declared.declarator.Declarator as d
use Rattle.c_syntax.specs.declared.declarator.Parameter as p
use Rattle.c_syntax.specs.declared.specifier.Specifier as s
use Rattle.c_syntax.specs.declared.specifier.MemberDeclaration as m
use Rattle.c_syntax.specs.declared.specifier.Enumerator as n
use Rattle.c_syntax.specs.declared.type_name.TypeName as t
use Rattle.c_syntax.specs.Tree as tree
use Rattle.c_syntax.specs.Tree.{Declarator, Declarators, Enumerator, Enumerators, Expr, Exprs, Literals, Maybe}
use Rattle.c_syntax.specs.Tree.{MemberDeclaration, Members, Parameter, Parameters, Specifier, Specifiers, TypeName}

abbrev pub literals_of : code.Literals → Literals
literals_of text = record { pieces = text.units.items; wide = text.wide }

abbrev mutual
  pub expr_of : e.Expr → Expr
  expr_of (e.Const pos constant) = tree.Const pos constant
  expr_of (e.Id pos name) = tree.Id pos name
  expr_of (e.Text pos text) = tree.Text pos (literals_of text)
  expr_of (e.Paren' _ inner) = tree.Paren (expr_of inner)
  expr_of (e.Index' pos _ array _ index) = tree.Index pos (expr_of array) (expr_of index)
  expr_of (e.Call' pos _ function _ arguments) = tree.Call pos (expr_of function) (exprs_row arguments)
  expr_of (e.Member' pos access _ whole name) = tree.Member pos access (expr_of whole) name
  expr_of (e.Postfix' pos operator _ operand) = tree.PostfixOp pos operator (expr_of operand)
  expr_of (e.Prefix' pos operator _ operand) = tree.PrefixOp pos operator (expr_of operand)
  expr_of (e.Measure' pos operator _ _ specifiers declarator) =
      tree.MeasureOp pos operator (tree.NamedType (specifiers_row specifiers) (declarator_of declarator))
  expr_of (e.Cast' pos _ _ specifiers declarator _ operand) =
      tree.Cast pos (tree.NamedType (specifiers_row specifiers) (declarator_of declarator)) (expr_of operand)
  expr_of (e.Infix' pos operator _ left _ right) = tree.InfixOp pos operator (expr_of left) (expr_of right)
  expr_of (e.Cond' pos _ test _ then _ else) = tree.Cond pos (expr_of test) (expr_of then) (expr_of else)

  pub exprs_row : {count : _} → e.Row_of-Expr count → Exprs
  exprs_row e.end_of-Expr = tree.NoExpr
  exprs_row (e.more_of-Expr first rest) = tree.MoreExprs (expr_of first) (exprs_row rest)

  pub maybe_of : d.Held-Declarator-ArrayOf-1 → Maybe
  maybe_of d.None' = tree.Without
  maybe_of (d.Some' _ expr) = tree.With (expr_of expr)

  pub declarator_of : d.Declarator → Declarator
  declarator_of d.Omitted = tree.Omitted
  declarator_of (d.Name pos name) = tree.Name pos name
  declarator_of (d.DParen' _ inner) = tree.DParen (declarator_of inner)
  declarator_of (d.PointerTo' qualifiers _ inner) = tree.PointerTo qualifiers.items (declarator_of inner)
  declarator_of (d.ArrayOf' _ inner length) = tree.ArrayOf (declarator_of inner) (maybe_of length)
  declarator_of (d.FunctionOf' _ inner _ parameters variadic) =
      tree.FunctionOf (declarator_of inner) (parameters_row parameters) variadic

  pub declarators_row : {count : _} → m.Row_of-Declarator count → Declarators
  declarators_row m.end_of-Declarator = tree.NoDeclarator
  declarators_row (m.more_of-Declarator first rest) = tree.MoreDeclarators (declarator_of first) (declarators_row rest)

  pub parameters_row : {count : _} → d.Row_of-Parameter count → Parameters
  parameters_row d.end_of-Parameter = tree.NoParameter
  parameters_row (d.more_of-Parameter _ specifiers declarator rest) =
      tree.MoreParameters (tree.Param (specifiers_row specifiers) (declarator_of declarator)) (parameters_row rest)

  pub specifier_of : s.Specifier → Specifier
  specifier_of (s.Storage pos word) = tree.StorageClass pos word
  specifier_of (s.Qualifier pos word) = tree.TypeQualifier pos word
  specifier_of (s.Inline pos) = tree.Inline pos
  specifier_of (s.BasicWord pos word) = tree.BasicType pos word
  specifier_of (s.CompoundTag pos word tag) = tree.CompoundTag pos word tag
  specifier_of (s.Compound' pos word tag _ members) = tree.Compound pos word tag (members_row members)
  specifier_of (s.EnumTag pos tag) = tree.EnumTag pos tag
  specifier_of (s.Enum' pos tag _ enumerators comma) = tree.Enum pos tag (enumerators_row enumerators) comma
  specifier_of (s.TypedefName pos name) = tree.TypedefName pos name

  pub specifiers_row : {count : _} → s.Row_of-Specifier count → Specifiers
  specifiers_row s.end_of-Specifier = tree.NoSpecifier
  specifiers_row (s.more_of-Specifier first rest) = tree.MoreSpecifiers (specifier_of first) (specifiers_row rest)

  pub members_row : {count : _} → s.Row_of-MemberDeclaration count → Members
  members_row s.end_of-MemberDeclaration = tree.NoMember
  members_row (s.more_of-MemberDeclaration _ specifiers _ declarators rest) =
      tree.MoreMembers (tree.Declares (specifiers_row specifiers) (declarators_row declarators)) (members_row rest)

  pub enumerators_row : {count : _} → s.Row_of-Enumerator count → Enumerators
  enumerators_row s.end_of-Enumerator = tree.NoEnumerator
  enumerators_row (s.more_of-Enumerator pos name value rest) =
      tree.MoreEnumerators (tree.Enumerates pos name (maybe_of value)) (enumerators_row rest)

-- ---- lists of parts

abbrev pub enumerators : List Enumerator → Enumerators
enumerators [] = tree.NoEnumerator
enumerators (first ∷ rest) = tree.MoreEnumerators first (enumerators rest)

abbrev pub members : List MemberDeclaration → Members
members [] = tree.NoMember
members (first ∷ rest) = tree.MoreMembers first (members rest)

abbrev pub parameters : List Parameter → Parameters
parameters [] = tree.NoParameter
parameters (first ∷ rest) = tree.MoreParameters first (parameters rest)

abbrev pub exprs : List Expr → Exprs
exprs [] = tree.NoExpr
exprs (first ∷ rest) = tree.MoreExprs first (exprs rest)

abbrev pub specifiers : List Specifier → Specifiers
specifiers [] = tree.NoSpecifier
specifiers (first ∷ rest) = tree.MoreSpecifiers first (specifiers rest)

abbrev pub declarators : List Declarator → Declarators
declarators [] = tree.NoDeclarator
declarators (first ∷ rest) = tree.MoreDeclarators first (declarators rest)

abbrev pub specifiers_of : List s.Specifier → Specifiers
specifiers_of all = specifiers (map specifier_of all)

abbrev pub type_name_of : t.TypeName → TypeName
type_name_of type = tree.NamedType (specifiers_of type.specifiers.items) (declarator_of type.declarator)

abbrev pub parameter_of : p.Parameter → Parameter
parameter_of parameter = tree.Param (specifiers_of parameter.specifiers.items) (declarator_of parameter.declarator)

abbrev pub member_of : m.MemberDeclaration → MemberDeclaration
member_of member =
    tree.Declares (specifiers_of member.specifiers.items) (declarators (map declarator_of member.declarators.items))

abbrev pub value_of : Option (Box e.Expr Global) → Maybe
value_of None = tree.Without
value_of (Some value) = tree.With (expr_of value.value)

abbrev pub enumerator_of : n.Enumerator → Enumerator
enumerator_of one = tree.Enumerates one.pos one.name (value_of one.value)
