-- The height of a node: 1 without parts, else one more than the highest of its parts. Lists, the words of specifiers
-- and an omitted identifier are no nodes.
use Rattle.std.specs.Prelude.{ℕ, suc, max}
use Rattle.c_syntax.specs.Tree as tree
use Rattle.c_syntax.specs.Tree.{Expr, Exprs, Maybe, TypeName, Specifier, Specifiers, MemberDeclaration, Members}
use Rattle.c_syntax.specs.Tree.{Declarators, Enumerator, Enumerators, Declarator, Parameter, Parameters}

abbrev mutual
  pub height : Expr → ℕ
  height (tree.Const pos constant) = 1
  height (tree.Id pos name) = 1
  height (tree.Text pos text) = 1
  height (tree.Paren inner) = suc (height inner)
  height (tree.Index pos array index) = suc (max (height array) (height index))
  height (tree.Call pos function arguments) = suc (max (height function) (exprs_height arguments))
  height (tree.Member pos access whole name) = suc (height whole)
  height (tree.PostfixOp pos operator operand) = suc (height operand)
  height (tree.PrefixOp pos operator operand) = suc (height operand)
  height (tree.MeasureOp pos operator type) = suc (type_name_height type)
  height (tree.Cast pos type operand) = suc (max (type_name_height type) (height operand))
  height (tree.InfixOp pos operator left right) = suc (max (height left) (height right))
  height (tree.Cond pos test then else) = suc (max (height test) (max (height then) (height else)))

  pub exprs_height : Exprs → ℕ
  exprs_height tree.NoExpr = 0
  exprs_height (tree.MoreExprs first rest) = max (height first) (exprs_height rest)

  pub maybe_height : Maybe → ℕ
  maybe_height tree.Without = 0
  maybe_height (tree.With expr) = height expr

  pub type_name_height : TypeName → ℕ
  type_name_height (tree.NamedType specifiers declarator) =
      suc (max (specifiers_height specifiers) (declarator_height declarator))

  pub specifier_height : Specifier → ℕ
  specifier_height (tree.StorageClass pos word) = 0
  specifier_height (tree.TypeQualifier pos word) = 0
  specifier_height (tree.Inline pos) = 0
  specifier_height (tree.BasicType pos word) = 0
  specifier_height (tree.CompoundTag pos word tag) = 1
  specifier_height (tree.Compound pos word tag members) = suc (members_height members)
  specifier_height (tree.EnumTag pos tag) = 1
  specifier_height (tree.Enum pos tag enumerators comma) = suc (enumerators_height enumerators)
  specifier_height (tree.TypedefName pos name) = 0

  pub specifiers_height : Specifiers → ℕ
  specifiers_height tree.NoSpecifier = 0
  specifiers_height (tree.MoreSpecifiers first rest) = max (specifier_height first) (specifiers_height rest)

  pub member_height : MemberDeclaration → ℕ
  member_height (tree.Declares specifiers declarators) =
      suc (max (specifiers_height specifiers) (declarators_height declarators))

  pub members_height : Members → ℕ
  members_height tree.NoMember = 0
  members_height (tree.MoreMembers first rest) = max (member_height first) (members_height rest)

  pub declarators_height : Declarators → ℕ
  declarators_height tree.NoDeclarator = 0
  declarators_height (tree.MoreDeclarators first rest) = max (declarator_height first) (declarators_height rest)

  pub enumerator_height : Enumerator → ℕ
  enumerator_height (tree.Enumerates pos name value) = maybe_height value

  pub enumerators_height : Enumerators → ℕ
  enumerators_height tree.NoEnumerator = 0
  enumerators_height (tree.MoreEnumerators first rest) = max (enumerator_height first) (enumerators_height rest)

  pub declarator_height : Declarator → ℕ
  declarator_height tree.Omitted = 0
  declarator_height (tree.Name pos name) = 1
  declarator_height (tree.DParen inner) = suc (declarator_height inner)
  declarator_height (tree.PointerTo qualifiers inner) = suc (declarator_height inner)
  declarator_height (tree.ArrayOf inner length) = suc (max (declarator_height inner) (maybe_height length))
  declarator_height (tree.FunctionOf inner parameters variadic) =
      suc (max (declarator_height inner) (parameters_height parameters))

  pub parameter_height : Parameter → ℕ
  parameter_height (tree.Param specifiers declarator) =
      suc (max (specifiers_height specifiers) (declarator_height declarator))

  pub parameters_height : Parameters → ℕ
  parameters_height tree.NoParameter = 0
  parameters_height (tree.MoreParameters first rest) = max (parameter_height first) (parameters_height rest)
