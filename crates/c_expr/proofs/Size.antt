-- How many nodes a tree has: what the walk has left.
use Rattle.std.specs.Prelude.{ℕ, ◌+◌}
use Rattle.c_syntax.specs.Tree.{Expr, Exprs, Maybe, TypeName, Specifier, Specifiers, MemberDeclaration, Members}
use Rattle.c_syntax.specs.Tree.{Declarators, Enumerator, Enumerators, Declarator, Parameter, Parameters}
use Rattle.c_syntax.specs.Tree as tree

abbrev mutual
  pub size : Expr → ℕ
  size (tree.Const pos constant) = 1
  size (tree.Id pos x) = 1
  size (tree.Text pos text) = 1
  size (tree.Paren inner) = size inner + 1
  size (tree.Index pos array index) = size array + size index + 1
  size (tree.Call pos function arguments) = size function + exprs_size arguments + 1
  size (tree.Member pos access whole x) = size whole + 1
  size (tree.PostfixOp pos operator operand) = size operand + 1
  size (tree.PrefixOp pos operator operand) = size operand + 1
  size (tree.MeasureOp pos operator type) = type_name_size type + 1
  size (tree.Cast pos type operand) = type_name_size type + size operand + 1
  size (tree.InfixOp pos operator left right) = size left + size right + 1
  size (tree.Cond pos test then else) = size test + size then + size else + 1

  pub exprs_size : Exprs → ℕ
  exprs_size tree.NoExpr = 0
  exprs_size (tree.MoreExprs first rest) = size first + exprs_size rest + 1

  pub maybe_size : Maybe → ℕ
  maybe_size tree.Without = 0
  maybe_size (tree.With expr) = size expr + 1

  pub type_name_size : TypeName → ℕ
  type_name_size (tree.NamedType specifiers declarator) = specifiers_size specifiers + declarator_size declarator + 1

  pub specifier_size : Specifier → ℕ
  specifier_size (tree.StorageClass pos word) = 1
  specifier_size (tree.TypeQualifier pos word) = 1
  specifier_size (tree.Inline pos) = 1
  specifier_size (tree.BasicType pos word) = 1
  specifier_size (tree.CompoundTag pos word tag) = 1
  specifier_size (tree.Compound pos word tag members) = members_size members + 1
  specifier_size (tree.EnumTag pos tag) = 1
  specifier_size (tree.Enum pos tag enumerators comma) = enumerators_size enumerators + 1
  specifier_size (tree.TypedefName pos x) = 1

  pub specifiers_size : Specifiers → ℕ
  specifiers_size tree.NoSpecifier = 0
  specifiers_size (tree.MoreSpecifiers first rest) = specifier_size first + specifiers_size rest + 1

  pub member_size : MemberDeclaration → ℕ
  member_size (tree.Declares specifiers declarators) = specifiers_size specifiers + declarators_size declarators + 1

  pub members_size : Members → ℕ
  members_size tree.NoMember = 0
  members_size (tree.MoreMembers first rest) = member_size first + members_size rest + 1

  pub declarators_size : Declarators → ℕ
  declarators_size tree.NoDeclarator = 0
  declarators_size (tree.MoreDeclarators first rest) = declarator_size first + declarators_size rest + 1

  pub enumerator_size : Enumerator → ℕ
  enumerator_size (tree.Enumerates pos x value) = maybe_size value + 1

  pub enumerators_size : Enumerators → ℕ
  enumerators_size tree.NoEnumerator = 0
  enumerators_size (tree.MoreEnumerators first rest) = enumerator_size first + enumerators_size rest + 1

  pub declarator_size : Declarator → ℕ
  declarator_size tree.Omitted = 1
  declarator_size (tree.Name pos x) = 1
  declarator_size (tree.DParen inner) = declarator_size inner + 1
  declarator_size (tree.PointerTo qualifiers inner) = declarator_size inner + 1
  declarator_size (tree.ArrayOf inner length) = declarator_size inner + maybe_size length + 1
  declarator_size (tree.FunctionOf inner parameters variadic) = declarator_size inner + parameters_size parameters + 1

  pub parameter_size : Parameter → ℕ
  parameter_size (tree.Param specifiers declarator) = specifiers_size specifiers + declarator_size declarator + 1

  pub parameters_size : Parameters → ℕ
  parameters_size tree.NoParameter = 0
  parameters_size (tree.MoreParameters first rest) = parameter_size first + parameters_size rest + 1
