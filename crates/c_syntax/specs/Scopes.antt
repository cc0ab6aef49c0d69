-- Scopes of names (6.2.1) as values, and what each node adds to them. Tags, members and the members' names have name
-- spaces of their own (6.2.3): struct T { int T; } adds nothing.
use Rattle.std.specs.Prelude.{ℕ, Bool, true, false, cond, List, [], ◌∷◌, ◌++◌, map, codes, Option, Some, None}
use Rattle.std.specs.Str.{bytes_eq}
use Rattle.c_syntax.specs.declared.specifier.Storage.TheVariants as storage
use Rattle.c_syntax.specs.Tree as tree
use Rattle.c_syntax.specs.Tree.{Expr, Exprs, Maybe, TypeName, Specifier, Specifiers, MemberDeclaration, Members}
use Rattle.c_syntax.specs.Tree.{Declarators, Enumerator, Enumerators, Declarator, Parameter, Parameters}

-- a declared name, and whether it names a type
pub record DeclaredName : Type 0 where
  pub name : List ℕ
  pub names_type : Bool

-- the innermost declaration stands last
abbrev pub Scope : Type 0
Scope = List DeclaredName

-- whether the last declaration of the name makes it a type, or else what is known:
-- after typedef int T; { int T; T * x; } multiplies, and behind the block T * x; declares
abbrev pub is_type_from : Bool → Scope → List ℕ → Bool
is_type_from known [] x = known
is_type_from known (declared ∷ more) x =
    is_type_from (cond (bytes_eq declared.name x) declared.names_type known) more x

abbrev pub is_type : Scope → List ℕ → Bool
is_type scope x = is_type_from false scope x

-- the typedef names that stand around each unit
abbrev pub predeclared : Scope
predeclared = map (λ x. record { name = x; names_type = true }) (
    codes "size_t"
    ∷ codes "rsize_t"
    ∷ codes "ptrdiff_t"
    ∷ codes "wchar_t"
    ∷ codes "errno_t"
    ∷ codes "constraint_handler_t"
    ∷ codes "bool"
    ∷ codes "int8_t"
    ∷ codes "int16_t"
    ∷ codes "int32_t"
    ∷ codes "int64_t"
    ∷ codes "uint8_t"
    ∷ codes "uint16_t"
    ∷ codes "uint32_t"
    ∷ codes "uint64_t" ∷ []
    )

-- ---- what specifiers and declarators say of a name

-- int static typedef T; declares a typedef name, wherever the word stands (6.7.8)
abbrev pub names_types : Specifiers → Bool
names_types tree.NoSpecifier = false
names_types (tree.MoreSpecifiers (tree.StorageClass pos storage.Typedef) rest) = true
names_types (tree.MoreSpecifiers first rest) = names_types rest

-- the identifier that a declarator declares (6.7.6)
abbrev pub own_name : Declarator → Option (List ℕ)
own_name tree.Omitted = None
own_name (tree.Name pos x) = Some x
own_name (tree.DParen inner) = own_name inner
own_name (tree.PointerTo qualifiers inner) = own_name inner
own_name (tree.ArrayOf inner length) = own_name inner
own_name (tree.FunctionOf inner parameters variadic) = own_name inner

abbrev pub declared_if : Bool → Option (List ℕ) → Scope
declared_if names_type None = []
declared_if names_type (Some x) = record { name = x; names_type = names_type } ∷ []

abbrev pub declared_by : Specifiers → Declarator → Scope
declared_by specifiers declarator = declared_if (names_types specifiers) (own_name declarator)

-- ---- what each node adds, in the order of its tokens

abbrev mutual
  -- (enum {A})0 + A: an enumerator is in scope in the rest of the expression
  pub expr_adds : Expr → Scope
  expr_adds (tree.Const pos constant) = []
  expr_adds (tree.Id pos x) = []
  expr_adds (tree.Text pos text) = []
  expr_adds (tree.Paren inner) = expr_adds inner
  expr_adds (tree.Index pos array index) = expr_adds array ++ expr_adds index
  expr_adds (tree.Call pos function arguments) = expr_adds function ++ exprs_add arguments
  expr_adds (tree.Member pos access whole x) = expr_adds whole
  expr_adds (tree.PostfixOp pos operator operand) = expr_adds operand
  expr_adds (tree.PrefixOp pos operator operand) = expr_adds operand
  expr_adds (tree.MeasureOp pos operator type) = type_name_adds type
  expr_adds (tree.Cast pos type operand) = type_name_adds type ++ expr_adds operand
  expr_adds (tree.InfixOp pos operator left right) = expr_adds left ++ expr_adds right
  expr_adds (tree.Cond pos test then else) = expr_adds test ++ expr_adds then ++ expr_adds else

  pub exprs_add : Exprs → Scope
  exprs_add tree.NoExpr = []
  exprs_add (tree.MoreExprs first rest) = expr_adds first ++ exprs_add rest

  pub maybe_adds : Maybe → Scope
  maybe_adds tree.Without = []
  maybe_adds (tree.With expr) = expr_adds expr

  pub type_name_adds : TypeName → Scope
  type_name_adds (tree.NamedType specifiers declarator) = specifiers_add specifiers ++ declarator_adds declarator

  pub specifier_adds : Specifier → Scope
  specifier_adds (tree.StorageClass pos word) = []
  specifier_adds (tree.TypeQualifier pos word) = []
  specifier_adds (tree.Inline pos) = []
  specifier_adds (tree.BasicType pos word) = []
  specifier_adds (tree.CompoundTag pos word tag) = []
  specifier_adds (tree.Compound pos word tag members) = members_add members
  specifier_adds (tree.EnumTag pos tag) = []
  specifier_adds (tree.Enum pos tag enumerators comma) = enumerators_add enumerators
  specifier_adds (tree.TypedefName pos x) = []

  pub specifiers_add : Specifiers → Scope
  specifiers_add tree.NoSpecifier = []
  specifiers_add (tree.MoreSpecifiers first rest) = specifier_adds first ++ specifiers_add rest

  -- struct { enum {A} m; } adds A, and no m
  pub member_adds : MemberDeclaration → Scope
  member_adds (tree.Declares specifiers declarators) = specifiers_add specifiers ++ declarators_add declarators

  pub members_add : Members → Scope
  members_add tree.NoMember = []
  members_add (tree.MoreMembers first rest) = member_adds first ++ members_add rest

  pub declarators_add : Declarators → Scope
  declarators_add tree.NoDeclarator = []
  declarators_add (tree.MoreDeclarators first rest) = declarator_adds first ++ declarators_add rest

  -- an enumerator is in scope behind its value (6.2.1p7): enum {A = 1, B = A}, and in
  -- typedef char T; enum {T = sizeof(T)}; the operand is the type
  pub enumerator_adds : Enumerator → Scope
  enumerator_adds (tree.Enumerates pos x value) = maybe_adds value ++ record { name = x; names_type = false } ∷ []

  pub enumerators_add : Enumerators → Scope
  enumerators_add tree.NoEnumerator = []
  enumerators_add (tree.MoreEnumerators first rest) = enumerator_adds first ++ enumerators_add rest

  -- beside its own identifier; parameters are in scope inside their list alone (6.2.1p4):
  -- int f(int T, int g(int T)); T x; is a declaration where T was a type before
  pub declarator_adds : Declarator → Scope
  declarator_adds tree.Omitted = []
  declarator_adds (tree.Name pos x) = []
  declarator_adds (tree.DParen inner) = declarator_adds inner
  declarator_adds (tree.PointerTo qualifiers inner) = declarator_adds inner
  declarator_adds (tree.ArrayOf inner length) = declarator_adds inner ++ maybe_adds length
  declarator_adds (tree.FunctionOf inner parameters variadic) = declarator_adds inner

  -- int f(int T, int a[sizeof(T)]) has an expression between the brackets
  pub parameter_adds : Parameter → Scope
  parameter_adds (tree.Param specifiers declarator) =
      specifiers_add specifiers ++ declarator_adds declarator ++ declared_by specifiers declarator

  pub parameters_add : Parameters → Scope
  parameters_add tree.NoParameter = []
  parameters_add (tree.MoreParameters first rest) = parameter_adds first ++ parameters_add rest
