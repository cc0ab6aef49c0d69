-- Which expressions, type names, specifiers and declarators are well-formed, in a scope. The parts of a node are read
-- in the order of its tokens, each in the scope that those before it left.
use Rattle.std.specs.Prelude.{◌≡◌, ◌≤◌, ◌⊎◌, ℕ, suc, Bool, true, false, List, [], ◌++◌, Option, Some, None}
use Rattle.std.specs.Option.{IsSome}
use Rattle.c_syntax.specs.Levels.{expression, assignment, conditional, logical_or, cast, unary, postfix, infix_level}
use Rattle.c_syntax.specs.Levels.{left_level, right_level, operand_level}
use Rattle.c_syntax.specs.Scopes.{Scope, is_type, own_name, expr_adds, type_name_adds, specifier_adds, specifiers_add}
use Rattle.c_syntax.specs.Scopes.{member_adds, enumerator_adds, declarator_adds, parameter_adds}
use Rattle.c_syntax.specs.Tree as tree
use Rattle.c_syntax.specs.Tree.{Literals, Expr, Exprs, Maybe, TypeName, Specifier, Specifiers, MemberDeclaration}
use Rattle.c_syntax.specs.Tree.{Members, Declarators, Enumerator, Enumerators, Declarator, Parameter, Parameters}

-- ---- what a node asks of its parts, apart from scopes

-- one literal at least: "a" "b" is one Text of two pieces (6.4.5p5)
abbrev pub AreAdjacent : Literals → Type 0
AreAdjacent text = text.pieces ≡ [] → ⊥

abbrev pub basic_words : Specifiers → ℕ
basic_words tree.NoSpecifier = 0
basic_words (tree.MoreSpecifiers (tree.BasicType pos word) rest) = suc (basic_words rest)
basic_words (tree.MoreSpecifiers first rest) = basic_words rest

-- structures, unions, enumerations and typedef names
abbrev pub other_types : Specifiers → ℕ
other_types tree.NoSpecifier = 0
other_types (tree.MoreSpecifiers (tree.CompoundTag pos word tag) rest) = suc (other_types rest)
other_types (tree.MoreSpecifiers (tree.Compound pos word tag members) rest) = suc (other_types rest)
other_types (tree.MoreSpecifiers (tree.EnumTag pos tag) rest) = suc (other_types rest)
other_types (tree.MoreSpecifiers (tree.Enum pos tag enumerators comma) rest) = suc (other_types rest)
other_types (tree.MoreSpecifiers (tree.TypedefName pos x) rest) = suc (other_types rest)
other_types (tree.MoreSpecifiers first rest) = other_types rest

-- Basic type words, or one other type and none of these (6.7.2p2): where T is a type, unsigned T; and T T; declare T,
-- const T; declares nothing, and static x; is refused.
abbrev pub SpecifyOneType : Specifiers → Type 0
SpecifyOneType specifiers =
    ((1 ≤ basic_words specifiers) × (other_types specifiers ≡ 0))
    ⊎ ((basic_words specifiers ≡ 0) × (other_types specifiers ≡ 1))

-- int *a[1] is an array of pointers, int (*a)[1] a pointer to an array: a pointer stands in an array or function
-- declarator only in parentheses (6.7.6)
abbrev pub IsDirect : Declarator → Type 0
IsDirect (tree.PointerTo qualifiers inner) = ⊥
IsDirect _ = Unit {0}

-- int () is a function type, and no () around an omitted identifier (6.7.7)
abbrev pub HasToken : Declarator → Type 0
HasToken tree.Omitted = ⊥
HasToken _ = Unit {0}

-- int f() has an empty list, int f(...) is refused (6.7.6.3)
abbrev pub MayEnd : Parameters → Bool → Type 0
MayEnd tree.NoParameter true = ⊥
MayEnd _ _ = Unit {0}

abbrev pub HasMember : Members → Type 0
HasMember tree.NoMember = ⊥
HasMember _ = Unit {0}

abbrev pub HasEnumerator : Enumerators → Type 0
HasEnumerator tree.NoEnumerator = ⊥
HasEnumerator _ = Unit {0}

-- the declarator declares an identifier, or omits it (6.7.6, 6.7.7)
abbrev pub DeclaresName : Declarator → Type 0
DeclaresName declarator = IsSome (own_name declarator)

abbrev pub Omits : Declarator → Type 0
Omits declarator = own_name declarator ≡ None

-- the identifier that is the declarator's first token
abbrev pub first_name : Declarator → Option (List ℕ)
first_name tree.Omitted = None
first_name (tree.Name pos x) = Some x
first_name (tree.DParen inner) = None
first_name (tree.PointerTo qualifiers inner) = None
first_name (tree.ArrayOf inner length) = first_name inner
first_name (tree.FunctionOf inner parameters variadic) = first_name inner

abbrev pub IsNoType : Scope → Option (List ℕ) → Type 0
IsNoType scope None = Unit {0}
IsNoType scope (Some x) = is_type scope x ≡ false

-- In a parameter a name behind a parenthesis that could be a typedef name is one (6.7.6.3p11): where T is a type,
-- int f(int (T)) has a function that takes a T, int f(int (*T)) and int f(int T) have a parameter T.
abbrev pub TakesTypes : Scope → Declarator → Type 0
TakesTypes scope tree.Omitted = Unit {0}
TakesTypes scope (tree.Name pos x) = Unit {0}
TakesTypes scope (tree.DParen inner) = IsNoType scope (first_name inner) × TakesTypes scope inner
TakesTypes scope (tree.PointerTo qualifiers inner) = TakesTypes scope inner
TakesTypes scope (tree.ArrayOf inner length) = TakesTypes scope inner
TakesTypes scope (tree.FunctionOf inner parameters variadic) = TakesTypes scope inner

-- ---- well-formed in a scope

abbrev mutual
  -- an expression that may stand where this level is wanted
  pub IsExpr : Expr → Scope → ℕ → Type 0
  IsExpr (tree.Const pos constant) scope level = Unit {0}
  -- where T is a type, (T) - 1 is a cast, and T * x; no expression
  IsExpr (tree.Id pos x) scope level = is_type scope x ≡ false
  IsExpr (tree.Text pos text) scope level = AreAdjacent text
  IsExpr (tree.Paren inner) scope level = IsExpr inner scope expression
  IsExpr (tree.Index pos array index) scope level =
      (level ≤ postfix) × IsExpr array scope postfix × IsExpr index (scope ++ expr_adds array) expression
  IsExpr (tree.Call pos function arguments) scope level =
      (level ≤ postfix) × IsExpr function scope postfix × AreArguments arguments (scope ++ expr_adds function)
  IsExpr (tree.Member pos access whole x) scope level = (level ≤ postfix) × IsExpr whole scope postfix
  IsExpr (tree.PostfixOp pos operator operand) scope level = (level ≤ postfix) × IsExpr operand scope postfix
  IsExpr (tree.PrefixOp pos operator operand) scope level = (level ≤ unary)
      × IsExpr operand scope (operand_level operator)
  IsExpr (tree.MeasureOp pos operator type) scope level = (level ≤ unary) × IsTypeName type scope
  IsExpr (tree.Cast pos type operand) scope level =
      (level ≤ cast) × IsTypeName type scope × IsExpr operand (scope ++ type_name_adds type) cast
  IsExpr (tree.InfixOp pos operator left right) scope level =
      (level ≤ infix_level operator)
      × IsExpr left scope (left_level operator)
      × IsExpr right (scope ++ expr_adds left) (right_level operator)
  IsExpr (tree.Cond pos test then else) scope level =
      (level ≤ conditional)
      × IsExpr test scope logical_or
      × IsExpr then (scope ++ expr_adds test) expression
      × IsExpr else (scope ++ expr_adds test ++ expr_adds then) conditional

  -- f(a, b) has two arguments, f((a, b)) one
  pub AreArguments : Exprs → Scope → Type 0
  AreArguments tree.NoExpr scope = Unit {0}
  AreArguments (tree.MoreExprs first rest) scope =
      IsExpr first scope assignment × AreArguments rest (scope ++ expr_adds first)

  -- int a[(b = 1)] has a conditional expression between its brackets, int a[b = 1] none (6.6)
  pub IsAbsentOrConditional : Maybe → Scope → Type 0
  IsAbsentOrConditional tree.Without scope = Unit {0}
  IsAbsentOrConditional (tree.With expr) scope = IsExpr expr scope conditional

  pub IsTypeName : TypeName → Scope → Type 0
  IsTypeName (tree.NamedType specifiers declarator) scope =
      SpecifyOneType specifiers
      × AreSpecifiers specifiers scope
      × IsDeclarator declarator (scope ++ specifiers_add specifiers)
      × Omits declarator

  pub AreSpecifiers : Specifiers → Scope → Type 0
  AreSpecifiers tree.NoSpecifier scope = Unit {0}
  AreSpecifiers (tree.MoreSpecifiers first rest) scope = IsSpecifier first scope
      × AreSpecifiers rest (scope ++ specifier_adds first)

  pub IsSpecifier : Specifier → Scope → Type 0
  IsSpecifier (tree.StorageClass pos word) scope = Unit {0}
  IsSpecifier (tree.TypeQualifier pos word) scope = Unit {0}
  IsSpecifier (tree.Inline pos) scope = Unit {0}
  IsSpecifier (tree.BasicType pos word) scope = Unit {0}
  IsSpecifier (tree.CompoundTag pos word tag) scope = Unit {0}
  IsSpecifier (tree.Compound pos word tag members) scope = HasMember members × AreMembers members scope
  IsSpecifier (tree.EnumTag pos tag) scope = Unit {0}
  IsSpecifier (tree.Enum pos tag enumerators comma) scope = HasEnumerator enumerators × AreEnumerators enumerators scope
  IsSpecifier (tree.TypedefName pos x) scope = is_type scope x ≡ true

  pub IsMember : MemberDeclaration → Scope → Type 0
  IsMember (tree.Declares specifiers declarators) scope =
      SpecifyOneType specifiers
      × AreSpecifiers specifiers scope
      × AreDeclarators declarators (scope ++ specifiers_add specifiers)

  pub AreMembers : Members → Scope → Type 0
  AreMembers tree.NoMember scope = Unit {0}
  AreMembers (tree.MoreMembers first rest) scope = IsMember first scope × AreMembers rest (scope ++ member_adds first)

  pub AreDeclarators : Declarators → Scope → Type 0
  AreDeclarators tree.NoDeclarator scope = Unit {0}
  AreDeclarators (tree.MoreDeclarators first rest) scope =
      IsDeclarator first scope × DeclaresName first × AreDeclarators rest (scope ++ declarator_adds first)

  pub IsEnumerator : Enumerator → Scope → Type 0
  IsEnumerator (tree.Enumerates pos x value) scope = IsAbsentOrConditional value scope

  pub AreEnumerators : Enumerators → Scope → Type 0
  AreEnumerators tree.NoEnumerator scope = Unit {0}
  AreEnumerators (tree.MoreEnumerators first rest) scope =
      IsEnumerator first scope × AreEnumerators rest (scope ++ enumerator_adds first)

  -- a declarator's identifier may be a typedef name further out: typedef int T; {int T;}
  pub IsDeclarator : Declarator → Scope → Type 0
  IsDeclarator tree.Omitted scope = Unit {0}
  IsDeclarator (tree.Name pos x) scope = Unit {0}
  IsDeclarator (tree.DParen inner) scope = HasToken inner × IsDeclarator inner scope
  IsDeclarator (tree.PointerTo qualifiers inner) scope = IsDeclarator inner scope
  IsDeclarator (tree.ArrayOf inner length) scope =
      IsDirect inner × IsDeclarator inner scope × IsAbsentOrConditional length (scope ++ declarator_adds inner)
  IsDeclarator (tree.FunctionOf inner parameters variadic) scope =
      IsDirect inner
      × IsDeclarator inner scope
      × AreParameters parameters (scope ++ declarator_adds inner)
      × MayEnd parameters variadic

  pub IsParameter : Parameter → Scope → Type 0
  IsParameter (tree.Param specifiers declarator) scope =
      SpecifyOneType specifiers
      × AreSpecifiers specifiers scope
      × IsDeclarator declarator (scope ++ specifiers_add specifiers)
      × TakesTypes (scope ++ specifiers_add specifiers) declarator

  pub AreParameters : Parameters → Scope → Type 0
  AreParameters tree.NoParameter scope = Unit {0}
  AreParameters (tree.MoreParameters first rest) scope =
      IsParameter first scope × AreParameters rest (scope ++ parameter_adds first)
