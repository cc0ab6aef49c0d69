-- Which initializers, declarations, statements and units are well-formed, in a scope.
use Rattle.std.specs.Prelude.{◌≡◌, ◌≤◌, Bool, List, [], ◌∷◌, ◌++◌, Option, Some, None}
use Rattle.std.specs.Option.{IsSome}
use Rattle.c_syntax.specs.Levels.{expression, assignment, conditional}
use Rattle.c_syntax.specs.Tree.{Expr}
use Rattle.c_syntax.specs.HeightUnit.{tree_height, greatest_height}
use Rattle.c_syntax.specs.Scopes.{Scope, predeclared, names_types, own_name, declared_if, expr_adds, specifiers_add}
use Rattle.c_syntax.specs.Scopes.{declarator_adds}
use Rattle.c_syntax.specs.ScopesUnit.{item_adds, init_adds, optional_adds, for_init_adds, block_item_adds}
use Rattle.c_syntax.specs.ScopesUnit.{switch_item_adds, own_parameters, body_scope, external_adds}
use Rattle.c_syntax.specs.WellFormed.{AreAdjacent, SpecifyOneType, DeclaresName, IsExpr, AreSpecifiers, IsDeclarator}
use Rattle.c_syntax.specs.TreeUnit as unit
use Rattle.c_syntax.specs.TreeUnit.{Initializer, Item, Items, InitDeclarator, Declaration, Assert, ForInit, Statement}
use Rattle.c_syntax.specs.TreeUnit.{BlockItem, BlockItems, SwitchItem, SwitchItems, Function, External, Tree}

abbrev pub HasItem : Items → Type 0
HasItem unit.NoItem = ⊥
HasItem _ = Unit {0}

abbrev mutual
  -- int a[] = {1, 2} has two items, int a[] = {(1, 2)} one (6.7.9)
  pub IsInitializer : Initializer → Scope → Type 0
  IsInitializer (unit.Single expr) scope = IsExpr expr scope assignment
  IsInitializer (unit.Braces pos items comma) scope = HasItem items × AreItems items scope

  pub IsItem : Item → Scope → Type 0
  IsItem (unit.Plain initializer) scope = IsInitializer initializer scope
  IsItem (unit.ForMember pos x initializer) scope = IsInitializer initializer scope
  IsItem (unit.ForIndex pos index initializer) scope =
      IsExpr index scope conditional × IsInitializer initializer (scope ++ expr_adds index)

  pub AreItems : Items → Scope → Type 0
  AreItems unit.NoItem scope = Unit {0}
  AreItems (unit.MoreItems first rest) scope = IsItem first scope × AreItems rest (scope ++ item_adds first)

abbrev pub IsInit : Option Initializer → Scope → Type 0
IsInit None scope = Unit {0}
IsInit (Some initializer) scope = IsInitializer initializer scope

-- each in the scope that those before it left: typedef int T, U[sizeof(T)];
abbrev pub AreInitDeclarators : Bool → List InitDeclarator → Scope → Type 0
AreInitDeclarators names_type [] scope = Unit {0}
AreInitDeclarators names_type (one ∷ rest) scope =
    let behind = scope ++ declarator_adds one.declarator ++ declared_if names_type (own_name one.declarator) in
    IsDeclarator one.declarator scope
    × DeclaresName one.declarator
    × IsInit one.initializer behind
    × AreInitDeclarators names_type rest (behind ++ init_adds one.initializer)

abbrev pub IsDeclaration : Declaration → Scope → Type 0
IsDeclaration declaration scope =
    SpecifyOneType declaration.specifiers
    × AreSpecifiers declaration.specifiers scope
    × AreInitDeclarators
    (names_types declaration.specifiers)
    declaration.declarators
    (scope ++ specifiers_add declaration.specifiers)

abbrev pub IsAssert : Assert → Scope → Type 0
IsAssert assert scope = IsExpr assert.condition scope conditional × AreAdjacent assert.message

abbrev pub IsOptional : Option Expr → Scope → Type 0
IsOptional None scope = Unit {0}
IsOptional (Some expr) scope = IsExpr expr scope expression

abbrev pub IsForInit : ForInit → Scope → Type 0
IsForInit (unit.WithDeclaration declaration) scope = IsDeclaration declaration scope
IsForInit (unit.WithExpression expr) scope = IsOptional expr scope

-- no else that follows would belong to an if in the statement (6.8.4.1p3)
abbrev pub IsClosed : Statement → Type 0
IsClosed (unit.If pos test then) = ⊥
IsClosed (unit.IfElse pos test then else) = IsClosed else
IsClosed (unit.While pos test body) = IsClosed body
IsClosed (unit.For pos init test step body) = IsClosed body
IsClosed _ = Unit {0}

abbrev mutual
  pub IsStatement : Statement → Scope → Type 0
  IsStatement (unit.Block items) scope = AreBlockItems items scope
  IsStatement (unit.ExprStmt expr) scope = IsOptional expr scope
  IsStatement (unit.If pos test then) scope = IsExpr test scope expression × IsStatement then (scope ++ expr_adds test)
  -- if (a) if (b) c; else d; has the else in the inner if, and if (a) {if (b) c;} else d; in the outer
  IsStatement (unit.IfElse pos test then else) scope =
      IsExpr test scope expression
      × IsStatement then (scope ++ expr_adds test)
      × IsClosed then
      × IsStatement else (scope ++ expr_adds test)
  -- labels stand directly in the block of a switch: switch (a) {case 1: b;}, but not switch (a) {{case 1: b;}}
  IsStatement (unit.Switch pos test items) scope =
      IsExpr test scope expression × AreSwitchItems items (scope ++ expr_adds test)
  IsStatement (unit.While pos test body) scope = IsExpr test scope expression
      × IsStatement body (scope ++ expr_adds test)
  -- the body is a block of its own: do {int T;} while (sizeof(T)); where T is a type
  IsStatement (unit.Do pos body test) scope = IsStatement body scope × IsExpr test scope expression
  -- for (int T = 0; T; T++) T = 0; has expressions where T was a type before, and is one again behind
  IsStatement (unit.For pos init test step body) scope =
      let tested = scope ++ for_init_adds init in
      let stepped = tested ++ optional_adds test in
      IsForInit init scope
      × IsOptional test tested
      × IsOptional step stepped
      × IsStatement body (stepped ++ optional_adds step)
  IsStatement (unit.Break pos) scope = Unit {0}
  IsStatement (unit.Continue pos) scope = Unit {0}
  IsStatement (unit.Return pos value) scope = IsOptional value scope

  pub IsBlockItem : BlockItem → Scope → Type 0
  IsBlockItem (unit.Declared declaration) scope = IsDeclaration declaration scope
  IsBlockItem (unit.Asserted assert) scope = IsAssert assert scope
  IsBlockItem (unit.Executes statement) scope = IsStatement statement scope

  pub AreBlockItems : BlockItems → Scope → Type 0
  AreBlockItems unit.NoBlockItem scope = Unit {0}
  AreBlockItems (unit.MoreBlockItems first rest) scope =
      IsBlockItem first scope × AreBlockItems rest (scope ++ block_item_adds first)

  -- case 1 = 2: is refused (6.8.1)
  pub IsSwitchItem : SwitchItem → Scope → Type 0
  IsSwitchItem (unit.Case pos value) scope = IsExpr value scope conditional
  IsSwitchItem (unit.Default pos) scope = Unit {0}
  IsSwitchItem (unit.InBlock item) scope = IsBlockItem item scope

  pub AreSwitchItems : SwitchItems → Scope → Type 0
  AreSwitchItems unit.NoSwitchItem scope = Unit {0}
  AreSwitchItems (unit.MoreSwitchItems first rest) scope =
      IsSwitchItem first scope × AreSwitchItems rest (scope ++ switch_item_adds first)

-- int (f)(void) {} is a function definition, int (*f)(void) {} and F f {} for a function type F are none (6.9.1p2)
abbrev pub IsFunction : Function → Scope → Type 0
IsFunction function scope =
    SpecifyOneType function.specifiers
    × AreSpecifiers function.specifiers scope
    × IsDeclarator function.declarator (scope ++ specifiers_add function.specifiers)
    × DeclaresName function.declarator
    × IsSome (own_parameters function.declarator)
    × AreBlockItems function.body (body_scope scope function)

abbrev pub IsExternal : External → Scope → Type 0
IsExternal (unit.Defines function) scope = IsFunction function scope
IsExternal (unit.Declaring declaration) scope = IsDeclaration declaration scope
IsExternal (unit.Asserting assert) scope = IsAssert assert scope

abbrev pub AreExternals : List External → Scope → Type 0
AreExternals [] scope = Unit {0}
AreExternals (external ∷ rest) scope = IsExternal external scope × AreExternals rest (scope ++ external_adds external)

-- of whatever height; the empty text is none (6.9)
abbrev pub IsTree : Tree → Type 0
IsTree tree = (tree.externals ≡ [] → ⊥) × AreExternals tree.externals predeclared

abbrev pub IsWellFormed : Tree → Type 0
IsWellFormed tree = IsTree tree × (tree_height tree ≤ greatest_height)
