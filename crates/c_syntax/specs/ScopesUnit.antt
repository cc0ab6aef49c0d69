-- What initializers, declarations, statements and external declarations add to a scope, in the order of their tokens.
use Rattle.std.specs.Prelude.{Bool, true, false, cond, List, [], ◌∷◌, ◌++◌, Option, Some, None}
use Rattle.c_syntax.specs.Tree as tree
use Rattle.c_syntax.specs.Tree.{Expr, Declarator, Parameters}
use Rattle.c_syntax.specs.Scopes.{Scope, names_types, own_name, declared_if, declared_by, expr_adds, specifiers_add}
use Rattle.c_syntax.specs.Scopes.{declarator_adds, parameters_add}
use Rattle.c_syntax.specs.TreeUnit as unit
use Rattle.c_syntax.specs.TreeUnit.{Initializer, Item, Items, InitDeclarator, Declaration, ForInit, Statement}
use Rattle.c_syntax.specs.TreeUnit.{BlockItem, SwitchItem, Function, External}

abbrev mutual
  pub initializer_adds : Initializer → Scope
  initializer_adds (unit.Single expr) = expr_adds expr
  initializer_adds (unit.Braces pos items comma) = items_add items

  pub item_adds : Item → Scope
  item_adds (unit.Plain initializer) = initializer_adds initializer
  item_adds (unit.ForMember pos x initializer) = initializer_adds initializer
  item_adds (unit.ForIndex pos index initializer) = expr_adds index ++ initializer_adds initializer

  pub items_add : Items → Scope
  items_add unit.NoItem = []
  items_add (unit.MoreItems first rest) = item_adds first ++ items_add rest

abbrev pub init_adds : Option Initializer → Scope
init_adds None = []
init_adds (Some initializer) = initializer_adds initializer

-- a name is in scope from the end of its declarator on (6.2.1p7): int T = sizeof(T); has an expression in parentheses
abbrev pub init_declarators_add : Bool → List InitDeclarator → Scope
init_declarators_add names_type [] = []
init_declarators_add names_type (one ∷ rest) =
    declarator_adds one.declarator ++ declared_if names_type (own_name one.declarator)
    ++ init_adds one.initializer ++ init_declarators_add names_type rest

abbrev pub declaration_adds : Declaration → Scope
declaration_adds declaration =
    specifiers_add declaration.specifiers
    ++ init_declarators_add (names_types declaration.specifiers) declaration.declarators

abbrev pub optional_adds : Option Expr → Scope
optional_adds None = []
optional_adds (Some expr) = expr_adds expr

abbrev pub for_init_adds : ForInit → Scope
for_init_adds (unit.WithDeclaration declaration) = declaration_adds declaration
for_init_adds (unit.WithExpression expr) = optional_adds expr

-- Selection and iteration statements are blocks (6.8.4p3, 6.8.5p5), and so what stands in them adds nothing to what
-- follows; expression and jump statements are none: behind (enum {A})0; the name A is in scope.
abbrev pub statement_adds : Statement → Scope
statement_adds (unit.Block items) = []
statement_adds (unit.ExprStmt expr) = optional_adds expr
statement_adds (unit.If pos test then) = []
statement_adds (unit.IfElse pos test then else) = []
statement_adds (unit.Switch pos test items) = []
statement_adds (unit.While pos test body) = []
statement_adds (unit.Do pos body test) = []
statement_adds (unit.For pos init test step body) = []
statement_adds (unit.Break pos) = []
statement_adds (unit.Continue pos) = []
statement_adds (unit.Return pos value) = optional_adds value

abbrev pub block_item_adds : BlockItem → Scope
block_item_adds (unit.Declared declaration) = declaration_adds declaration
block_item_adds (unit.Asserted assert) = expr_adds assert.condition
block_item_adds (unit.Executes statement) = statement_adds statement

abbrev pub switch_item_adds : SwitchItem → Scope
switch_item_adds (unit.Case pos value) = expr_adds value
switch_item_adds (unit.Default pos) = []
switch_item_adds (unit.InBlock item) = block_item_adds item

-- ---- functions (6.9.1)

-- the declarator is an identifier, parentheses aside
abbrev pub is_identifier : Declarator → Bool
is_identifier (tree.Name pos x) = true
is_identifier (tree.DParen inner) = is_identifier inner
is_identifier _ = false

-- the parameters of the part nearest to the identifier, each DParen aside, where that is a FunctionOf:
-- those of int (*f(int a))(int b) are (int a), and int (*f)(int b) has none
abbrev pub own_parameters : Declarator → Option Parameters
own_parameters tree.Omitted = None
own_parameters (tree.Name pos x) = None
own_parameters (tree.DParen inner) = own_parameters inner
own_parameters (tree.PointerTo qualifiers inner) = own_parameters inner
own_parameters (tree.ArrayOf inner length) = own_parameters inner
own_parameters (tree.FunctionOf inner parameters variadic) =
    cond (is_identifier inner) (Some parameters) (own_parameters inner)

abbrev pub own_parameters_add : Option Parameters → Scope
own_parameters_add None = []
own_parameters_add (Some parameters) = parameters_add parameters

abbrev pub function_adds : Function → Scope
function_adds function =
    specifiers_add function.specifiers
    ++ declarator_adds function.declarator ++ declared_by function.specifiers function.declarator

-- behind the function's own name its parameters are in scope too (6.2.1p4): int f(int f) {return f;}
abbrev pub body_scope : Scope → Function → Scope
body_scope scope function =
    scope ++ function_adds function ++ own_parameters_add (own_parameters function.declarator)

abbrev pub external_adds : External → Scope
external_adds (unit.Defines function) = function_adds function
external_adds (unit.Declaring declaration) = declaration_adds declaration
external_adds (unit.Asserting assert) = expr_adds assert.condition
