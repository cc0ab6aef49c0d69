-- The height of initializers, declarations, statements and the unit.
use Rattle.std.specs.Prelude.{ℕ, suc, max, List, [], ◌∷◌, Option, Some, None}
use Rattle.c_syntax.specs.Tree.{Expr}
use Rattle.c_syntax.specs.Height.{height, specifiers_height, declarator_height}
use Rattle.c_syntax.specs.TreeUnit as unit
use Rattle.c_syntax.specs.TreeUnit.{Initializer, Item, Items, InitDeclarator, Declaration, Assert, ForInit, Statement}
use Rattle.c_syntax.specs.TreeUnit.{BlockItem, BlockItems, SwitchItem, SwitchItems, Function, External, Tree}

-- an initializer that is an expression is no other node
abbrev mutual
  pub initializer_height : Initializer → ℕ
  initializer_height (unit.Single expr) = height expr
  initializer_height (unit.Braces pos items comma) = suc (items_height items)

  pub item_height : Item → ℕ
  item_height (unit.Plain initializer) = suc (initializer_height initializer)
  item_height (unit.ForMember pos name initializer) = suc (initializer_height initializer)
  item_height (unit.ForIndex pos index initializer) = suc (max (height index) (initializer_height initializer))

  pub items_height : Items → ℕ
  items_height unit.NoItem = 0
  items_height (unit.MoreItems first rest) = max (item_height first) (items_height rest)

abbrev pub init_height : Option Initializer → ℕ
init_height None = 0
init_height (Some initializer) = initializer_height initializer

abbrev pub init_declarators_height : List InitDeclarator → ℕ
init_declarators_height [] = 0
init_declarators_height (one ∷ rest) =
    max (max (declarator_height one.declarator) (init_height one.initializer)) (init_declarators_height rest)

abbrev pub declaration_height : Declaration → ℕ
declaration_height declaration =
    suc (max (specifiers_height declaration.specifiers) (init_declarators_height declaration.declarators))

abbrev pub assert_height : Assert → ℕ
assert_height assert = suc (height assert.condition)

abbrev pub optional_height : Option Expr → ℕ
optional_height None = 0
optional_height (Some expr) = height expr

abbrev pub for_init_height : ForInit → ℕ
for_init_height (unit.WithDeclaration declaration) = declaration_height declaration
for_init_height (unit.WithExpression expr) = optional_height expr

abbrev mutual
  pub statement_height : Statement → ℕ
  statement_height (unit.Block items) = suc (block_items_height items)
  statement_height (unit.ExprStmt expr) = suc (optional_height expr)
  statement_height (unit.If pos test then) = suc (max (height test) (statement_height then))
  statement_height (unit.IfElse pos test then else) =
      suc (max (height test) (max (statement_height then) (statement_height else)))
  statement_height (unit.Switch pos test items) = suc (max (height test) (switch_items_height items))
  statement_height (unit.While pos test body) = suc (max (height test) (statement_height body))
  statement_height (unit.Do pos body test) = suc (max (statement_height body) (height test))
  statement_height (unit.For pos init test step body) =
      suc (max (for_init_height init) (max (optional_height test) (max (optional_height step) (statement_height body))))
  statement_height (unit.Break pos) = 1
  statement_height (unit.Continue pos) = 1
  statement_height (unit.Return pos value) = suc (optional_height value)

  pub block_item_height : BlockItem → ℕ
  block_item_height (unit.Declared declaration) = declaration_height declaration
  block_item_height (unit.Asserted assert) = assert_height assert
  block_item_height (unit.Executes statement) = statement_height statement

  pub block_items_height : BlockItems → ℕ
  block_items_height unit.NoBlockItem = 0
  block_items_height (unit.MoreBlockItems first rest) = max (block_item_height first) (block_items_height rest)

  pub switch_item_height : SwitchItem → ℕ
  switch_item_height (unit.Case pos value) = suc (height value)
  switch_item_height (unit.Default pos) = 1
  switch_item_height (unit.InBlock item) = block_item_height item

  pub switch_items_height : SwitchItems → ℕ
  switch_items_height unit.NoSwitchItem = 0
  switch_items_height (unit.MoreSwitchItems first rest) = max (switch_item_height first) (switch_items_height rest)

-- the body is a block, a node of its own
abbrev pub function_height : Function → ℕ
function_height function =
    suc (max (specifiers_height function.specifiers)
    (max (declarator_height function.declarator) (suc (block_items_height function.body))))

abbrev pub external_height : External → ℕ
external_height (unit.Defines function) = function_height function
external_height (unit.Declaring declaration) = declaration_height declaration
external_height (unit.Asserting assert) = assert_height assert

abbrev pub externals_height : List External → ℕ
externals_height [] = 0
externals_height (external ∷ rest) = max (external_height external) (externals_height rest)

abbrev pub tree_height : Tree → ℕ
tree_height tree = suc (externals_height tree.externals)

-- the greatest height of a unit
abbrev pub greatest_height : ℕ
greatest_height = 256
