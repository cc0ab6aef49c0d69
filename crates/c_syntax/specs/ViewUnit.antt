-- The tree of what the program holds: initializers, declarations, statements and the unit.
use Rattle.std.specs.Prelude.{List, [], ◌∷◌, map}
use Rattle.std.specs.Option.{option_map}
use Rattle.c_syntax.specs.declared.initializer.Initializer as i
use Rattle.c_syntax.specs.declared.initializer.Item as m
use Rattle.c_syntax.specs.declared.declaration.InitDeclarator as l
use Rattle.c_syntax.specs.declared.declaration.Declaration as d
use Rattle.c_syntax.specs.declared.declaration.Assert as a
use Rattle.c_syntax.specs.declared.statement.ForInit as f
use Rattle.c_syntax.specs.declared.statement.ForInit.TheVariants as init
use Rattle.c_syntax.specs.declared.statement.Statement as s
use Rattle.c_syntax.specs.declared.statement.BlockItem as b
use Rattle.c_syntax.specs.declared.statement.SwitchItem as w
use Rattle.c_syntax.specs.declared.unit.Function as u
use Rattle.c_syntax.specs.declared.unit.External as x
use Rattle.c_syntax.specs.declared.unit.External.TheVariants as external
use Rattle.c_syntax.specs.declared.unit.Tree as t
use Rattle.c_syntax.specs.View.{expr_of, declarator_of, specifiers_of, literals_of}
use Rattle.c_syntax.specs.TreeUnit as unit
use Rattle.c_syntax.specs.TreeUnit.{Initializer, Item, Items, InitDeclarator, Declaration, Assert, ForInit, Statement}
use Rattle.c_syntax.specs.TreeUnit.{BlockItem, BlockItems, SwitchItem, SwitchItems, Function, External, Tree}

abbrev mutual
  pub initializer_of : i.Initializer → Initializer
  initializer_of (i.Expression expr) = unit.Single (expr_of expr)
  initializer_of (i.Braces' pos _ items comma) = unit.Braces pos (items_row items) comma

  pub item_of : m.Item → Item
  item_of (m.Plain initializer) = unit.Plain (initializer_of initializer)
  item_of (m.Member pos name initializer) = unit.ForMember pos name (initializer_of initializer)
  item_of (m.Index pos index initializer) = unit.ForIndex pos (expr_of index) (initializer_of initializer)

  pub items_row : {count : _} → i.Row_of-Item count → Items
  items_row i.end_of-Item = unit.NoItem
  items_row (i.more_of-Item first rest) = unit.MoreItems (item_of first) (items_row rest)

abbrev pub init_declarator_of : l.InitDeclarator → InitDeclarator
init_declarator_of one =
    record { declarator = declarator_of one.declarator; initializer = option_map initializer_of one.initializer }

abbrev pub declaration_of : d.Declaration → Declaration
declaration_of declaration = record {
  specifiers = specifiers_of declaration.specifiers.items;
  declarators = map init_declarator_of declaration.declarators.items;
}

abbrev pub assert_of : a.Assert → Assert
assert_of assert = record {
  pos = assert.pos;
  condition = expr_of assert.condition;
  message = literals_of assert.message;
}

abbrev pub for_init_of : f.ForInit → ForInit
for_init_of (init.Declaration declaration) = unit.WithDeclaration (declaration_of declaration)
for_init_of (init.Expression expr) = unit.WithExpression (option_map expr_of expr)

abbrev mutual
  pub statement_of : s.Statement → Statement
  statement_of (s.Block' _ items) = unit.Block (block_row items)
  statement_of (s.ExprStmt expr) = unit.ExprStmt (option_map expr_of expr)
  statement_of (s.If' pos test _ then s.None') = unit.If pos (expr_of test) (statement_of then)
  statement_of (s.If' pos test _ then (s.Some' _ else)) =
      unit.IfElse pos (expr_of test) (statement_of then) (statement_of else)
  statement_of (s.Switch' pos test _ items) = unit.Switch pos (expr_of test) (switch_row items)
  statement_of (s.While' pos test _ body) = unit.While pos (expr_of test) (statement_of body)
  statement_of (s.Do' pos _ body test) = unit.Do pos (statement_of body) (expr_of test)
  statement_of (s.For' pos init test step _ body) =
      unit.For pos (for_init_of init) (option_map expr_of test) (option_map expr_of step) (statement_of body)
  statement_of (s.Break pos) = unit.Break pos
  statement_of (s.Continue pos) = unit.Continue pos
  statement_of (s.Return pos value) = unit.Return pos (option_map expr_of value)

  pub block_item_of : b.BlockItem → BlockItem
  block_item_of (b.Declaration declaration) = unit.Declared (declaration_of declaration)
  block_item_of (b.Assert assert) = unit.Asserted (assert_of assert)
  block_item_of (b.Statement statement) = unit.Executes (statement_of statement)

  pub block_row : {count : _} → s.Row_of-BlockItem count → BlockItems
  block_row s.end_of-BlockItem = unit.NoBlockItem
  block_row (s.more_of-BlockItem first rest) = unit.MoreBlockItems (block_item_of first) (block_row rest)

  pub switch_item_of : w.SwitchItem → SwitchItem
  switch_item_of (w.Case pos value) = unit.Case pos (expr_of value)
  switch_item_of (w.Default pos) = unit.Default pos
  switch_item_of (w.Item item) = unit.InBlock (block_item_of item)

  pub switch_row : {count : _} → s.Row_of-SwitchItem count → SwitchItems
  switch_row s.end_of-SwitchItem = unit.NoSwitchItem
  switch_row (s.more_of-SwitchItem first rest) = unit.MoreSwitchItems (switch_item_of first) (switch_row rest)

-- ---- lists of parts

abbrev pub items : List Item → Items
items [] = unit.NoItem
items (first ∷ rest) = unit.MoreItems first (items rest)

abbrev pub block_items : List BlockItem → BlockItems
block_items [] = unit.NoBlockItem
block_items (first ∷ rest) = unit.MoreBlockItems first (block_items rest)

abbrev pub switch_items : List SwitchItem → SwitchItems
switch_items [] = unit.NoSwitchItem
switch_items (first ∷ rest) = unit.MoreSwitchItems first (switch_items rest)

abbrev pub function_of : u.Function → Function
function_of function = record {
  specifiers = specifiers_of function.specifiers.items;
  declarator = declarator_of function.declarator;
  body = block_items (map block_item_of function.body.items);
}

abbrev pub external_of : x.External → External
external_of (external.Function function) = unit.Defines (function_of function)
external_of (external.Declaration declaration) = unit.Declaring (declaration_of declaration)
external_of (external.Assert assert) = unit.Asserting (assert_of assert)

abbrev pub tree_of : t.Tree → Tree
tree_of tree = record { externals = map external_of tree.externals.items; end = tree.end }
