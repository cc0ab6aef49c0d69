-- The tokens of initializers, declarations, statements and the unit: one clause for each node.
use Rattle.std.specs.Prelude.{List, [], ◌∷◌, ◌++◌, map, Option, Some, None}
use Rattle.std.specs.List.{flat_map}
use Rattle.critical_table.specs.declared.pos.Pos.{Pos}
use Rattle.c_lexer.specs.declared.punct.Punct.TheVariants as p
use Rattle.c_lexer.specs.declared.word.Word.TheVariants as w
use Rattle.c_syntax.specs.declared.spelled.Spelled.{Spelled}
use Rattle.c_syntax.specs.Tokens.{word, word_at, mark, mark_at, name, commas, comma_if, spell_pieces}
use Rattle.c_syntax.specs.Tree.{Expr}
use Rattle.c_syntax.specs.Spelling.{spell, spell_specifiers, spell_declarator}
use Rattle.c_syntax.specs.TreeUnit as unit
use Rattle.c_syntax.specs.TreeUnit.{Initializer, Item, Items, InitDeclarator, Declaration, Assert, ForInit, Statement}
use Rattle.c_syntax.specs.TreeUnit.{BlockItem, BlockItems, SwitchItem, SwitchItems, Function, External, Tree}

abbrev mutual
  -- 6.7.9
  pub spell_initializer : Initializer → List Spelled
  spell_initializer (unit.Single expr) = spell expr
  spell_initializer (unit.Braces pos items comma) =
      mark_at pos p.OpenBrace ∷ commas (spelled_items items) ++ comma_if comma ++ mark p.CloseBrace ∷ []

  pub spell_item : Item → List Spelled
  spell_item (unit.Plain initializer) = spell_initializer initializer
  spell_item (unit.ForMember pos x initializer) =
      mark_at pos p.Dot ∷ name x ∷ mark p.Assign ∷ spell_initializer initializer
  spell_item (unit.ForIndex pos index initializer) =
      mark_at pos p.OpenBracket ∷ spell index ++ mark p.CloseBracket ∷ mark p.Assign ∷ spell_initializer initializer

  pub spelled_items : Items → List (List Spelled)
  spelled_items unit.NoItem = []
  spelled_items (unit.MoreItems first rest) = spell_item first ∷ spelled_items rest

-- 6.7
abbrev pub spell_init : Option Initializer → List Spelled
spell_init None = []
spell_init (Some initializer) = mark p.Assign ∷ spell_initializer initializer

abbrev pub spell_init_declarator : InitDeclarator → List Spelled
spell_init_declarator one = spell_declarator one.declarator ++ spell_init one.initializer

abbrev pub spell_declaration : Declaration → List Spelled
spell_declaration declaration =
    spell_specifiers declaration.specifiers
    ++ commas (map spell_init_declarator declaration.declarators) ++ mark p.Semicolon ∷ []

-- 6.7.10
abbrev pub spell_assert : Assert → List Spelled
spell_assert assert =
    word_at assert.pos w.StaticAssert ∷ mark p.OpenParen ∷ spell assert.condition
    ++ mark p.Comma ∷ spell_pieces None assert.message.wide assert.message.pieces
    ++ mark p.CloseParen ∷ mark p.Semicolon ∷ []

abbrev pub spell_optional : Option Expr → List Spelled
spell_optional None = []
spell_optional (Some expr) = spell expr

-- 6.8.5.3; the declaration's own semicolon is the first of the two
abbrev pub spell_for_init : ForInit → List Spelled
spell_for_init (unit.WithDeclaration declaration) = spell_declaration declaration
spell_for_init (unit.WithExpression expr) = spell_optional expr ++ mark p.Semicolon ∷ []

-- the controlling expression of a statement (6.8.4, 6.8.5)
abbrev pub spell_controlling : Expr → List Spelled
spell_controlling test = mark p.OpenParen ∷ spell test ++ mark p.CloseParen ∷ []

abbrev pub spell_for_head : Pos → ForInit → Option Expr → Option Expr → List Spelled
spell_for_head pos init test step =
    word_at pos w.For ∷ mark p.OpenParen ∷ spell_for_init init
    ++ spell_optional test ++ mark p.Semicolon ∷ spell_optional step ++ mark p.CloseParen ∷ []

abbrev mutual
  -- 6.8
  pub spell_statement : Statement → List Spelled
  spell_statement (unit.Block items) = mark p.OpenBrace ∷ spell_block_items items ++ mark p.CloseBrace ∷ []
  spell_statement (unit.ExprStmt expr) = spell_optional expr ++ mark p.Semicolon ∷ []
  spell_statement (unit.If pos test then) = word_at pos w.If ∷ spell_controlling test ++ spell_statement then
  spell_statement (unit.IfElse pos test then else) =
      word_at pos w.If ∷ spell_controlling test ++ spell_statement then ++ word w.Else ∷ spell_statement else
  spell_statement (unit.Switch pos test items) =
      word_at pos w.Switch ∷ spell_controlling test
      ++ mark p.OpenBrace ∷ spell_switch_items items ++ mark p.CloseBrace ∷ []
  spell_statement (unit.While pos test body) = word_at pos w.While ∷ spell_controlling test ++ spell_statement body
  spell_statement (unit.Do pos body test) =
      word_at pos w.Do ∷ spell_statement body ++ word w.While ∷ spell_controlling test ++ mark p.Semicolon ∷ []
  spell_statement (unit.For pos init test step body) = spell_for_head pos init test step ++ spell_statement body
  spell_statement (unit.Break pos) = word_at pos w.Break ∷ mark p.Semicolon ∷ []
  spell_statement (unit.Continue pos) = word_at pos w.Continue ∷ mark p.Semicolon ∷ []
  spell_statement (unit.Return pos value) = word_at pos w.Return ∷ spell_optional value ++ mark p.Semicolon ∷ []

  -- 6.8.2
  pub spell_block_item : BlockItem → List Spelled
  spell_block_item (unit.Declared declaration) = spell_declaration declaration
  spell_block_item (unit.Asserted assert) = spell_assert assert
  spell_block_item (unit.Executes statement) = spell_statement statement

  pub spell_block_items : BlockItems → List Spelled
  spell_block_items unit.NoBlockItem = []
  spell_block_items (unit.MoreBlockItems first rest) = spell_block_item first ++ spell_block_items rest

  -- 6.8.1
  pub spell_switch_item : SwitchItem → List Spelled
  spell_switch_item (unit.Case pos value) = word_at pos w.Case ∷ spell value ++ mark p.Colon ∷ []
  spell_switch_item (unit.Default pos) = word_at pos w.Default ∷ mark p.Colon ∷ []
  spell_switch_item (unit.InBlock item) = spell_block_item item

  pub spell_switch_items : SwitchItems → List Spelled
  spell_switch_items unit.NoSwitchItem = []
  spell_switch_items (unit.MoreSwitchItems first rest) = spell_switch_item first ++ spell_switch_items rest

-- 6.9.1
abbrev pub spell_function : Function → List Spelled
spell_function function =
    spell_specifiers function.specifiers ++ spell_declarator function.declarator
    ++ mark p.OpenBrace ∷ spell_block_items function.body ++ mark p.CloseBrace ∷ []

-- 6.9
abbrev pub spell_external : External → List Spelled
spell_external (unit.Defines function) = spell_function function
spell_external (unit.Declaring declaration) = spell_declaration declaration
spell_external (unit.Asserting assert) = spell_assert assert

-- the place behind the last byte stands behind these
abbrev pub spell_tree : Tree → List Spelled
spell_tree tree = flat_map spell_external tree.externals
