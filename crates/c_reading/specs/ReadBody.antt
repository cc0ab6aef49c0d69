-- How initializers, declarations, statements and the unit are read.
use Rattle.std.specs.Prelude.{ℕ, zero, suc, nat_le, Bool, true, false, ◌&&◌, ◌||◌, not, List, [], ◌∷◌, ◌++◌, Option}
use Rattle.std.specs.Prelude.{Some, None, is_some}
use Rattle.critical_table.specs.declared.pos.Pos.{Pos}
use Rattle.c_lexer.specs.declared.punct.Punct.TheVariants as p
use Rattle.c_lexer.specs.declared.token.Body.{Body}
use Rattle.c_lexer.specs.declared.token.Body.TheVariants as lexeme
use Rattle.c_lexer.specs.declared.word.Word.TheVariants as w
use Rattle.c_reading.specs.declared.declarator_form.DeclaratorForm.TheVariants as form
use Rattle.c_syntax.specs.Levels.{expression, assignment, conditional}
use Rattle.c_reading.specs.Parser.{Parser, Unfit, TooDeep, ◌>>=◌, pure, fail, peek, here, skip, choose, deeper}
use Rattle.c_reading.specs.Parser.{expect, many, comma_list, more_listed, ones}
use Rattle.c_reading.specs.ReadToken.{is_mark, is_word, name_of, begins_type}
use Rattle.c_reading.specs.ReadExpr.{expr_lower, begins_expr, pieces}
use Rattle.c_reading.specs.ReadSpecifier.{parsers}
use Rattle.c_syntax.specs.Scopes.{Scope, predeclared, names_types, own_name, declared_if, expr_adds, specifiers_add}
use Rattle.c_syntax.specs.Scopes.{declarator_adds}
use Rattle.c_syntax.specs.ScopesUnit.{item_adds, init_adds, optional_adds, for_init_adds, block_item_adds}
use Rattle.c_syntax.specs.ScopesUnit.{switch_item_adds, own_parameters, body_scope, external_adds}
use Rattle.c_syntax.specs.Tree.{Expr, Specifiers, Declarator}
use Rattle.c_syntax.specs.TreeUnit as unit
use Rattle.c_syntax.specs.TreeUnit.{Initializer, Item, InitDeclarator, Declaration, Assert, ForInit, Statement}
use Rattle.c_syntax.specs.TreeUnit.{BlockItem, BlockItems, SwitchItem, SwitchItems, External}
use Rattle.c_syntax.specs.ViewUnit.{items, switch_items, block_items}

-- ---- initializers (6.7.9)

abbrev pub begins_initializer : Scope → Option Body → Bool
begins_initializer scope o = begins_expr scope o || is_mark p.OpenBrace o

abbrev pub begins_item : Scope → Option Body → Bool
begins_item scope o = begins_initializer scope o || is_mark p.Dot o || is_mark p.OpenBracket o

-- a node of the class, where the token may come before any height is left
abbrev pub unless_deep : {A : Type 0} → Bool → Parser A
unless_deep begins = choose begins (fail TooDeep) (fail Unfit)

pub record Initializers : Type 0 where
  pub initializer : Scope → Parser Initializer
  pub item : Scope → Parser Item

module _ (k : ℕ) (low : Initializers) where
  unfoldable pub listed_items : Scope → Parser (List Item × Bool)
  listed_items = comma_list (is_mark p.Comma) (is_mark p.CloseBrace) (pure tt) low.item (λ s one. s ++ item_adds one)

  unfoldable pub braces : Scope → Pos → Parser Initializer
  braces scope pos = listed_items scope >>= λ all. expect (is_mark p.CloseBrace)
      >>= λ _. pure (unit.Braces pos (items all.0) all.1)

  -- an item has height 2 at least, so braces have height 3
  unfoldable pub initializer_at : Scope → Parser Initializer
  initializer_at scope = here (λ pos. peek (λ o.
      choose (is_mark p.OpenBrace o) (choose (nat_le 2 k) (skip (braces scope pos)) (fail TooDeep))
      ((parsers (suc k)).expr scope assignment >>= λ e. pure (unit.Single e))))

  abbrev pub member_named : Scope → Pos → Option (List ℕ) → Parser Item
  member_named scope pos None = fail Unfit
  member_named scope pos (Some x) =
      skip (expect (is_mark p.Assign) >>= λ _. low.initializer scope >>= λ value. pure (unit.ForMember pos x value))

  -- behind the dot
  unfoldable pub member_item : Scope → Pos → Parser Item
  member_item scope pos = peek (λ o. member_named scope pos (name_of o))

  -- behind the bracket
  unfoldable pub index_item : Scope → Pos → Parser Item
  index_item scope pos =
      (parsers k).expr scope conditional >>= λ index. expect (is_mark p.CloseBracket)
      >>= λ _. expect (is_mark p.Assign) >>= λ _.
      low.initializer (scope ++ expr_adds index) >>= λ value. pure (unit.ForIndex pos index value)

  unfoldable pub item_at : Scope → Parser Item
  item_at scope = here (λ pos. peek (λ o.
      choose (is_mark p.Dot o) (deeper k (skip (member_item scope pos)))
      (choose (is_mark p.OpenBracket o) (deeper k (skip (index_item scope pos)))
      (low.initializer scope >>= λ value. pure (unit.Plain value)))))

abbrev pub lowest_initializers : Initializers
lowest_initializers = record {
  initializer = λ scope. peek (λ o. unless_deep (begins_initializer scope o));
  item = λ scope. peek (λ o. unless_deep (begins_item scope o));
}

abbrev pub initializers : ℕ → Initializers
initializers zero = lowest_initializers
initializers (suc k) = record { initializer = initializer_at k (initializers k); item = item_at k (initializers k) }

-- ---- declarations (6.7)

module _ (k : ℕ) where
  -- what follows a declarator
  abbrev pub init_by : Scope → Declarator → Bool → Parser InitDeclarator
  init_by scope one true =
      skip ((initializers k).initializer scope
      >>= λ value. pure (record { declarator = one; initializer = Some value }))
  init_by scope one false = pure (record { declarator = one; initializer = None })

  -- in the scope behind the declarator, which its name is not yet in
  abbrev pub init_in : Bool → Scope → Declarator → Parser InitDeclarator
  init_in names_type scope one =
      peek (λ o. init_by (scope ++ declared_if names_type (own_name one)) one (is_mark p.Assign o))

  unfoldable pub init_on : Bool → Scope → Declarator → Parser InitDeclarator
  init_on names_type scope one = init_in names_type (scope ++ declarator_adds one) one

  unfoldable pub init_declarator : Bool → Scope → Parser InitDeclarator
  init_declarator names_type scope = (parsers k).declarator form.Named scope >>= init_on names_type scope

  abbrev pub init_declarator_adds : Bool → InitDeclarator → Scope
  init_declarator_adds names_type one =
      declarator_adds one.declarator ++ declared_if names_type (own_name one.declarator) ++ init_adds one.initializer

  -- the declarators behind a first one
  unfoldable pub more_declarators : Bool → Scope → Parser (List (Option InitDeclarator))
  more_declarators names_type =
      more_listed (is_mark p.Comma) (λ o. false) (pure tt) (init_declarator names_type)
      (λ s one. s ++ init_declarator_adds names_type one)

  -- and the first one before them
  abbrev pub all_declarators : Bool → Scope → InitDeclarator → Parser (List InitDeclarator)
  all_declarators names_type scope first = more_declarators names_type scope >>= λ rest. pure (first ∷ ones rest)

  -- behind the first declarator and its initializer, in the scope behind them
  abbrev pub declared_in : Scope → Specifiers → InitDeclarator → Parser Declaration
  declared_in scope all first =
      more_declarators (names_types all) scope >>= λ rest.
      expect (is_mark p.Semicolon) >>= λ _. pure (record { specifiers = all; declarators = first ∷ ones rest })

  -- behind the first declarator
  unfoldable pub declared_on : Scope → Specifiers → Declarator → Parser Declaration
  declared_on scope all one =
      init_on (names_types all) scope one
      >>= λ first. declared_in (scope ++ init_declarator_adds (names_types all) first) all first

  abbrev pub declaration_by : Scope → Specifiers → Bool → Parser Declaration
  declaration_by scope all true = skip (pure (record { specifiers = all; declarators = [] }))
  declaration_by scope all false = (parsers k).declarator form.Named scope >>= λ one. declared_on scope all one

  unfoldable pub declaration_on : Scope → Specifiers → Parser Declaration
  declaration_on scope all = peek (λ o. declaration_by (scope ++ specifiers_add all) all (is_mark p.Semicolon o))

  unfoldable pub declaration_at : Scope → Parser Declaration
  declaration_at scope = (parsers k).specifiers scope >>= declaration_on scope

  -- ---- static assertions (6.7.10)

  abbrev pub message_by : Pos → Expr → Option Body → Parser Assert
  message_by pos test (Some (lexeme.Literal units wide)) =
      skip (pieces wide >>= λ more. expect (is_mark p.CloseParen) >>= λ _. expect (is_mark p.Semicolon) >>= λ _.
      pure (record { pos = pos; condition = test; message = record { pieces = units ∷ more; wide = wide } }))
  message_by pos test _ = fail Unfit

  unfoldable pub message : Pos → Expr → Parser Assert
  message pos test = peek (message_by pos test)

  -- behind the word
  unfoldable pub assert_on : Scope → Pos → Parser Assert
  assert_on scope pos =
      expect (is_mark p.OpenParen) >>= λ _. (parsers k).expr scope conditional >>= λ test. expect (is_mark p.Comma)
      >>= λ _. message pos test

  unfoldable pub assert_at : Scope → Parser Assert
  assert_at scope = here (λ pos. deeper k (skip (assert_on scope pos)))

-- a declaration of this height at most, in which a token may come before any height is left
abbrev pub declaration_lower : ℕ → Scope → Parser Declaration
declaration_lower zero scope = fail TooDeep
declaration_lower (suc k) scope = declaration_at k scope

-- ---- statements (6.8)

-- the words that begin a statement
abbrev pub begins_statement_word : Option Body → Bool
begins_statement_word (Some (lexeme.Word w.If)) = true
begins_statement_word (Some (lexeme.Word w.Switch)) = true
begins_statement_word (Some (lexeme.Word w.While)) = true
begins_statement_word (Some (lexeme.Word w.Do)) = true
begins_statement_word (Some (lexeme.Word w.For)) = true
begins_statement_word (Some (lexeme.Word w.Break)) = true
begins_statement_word (Some (lexeme.Word w.Continue)) = true
begins_statement_word (Some (lexeme.Word w.Return)) = true
begins_statement_word _ = false

abbrev pub begins_statement : Scope → Option Body → Bool
begins_statement scope o = begins_expr scope o || begins_statement_word o || is_mark p.OpenBrace o
    || is_mark p.Semicolon o

abbrev pub begins_block_item : Scope → Option Body → Bool
begins_block_item scope o = begins_statement scope o || begins_type scope o || is_word w.StaticAssert o

abbrev pub begins_switch_item : Scope → Option Body → Bool
begins_switch_item scope o = begins_block_item scope o || is_word w.Case o || is_word w.Default o

-- the token ends no block
abbrev pub goes_item : Scope → Option Body → Bool
goes_item scope o = is_some o && not (is_mark p.CloseBrace o)

pub record Statements : Type 0 where
  pub statement : Scope → Parser Statement
  pub block_item : Scope → Parser BlockItem
  pub switch_item : Scope → Parser SwitchItem

-- the items of a block or of a switch, each with the names that it adds, up to the token that ends them
abbrev pub item_run : {A : Type 0} → (A → Scope) → (Scope → Parser A) → Scope → Parser (List A)
item_run adds item = many goes_item item (λ s one. s ++ adds one)

-- and the brace behind them
abbrev pub items_with : {A L : Type 0} → (A → Scope) → (List A → L) → (Scope → Parser A) → Scope → Parser L
items_with adds make item scope =
    item_run adds item scope >>= λ all. expect (is_mark p.CloseBrace) >>= λ _. pure (make all)

abbrev pub block_run : (Scope → Parser BlockItem) → Scope → Parser (List BlockItem)
block_run = item_run block_item_adds

abbrev pub switch_run : (Scope → Parser SwitchItem) → Scope → Parser (List SwitchItem)
switch_run = item_run switch_item_adds

-- behind an opening brace
unfoldable pub block_with : (Scope → Parser BlockItem) → Scope → Parser BlockItems
block_with item scope = items_with block_item_adds block_items item scope

unfoldable pub switch_with : (Scope → Parser SwitchItem) → Scope → Parser SwitchItems
switch_with item scope = items_with switch_item_adds switch_items item scope

-- behind the word of a statement that has nothing but a mark behind it
abbrev pub jump_on : Statement → Parser Statement
jump_on jump = expect (is_mark p.Semicolon) >>= λ _. pure jump

module _ (k : ℕ) (low : Statements) where
  unfoldable pub an_expr : Scope → Parser Expr
  an_expr scope = expr_lower scope k ((parsers k).expr scope expression)

  -- up to this mark, an expression or none
  unfoldable pub optional : (Option Body → Bool) → Scope → Parser (Option Expr)
  optional ends scope =
      peek (λ o. choose (ends o) (skip (pure None)) (an_expr scope >>= λ e. expect ends >>= λ _. pure (Some e)))

  -- behind the word
  unfoldable pub controlling : Scope → Parser Expr
  controlling scope = expect (is_mark p.OpenParen) >>= λ _. (parsers k).expr scope expression
      >>= λ test. expect (is_mark p.CloseParen) >>= λ _. pure test

  abbrev pub else_by : Scope → Pos → Expr → Statement → Bool → Parser Statement
  else_by scope pos test then true = skip (low.statement scope >>= λ else. pure (unit.IfElse pos test then else))
  else_by scope pos test then false = pure (unit.If pos test then)

  unfoldable pub if_on : Scope → Pos → Parser Statement
  if_on scope pos = controlling scope >>= λ test. low.statement (scope ++ expr_adds test)
      >>= λ then. peek (λ o. else_by (scope ++ expr_adds test) pos test then (is_word w.Else o))

  unfoldable pub switch_on : Scope → Pos → Parser Statement
  switch_on scope pos = controlling scope >>= λ test. expect (is_mark p.OpenBrace)
      >>= λ _. switch_with low.switch_item (scope ++ expr_adds test) >>= λ all. pure (unit.Switch pos test all)

  unfoldable pub while_on : Scope → Pos → Parser Statement
  while_on scope pos = controlling scope >>= λ test. low.statement (scope ++ expr_adds test)
      >>= λ body. pure (unit.While pos test body)

  unfoldable pub do_on : Scope → Pos → Parser Statement
  do_on scope pos = low.statement scope >>= λ body. expect (is_word w.While) >>= λ _. controlling scope
      >>= λ test. expect (is_mark p.Semicolon) >>= λ _. pure (unit.Do pos body test)

  abbrev pub for_init_by : Scope → Bool → Parser ForInit
  for_init_by scope true = declaration_lower k scope >>= λ one. pure (unit.WithDeclaration one)
  for_init_by scope false = optional (is_mark p.Semicolon) scope >>= λ e. pure (unit.WithExpression e)

  unfoldable pub for_init : Scope → Parser ForInit
  for_init scope = peek (λ o. for_init_by scope (begins_type scope o))

  -- behind how a `for` begins
  abbrev pub for_begun : Scope → Pos → ForInit → Parser Statement
  for_begun scope pos init =
      optional (is_mark p.Semicolon) scope >>= λ test. optional (is_mark p.CloseParen) (scope ++ optional_adds test)
      >>= λ step.
      low.statement (scope ++ optional_adds test ++ optional_adds step)
      >>= λ body. pure (unit.For pos init test step body)

  unfoldable pub for_on : Scope → Pos → Parser Statement
  for_on scope pos = expect (is_mark p.OpenParen) >>= λ _. for_init scope
      >>= λ init. for_begun (scope ++ for_init_adds init) pos init

  abbrev pub compound : Scope → Parser Statement
  compound scope = block_with low.block_item scope >>= λ all. pure (unit.Block all)

  abbrev pub return_on : Scope → Pos → Parser Statement
  return_on scope pos = optional (is_mark p.Semicolon) scope >>= λ value. pure (unit.Return pos value)

  abbrev pub expression_statement : Scope → Parser Statement
  expression_statement scope = optional (is_mark p.Semicolon) scope >>= λ e. pure (unit.ExprStmt e)

  abbrev pub statement_by : Scope → Pos → Option Body → Parser Statement
  statement_by scope pos (Some (lexeme.Mark p.OpenBrace)) = skip (compound scope)
  statement_by scope pos (Some (lexeme.Word w.If)) = deeper k (skip (if_on scope pos))
  statement_by scope pos (Some (lexeme.Word w.Switch)) = deeper k (skip (switch_on scope pos))
  statement_by scope pos (Some (lexeme.Word w.While)) = deeper k (skip (while_on scope pos))
  statement_by scope pos (Some (lexeme.Word w.Do)) = deeper k (skip (do_on scope pos))
  statement_by scope pos (Some (lexeme.Word w.For)) = deeper k (skip (for_on scope pos))
  statement_by scope pos (Some (lexeme.Word w.Break)) = skip (jump_on (unit.Break pos))
  statement_by scope pos (Some (lexeme.Word w.Continue)) = skip (jump_on (unit.Continue pos))
  statement_by scope pos (Some (lexeme.Word w.Return)) = skip (return_on scope pos)
  statement_by scope pos _ = expression_statement scope

  unfoldable pub statement_at : Scope → Parser Statement
  statement_at scope = here (λ pos. peek (statement_by scope pos))

  unfoldable pub block_item_at : Scope → Parser BlockItem
  block_item_at scope = peek (λ o.
      choose (begins_type scope o) (declaration_at k scope >>= λ one. pure (unit.Declared one))
      (choose (is_word w.StaticAssert o) (assert_at k scope >>= λ one. pure (unit.Asserted one))
      (statement_at scope >>= λ one. pure (unit.Executes one))))

  unfoldable pub case_on : Scope → Pos → Parser SwitchItem
  case_on scope pos = (parsers k).expr scope conditional >>= λ value. expect (is_mark p.Colon)
      >>= λ _. pure (unit.Case pos value)

  unfoldable pub switch_item_at : Scope → Parser SwitchItem
  switch_item_at scope = here (λ pos. peek (λ o.
      choose (is_word w.Case o) (deeper k (skip (case_on scope pos)))
      (choose (is_word w.Default o) (skip (expect (is_mark p.Colon) >>= λ _. pure (unit.Default pos)))
      (block_item_at scope >>= λ one. pure (unit.InBlock one)))))

abbrev pub lowest_statements : Statements
lowest_statements = record {
  statement = λ scope. peek (λ o. unless_deep (begins_statement scope o));
  block_item = λ scope. peek (λ o. unless_deep (begins_block_item scope o));
  switch_item = λ scope. peek (λ o. unless_deep (begins_switch_item scope o));
}

abbrev pub statements : ℕ → Statements
statements zero = lowest_statements
statements (suc k) =
    record {
      statement = statement_at k (statements k);
      block_item = block_item_at k (statements k);
      switch_item =
          switch_item_at k (statements k);
    }

-- ---- the unit (6.9)

-- the items of a block of this height at most
abbrev pub block_lower : ℕ → Scope → Parser BlockItems
block_lower zero scope = fail TooDeep
block_lower (suc k) scope = block_with (statements k).block_item scope

-- the token and the declarator begin the body of a function
abbrev pub is_body : Declarator → Option Body → Bool
is_body one o = is_mark p.OpenBrace o && is_some (own_parameters one)

module _ (k : ℕ) where
  abbrev pub function_scope : Scope → Specifiers → Declarator → Scope
  function_scope scope all one = body_scope scope (record { specifiers = all; declarator = one; body = block_items [] })

  -- a function behind the opening brace of its body, in the scope of the body
  abbrev pub function_in : Scope → Specifiers → Declarator → Parser External
  function_in scope all one =
      block_lower k scope >>= λ items. pure (unit.Defines (record { specifiers = all; declarator = one; body = items }))

  abbrev pub external_declared : Scope → Specifiers → Declarator → Bool → Parser External
  external_declared scope all one true = skip (function_in (function_scope scope all one) all one)
  external_declared scope all one false = declared_on k (scope ++ specifiers_add all) all one
      >>= λ found. pure (unit.Declaring found)

  unfoldable pub external_on : Scope → Specifiers → Declarator → Parser External
  external_on scope all one = peek (λ o. external_declared scope all one (is_body one o))

  abbrev pub external_by : Scope → Specifiers → Bool → Parser External
  external_by scope all true = skip (pure (unit.Declaring (record { specifiers = all; declarators = [] })))
  external_by scope all false = (parsers k).declarator form.Named (scope ++ specifiers_add all)
      >>= external_on scope all

  unfoldable pub external_at : Scope → Parser External
  external_at scope = peek (λ o.
      choose (is_word w.StaticAssert o) (assert_at k scope >>= λ one. pure (unit.Asserting one))
      ((parsers k).specifiers scope >>= λ all. peek (λ next. external_by scope all (is_mark p.Semicolon next))))

-- one external declaration after another, up to the end
unfoldable pub externals : ℕ → Parser (List External)
externals k = external_at k predeclared >>= λ first.
    many (λ s o. is_some o) (external_at k) (λ s one. s ++ external_adds one) (predeclared ++ external_adds first)
    >>= λ rest. pure (first ∷ rest)
