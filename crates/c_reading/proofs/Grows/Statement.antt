-- Statements and the unit are read the same with more height.
use Rattle.std.proofs.Common.{ℕ, zero, suc, ◌≤◌, Bool, true, false, List, [], ◌∷◌, ◌++◌, Option, Some, None}
use Rattle.std.proofs.Common.{is_some, arith}
use Rattle.critical_table.specs.declared.pos.Pos.{Pos}
use Rattle.c_lexer.specs.declared.punct.Punct.TheVariants as p
use Rattle.c_lexer.specs.declared.token.Body.{Body}
use Rattle.c_lexer.specs.declared.token.Body.TheVariants as lexeme
use Rattle.c_lexer.specs.declared.word.Word.TheVariants as w
use Rattle.c_reading.specs.declared.declarator_form.DeclaratorForm.TheVariants as form
use Rattle.c_syntax.specs.TreeUnit as unit
use Rattle.c_syntax.specs.TreeUnit.{Statement, BlockItem, SwitchItem}
use Rattle.c_syntax.specs.Levels.{expression, conditional}
use Rattle.c_reading.specs.Parser.{Parser, ◌>>=◌, pure, skip, expect}
use Rattle.c_reading.specs.ReadBody.{begins_statement, begins_block_item, begins_switch_item, Statements, goes_item}
use Rattle.c_reading.specs.ReadBody.{items_with, block_with, switch_with, an_expr, optional, controlling}
use Rattle.c_reading.specs.ReadBody.{else_by, if_on}
use Rattle.c_reading.specs.ReadBody.{switch_on, while_on, do_on, for_init_by, for_init, for_on, statement_by}
use Rattle.c_reading.specs.ReadBody.{statement_at, block_item_at, case_on, switch_item_at, lowest_statements}
use Rattle.c_reading.specs.ReadBody.{statements, block_lower, is_body, function_scope, external_declared, external_on}
use Rattle.c_reading.specs.ReadBody.{external_by, external_at, externals}
use Rattle.c_syntax.specs.ViewUnit.{switch_items}
use Rattle.c_reading.specs.ReadToken.{is_mark, is_word, begins_type}
use Rattle.c_syntax.specs.Scopes.{Scope, predeclared, expr_adds, specifiers_add}
use Rattle.c_syntax.specs.ScopesUnit.{optional_adds, for_init_adds, block_item_adds, switch_item_adds, external_adds}
use Rattle.c_syntax.specs.Tree.{Expr, Specifiers, Declarator}
use Rattle.c_syntax.specs.ViewUnit.{block_items}
use Rattle.c_reading.proofs.Grows.Steps.{Grows, Grown, grown_same, deep_grown, grown_bind, grown_then, grown_before}
use Rattle.c_reading.proofs.Grows.Steps.{grown_skip, grown_peek, grown_here, grown_choose, grown_deeper, many_grown}
use Rattle.c_reading.proofs.Grows.All.{parsers_grown}
use Rattle.c_reading.proofs.Grows.Expr.{grown_expr_lower}
use Rattle.c_reading.proofs.Grows.Declaration.{declared_on_grown, declaration_at_grown, assert_at_grown}
use Rattle.c_reading.proofs.Grows.Declaration.{declaration_lower_grown}
use Rattle.c_reading.proofs.Viable.Unfit.{unless_grown, statement_at_refuses, block_item_at_refuses}
use Rattle.c_reading.proofs.Viable.Unfit.{switch_item_at_refuses}

pub record StatementsGrown (r s : Statements) : Type 0 where
  pub statement : (scope : Scope) → Grown (r.statement scope) (s.statement scope)
  pub block_item : (scope : Scope) → Grown (r.block_item scope) (s.block_item scope)
  pub switch_item : (scope : Scope) → Grown (r.switch_item scope) (s.switch_item scope)

items_grown : {A L : Type 0} (adds : A → Scope) (make : List A → L) (item item' : Scope → Parser A)
    → ((scope : Scope) → Grown (item scope) (item' scope)) → (scope : Scope)
    → Grown (items_with adds make item scope) (items_with adds make item' scope)
items_grown adds make item item' on scope =
    grown_then _ _ (λ all. expect (is_mark p.CloseBrace) >>= λ _. pure (make all))
    (many_grown goes_item item item' (λ s one. s ++ adds one) on scope)

block_with_grown : (item item' : Scope → Parser BlockItem) → ((scope : Scope) → Grown (item scope) (item' scope))
    → (scope : Scope) → Grown (block_with item scope) (block_with item' scope)
unfolding block_with
block_with_grown = items_grown block_item_adds block_items

switch_with_grown : (item item' : Scope → Parser SwitchItem) → ((scope : Scope) → Grown (item scope) (item' scope))
    → (scope : Scope) → Grown (switch_with item scope) (switch_with item' scope)
unfolding switch_with
switch_with_grown = items_grown switch_item_adds switch_items

module _ (k k' : ℕ) (le : k ≤ k') (low low' : Statements) (on : StatementsGrown low low') where
  an_expr_grown : (scope : Scope) → Grown (an_expr k low scope) (an_expr k' low' scope)
  unfolding an_expr
  an_expr_grown scope = grown_expr_lower scope k k' _ _ le ((parsers_grown k k' le).expr scope expression)

  optional_grown : (ends : Option Body → Bool) (scope : Scope)
      → Grown (optional k low ends scope) (optional k' low' ends scope)
  unfolding optional
  optional_grown ends scope = grown_peek _ _ (λ o. grown_choose (ends o) _ _ _ _ (grown_same (skip (pure None)))
      (grown_then _ _ (λ e. expect ends >>= λ _. pure (Some e)) (an_expr_grown scope)))

  controlling_grown : (scope : Scope) → Grown (controlling k low scope) (controlling k' low' scope)
  unfolding controlling
  controlling_grown scope = grown_bind _ _ _ _ (grown_same (expect (is_mark p.OpenParen)))
      (λ _. grown_then _ _ (λ test. expect (is_mark p.CloseParen) >>= λ _. pure test)
      ((parsers_grown k k' le).expr scope expression))

  else_by_grown : (scope : Scope) (pos : Pos) (test : Expr) (then : Statement) (more : Bool)
      → Grown (else_by k low scope pos test then more) (else_by k' low' scope pos test then more)
  else_by_grown scope pos test then true =
      grown_skip _ _ (grown_then _ _ (λ else. pure (unit.IfElse pos test then else)) (on.statement scope))
  else_by_grown scope pos test then false = grown_same (pure (unit.If pos test then))

  if_on_grown : (scope : Scope) (pos : Pos) → Grown (if_on k low scope pos) (if_on k' low' scope pos)
  unfolding if_on
  if_on_grown scope pos =
      grown_bind _ _ _ _ (controlling_grown scope)
      (λ test. grown_bind _ _ _ _ (on.statement (scope ++ expr_adds test)) (λ then.
      grown_peek _ _ (λ o. else_by_grown (scope ++ expr_adds test) pos test then (is_word w.Else o))))

  switch_on_grown : (scope : Scope) (pos : Pos) → Grown (switch_on k low scope pos) (switch_on k' low' scope pos)
  unfolding switch_on
  switch_on_grown scope pos = grown_before _ _ (is_mark p.OpenBrace) _ _ (controlling_grown scope) (λ test.
      grown_then _ _ (λ all. pure (unit.Switch pos test all))
      (switch_with_grown low.switch_item low'.switch_item on.switch_item (scope ++ expr_adds test)))

  while_on_grown : (scope : Scope) (pos : Pos) → Grown (while_on k low scope pos) (while_on k' low' scope pos)
  unfolding while_on
  while_on_grown scope pos =
      grown_bind _ _ _ _ (controlling_grown scope)
      (λ test. grown_then _ _ (λ body. pure (unit.While pos test body)) (on.statement (scope ++ expr_adds test)))

  do_on_grown : (scope : Scope) (pos : Pos) → Grown (do_on k low scope pos) (do_on k' low' scope pos)
  unfolding do_on
  do_on_grown scope pos = grown_before _ _ (is_word w.While) _ _ (on.statement scope)
      (λ body. grown_then _ _ (λ test. expect (is_mark p.Semicolon) >>= λ _. pure (unit.Do pos body test))
      (controlling_grown scope))

  for_init_by_grown : (scope : Scope) (declares : Bool)
      → Grown (for_init_by k low scope declares) (for_init_by k' low' scope declares)
  for_init_by_grown scope true =
      grown_then _ _ (λ one. pure (unit.WithDeclaration one)) (declaration_lower_grown k k' le scope)
  for_init_by_grown scope false =
      grown_then _ _ (λ e. pure (unit.WithExpression e)) (optional_grown (is_mark p.Semicolon) scope)

  for_init_grown : (scope : Scope) → Grown (for_init k low scope) (for_init k' low' scope)
  unfolding for_init
  for_init_grown scope = grown_peek _ _ (λ o. for_init_by_grown scope (begins_type scope o))

  for_on_grown : (scope : Scope) (pos : Pos) → Grown (for_on k low scope pos) (for_on k' low' scope pos)
  unfolding for_on
  for_on_grown scope pos =
      grown_bind _ _ _ _ (grown_same (expect (is_mark p.OpenParen)))
      (λ _. grown_bind _ _ _ _ (for_init_grown scope) (λ init.
      grown_bind _ _ _ _ (optional_grown (is_mark p.Semicolon) (scope ++ for_init_adds init)) (λ test.
      grown_bind _ _ _ _ (optional_grown (is_mark p.CloseParen) (scope ++ for_init_adds init ++ optional_adds test))
      (λ step.
      grown_then _ _ (λ body. pure (unit.For pos init test step body))
      (on.statement (scope ++ for_init_adds init ++ optional_adds test ++ optional_adds step))))))

  block_grown : (scope : Scope)
      → Grown (block_with low.block_item scope >>= λ all. pure (unit.Block all)) (block_with low'.block_item scope
      >>= λ all. pure (unit.Block all))
  block_grown scope =
      grown_then _ _ (λ all. pure (unit.Block all))
      (block_with_grown low.block_item low'.block_item on.block_item scope)

  returned_grown : (scope : Scope) (pos : Pos)
      → Grown (optional k low (is_mark p.Semicolon) scope >>= λ value. pure (unit.Return pos value))
      (optional k' low' (is_mark p.Semicolon) scope >>= λ value. pure (unit.Return pos value))
  returned_grown scope pos =
      grown_then _ _ (λ value. pure (unit.Return pos value)) (optional_grown (is_mark p.Semicolon) scope)

  expression_statement_grown : (scope : Scope)
      → Grown (optional k low (is_mark p.Semicolon) scope >>= λ e. pure (unit.ExprStmt e))
      (optional k' low' (is_mark p.Semicolon) scope >>= λ e. pure (unit.ExprStmt e))
  expression_statement_grown scope =
      grown_then _ _ (λ e. pure (unit.ExprStmt e)) (optional_grown (is_mark p.Semicolon) scope)

  statement_at_grown : (scope : Scope) → Grown (statement_at k low scope) (statement_at k' low' scope)
  unfolding statement_at
  statement_at_grown scope = grown_here _ _ (λ pos. grown_peek _ _ (by pos))
    where
      by : (pos : Pos) (o : Option Body) → Grown (statement_by k low scope pos o) (statement_by k' low' scope pos o)
      by pos (Some (lexeme.Mark p.OpenBrace)) = grown_skip _ _ (block_grown scope)
      by pos (Some (lexeme.Word w.If)) = grown_deeper k k' _ _ le (grown_skip _ _ (if_on_grown scope pos))
      by pos (Some (lexeme.Word w.Switch)) = grown_deeper k k' _ _ le (grown_skip _ _ (switch_on_grown scope pos))
      by pos (Some (lexeme.Word w.While)) = grown_deeper k k' _ _ le (grown_skip _ _ (while_on_grown scope pos))
      by pos (Some (lexeme.Word w.Do)) = grown_deeper k k' _ _ le (grown_skip _ _ (do_on_grown scope pos))
      by pos (Some (lexeme.Word w.For)) = grown_deeper k k' _ _ le (grown_skip _ _ (for_on_grown scope pos))
      by pos (Some (lexeme.Word w.Break)) =
          grown_same (skip (expect (is_mark p.Semicolon) >>= λ _. pure (unit.Break pos)))
      by pos (Some (lexeme.Word w.Continue)) =
          grown_same (skip (expect (is_mark p.Semicolon) >>= λ _. pure (unit.Continue pos)))
      by pos (Some (lexeme.Word w.Return)) = grown_skip _ _ (returned_grown scope pos)
      by pos o = expression_statement_grown scope

  -- ---- items of a block, and of a switch

  block_item_at_grown : (scope : Scope) → Grown (block_item_at k low scope) (block_item_at k' low' scope)
  unfolding block_item_at
  block_item_at_grown scope = grown_peek _ _ (λ o.
      grown_choose (begins_type scope o) _ _ _ _
      (grown_then _ _ (λ one. pure (unit.Declared one)) (declaration_at_grown k k' le scope))
      (grown_choose (is_word w.StaticAssert o) _ _ _ _
      (grown_then _ _ (λ one. pure (unit.Asserted one)) (assert_at_grown k k' le scope))
      (grown_then _ _ (λ one. pure (unit.Executes one)) (statement_at_grown scope))))

  case_on_grown : (scope : Scope) (pos : Pos) → Grown (case_on k low scope pos) (case_on k' low' scope pos)
  unfolding case_on
  case_on_grown scope pos =
      grown_then _ _ (λ value. expect (is_mark p.Colon) >>= λ _. pure (unit.Case pos value))
      ((parsers_grown k k' le).expr scope conditional)

  switch_item_at_grown : (scope : Scope) → Grown (switch_item_at k low scope) (switch_item_at k' low' scope)
  unfolding switch_item_at
  switch_item_at_grown scope = grown_here _ _ (λ pos. grown_peek _ _ (λ o.
      grown_choose (is_word w.Case o) _ _ _ _ (grown_deeper k k' _ _ le (grown_skip _ _ (case_on_grown scope pos)))
      (grown_choose (is_word w.Default o) _ _ _ _
      (grown_same (skip (expect (is_mark p.Colon) >>= λ _. pure (unit.Default pos))))
      (grown_then _ _ (λ one. pure (unit.InBlock one)) (block_item_at_grown scope)))))

pub statements_grown : (k j : ℕ) → k ≤ j → StatementsGrown (statements k) (statements j)
statements_grown zero zero le = record {
  statement = λ scope. grown_same (lowest_statements.statement scope);
  block_item = λ scope. grown_same (lowest_statements.block_item scope);
  switch_item = λ scope. grown_same (lowest_statements.switch_item scope);
}
statements_grown zero (suc j) le = record {
  statement = λ scope. unless_grown (begins_statement scope) _ (statement_at_refuses j (statements j) scope);
  block_item = λ scope. unless_grown (begins_block_item scope) _ (block_item_at_refuses j (statements j) scope);
  switch_item = λ scope. unless_grown (begins_switch_item scope) _ (switch_item_at_refuses j (statements j) scope);
}
statements_grown (suc k) zero le = absurd (omega arith)
statements_grown (suc k) (suc j) le =
    let low : k ≤ j = omega arith in
    let on = statements_grown k j low in
    record {
      statement = statement_at_grown k j low (statements k) (statements j) on;
      block_item = block_item_at_grown k j low (statements k) (statements j) on;
      switch_item = switch_item_at_grown k j low (statements k) (statements j) on;
    }

-- ---- the unit

block_lower_grown : (k j : ℕ) → k ≤ j → (scope : Scope) → Grown (block_lower k scope) (block_lower j scope)
block_lower_grown zero j le scope = deep_grown (block_lower j scope)
block_lower_grown (suc k) zero le scope = absurd (omega arith)
block_lower_grown (suc k) (suc j) le scope =
    block_with_grown (statements k).block_item (statements j).block_item
    (statements_grown k j (omega arith)).block_item scope

module _ (k k' : ℕ) (le : k ≤ k') where
  external_declared_grown : (scope : Scope) (all : Specifiers) (one : Declarator) (defines : Bool)
      → Grown (external_declared k scope all one defines) (external_declared k' scope all one defines)
  external_declared_grown scope all one true =
      grown_skip _ _
      (grown_then _ _ (λ items. pure (unit.Defines (record { specifiers = all; declarator = one; body = items })))
      (block_lower_grown k k' le (function_scope k scope all one)))
  external_declared_grown scope all one false =
      grown_then _ _ (λ found. pure (unit.Declaring found))
      (declared_on_grown k k' le (scope ++ specifiers_add all) all one)

  external_on_grown : (scope : Scope) (all : Specifiers) (one : Declarator)
      → Grown (external_on k scope all one) (external_on k' scope all one)
  unfolding external_on
  external_on_grown scope all one = grown_peek _ _ (λ o. external_declared_grown scope all one (is_body one o))

  external_by_grown : (scope : Scope) (all : Specifiers) (over : Bool)
      → Grown (external_by k scope all over) (external_by k' scope all over)
  external_by_grown scope all true =
      grown_same (skip (pure (unit.Declaring (record { specifiers = all; declarators = [] }))))
  external_by_grown scope all false =
      grown_bind _ _ _ _ ((parsers_grown k k' le).declarator form.Named (scope ++ specifiers_add all))
      (external_on_grown scope all)

  external_at_grown : (scope : Scope) → Grown (external_at k scope) (external_at k' scope)
  unfolding external_at
  external_at_grown scope = grown_peek _ _ (λ o.
      grown_choose (is_word w.StaticAssert o) _ _ _ _
      (grown_then _ _ (λ one. pure (unit.Asserting one)) (assert_at_grown k k' le scope))
      (grown_bind _ _ _ _ ((parsers_grown k k' le).specifiers scope)
      (λ all. grown_peek _ _ (λ next. external_by_grown scope all (is_mark p.Semicolon next)))))

  externals_grown : Grown (externals k) (externals k')
  unfolding externals
  externals_grown =
      grown_bind _ _ _ _ (external_at_grown predeclared) (λ first. grown_then _ _ (λ rest. pure (first ∷ rest))
      (many_grown (λ s o. is_some o) (external_at k) (external_at k') (λ s one. s ++ external_adds one)
      external_at_grown (predeclared ++ external_adds first)))

pub externals_grow : (k j : ℕ) → k ≤ j → Grows (externals k) (externals j)
externals_grow k j le = (externals_grown k j le).grows
