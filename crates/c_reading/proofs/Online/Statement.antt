-- Statements and the unit are read online.
use Rattle.std.proofs.Common.{ℕ, zero, suc, Bool, true, false, List, [], ◌∷◌, ◌++◌, Option, Some, None, is_some, refl}
use Rattle.critical_table.specs.declared.pos.Pos.{Pos}
use Rattle.c_lexer.specs.declared.punct.Punct.TheVariants as p
use Rattle.c_lexer.specs.declared.token.Body.{Body}
use Rattle.c_lexer.specs.declared.token.Body.TheVariants as lexeme
use Rattle.c_lexer.specs.declared.word.Word.TheVariants as w
use Rattle.c_reading.specs.declared.declarator_form.DeclaratorForm.TheVariants as form
use Rattle.c_syntax.specs.TreeUnit as unit
use Rattle.c_syntax.specs.TreeUnit.{Statement, BlockItem, SwitchItem, External}
use Rattle.c_syntax.specs.Levels.{expression, conditional}
use Rattle.c_reading.specs.Parser.{Parser, Unfit, TooDeep, ◌>>=◌, pure, fail, peek, skip, choose, deeper, expect}
use Rattle.c_reading.specs.ReadBody.{unless_deep, begins_statement, begins_block_item, begins_switch_item}
use Rattle.c_reading.specs.ReadBody.{declaration_at, assert_at, Statements, goes_item, items_with, block_with}
use Rattle.c_reading.specs.ReadBody.{switch_with}
use Rattle.c_reading.specs.ReadBody.{an_expr, optional, controlling, else_by, if_on, switch_on, while_on, do_on}
use Rattle.c_reading.specs.ReadBody.{for_init_by, for_init, for_on, statement_by, statement_at, block_item_at}
use Rattle.c_reading.specs.ReadBody.{case_on, switch_item_at, statements, block_lower, is_body, function_scope}
use Rattle.c_reading.specs.ReadBody.{external_declared, external_on, external_by, external_at, externals}
use Rattle.c_syntax.specs.ViewUnit.{switch_items}
use Rattle.c_reading.specs.ReadExpr.{expr_lower, begins_expr}
use Rattle.c_reading.specs.ReadSpecifier.{parsers}
use Rattle.c_reading.specs.ReadToken.{is_mark, is_word, begins_type}
use Rattle.c_syntax.specs.Scopes.{Scope, predeclared, expr_adds, specifiers_add}
use Rattle.c_syntax.specs.ScopesUnit.{optional_adds, for_init_adds, block_item_adds, switch_item_adds, external_adds}
use Rattle.c_syntax.specs.Tree.{Expr, Specifiers, Declarator}
use Rattle.c_syntax.specs.ViewUnit.{block_items}
use Rattle.c_reading.proofs.Online.Steps.{Online, TakesOne, online_pure, online_fail, online_skip, online_peek}
use Rattle.c_reading.proofs.Online.Steps.{online_here, online_choose, online_deeper, online_expect, online_bind}
use Rattle.c_reading.proofs.Online.Steps.{online_before, takes_fail, takes_skip, takes_peek, takes_here, takes_choose}
use Rattle.c_reading.proofs.Online.Steps.{takes_deeper, takes_bind, many_online}
use Rattle.c_reading.proofs.Online.Expr.{online_expr_lower}
use Rattle.c_reading.proofs.Online.All.{parsers_online, parsers_take}
use Rattle.c_reading.proofs.Online.Declaration.{online_unless, declared_on_online, declaration_at_online}
use Rattle.c_reading.proofs.Online.Declaration.{declaration_at_takes, assert_at_online, assert_at_takes}
use Rattle.c_reading.proofs.Online.Declaration.{declaration_lower_online}

pub record StatementsOnline (r : Statements) : Type 0 where
  pub statement : (scope : Scope) → Online (r.statement scope)
  pub block_item : (scope : Scope) → Online (r.block_item scope)
  pub switch_item : (scope : Scope) → Online (r.switch_item scope)
  -- and what they find has a token, so that a list of it ends
  pub block_item_takes : (scope : Scope) → TakesOne (r.block_item scope)
  pub switch_item_takes : (scope : Scope) → TakesOne (r.switch_item scope)

items_online : {A L : Type 0} (adds : A → Scope) (make : List A → L) (item : Scope → Parser A)
    → ((scope : Scope) → Online (item scope)) → ((scope : Scope) → TakesOne (item scope)) → (scope : Scope)
    → Online (items_with adds make item scope)
items_online adds make item on takes scope =
    online_before _ (is_mark p.CloseBrace) _
    (many_online goes_item item (λ s one. s ++ adds one) on (λ s. refl) takes scope)
    (λ all. online_pure (make all))

block_with_online : (item : Scope → Parser BlockItem) → ((scope : Scope) → Online (item scope))
    → ((scope : Scope) → TakesOne (item scope)) → (scope : Scope) → Online (block_with item scope)
unfolding block_with
block_with_online = items_online block_item_adds block_items

switch_with_online : (item : Scope → Parser SwitchItem) → ((scope : Scope) → Online (item scope))
    → ((scope : Scope) → TakesOne (item scope)) → (scope : Scope) → Online (switch_with item scope)
unfolding switch_with
switch_with_online = items_online switch_item_adds switch_items

module _ (k : ℕ) (low : Statements) (on : StatementsOnline low) where
  an_expr_online : (scope : Scope) → Online (an_expr k low scope)
  unfolding an_expr
  an_expr_online scope = online_expr_lower scope k _ ((parsers_online k).expr scope expression)

  an_expr_takes : (scope : Scope) → TakesOne (an_expr k low scope)
  unfolding an_expr expr_lower
  an_expr_takes scope =
      takes_peek (λ o. choose (begins_expr scope o) (deeper k ((parsers k).expr scope expression)) (fail Unfit))
      (λ next.
      takes_choose (begins_expr scope (Some next)) (deeper k ((parsers k).expr scope expression)) (fail Unfit)
      (takes_deeper k ((parsers k).expr scope expression) ((parsers_take k).expr scope expression))
      (takes_fail Unfit))

  some_expr_online : (ends : Option Body → Bool) (scope : Scope)
      → Online (an_expr k low scope >>= λ e. expect ends >>= λ _. pure (Some e))
  some_expr_online ends scope =
      online_before (an_expr k low scope) ends _ (an_expr_online scope) (λ e. online_pure (Some e))

  optional_online : (ends : Option Body → Bool) (scope : Scope) → Online (optional k low ends scope)
  unfolding optional
  optional_online ends scope =
      online_peek _ (λ o. online_choose (ends o) _ _ (online_skip _ (online_pure None)) (some_expr_online ends scope))

  optional_takes : (ends : Option Body → Bool) (scope : Scope) → TakesOne (optional k low ends scope)
  unfolding optional
  optional_takes ends scope =
      takes_peek (λ o. choose (ends o) (skip (pure None)) (an_expr k low scope >>= λ e. expect ends
      >>= λ _. pure (Some e)))
      (λ next. takes_choose (ends (Some next)) _ _ (takes_skip (pure None) (online_pure None))
      (takes_bind (an_expr k low scope) (λ e. expect ends >>= λ _. pure (Some e)) (an_expr_takes scope)
      (λ e. online_bind _ _ (online_expect ends) (λ _. online_pure (Some e)))))

  controlling_online : (scope : Scope) → Online (controlling k low scope)
  unfolding controlling
  controlling_online scope =
      online_bind _ _ (online_expect (is_mark p.OpenParen))
      (λ _. online_before _ (is_mark p.CloseParen) _ ((parsers_online k).expr scope expression)
      (λ test. online_pure test))

  else_by_online : (scope : Scope) (pos : Pos) (test : Expr) (then : Statement) (more : Bool)
      → Online (else_by k low scope pos test then more)
  else_by_online scope pos test then true =
      online_skip _ (online_bind _ _ (on.statement scope) (λ else. online_pure (unit.IfElse pos test then else)))
  else_by_online scope pos test then false = online_pure (unit.If pos test then)

  if_on_online : (scope : Scope) (pos : Pos) → Online (if_on k low scope pos)
  unfolding if_on
  if_on_online scope pos =
      online_bind _ _ (controlling_online scope)
      (λ test. online_bind _ _ (on.statement (scope ++ expr_adds test)) (λ then.
      online_peek _ (λ o. else_by_online (scope ++ expr_adds test) pos test then (is_word w.Else o))))

  switch_on_online : (scope : Scope) (pos : Pos) → Online (switch_on k low scope pos)
  unfolding switch_on
  switch_on_online scope pos = online_before _ (is_mark p.OpenBrace) _ (controlling_online scope) (λ test.
      online_bind _ _ (switch_with_online low.switch_item on.switch_item on.switch_item_takes
      (scope ++ expr_adds test)) (λ all. online_pure (unit.Switch pos test all)))

  while_on_online : (scope : Scope) (pos : Pos) → Online (while_on k low scope pos)
  unfolding while_on
  while_on_online scope pos =
      online_bind _ _ (controlling_online scope)
      (λ test. online_bind _ _ (on.statement (scope ++ expr_adds test))
      (λ body. online_pure (unit.While pos test body)))

  do_on_online : (scope : Scope) (pos : Pos) → Online (do_on k low scope pos)
  unfolding do_on
  do_on_online scope pos =
      online_before _ (is_word w.While) _ (on.statement scope)
      (λ body. online_before _ (is_mark p.Semicolon) _ (controlling_online scope)
      (λ test. online_pure (unit.Do pos body test)))

  for_init_by_online : (scope : Scope) (declares : Bool) → Online (for_init_by k low scope declares)
  for_init_by_online scope true =
      online_bind _ _ (declaration_lower_online k scope) (λ one. online_pure (unit.WithDeclaration one))
  for_init_by_online scope false =
      online_bind _ _ (optional_online (is_mark p.Semicolon) scope) (λ e. online_pure (unit.WithExpression e))

  for_init_online : (scope : Scope) → Online (for_init k low scope)
  unfolding for_init
  for_init_online scope = online_peek _ (λ o. for_init_by_online scope (begins_type scope o))

  for_on_online : (scope : Scope) (pos : Pos) → Online (for_on k low scope pos)
  unfolding for_on
  for_on_online scope pos =
      online_bind _ _ (online_expect (is_mark p.OpenParen)) (λ _. online_bind _ _ (for_init_online scope) (λ init.
      online_bind _ _ (optional_online (is_mark p.Semicolon) (scope ++ for_init_adds init)) (λ test.
      online_bind _ _ (optional_online (is_mark p.CloseParen) (scope ++ for_init_adds init ++ optional_adds test))
      (λ step.
      online_bind _ _ (on.statement (scope ++ for_init_adds init ++ optional_adds test ++ optional_adds step))
      (λ body. online_pure (unit.For pos init test step body))))))

  block_online : (scope : Scope) → Online (block_with low.block_item scope >>= λ all. pure (unit.Block all))
  block_online scope =
      online_bind _ _ (block_with_online low.block_item on.block_item on.block_item_takes scope)
      (λ all. online_pure (unit.Block all))

  jump_online : (jump : Statement) → Online (expect (is_mark p.Semicolon) >>= λ _. pure jump)
  jump_online jump = online_bind _ _ (online_expect (is_mark p.Semicolon)) (λ _. online_pure jump)

  returned_online : (scope : Scope) (pos : Pos)
      → Online (optional k low (is_mark p.Semicolon) scope >>= λ value. pure (unit.Return pos value))
  returned_online scope pos =
      online_bind _ _ (optional_online (is_mark p.Semicolon) scope) (λ value. online_pure (unit.Return pos value))

  expression_statement_online : (scope : Scope)
      → Online (optional k low (is_mark p.Semicolon) scope >>= λ e. pure (unit.ExprStmt e))
  expression_statement_online scope =
      online_bind _ _ (optional_online (is_mark p.Semicolon) scope) (λ e. online_pure (unit.ExprStmt e))

  expression_statement_takes : (scope : Scope)
      → TakesOne (optional k low (is_mark p.Semicolon) scope >>= λ e. pure (unit.ExprStmt e))
  expression_statement_takes scope =
      takes_bind (optional k low (is_mark p.Semicolon) scope) (λ e. pure (unit.ExprStmt e))
      (optional_takes (is_mark p.Semicolon) scope) (λ e. online_pure (unit.ExprStmt e))

  statement_at_online : (scope : Scope) → Online (statement_at k low scope)
  unfolding statement_at
  statement_at_online scope = online_here _ (λ pos. online_peek _ (by pos))
    where
      by : (pos : Pos) (o : Option Body) → Online (statement_by k low scope pos o)
      by pos (Some (lexeme.Mark p.OpenBrace)) = online_skip _ (block_online scope)
      by pos (Some (lexeme.Word w.If)) = online_deeper k _ (online_skip _ (if_on_online scope pos))
      by pos (Some (lexeme.Word w.Switch)) = online_deeper k _ (online_skip _ (switch_on_online scope pos))
      by pos (Some (lexeme.Word w.While)) = online_deeper k _ (online_skip _ (while_on_online scope pos))
      by pos (Some (lexeme.Word w.Do)) = online_deeper k _ (online_skip _ (do_on_online scope pos))
      by pos (Some (lexeme.Word w.For)) = online_deeper k _ (online_skip _ (for_on_online scope pos))
      by pos (Some (lexeme.Word w.Break)) = online_skip _ (jump_online (unit.Break pos))
      by pos (Some (lexeme.Word w.Continue)) = online_skip _ (jump_online (unit.Continue pos))
      by pos (Some (lexeme.Word w.Return)) = online_skip _ (returned_online scope pos)
      by pos o = expression_statement_online scope

  statement_at_takes : (scope : Scope) → TakesOne (statement_at k low scope)
  unfolding statement_at
  statement_at_takes scope =
      takes_here (λ pos. peek (statement_by k low scope pos))
      (λ pos. takes_peek (statement_by k low scope pos) (by pos))
    where
      by : (pos : Pos) (next : Body) → TakesOne (statement_by k low scope pos (Some next))
      by pos (lexeme.Mark p.OpenBrace) = takes_skip _ (block_online scope)
      by pos (lexeme.Word w.If) = takes_deeper k (skip (if_on k low scope pos)) (takes_skip _ (if_on_online scope pos))
      by pos (lexeme.Word w.Switch) =
          takes_deeper k (skip (switch_on k low scope pos)) (takes_skip _ (switch_on_online scope pos))
      by pos (lexeme.Word w.While) =
          takes_deeper k (skip (while_on k low scope pos)) (takes_skip _ (while_on_online scope pos))
      by pos (lexeme.Word w.Do) = takes_deeper k (skip (do_on k low scope pos)) (takes_skip _ (do_on_online scope pos))
      by pos (lexeme.Word w.For) =
          takes_deeper k (skip (for_on k low scope pos)) (takes_skip _ (for_on_online scope pos))
      by pos (lexeme.Word w.Break) = takes_skip _ (jump_online (unit.Break pos))
      by pos (lexeme.Word w.Continue) = takes_skip _ (jump_online (unit.Continue pos))
      by pos (lexeme.Word w.Return) = takes_skip _ (returned_online scope pos)
      by pos next = expression_statement_takes scope

  -- ---- items of a block, and of a switch

  block_item_at_online : (scope : Scope) → Online (block_item_at k low scope)
  unfolding block_item_at
  block_item_at_online scope = online_peek _ (λ o.
      online_choose (begins_type scope o) _ _
      (online_bind _ _ (declaration_at_online k scope) (λ one. online_pure (unit.Declared one)))
      (online_choose (is_word w.StaticAssert o) _ _
      (online_bind _ _ (assert_at_online k scope) (λ one. online_pure (unit.Asserted one)))
      (online_bind _ _ (statement_at_online scope) (λ one. online_pure (unit.Executes one)))))

  block_item_at_takes : (scope : Scope) → TakesOne (block_item_at k low scope)
  unfolding block_item_at
  block_item_at_takes scope =
      takes_peek (λ o. choose (begins_type scope o) declared (choose (is_word w.StaticAssert o) asserted done)) (λ next.
      takes_choose (begins_type scope (Some next)) declared _
      (takes_bind (declaration_at k scope) (λ one. pure (unit.Declared one)) (declaration_at_takes k scope)
      (λ one. online_pure (unit.Declared one)))
      (takes_choose (is_word w.StaticAssert (Some next)) asserted done
      (takes_bind (assert_at k scope) (λ one. pure (unit.Asserted one)) (assert_at_takes k scope)
      (λ one. online_pure (unit.Asserted one)))
      (takes_bind (statement_at k low scope) (λ one. pure (unit.Executes one)) (statement_at_takes scope)
      (λ one. online_pure (unit.Executes one)))))
    where
      declared : Parser BlockItem
      declared = declaration_at k scope >>= λ one. pure (unit.Declared one)

      asserted : Parser BlockItem
      asserted = assert_at k scope >>= λ one. pure (unit.Asserted one)

      done : Parser BlockItem
      done = statement_at k low scope >>= λ one. pure (unit.Executes one)

  case_on_online : (scope : Scope) (pos : Pos) → Online (case_on k low scope pos)
  unfolding case_on
  case_on_online scope pos =
      online_before _ (is_mark p.Colon) _ ((parsers_online k).expr scope conditional)
      (λ value. online_pure (unit.Case pos value))

  default_online : (pos : Pos) → Online (expect (is_mark p.Colon) >>= λ _. pure (unit.Default pos))
  default_online pos = online_bind _ _ (online_expect (is_mark p.Colon)) (λ _. online_pure (unit.Default pos))

  switch_item_at_online : (scope : Scope) → Online (switch_item_at k low scope)
  unfolding switch_item_at
  switch_item_at_online scope = online_here _ (λ pos. online_peek _ (λ o.
      online_choose (is_word w.Case o) _ _ (online_deeper k _ (online_skip _ (case_on_online scope pos)))
      (online_choose (is_word w.Default o) _ _ (online_skip _ (default_online pos))
      (online_bind _ _ (block_item_at_online scope) (λ one. online_pure (unit.InBlock one))))))

  switch_item_at_takes : (scope : Scope) → TakesOne (switch_item_at k low scope)
  unfolding switch_item_at
  switch_item_at_takes scope =
      takes_here (λ pos.
      peek (λ o. choose (is_word w.Case o) (case pos) (choose (is_word w.Default o) (default pos) within))) (λ pos.
      takes_peek (λ o. choose (is_word w.Case o) (case pos) (choose (is_word w.Default o) (default pos) within))
      (λ next.
      takes_choose (is_word w.Case (Some next)) (case pos) _
      (takes_deeper k (skip (case_on k low scope pos))
      (takes_skip (case_on k low scope pos) (case_on_online scope pos)))
      (takes_choose (is_word w.Default (Some next)) (default pos) within (takes_skip _ (default_online pos))
      (takes_bind (block_item_at k low scope) (λ one. pure (unit.InBlock one)) (block_item_at_takes scope)
      (λ one. online_pure (unit.InBlock one))))))
    where
      case : Pos → Parser SwitchItem
      case pos = deeper k (skip (case_on k low scope pos))

      default : Pos → Parser SwitchItem
      default pos = skip (expect (is_mark p.Colon) >>= λ _. pure (unit.Default pos))

      within : Parser SwitchItem
      within = block_item_at k low scope >>= λ one. pure (unit.InBlock one)

takes_unless : {A : Type 0} (begins : Option Body → Bool) → TakesOne (peek (λ o. unless_deep {A = A} (begins o)))
takes_unless begins =
    takes_peek (λ o. unless_deep (begins o))
    (λ next. takes_choose (begins (Some next)) (fail TooDeep) (fail Unfit) (takes_fail TooDeep) (takes_fail Unfit))

pub statements_online : (k : ℕ) → StatementsOnline (statements k)
statements_online zero = record {
  statement = λ scope. online_unless (begins_statement scope);
  block_item = λ scope. online_unless (begins_block_item scope);
  switch_item = λ scope. online_unless (begins_switch_item scope);
  block_item_takes = λ scope. takes_unless (begins_block_item scope);
  switch_item_takes = λ scope. takes_unless (begins_switch_item scope);
}
statements_online (suc k) = record {
  statement = statement_at_online k (statements k) (statements_online k);
  block_item = block_item_at_online k (statements k) (statements_online k);
  switch_item = switch_item_at_online k (statements k) (statements_online k);
  block_item_takes = block_item_at_takes k (statements k) (statements_online k);
  switch_item_takes = switch_item_at_takes k (statements k) (statements_online k);
}

-- ---- the unit

block_lower_online : (k : ℕ) (scope : Scope) → Online (block_lower k scope)
block_lower_online zero scope = online_fail TooDeep
block_lower_online (suc k) scope =
    block_with_online (statements k).block_item (statements_online k).block_item
    (statements_online k).block_item_takes scope

module _ (k : ℕ) where
  external_declared_online : (scope : Scope) (all : Specifiers) (one : Declarator) (defines : Bool)
      → Online (external_declared k scope all one defines)
  external_declared_online scope all one true =
      online_skip _ (online_bind _ _ (block_lower_online k (function_scope k scope all one))
      (λ items. online_pure (unit.Defines (record { specifiers = all; declarator = one; body = items }))))
  external_declared_online scope all one false =
      online_bind _ _ (declared_on_online k (scope ++ specifiers_add all) all one)
      (λ found. online_pure (unit.Declaring found))

  external_on_online : (scope : Scope) (all : Specifiers) (one : Declarator) → Online (external_on k scope all one)
  unfolding external_on
  external_on_online scope all one = online_peek _ (λ o. external_declared_online scope all one (is_body one o))

  external_by_online : (scope : Scope) (all : Specifiers) (over : Bool) → Online (external_by k scope all over)
  external_by_online scope all true =
      online_skip _ (online_pure (unit.Declaring (record { specifiers = all; declarators = [] })))
  external_by_online scope all false =
      online_bind _ _ ((parsers_online k).declarator form.Named (scope ++ specifiers_add all))
      (external_on_online scope all)

  behind_specifiers_online : (scope : Scope) (all : Specifiers)
      → Online (peek (λ next. external_by k scope all (is_mark p.Semicolon next)))
  behind_specifiers_online scope all = online_peek _ (λ next. external_by_online scope all (is_mark p.Semicolon next))

  pub external_at_online : (scope : Scope) → Online (external_at k scope)
  unfolding external_at
  external_at_online scope = online_peek _ (λ o.
      online_choose (is_word w.StaticAssert o) _ _
      (online_bind _ _ (assert_at_online k scope) (λ one. online_pure (unit.Asserting one)))
      (online_bind _ _ ((parsers_online k).specifiers scope) (behind_specifiers_online scope)))

  pub external_at_takes : (scope : Scope) → TakesOne (external_at k scope)
  unfolding external_at
  external_at_takes scope = takes_peek (λ o. choose (is_word w.StaticAssert o) asserted declared) (λ next.
      takes_choose (is_word w.StaticAssert (Some next)) asserted declared
      (takes_bind (assert_at k scope) (λ one. pure (unit.Asserting one)) (assert_at_takes k scope)
      (λ one. online_pure (unit.Asserting one)))
      (takes_bind ((parsers k).specifiers scope)
      (λ all. peek (λ next. external_by k scope all (is_mark p.Semicolon next)))
      ((parsers_take k).specifiers scope) (behind_specifiers_online scope)))
    where
      asserted : Parser External
      asserted = assert_at k scope >>= λ one. pure (unit.Asserting one)

      declared : Parser External
      declared = (parsers k).specifiers scope
          >>= λ all. peek (λ next. external_by k scope all (is_mark p.Semicolon next))

pub externals_online : (k : ℕ) → Online (externals k)
unfolding externals
externals_online k = online_bind _ _ (external_at_online k predeclared) (λ first.
    online_bind _ _ (many_online (λ s o. is_some o) (external_at k) (λ s one. s ++ external_adds one)
    (external_at_online k) (λ s. refl) (external_at_takes k) (predeclared ++ external_adds first))
    (λ rest. online_pure (first ∷ rest)))
