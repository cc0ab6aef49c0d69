-- The spelling of a well-formed statement or item of a block is read as it.
use Rattle.std.proofs.Common.{◌≡◌, inl, inr, ℕ, zero, suc, ◌≤◌, ◌<◌, List, [], ◌∷◌, ◌++◌, true, false, Option, Some}
use Rattle.std.proofs.Common.{None, refl, sym, ◌∙◌, ap, subst, arith}
use Rattle.critical_table.specs.declared.pos.Pos.{Pos}
use Rattle.c_lexer.specs.declared.punct.Punct.TheVariants as p
use Rattle.c_lexer.specs.declared.token.Token.{Token}
use Rattle.c_lexer.specs.declared.token.Body.{Body}
use Rattle.c_lexer.specs.declared.token.Body.TheVariants as lexeme
use Rattle.c_lexer.specs.declared.word.Word.TheVariants as w
use Rattle.c_syntax.specs.Height.{height}
use Rattle.c_syntax.specs.HeightUnit.{for_init_height, statement_height, block_item_height, switch_item_height}
use Rattle.c_syntax.specs.Levels.{expression, conditional}
use Rattle.c_reading.specs.Parser.{Found, ◌>>=◌, pure, next_body, place, tail}
use Rattle.c_reading.specs.ReadBody.{begins_block_item, begins_statement, Statements, optional, else_by, if_on}
use Rattle.c_reading.specs.ReadBody.{switch_on, while_on, do_on, for_init_by, for_init, for_on, statement_by}
use Rattle.c_reading.specs.ReadBody.{statement_at, block_item_at, case_on, switch_item_at, statements}
use Rattle.c_reading.specs.ReadExpr.{begins_expr}
use Rattle.c_reading.specs.ReadToken.{is_mark, is_word, begins_type}
use Rattle.c_syntax.specs.Scopes.{Scope, expr_adds}
use Rattle.c_syntax.specs.ScopesUnit.{for_init_adds, optional_adds}
use Rattle.c_syntax.specs.Spelling.{spell}
use Rattle.c_syntax.specs.SpellingUnit.{spell_declaration, spell_assert, spell_optional, spell_for_init}
use Rattle.c_syntax.specs.SpellingUnit.{spell_controlling, spell_for_head, spell_statement, spell_block_item}
use Rattle.c_syntax.specs.SpellingUnit.{spell_switch_item, spell_switch_items}
use Rattle.c_syntax.specs.Tokens.{mark, word, word_at}
use Rattle.c_syntax.specs.Tree.{Expr}
use Rattle.c_syntax.specs.TreeUnit as unit
use Rattle.c_syntax.specs.TreeUnit.{ForInit, Statement, BlockItem, SwitchItem, SwitchItems}
use Rattle.c_syntax.specs.WellFormed.{IsExpr}
use Rattle.c_syntax.specs.WellFormedUnit.{IsForInit, IsStatement, IsBlockItem, IsSwitchItem}
use Rattle.c_reading.proofs.Full.Steps.{front, then_read, peek_at, read_at, chosen_first, chosen_second, deeper_again}
use Rattle.c_reading.proofs.Full.Steps.{expect_again}
use Rattle.c_reading.proofs.BodyTokens.{no_assert, no_case, no_default, statement_starts, block_item_begins}
use Rattle.c_reading.proofs.Full.Ends.{ends_closed}
use Rattle.c_syntax.proofs.FirstLaws.{first_declaration}
use Rattle.c_reading.proofs.FirstTokens.{first_seen, expr_begins}
use Rattle.c_reading.proofs.Full.Block.{MayFollow, MayFollowItem, MayFollowSwitch, FullStatements, semicolon, paren}
use Rattle.c_reading.proofs.Full.Block.{optional_no_type, block_again, switch_again, optional_again}
use Rattle.c_reading.proofs.Full.Block.{controlling_again}
use Rattle.c_reading.proofs.Full.Declaration.{declaration_full, lower_full, assert_full}
use Rattle.c_reading.proofs.Full.Declarator.{parsers_full}
use Rattle.c_syntax.proofs.HeightLaws.{expr_high, statement_high}
use Rattle.c_reading.proofs.Takes.{Takes, takes_append, takes_parted}

item_high : (one : BlockItem) → 1 ≤ block_item_height one
item_high (unit.Declared one) = omega arith
item_high (unit.Asserted one) = omega arith
item_high (unit.Executes one) = statement_high one

switch_high : (one : SwitchItem) → 1 ≤ switch_item_height one
switch_high (unit.Case pos value) = omega arith
switch_high (unit.Default pos) = omega arith
switch_high (unit.InBlock one) = item_high one

module _ (k : ℕ) (low : Statements) (full : FullStatements k low) where
  -- ---- selection and iteration

  if_again : (pos : Pos) (test : Expr) (then : Statement) (scope : Scope) (tokens mid rest : List Token)
      → IsStatement (unit.If pos test then) scope → statement_height (unit.If pos test then) ≤ suc k
      → is_word w.Else (next_body rest) ≡ false
      → Takes tokens (spell_controlling test) mid → Takes mid (spell_statement then) rest
      → if_on k low scope pos tokens ≡ Found (unit.If pos test then) rest
  unfolding if_on
  if_again pos test then scope tokens mid rest is high none all more =
      then_read _ _ test mid _ (controlling_again k low full test scope tokens mid is.0 (omega arith) all)
      (then_read _ _
      then rest _ (full.statement (scope ++ expr_adds test) then mid rest is.1 (omega arith) (inr none) more)
      (ap (λ b. else_by k low (scope ++ expr_adds test) pos test then b rest) none))

  if_else_again : (pos : Pos) (test : Expr) (then else : Statement) (scope : Scope) (tokens mid end rest
      : List Token) → IsStatement (unit.IfElse pos test then else) scope
      → statement_height (unit.IfElse pos test then else) ≤ suc k → MayFollow else rest
      → Takes tokens (spell_controlling test) mid → Takes mid (spell_statement then) end
      → Takes end (word w.Else ∷ spell_statement else) rest
      → if_on k low scope pos tokens ≡ Found (unit.IfElse pos test then else) rest
  unfolding if_on
  if_else_again pos test then else scope tokens mid end rest is high may all more other =
      let behind = scope ++ expr_adds test in
      let f = front end rest (word w.Else ∷ spell_statement else) other in
      then_read _ _ test mid _ (controlling_again k low full test scope tokens mid is.0 (omega arith) all)
      (then_read _ _ then end _ (full.statement behind then mid end is.1 (omega arith) (inl is.2) more)
      (ap (λ o. else_by k low behind pos test then (is_word w.Else o) end) f.0
      ∙ then_read _ _ else rest _ (full.statement behind else (tail end) rest is.3 (omega arith) may f.2) refl))

  switch_on_again : (pos : Pos) (test : Expr) (items : SwitchItems) (scope : Scope) (tokens mid rest : List Token)
      → IsStatement (unit.Switch pos test items) scope → statement_height (unit.Switch pos test items) ≤ suc k
      → Takes tokens (spell_controlling test) mid
      → Takes mid (mark p.OpenBrace ∷ spell_switch_items items ++ mark p.CloseBrace ∷ []) rest
      → switch_on k low scope pos tokens ≡ Found (unit.Switch pos test items) rest
  unfolding switch_on
  switch_on_again pos test items scope tokens mid rest is high all more =
      let f = front mid rest (mark p.OpenBrace ∷ spell_switch_items items ++ mark p.CloseBrace ∷ []) more in
      then_read _ _ test mid _ (controlling_again k low full test scope tokens mid is.0 (omega arith) all)
      (expect_again (is_mark p.OpenBrace) _ mid _ _ refl f.0
      (then_read _ _ items rest _ (switch_again k low full items (scope ++ expr_adds test) (tail mid) rest is.1
      (omega arith) f.2) refl))

  while_again : (pos : Pos) (test : Expr) (body : Statement) (scope : Scope) (tokens mid rest : List Token)
      → IsStatement (unit.While pos test body) scope → statement_height (unit.While pos test body) ≤ suc k
      → MayFollow body rest
      → Takes tokens (spell_controlling test) mid → Takes mid (spell_statement body) rest
      → while_on k low scope pos tokens ≡ Found (unit.While pos test body) rest
  unfolding while_on
  while_again pos test body scope tokens mid rest is high may all more =
      then_read _ _ test mid _ (controlling_again k low full test scope tokens mid is.0 (omega arith) all)
      (then_read _ _ body rest _ (full.statement (scope ++ expr_adds test) body mid rest is.1 (omega arith) may
      more) refl)

  do_again : (pos : Pos) (body : Statement) (test : Expr) (scope : Scope) (tokens mid end rest : List Token)
      → IsStatement (unit.Do pos body test) scope → statement_height (unit.Do pos body test) ≤ suc k
      → Takes tokens (spell_statement body) mid → Takes mid (word w.While ∷ spell_controlling test) end
      → Takes end (mark p.Semicolon ∷ []) rest → do_on k low scope pos tokens ≡ Found (unit.Do pos body test) rest
  unfolding do_on
  do_again pos body test scope tokens mid end rest is high all more close =
      let f = front mid end (word w.While ∷ spell_controlling test) more in
      let g = front end rest (mark p.Semicolon ∷ []) close in
      then_read _ _ body mid _
      (full.statement scope body tokens mid is.0 (omega arith) (inr (ap (is_word w.Else) f.0)) all)
      (expect_again (is_word w.While) _ mid _ _ refl f.0
      (then_read _ _ test end _ (controlling_again k low full test scope (tail mid) end is.1 (omega arith) f.2)
      (expect_again (is_mark p.Semicolon) _ end _ _ refl g.0 (ap (λ ts. Found (unit.Do pos body test) ts) g.2))))

  for_init_again : (init : ForInit) (scope : Scope) (tokens rest : List Token) → IsForInit init scope
      → for_init_height init ≤ k → Takes tokens (spell_for_init init) rest
      → for_init k low scope tokens ≡ Found init rest
  unfolding for_init
  for_init_again (unit.WithDeclaration one) scope tokens rest is high all =
      let begins = first_seen true scope tokens rest (spell_declaration one) (first_declaration one scope is) all in
      ap (λ b. for_init_by k low scope b tokens) begins
      ∙ then_read _ _ one rest _ (lower_full k scope one tokens rest is high all) refl
  for_init_again (unit.WithExpression e) scope tokens rest is high all =
      let x = takes_parted tokens rest (spell_optional e) (mark p.Semicolon ∷ []) all in
      let g = front x.mid rest (mark p.Semicolon ∷ []) x.two in
      ap (λ b. for_init_by k low scope b tokens) (optional_no_type e scope tokens x.mid is g.0 x.one)
      ∙ then_read _ _ e (tail x.mid) _ (optional_again k low full p.Semicolon semicolon e scope tokens x.mid is high
      g.0 x.one) (ap (λ ts. Found (unit.WithExpression e) ts) g.2)

  for_again : (pos : Pos) (init : ForInit) (test step : Option Expr) (body : Statement) (scope : Scope)
      (tokens mid rest : List Token) → IsStatement (unit.For pos init test step body) scope
      → statement_height (unit.For pos init test step body) ≤ suc k → MayFollow body rest
      → Takes tokens (mark p.OpenParen ∷ spell_for_init init ++ spell_optional test
      ++ mark p.Semicolon ∷ spell_optional step ++ mark p.CloseParen ∷ []) mid
      → Takes mid (spell_statement body) rest
      → for_on k low scope pos tokens ≡ Found (unit.For pos init test step body) rest
  unfolding for_on
  for_again pos init test step body scope tokens mid rest is high may all more =
      let begun = mark p.OpenParen ∷ spell_for_init init in
      let stepped = mark p.Semicolon ∷ spell_optional step in
      let close = takes_parted tokens mid (begun ++ spell_optional test ++ stepped) (mark p.CloseParen ∷ []) all in
      let third = takes_parted tokens close.mid (begun ++ spell_optional test) stepped close.one in
      let second = takes_parted tokens third.mid begun (spell_optional test) third.one in
      let f = front tokens second.mid begun second.one in
      let g = front third.mid close.mid stepped third.two in
      let h = front close.mid mid (mark p.CloseParen ∷ []) close.two in
      let tested = scope ++ for_init_adds init in
      expect_again (is_mark p.OpenParen) _ tokens _ _ refl f.0
      (then_read _ _ init second.mid _ (for_init_again init scope (tail tokens) second.mid is.0 (omega arith) f.2)
      (then_read _ _ test (tail third.mid) _
      (optional_again k low full p.Semicolon semicolon test tested second.mid third.mid is.1 (omega arith) g.0
      second.two)
      (then_read _ _ step (tail close.mid) _
      (optional_again k low full p.CloseParen paren step (tested ++ optional_adds test) (tail third.mid)
      close.mid is.2 (omega arith) h.0 g.2)
      (then_read _ _ body rest _ (full.statement (tested ++ optional_adds test ++ optional_adds step) body
      (tail close.mid) rest is.3 (omega arith) may
      (subst (λ ts. Takes ts (spell_statement body) rest) (sym h.2) more)) refl))))

  -- ---- statements

  expression_statement : (scope at : Scope) (pos : Pos) (o : Option Body) (tokens : List Token)
      → begins_expr at o ≡ true
      → statement_by k low scope pos o tokens
      ≡ (optional k low (is_mark p.Semicolon) scope >>= λ e. pure (unit.ExprStmt e)) tokens
  expression_statement scope at pos (Some (lexeme.Mark p.OpenBrace)) tokens begins = absurd (cc)
  expression_statement scope at pos (Some (lexeme.Word w.If)) tokens begins = absurd (cc)
  expression_statement scope at pos (Some (lexeme.Word w.Switch)) tokens begins = absurd (cc)
  expression_statement scope at pos (Some (lexeme.Word w.While)) tokens begins = absurd (cc)
  expression_statement scope at pos (Some (lexeme.Word w.Do)) tokens begins = absurd (cc)
  expression_statement scope at pos (Some (lexeme.Word w.For)) tokens begins = absurd (cc)
  expression_statement scope at pos (Some (lexeme.Word w.Break)) tokens begins = absurd (cc)
  expression_statement scope at pos (Some (lexeme.Word w.Continue)) tokens begins = absurd (cc)
  expression_statement scope at pos (Some (lexeme.Word w.Return)) tokens begins = absurd (cc)
  expression_statement scope at pos o tokens begins = refl

  statement_full : (scope : Scope) (one : Statement) (tokens rest : List Token) → IsStatement one scope
      → statement_height one ≤ suc k → MayFollow one rest → Takes tokens (spell_statement one) rest
      → statement_at k low scope tokens ≡ Found one rest
  unfolding statement_at
  statement_full scope (unit.Block items) tokens rest is high may all =
      let f = front tokens rest (spell_statement (unit.Block items)) all in
      peek_at (statement_by k low scope (place tokens)) tokens _ _ f.0
      (then_read _ _ items rest _ (block_again k low full items scope (tail tokens) rest is (omega arith) f.2) refl)
  statement_full scope (unit.ExprStmt None) tokens rest is high may all =
      let f = front tokens rest (mark p.Semicolon ∷ []) all in
      peek_at (statement_by k low scope (place tokens)) tokens _ _ f.0
      (then_read _ _ None (tail tokens) _
      (optional_again k low full p.Semicolon semicolon None scope tokens tokens tt (omega arith) f.0 refl)
      (ap (λ ts. Found (unit.ExprStmt None) ts) f.2))
  statement_full scope (unit.ExprStmt (Some e)) tokens rest is high may all =
      let x = takes_parted tokens rest (spell e) (mark p.Semicolon ∷ []) all in
      let g = front x.mid rest (mark p.Semicolon ∷ []) x.two in
      expression_statement scope scope (place tokens) (next_body tokens) tokens
      (expr_begins e scope expression tokens x.mid is x.one)
      ∙ then_read _ _ (Some e) (tail x.mid) _
      (optional_again k low full p.Semicolon semicolon (Some e) scope tokens x.mid is (omega arith) g.0 x.one)
      (ap (λ ts. Found (unit.ExprStmt (Some e)) ts) g.2)
  statement_full scope (unit.If pos test then) tokens rest is high (inl closed) all = absurd closed
  statement_full scope (unit.If pos test then) tokens rest is high (inr none) all =
      let x = takes_parted tokens rest (word_at pos w.If ∷ spell_controlling test) (spell_statement then) all in
      let f = front tokens x.mid (word_at pos w.If ∷ spell_controlling test) x.one in
      let some : 0 < k = let h = expr_high test in omega arith in
      read_at (statement_by k low scope) tokens pos _ _ f.1 f.0 (deeper_again k _ tokens _ some (if_again pos test
      then scope (tail tokens) x.mid rest is high none f.2 x.two))
  statement_full scope (unit.IfElse pos test then else) tokens rest is high may all =
      let behind = word w.Else ∷ spell_statement else in
      let y = takes_parted tokens rest (word_at pos w.If ∷ spell_controlling test ++ spell_statement then) behind all in
      let x = takes_parted tokens y.mid (word_at pos w.If ∷ spell_controlling test) (spell_statement then) y.one in
      let f = front tokens x.mid (word_at pos w.If ∷ spell_controlling test) x.one in
      let some : 0 < k = let h = expr_high test in omega arith in
      read_at (statement_by k low scope) tokens pos _ _ f.1 f.0
      (deeper_again k _ tokens _ some (if_else_again pos test then
      else scope (tail tokens) x.mid y.mid rest is high may f.2 x.two y.two))
  statement_full scope (unit.Switch pos test items) tokens rest is high may all =
      let behind = mark p.OpenBrace ∷ spell_switch_items items in
      let y = takes_parted tokens rest (word_at pos w.Switch ∷ spell_controlling test ++ behind)
      (mark p.CloseBrace ∷ []) all in
      let x = takes_parted tokens y.mid (word_at pos w.Switch ∷ spell_controlling test) behind y.one in
      let f = front tokens x.mid (word_at pos w.Switch ∷ spell_controlling test) x.one in
      let some : 0 < k = let h = expr_high test in omega arith in
      let block = takes_append x.mid y.mid rest behind (mark p.CloseBrace ∷ []) x.two y.two in
      read_at (statement_by k low scope) tokens pos _ _ f.1 f.0
      (deeper_again k _ tokens _ some (switch_on_again pos test items scope (tail tokens) x.mid rest is high f.2
      block))
  statement_full scope (unit.While pos test body) tokens rest is high may all =
      let x = takes_parted tokens rest (word_at pos w.While ∷ spell_controlling test) (spell_statement body) all in
      let f = front tokens x.mid (word_at pos w.While ∷ spell_controlling test) x.one in
      let some : 0 < k = let h = expr_high test in omega arith in
      read_at (statement_by k low scope) tokens pos _ _ f.1 f.0
      (deeper_again k _ tokens _ some (while_again pos test body scope (tail tokens) x.mid rest is high may f.2
      x.two))
  statement_full scope (unit.Do pos body test) tokens rest is high may all =
      let body_of = word_at pos w.Do ∷ spell_statement body in
      let behind = word w.While ∷ spell_controlling test in
      let y = takes_parted tokens rest (body_of ++ behind) (mark p.Semicolon ∷ []) all in
      let x = takes_parted tokens y.mid body_of behind y.one in
      let f = front tokens x.mid body_of x.one in
      let some : 0 < k = let h = expr_high test in omega arith in
      read_at (statement_by k low scope) tokens pos _ _ f.1 f.0
      (deeper_again k _ tokens _ some (do_again pos body test scope (tail tokens) x.mid y.mid rest is high f.2
      x.two y.two))
  statement_full scope (unit.For pos init test step body) tokens rest is high may all =
      let x = takes_parted tokens rest (spell_for_head pos init test step) (spell_statement body) all in
      let f = front tokens x.mid (spell_for_head pos init test step) x.one in
      let some : 0 < k = let h = statement_high body in omega arith in
      read_at (statement_by k low scope) tokens pos _ _ f.1 f.0
      (deeper_again k _ tokens _ some (for_again pos init test step body scope (tail tokens) x.mid rest is high
      may f.2 x.two))
  statement_full scope (unit.Break pos) tokens rest is high may all =
      let f = front tokens rest (spell_statement (unit.Break pos)) all in
      let g = front (tail tokens) rest (mark p.Semicolon ∷ []) f.2 in
      read_at (statement_by k low scope) tokens pos _ _ f.1 f.0
      (expect_again (is_mark p.Semicolon) _ (tail tokens) _ _ refl g.0 (ap (λ ts. Found (unit.Break pos) ts) g.2))
  statement_full scope (unit.Continue pos) tokens rest is high may all =
      let f = front tokens rest (spell_statement (unit.Continue pos)) all in
      let g = front (tail tokens) rest (mark p.Semicolon ∷ []) f.2 in
      read_at (statement_by k low scope) tokens pos _ _ f.1 f.0
      (expect_again (is_mark p.Semicolon) _ (tail tokens) _ _ refl g.0
      (ap (λ ts. Found (unit.Continue pos) ts) g.2))
  statement_full scope (unit.Return pos value) tokens rest is high may all =
      let x = takes_parted tokens rest (word_at pos w.Return ∷ spell_optional value) (mark p.Semicolon ∷ []) all in
      let f = front tokens x.mid (word_at pos w.Return ∷ spell_optional value) x.one in
      let g = front x.mid rest (mark p.Semicolon ∷ []) x.two in
      read_at (statement_by k low scope) tokens pos _ _ f.1 f.0
      (then_read _ _ value (tail x.mid) _
      (optional_again k low full p.Semicolon semicolon value scope (tail tokens) x.mid is (omega arith) g.0 f.2)
      (ap (λ ts. Found (unit.Return pos value) ts) g.2))

  -- ---- items

  block_item_full : (scope : Scope) (one : BlockItem) (tokens rest : List Token) → IsBlockItem one scope
      → block_item_height one ≤ suc k → MayFollowItem one rest → Takes tokens (spell_block_item one) rest
      → block_item_at k low scope tokens ≡ Found one rest
  unfolding block_item_at
  block_item_full scope (unit.Declared one) tokens rest is high may all =
      let begins = first_seen true scope tokens rest (spell_declaration one) (first_declaration one scope is) all in
      chosen_first (begins_type scope (next_body tokens)) _ _ tokens _ begins
      (then_read _ _ one rest _ (declaration_full k scope one tokens rest is high all) refl)
  block_item_full scope (unit.Asserted one) tokens rest is high may all =
      let f = front tokens rest (spell_assert one) all in
      chosen_second (begins_type scope (next_body tokens)) _ _ tokens _ (ap (begins_type scope) f.0)
      (chosen_first (is_word w.StaticAssert (next_body tokens)) _ _ tokens _ (ap (is_word w.StaticAssert) f.0)
      (then_read _ _ one rest _ (assert_full k scope one tokens rest is high all) refl))
  block_item_full scope (unit.Executes one) tokens rest is high may all =
      let starts = statement_starts one scope tokens rest is all in
      chosen_second (begins_type scope (next_body tokens)) _ _ tokens _ starts.1
      (chosen_second (is_word w.StaticAssert (next_body tokens)) _ _ tokens _
      (no_assert (begins_statement scope) (next_body tokens) refl starts.0)
      (then_read _ _ one rest _ (statement_full scope one tokens rest is high may all) refl))

  case_again : (pos : Pos) (value : Expr) (scope : Scope) (tokens rest : List Token)
      → IsExpr value scope conditional → height value ≤ k → Takes tokens (spell value ++ mark p.Colon ∷ []) rest
      → case_on k low scope pos tokens ≡ Found (unit.Case pos value) rest
  unfolding case_on
  case_again pos value scope tokens rest is high all =
      let x = takes_parted tokens rest (spell value) (mark p.Colon ∷ []) all in
      let g = front x.mid rest (mark p.Colon ∷ []) x.two in
      then_read _ _ value x.mid _ ((parsers_full k).expr scope conditional value tokens x.mid (omega arith) is high
      (ends_closed conditional x.mid p.Colon g.0 (λ k low left. refl) refl refl) x.one)
      (expect_again (is_mark p.Colon) _ x.mid _ _ refl g.0 (ap (λ ts. Found (unit.Case pos value) ts) g.2))

  switch_item_full : (scope : Scope) (one : SwitchItem) (tokens rest : List Token) → IsSwitchItem one scope
      → switch_item_height one ≤ suc k → MayFollowSwitch one rest → Takes tokens (spell_switch_item one) rest
      → switch_item_at k low scope tokens ≡ Found one rest
  unfolding switch_item_at
  switch_item_full scope (unit.Case pos value) tokens rest is high may all =
      let f = front tokens rest (spell_switch_item (unit.Case pos value)) all in
      let some : 0 < k = let h = expr_high value in omega arith in
      chosen_first (is_word w.Case (next_body tokens)) _ _ tokens _ (ap (is_word w.Case) f.0)
      (deeper_again k _ tokens _ some (case_again (place tokens) value scope (tail tokens) rest is (omega arith) f.2
      ∙ ap (λ pos. Found (unit.Case pos value) rest) f.1))
  switch_item_full scope (unit.Default pos) tokens rest is high may all =
      let f = front tokens rest (spell_switch_item (unit.Default pos)) all in
      let g = front (tail tokens) rest (mark p.Colon ∷ []) f.2 in
      chosen_second (is_word w.Case (next_body tokens)) _ _ tokens _ (ap (is_word w.Case) f.0)
      (chosen_first (is_word w.Default (next_body tokens)) _ _ tokens _ (ap (is_word w.Default) f.0)
      (expect_again (is_mark p.Colon) _ (tail tokens) _ _ refl g.0
      (ap (λ pos. Found (unit.Default pos) (tail (tail tokens))) f.1 ∙ ap (λ ts. Found (unit.Default pos) ts) g.2)))
  switch_item_full scope (unit.InBlock one) tokens rest is high may all =
      let begins = block_item_begins one scope tokens rest is all in
      chosen_second (is_word w.Case (next_body tokens)) _ _ tokens _
      (no_case (begins_block_item scope) (next_body tokens) refl begins)
      (chosen_second (is_word w.Default (next_body tokens)) _ _ tokens _
      (no_default (begins_block_item scope) (next_body tokens) refl begins)
      (then_read _ _ one rest _ (block_item_full scope one tokens rest is high may all) refl))

pub statements_full : (k : ℕ) → FullStatements k (statements k)
statements_full zero = record {
  statement = λ scope one tokens rest is high may all. absurd (let h = statement_high one in omega arith);
  block_item = λ scope one tokens rest is high may all. absurd (let h = item_high one in omega arith);
  switch_item = λ scope one tokens rest is high may all. absurd (let h = switch_high one in omega arith);
}
statements_full (suc k) = record {
  statement = statement_full k (statements k) (statements_full k);
  block_item = block_item_full k (statements k) (statements_full k);
  switch_item = switch_item_full k (statements k) (statements_full k);
}
