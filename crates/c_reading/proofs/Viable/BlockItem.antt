-- Where the reading of an item of a block or of a switch stops, one begins with what was read.
use Rattle.std.proofs.Common.{◌≡◌, inl, inr, ℕ, zero, suc, ◌<◌, List, [], ◌∷◌, ◌++◌, ◌||◌, true, Option, Some, None}
use Rattle.std.proofs.Common.{refl, sym, subst, append-nil, arith}
use Rattle.critical_table.specs.declared.pos.Pos.{Pos}
use Rattle.c_lexer.specs.declared.punct.Punct.TheVariants as p
use Rattle.c_lexer.specs.declared.token.Body.{Body}
use Rattle.c_lexer.specs.declared.token.Body.TheVariants as lexeme
use Rattle.c_lexer.specs.declared.token.Token.{Token}
use Rattle.c_lexer.specs.declared.word.Word.TheVariants as w
use Rattle.c_syntax.specs.declared.spelled.Spelled.{Spelled}
use Rattle.c_syntax.specs.Begin.{BeginsBlockItem, BeginsSwitchItem}
use Rattle.c_syntax.specs.Height.{height}
use Rattle.c_syntax.specs.HeightUnit.{declaration_height, assert_height, statement_height, block_item_height}
use Rattle.c_syntax.specs.HeightUnit.{block_items_height, switch_item_height}
use Rattle.c_syntax.specs.Levels.{expression, conditional}
use Rattle.c_reading.specs.Parser.{Why, Unfit, TooDeep, Stopped, ◌>>=◌, pure, fail, skip, expect, next_body, place}
use Rattle.c_reading.specs.Parser.{tail}
use Rattle.c_reading.specs.ReadBody.{begins_statement_word, begins_statement, begins_block_item, declaration_at}
use Rattle.c_reading.specs.ReadBody.{assert_at, Statements, statement_at, block_item_at, case_on, switch_item_at}
use Rattle.c_reading.specs.ReadBody.{statements}
use Rattle.c_reading.specs.ReadExpr.{begins_expr}
use Rattle.c_reading.specs.ReadSpecifier.{parsers}
use Rattle.c_reading.specs.ReadToken.{is_mark, is_word, begins_type}
use Rattle.c_syntax.specs.Scopes.{Scope}
use Rattle.c_syntax.specs.Spelling.{spell}
use Rattle.c_syntax.specs.SpellingUnit.{spell_declaration, spell_assert, spell_statement, spell_block_item}
use Rattle.c_syntax.specs.SpellingUnit.{spell_block_items, spell_switch_item}
use Rattle.c_syntax.specs.Tokens.{mark, word_at}
use Rattle.c_syntax.specs.TreeUnit as unit
use Rattle.c_syntax.specs.TreeUnit.{BlockItem}
use Rattle.c_syntax.specs.WellFormed.{IsExpr}
use Rattle.c_syntax.specs.WellFormedUnit.{IsDeclaration, IsAssert, IsStatement, IsBlockItem, AreBlockItems}
use Rattle.c_syntax.specs.WellFormedUnit.{IsSwitchItem}
use Rattle.c_reading.proofs.Viable.Completions.{refused_behind, Begun, whole_begins, begins_in, too_deep_here}
use Rattle.c_reading.proofs.Viable.Completions.{too_deep_in}
use Rattle.c_reading.proofs.Viable.Contexts.{stopped, bind_stopped, given_stopped, close_stopped, deeper_stopped}
use Rattle.c_reading.proofs.Viable.Contexts.{Completed, Context, refused, into}
use Rattle.c_reading.proofs.Sound.Steps.{chosen, nothing_spelt, spelt_at}
use Rattle.c_reading.proofs.Sound.Block.{SoundStatements}
use Rattle.c_reading.proofs.Sound.BlockItem.{statements_sound}
use Rattle.c_reading.proofs.Sound.Specifier.{parsers_sound}
use Rattle.c_reading.proofs.Viable.Started.{least_expr, either, expr_begun, type_begun}
use Rattle.c_reading.proofs.Viable.StatementContexts.{empty, some_statement}
use Rattle.c_reading.proofs.TokenTests.{is_mark_is, is_word_is}
use Rattle.c_reading.proofs.Viable.Law.{Holds}
use Rattle.c_reading.proofs.Viable.Assert.{assert_begun, assertion_stopped}
use Rattle.c_reading.proofs.NodeLists.{block_list}
use Rattle.c_reading.proofs.Viable.Block.{ViableStatements, BeginsBlockItems}
use Rattle.c_reading.proofs.Viable.Nodes.{first_node}
use Rattle.c_reading.proofs.Viable.Declaration.{all_specifiers, declaration_viable}
use Rattle.c_reading.proofs.Viable.Declarator.{parsers_viable}
use Rattle.c_reading.proofs.Viable.Statement.{statement_at_viable}

-- ---- what an item of a block is made of

abbrev InItem : {A : Type 0} → (A → Type 0) → (A → ℕ) → (A → List Spelled) → Scope → Type 0
InItem Fits tall spelled scope =
    Context Fits tall spelled (λ one. IsBlockItem one scope) block_item_height spell_block_item (λ j. j) 0 []

a_declaration : (scope : Scope) → InItem (λ one. IsDeclaration one scope) declaration_height spell_declaration scope
a_declaration scope = record {
  make = λ one. unit.Declared one;
  behind = [];
  fits = λ one fits. fits;
  within =
      λ one j others low. low;
  spells = λ one. sym (append-nil (spell_declaration one));
}

an_assertion : (scope : Scope) → InItem (λ one. IsAssert one scope) assert_height spell_assert scope
an_assertion scope = record {
  make = λ one. unit.Asserted one;
  behind = [];
  fits = λ one fits. fits;
  within =
      λ one j others low. low;
  spells = λ one. sym (append-nil (spell_assert one));
}

a_statement : (scope : Scope) → InItem (λ one. IsStatement one scope) statement_height spell_statement scope
a_statement scope = record {
  make = λ one. unit.Executes one;
  behind = [];
  fits = λ one fits. fits;
  within =
      λ one j others low. low;
  spells = λ one. sym (append-nil (spell_statement one));
}

abbrev InSwitch : {A : Type 0} → (A → Type 0) → (A → ℕ) → (A → List Spelled) → Scope → (ℕ → ℕ) → List Spelled → Type 0
InSwitch Fits tall spelled scope rise =
    Context Fits tall spelled (λ one. IsSwitchItem one scope) switch_item_height spell_switch_item rise 0

an_item : (scope : Scope) → InSwitch (λ one. IsBlockItem one scope) block_item_height spell_block_item scope (λ j. j) []
an_item scope = record {
  make = λ one. unit.InBlock one;
  behind = [];
  fits = λ one fits. fits;
  within =
      λ one j others low. low;
  spells = λ one. sym (append-nil (spell_block_item one));
}

its_value : (scope : Scope) (pos : Pos)
    → InSwitch (λ e. IsExpr e scope conditional) height spell scope (λ j. suc j) (word_at pos w.Case ∷ [])
its_value scope pos = record {
  make = λ e. unit.Case pos e;
  behind = mark p.Colon ∷ [];
  fits =
      λ e fits. fits;
  within = λ e j others low. omega arith;
  spells = λ e. refl;
}

-- ---- a token that begins an item

module _ (scope : Scope) (pos : Pos) where
  abbrev StatementBegins : Option Body → Type 0
  StatementBegins = Begun (λ one. IsStatement one scope) statement_height spell_statement pos

  word_begun : (o : Option Body) → begins_statement_word o ≡ true → StatementBegins o
  word_begun (Some (lexeme.Word w.If)) h =
      whole_begins (word_at pos w.If) (unit.If pos least_expr empty) _ refl (tt, tt) refl
  word_begun (Some (lexeme.Word w.Switch)) h =
      whole_begins (word_at pos w.Switch) (unit.Switch pos least_expr unit.NoSwitchItem) _ refl (tt, tt) refl
  word_begun (Some (lexeme.Word w.While)) h =
      whole_begins (word_at pos w.While) (unit.While pos least_expr empty) _ refl (tt, tt) refl
  word_begun (Some (lexeme.Word w.Do)) h =
      whole_begins (word_at pos w.Do) (unit.Do pos empty least_expr) _ refl (tt, tt) refl
  word_begun (Some (lexeme.Word w.For)) h =
      whole_begins (word_at pos w.For) (unit.For pos (unit.WithExpression None) None None empty) _ refl (
        tt,
        tt,
        tt,
        tt,
      ) refl
  word_begun (Some (lexeme.Word w.Break)) h = whole_begins (word_at pos w.Break) (unit.Break pos) _ refl tt refl
  word_begun (Some (lexeme.Word w.Continue)) h =
      whole_begins (word_at pos w.Continue) (unit.Continue pos) _ refl tt refl
  word_begun (Some (lexeme.Word w.Return)) h = whole_begins (word_at pos w.Return) (unit.Return pos None) _ refl tt refl
  word_begun _ h = absurd (cc (h))

  statement_begun : (o : Option Body) → begins_statement scope o ≡ true → StatementBegins o
  statement_begun o h =
      elim (either (begins_expr scope o || begins_statement_word o || is_mark p.OpenBrace o) (is_mark p.Semicolon o)
      h) [
        | inr x ↦ subst StatementBegins (sym (is_mark_is p.Semicolon o x))
            (whole_begins (mark p.Semicolon) empty [] tt tt refl)
        | inl x ↦ elim (either (begins_expr scope o || begins_statement_word o) (is_mark p.OpenBrace o) x) [
          | inr y ↦ subst StatementBegins (sym (is_mark_is p.OpenBrace o y))
              (whole_begins (mark p.OpenBrace) (unit.Block unit.NoBlockItem) _ tt tt refl)
          | inl y ↦ elim (either (begins_expr scope o) (begins_statement_word o) y) [
            | inl z ↦ begins_in (some_statement scope) (expr_begun scope expression (omega arith) pos o z)
            | inr z ↦ word_begun o z
          ]
        ]
      ]

  abbrev ItemBegins : Option Body → Type 0
  ItemBegins = Begun (λ one. IsBlockItem one scope) block_item_height spell_block_item pos

  block_item_begun : (o : Option Body) → begins_block_item scope o ≡ true → ItemBegins o
  block_item_begun o h = elim (either (begins_statement scope o || begins_type scope o) (is_word w.StaticAssert o) h) [
    | inr x ↦ subst ItemBegins (sym (is_word_is w.StaticAssert o x))
        (begins_in (an_assertion scope) (assert_begun scope pos))
    | inl x ↦ elim (either (begins_statement scope o) (begins_type scope o) x) [
      | inl y ↦ begins_in (a_statement scope) (statement_begun o y)
      | inr y ↦ begins_in (a_declaration scope) (begins_in (all_specifiers 0 scope) (type_begun scope pos o y))
    ]
  ]

-- ---- items

no_block_item : (scope : Scope) (k : ℕ)
    → Completed (λ one. IsBlockItem one scope) block_item_height spell_block_item (suc k) []
no_block_item scope k = record {
  node = unit.Executes empty;
  more = mark p.Semicolon ∷ [];
  fits = tt;
  within =
      omega arith;
  parts = refl;
}

no_switch_item : (scope : Scope) (k : ℕ)
    → Completed (λ one. IsSwitchItem one scope) switch_item_height spell_switch_item (suc k) []
no_switch_item scope k = record {
  node = unit.InBlock (unit.Executes empty);
  more = mark p.Semicolon ∷ [];
  fits =
      tt;
  within = omega arith;
  parts = refl;
}

module _ (k : ℕ) (low : Statements) (sound : SoundStatements k low) (viable : ViableStatements k low)
    (items : (scope : Scope) (tokens rest : List Token) (why : Why) → low.block_item scope tokens ≡ Stopped why rest
    → Holds (BeginsBlockItems scope) k tokens why rest) where
  block_item_at_viable : (scope : Scope) (tokens rest : List Token) (why : Why)
      → block_item_at k low scope tokens ≡ Stopped why rest → Holds (BeginsBlockItem scope) (suc k) tokens why rest
  unfolding block_item_at
  block_item_at_viable scope tokens rest why h =
      elim (chosen (begins_type scope (next_body tokens)) _ _ tokens (Stopped why rest) h) [
        | inl x ↦ into (a_declaration scope) (omega arith) (nothing_spelt tokens)
            (declaration_viable k scope tokens rest why
            (given_stopped (declaration_at k scope tokens) (λ one. unit.Declared one) why rest x.1))
        | inr x ↦ elim (chosen (is_word w.StaticAssert (next_body tokens)) _ _ tokens (Stopped why rest) x.1) [
          | inl y ↦ assertion_stopped k scope tokens rest why (an_assertion scope) (no_block_item scope k) y.0
              (given_stopped (assert_at k scope tokens) (λ one. unit.Asserted one) why rest y.1)
          | inr y ↦ into (a_statement scope) (omega arith) (nothing_spelt tokens)
              (statement_at_viable k low sound viable items scope tokens rest why
              (given_stopped (statement_at k low scope tokens) (λ one. unit.Executes one) why rest y.1))
        ]
      ]

  case_viable : (scope : Scope) (tokens rest : List Token) (why : Why) → 0 < k
      → next_body tokens ≡ Some (lexeme.Word w.Case) → case_on k low scope (place tokens) (tail tokens)
      ≡ Stopped why rest → Holds (BeginsSwitchItem scope) (suc k) tokens why rest
  unfolding case_on
  case_viable scope tokens rest why some is h =
      let word = spelt_at tokens (lexeme.Word w.Case) is in
      let context = its_value scope (place tokens) in
      elim (bind_stopped ((parsers k).expr scope conditional (tail tokens)) (λ value. expect (is_mark p.Colon)
      >>= λ _. pure (unit.Case (place tokens) value)) why rest h) [
        | inl x ↦ into context (omega arith) word
            ((parsers_viable k).expr scope conditional (tail tokens) rest why (omega arith) some x)
        | inr x ↦ close_stopped p.Colon (unit.Case (place tokens) x.value)
            (Holds (BeginsSwitchItem scope) (suc k) tokens) x.mid why rest x.two
            (refused_behind context (omega arith) word
            ((parsers_sound k).expr scope conditional (omega arith) (tail tokens) x.mid x.value x.one))
      ]

  switch_item_at_viable : (scope : Scope) (tokens rest : List Token) (why : Why)
      → switch_item_at k low scope tokens ≡ Stopped why rest → Holds (BeginsSwitchItem scope) (suc k) tokens why rest
  unfolding switch_item_at
  switch_item_at_viable scope tokens rest why h =
      elim (chosen (is_word w.Case (next_body tokens)) _ _ tokens (Stopped why rest) h) [
        | inl x ↦
            let is = is_word_is w.Case (next_body tokens) x.0 in
            deeper_stopped (Holds (BeginsSwitchItem scope) (suc k) tokens) k
            (skip (case_on k low scope (place tokens))) tokens why rest x.1
            (too_deep_here (no_switch_item scope k)
            (subst (Begun (λ one. IsSwitchItem one scope) switch_item_height spell_switch_item (place tokens))
            (sym is)
            (whole_begins (word_at (place tokens) w.Case) (unit.Case (place tokens) least_expr)
            (spell least_expr ++ mark p.Colon ∷ []) refl tt refl)))
            (λ some h. case_viable scope tokens rest why some is h)
        | inr x ↦ elim (chosen (is_word w.Default (next_body tokens)) _ _ tokens (Stopped why rest) x.1) [
          | inl y ↦ close_stopped p.Colon (unit.Default (place tokens))
              (Holds (BeginsSwitchItem scope) (suc k) tokens) (tail tokens) why rest y.1
              (refused (spelt_at tokens (lexeme.Word w.Default) (is_word_is w.Default (next_body tokens) y.0))
              (record {
                node = unit.Default (place tokens);
                more = mark p.Colon ∷ [];
                fits = tt;
                within =
                    omega arith;
                parts = refl;
              }))
          | inr y ↦ into (an_item scope) (omega arith) (nothing_spelt tokens)
              (block_item_at_viable scope tokens rest why
              (given_stopped (block_item_at k low scope tokens) (λ one. unit.InBlock one) why rest y.1))
        ]
      ]

-- where no height is left for an item, the parser stops before it
lowest_item_viable : (scope : Scope) (tokens rest : List Token) (why : Why)
    → (statements 0).block_item scope tokens ≡ Stopped why rest → Holds (BeginsBlockItems scope) 0 tokens why rest
lowest_item_viable scope tokens rest why h =
    let none : Completed (λ all. AreBlockItems all scope) block_items_height spell_block_items 0 [] =
    record { node = unit.NoBlockItem; more = []; fits = tt; within = omega arith; parts = refl } in
    elim (chosen (begins_block_item scope (next_body tokens)) (fail {A = BlockItem} TooDeep) (fail Unfit) tokens
    (Stopped why rest) h) [
      | inl x ↦ stopped (Holds (BeginsBlockItems scope) 0 tokens) x.1
          (too_deep_in (first_node block_list scope) (nothing_spelt tokens) none
          (block_item_begun scope (place tokens) (next_body tokens) x.0))
      | inr x ↦ stopped (Holds (BeginsBlockItems scope) 0 tokens) x.1 (refused (nothing_spelt tokens) none)
    ]

-- an item as one of the items of a block, of whatever height
item_among : (k : ℕ) → ViableStatements k (statements k) → (scope : Scope) (tokens rest : List Token) (why : Why)
    → (statements k).block_item scope tokens ≡ Stopped why rest → Holds (BeginsBlockItems scope) k tokens why rest
item_among zero viable scope tokens rest why h = lowest_item_viable scope tokens rest why h
item_among (suc k) viable scope tokens rest why h =
    into (first_node block_list scope) (omega arith) (nothing_spelt tokens)
    (viable.block_item scope tokens rest why (omega arith) h)

pub statements_viable : (k : ℕ) → ViableStatements k (statements k)
statements_viable zero = record {
  statement = λ scope tokens rest why some h. absurd (omega (arith, some));
  block_item = λ scope tokens rest why some h. absurd (omega (arith, some));
  switch_item = λ scope tokens rest why some h. absurd (omega (arith, some));
}
statements_viable (suc k) =
    let low = statements k in
    let sound = statements_sound k in
    let viable = statements_viable k in
    let items = item_among k viable in
    record {
      statement = λ scope tokens rest why some h. statement_at_viable k low sound viable items scope tokens rest why h;
      block_item = λ scope tokens rest why some h. block_item_at_viable k low sound viable items scope tokens rest
          why h;
      switch_item =
          λ scope tokens rest why some h. switch_item_at_viable k low sound viable items scope tokens rest why h;
    }

pub block_item_viable : (k : ℕ) (scope : Scope) (tokens rest : List Token) (why : Why)
    → (statements k).block_item scope tokens ≡ Stopped why rest → Holds (BeginsBlockItems scope) k tokens why rest
block_item_viable k = item_among k (statements_viable k)
