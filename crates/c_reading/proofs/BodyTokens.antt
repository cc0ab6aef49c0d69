-- What initializers, statements and the items of lists and blocks begin with.
use Rattle.std.proofs.Common.{◌≡◌, ◌<◌, Bool, true, false, ◌||◌, ◌&&◌, not, is_some, List, [], ◌∷◌, length, Option}
use Rattle.std.proofs.Common.{Some, None, refl, sym, ◌∙◌, ap, subst}
use Rattle.c_lexer.specs.declared.punct.Punct.{Punct}
use Rattle.c_lexer.specs.declared.punct.Punct.TheVariants as p
use Rattle.c_lexer.specs.declared.token.Token.{Token}
use Rattle.c_lexer.specs.declared.token.Body.{Body}
use Rattle.c_lexer.specs.declared.token.Body.TheVariants as lexeme
use Rattle.c_lexer.specs.declared.word.Word.TheVariants as w
use Rattle.c_syntax.specs.declared.spelled.Spelled.{Spelled}
use Rattle.c_syntax.specs.Levels.{expression, assignment}
use Rattle.c_reading.specs.Parser.{next_body}
use Rattle.c_reading.specs.ReadToken.{is_mark, is_word, begins_type}
use Rattle.c_reading.specs.ReadExpr.{begins_expr}
use Rattle.c_reading.specs.ReadBody.{begins_initializer, begins_item, begins_statement_word, begins_statement}
use Rattle.c_reading.specs.ReadBody.{begins_block_item, begins_switch_item, goes_item}
use Rattle.c_syntax.specs.Scopes.{Scope}
use Rattle.c_syntax.specs.Spelling.{spell}
use Rattle.c_syntax.specs.SpellingUnit.{spell_initializer, spell_item, spell_declaration, spell_assert}
use Rattle.c_syntax.specs.SpellingUnit.{spell_statement, spell_block_item, spell_switch_item}
use Rattle.c_syntax.specs.Tokens.{mark}
use Rattle.c_syntax.specs.TreeUnit as unit
use Rattle.c_syntax.specs.TreeUnit.{Initializer, Item, Statement, BlockItem, SwitchItem}
use Rattle.c_syntax.specs.WellFormedUnit.{IsInitializer, IsItem, IsStatement, IsBlockItem, IsSwitchItem}
use Rattle.c_reading.proofs.Full.Steps.{front}
use Rattle.c_syntax.proofs.FirstLaws.{first_declaration}
use Rattle.c_reading.proofs.FirstTokens.{first_seen, expr_begins, begins_no_type}
use Rattle.c_reading.proofs.Takes.{Takes, takes_parted}
use Rattle.c_reading.proofs.TokenTests.{is_mark_is}

-- ---- a token that passes one test fails another

-- a token that passes a test which this mark, or this word, fails is not that one
pub no_mark : (mark : Punct) (test : Option Body → Bool) (o : Option Body) → test (Some (lexeme.Mark mark)) ≡ false
    → test o ≡ true → is_mark mark o ≡ false
no_mark mark test o fails passes = by (is_mark mark o) refl
  where
    by : (b : Bool) → is_mark mark o ≡ b → b ≡ false
    by false e = refl
    by true e = absurd (let same = ap test (is_mark_is mark o e) in let h : true ≡ false = sym passes ∙ same ∙ fails
        in cc)

pub no_else : (test : Option Body → Bool) (o : Option Body) → test (Some (lexeme.Word w.Else)) ≡ false
    → test o ≡ true → is_word w.Else o ≡ false
no_else test (Some (lexeme.Word w.Else)) fails passes = absurd (cc)
no_else test o fails passes = refl

pub no_assert : (test : Option Body → Bool) (o : Option Body) → test (Some (lexeme.Word w.StaticAssert)) ≡ false
    → test o ≡ true → is_word w.StaticAssert o ≡ false
no_assert test (Some (lexeme.Word w.StaticAssert)) fails passes = absurd (cc)
no_assert test o fails passes = refl

pub no_case : (test : Option Body → Bool) (o : Option Body) → test (Some (lexeme.Word w.Case)) ≡ false
    → test o ≡ true → is_word w.Case o ≡ false
no_case test (Some (lexeme.Word w.Case)) fails passes = absurd (cc)
no_case test o fails passes = refl

pub no_default : (test : Option Body → Bool) (o : Option Body) → test (Some (lexeme.Word w.Default)) ≡ false
    → test o ≡ true → is_word w.Default o ≡ false
no_default test (Some (lexeme.Word w.Default)) fails passes = absurd (cc)
no_default test o fails passes = refl

pub some_token : (test : Option Body → Bool) (o : Option Body) → test None ≡ false → test o ≡ true → is_some o ≡ true
some_token test None fails passes = absurd (cc)
some_token test (Some next) fails passes = refl

-- a spelling that is not empty takes a token
pub takes_some : (tokens rest : List Token) (all : List Spelled) → (all ≡ [] → ⊥) → Takes tokens all rest
    → (is_some (next_body tokens) ≡ true) × (length rest < length tokens)
takes_some tokens rest [] some all = absurd (some refl)
takes_some tokens rest (s ∷ more) some all = let f = front tokens rest (s ∷ more) all in (ap is_some f.0, f.3)

-- ---- initializers

or_first : (a b : Bool) → a ≡ true → (a || b) ≡ true
or_first true b h = refl
or_first false b h = absurd (cc)

-- the first token of what is well-formed passes the test by which it is looked for
pub initializer_begins : (one : Initializer) (scope : Scope) (tokens rest : List Token) → IsInitializer one scope
    → Takes tokens (spell_initializer one) rest → begins_initializer scope (next_body tokens) ≡ true
initializer_begins (unit.Single e) scope tokens rest is all =
    or_first _ _ (expr_begins e scope assignment tokens rest is all)
initializer_begins (unit.Braces pos items comma) scope tokens rest is all =
    ap (begins_initializer scope) (front tokens rest (spell_initializer (unit.Braces pos items comma)) all).0

pub item_begins : (one : Item) (scope : Scope) (tokens rest : List Token) → IsItem one scope
    → Takes tokens (spell_item one) rest → begins_item scope (next_body tokens) ≡ true
item_begins (unit.Plain one) scope tokens rest is all =
    let h = initializer_begins one scope tokens rest is all in
    or_first (begins_initializer scope (next_body tokens) || is_mark p.Dot (next_body tokens)) _ (or_first _ _ h)
item_begins (unit.ForMember pos x one) scope tokens rest is all =
    ap (begins_item scope) (front tokens rest (spell_item (unit.ForMember pos x one)) all).0
item_begins (unit.ForIndex pos index one) scope tokens rest is all =
    ap (begins_item scope) (front tokens rest (spell_item (unit.ForIndex pos index one)) all).0

-- ---- statements

-- it begins a statement, and no declaration
abbrev pub Starts : Scope → Option Body → Type 0
Starts scope o = (begins_statement scope o ≡ true) × (begins_type scope o ≡ false)

starts_at : (scope : Scope) (o known : Option Body) → o ≡ known → Starts scope known → Starts scope o
starts_at scope o known e is = subst (Starts scope) (sym e) is

starts_expr : (scope : Scope) (o : Option Body) → begins_expr scope o ≡ true → begins_type scope o ≡ false
    → Starts scope o
starts_expr scope o begins none = (
  or_first (begins_expr scope o || begins_statement_word o || is_mark p.OpenBrace o) _
      (or_first (begins_expr scope o || begins_statement_word o) _ (or_first (begins_expr scope o) _ begins)),
  none,
)

pub statement_starts : (one : Statement) (scope : Scope) (tokens rest : List Token) → IsStatement one scope
    → Takes tokens (spell_statement one) rest → Starts scope (next_body tokens)
statement_starts (unit.Block items) scope tokens rest is all =
    starts_at scope _ _ (front tokens rest (spell_statement (unit.Block items)) all).0 (refl, refl)
statement_starts (unit.ExprStmt None) scope tokens rest is all =
    starts_at scope _ _ (front tokens rest (spell_statement (unit.ExprStmt None)) all).0 (refl, refl)
statement_starts (unit.ExprStmt (Some e)) scope tokens rest is all =
    let x = takes_parted tokens rest (spell e) (mark p.Semicolon ∷ []) all in
    starts_expr scope (next_body tokens) (expr_begins e scope expression tokens x.mid is x.one)
    (begins_no_type e scope expression tokens x.mid is x.one)
statement_starts (unit.If pos test then) scope tokens rest is all =
    starts_at scope _ _ (front tokens rest (spell_statement (unit.If pos test then)) all).0 (refl, refl)
statement_starts (unit.IfElse pos test then else) scope tokens rest is all =
    starts_at scope _ _ (front tokens rest (spell_statement (unit.IfElse pos test then else)) all).0 (refl, refl)
statement_starts (unit.Switch pos test items) scope tokens rest is all =
    starts_at scope _ _ (front tokens rest (spell_statement (unit.Switch pos test items)) all).0 (refl, refl)
statement_starts (unit.While pos test body) scope tokens rest is all =
    starts_at scope _ _ (front tokens rest (spell_statement (unit.While pos test body)) all).0 (refl, refl)
statement_starts (unit.Do pos body test) scope tokens rest is all =
    starts_at scope _ _ (front tokens rest (spell_statement (unit.Do pos body test)) all).0 (refl, refl)
statement_starts (unit.For pos init test step body) scope tokens rest is all =
    starts_at scope _ _ (front tokens rest (spell_statement (unit.For pos init test step body)) all).0 (refl, refl)
statement_starts (unit.Break pos) scope tokens rest is all =
    starts_at scope _ _ (front tokens rest (spell_statement (unit.Break pos)) all).0 (refl, refl)
statement_starts (unit.Continue pos) scope tokens rest is all =
    starts_at scope _ _ (front tokens rest (spell_statement (unit.Continue pos)) all).0 (refl, refl)
statement_starts (unit.Return pos value) scope tokens rest is all =
    starts_at scope _ _ (front tokens rest (spell_statement (unit.Return pos value)) all).0 (refl, refl)

-- ---- items of a block

type_item : (scope : Scope) (o : Option Body) → begins_type scope o ≡ true → begins_block_item scope o ≡ true
type_item scope o begins =
    or_first (begins_statement scope o || begins_type scope o) _ (or_second (begins_statement scope o) _ begins)
  where
    or_second : (a b : Bool) → b ≡ true → (a || b) ≡ true
    or_second true b h = refl
    or_second false b h = h

pub block_item_begins : (one : BlockItem) (scope : Scope) (tokens rest : List Token) → IsBlockItem one scope
    → Takes tokens (spell_block_item one) rest → begins_block_item scope (next_body tokens) ≡ true
block_item_begins (unit.Declared one) scope tokens rest is all =
    type_item scope (next_body tokens)
    (first_seen true scope tokens rest (spell_declaration one) (first_declaration one scope is) all)
block_item_begins (unit.Asserted one) scope tokens rest is all =
    ap (begins_block_item scope) (front tokens rest (spell_assert one) all).0
block_item_begins (unit.Executes one) scope tokens rest is all =
    let h = statement_starts one scope tokens rest is all in
    or_first (begins_statement scope (next_body tokens) || begins_type scope (next_body tokens)) _
    (or_first (begins_statement scope (next_body tokens)) _ h.0)

pub switch_item_begins : (one : SwitchItem) (scope : Scope) (tokens rest : List Token) → IsSwitchItem one scope
    → Takes tokens (spell_switch_item one) rest → begins_switch_item scope (next_body tokens) ≡ true
switch_item_begins (unit.Case pos value) scope tokens rest is all =
    ap (begins_switch_item scope) (front tokens rest (spell_switch_item (unit.Case pos value)) all).0
switch_item_begins (unit.Default pos) scope tokens rest is all =
    ap (begins_switch_item scope) (front tokens rest (spell_switch_item (unit.Default pos)) all).0
switch_item_begins (unit.InBlock one) scope tokens rest is all =
    let h = block_item_begins one scope tokens rest is all in
    or_first (begins_block_item scope (next_body tokens) || is_word w.Case (next_body tokens)) _
    (or_first (begins_block_item scope (next_body tokens)) _ h)

-- the block goes on at a token that begins an item, and it is over at its brace
pub item_goes : (scope : Scope) (test : Option Body → Bool) (o : Option Body) → test None ≡ false
    → test (Some (lexeme.Mark p.CloseBrace)) ≡ false → test o ≡ true → goes_item scope o ≡ true
item_goes scope test o none brace passes =
    both (is_some o) (is_mark p.CloseBrace o) (some_token test o none passes) (no_mark p.CloseBrace test o brace passes)
  where
    both : (a b : Bool) → a ≡ true → b ≡ false → (a && not b) ≡ true
    both true false one two = refl
    both true true one two = absurd (cc)
    both false b one two = absurd (cc)
