-- A token that begins nothing of a class is refused where it stands, whatever height is left.
use Rattle.std.proofs.Common.{◌≡◌, ℕ, zero, suc, Bool, true, false, ◌||◌, not, List, Option, Some, None, is_some}
use Rattle.std.proofs.Common.{refl, sym, ap}
use Rattle.critical_table.specs.declared.pos.Pos.{Pos}
use Rattle.c_lexer.specs.declared.punct.Punct.TheVariants as p
use Rattle.c_lexer.specs.declared.token.Token.{Token}
use Rattle.c_lexer.specs.declared.token.Body.{Body}
use Rattle.c_lexer.specs.declared.token.Body.TheVariants as lexeme
use Rattle.c_lexer.specs.declared.word.Word.TheVariants as w
use Rattle.c_syntax.specs.declared.operator.Prefix.{Prefix}
use Rattle.c_syntax.specs.TreeUnit.{Plain, ExprStmt, Executes, InBlock}
use Rattle.c_syntax.specs.Tree.{Expr}
use Rattle.c_syntax.specs.Levels.{assignment}
use Rattle.c_reading.specs.Parser.{Parser, Unfit, TooDeep, Stopped, and_then, ◌>>=◌, pure, fail, next_body, place}
use Rattle.c_reading.specs.Parser.{peek, choose}
use Rattle.c_reading.specs.ReadBody.{begins_initializer, begins_item, unless_deep, Initializers, initializer_at}
use Rattle.c_reading.specs.ReadBody.{item_at, initializers, begins_statement_word, begins_statement}
use Rattle.c_reading.specs.ReadBody.{begins_block_item, begins_switch_item, Statements, an_expr, optional}
use Rattle.c_reading.specs.ReadBody.{statement_by, statement_at, block_item_at, switch_item_at}
use Rattle.c_reading.specs.ReadExpr.{Parsers, begins_expr, expr_lower, prefix_expr, unary_by, unary_at, infixes}
use Rattle.c_reading.specs.ReadExpr.{expr_at}
use Rattle.c_reading.specs.ReadSpecifier.{parsers}
use Rattle.c_reading.specs.ReadToken.{is_mark, is_word, begins_type, prefix_of}
use Rattle.c_syntax.specs.Scopes.{Scope, is_type}
use Rattle.c_reading.proofs.Grows.Steps.{Refines, Grown}

-- ---- tests

either : (a b : Bool) → (a || b) ≡ false → (a ≡ false) × (b ≡ false)
either true b h = absurd (cc (h))
either false b h = (refl, h)

passed : {A : Type 0} (b : Bool) (p q : Parser A) (tokens : List Token) → b ≡ false
    → q tokens ≡ Stopped Unfit tokens → choose b p q tokens ≡ Stopped Unfit tokens
passed true p q tokens none h = absurd (cc (none))
passed false p q tokens none h = h

unfit_bind : {A B : Type 0} (p : Parser A) (f : A → Parser B) (tokens : List Token)
    → p tokens ≡ Stopped Unfit tokens → (p >>= f) tokens ≡ Stopped Unfit tokens
unfit_bind p f tokens h = ap (λ g. and_then g f) h

-- the parser refuses each token that does not begin its class
abbrev pub Refusing : {A : Type 0} → (Option Body → Bool) → Parser A → Type 0
Refusing begins r = (tokens : List Token) → begins (next_body tokens) ≡ false → r tokens ≡ Stopped Unfit tokens

-- so it gives the same as what is refused where no height is left
pub unless_grown : {A : Type 0} (begins : Option Body → Bool) (r : Parser A) → Refusing begins r
    → Grown (peek (λ o. unless_deep (begins o))) r
unless_grown {A} begins r refuses = record { grows = λ tokens. by tokens (begins (next_body tokens)) (refuses tokens) }
  where
    by : (tokens : List Token) (b : Bool) → (b ≡ false → r tokens ≡ Stopped Unfit tokens)
        → Refines (unless_deep {A = A} b tokens) (r tokens)
    by tokens true h = tt
    by tokens false h = sym (h refl)

pub unless_refuses : {A : Type 0} (begins : Option Body → Bool)
    → Refusing begins (peek (λ o. unless_deep {A = A} (begins o)))
unless_refuses begins tokens none = passed (begins (next_body tokens)) (fail TooDeep) (fail Unfit) tokens none refl

-- ---- expressions

module _ (k : ℕ) (low : Parsers) where
  prefix_expr_unfit : (scope : Scope) (pos : Pos) (o : Option Prefix) (tokens : List Token) → is_some o ≡ false
      → prefix_expr k low scope pos o tokens ≡ Stopped Unfit tokens
  unfolding prefix_expr
  prefix_expr_unfit scope pos None tokens none = refl
  prefix_expr_unfit scope pos (Some operator) tokens none = absurd (cc (none))

  named_unfit : (type : Bool) (r : Parser Expr) (tokens : List Token) → not type ≡ false
      → choose type (fail Unfit) r tokens ≡ Stopped Unfit tokens
  named_unfit true r tokens none = refl
  named_unfit false r tokens none = absurd (cc (none))

  unary_unfit : (scope : Scope) (level : ℕ) (pos : Pos) (o : Option Body) (tokens : List Token)
      → begins_expr scope o ≡ false → unary_by k low scope level pos o tokens ≡ Stopped Unfit tokens
  unary_unfit scope level pos None tokens none = prefix_expr_unfit scope pos None tokens refl
  unary_unfit scope level pos (Some (lexeme.Number number)) tokens none = absurd (cc (none))
  unary_unfit scope level pos (Some (lexeme.Character value wide)) tokens none = absurd (cc (none))
  unary_unfit scope level pos (Some (lexeme.Literal units wide)) tokens none = absurd (cc (none))
  unary_unfit scope level pos (Some (lexeme.Name x)) tokens none = named_unfit (is_type scope x) _ tokens none
  unary_unfit scope level pos (Some (lexeme.Word w.Sizeof)) tokens none = absurd (cc (none))
  unary_unfit scope level pos (Some (lexeme.Word w.Alignof)) tokens none = absurd (cc (none))
  unary_unfit scope level pos (Some (lexeme.Word next)) tokens none = prefix_expr_unfit scope pos None tokens refl
  unary_unfit scope level pos (Some (lexeme.Mark p.OpenParen)) tokens none = absurd (cc (none))
  unary_unfit scope level pos (Some (lexeme.Mark next)) tokens none =
      prefix_expr_unfit scope pos (prefix_of (Some (lexeme.Mark next))) tokens none

  expr_at_refuses : (scope : Scope) (level : ℕ) → Refusing (begins_expr scope) (expr_at k low scope level)
  unfolding expr_at unary_at
  expr_at_refuses scope level tokens none =
      unfit_bind (unary_at k low scope level) (infixes k low scope level) tokens
      (unary_unfit scope level (place tokens) (next_body tokens) tokens none)

-- ---- initializers

pub record InitializersRefuse (r : Initializers) : Type 0 where
  pub initializer : (scope : Scope) → Refusing (begins_initializer scope) (r.initializer scope)
  pub item : (scope : Scope) → Refusing (begins_item scope) (r.item scope)

module _ (k : ℕ) (low : Initializers) where
  pub initializer_at_refuses : (scope : Scope) → Refusing (begins_initializer scope) (initializer_at k low scope)
  unfolding initializer_at
  initializer_at_refuses scope tokens none =
      let parts = either (begins_expr scope (next_body tokens)) (is_mark p.OpenBrace (next_body tokens)) none in
      passed (is_mark p.OpenBrace (next_body tokens)) _ _ tokens parts.1
      (unfit_bind (expr_at k (parsers k) scope assignment) _ tokens
      (expr_at_refuses k (parsers k) scope assignment tokens parts.0))

  pub item_at_refuses : InitializersRefuse low → (scope : Scope) → Refusing (begins_item scope) (item_at k low scope)
  unfolding item_at
  item_at_refuses refuse scope tokens none =
      let more = either (begins_initializer scope (next_body tokens) || is_mark p.Dot (next_body tokens))
      (is_mark p.OpenBracket (next_body tokens)) none in
      let first = either (begins_initializer scope (next_body tokens)) (is_mark p.Dot (next_body tokens)) more.0 in
      passed (is_mark p.Dot (next_body tokens)) _ _ tokens first.1
      (passed (is_mark p.OpenBracket (next_body tokens)) _ _ tokens more.1
      (unfit_bind (low.initializer scope) (λ value. pure (Plain value)) tokens
      (refuse.initializer scope tokens first.0)))

pub initializers_refuse : (k : ℕ) → InitializersRefuse (initializers k)
initializers_refuse zero = record {
  initializer = λ scope. unless_refuses (begins_initializer scope);
  item =
      λ scope. unless_refuses (begins_item scope);
}
initializers_refuse (suc k) = record {
  initializer = initializer_at_refuses k (initializers k);
  item =
      item_at_refuses k (initializers k) (initializers_refuse k);
}

-- ---- statements

module _ (k : ℕ) (low : Statements) where
  optional_unfit : (ends : Option Body → Bool) (scope : Scope) (tokens : List Token)
      → ends (next_body tokens) ≡ false → begins_expr scope (next_body tokens) ≡ false
      → optional k low ends scope tokens ≡ Stopped Unfit tokens
  unfolding optional an_expr expr_lower
  optional_unfit ends scope tokens more none = passed (ends (next_body tokens)) _ _ tokens more
      (unfit_bind (an_expr k low scope) _ tokens
      (passed (begins_expr scope (next_body tokens)) _ (fail Unfit) tokens none refl))

  statement_unfit : (scope : Scope) (pos : Pos) (o : Option Body) (tokens : List Token)
      → optional k low (is_mark p.Semicolon) scope tokens ≡ Stopped Unfit tokens
      → begins_statement_word o ≡ false → is_mark p.OpenBrace o ≡ false → statement_by k low scope pos o tokens
      ≡ Stopped Unfit tokens
  statement_unfit scope pos (Some (lexeme.Mark p.OpenBrace)) tokens h word brace = absurd (cc (brace))
  statement_unfit scope pos (Some (lexeme.Word w.If)) tokens h word brace = absurd (cc (word))
  statement_unfit scope pos (Some (lexeme.Word w.Switch)) tokens h word brace = absurd (cc (word))
  statement_unfit scope pos (Some (lexeme.Word w.While)) tokens h word brace = absurd (cc (word))
  statement_unfit scope pos (Some (lexeme.Word w.Do)) tokens h word brace = absurd (cc (word))
  statement_unfit scope pos (Some (lexeme.Word w.For)) tokens h word brace = absurd (cc (word))
  statement_unfit scope pos (Some (lexeme.Word w.Break)) tokens h word brace = absurd (cc (word))
  statement_unfit scope pos (Some (lexeme.Word w.Continue)) tokens h word brace = absurd (cc (word))
  statement_unfit scope pos (Some (lexeme.Word w.Return)) tokens h word brace = absurd (cc (word))
  statement_unfit scope pos o tokens h word brace =
      unfit_bind (optional k low (is_mark p.Semicolon) scope) (λ e. pure (ExprStmt e)) tokens h

  pub statement_at_refuses : (scope : Scope) → Refusing (begins_statement scope) (statement_at k low scope)
  unfolding statement_at
  statement_at_refuses scope tokens none =
      let o = next_body tokens in
      let last = either (begins_expr scope o || begins_statement_word o || is_mark p.OpenBrace o)
      (is_mark p.Semicolon o) none in
      let brace = either (begins_expr scope o || begins_statement_word o) (is_mark p.OpenBrace o) last.0 in
      let word = either (begins_expr scope o) (begins_statement_word o) brace.0 in
      statement_unfit scope (place tokens) o tokens
      (optional_unfit (is_mark p.Semicolon) scope tokens last.1 word.0) word.1 brace.1

  pub block_item_at_refuses : (scope : Scope) → Refusing (begins_block_item scope) (block_item_at k low scope)
  unfolding block_item_at
  block_item_at_refuses scope tokens none =
      let o = next_body tokens in
      let last = either (begins_statement scope o || begins_type scope o) (is_word w.StaticAssert o) none in
      let first = either (begins_statement scope o) (begins_type scope o) last.0 in
      passed (begins_type scope o) _ _ tokens first.1 (passed (is_word w.StaticAssert o) _ _ tokens last.1
      (unfit_bind (statement_at k low scope) (λ one. pure (Executes one)) tokens
      (statement_at_refuses scope tokens first.0)))

  pub switch_item_at_refuses : (scope : Scope) → Refusing (begins_switch_item scope) (switch_item_at k low scope)
  unfolding switch_item_at
  switch_item_at_refuses scope tokens none =
      let o = next_body tokens in
      let last = either (begins_block_item scope o || is_word w.Case o) (is_word w.Default o) none in
      let first = either (begins_block_item scope o) (is_word w.Case o) last.0 in
      passed (is_word w.Case o) _ _ tokens first.1 (passed (is_word w.Default o) _ _ tokens last.1
      (unfit_bind (block_item_at k low scope) (λ one. pure (InBlock one)) tokens
      (block_item_at_refuses scope tokens first.0)))
