-- Where the reading of a unary expression or a cast stops, some expression begins with what was read.
use Rattle.std.proofs.Common.{◌≡◌, ◌⊎◌, inl, inr, ℕ, ℤ, zero, suc, ◌≤◌, ◌<◌, Bool, true, false, nat_le, List, [], ◌∷◌}
use Rattle.std.proofs.Common.{◌++◌, Option, Some, None, refl, sym, ◌∙◌, ap, subst, append_assoc, append-nil, arith}
use borrow.Author.Tests.{leb-true}
use Rattle.critical_table.specs.declared.pos.Pos.{Pos}
use Rattle.c_lexer.specs.declared.punct.Punct.TheVariants as p
use Rattle.c_lexer.specs.declared.token.Token.{Token}
use Rattle.c_lexer.specs.declared.token.Body.{Body}
use Rattle.c_lexer.specs.declared.token.Body.TheVariants as lexeme
use Rattle.c_lexer.specs.declared.word.Word.TheVariants as w
use Rattle.c_syntax.specs.declared.expression.Constant.TheVariants as constant
use Rattle.c_syntax.specs.declared.operator.Measure.{Measure}
use Rattle.c_syntax.specs.declared.operator.Measure.TheVariants as measure
use Rattle.c_syntax.specs.declared.operator.Prefix.{Prefix}
use Rattle.c_syntax.specs.declared.operator.Prefix.TheVariants as prefix
use Rattle.c_syntax.specs.declared.spelled.Spelled.{Spelled}
use Rattle.c_syntax.specs.Begin.{BeginsExpr}
use Rattle.c_syntax.specs.Height.{height, type_name_height}
use Rattle.c_syntax.specs.Levels.{expression, cast, unary, postfix, operand_level}
use Rattle.c_syntax.specs.Operators.{prefix_token, measure_word}
use Rattle.c_reading.specs.Parser.{Parser, Why, Unfit, TooDeep, Found, Stopped, and_then, next_body, place, tail}
use Rattle.c_reading.specs.Parser.{pure, fail, choose, deeper, expect, ◌>>=◌}
use Rattle.c_reading.specs.ReadExpr.{Parsers, expr_lower, begins_expr, piece_by, piece, pieces, postfixes, paren_expr}
use Rattle.c_reading.specs.ReadExpr.{cast_on, inside, type_measure, size_behind_paren, size, alignment, text}
use Rattle.c_reading.specs.ReadExpr.{prefix_expr, unary_by, unary_at}
use Rattle.c_reading.specs.ReadToken.{is_mark, is_literal, begins_type, prefix_of}
use Rattle.c_syntax.specs.Scopes.{Scope, is_type, type_name_adds}
use Rattle.c_syntax.specs.Spelling.{spell, spell_type_name}
use Rattle.c_syntax.specs.Tokens.{token_at, word_at, mark, mark_at}
use Rattle.c_syntax.specs.Tree.{Expr, Const, Id, Text, Paren, PrefixOp, MeasureOp, Cast, TypeName}
use Rattle.c_syntax.specs.WellFormed.{IsExpr, IsTypeName}
use Rattle.c_reading.proofs.Viable.Completions.{spelt_next, too_deep_here}
use Rattle.c_reading.proofs.Viable.Contexts.{Completed, stopped, bind_stopped, given_stopped, mark_stopped}
use Rattle.c_reading.proofs.Viable.Contexts.{close_stopped, deeper_stopped, many_stopped, refused, too_deep, Context}
use Rattle.c_reading.proofs.Viable.Contexts.{into, weaker}
use Rattle.c_reading.proofs.Sound.Steps.{chosen, Spelt, joined, nothing_spelt, spelt_at, spelt_bare}
use Rattle.c_reading.proofs.Sound.Law.{spelt, AllSound}
use Rattle.c_reading.proofs.Sound.Expr.{IsExpr_down, low_operand, expr_lower_found, pieces_sound}
use Rattle.c_reading.proofs.Viable.Started.{origin, least_expr, least_type, least_type_fits, expr_completed}
use Rattle.c_reading.proofs.Viable.Started.{ExprBegun, prefix_begun, expr_begun}
use Rattle.c_reading.proofs.TokenTests.{is_mark_is, token_is, prefix_is}
use Rattle.c_reading.proofs.Viable.Law.{Holds, AtOnce, AllViable}
use Rattle.c_reading.proofs.Viable.Postfix.{postfixes_viable}

-- ---- contexts

-- an expression whose part is an expression, or a type name
abbrev pub InExpr : Scope → ℕ → Scope → ℕ → ℕ → List Spelled → Type 0
InExpr inner level outer expr_lower =
    Context (λ e. IsExpr e inner level) height spell (λ e. IsExpr e outer expr_lower) height spell (λ j. suc j)

abbrev InTyped : Scope → ℕ → ℕ → List Spelled → Type 0
InTyped scope level =
    Context (λ type. IsTypeName type scope) type_name_height spell_type_name (λ e. IsExpr e scope level) height
    spell (λ j. suc j)

in_paren : (scope : Scope) (level : ℕ) → InExpr scope expression scope level 0 (mark p.OpenParen ∷ [])
in_paren scope level = record {
  make = λ e. Paren e;
  behind = mark p.CloseParen ∷ [];
  fits = λ e inner. inner;
  within = λ e j least low. omega (arith, low);
  spells = λ e. refl;
}

in_prefix : (scope : Scope) (level : ℕ) (pos : Pos) (operator : Prefix) → level ≤ unary
    → InExpr scope (operand_level operator) scope level 0 (token_at pos (prefix_token operator) ∷ [])
in_prefix scope level pos operator at_most = record {
  make = λ e. PrefixOp pos operator e;
  behind = [];
  fits = λ e inner. (at_most, inner);
  within = λ e j least low. omega (arith, low);
  spells = λ e. ap (λ z. token_at pos (prefix_token operator) ∷ z) (sym (append-nil (spell e)));
}

in_measure : (scope : Scope) (level : ℕ) (pos : Pos) (operator : Measure) → level ≤ unary
    → InTyped scope level 0 (word_at pos (measure_word operator) ∷ mark p.OpenParen ∷ [])
in_measure scope level pos operator at_most = record {
  make = λ type. MeasureOp pos operator type;
  behind = mark p.CloseParen ∷ [];
  fits = λ type inner. (at_most, inner);
  within = λ type j least low. omega (arith, low);
  spells = λ type. refl;
}

in_cast_type : (scope : Scope) (level : ℕ) (pos : Pos) → level ≤ cast
    → InTyped scope level 1 (mark_at pos p.OpenParen ∷ [])
in_cast_type scope level pos at_most = record {
  make = λ type. Cast pos type least_expr;
  behind = mark p.CloseParen ∷ spell least_expr;
  fits = λ type inner. (at_most, inner, tt);
  within = λ type j least low. omega (arith, least, low);
  spells = λ type. refl;
}

in_cast : (scope : Scope) (level : ℕ) (pos : Pos) (type : TypeName) → level ≤ cast → IsTypeName type scope
    → InExpr (scope ++ type_name_adds type) cast scope level (type_name_height type)
    (mark_at pos p.OpenParen ∷ spell_type_name type ++ mark p.CloseParen ∷ [])
in_cast scope level pos type at_most fits = record {
  make = λ e. Cast pos type e;
  behind = [];
  fits = λ e inner. (at_most, fits, inner);
  within = λ e j least low. omega (arith, least, low);
  spells = λ e. ap (λ z. (mark_at pos p.OpenParen ∷ spell_type_name type) ++ mark p.CloseParen ∷ z)
      (sym (append-nil (spell e)))
      ∙ sym (append_assoc (mark_at pos p.OpenParen ∷ spell_type_name type) (mark p.CloseParen ∷ []) (spell e ++ []));
}

-- ---- literals, and what is wanted

piece_goes_on : (wide : Bool) (o : Option Body) (tokens rest : List Token) (why : Why) → is_literal wide o ≡ true
    → piece_by o tokens ≡ Stopped why rest → ⊥
piece_goes_on wide (Some (lexeme.Literal units other)) tokens rest why is h = cc (h)
piece_goes_on true o tokens rest why is h = cc (is)
piece_goes_on false o tokens rest why is h = cc (is)

pub pieces_go_on : (wide : Bool) (tokens rest : List Token) (why : Why) → pieces wide tokens ≡ Stopped why rest → ⊥
unfolding pieces piece
pieces_go_on wide tokens rest why h =
    many_stopped (λ s o. is_literal wide o) (λ s. piece) (λ s units. s) (λ s tokens why rest. ⊥)
    (λ s tokens rest why goes h. piece_goes_on wide (next_body tokens) tokens rest why goes h)
    (λ s tokens mid rest units why goes h then. then) wide tokens rest why h

-- where some height is left
expr_lower_some : (P : Why → List Token → Type 0) (scope : Scope) (k : ℕ) (r : Parser Expr) (tokens rest
    : List Token) (why : Why) → 0 < k → expr_lower scope k r tokens ≡ Stopped why rest → P Unfit tokens
    → (r tokens ≡ Stopped why rest → P why rest) → P why rest
unfolding expr_lower
expr_lower_some P scope k r tokens rest why some h unfit next =
    elim (chosen (begins_expr scope (next_body tokens)) (deeper k r) (fail Unfit) tokens (Stopped why rest) h) [
      | inl x ↦ by k some x.1
      | inr x ↦ stopped P x.1 unfit
    ]
  where
    by : (k : ℕ) → 0 < k → deeper k r tokens ≡ Stopped why rest → P why rest
    by zero some h = absurd (omega arith)
    by (suc k) some h = next h

-- and where none is
expr_lower_low : (scope : Scope) (k : ℕ) (r : Parser Expr) (tokens : List Token) → k ≡ 0
    → ((e : Expr) (rest : List Token) → expr_lower scope k r tokens ≡ Found e rest → ⊥)
    × ((why : Why) (rest : List Token) → expr_lower scope k r tokens ≡ Stopped why rest → AtOnce scope tokens why rest)
unfolding expr_lower
expr_lower_low scope (suc k) r tokens none = absurd (omega arith)
expr_lower_low scope zero r tokens none = (
  λ e rest h. found (begins_expr scope (next_body tokens)) e rest h,
  λ why rest h. stops (begins_expr scope (next_body tokens)) why rest refl h,
)
  where
    found : (b : Bool) (e : Expr) (rest : List Token) → choose b (fail TooDeep) (fail Unfit) tokens ≡ Found e rest → ⊥
    found true e rest h = cc (h)
    found false e rest h = cc (h)

    stops : (b : Bool) (why : Why) (rest : List Token) → begins_expr scope (next_body tokens) ≡ b
        → choose {A = Expr} b (fail TooDeep) (fail Unfit) tokens ≡ Stopped why rest → AtOnce scope tokens why rest
    stops true why rest is h = record { at_once = cc (h); starts = λ e. is }
    stops false why rest is h = record { at_once = cc (h); starts = λ e. absurd (cc (e, h)) }

pub paren_expr_at_once : (k : ℕ) (low : Parsers) (scope : Scope) (tokens rest : List Token) (why : Why) → k ≡ 0
    → paren_expr k low scope tokens ≡ Stopped why rest → AtOnce scope tokens why rest
unfolding paren_expr
paren_expr_at_once k low scope tokens rest why none h =
    let low_expr_lower = expr_lower_low scope k (low.expr scope expression) tokens none in
    elim (bind_stopped (expr_lower scope k (low.expr scope expression) tokens)
    (λ inside. expect (is_mark p.CloseParen) >>= λ _. postfixes k low scope (Paren inside)) why rest h) [
      | inl x ↦ low_expr_lower.1 why rest x
      | inr x ↦ absurd (low_expr_lower.0 x.value x.mid x.one)
    ]

-- some height is left: one level of it alone, or more
one_or_more : (k : ℕ) → 0 < k → (k ≡ 1) ⊎ (1 < k)
one_or_more zero some = absurd (omega arith)
one_or_more (suc zero) some = inl refl
one_or_more (suc (suc k)) some = inr (omega arith)

module _ (k : ℕ) (low : Parsers) (sound : AllSound k low) (viable : AllViable k low) where
  pub paren_expr_stops : (scope : Scope) (tokens after rest : List Token) (why : Why)
      → Spelt tokens (mark p.OpenParen ∷ []) after → 0 < k → paren_expr k low scope after ≡ Stopped why rest
      → Holds (BeginsExpr scope postfix) (suc k) tokens why rest
  unfolding paren_expr
  paren_expr_stops scope tokens after rest why opens some h =
      elim (bind_stopped (expr_lower scope k (low.expr scope expression) after)
      (λ inside. expect (is_mark p.CloseParen) >>= λ _. postfixes k low scope (Paren inside)) why rest h) [
        | inl x ↦ expr_lower_some (Holds (BeginsExpr scope postfix) (suc k) tokens) scope k
            (low.expr scope expression) after rest why some x
            (refused opens (record {
              node = Paren least_expr;
              more =
                  spell least_expr ++ mark p.CloseParen ∷ [];
              fits = tt;
              within = omega arith;
              parts = refl;
            }))
            (λ h. into (in_paren scope postfix) (omega arith) opens
            (viable.expr scope expression after rest why (omega arith) some h))
        | inr x ↦
            (let y = sound.expr scope expression (omega arith) after x.mid x.value
            (expr_lower_found scope k (low.expr scope expression) after x.mid x.value x.one) in
            mark_stopped p.CloseParen (postfixes k low scope (Paren x.value))
            (Holds (BeginsExpr scope postfix) (suc k) tokens) x.mid why rest x.two
            (refused (joined opens (spelt y)) (record {
              node = Paren x.value;
              more = mark p.CloseParen ∷ [];
              fits =
                  y.fits;
              within = omega (arith, y.within);
              parts = refl;
            }))
            (λ mid closes h. postfixes_viable k low sound viable scope tokens mid rest (Paren x.value) why
            (record {
              spells = (joined (joined opens (spelt y)) closes).takes;
              fits = y.fits;
              within =
                  omega (arith, y.within);
            }) h))
      ]

  -- ---- behind an opening parenthesis, and behind `sizeof` and `_Alignof`

  module _ (scope : Scope) (level : ℕ) (low_level : level ≤ unary) (tokens rest : List Token) (why : Why)
      (some : 0 < k) where
    abbrev Stops : Why → List Token → Type 0
    Stops why rest = Holds (BeginsExpr scope level) (suc k) tokens why rest

    primary : Holds (BeginsExpr scope postfix) (suc k) tokens why rest → Stops why rest
    primary x = weaker (λ e fits. IsExpr_down e scope postfix level (omega arith) fits) x

    cast_viable : level ≤ cast → next_body tokens ≡ Some (lexeme.Mark p.OpenParen)
        → cast_on k low scope (place tokens) (tail tokens) ≡ Stopped why rest → Stops why rest
    unfolding cast_on
    cast_viable at_most is h =
        elim (bind_stopped (low.type_name scope (tail tokens)) (λ type. expect (is_mark p.CloseParen)
        >>= λ _. low.expr (scope ++ type_name_adds type) cast
        >>= λ operand. pure (Cast (place tokens) type operand)) why rest h) [
          | inl x ↦ into (in_cast_type scope level (place tokens) at_most) (omega arith)
              (spelt_at tokens (lexeme.Mark p.OpenParen) is) (viable.type_name scope (tail tokens) rest why some x)
          | inr x ↦
              (let type = sound.type_name scope (tail tokens) x.mid x.value x.one in
              let so_far = joined (spelt_at tokens (lexeme.Mark p.OpenParen) is) (spelt type) in
              mark_stopped p.CloseParen (low.expr (scope ++ type_name_adds x.value) cast
              >>= λ operand. pure (Cast (place tokens) x.value operand)) Stops x.mid why rest x.two
              (refused so_far (record {
                node = Cast (place tokens) x.value least_expr;
                more = mark p.CloseParen ∷ spell least_expr;
                fits = (at_most, type.fits, tt);
                within = omega (arith, type.within);
                parts = refl;
              }))
              (λ mid closes h. into (in_cast scope level (place tokens) x.value at_most type.fits) type.within
              (joined so_far closes)
              (viable.expr (scope ++ type_name_adds x.value) cast mid rest why (omega arith) some
              (given_stopped (low.expr (scope ++ type_name_adds x.value) cast mid)
              (λ operand. Cast (place tokens) x.value operand) why rest h))))
        ]

    inside_viable : next_body tokens ≡ Some (lexeme.Mark p.OpenParen)
        → inside k low scope level (place tokens) (tail tokens) ≡ Stopped why rest → Stops why rest
    unfolding inside
    inside_viable is h =
        elim (chosen (begins_type scope (next_body (tail tokens))) _ _ (tail tokens) (Stopped why rest) h) [
          | inl x ↦ elim (chosen (nat_le level cast) _ _ (tail tokens) (Stopped why rest) x.1) [
            | inl y ↦ cast_viable (leb-true level cast y.0) is y.1
            | inr y ↦ stopped Stops y.1 (refused (spelt_bare tokens (lexeme.Mark p.OpenParen) is) (record {
              node = Paren least_expr;
              more = spell least_expr ++ mark p.CloseParen ∷ [];
              fits = tt;
              within = omega arith;
              parts = refl;
            }))
          ]
          | inr x ↦ primary
              (paren_expr_stops scope tokens (tail tokens) rest why (spelt_bare tokens (lexeme.Mark p.OpenParen) is)
              some x.1)
        ]

    type_measure_viable : (operator : Measure) (after : List Token)
        → next_body tokens ≡ Some (lexeme.Word (measure_word operator))
        → Spelt (tail tokens) (mark p.OpenParen ∷ []) after
        → type_measure k low scope operator (place tokens) after ≡ Stopped why rest → Stops why rest
    unfolding type_measure
    type_measure_viable operator after is opens h =
        let so_far = joined (spelt_at tokens (lexeme.Word (measure_word operator)) is) opens in
        elim (bind_stopped (low.type_name scope after) (λ type. expect (is_mark p.CloseParen)
        >>= λ _. pure (MeasureOp (place tokens) operator type)) why rest h) [
          | inl x ↦ into (in_measure scope level (place tokens) operator low_level) (omega arith) so_far
              (viable.type_name scope after rest why some x)
          | inr x ↦
              (let type = sound.type_name scope after x.mid x.value x.one in
              close_stopped p.CloseParen (MeasureOp (place tokens) operator x.value) Stops x.mid why rest x.two
              (refused (joined so_far (spelt type)) (record {
                node = MeasureOp (place tokens) operator x.value;
                more
                    = mark p.CloseParen ∷ [];
                fits = (low_level, type.fits);
                within =
                    omega (arith, type.within);
                parts = refl;
              })))
        ]

    low_paren_expr : 1 < k → (tokens : List Token) → next_body tokens ≡ Some (lexeme.Mark p.OpenParen)
        → low.paren_expr scope (tail tokens) ≡ Stopped why rest → Holds (BeginsExpr scope unary) k tokens why rest
    low_paren_expr more [] is h = absurd (cc (is))
    low_paren_expr more (token ∷ tokens) is h =
        weaker (λ e fits. IsExpr_down e scope postfix unary (omega arith) fits)
        (viable.paren_expr scope token tokens rest why (cc (is)) more h)

    -- behind `sizeof` and a parenthesis, where the height suffices for a type name alone
    size_behind_paren_low : (why : Why) (after : List Token)
        → Spelt tokens (word_at (place tokens) w.Sizeof ∷ mark p.OpenParen ∷ []) after → AtOnce scope after why rest
        → Stops why rest
    size_behind_paren_low why after so_far x =
        by why (subst (λ rest. Spelt tokens (word_at (place tokens) w.Sizeof ∷ mark p.OpenParen ∷ []) rest)
        x.at_once so_far)
        (λ e. expr_begun scope expression (omega arith) (place rest) (next_body rest)
        (subst (λ tokens. begins_expr scope (next_body tokens) ≡ true) x.at_once (x.starts e)))
      where
        type_completed : Completed (λ e. IsExpr e scope level) height spell (suc k)
            (word_at (place tokens) w.Sizeof ∷ mark p.OpenParen ∷ [])
        type_completed = record {
          node = MeasureOp (place tokens) measure.SizeType least_type;
          more = word_at origin w.Int ∷ mark p.CloseParen ∷ [];
          fits = (low_level, least_type_fits scope);
          within = omega arith;
          parts = refl;
        }

        by : (why : Why) → Spelt tokens (word_at (place tokens) w.Sizeof ∷ mark p.OpenParen ∷ []) rest
            → (why ≡ TooDeep → ExprBegun scope expression (place rest) (next_body rest)) → Stops why rest
        by Unfit so_far starts = refused so_far type_completed
        by TooDeep so_far starts =
            let next = starts refl in
            let inner = next.completed in
            too_deep {high = suc (suc next.high)} so_far (spelt_next rest next) type_completed (record {
              node = PrefixOp (place tokens) prefix.SizeExpr (Paren inner.node);
              more = inner.more ++ mark p.CloseParen ∷ [];
              fits = (low_level, inner.fits);
              within = omega (arith, inner.within);
              parts = ap (λ z. word_at (place tokens) w.Sizeof ∷ mark p.OpenParen ∷ (z ++ mark p.CloseParen ∷ []))
                  inner.parts;
            })

    size_behind_paren_viable : next_body tokens ≡ Some (lexeme.Word w.Sizeof)
        → next_body (tail tokens) ≡ Some (lexeme.Mark p.OpenParen)
        → size_behind_paren k low scope (place tokens) (tail (tail tokens)) ≡ Stopped why rest → Stops why rest
    unfolding size_behind_paren
    size_behind_paren_viable is opens h =
        elim (chosen (begins_type scope (next_body (tail (tail tokens)))) _ _ (tail (tail tokens))
        (Stopped why rest) h) [
          | inl x ↦ type_measure_viable measure.SizeType (tail (tail tokens)) is
              (spelt_bare (tail tokens) (lexeme.Mark p.OpenParen) opens) x.1
          | inr x ↦
              (let stops = given_stopped (low.paren_expr scope (tail (tail tokens)))
              (λ operand. PrefixOp (place tokens) prefix.SizeExpr operand) why rest x.1 in
              elim (one_or_more k some) [
                | inl one ↦ size_behind_paren_low why (tail (tail tokens))
                    (joined (spelt_at tokens (lexeme.Word w.Sizeof) is)
                    (spelt_bare (tail tokens) (lexeme.Mark p.OpenParen) opens))
                    (viable.paren_expr_low scope (tail (tail tokens)) rest why one stops)
                | inr more ↦ into (in_prefix scope level (place tokens) prefix.SizeExpr low_level) (omega arith)
                    (spelt_at tokens (lexeme.Word w.Sizeof) is) (low_paren_expr more (tail tokens) opens stops)
              ])
        ]

    size_viable : next_body tokens ≡ Some (lexeme.Word w.Sizeof) → size k low scope (place tokens) (tail tokens)
        ≡ Stopped why rest → Stops why rest
    unfolding size
    size_viable is h =
        elim (chosen (is_mark p.OpenParen (next_body (tail tokens))) _ _ (tail tokens) (Stopped why rest) h) [
          | inl x ↦ size_behind_paren_viable is (is_mark_is p.OpenParen (next_body (tail tokens)) x.0) x.1
          | inr x ↦ into (in_prefix scope level (place tokens) prefix.SizeExpr low_level) (omega arith)
              (spelt_at tokens (lexeme.Word w.Sizeof) is)
              (viable.expr scope unary (tail tokens) rest why (omega arith) some
              (given_stopped (low.expr scope unary (tail tokens))
              (λ operand. PrefixOp (place tokens) prefix.SizeExpr operand) why rest x.1))
        ]

    alignment_viable : next_body tokens ≡ Some (lexeme.Word w.Alignof)
        → alignment k low scope (place tokens) (tail tokens) ≡ Stopped why rest → Stops why rest
    unfolding alignment
    alignment_viable is h =
        mark_stopped p.OpenParen (type_measure k low scope measure.AlignType (place tokens)) Stops (tail tokens) why
        rest h
        (refused (spelt_at tokens (lexeme.Word w.Alignof) is) (record {
          node = MeasureOp (place tokens) measure.AlignType least_type;
          more = mark p.OpenParen ∷ word_at origin w.Int ∷ mark p.CloseParen ∷ [];
          fits = (low_level, least_type_fits scope);
          within = omega arith;
          parts = refl;
        }))
        (λ mid opens h. type_measure_viable measure.AlignType mid is opens h)

  -- ---- unary expressions

  module _ (scope : Scope) (level : ℕ) (low_level : level ≤ unary) (tokens rest : List Token) (why : Why) where
    abbrev StopsAt : Why → List Token → Type 0
    StopsAt why rest = Holds (BeginsExpr scope level) (suc k) tokens why rest

    nothing_refused : StopsAt Unfit tokens
    nothing_refused = refused (nothing_spelt tokens) (expr_completed scope level k)

    -- a token that only a higher expression begins with
    started_deep : begins_expr scope (next_body tokens) ≡ true → StopsAt TooDeep tokens
    started_deep h =
        too_deep_here (expr_completed scope level k)
        (expr_begun scope level low_level (place tokens) (next_body tokens) h)

    -- the postfix operators behind a primary expression
    primary_viable : (first : Expr) (mid : List Token) → Spelt tokens (spell first) mid → IsExpr first scope postfix
        → height first ≡ 1 → postfixes k low scope first mid ≡ Stopped why rest → StopsAt why rest
    primary_viable first mid spelt fits one h =
        weaker (λ e fits. IsExpr_down e scope postfix level (omega arith) fits)
        (postfixes_viable k low sound viable scope tokens mid rest first why
        (record { spells = spelt.takes; fits = fits; within = omega (arith, one) }) h)

    text_viable : (units : List ℤ) (wide : Bool) → next_body tokens ≡ Some (lexeme.Literal units wide)
        → text k low scope (place tokens) units wide (tail tokens) ≡ Stopped why rest → StopsAt why rest
    unfolding text
    text_viable units wide is h =
        elim (bind_stopped (pieces wide (tail tokens))
        (λ more. postfixes k low scope (Text (place tokens) (record { pieces = units ∷ more; wide = wide })))
        why rest h) [
          | inl x ↦ absurd (pieces_go_on wide (tail tokens) rest why x)
          | inr x ↦ primary_viable (Text (place tokens) (record { pieces = units ∷ x.value; wide = wide })) x.mid
              (joined (spelt_at tokens (lexeme.Literal units wide) is)
              (pieces_sound wide (tail tokens) x.mid x.value x.one)) (λ none. cc (none)) refl x.two
        ]

    prefix_expr_viable : (m : Option Prefix) → prefix_of (next_body tokens) ≡ m
        → prefix_expr k low scope (place tokens) m tokens ≡ Stopped why rest → StopsAt why rest
    unfolding prefix_expr
    prefix_expr_viable None m h = stopped StopsAt h nothing_refused
    prefix_expr_viable (Some operator) m h =
        let next = token_is prefix_token (next_body tokens) (prefix_of (next_body tokens)) operator
        (prefix_is (next_body tokens)) m in
        let is = spelt_at tokens (prefix_token operator) next in
        deeper_stopped StopsAt k (λ ts. and_then (low.expr scope (operand_level operator) (tail ts))
        (λ operand. pure (PrefixOp (place tokens) operator operand))) tokens why rest h
        (too_deep_here (expr_completed scope level k)
        (subst (ExprBegun scope level (place tokens)) (sym next)
        (prefix_begun scope level low_level (place tokens) operator)))
        (λ some h. into (in_prefix scope level (place tokens) operator low_level) (omega arith) is
        (viable.expr scope (operand_level operator) (tail tokens) rest why (low_operand operator) some
        (given_stopped (low.expr scope (operand_level operator) (tail tokens))
        (λ operand. PrefixOp (place tokens) operator operand) why rest h)))

    unary_by_viable : (o : Option Body) → next_body tokens ≡ o → unary_by k low scope level (place tokens) o tokens
        ≡ Stopped why rest → StopsAt why rest
    unary_by_viable (Some (lexeme.Number number)) is h =
        primary_viable (Const (place tokens) (constant.Number number)) (tail tokens)
        (spelt_at tokens (lexeme.Number number) is) tt refl h
    unary_by_viable (Some (lexeme.Character value wide)) is h =
        primary_viable (Const (place tokens) (constant.Character value wide)) (tail tokens)
        (spelt_at tokens (lexeme.Character value wide) is) tt refl h
    unary_by_viable (Some (lexeme.Literal units wide)) is h = text_viable units wide is h
    unary_by_viable (Some (lexeme.Name x)) is h =
        elim (chosen (is_type scope x) _ _ tokens (Stopped why rest) h) [
          | inl y ↦ stopped StopsAt y.1 nothing_refused
          | inr y ↦ primary_viable (Id (place tokens) x) (tail tokens) (spelt_at tokens (lexeme.Name x) is) y.0 refl y.1
        ]
    unary_by_viable (Some (lexeme.Word w.Sizeof)) is h =
        deeper_stopped StopsAt k (λ ts. size k low scope (place tokens) (tail ts)) tokens why rest h
        (started_deep (ap (begins_expr scope) is))
        (λ some h. size_viable scope level low_level tokens rest why some is h)
    unary_by_viable (Some (lexeme.Word w.Alignof)) is h =
        deeper_stopped StopsAt k (λ ts. alignment k low scope (place tokens) (tail ts)) tokens why rest h
        (started_deep (ap (begins_expr scope) is))
        (λ some h. alignment_viable scope level low_level tokens rest why some is h)
    unary_by_viable (Some (lexeme.Mark p.OpenParen)) is h =
        deeper_stopped StopsAt k (λ ts. inside k low scope level (place tokens) (tail ts)) tokens why rest h
        (started_deep (ap (begins_expr scope) is))
        (λ some h. inside_viable scope level low_level tokens rest why some is h)
    unary_by_viable o is h = prefix_expr_viable (prefix_of o) (ap prefix_of is) h

    pub unary_viable : unary_at k low scope level tokens ≡ Stopped why rest → StopsAt why rest
    unfolding unary_at
    unary_viable h = unary_by_viable (next_body tokens) refl h
