-- What is read as an expression is one.
use Rattle.std.proofs.Common.{◌≡◌, ℕ, ℤ, suc, ◌≤◌, List, [], ◌∷◌, ◌++◌, map, Bool, true, ◌&&◌, nat_le, Option, Some}
use Rattle.std.proofs.Common.{None, inl, inr, refl, sym, ap, subst, arith}
use Rattle.std.proofs.lemmas.Bool.{and_parts}
use borrow.Author.Tests.{leb-true}
use Rattle.c_lexer.specs.declared.punct.Punct.TheVariants as p
use Rattle.c_lexer.specs.declared.token.Token.{Token}
use Rattle.c_lexer.specs.declared.token.Body.{Body}
use Rattle.c_lexer.specs.declared.token.Body.TheVariants as lexeme
use Rattle.c_lexer.specs.declared.word.Word.TheVariants as w
use Rattle.c_syntax.specs.declared.expression.Constant.TheVariants as constant
use Rattle.c_syntax.specs.declared.operator.Arithmetic.{Arithmetic}
use Rattle.c_syntax.specs.declared.operator.Arithmetic.TheVariants as a
use Rattle.c_syntax.specs.declared.operator.Comparison.{Comparison}
use Rattle.c_syntax.specs.declared.operator.Comparison.TheVariants as c
use Rattle.c_syntax.specs.declared.operator.Infix.{Infix}
use Rattle.c_syntax.specs.declared.operator.Infix.TheVariants as between
use Rattle.c_syntax.specs.declared.operator.Measure.{Measure}
use Rattle.c_syntax.specs.declared.operator.Measure.TheVariants as measure
use Rattle.c_syntax.specs.declared.operator.Prefix.{Prefix}
use Rattle.c_syntax.specs.declared.operator.Prefix.TheVariants as prefix
use Rattle.c_syntax.specs.Height.{height, type_name_height}
use Rattle.c_syntax.specs.Levels.{expression, conditional, logical_or, cast, unary, postfix, arithmetic_level}
use Rattle.c_syntax.specs.Levels.{comparison_level, infix_level, left_level, right_level, operand_level}
use Rattle.c_syntax.specs.Operators.{infix_token, prefix_token, measure_word}
use Rattle.c_reading.specs.Parser.{Parser, Found, and_then, next_body, place, tail, pure, expect, ◌>>=◌}
use Rattle.c_reading.specs.ReadExpr.{Parsers, expr_lower, begins_expr, own_level, piece_by, piece, pieces, postfixes}
use Rattle.c_reading.specs.ReadExpr.{paren_expr, cast_on, inside, type_measure, size_behind_paren, size, alignment}
use Rattle.c_reading.specs.ReadExpr.{text, prefix_expr, unary_by, unary_at, goes_between, goes_infix, between_on}
use Rattle.c_reading.specs.ReadExpr.{cond_on, infix_by, infix_on, infixes, expr_at}
use Rattle.c_reading.specs.ReadToken.{is_mark, is_literal, begins_type, prefix_of, infix_of}
use Rattle.c_syntax.specs.Scopes.{Scope, is_type, expr_adds, type_name_adds}
use Rattle.c_syntax.specs.Spelling.{spell, spell_type_name}
use Rattle.c_syntax.specs.Tokens.{bare, token_at, mark}
use Rattle.c_syntax.specs.Tree as tree
use Rattle.c_syntax.specs.Tree.{Expr, TypeName}
use Rattle.c_syntax.specs.WellFormed.{IsExpr, IsTypeName}
use Rattle.c_reading.proofs.Sound.Steps.{moved, bind_found, chosen, deeper_found, mark_then, Spelt, joined}
use Rattle.c_reading.proofs.Sound.Steps.{nothing_spelt, spelt_at, spelt_bare, many_found, climb_found}
use Rattle.c_reading.proofs.Sound.Law.{Read, Sound, spelt, AllSound}
use Rattle.c_reading.proofs.Sound.Postfix.{IsPostfix, postfixes_sound}
use Rattle.c_reading.proofs.TokenTests.{is_mark_is, is_literal_width, token_is, prefix_is, infix_is}

-- ---- levels

-- where a lower level is wanted, an expression may stand too
pub IsExpr_down : (e : Expr) (scope : Scope) (high low : ℕ) → low ≤ high → IsExpr e scope high → IsExpr e scope low
IsExpr_down (tree.Const pos constant) scope high low le is = is
IsExpr_down (tree.Id pos x) scope high low le is = is
IsExpr_down (tree.Text pos text) scope high low le is = is
IsExpr_down (tree.Paren inner) scope high low le is = is
IsExpr_down (tree.Index pos array index) scope high low le is = (omega arith, is.1, is.2)
IsExpr_down (tree.Call pos function arguments) scope high low le is = (omega arith, is.1, is.2)
IsExpr_down (tree.Member pos access whole x) scope high low le is = (omega arith, is.1)
IsExpr_down (tree.PostfixOp pos operator operand) scope high low le is = (omega arith, is.1)
IsExpr_down (tree.PrefixOp pos operator operand) scope high low le is = (omega arith, is.1)
IsExpr_down (tree.MeasureOp pos operator type) scope high low le is = (omega arith, is.1)
IsExpr_down (tree.Cast pos type operand) scope high low le is = (omega arith, is.1, is.2)
IsExpr_down (tree.InfixOp pos operator left right) scope high low le is = (omega arith, is.1, is.2)
IsExpr_down (tree.Cond pos test then else) scope high low le is = (omega arith, is.1, is.2, is.3)

-- and up to the level of its own operator
pub IsExpr_own : (e : Expr) (scope : Scope) (one other : ℕ) → other ≤ own_level e → IsExpr e scope one
    → IsExpr e scope other
IsExpr_own (tree.Const pos constant) scope one other le is = is
IsExpr_own (tree.Id pos x) scope one other le is = is
IsExpr_own (tree.Text pos text) scope one other le is = is
IsExpr_own (tree.Paren inner) scope one other le is = is
IsExpr_own (tree.Index pos array index) scope one other le is = (le, is.1, is.2)
IsExpr_own (tree.Call pos function arguments) scope one other le is = (le, is.1, is.2)
IsExpr_own (tree.Member pos access whole x) scope one other le is = (le, is.1)
IsExpr_own (tree.PostfixOp pos operator operand) scope one other le is = (le, is.1)
IsExpr_own (tree.PrefixOp pos operator operand) scope one other le is = (le, is.1)
IsExpr_own (tree.MeasureOp pos operator type) scope one other le is = (le, is.1)
IsExpr_own (tree.Cast pos type operand) scope one other le is = (le, is.1, is.2)
IsExpr_own (tree.InfixOp pos operator left right) scope one other le is = (le, is.1, is.2)
IsExpr_own (tree.Cond pos test then else) scope one other le is = (le, is.1, is.2, is.3)

low_arithmetic : (operator : Arithmetic) → suc (arithmetic_level operator) ≤ unary
low_arithmetic a.Multiply = omega arith
low_arithmetic a.Divide = omega arith
low_arithmetic a.Remainder = omega arith
low_arithmetic a.Add = omega arith
low_arithmetic a.Subtract = omega arith
low_arithmetic a.ShiftLeft = omega arith
low_arithmetic a.ShiftRight = omega arith
low_arithmetic a.BitAnd = omega arith
low_arithmetic a.BitXor = omega arith
low_arithmetic a.BitOr = omega arith

low_comparison : (operator : Comparison) → suc (comparison_level operator) ≤ unary
low_comparison c.Less = omega arith
low_comparison c.Greater = omega arith
low_comparison c.LessEqual = omega arith
low_comparison c.GreaterEqual = omega arith
low_comparison c.Equal = omega arith
low_comparison c.NotEqual = omega arith

pub low_right : (operator : Infix) → right_level operator ≤ unary
low_right (between.Arithmetic operator) = low_arithmetic operator
low_right (between.Comparison operator) = low_comparison operator
low_right between.AndAlso = omega arith
low_right between.OrElse = omega arith
low_right between.Assign = omega arith
low_right (between.AssignOp operator) = omega arith
low_right between.Comma = omega arith

pub low_operand : (operator : Prefix) → operand_level operator ≤ unary
low_operand prefix.PreInc = omega arith
low_operand prefix.PreDec = omega arith
low_operand prefix.AddressOf = omega arith
low_operand prefix.Deref = omega arith
low_operand prefix.Plus = omega arith
low_operand prefix.Minus = omega arith
low_operand prefix.Flip = omega arith
low_operand prefix.Not = omega arith
low_operand prefix.SizeExpr = omega arith

-- ---- literals, and what is wanted

pub expr_lower_found : (scope : Scope) (k : ℕ) (r : Parser Expr) (tokens rest : List Token) (e : Expr)
    → expr_lower scope k r tokens ≡ Found e rest → r tokens ≡ Found e rest
unfolding expr_lower
expr_lower_found scope k r tokens rest e h =
    elim (chosen (begins_expr scope (next_body tokens)) _ _ tokens (Found e rest) h) [
      | inl x ↦ deeper_found k r tokens rest e x.1
      | inr x ↦ absurd (cc (x.1))
    ]

piece_found : (o : Option Body) (tokens rest : List Token) (wide : Bool) (units : List ℤ) → is_literal wide o ≡ true
    → piece_by o tokens ≡ Found units rest
    → (o ≡ Some (lexeme.Literal units wide)) × (tail tokens ≡ rest)
piece_found (Some (lexeme.Literal units other)) tokens rest wide found is h = let same =
    is_literal_width wide units other is in (cc (same, h), cc (h))
piece_found _ tokens rest wide found is h = absurd (cc (h))

abbrev pub MorePieces : Bool → List Token → List (List ℤ) → List Token → Type 0
MorePieces wide tokens more rest = Spelt tokens (map (λ units. bare (lexeme.Literal units wide)) more) rest

pub pieces_sound : (wide : Bool) (tokens rest : List Token) (more : List (List ℤ))
    → pieces wide tokens ≡ Found more rest → MorePieces wide tokens more rest
unfolding pieces piece
pieces_sound wide tokens rest more h =
    many_found (λ s o. is_literal wide o) (λ s. piece) (λ s units. s) (λ s. MorePieces wide)
    (λ s tokens. nothing_spelt tokens) (λ s tokens mid rest units more goes h then.
    let x = piece_found (next_body tokens) tokens mid wide units goes h in
    joined (subst (Spelt tokens (bare (lexeme.Literal units wide) ∷ [])) x.1
    (spelt_bare tokens (lexeme.Literal units wide) x.0)) then) wide tokens rest more h

module _ (k : ℕ) (low : Parsers) (sound : AllSound k low) where
  -- ---- primary and unary expressions and casts

  paren_expr_found : (scope : Scope) (open_token : Token) (tokens rest : List Token) (e : Expr)
      → open_token.body ≡ lexeme.Mark p.OpenParen → paren_expr k low scope tokens ≡ Found e rest
      → IsPostfix k low sound scope (open_token ∷ tokens) e rest
  unfolding paren_expr
  paren_expr_found scope open_token tokens rest e is h =
      let x = bind_found (expr_lower scope k (low.expr scope expression) tokens)
      (λ inside. expect (is_mark p.CloseParen) >>= λ _. postfixes k low scope (tree.Paren inside)) e rest h in
      let c = mark_then p.CloseParen (postfixes k low scope (tree.Paren x.value)) x.mid rest e x.two in
      let y = sound.expr scope expression (omega arith) tokens x.mid x.value
      (expr_lower_found scope k (low.expr scope expression) tokens x.mid x.value x.one) in
      postfixes_sound k low sound scope (open_token ∷ tokens) c.mid rest (tree.Paren x.value) e (record {
        spells = (joined (joined (spelt_bare (open_token ∷ tokens) (lexeme.Mark p.OpenParen) (ap Some is))
            (spelt y)) c.spelt).takes;
        fits = y.fits;
        within = omega (arith, y.within);
      }) c.two

  pub paren_expr_sound : (scope : Scope) (open_token : Token) (tokens rest : List Token) (e : Expr)
      → open_token.body ≡ lexeme.Mark p.OpenParen → paren_expr k low scope tokens ≡ Found e rest
      → Read (λ e. IsExpr e scope postfix) height spell (suc k) (open_token ∷ tokens) e rest
  paren_expr_sound scope open_token tokens rest e is h = paren_expr_found scope open_token tokens rest e is h

  -- behind the opening parenthesis, which is the next token
  paren_expr_at : (scope : Scope) (tokens rest : List Token) (e : Expr)
      → next_body tokens ≡ Some (lexeme.Mark p.OpenParen) → paren_expr k low scope (tail tokens) ≡ Found e rest
      → IsPostfix k low sound scope tokens e rest
  paren_expr_at scope [] rest e is h = absurd (cc (is))
  paren_expr_at scope (token ∷ tokens) rest e is h = paren_expr_found scope token tokens rest e (cc (is)) h

  low_paren_expr : (scope : Scope) (tokens rest : List Token) (e : Expr)
      → next_body tokens ≡ Some (lexeme.Mark p.OpenParen) → low.paren_expr scope (tail tokens) ≡ Found e rest
      → Read (λ e. IsExpr e scope postfix) height spell k tokens e rest
  low_paren_expr scope [] rest e is h = absurd (cc (is))
  low_paren_expr scope (token ∷ tokens) rest e is h = sound.paren_expr scope token tokens rest e (cc (is)) h

  abbrev IsRead : Scope → ℕ → List Token → Expr → List Token → Type 0
  IsRead scope level tokens = Read (λ e. IsExpr e scope level) height spell (suc k) tokens

  module _ (scope : Scope) (level : ℕ) (low_level : level ≤ unary) (tokens rest : List Token) (e : Expr) where
    lower : IsPostfix k low sound scope tokens e rest → IsRead scope level tokens e rest
    lower x = record {
      spells = x.spells;
      fits = IsExpr_down e scope postfix level (omega arith) x.fits;
      within =
          x.within;
    }

    -- a primary expression of one token, and the postfix operators behind it
    primary_sound : (first : Expr) (next : Body) → next_body tokens ≡ Some next
        → spell first ≡ token_at (place tokens) next ∷ [] → IsExpr first scope postfix → height first ≡ 1
        → postfixes k low scope first (tail tokens) ≡ Found e rest → IsRead scope level tokens e rest
    primary_sound first next is spelled fits one h =
        lower (postfixes_sound k low sound scope tokens (tail tokens) rest first e (record {
          spells = (subst (λ all. Spelt tokens all (tail tokens)) (sym spelled) (spelt_at tokens next is)).takes;
          fits = fits;
          within = omega (arith, one);
        }) h)

    text_sound : (units : List ℤ) (wide : Bool) → next_body tokens ≡ Some (lexeme.Literal units wide)
        → text k low scope (place tokens) units wide (tail tokens) ≡ Found e rest → IsRead scope level tokens e rest
    unfolding text
    text_sound units wide is h =
        let x = bind_found (pieces wide (tail tokens))
        (λ more. postfixes k low scope
        (tree.Text (place tokens) (record { pieces = units ∷ more; wide = wide }))) e rest h in
        lower (postfixes_sound k low sound scope tokens x.mid rest
        (tree.Text (place tokens) (record { pieces = units ∷ x.value; wide = wide })) e (record {
          spells = (joined (spelt_at tokens (lexeme.Literal units wide) is)
              (pieces_sound wide (tail tokens) x.mid x.value x.one)).takes;
          fits = λ none. cc (none);
          within = omega arith;
        }) x.two)

    cast_read : (mid behind after : List Token) (type : TypeName) (operand : Expr) → level ≤ cast
        → next_body tokens ≡ Some (lexeme.Mark p.OpenParen)
        → Read (λ type. IsTypeName type scope) type_name_height spell_type_name k (tail tokens) type mid
        → Spelt mid (mark p.CloseParen ∷ []) behind
        → Read (λ e. IsExpr e (scope ++ type_name_adds type) cast) height spell k behind operand after
        → IsRead scope level tokens (tree.Cast (place tokens) type operand) after
    cast_read mid behind after type operand at_most is x closes y = record {
      spells = (joined (joined (spelt_at tokens (lexeme.Mark p.OpenParen) is) (spelt x))
          (joined closes (spelt y))).takes;
      fits = (at_most, x.fits, y.fits);
      within = omega (arith, x.within, y.within);
    }

    cast_sound : level ≤ cast → next_body tokens ≡ Some (lexeme.Mark p.OpenParen)
        → cast_on k low scope (place tokens) (tail tokens) ≡ Found e rest → IsRead scope level tokens e rest
    unfolding cast_on
    cast_sound at_most is h =
        let x = bind_found (low.type_name scope (tail tokens)) (λ type. expect (is_mark p.CloseParen)
        >>= λ _. low.expr (scope ++ type_name_adds type) cast
        >>= λ operand. pure (tree.Cast (place tokens) type operand)) e rest h in
        let c = mark_then p.CloseParen (low.expr (scope ++ type_name_adds x.value) cast
        >>= λ operand. pure (tree.Cast (place tokens) x.value operand)) x.mid rest e x.two in
        let y = bind_found (low.expr (scope ++ type_name_adds x.value) cast c.mid)
        (λ operand. pure (tree.Cast (place tokens) x.value operand)) e rest c.two in
        moved (IsRead scope level tokens) {a = tree.Cast (place tokens) x.value y.value} {tokens = y.mid} y.two
        (cast_read x.mid c.mid y.mid x.value y.value at_most is
        (sound.type_name scope (tail tokens) x.mid x.value x.one) c.spelt
        (sound.expr (scope ++ type_name_adds x.value) cast (omega arith) c.mid y.mid y.value y.one))

    inside_sound : next_body tokens ≡ Some (lexeme.Mark p.OpenParen)
        → inside k low scope level (place tokens) (tail tokens) ≡ Found e rest → IsRead scope level tokens e rest
    unfolding inside
    inside_sound is h =
        elim (chosen (begins_type scope (next_body (tail tokens))) _ _ (tail tokens) (Found e rest) h) [
          | inl x ↦ elim (chosen (nat_le level cast) _ _ (tail tokens) (Found e rest) x.1) [
            | inl y ↦ cast_sound (leb-true level cast y.0) is y.1
            | inr y ↦ absurd (cc (y.1))
          ]
          | inr x ↦ lower (paren_expr_at scope tokens rest e is x.1)
        ]

  -- a type name in parentheses behind the word
  type_measure_sound : (scope : Scope) (level : ℕ) → level ≤ unary
      → (operator : Measure) (tokens after rest : List Token) (e : Expr)
      → next_body tokens ≡ Some (lexeme.Word (measure_word operator))
      → Spelt (tail tokens) (mark p.OpenParen ∷ []) after → type_measure k low scope operator (place tokens) after
      ≡ Found e rest → IsRead scope level tokens e rest
  unfolding type_measure
  type_measure_sound scope level low_level operator tokens after rest e is opens h =
      let x = bind_found (low.type_name scope after) (λ type. expect (is_mark p.CloseParen)
      >>= λ _. pure (tree.MeasureOp (place tokens) operator type)) e rest h in
      let c = mark_then p.CloseParen (pure (tree.MeasureOp (place tokens) operator x.value)) x.mid rest e x.two in
      let type = sound.type_name scope after x.mid x.value x.one in
      moved (IsRead scope level tokens) c.two (record {
        spells = (joined (joined (spelt_at tokens (lexeme.Word (measure_word operator)) is)
            (joined opens (spelt type))) c.spelt).takes;
        fits = (low_level, type.fits);
        within = omega (arith, type.within);
      })

  -- the word `sizeof` before a unary expression
  size_expr : (scope : Scope) (level : ℕ) → level ≤ unary → (tokens mid : List Token) (operand : Expr)
      → next_body tokens ≡ Some (lexeme.Word w.Sizeof)
      → Read (λ e. IsExpr e scope unary) height spell k (tail tokens) operand mid
      → IsRead scope level tokens (tree.PrefixOp (place tokens) prefix.SizeExpr operand) mid
  size_expr scope level low_level tokens mid operand is x = record {
    spells = (joined (spelt_at tokens (lexeme.Word w.Sizeof) is) (spelt x)).takes;
    fits = (low_level, x.fits);
    within = omega (arith, x.within);
  }

  module _ (scope : Scope) (level : ℕ) (low_level : level ≤ unary) (tokens rest : List Token) (e : Expr) where
    size_behind_paren_sound : next_body tokens ≡ Some (lexeme.Word w.Sizeof)
        → next_body (tail tokens) ≡ Some (lexeme.Mark p.OpenParen)
        → size_behind_paren k low scope (place tokens) (tail (tail tokens)) ≡ Found e rest
        → IsRead scope level tokens e rest
    unfolding size_behind_paren
    size_behind_paren_sound is opens h =
        elim (chosen (begins_type scope (next_body (tail (tail tokens)))) _ _ (tail (tail tokens)) (Found e rest) h) [
          | inl x ↦ type_measure_sound scope level low_level measure.SizeType tokens (tail (tail tokens)) rest e is
              (spelt_bare (tail tokens) (lexeme.Mark p.OpenParen) opens) x.1
          | inr x ↦
              (let y = bind_found (low.paren_expr scope (tail (tail tokens)))
              (λ operand. pure (tree.PrefixOp (place tokens) prefix.SizeExpr operand)) e rest x.1 in
              let z = low_paren_expr scope (tail tokens) y.mid y.value opens y.one in
              moved (IsRead scope level tokens) y.two (size_expr scope level low_level tokens y.mid y.value is (record {
                spells = z.spells;
                fits = IsExpr_down y.value scope postfix unary (omega arith) z.fits;
                within = z.within;
              })))
        ]

    size_sound : next_body tokens ≡ Some (lexeme.Word w.Sizeof) → size k low scope (place tokens) (tail tokens)
        ≡ Found e rest → IsRead scope level tokens e rest
    unfolding size
    size_sound is h =
        elim (chosen (is_mark p.OpenParen (next_body (tail tokens))) _ _ (tail tokens) (Found e rest) h) [
          | inl x ↦ size_behind_paren_sound is (is_mark_is p.OpenParen (next_body (tail tokens)) x.0) x.1
          | inr x ↦
              (let y = bind_found (low.expr scope unary (tail tokens))
              (λ operand. pure (tree.PrefixOp (place tokens) prefix.SizeExpr operand)) e rest x.1 in
              moved (IsRead scope level tokens) y.two
              (size_expr scope level low_level tokens y.mid y.value is
              (sound.expr scope unary (omega arith) (tail tokens) y.mid y.value y.one)))
        ]

    alignment_sound : next_body tokens ≡ Some (lexeme.Word w.Alignof)
        → alignment k low scope (place tokens) (tail tokens) ≡ Found e rest → IsRead scope level tokens e rest
    unfolding alignment
    alignment_sound is h =
        let c = mark_then p.OpenParen (type_measure k low scope measure.AlignType (place tokens)) (tail tokens) rest
        e h in
        type_measure_sound scope level low_level measure.AlignType tokens c.mid rest e is c.spelt c.two

    prefix_expr_sound : (m : Option Prefix) → prefix_of (next_body tokens) ≡ m
        → prefix_expr k low scope (place tokens) m tokens ≡ Found e rest → IsRead scope level tokens e rest
    unfolding prefix_expr
    prefix_expr_sound None m h = absurd (cc (h))
    prefix_expr_sound (Some operator) m h =
        let x = bind_found (low.expr scope (operand_level operator) (tail tokens))
        (λ operand. pure (tree.PrefixOp (place tokens) operator operand)) e rest
        (deeper_found k (λ ts. and_then (low.expr scope (operand_level operator) (tail ts))
        (λ operand. pure (tree.PrefixOp (place tokens) operator operand))) tokens rest e h) in
        let y = sound.expr scope (operand_level operator) (low_operand operator) (tail tokens) x.mid x.value x.one in
        moved (IsRead scope level tokens) x.two (record {
          spells = (joined
              (spelt_at tokens (prefix_token operator)
              (token_is prefix_token _ _ operator (prefix_is (next_body tokens)) m)) (spelt y)).takes;
          fits = (low_level, y.fits);
          within = omega (arith, y.within);
        })

    unary_by_sound : (o : Option Body) → next_body tokens ≡ o → unary_by k low scope level (place tokens) o tokens
        ≡ Found e rest → IsRead scope level tokens e rest
    unary_by_sound (Some (lexeme.Number number)) is h =
        primary_sound scope level low_level tokens rest e (tree.Const (place tokens) (constant.Number number))
        (lexeme.Number number) is refl tt refl h
    unary_by_sound (Some (lexeme.Character value wide)) is h =
        primary_sound scope level low_level tokens rest e
        (tree.Const (place tokens) (constant.Character value wide)) (lexeme.Character value wide) is refl tt refl h
    unary_by_sound (Some (lexeme.Literal units wide)) is h =
        text_sound scope level low_level tokens rest e units wide is h
    unary_by_sound (Some (lexeme.Name x)) is h =
        elim (chosen (is_type scope x) _ _ tokens (Found e rest) h) [
          | inl y ↦ absurd (cc (y.1))
          | inr y ↦ primary_sound scope level low_level tokens rest e (tree.Id (place tokens) x) (lexeme.Name x) is
              refl y.0 refl y.1
        ]
    unary_by_sound (Some (lexeme.Word w.Sizeof)) is h =
        size_sound is (deeper_found k (λ ts. size k low scope (place tokens) (tail ts)) tokens rest e h)
    unary_by_sound (Some (lexeme.Word w.Alignof)) is h =
        alignment_sound is (deeper_found k (λ ts. alignment k low scope (place tokens) (tail ts)) tokens rest e h)
    unary_by_sound (Some (lexeme.Mark p.OpenParen)) is h =
        inside_sound scope level low_level tokens rest e is
        (deeper_found k (λ ts. inside k low scope level (place tokens) (tail ts)) tokens rest e h)
    unary_by_sound o is h = prefix_expr_sound (prefix_of o) (ap prefix_of is) h

    pub unary_sound : unary_at k low scope level tokens ≡ Found e rest → IsRead scope level tokens e rest
    unfolding unary_at
    unary_sound h = unary_by_sound (next_body tokens) refl h

  -- ---- operators between operands, and the conditional

  module _ (scope : Scope) (level : ℕ) (low_level : level ≤ unary) (start tokens rest : List Token) (left e : Expr)
      (before : IsRead scope level start left tokens) (low_left : height left ≤ k) where
    between_sound : (operator : Infix) → next_body tokens ≡ Some (lexeme.Mark (infix_token operator))
        → level ≤ infix_level operator → left_level operator ≤ own_level left
        → between_on k low scope left (place tokens) operator (tail tokens) ≡ Found e rest
        → IsRead scope level start e rest
    unfolding between_on
    between_sound operator is at_most may h =
        let x = bind_found (low.expr (scope ++ expr_adds left) (right_level operator) (tail tokens))
        (λ right. pure (tree.InfixOp (place tokens) operator left right)) e rest h in
        let y = sound.expr (scope ++ expr_adds left) (right_level operator) (low_right operator) (tail tokens) x.mid
        x.value x.one in
        moved (IsRead scope level start) x.two (record {
          spells = (joined (spelt before) (joined (spelt_at tokens (lexeme.Mark (infix_token operator)) is)
              (spelt y))).takes;
          fits = (at_most, IsExpr_own left scope level (left_level operator) may before.fits, y.fits);
          within = omega (arith, y.within);
        })

    cond_read : (mid behind after : List Token) (then else : Expr)
        → next_body tokens ≡ Some (lexeme.Mark p.Question) → level ≤ conditional → logical_or ≤ own_level left
        → Read (λ e. IsExpr e (scope ++ expr_adds left) expression) height spell k (tail tokens) then mid
        → Spelt mid (mark p.Colon ∷ []) behind
        → Read (λ e. IsExpr e (scope ++ expr_adds left ++ expr_adds then) conditional) height spell k behind
        else after → IsRead scope level start (tree.Cond (place tokens) left then else) after
    cond_read mid behind after then else is at_most may x colon y = record {
      spells = (joined (joined (spelt before) (joined (spelt_at tokens (lexeme.Mark p.Question) is) (spelt x)))
          (joined colon (spelt y))).takes;
      fits = (at_most, IsExpr_own left scope level logical_or may before.fits, x.fits, y.fits);
      within = omega (arith, x.within, y.within);
    }

    cond_sound : next_body tokens ≡ Some (lexeme.Mark p.Question) → level ≤ conditional
        → logical_or ≤ own_level left → cond_on k low scope left (place tokens) (tail tokens) ≡ Found e rest
        → IsRead scope level start e rest
    unfolding cond_on
    cond_sound is at_most may h =
        let inner : Scope = scope ++ expr_adds left in
        let x = bind_found (low.expr inner expression (tail tokens)) (λ then. expect (is_mark p.Colon)
        >>= λ _. low.expr (inner ++ expr_adds then) conditional >>= λ else. pure (tree.Cond (place tokens) left
        then else)) e rest h in
        let c = mark_then p.Colon (low.expr (inner ++ expr_adds x.value) conditional
        >>= λ else. pure (tree.Cond (place tokens) left x.value else)) x.mid rest e x.two in
        let y = bind_found (low.expr (inner ++ expr_adds x.value) conditional c.mid)
        (λ else. pure (tree.Cond (place tokens) left x.value else)) e rest c.two in
        moved (IsRead scope level start) {a = tree.Cond (place tokens) left x.value y.value} {tokens = y.mid} y.two
        (cond_read x.mid c.mid y.mid x.value y.value is at_most may
        (sound.expr inner expression (omega arith) (tail tokens) x.mid x.value x.one) c.spelt
        (sound.expr (inner ++ expr_adds x.value) conditional (omega arith) c.mid y.mid y.value y.one))

    pub infix_by_sound : (m : Option Infix) → infix_of (next_body tokens) ≡ m
        → goes_between level left m (is_mark p.Question (next_body tokens)) ≡ true
        → infix_by k low scope left (place tokens) m tokens ≡ Found e rest → IsRead scope level start e rest
    infix_by_sound (Some operator) m goes h =
        let both = and_parts (nat_le level (infix_level operator)) (nat_le (left_level operator) (own_level left))
        goes in
        between_sound operator (token_is (λ operator. lexeme.Mark (infix_token operator)) _ _ operator
        (infix_is (next_body tokens)) m) (leb-true level (infix_level operator) both.0)
        (leb-true (left_level operator) (own_level left) both.1) h
    infix_by_sound None m goes h =
        let both = and_parts (is_mark p.Question (next_body tokens) && nat_le level conditional)
        (nat_le logical_or (own_level left)) goes in
        let more = and_parts (is_mark p.Question (next_body tokens)) (nat_le level conditional) both.0 in
        cond_sound (is_mark_is p.Question (next_body tokens) more.0) (leb-true level conditional more.1)
        (leb-true logical_or (own_level left) both.1) h

  pub expr_sound : (scope : Scope) (level : ℕ) → level ≤ unary
      → Sound (λ e. IsExpr e scope level) height spell (suc k) (expr_at k low scope level)
  unfolding expr_at infixes infix_on
  expr_sound scope level low_level tokens rest e h =
      let x = bind_found (unary_at k low scope level tokens) (infixes k low scope level) e rest h in
      climb_found (goes_infix level) (λ e. nat_le (height e) k) (infix_on k low scope) (IsRead scope level tokens)
      (λ left a here mid goes fits h before. infix_by_sound scope level low_level tokens here mid left a before
      (leb-true (height left) k fits) (infix_of (next_body here)) refl goes h)
      k x.value e x.mid rest (unary_sound scope level low_level tokens x.mid x.value x.one) x.two
