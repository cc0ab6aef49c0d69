-- Where the reading of an expression stops, some expression begins with what was read.
use Rattle.std.proofs.Common.{◌≡◌, inl, inr, ℕ, suc, ◌≤◌, ◌<◌, max, List, [], ◌∷◌, ◌++◌, true, ◌&&◌, nat_le, Option}
use Rattle.std.proofs.Common.{Some, None, refl, sym, ◌∙◌, ap, subst, append_assoc, append-nil, arith}
use Rattle.std.proofs.lemmas.Bool.{and_parts}
use borrow.Author.Tests.{leb-true}
use Rattle.critical_table.specs.declared.pos.Pos.{Pos}
use Rattle.c_lexer.specs.declared.punct.Punct.TheVariants as p
use Rattle.c_lexer.specs.declared.token.Token.{Token}
use Rattle.c_lexer.specs.declared.token.Body.TheVariants as lexeme
use Rattle.c_syntax.specs.declared.operator.Infix.{Infix}
use Rattle.c_syntax.specs.Begin.{BeginsExpr}
use Rattle.c_syntax.specs.Height.{height}
use Rattle.c_syntax.specs.Levels.{expression, conditional, logical_or, unary, postfix, infix_level, left_level}
use Rattle.c_syntax.specs.Levels.{right_level}
use Rattle.c_syntax.specs.Operators.{infix_token}
use Rattle.c_reading.specs.Parser.{Why, TooDeep, Stopped, next_body, place, tail, pure, expect, ◌>>=◌}
use Rattle.c_reading.specs.ReadExpr.{Parsers, own_level, goes_between, goes_infix, between_on, cond_on, infix_by}
use Rattle.c_reading.specs.ReadExpr.{infix_on, infixes, unary_at, paren_expr, expr_at}
use Rattle.c_reading.specs.ReadToken.{is_mark, infix_of}
use Rattle.c_syntax.specs.Scopes.{Scope, expr_adds}
use Rattle.c_syntax.specs.Spelling.{spell}
use Rattle.c_syntax.specs.Tokens.{mark, mark_at}
use Rattle.c_syntax.specs.Tree.{Expr, InfixOp, Cond}
use Rattle.c_syntax.specs.WellFormed.{IsExpr}
use Rattle.c_reading.proofs.Viable.Completions.{read_completed}
use Rattle.c_reading.proofs.Viable.Contexts.{bind_stopped, given_stopped, mark_stopped, climb_stopped, refused}
use Rattle.c_reading.proofs.Viable.Contexts.{too_deep, into}
use Rattle.c_reading.proofs.Sound.Steps.{joined, spelt_at, spelt_bare}
use Rattle.c_syntax.proofs.HeightLaws.{expr_high}
use Rattle.c_reading.proofs.Sound.Law.{Read, spelt, AllSound}
use Rattle.c_reading.proofs.Sound.Expr.{IsExpr_own, low_right, unary_sound, infix_by_sound}
use Rattle.c_reading.proofs.Viable.Started.{least_expr}
use Rattle.c_reading.proofs.TokenTests.{is_mark_is, token_is, infix_is}
use Rattle.c_reading.proofs.Viable.Law.{Holds, AllViable}
use Rattle.c_reading.proofs.Viable.Unary.{InExpr, paren_expr_stops, unary_viable}

-- ---- contexts

-- may stand where the level is wanted, with this on its left
pub record Between (level own left_wanted : ℕ) (left : Expr) (scope : Scope) : Type 0 where
  pub at_most : level ≤ own
  pub fits : IsExpr left scope left_wanted

in_infix : (scope : Scope) (level : ℕ) (pos : Pos) (operator : Infix) (left : Expr)
    → Between level (infix_level operator) (left_level operator) left scope
    → InExpr (scope ++ expr_adds left) (right_level operator) scope level (height left)
    (spell left ++ mark_at pos (infix_token operator) ∷ [])
in_infix scope level pos operator left may = record {
  make = λ e. InfixOp pos operator left e;
  behind = [];
  fits = λ e inner. (may.at_most, may.fits, inner);
  within = λ e j least low. omega (arith, least, low);
  spells = λ e. simp (append_assoc, append-nil) refl;
}

in_then : (scope : Scope) (level : ℕ) (pos : Pos) (left : Expr) → Between level conditional logical_or left scope
    → InExpr (scope ++ expr_adds left) expression scope level (height left) (spell left ++ mark_at pos p.Question ∷ [])
in_then scope level pos left may = record {
  make = λ e. Cond pos left e least_expr;
  behind = mark p.Colon ∷ spell least_expr;
  fits = λ e inner. (may.at_most, may.fits, inner, tt);
  within = λ e j least low. let x = expr_high left in omega (arith, least, low);
  spells = λ e. simp append_assoc refl;
}

in_else : (scope : Scope) (level : ℕ) (pos : Pos) (left then : Expr)
    → Between level conditional logical_or left scope → IsExpr then (scope ++ expr_adds left) expression
    → InExpr (scope ++ expr_adds left ++ expr_adds then) conditional scope level (max (height left) (height then))
    ((spell left ++ mark_at pos p.Question ∷ spell then) ++ mark p.Colon ∷ [])
in_else scope level pos left then may fits = record {
  make = λ e. Cond pos left then e;
  behind = [];
  fits = λ e inner. (may.at_most, may.fits, fits, inner);
  within = λ e j least low. omega (arith, least, low);
  spells = λ e. ap (λ z. (spell left ++ mark_at pos p.Question ∷ spell then) ++ mark p.Colon ∷ z)
      (sym (append-nil (spell e)))
      ∙ sym (append_assoc (spell left ++ mark_at pos p.Question ∷ spell then) (mark p.Colon ∷ []) (spell e ++ []));
}

module _ (k : ℕ) (low : Parsers) (sound : AllSound k low) (viable : AllViable k low) where
  abbrev IsRead : Scope → ℕ → List Token → Expr → List Token → Type 0
  IsRead scope level tokens = Read (λ e. IsExpr e scope level) height spell (suc k) tokens

  module _ (scope : Scope) (level : ℕ) (start tokens : List Token) (left : Expr)
      (before : IsRead scope level start left tokens) where
    abbrev Stops : Why → List Token → Type 0
    Stops why rest = Holds (BeginsExpr scope level) (suc k) start why rest

    may_stand : (own expr_lower : ℕ) → level ≤ own → expr_lower ≤ own_level left
        → Between level own expr_lower left scope
    may_stand own expr_lower at_most may =
        record { at_most = at_most; fits = IsExpr_own left scope level expr_lower may before.fits }

    -- the operator, or the conditional, that the next token begins
    by_next : (Q : Type 0)
        → ((operator : Infix) → next_body tokens ≡ Some (lexeme.Mark (infix_token operator))
        → infix_of (next_body tokens) ≡ Some operator
        → Between level (infix_level operator) (left_level operator) left scope → Q)
        → (next_body tokens ≡ Some (lexeme.Mark p.Question) → infix_of (next_body tokens) ≡ None
        → Between level conditional logical_or left scope → Q)
        → goes_infix level left (next_body tokens) ≡ true → Q
    by_next Q between cond goes = by (infix_of (next_body tokens)) refl goes
      where
        by : (m : Option Infix) → infix_of (next_body tokens) ≡ m
            → goes_between level left m (is_mark p.Question (next_body tokens)) ≡ true → Q
        by (Some operator) m goes =
            let both = and_parts (nat_le level (infix_level operator))
            (nat_le (left_level operator) (own_level left)) goes in
            between operator (token_is (λ operator. lexeme.Mark (infix_token operator)) _ _ operator
            (infix_is (next_body tokens)) m) m
            (may_stand (infix_level operator) (left_level operator) (leb-true level (infix_level operator) both.0)
            (leb-true (left_level operator) (own_level left) both.1))
        by None m goes =
            let both = and_parts (is_mark p.Question (next_body tokens) && nat_le level conditional)
            (nat_le logical_or (own_level left)) goes in
            let more = and_parts (is_mark p.Question (next_body tokens)) (nat_le level conditional) both.0 in
            cond (is_mark_is p.Question (next_body tokens) more.0) m
            (may_stand conditional logical_or (leb-true level conditional more.1)
            (leb-true logical_or (own_level left) both.1))

    module _ (low_left : height left ≤ k) (rest : List Token) (why : Why) where
      some : 0 < k
      some = let x = expr_high left in omega arith

      between_viable : (operator : Infix) → next_body tokens ≡ Some (lexeme.Mark (infix_token operator))
          → Between level (infix_level operator) (left_level operator) left scope
          → between_on k low scope left (place tokens) operator (tail tokens) ≡ Stopped why rest → Stops why rest
      unfolding between_on
      between_viable operator is may h =
          into (in_infix scope level (place tokens) operator left may) low_left
          (joined (spelt before) (spelt_at tokens (lexeme.Mark (infix_token operator)) is))
          (viable.expr (scope ++ expr_adds left) (right_level operator) (tail tokens) rest why (low_right operator) some
          (given_stopped (low.expr (scope ++ expr_adds left) (right_level operator) (tail tokens))
          (λ right. InfixOp (place tokens) operator left right) why rest h))

      cond_viable : next_body tokens ≡ Some (lexeme.Mark p.Question)
          → Between level conditional logical_or left scope → cond_on k low scope left (place tokens) (tail tokens)
          ≡ Stopped why rest → Stops why rest
      unfolding cond_on
      cond_viable is may h =
          let inner : Scope = scope ++ expr_adds left in
          elim (bind_stopped (low.expr inner expression (tail tokens)) (λ then. expect (is_mark p.Colon)
          >>= λ _. low.expr (inner ++ expr_adds then) conditional >>= λ else. pure (Cond (place tokens) left
          then else)) why rest h) [
            | inl x ↦ into (in_then scope level (place tokens) left may) low_left
                (joined (spelt before) (spelt_at tokens (lexeme.Mark p.Question) is))
                (viable.expr inner expression (tail tokens) rest why (omega arith) some x)
            | inr x ↦
                (let then = sound.expr inner expression (omega arith) (tail tokens) x.mid x.value x.one in
                let so_far = joined (spelt before)
                (joined (spelt_at tokens (lexeme.Mark p.Question) is) (spelt then)) in
                mark_stopped p.Colon (low.expr (inner ++ expr_adds x.value) conditional
                >>= λ else. pure (Cond (place tokens) left x.value else)) Stops x.mid why rest x.two
                (refused so_far (record {
                  node = Cond (place tokens) left x.value least_expr;
                  more = mark p.Colon ∷ spell least_expr;
                  fits = (may.at_most, may.fits, then.fits, tt);
                  within = omega (arith, then.within, some);
                  parts = refl;
                }))
                (λ mid colon h. into (in_else scope level (place tokens) left x.value may then.fits)
                (omega (arith, then.within)) (joined so_far colon)
                (viable.expr (inner ++ expr_adds x.value) conditional mid rest why (omega arith) some
                (given_stopped (low.expr (inner ++ expr_adds x.value) conditional mid)
                (λ else. Cond (place tokens) left x.value else) why rest h))))
          ]

      infix_viable : goes_infix level left (next_body tokens) ≡ true
          → infix_by k low scope left (place tokens) (infix_of (next_body tokens)) tokens ≡ Stopped why rest
          → Stops why rest
      infix_viable goes h =
          by_next (Stops why rest)
          (λ operator is m may.
          between_viable operator is may (subst (λ m. infix_by k low scope left (place tokens) m tokens
          ≡ Stopped why rest) m h))
          (λ is m may. cond_viable is may
          (subst (λ m. infix_by k low scope left (place tokens) m tokens ≡ Stopped why rest) m h))
          goes

    -- behind a tree of the full height
    high_viable : goes_infix level left (next_body tokens) ≡ true → Stops TooDeep tokens
    high_viable goes =
        by_next (Stops TooDeep tokens)
        (λ operator is m may.
        let e : Expr = InfixOp (place tokens) operator left least_expr in
        too_deep {high = height e} (spelt before) (spelt_at tokens (lexeme.Mark (infix_token operator)) is)
        (read_completed before) (record {
          node = InfixOp (place tokens) operator left least_expr;
          more = spell least_expr;
          fits = (may.at_most, may.fits, tt);
          within = omega arith;
          parts = sym (append_assoc (spell left) (mark_at (place tokens) (infix_token operator) ∷ [])
              (spell least_expr));
        }))
        (λ is m may.
        let e : Expr = Cond (place tokens) left least_expr least_expr in
        too_deep {high = height e} (spelt before) (spelt_at tokens (lexeme.Mark p.Question) is)
        (read_completed before) (record {
          node = Cond (place tokens) left least_expr least_expr;
          more = spell least_expr ++ mark p.Colon ∷ spell least_expr;
          fits = (may.at_most, may.fits, tt, tt);
          within = omega arith;
          parts = simp append_assoc refl;
        }))
        goes

  pub expr_viable : (scope : Scope) (level : ℕ) (tokens rest : List Token) (why : Why) → level ≤ unary
      → expr_at k low scope level tokens ≡ Stopped why rest → Holds (BeginsExpr scope level) (suc k) tokens why rest
  unfolding expr_at infixes infix_on
  expr_viable scope level tokens rest why low_level h =
      elim (bind_stopped (unary_at k low scope level tokens) (infixes k low scope level) why rest h) [
        | inl x ↦ unary_viable k low sound viable scope level low_level tokens rest why x
        | inr x ↦ climb_stopped (goes_infix level) (λ e. nat_le (height e) k) (infix_on k low scope)
            (IsRead scope level tokens) (Holds (BeginsExpr scope level) (suc k) tokens)
            (λ left a here mid goes fits h before. infix_by_sound k low sound scope level low_level tokens here mid
            left a before (leb-true (height left) k fits) (infix_of (next_body here)) refl goes h)
            (λ left here rest why goes fits h before. infix_viable scope level tokens here left before
            (leb-true (height left) k fits) rest why goes h)
            (λ left here goes before. high_viable scope level tokens here left before goes)
            k x.value x.mid rest why (unary_sound k low sound scope level low_level tokens x.mid x.value x.one) x.two
      ]

  pub paren_expr_viable : (scope : Scope) (open_token : Token) (tokens rest : List Token) (why : Why)
      → open_token.body ≡ lexeme.Mark p.OpenParen → 0 < k → paren_expr k low scope tokens ≡ Stopped why rest
      → Holds (BeginsExpr scope postfix) (suc k) (open_token ∷ tokens) why rest
  paren_expr_viable scope open_token tokens rest why is room h =
      paren_expr_stops k low sound viable scope (open_token ∷ tokens) tokens rest why
      (spelt_bare (open_token ∷ tokens) (lexeme.Mark p.OpenParen) (ap Some is)) room h
