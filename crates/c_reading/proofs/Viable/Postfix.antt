-- Where the reading of arguments or of postfix operators stops, some postfix expression begins with what was read.
use Rattle.std.proofs.Common.{◌≡◌, inl, inr, ℕ, suc, ◌≤◌, ◌<◌, true, false, nat_le, List, [], ◌∷◌, ◌++◌, Option, Some}
use Rattle.std.proofs.Common.{None, refl, sym, ap, append_assoc, append-nil, arith}
use Rattle.std.specs.List.{flat_map}
use borrow.Author.Tests.{leb-true}
use Rattle.critical_table.specs.declared.pos.Pos.{Pos}
use Rattle.c_lexer.specs.declared.punct.Punct.{Punct}
use Rattle.c_lexer.specs.declared.punct.Punct.TheVariants as p
use Rattle.c_lexer.specs.declared.token.Token.{Token}
use Rattle.c_lexer.specs.declared.token.Body.{Body}
use Rattle.c_lexer.specs.declared.token.Body.TheVariants as lexeme
use Rattle.c_syntax.specs.declared.operator.Access.{Access}
use Rattle.c_syntax.specs.declared.operator.Access.TheVariants as access
use Rattle.c_syntax.specs.declared.operator.Postfix.{Postfix}
use Rattle.c_syntax.specs.declared.operator.Postfix.TheVariants as step
use Rattle.c_syntax.specs.declared.spelled.Spelled.{Spelled}
use Rattle.c_syntax.specs.Begin.{Begins, BeginsExpr}
use Rattle.c_syntax.specs.Height.{height, exprs_height}
use Rattle.c_syntax.specs.Levels.{expression, assignment, postfix}
use Rattle.c_syntax.specs.Operators.{access_token}
use Rattle.c_reading.specs.Parser.{Why, TooDeep, Stopped, next_body, place, tail, pure, expect, ◌>>=◌}
use Rattle.c_reading.specs.ReadExpr.{Parsers, with_name, goes_postfix, listed_arguments, arguments_by, arguments}
use Rattle.c_reading.specs.ReadExpr.{index, call, access_name, step_by_one, postfix_by, postfix_on, postfixes}
use Rattle.c_reading.specs.ReadToken.{is_mark, name_of}
use Rattle.c_syntax.specs.Scopes.{Scope, expr_adds}
use Rattle.c_syntax.specs.Spelling.{spell, spelled_arguments}
use Rattle.c_syntax.specs.Tokens.{mark, mark_at, name, commas}
use Rattle.c_syntax.specs.Tree.{Expr, Index, Call, Member, PostfixOp, Exprs, NoExpr, MoreExprs}
use Rattle.c_syntax.specs.View.{exprs}
use Rattle.c_syntax.specs.WellFormed.{IsExpr, AreArguments}
use Rattle.c_reading.proofs.Viable.Completions.{read_completed}
use Rattle.c_reading.proofs.Viable.Contexts.{stopped, bind_stopped, given_stopped, close_stopped, listed_stopped}
use Rattle.c_reading.proofs.Viable.Contexts.{climb_stopped, refused, too_deep, Context, into}
use Rattle.c_reading.proofs.Sound.Steps.{Spelt, joined, nothing_spelt, spelt_at, spelt_mark}
use Rattle.c_syntax.proofs.HeightLaws.{expr_high}
use Rattle.c_reading.proofs.Sound.Law.{spelt, AllSound}
use Rattle.c_reading.proofs.Sound.Postfix.{listed_arguments_sound, IsPostfix, postfix_by_sound}
use Rattle.c_reading.proofs.Viable.Started.{least_expr}
use Rattle.c_reading.proofs.Viable.Law.{Holds, AllViable}

-- ---- arguments, with the closing parenthesis

abbrev spell_behind : Exprs → List Spelled
spell_behind all = flat_map (λ part. mark p.Comma ∷ part) (spelled_arguments all) ++ mark p.CloseParen ∷ []

abbrev spell_closed : Exprs → List Spelled
spell_closed all = commas (spelled_arguments all) ++ mark p.CloseParen ∷ []

-- what stands behind an argument
abbrev BeginsBehind : Scope → ℕ → List Token → Type 0
BeginsBehind scope = Begins (λ all. AreArguments all scope) exprs_height spell_behind

abbrev BeginsArguments : Scope → ℕ → List Token → Type 0
BeginsArguments scope = Begins (λ all. AreArguments all scope) exprs_height spell_closed

abbrev InArguments : Scope → (Exprs → List Spelled) → ℕ → List Spelled → Type 0
InArguments scope spelled =
    Context (λ e. IsExpr e scope assignment) height spell (λ all. AreArguments all scope) exprs_height spelled (λ j. j)

as_last : (scope : Scope) → InArguments scope spell_behind 0 (mark p.Comma ∷ [])
as_last scope = record {
  make = λ e. MoreExprs e NoExpr;
  behind = mark p.CloseParen ∷ [];
  fits = λ e fits. (fits, tt);
  within = λ e j least low. omega (arith, low);
  spells = λ e. ap (λ z. z ++ mark p.CloseParen ∷ []) (append-nil (mark p.Comma ∷ spell e));
}

as_first : (scope : Scope) → InArguments scope spell_closed 0 []
as_first scope = record {
  make = λ e. MoreExprs e NoExpr;
  behind = mark p.CloseParen ∷ [];
  fits = λ e fits. (fits, tt);
  within = λ e j least low. omega (arith, low);
  spells = λ e. ap (λ z. z ++ mark p.CloseParen ∷ []) (append-nil (spell e));
}

abbrev Behind : Scope → Expr → (Exprs → List Spelled) → List Spelled → Type 0
Behind scope first spelled =
    Context (λ all. AreArguments all (scope ++ expr_adds first)) exprs_height spell_behind
    (λ all. AreArguments all scope) exprs_height spelled (λ j. j) (height first)

behind_more : (scope : Scope) (first : Expr) → IsExpr first scope assignment
    → Behind scope first spell_behind (mark p.Comma ∷ spell first)
behind_more scope first fits = record {
  make = λ all. MoreExprs first all;
  behind = [];
  fits = λ all more. (fits, more);
  within = λ all j least low. omega (arith, least, low);
  spells = λ all. simp (append_assoc, append-nil) refl;
}

behind_first : (scope : Scope) (first : Expr) → IsExpr first scope assignment
    → Behind scope first spell_closed (spell first)
behind_first scope first fits = record {
  make = λ all. MoreExprs first all;
  behind = [];
  fits = λ all more. (fits, more);
  within = λ all j least low. omega (arith, least, low);
  spells = λ all. simp (append_assoc, append-nil) refl;
}

module _ (k : ℕ) (low : Parsers) (sound : AllSound k low) (viable : AllViable k low) where
  listed_viable : 0 < k → (scope : Scope) (tokens rest : List Token) (why : Why)
      → listed_arguments k low scope tokens ≡ Stopped why rest → Holds (BeginsArguments scope) k tokens why rest
  unfolding listed_arguments
  listed_viable some scope tokens rest why h =
      listed_stopped (is_mark p.Comma) (λ o. false) (pure tt) (λ s. low.expr s assignment) (λ s e. s ++ expr_adds e)
      (λ s. Holds (BeginsBehind s) k)
      (λ tokens rest why h. cc (h))
      (λ s tokens rest why comma h. into (as_last s) (omega arith) (spelt_mark p.Comma tokens comma)
      (viable.expr s assignment (tail tokens) rest why (omega arith) some h))
      (λ s tokens mid rest e why comma h then.
      let x = sound.expr s assignment (omega arith) (tail tokens) mid e h in
      into (behind_more s e x.fits) x.within (joined (spelt_mark p.Comma tokens comma) (spelt x)) then)
      (Holds (BeginsArguments scope) k tokens) scope tokens rest why h
      (λ h. into (as_first scope) (omega arith) (nothing_spelt tokens)
      (viable.expr scope assignment tokens rest why (omega arith) some h))
      (λ e mid h then.
      let x = sound.expr scope assignment (omega arith) tokens mid e h in
      into (behind_first scope e x.fits) x.within (spelt x) then)

  arguments_viable : 0 < k → (scope : Scope) (o : Option Body) (tokens rest : List Token) (why : Why)
      → arguments_by k low scope o tokens ≡ Stopped why rest → Holds (BeginsArguments scope) k tokens why rest
  arguments_viable some scope (Some (lexeme.Mark p.CloseParen)) tokens rest why h = absurd (cc (h))
  arguments_viable some scope o tokens rest why h = closed_viable scope tokens rest why h
    where
      closed_viable : (scope : Scope) (tokens rest : List Token) (why : Why)
          → (listed_arguments k low scope >>= λ all. expect (is_mark p.CloseParen) >>= λ _. pure (exprs all.0))
          tokens ≡ Stopped why rest → Holds (BeginsArguments scope) k tokens why rest
      closed_viable scope tokens rest why h =
          elim (bind_stopped (listed_arguments k low scope tokens) (λ all. expect (is_mark p.CloseParen)
          >>= λ _. pure (exprs all.0)) why rest h) [
            | inl x ↦ listed_viable some scope tokens rest why x
            | inr x ↦
                (let y = listed_arguments_sound k low sound scope tokens x.mid x.value x.one in
                close_stopped p.CloseParen (exprs x.value.0) (Holds (BeginsArguments scope) k tokens) x.mid why rest
                x.two
                (refused (spelt y) (record {
                  node = exprs x.value.0;
                  more = mark p.CloseParen ∷ [];
                  fits =
                      y.fits;
                  within = y.within;
                  parts = refl;
                })))
          ]

-- ---- postfix operators

abbrev InPostfix : (A : Type 0) → (A → Type 0) → (A → ℕ) → (A → List Spelled) → Scope → ℕ → List Spelled → Type 0
InPostfix A Fits tall spelled scope = Context Fits tall spelled (λ e. IsExpr e scope postfix) height spell (λ j. suc j)

in_index : (scope : Scope) (pos : Pos) (left : Expr) → IsExpr left scope postfix
    → InPostfix Expr (λ e. IsExpr e (scope ++ expr_adds left) expression) height spell scope (height left)
    (spell left ++ mark_at pos p.OpenBracket ∷ [])
in_index scope pos left fits = record {
  make = λ e. Index pos left e;
  behind = mark p.CloseBracket ∷ [];
  fits = λ e inner. (omega arith, fits, inner);
  within = λ e j least low. omega (arith, least, low);
  spells = λ e. simp append_assoc refl;
}

in_call : (scope : Scope) (pos : Pos) (left : Expr) → IsExpr left scope postfix
    → InPostfix Exprs (λ all. AreArguments all (scope ++ expr_adds left)) exprs_height spell_closed scope
    (height left) (spell left ++ mark_at pos p.OpenParen ∷ [])
in_call scope pos left fits = record {
  make = λ all. Call pos left all;
  behind = [];
  fits = λ all inner. (omega arith, fits, inner);
  within = λ all j least low. omega (arith, least, low);
  spells = λ all. simp (append_assoc, append-nil) refl;
}

module _ (k : ℕ) (low : Parsers) (sound : AllSound k low) (viable : AllViable k low) where
  module _ (scope : Scope) (start tokens : List Token) (left : Expr)
      (before : IsPostfix k low sound scope start left tokens) where
    abbrev Stops : Why → List Token → Type 0
    Stops why rest = Holds (BeginsExpr scope postfix) (suc k) start why rest

    -- the operator's token
    behind_left : (m : Punct) → next_body tokens ≡ Some (lexeme.Mark m)
        → Spelt start (spell left ++ mark_at (place tokens) m ∷ []) (tail tokens)
    behind_left m is = joined (spelt before) (spelt_at tokens (lexeme.Mark m) is)

    module _ (low_left : height left ≤ k) (rest : List Token) (why : Why) where
      some : 0 < k
      some = let x = expr_high left in omega arith

      index_viable : next_body tokens ≡ Some (lexeme.Mark p.OpenBracket)
          → index k low scope left tokens ≡ Stopped why rest → Stops why rest
      unfolding index
      index_viable is h =
          elim (bind_stopped (low.expr (scope ++ expr_adds left) expression (tail tokens))
          (λ inside. expect (is_mark p.CloseBracket) >>= λ _. pure (Index (place tokens) left inside)) why rest h) [
            | inl x ↦ into (in_index scope (place tokens) left before.fits) low_left (behind_left p.OpenBracket is)
                (viable.expr (scope ++ expr_adds left) expression (tail tokens) rest why (omega arith) some x)
            | inr x ↦
                (let y = sound.expr (scope ++ expr_adds left) expression (omega arith) (tail tokens) x.mid x.value
                x.one in
                close_stopped p.CloseBracket (Index (place tokens) left x.value) Stops x.mid why rest x.two
                (refused (joined (spelt before) (joined (spelt_at tokens (lexeme.Mark p.OpenBracket) is) (spelt y)))
                (record {
                  node = Index (place tokens) left x.value;
                  more = mark p.CloseBracket ∷ [];
                  fits = (omega arith, before.fits, y.fits);
                  within = omega (arith, y.within);
                  parts = refl;
                })))
          ]

      call_viable : next_body tokens ≡ Some (lexeme.Mark p.OpenParen)
          → call k low scope left tokens ≡ Stopped why rest → Stops why rest
      unfolding call arguments
      call_viable is h =
          into (in_call scope (place tokens) left before.fits) low_left (behind_left p.OpenParen is)
          (arguments_viable k low sound viable some (scope ++ expr_adds left) (next_body (tail tokens))
          (tail tokens) rest why
          (given_stopped (arguments k low (scope ++ expr_adds left) (tail tokens))
          (λ all. Call (place tokens) left all) why rest h))

      access_viable : (operator : Access) → next_body tokens ≡ Some (lexeme.Mark (access_token operator))
          → access_name operator left tokens ≡ Stopped why rest → Stops why rest
      unfolding access_name
      access_viable operator is h = by (name_of (next_body (tail tokens))) h
        where
          by : (m : Option (List ℕ)) → with_name m (λ x. pure (Member (place tokens) operator left x)) (tail tokens)
              ≡ Stopped why rest → Stops why rest
          by (Some x) h = absurd (cc (h))
          by None h =
              stopped Stops h (refused (behind_left (access_token operator) is) (record {
                node = Member (place tokens) operator left [];
                more = name [] ∷ [];
                fits = (omega arith, before.fits);
                within = omega arith;
                parts = sym (append_assoc (spell left) (mark_at (place tokens) (access_token operator) ∷ [])
                    (name [] ∷ []));
              }))

      step_viable : (operator : Postfix) → step_by_one operator left tokens ≡ Stopped why rest → Stops why rest
      unfolding step_by_one
      step_viable operator h = absurd (cc (h))

      postfix_by_viable : (o : Option Body) → next_body tokens ≡ o → goes_postfix left o ≡ true
          → postfix_by k low scope left o tokens ≡ Stopped why rest → Stops why rest
      postfix_by_viable (Some (lexeme.Mark p.OpenBracket)) is goes h = index_viable is h
      postfix_by_viable (Some (lexeme.Mark p.OpenParen)) is goes h = call_viable is h
      postfix_by_viable (Some (lexeme.Mark p.Dot)) is goes h = access_viable access.Dot is h
      postfix_by_viable (Some (lexeme.Mark p.Arrow)) is goes h = access_viable access.Arrow is h
      postfix_by_viable (Some (lexeme.Mark p.Increment)) is goes h = step_viable step.PostInc h
      postfix_by_viable (Some (lexeme.Mark p.Decrement)) is goes h = step_viable step.PostDec h
      postfix_by_viable o is goes h = absurd (cc (goes))

    -- an operator behind a tree of the full height
    high_by : (e : Expr) (m : Punct) (more : List Spelled) → next_body tokens ≡ Some (lexeme.Mark m)
        → IsExpr e scope postfix → spell e ≡ (spell left ++ mark_at (place tokens) m ∷ []) ++ more
        → Stops TooDeep tokens
    high_by e m more is fits parts =
        too_deep {high = height e} (spelt before) (spelt_at tokens (lexeme.Mark m) is) (read_completed before)
        (record { node = e; more = more; fits = fits; within = omega arith; parts = parts })

    high_viable : (o : Option Body) → next_body tokens ≡ o → goes_postfix left o ≡ true → Stops TooDeep tokens
    high_viable (Some (lexeme.Mark p.OpenBracket)) is goes =
        high_by (Index (place tokens) left least_expr) p.OpenBracket (spell least_expr ++ mark p.CloseBracket ∷ [])
        is (omega arith, before.fits, tt) (simp append_assoc refl)
    high_viable (Some (lexeme.Mark p.OpenParen)) is goes =
        high_by (Call (place tokens) left NoExpr) p.OpenParen (mark p.CloseParen ∷ []) is (
          omega arith,
          before.fits,
          tt,
        ) refl
    high_viable (Some (lexeme.Mark p.Dot)) is goes =
        high_by (Member (place tokens) access.Dot left []) p.Dot (name [] ∷ []) is (
          omega arith,
          before.fits,
        ) (simp append_assoc refl)
    high_viable (Some (lexeme.Mark p.Arrow)) is goes =
        high_by (Member (place tokens) access.Arrow left []) p.Arrow (name [] ∷ []) is (
          omega arith,
          before.fits,
        ) (simp append_assoc refl)
    high_viable (Some (lexeme.Mark p.Increment)) is goes =
        high_by (PostfixOp (place tokens) step.PostInc left) p.Increment [] is (omega arith, before.fits)
        (sym (append-nil _))
    high_viable (Some (lexeme.Mark p.Decrement)) is goes =
        high_by (PostfixOp (place tokens) step.PostDec left) p.Decrement [] is (omega arith, before.fits)
        (sym (append-nil _))
    high_viable o is goes = absurd (cc (goes))

  pub postfixes_viable : (scope : Scope) (start tokens rest : List Token) (left : Expr) (why : Why)
      → IsPostfix k low sound scope start left tokens → postfixes k low scope left tokens ≡ Stopped why rest
      → Holds (BeginsExpr scope postfix) (suc k) start why rest
  unfolding postfixes postfix_on
  postfixes_viable scope start tokens rest left why before h =
      climb_stopped goes_postfix (λ e. nat_le (height e) k) (postfix_on k low scope)
      (IsPostfix k low sound scope start) (Holds (BeginsExpr scope postfix) (suc k) start)
      (λ left a tokens mid goes fits h before. postfix_by_sound k low sound scope start tokens mid left a before
      (leb-true (height left) k fits) (next_body tokens) refl h)
      (λ left tokens rest why goes fits h before. postfix_by_viable scope start tokens left before
      (leb-true (height left) k fits) rest why (next_body tokens) refl goes h)
      (λ left tokens goes before. high_viable scope start tokens left before (next_body tokens) refl goes)
      k left tokens rest why before h
