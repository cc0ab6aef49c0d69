-- What is read as a list of arguments is one, and what is read behind postfix operators is a postfix expression.
use Rattle.std.proofs.Common.{◌≡◌, ℕ, suc, ◌≤◌, List, [], ◌∷◌, ◌++◌, Bool, true, false, nat_le, Option, Some, None}
use Rattle.std.proofs.Common.{refl, subst, arith}
use Rattle.std.specs.List.{flat_map}
use borrow.Author.Tests.{leb-true}
use Rattle.c_lexer.specs.declared.punct.Punct.TheVariants as p
use Rattle.c_lexer.specs.declared.token.Token.{Token}
use Rattle.c_lexer.specs.declared.token.Body.{Body}
use Rattle.c_lexer.specs.declared.token.Body.TheVariants as lexeme
use Rattle.c_syntax.specs.declared.operator.Access.{Access}
use Rattle.c_syntax.specs.declared.operator.Access.TheVariants as access
use Rattle.c_syntax.specs.declared.operator.Postfix.{Postfix}
use Rattle.c_syntax.specs.declared.operator.Postfix.TheVariants as step
use Rattle.c_syntax.specs.Height.{height, exprs_height}
use Rattle.c_syntax.specs.Levels.{expression, assignment, postfix}
use Rattle.c_syntax.specs.Operators.{access_token, postfix_token}
use Rattle.c_reading.specs.Parser.{Found, next_body, place, tail, pure, expect, ◌>>=◌}
use Rattle.c_reading.specs.ReadExpr.{Parsers, with_name, goes_postfix, listed_arguments, arguments_by, arguments}
use Rattle.c_reading.specs.ReadExpr.{index, call, access_name, step_by_one, postfix_by, postfix_on, postfixes}
use Rattle.c_reading.specs.ReadToken.{is_mark, name_of}
use Rattle.c_syntax.specs.Scopes.{Scope, expr_adds}
use Rattle.c_syntax.specs.Spelling.{spell, spelled_arguments}
use Rattle.c_syntax.specs.Tokens.{mark, mark_at, commas}
use Rattle.c_syntax.specs.Tree.{Expr, Index, Call, Member, Exprs}
use Rattle.c_syntax.specs.View.{exprs}
use Rattle.c_syntax.specs.WellFormed.{IsExpr, AreArguments}
use Rattle.c_reading.proofs.Sound.Steps.{moved, bind_found, mark_then, joined, regrouped, spelt_at, spelt_bare}
use Rattle.c_reading.proofs.Sound.Steps.{spelt_mark, listed_found, climb_found}
use Rattle.c_reading.proofs.Sound.Law.{Read, spelt, AllSound}
use Rattle.c_reading.proofs.TokenTests.{token_is, name_is}

module _ (k : ℕ) (low : Parsers) (sound : AllSound k low) where
  abbrev MoreArguments : Scope → List Token → List Expr → Bool → List Token → Type 0
  MoreArguments scope tokens more b rest =
      Read (λ all. AreArguments all scope) exprs_height
      (λ all. flat_map (λ part. mark p.Comma ∷ part) (spelled_arguments all)) k tokens (exprs more) rest

  no_argument : (scope : Scope) (tokens : List Token) → MoreArguments scope tokens [] false tokens
  no_argument scope tokens = record { spells = refl; fits = tt; within = omega arith }

  one_argument : (scope : Scope) (tokens mid rest : List Token) (e : Expr) (more : List Expr) (b : Bool)
      → is_mark p.Comma (next_body tokens) ≡ true → low.expr scope assignment (tail tokens) ≡ Found e mid
      → MoreArguments (scope ++ expr_adds e) mid more b rest → MoreArguments scope tokens (e ∷ more) b rest
  one_argument scope tokens mid rest e more b comma h then =
      let x = sound.expr scope assignment (omega arith) (tail tokens) mid e h in
      record {
        spells = (joined (joined (spelt_mark p.Comma tokens comma) (spelt x)) (spelt then)).takes;
        fits = (x.fits, then.fits);
        within = omega (arith, x.within, then.within);
      }

  abbrev Arguments : Scope → List Token → Exprs → List Token → Type 0
  Arguments scope = Read (λ all. AreArguments all scope) exprs_height (λ all. commas (spelled_arguments all)) k

  pub listed_arguments_sound : (scope : Scope) (tokens rest : List Token) (all : List Expr × Bool)
      → listed_arguments k low scope tokens ≡ Found all rest → Arguments scope tokens (exprs all.0) rest
  unfolding listed_arguments
  listed_arguments_sound scope tokens rest all h =
      let x = listed_found (is_mark p.Comma) (λ o. false) (pure tt) (λ s. low.expr s assignment)
      (λ s e. s ++ expr_adds e) MoreArguments
      no_argument (λ s tokens rest u comma ends h. absurd (cc (ends))) one_argument scope tokens rest all h in
      let y = sound.expr scope assignment (omega arith) tokens x.mid x.first x.first_found in
      subst (λ (all : List Expr × Bool). Arguments scope tokens (exprs all.0) rest) x.all_is (record {
        spells = (joined (spelt y) (spelt x.more_found)).takes;
        fits = (y.fits, x.more_found.fits);
        within = omega (arith, y.within, x.more_found.within);
      })

  arguments_by_sound : (scope : Scope) (o : Option Body) (tokens rest : List Token) (all : Exprs)
      → next_body tokens ≡ o → arguments_by k low scope o tokens ≡ Found all rest
      → Read (λ all. AreArguments all scope) exprs_height (λ all. commas (spelled_arguments all)
      ++ mark p.CloseParen ∷ []) k tokens all rest
  arguments_by_sound scope (Some (lexeme.Mark p.CloseParen)) tokens rest all is h =
      moved (Read (λ all. AreArguments all scope) exprs_height (λ all. commas (spelled_arguments all)
      ++ mark p.CloseParen ∷ []) k tokens) h (record {
        spells = (spelt_bare tokens (lexeme.Mark p.CloseParen) is).takes;
        fits = tt;
        within = omega arith;
      })
  arguments_by_sound scope o tokens rest all is h = listed_closed scope tokens rest all h
    where
      listed_closed : (scope : Scope) (tokens rest : List Token) (all : Exprs)
          → (listed_arguments k low scope >>= λ all. expect (is_mark p.CloseParen) >>= λ _. pure (exprs all.0))
          tokens ≡ Found all rest
          → Read (λ all. AreArguments all scope) exprs_height (λ all. commas (spelled_arguments all)
          ++ mark p.CloseParen ∷ []) k tokens all rest
      listed_closed scope tokens rest all h =
          let x = bind_found (listed_arguments k low scope tokens) (λ all. expect (is_mark p.CloseParen)
          >>= λ _. pure (exprs all.0)) all rest h in
          let c = mark_then p.CloseParen (pure (exprs x.value.0)) x.mid rest all x.two in
          let y = listed_arguments_sound scope tokens x.mid x.value x.one in
          moved (Read (λ all. AreArguments all scope) exprs_height (λ all. commas (spelled_arguments all)
          ++ mark p.CloseParen ∷ []) k tokens) c.two (record {
            spells = (joined (spelt y) c.spelt).takes;
            fits = y.fits;
            within = y.within;
          })

  abbrev pub IsPostfix : Scope → List Token → Expr → List Token → Type 0
  IsPostfix scope tokens = Read (λ e. IsExpr e scope postfix) height spell (suc k) tokens

  -- a postfix expression of the height that is left, and the operator behind it
  module _ (scope : Scope) (start tokens rest : List Token) (left e : Expr)
      (before : IsPostfix scope start left tokens) (low_left : height left ≤ k) where
    index_sound : next_body tokens ≡ Some (lexeme.Mark p.OpenBracket) → index k low scope left tokens ≡ Found e rest
        → IsPostfix scope start e rest
    unfolding index
    index_sound is h =
        let x = bind_found (low.expr (scope ++ expr_adds left) expression (tail tokens))
        (λ inside. expect (is_mark p.CloseBracket) >>= λ _. pure (Index (place tokens) left inside)) e rest h in
        let c = mark_then p.CloseBracket (pure (Index (place tokens) left x.value)) x.mid rest e x.two in
        let y = sound.expr (scope ++ expr_adds left) expression (omega arith) (tail tokens) x.mid x.value x.one in
        moved (IsPostfix scope start) c.two (record {
          spells = (joined
              (joined (spelt before) (joined (spelt_at tokens (lexeme.Mark p.OpenBracket) is) (spelt y)))
              c.spelt).takes;
          fits = (omega arith, before.fits, y.fits);
          within = omega (arith, y.within);
        })

    call_sound : next_body tokens ≡ Some (lexeme.Mark p.OpenParen) → call k low scope left tokens ≡ Found e rest
        → IsPostfix scope start e rest
    unfolding call arguments
    call_sound is h =
        let x = bind_found (arguments k low (scope ++ expr_adds left) (tail tokens))
        (λ all. pure (Call (place tokens) left all)) e rest h in
        let y = arguments_by_sound (scope ++ expr_adds left) (next_body (tail tokens)) (tail tokens) x.mid x.value
        refl x.one in
        moved (IsPostfix scope start) x.two (record {
          spells = (regrouped (spell left) (mark_at (place tokens) p.OpenParen ∷ commas (spelled_arguments x.value))
              (mark p.CloseParen ∷ [])
              (joined (spelt before) (joined (spelt_at tokens (lexeme.Mark p.OpenParen) is) (spelt y)))).takes;
          fits = (omega arith, before.fits, y.fits);
          within = omega (arith, y.within);
        })

    access_sound : (operator : Access) → next_body tokens ≡ Some (lexeme.Mark (access_token operator))
        → access_name operator left tokens ≡ Found e rest → IsPostfix scope start e rest
    unfolding access_name
    access_sound operator is h = by (name_of (next_body (tail tokens))) refl h
      where
        by : (m : Option (List ℕ)) → name_of (next_body (tail tokens)) ≡ m
            → with_name m (λ x. pure (Member (place tokens) operator left x)) (tail tokens) ≡ Found e rest
            → IsPostfix scope start e rest
        by None m h = absurd (cc (h))
        by (Some x) m h =
            moved (IsPostfix scope start) h (record {
              spells = (joined (spelt before)
                  (joined (spelt_at tokens (lexeme.Mark (access_token operator)) is)
                  (spelt_bare (tail tokens) (lexeme.Name x)
                  (token_is lexeme.Name _ _ x (name_is (next_body (tail tokens))) m)))).takes;
              fits = (omega arith, before.fits);
              within = omega arith;
            })

    step_sound : (operator : Postfix) → next_body tokens ≡ Some (lexeme.Mark (postfix_token operator))
        → step_by_one operator left tokens ≡ Found e rest → IsPostfix scope start e rest
    unfolding step_by_one
    step_sound operator is h =
        moved (IsPostfix scope start) h (record {
          spells = (joined (spelt before) (spelt_at tokens (lexeme.Mark (postfix_token operator)) is)).takes;
          fits = (omega arith, before.fits);
          within = omega arith;
        })

    pub postfix_by_sound : (o : Option Body) → next_body tokens ≡ o → postfix_by k low scope left o tokens
        ≡ Found e rest → IsPostfix scope start e rest
    postfix_by_sound (Some (lexeme.Mark p.OpenBracket)) is h = index_sound is h
    postfix_by_sound (Some (lexeme.Mark p.OpenParen)) is h = call_sound is h
    postfix_by_sound (Some (lexeme.Mark p.Dot)) is h = access_sound access.Dot is h
    postfix_by_sound (Some (lexeme.Mark p.Arrow)) is h = access_sound access.Arrow is h
    postfix_by_sound (Some (lexeme.Mark p.Increment)) is h = step_sound step.PostInc is h
    postfix_by_sound (Some (lexeme.Mark p.Decrement)) is h = step_sound step.PostDec is h
    postfix_by_sound _ is h = absurd (cc (h))

  pub postfixes_sound : (scope : Scope) (start tokens rest : List Token) (left e : Expr)
      → IsPostfix scope start left tokens → postfixes k low scope left tokens ≡ Found e rest
      → IsPostfix scope start e rest
  unfolding postfixes postfix_on
  postfixes_sound scope start tokens rest left e before h =
      climb_found goes_postfix (λ e. nat_le (height e) k) (postfix_on k low scope) (IsPostfix scope start)
      (λ left a tokens mid goes fits h before. postfix_by_sound scope start tokens mid left a before
      (leb-true (height left) k fits) (next_body tokens) refl h)
      k left e tokens rest before h
