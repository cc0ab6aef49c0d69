-- What is read as a statement is one.
use Rattle.std.proofs.Common.{◌≡◌, inl, inr, ℕ, suc, List, [], ◌∷◌, ◌++◌, Bool, true, false, Option, Some, None, refl}
use Rattle.std.proofs.Common.{subst, arith}
use Rattle.c_lexer.specs.declared.punct.Punct.{Punct}
use Rattle.c_lexer.specs.declared.punct.Punct.TheVariants as p
use Rattle.c_lexer.specs.declared.token.Token.{Token}
use Rattle.c_lexer.specs.declared.token.Body.{Body}
use Rattle.c_lexer.specs.declared.token.Body.TheVariants as lexeme
use Rattle.c_lexer.specs.declared.word.Word.TheVariants as w
use Rattle.c_syntax.specs.Levels.{expression}
use Rattle.c_syntax.specs.Height.{height}
use Rattle.c_syntax.specs.HeightUnit.{optional_height, for_init_height, statement_height}
use Rattle.c_reading.specs.Parser.{Parser, Found, ◌>>=◌, pure, skip, deeper, expect, next_body, place, tail}
use Rattle.c_reading.specs.ReadBody.{declaration_lower, Statements, block_with, switch_with, an_expr, optional}
use Rattle.c_reading.specs.ReadBody.{controlling, else_by, if_on, switch_on, while_on, do_on, for_init_by, for_init}
use Rattle.c_reading.specs.ReadBody.{for_on, statement_by, statement_at}
use Rattle.c_reading.specs.ReadSpecifier.{parsers}
use Rattle.c_reading.specs.ReadToken.{is_mark, is_word, begins_type}
use Rattle.c_syntax.specs.Scopes.{Scope, expr_adds}
use Rattle.c_syntax.specs.ScopesUnit.{optional_adds, for_init_adds}
use Rattle.c_syntax.specs.SpellingUnit.{spell_optional, spell_for_init, spell_controlling, spell_statement}
use Rattle.c_syntax.specs.Tokens.{bare, mark}
use Rattle.c_syntax.specs.Tree.{Expr}
use Rattle.c_syntax.specs.TreeUnit as unit
use Rattle.c_syntax.specs.TreeUnit.{ForInit, Statement}
use Rattle.c_syntax.specs.WellFormed.{IsExpr}
use Rattle.c_syntax.specs.WellFormedUnit.{IsOptional, IsForInit, IsStatement}
use Rattle.c_reading.proofs.Sound.Steps.{moved, bind_found, chosen, deeper_found, expect_found, mark_then, Spelt}
use Rattle.c_reading.proofs.Sound.Steps.{joined, nothing_spelt, spelt_at, spelt_bare, spelt_mark}
use Rattle.c_reading.proofs.Sound.Law.{Read, Listed, Sound, spelt}
use Rattle.c_reading.proofs.Sound.Declaration.{declaration_lower_sound}
use Rattle.c_reading.proofs.Sound.Expr.{expr_lower_found}
use Rattle.c_reading.proofs.Sound.Block.{TakesNoElse, closed_then, SoundStatements, block_with_sound, switch_with_sound}
use Rattle.c_reading.proofs.Sound.Specifier.{parsers_sound}
use Rattle.c_reading.proofs.TokenTests.{is_word_is}

module _ (k : ℕ) (low : Statements) (sound : SoundStatements k low) where
  -- ---- parts of statements

  -- an expression or none, and the mark behind
  abbrev OptionalRead : Punct → Scope → List Token → Option Expr → List Token → Type 0
  OptionalRead m scope tokens e rest =
      Listed (IsOptional e scope) (optional_height e) k (spell_optional e) (mark m ∷ []) tokens rest

  some_sound : (m : Punct) (scope : Scope) (tokens rest : List Token) (e : Option Expr)
      → (an_expr k low scope >>= λ e. expect (is_mark m) >>= λ _. pure (Some e)) tokens ≡ Found e rest
      → OptionalRead m scope tokens e rest
  unfolding an_expr
  some_sound m scope tokens rest e h =
      let x = bind_found (an_expr k low scope tokens) (λ e. expect (is_mark m) >>= λ _. pure (Some e)) e rest h in
      let c = mark_then m (pure (Some x.value)) x.mid rest e x.two in
      let y = (parsers_sound k).expr scope expression (omega arith) tokens x.mid x.value
      (expr_lower_found scope k ((parsers k).expr scope expression) tokens x.mid x.value x.one) in
      moved (OptionalRead m scope tokens) {a = Some x.value} {tokens =
      c.mid} c.two (record { mid = x.mid; spells = spelt y; ends = c.spelt; fits = y.fits; within = y.within })

  pub optional_sound : (m : Punct) (scope : Scope) (tokens rest : List Token) (e : Option Expr)
      → optional k low (is_mark m) scope tokens ≡ Found e rest → OptionalRead m scope tokens e rest
  unfolding optional
  optional_sound m scope tokens rest e h =
      elim (chosen (is_mark m (next_body tokens)) _ _ tokens (Found e rest) h) [
        | inl x ↦ moved (OptionalRead m scope tokens) {a = None} {tokens =
            tail tokens} x.1 (record {
              mid = tokens;
              spells = nothing_spelt tokens;
              ends =
                  spelt_mark m tokens x.0;
              fits = tt;
              within = omega arith;
            })
        | inr x ↦ some_sound m scope tokens rest e x.1
      ]

  abbrev TestRead : Scope → List Token → Expr → List Token → Type 0
  TestRead scope = Read (λ e. IsExpr e scope expression) height spell_controlling k

  pub controlling_sound : (scope : Scope)
      → Sound (λ e. IsExpr e scope expression) height spell_controlling k (controlling k low scope)
  unfolding controlling
  controlling_sound scope tokens rest e h =
      let o = mark_then p.OpenParen ((parsers k).expr scope expression >>= λ test. expect (is_mark p.CloseParen)
      >>= λ _. pure test) tokens rest e h in
      let x = bind_found ((parsers k).expr scope expression o.mid) (λ test. expect (is_mark p.CloseParen)
      >>= λ _. pure test) e rest o.two in
      let c = mark_then p.CloseParen (pure x.value) x.mid rest e x.two in
      let y = (parsers_sound k).expr scope expression (omega arith) o.mid x.mid x.value x.one in
      moved (TestRead scope tokens) c.two (record {
        spells = (joined (joined o.spelt (spelt y)) c.spelt).takes;
        fits
            = y.fits;
        within = y.within;
      })

  abbrev InitRead : Scope → List Token → ForInit → List Token → Type 0
  InitRead scope = Read (λ one. IsForInit one scope) for_init_height spell_for_init k

  for_init_by_sound : (scope : Scope) (tokens rest : List Token) (one : ForInit) (b : Bool)
      → for_init_by k low scope b tokens ≡ Found one rest → InitRead scope tokens one rest
  for_init_by_sound scope tokens rest one true h =
      let x = bind_found (declaration_lower k scope tokens) (λ one. pure (unit.WithDeclaration one)) one rest h in
      let y = declaration_lower_sound k scope tokens x.mid x.value x.one in
      moved (InitRead scope tokens) {a = unit.WithDeclaration x.value} {tokens =
      x.mid} x.two (record { spells = y.spells; fits = y.fits; within = y.within })
  for_init_by_sound scope tokens rest one false h =
      let x = bind_found (optional k low (is_mark p.Semicolon) scope tokens) (λ e. pure (unit.WithExpression e)) one
      rest h in
      let y = optional_sound p.Semicolon scope tokens x.mid x.value x.one in
      moved (InitRead scope tokens) {a = unit.WithExpression x.value} {tokens =
      x.mid} x.two (record { spells = (joined y.spells y.ends).takes; fits = y.fits; within = y.within })

  pub for_init_sound : (scope : Scope) (tokens rest : List Token) (one : ForInit)
      → for_init k low scope tokens ≡ Found one rest → InitRead scope tokens one rest
  unfolding for_init
  for_init_sound scope tokens rest one h =
      for_init_by_sound scope tokens rest one (begins_type scope (next_body tokens)) h

  -- ---- statements

  abbrev pub IsRead : Scope → List Token → Statement → List Token → Type 0
  IsRead scope tokens one rest =
      Read (λ one. IsStatement one scope) statement_height spell_statement (suc k) tokens one rest
      × TakesNoElse one rest

  module _ (scope : Scope) (tokens rest : List Token) (one : Statement) where
    block_sound : next_body tokens ≡ Some (lexeme.Mark p.OpenBrace)
        → (block_with low.block_item scope >>= λ all. pure (unit.Block all)) (tail tokens) ≡ Found one rest
        → IsRead scope tokens one rest
    block_sound is h =
        let x = bind_found (block_with low.block_item scope (tail tokens)) (λ all. pure (unit.Block all)) one rest h in
        let y = block_with_sound k low.block_item sound.block_item scope (tail tokens) x.mid x.value x.one in
        moved (IsRead scope tokens) {a = unit.Block x.value} {tokens = x.mid} x.two (
          record {
            spells = (joined (joined (spelt_bare tokens (lexeme.Mark p.OpenBrace) is) y.spells) y.ends).takes;
            fits = y.fits;
            within = omega (arith, y.within);
          },
          inl tt,
        )

    if_read : (mid behind : List Token) (test : Expr) (then : Statement)
        → next_body tokens ≡ Some (lexeme.Word w.If) → TestRead scope (tail tokens) test mid
        → Read (λ one. IsStatement one (scope ++ expr_adds test)) statement_height spell_statement k mid then behind
        → is_word w.Else (next_body behind) ≡ false → IsRead scope tokens (unit.If (place tokens) test then) behind
    if_read mid behind test then is x y none = (
      record {
        spells = (joined (joined (spelt_at tokens (lexeme.Word w.If) is) (spelt x)) (spelt y)).takes;
        fits = (x.fits, y.fits);
        within = omega (arith, x.within, y.within);
      },
      inr none,
    )

    else_by_sound : (mid behind : List Token) (test : Expr) (then : Statement) (b : Bool)
        → next_body tokens ≡ Some (lexeme.Word w.If) → TestRead scope (tail tokens) test mid
        → Read (λ one. IsStatement one (scope ++ expr_adds test)) statement_height spell_statement k mid then behind
        → TakesNoElse then behind
        → is_word w.Else (next_body behind) ≡ b → else_by k low (scope ++ expr_adds test) (place tokens) test
        then b behind ≡ Found one rest → IsRead scope tokens one rest
    else_by_sound mid behind test then true is x y ends more h =
        let z = bind_found (low.statement (scope ++ expr_adds test) (tail behind))
        (λ else. pure (unit.IfElse (place tokens) test then else)) one rest h in
        let e = sound.statement (scope ++ expr_adds test) (tail behind) z.mid z.value z.one in
        let word = spelt_bare behind (lexeme.Word w.Else) (is_word_is w.Else (next_body behind) more) in
        moved (IsRead scope tokens) {a = unit.IfElse (place tokens) test then z.value} {tokens = z.mid} z.two (
          record {
            spells = (joined (joined (joined (spelt_at tokens (lexeme.Word w.If) is) (spelt x)) (spelt y))
                (joined word (spelt e))).takes;
            fits = (x.fits, y.fits, closed_then then behind more ends, e.fits);
            within = omega (arith, x.within, y.within, e.within);
          },
          sound.no_else (scope ++ expr_adds test) (tail behind) z.mid z.value z.one,
        )
    else_by_sound mid behind test then false is x y ends none h =
        moved (IsRead scope tokens) {a = unit.If (place tokens) test then} {tokens =
        behind} h (if_read mid behind test then is x y none)

    if_on_sound : next_body tokens ≡ Some (lexeme.Word w.If) → if_on k low scope (place tokens) (tail tokens)
        ≡ Found one rest → IsRead scope tokens one rest
    unfolding if_on
    if_on_sound is h =
        let pos = place tokens in
        let last = λ (test : Expr) (then : Statement) (ts : List Token). else_by k low (scope ++ expr_adds test) pos
        test then (is_word w.Else (next_body ts)) ts in
        let x = bind_found (controlling k low scope (tail tokens)) (λ test. low.statement (scope ++ expr_adds test)
        >>= λ then. last test then) one rest h in
        let y = bind_found (low.statement (scope ++ expr_adds x.value) x.mid) (λ then. last x.value then) one rest
        x.two in
        else_by_sound x.mid y.mid x.value y.value (is_word w.Else (next_body y.mid)) is
        (controlling_sound scope (tail tokens) x.mid x.value x.one)
        (sound.statement (scope ++ expr_adds x.value) x.mid y.mid y.value y.one)
        (sound.no_else (scope ++ expr_adds x.value) x.mid y.mid y.value y.one) refl y.two

    switch_on_sound : next_body tokens ≡ Some (lexeme.Word w.Switch)
        → switch_on k low scope (place tokens) (tail tokens) ≡ Found one rest → IsRead scope tokens one rest
    unfolding switch_on
    switch_on_sound is h =
        let pos = place tokens in
        let last = λ (test : Expr). switch_with low.switch_item (scope ++ expr_adds test)
        >>= λ all. pure (unit.Switch pos test all) in
        let x = bind_found (controlling k low scope (tail tokens)) (λ test. expect (is_mark p.OpenBrace)
        >>= λ _. last test) one rest h in
        let o = mark_then p.OpenBrace (last x.value) x.mid rest one x.two in
        let y = bind_found (switch_with low.switch_item (scope ++ expr_adds x.value) o.mid)
        (λ all. pure (unit.Switch pos x.value all)) one rest o.two in
        let e = controlling_sound scope (tail tokens) x.mid x.value x.one in
        let z = switch_with_sound k low.switch_item sound.switch_item (scope ++ expr_adds x.value) o.mid y.mid
        y.value y.one in
        moved (IsRead scope tokens) {a = unit.Switch pos x.value y.value} {tokens = y.mid} y.two (
          record {
            spells = (joined (joined (joined (spelt_at tokens (lexeme.Word w.Switch) is) (spelt e))
                (joined o.spelt z.spells)) z.ends).takes;
            fits = (e.fits, z.fits);
            within = omega (arith, e.within, z.within);
          },
          inl tt,
        )

    while_on_sound : next_body tokens ≡ Some (lexeme.Word w.While)
        → while_on k low scope (place tokens) (tail tokens) ≡ Found one rest → IsRead scope tokens one rest
    unfolding while_on
    while_on_sound is h =
        let pos = place tokens in
        let x = bind_found (controlling k low scope (tail tokens)) (λ test. low.statement (scope ++ expr_adds test)
        >>= λ body. pure (unit.While pos test body)) one rest h in
        let y = bind_found (low.statement (scope ++ expr_adds x.value) x.mid)
        (λ body. pure (unit.While pos x.value body)) one rest x.two in
        let e = controlling_sound scope (tail tokens) x.mid x.value x.one in
        let z = sound.statement (scope ++ expr_adds x.value) x.mid y.mid y.value y.one in
        moved (IsRead scope tokens) {a = unit.While pos x.value y.value} {tokens = y.mid} y.two (
          record {
            spells = (joined (joined (spelt_at tokens (lexeme.Word w.While) is) (spelt e)) (spelt z)).takes;
            fits = (e.fits, z.fits);
            within = omega (arith, e.within, z.within);
          },
          sound.no_else (scope ++ expr_adds x.value) x.mid y.mid y.value y.one,
        )

    do_on_sound : next_body tokens ≡ Some (lexeme.Word w.Do) → do_on k low scope (place tokens) (tail tokens)
        ≡ Found one rest → IsRead scope tokens one rest
    unfolding do_on
    do_on_sound is h =
        let pos = place tokens in
        let last = λ (body : Statement). controlling k low scope >>= λ test. expect (is_mark p.Semicolon)
        >>= λ _. pure (unit.Do pos body test) in
        let x = bind_found (low.statement scope (tail tokens)) (λ body. expect (is_word w.While) >>= λ _. last body)
        one rest h in
        let u = bind_found (expect (is_word w.While) x.mid) (λ _. last x.value) one rest x.two in
        let is_while = expect_found (is_word w.While) x.mid u.mid u.value u.one in
        let word = subst (λ rest. Spelt x.mid (bare (lexeme.Word w.While) ∷ []) rest) is_while.1
        (spelt_bare x.mid (lexeme.Word w.While) (is_word_is w.While (next_body x.mid) is_while.0)) in
        let y = bind_found (controlling k low scope u.mid) (λ test. expect (is_mark p.Semicolon)
        >>= λ _. pure (unit.Do pos x.value test)) one rest u.two in
        let c = mark_then p.Semicolon (pure (unit.Do pos x.value y.value)) y.mid rest one y.two in
        let z = sound.statement scope (tail tokens) x.mid x.value x.one in
        let e = controlling_sound scope u.mid y.mid y.value y.one in
        moved (IsRead scope tokens) {a = unit.Do pos x.value y.value} {tokens = c.mid} c.two (
          record {
            spells = (joined (joined (joined (spelt_at tokens (lexeme.Word w.Do) is) (spelt z))
                (joined word (spelt e))) c.spelt).takes;
            fits = (z.fits, e.fits);
            within = omega (arith, z.within, e.within);
          },
          inl tt,
        )

    for_read : (open_mid init_mid test_mid step_mid behind : List Token) (init : ForInit) (test step : Option Expr)
        (body : Statement) → next_body tokens ≡ Some (lexeme.Word w.For)
        → Spelt (tail tokens) (mark p.OpenParen ∷ []) open_mid → InitRead scope open_mid init init_mid
        → OptionalRead p.Semicolon (scope ++ for_init_adds init) init_mid test test_mid
        → OptionalRead p.CloseParen (scope ++ for_init_adds init ++ optional_adds test) test_mid step step_mid
        → Read (λ one. IsStatement one (scope ++ for_init_adds init ++ optional_adds test ++ optional_adds step))
        statement_height spell_statement k step_mid body behind
        → Read (λ one. IsStatement one scope) statement_height spell_statement (suc k) tokens
        (unit.For (place tokens) init test step body) behind
    for_read open_mid init_mid test_mid step_mid behind init test step body is opens i t s x = record {
      spells =
          (let front = joined (joined (spelt_at tokens (lexeme.Word w.For) is) opens) (spelt i) in
          joined (joined (joined (joined front t.spells) (joined t.ends s.spells)) s.ends) (spelt x)).takes;
      fits = (i.fits, t.fits, s.fits, x.fits);
      within = omega (arith, i.within, t.within, s.within, x.within);
    }

    for_on_sound : next_body tokens ≡ Some (lexeme.Word w.For) → for_on k low scope (place tokens) (tail tokens)
        ≡ Found one rest → IsRead scope tokens one rest
    unfolding for_on
    for_on_sound is h =
        let pos = place tokens in
        let turned = λ (init : ForInit) (test step : Option Expr).
        low.statement (scope ++ for_init_adds init ++ optional_adds test ++ optional_adds step)
        >>= λ body. pure (unit.For pos init test step body) in
        let stepped =
        λ (init : ForInit) (test : Option Expr). optional k low (is_mark p.CloseParen)
        (scope ++ for_init_adds init ++ optional_adds test) >>= λ step. turned init test step in
        let tested = λ (init : ForInit). optional k low (is_mark p.Semicolon) (scope ++ for_init_adds init)
        >>= λ test. stepped init test in
        let o = mark_then p.OpenParen (for_init k low scope >>= λ init. tested init) (tail tokens) rest one h in
        let i = bind_found (for_init k low scope o.mid) (λ init. tested init) one rest o.two in
        let t = bind_found (optional k low (is_mark p.Semicolon) (scope ++ for_init_adds i.value) i.mid)
        (λ test. stepped i.value test) one rest i.two in
        let s = bind_found
        (optional k low (is_mark p.CloseParen) (scope ++ for_init_adds i.value ++ optional_adds t.value) t.mid)
        (λ step. turned i.value t.value step) one rest t.two in
        let inner : Scope = scope ++ for_init_adds i.value ++ optional_adds t.value ++ optional_adds s.value in
        let x = bind_found (low.statement inner s.mid) (λ body. pure (unit.For pos i.value t.value s.value body))
        one rest s.two in
        moved (IsRead scope tokens) {a = unit.For pos i.value t.value s.value x.value} {tokens = x.mid} x.two (
          for_read o.mid i.mid t.mid s.mid x.mid i.value t.value s.value x.value is o.spelt
              (for_init_sound scope o.mid i.mid i.value i.one)
              (optional_sound p.Semicolon (scope ++ for_init_adds i.value) i.mid t.mid t.value t.one)
              (optional_sound p.CloseParen (scope ++ for_init_adds i.value ++ optional_adds t.value) t.mid s.mid
              s.value s.one)
              (sound.statement inner s.mid x.mid x.value x.one),
          sound.no_else inner s.mid x.mid x.value x.one,
        )

    break_sound : next_body tokens ≡ Some (lexeme.Word w.Break)
        → (expect (is_mark p.Semicolon) >>= λ _. pure (unit.Break (place tokens))) (tail tokens) ≡ Found one rest
        → IsRead scope tokens one rest
    break_sound is h =
        let c = mark_then p.Semicolon (pure (unit.Break (place tokens))) (tail tokens) rest one h in
        moved (IsRead scope tokens) {a = unit.Break (place tokens)} {tokens = c.mid} c.two (
          record {
            spells = (joined (spelt_at tokens (lexeme.Word w.Break) is) c.spelt).takes;
            fits = tt;
            within = omega arith;
          },
          inl tt,
        )

    continue_sound : next_body tokens ≡ Some (lexeme.Word w.Continue)
        → (expect (is_mark p.Semicolon) >>= λ _. pure (unit.Continue (place tokens))) (tail tokens) ≡ Found one rest
        → IsRead scope tokens one rest
    continue_sound is h =
        let c = mark_then p.Semicolon (pure (unit.Continue (place tokens))) (tail tokens) rest one h in
        moved (IsRead scope tokens) {a = unit.Continue (place tokens)} {tokens = c.mid} c.two (
          record {
            spells = (joined (spelt_at tokens (lexeme.Word w.Continue) is) c.spelt).takes;
            fits = tt;
            within = omega arith;
          },
          inl tt,
        )

    return_sound : next_body tokens ≡ Some (lexeme.Word w.Return)
        → (optional k low (is_mark p.Semicolon) scope >>= λ value. pure (unit.Return (place tokens) value))
        (tail tokens) ≡ Found one rest → IsRead scope tokens one rest
    return_sound is h =
        let x = bind_found (optional k low (is_mark p.Semicolon) scope (tail tokens))
        (λ value. pure (unit.Return (place tokens) value)) one rest h in
        let y = optional_sound p.Semicolon scope (tail tokens) x.mid x.value x.one in
        moved (IsRead scope tokens) {a = unit.Return (place tokens) x.value} {tokens = x.mid} x.two (
          record {
            spells = (joined (joined (spelt_at tokens (lexeme.Word w.Return) is) y.spells) y.ends).takes;
            fits = y.fits;
            within = omega (arith, y.within);
          },
          inl tt,
        )

    expression_statement_sound : (optional k low (is_mark p.Semicolon) scope >>= λ e. pure (unit.ExprStmt e)) tokens
        ≡ Found one rest → IsRead scope tokens one rest
    expression_statement_sound h =
        let x = bind_found (optional k low (is_mark p.Semicolon) scope tokens) (λ e. pure (unit.ExprStmt e)) one
        rest h in
        let y = optional_sound p.Semicolon scope tokens x.mid x.value x.one in
        moved (IsRead scope tokens) {a = unit.ExprStmt x.value} {tokens = x.mid} x.two (
          record {
            spells = (joined y.spells y.ends).takes;
            fits = y.fits;
            within = omega (arith, y.within);
          },
          inl tt,
        )

    -- one of the statements that a word begins
    deep : (r : Parser Statement) → (r (tail tokens) ≡ Found one rest → IsRead scope tokens one rest)
        → deeper k (skip r) tokens ≡ Found one rest → IsRead scope tokens one rest
    deep r found h = found (deeper_found k (skip r) tokens rest one h)

    statement_by_sound : (o : Option Body) → next_body tokens ≡ o → statement_by k low scope (place tokens) o tokens
        ≡ Found one rest → IsRead scope tokens one rest
    statement_by_sound (Some (lexeme.Mark p.OpenBrace)) is h = block_sound is h
    statement_by_sound (Some (lexeme.Word w.If)) is h = deep (if_on k low scope (place tokens)) (if_on_sound is) h
    statement_by_sound (Some (lexeme.Word w.Switch)) is h =
        deep (switch_on k low scope (place tokens)) (switch_on_sound is) h
    statement_by_sound (Some (lexeme.Word w.While)) is h =
        deep (while_on k low scope (place tokens)) (while_on_sound is) h
    statement_by_sound (Some (lexeme.Word w.Do)) is h = deep (do_on k low scope (place tokens)) (do_on_sound is) h
    statement_by_sound (Some (lexeme.Word w.For)) is h = deep (for_on k low scope (place tokens)) (for_on_sound is) h
    statement_by_sound (Some (lexeme.Word w.Break)) is h = break_sound is h
    statement_by_sound (Some (lexeme.Word w.Continue)) is h = continue_sound is h
    statement_by_sound (Some (lexeme.Word w.Return)) is h = return_sound is h
    statement_by_sound _ is h = expression_statement_sound h

    pub statement_at_sound : statement_at k low scope tokens ≡ Found one rest → IsRead scope tokens one rest
    unfolding statement_at
    statement_at_sound h = statement_by_sound (next_body tokens) refl h
