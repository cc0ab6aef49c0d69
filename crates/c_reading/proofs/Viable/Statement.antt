-- Where the reading of a statement stops, one begins with what was read.
use Rattle.std.proofs.Common.{◌≡◌, inl, inr, ℕ, suc, ◌<◌, ◌≤◌, List, [], ◌∷◌, ◌++◌, Bool, true, false, Option, Some}
use Rattle.std.proofs.Common.{None, refl, sym, subst, arith}
use Rattle.c_lexer.specs.declared.punct.Punct.{Punct}
use Rattle.c_lexer.specs.declared.punct.Punct.TheVariants as p
use Rattle.c_lexer.specs.declared.token.Body.{Body}
use Rattle.c_lexer.specs.declared.token.Body.TheVariants as lexeme
use Rattle.c_lexer.specs.declared.token.Token.{Token}
use Rattle.c_lexer.specs.declared.word.Word.TheVariants as w
use Rattle.c_syntax.specs.declared.spelled.Spelled.{Spelled}
use Rattle.c_syntax.specs.Begin.{BeginsStatement}
use Rattle.c_syntax.specs.Height.{height}
use Rattle.c_syntax.specs.HeightUnit.{optional_height, statement_height}
use Rattle.c_syntax.specs.Levels.{expression}
use Rattle.c_reading.specs.Parser.{Parser, Why, Found, Stopped, ◌>>=◌, pure, skip, deeper, expect, next_body, place}
use Rattle.c_reading.specs.Parser.{tail}
use Rattle.c_reading.specs.ReadBody.{Statements, block_with, switch_with, optional, controlling, else_by, if_on}
use Rattle.c_reading.specs.ReadBody.{switch_on, while_on, do_on, for_init, for_on, statement_by, statement_at}
use Rattle.c_reading.specs.ReadToken.{is_mark, is_word}
use Rattle.c_syntax.specs.Scopes.{Scope, expr_adds}
use Rattle.c_syntax.specs.ScopesUnit.{optional_adds, for_init_adds}
use Rattle.c_syntax.specs.SpellingUnit.{spell_controlling, spell_statement}
use Rattle.c_syntax.specs.Tokens.{bare, token_at, mark, word_at}
use Rattle.c_syntax.specs.Tree.{Expr}
use Rattle.c_syntax.specs.WellFormed.{IsExpr}
use Rattle.c_syntax.specs.WellFormedUnit.{IsOptional, IsStatement}
use Rattle.c_syntax.specs.TreeUnit as unit
use Rattle.c_syntax.specs.TreeUnit.{ForInit, Statement}
use Rattle.c_reading.proofs.Viable.Completions.{before_part, fewer, refused_behind, Begun, whole_begins, too_deep_here}
use Rattle.c_reading.proofs.Viable.Contexts.{bind_stopped, given_stopped, close_stopped, mark_stopped, deeper_stopped}
use Rattle.c_reading.proofs.Viable.Contexts.{expect_stopped, refused, into}
use Rattle.c_reading.proofs.Sound.Steps.{Spelt, joined, nothing_spelt, spelt_at, spelt_bare, expect_found}
use Rattle.c_reading.proofs.Sound.Law.{Read, spelt}
use Rattle.c_reading.proofs.Sound.Block.{TakesNoElse, closed_then, SoundStatements}
use Rattle.c_reading.proofs.Sound.Statement.{optional_sound, controlling_sound, for_init_sound}
use Rattle.c_reading.proofs.Viable.Started.{least_expr}
use Rattle.c_reading.proofs.TokenTests.{is_word_is}
use Rattle.c_reading.proofs.Viable.Law.{Holds}
use Rattle.c_reading.proofs.Viable.Block.{ViableStatements, BeginsBlockItems, block_with_stopped, switch_with_stopped}
use Rattle.c_reading.proofs.Viable.StatementContexts.{empty, spell_up_to, no_statement, expression_statement}
use Rattle.c_reading.proofs.Viable.StatementContexts.{returned, block_items_of, if_test, if_then, if_else}
use Rattle.c_reading.proofs.Viable.StatementContexts.{switch_test, switch_body, while_test, while_body, do_body}
use Rattle.c_reading.proofs.Viable.StatementContexts.{do_test, for_init_of, for_test, for_step, for_body}
use Rattle.c_reading.proofs.Viable.StatementParts.{optional_viable, controlling_viable, for_init_viable}

module _ (k : ℕ) (low : Statements) (sound : SoundStatements k low) (viable : ViableStatements k low)
    (items : (scope : Scope) (tokens rest : List Token) (why : Why) → low.block_item scope tokens ≡ Stopped why rest
    → Holds (BeginsBlockItems scope) k tokens why rest) where
  module _ (scope : Scope) (tokens rest : List Token) (why : Why) where
    abbrev IsStopped : Why → List Token → Type 0
    IsStopped = Holds (BeginsStatement scope) (suc k) tokens

    block_viable : next_body tokens ≡ Some (lexeme.Mark p.OpenBrace) → block_with low.block_item scope (tail tokens)
        ≡ Stopped why rest → IsStopped why rest
    block_viable is h =
        let brace = spelt_bare tokens (lexeme.Mark p.OpenBrace) is in
        block_with_stopped k low.block_item sound.block_item items IsStopped scope (tail tokens) rest why h
        (λ x. into (block_items_of scope) (omega arith) brace x)
        (λ all mid read. refused_behind (block_items_of scope) (omega arith) brace read)

    else_by_viable : 0 < k → (test : Expr) → IsExpr test scope expression → height test ≤ k → (mid : List Token)
        → Spelt tokens (word_at (place tokens) w.If ∷ spell_controlling test) mid
        → (then : Statement) (behind : List Token)
        → Read (λ one. IsStatement one (scope ++ expr_adds test)) statement_height spell_statement k mid then behind
        → TakesNoElse then behind → (b : Bool) → is_word w.Else (next_body behind) ≡ b
        → else_by k low (scope ++ expr_adds test) (place tokens) test then b behind ≡ Stopped why rest
        → IsStopped why rest
    else_by_viable some test fits test_low mid before then behind read ends true is h =
        let inner : Scope = scope ++ expr_adds test in
        let word = spelt_bare behind (lexeme.Word w.Else) (is_word_is w.Else (next_body behind) is) in
        into (if_else scope (place tokens) test then fits read.fits (closed_then then behind is ends))
        (omega (arith, test_low, read.within)) (joined (joined before (spelt read)) word)
        (viable.statement inner (tail behind) rest why some
        (given_stopped (low.statement inner (tail behind)) (λ else. unit.IfElse (place tokens) test
        then else) why rest h))
    else_by_viable some test fits test_low mid before then behind read ends false is h = absurd (cc (h))

    if_on_viable : 0 < k → next_body tokens ≡ Some (lexeme.Word w.If)
        → if_on k low scope (place tokens) (tail tokens) ≡ Stopped why rest → IsStopped why rest
    unfolding if_on
    if_on_viable some is h =
        let pos = place tokens in
        let word = spelt_at tokens (lexeme.Word w.If) is in
        let last = λ (test : Expr) (then : Statement) (ts : List Token). else_by k low (scope ++ expr_adds test) pos
        test then (is_word w.Else (next_body ts)) ts in
        elim (bind_stopped (controlling k low scope (tail tokens)) (λ test. low.statement (scope ++ expr_adds test)
        >>= λ then. last test then) why rest h) [
          | inl x ↦ into (if_test scope pos) (omega (arith, some)) word
              (controlling_viable k low scope (tail tokens) rest why some x)
          | inr x ↦
              let test = controlling_sound k low sound scope (tail tokens) x.mid x.value x.one in
              let inner : Scope = scope ++ expr_adds x.value in
              elim (bind_stopped (low.statement inner x.mid) (λ then. last x.value then) why rest x.two) [
                | inl y ↦ into (if_then scope pos x.value test.fits) test.within (joined word (spelt test))
                    (viable.statement inner x.mid rest why some y)
                | inr y ↦ else_by_viable some x.value test.fits test.within x.mid (joined word (spelt test)) y.value
                    y.mid
                    (sound.statement inner x.mid y.mid y.value y.one)
                    (sound.no_else inner x.mid y.mid y.value y.one) (is_word w.Else (next_body y.mid)) refl y.two
              ]
        ]

    while_on_viable : 0 < k → next_body tokens ≡ Some (lexeme.Word w.While)
        → while_on k low scope (place tokens) (tail tokens) ≡ Stopped why rest → IsStopped why rest
    unfolding while_on
    while_on_viable some is h =
        let pos = place tokens in
        let word = spelt_at tokens (lexeme.Word w.While) is in
        elim (bind_stopped (controlling k low scope (tail tokens)) (λ test. low.statement (scope ++ expr_adds test)
        >>= λ body. pure (unit.While pos test body)) why rest h) [
          | inl x ↦ into (while_test scope pos) (omega (arith, some)) word
              (controlling_viable k low scope (tail tokens) rest why some x)
          | inr x ↦
              let test = controlling_sound k low sound scope (tail tokens) x.mid x.value x.one in
              let inner : Scope = scope ++ expr_adds x.value in
              into (while_body scope pos x.value test.fits) test.within (joined word (spelt test))
              (viable.statement inner x.mid rest why some
              (given_stopped (low.statement inner x.mid) (λ body. unit.While pos x.value body) why rest x.two))
        ]

    switch_on_viable : 0 < k → next_body tokens ≡ Some (lexeme.Word w.Switch)
        → switch_on k low scope (place tokens) (tail tokens) ≡ Stopped why rest → IsStopped why rest
    unfolding switch_on
    switch_on_viable some is h =
        let pos = place tokens in
        let word = spelt_at tokens (lexeme.Word w.Switch) is in
        let last = λ (test : Expr). switch_with low.switch_item (scope ++ expr_adds test)
        >>= λ all. pure (unit.Switch pos test all) in
        elim (bind_stopped (controlling k low scope (tail tokens)) (λ test. expect (is_mark p.OpenBrace)
        >>= λ _. last test) why rest h) [
          | inl x ↦ into (switch_test scope pos) (omega arith) word
              (controlling_viable k low scope (tail tokens) rest why some x)
          | inr x ↦
              let test = controlling_sound k low sound scope (tail tokens) x.mid x.value x.one in
              let inner : Scope = scope ++ expr_adds x.value in
              mark_stopped p.OpenBrace (last x.value) IsStopped x.mid why rest x.two
              (refused_behind (switch_test scope pos) (omega arith) word test)
              (λ mid behind_paren h.
              let context = switch_body scope pos x.value test.fits in
              let front = joined (joined word (spelt test)) behind_paren in
              switch_with_stopped k low.switch_item sound.switch_item
              (λ s ts rest why h. viable.switch_item s ts rest why some h) IsStopped inner mid rest why
              (given_stopped (switch_with low.switch_item inner mid) (λ all. unit.Switch pos x.value all) why rest h)
              (λ y. into context test.within front y)
              (λ all behind read. refused_behind context test.within front read))
        ]

    do_on_viable : 0 < k → next_body tokens ≡ Some (lexeme.Word w.Do)
        → do_on k low scope (place tokens) (tail tokens) ≡ Stopped why rest → IsStopped why rest
    unfolding do_on
    do_on_viable some is h =
        let pos = place tokens in
        let word = spelt_at tokens (lexeme.Word w.Do) is in
        let last = λ (body : Statement). controlling k low scope >>= λ test. expect (is_mark p.Semicolon)
        >>= λ _. pure (unit.Do pos body test) in
        elim (bind_stopped (low.statement scope (tail tokens)) (λ body. expect (is_word w.While) >>= λ _. last body)
        why rest h) [
          | inl x ↦ into (do_body scope pos) (omega (arith, some)) word
              (viable.statement scope (tail tokens) rest why some x)
          | inr x ↦
              let body = sound.statement scope (tail tokens) x.mid x.value x.one in
              elim (bind_stopped (expect (is_word w.While) x.mid) (λ _. last x.value) why rest x.two) [
                | inl y ↦ expect_stopped (is_word w.While) IsStopped x.mid why rest y
                    (refused_behind (do_body scope pos) (omega (arith, some)) word body)
                | inr y ↦
                    let is_while = expect_found (is_word w.While) x.mid y.mid y.value y.one in
                    let while = subst (λ rest. Spelt x.mid (bare (lexeme.Word w.While) ∷ []) rest) is_while.1
                    (spelt_bare x.mid (lexeme.Word w.While) (is_word_is w.While (next_body x.mid) is_while.0)) in
                    let front = joined (joined word (spelt body)) while in
                    let context = do_test scope pos x.value body.fits in
                    elim (bind_stopped (controlling k low scope y.mid) (λ test. expect (is_mark p.Semicolon)
                    >>= λ _. pure (unit.Do pos x.value test)) why rest y.two) [
                      | inl z ↦ into context body.within front (controlling_viable k low scope y.mid rest why some z)
                      | inr z ↦ close_stopped p.Semicolon (unit.Do pos x.value z.value) IsStopped z.mid why rest z.two
                          (refused_behind context body.within front
                          (controlling_sound k low sound scope y.mid z.mid z.value z.one))
                    ]
              ]
        ]

    optional_read : (m : Punct) (s : Scope) (ts mid : List Token) (e : Option Expr)
        → optional k low (is_mark m) s ts ≡ Found e mid
        → Read (λ e. IsOptional e s) optional_height (spell_up_to m) k ts e mid
    optional_read m s ts mid e h =
        let x = optional_sound k low sound m s ts mid e h in
        record { spells = (joined x.spells x.ends).takes; fits = x.fits; within = x.within }

    for_on_viable : 0 < k → next_body tokens ≡ Some (lexeme.Word w.For)
        → for_on k low scope (place tokens) (tail tokens) ≡ Stopped why rest → IsStopped why rest
    unfolding for_on
    for_on_viable some is h =
        let pos = place tokens in
        let word = spelt_at tokens (lexeme.Word w.For) is in
        let turned = λ (init : ForInit) (test step : Option Expr).
        low.statement (scope ++ for_init_adds init ++ optional_adds test ++ optional_adds step)
        >>= λ body. pure (unit.For pos init test step body) in
        let stepped =
        λ (init : ForInit) (test : Option Expr). optional k low (is_mark p.CloseParen)
        (scope ++ for_init_adds init ++ optional_adds test) >>= λ step. turned init test step in
        let tested = λ (init : ForInit). optional k low (is_mark p.Semicolon) (scope ++ for_init_adds init)
        >>= λ test. stepped init test in
        mark_stopped p.OpenParen (for_init k low scope >>= λ init. tested init) IsStopped (tail tokens) why rest h
        (refused word
        (fewer (word_at pos w.For ∷ []) (mark p.OpenParen ∷ [])
        (before_part (for_init_of scope pos) k (unit.WithExpression None) tt (omega arith) (omega (arith, some)))))
        (λ open_mid behind_paren h.
        let front = joined word behind_paren in
        elim (bind_stopped (for_init k low scope open_mid) (λ init. tested init) why rest h) [
          | inl x ↦ into (for_init_of scope pos) (omega (arith, some)) front
              (for_init_viable k low scope open_mid rest why some x)
          | inr i ↦
              let init = for_init_sound k low sound scope open_mid i.mid i.value i.one in
              let before_test = joined front (spelt init) in
              elim (bind_stopped (optional k low (is_mark p.Semicolon) (scope ++ for_init_adds i.value) i.mid)
              (λ test. stepped i.value test) why rest i.two) [
                | inl x ↦ into (for_test scope pos i.value init.fits) (omega (arith, some, init.within)) before_test
                    (optional_viable k low p.Semicolon (scope ++ for_init_adds i.value) i.mid rest why x)
                | inr t ↦
                    let test = optional_read p.Semicolon (scope ++ for_init_adds i.value) i.mid t.mid t.value t.one in
                    let before_step = joined before_test (spelt test) in
                    let inner : Scope = scope ++ for_init_adds i.value ++ optional_adds t.value in
                    elim (bind_stopped (optional k low (is_mark p.CloseParen) inner t.mid)
                    (λ step. turned i.value t.value step) why rest t.two) [
                      | inl x ↦ into (for_step scope pos i.value init.fits t.value test.fits)
                          (omega (arith, some, init.within, test.within)) before_step
                          (optional_viable k low p.CloseParen inner t.mid rest why x)
                      | inr s ↦
                          let step = optional_read p.CloseParen inner t.mid s.mid s.value s.one in
                          into (for_body scope pos i.value init.fits t.value test.fits s.value step.fits)
                          (omega (arith, init.within, test.within, step.within)) (joined before_step (spelt step))
                          (viable.statement (inner ++ optional_adds s.value) s.mid rest why some
                          (given_stopped (low.statement (inner ++ optional_adds s.value) s.mid)
                          (λ body. unit.For pos i.value t.value s.value body) why rest s.two))
                    ]
              ]
        ])

    jump_viable : (next : Body) (one : Statement) → IsStatement one scope → statement_height one ≡ 1
        → spell_statement one ≡ token_at (place tokens) next ∷ mark p.Semicolon ∷ [] → next_body tokens ≡ Some next
        → (expect (is_mark p.Semicolon) >>= λ _. pure one) (tail tokens) ≡ Stopped why rest → IsStopped why rest
    jump_viable next one fits low same is h =
        close_stopped p.Semicolon one IsStopped (tail tokens) why rest h
        (refused (spelt_at tokens next is) (record {
          node = one;
          more = mark p.Semicolon ∷ [];
          fits = fits;
          within =
              omega (arith, low);
          parts = same;
        }))

    -- one of the statements that a word begins
    deep : (one : Statement) (next : Body) (more : List Spelled) (r : Parser Statement) → IsStatement one scope
        → spell_statement one ≡ token_at (place tokens) next ∷ more → next_body tokens ≡ Some next
        → (0 < k → r (tail tokens) ≡ Stopped why rest → IsStopped why rest)
        → deeper k (skip r) tokens ≡ Stopped why rest → IsStopped why rest
    deep one next more r fits same is viable h =
        deeper_stopped IsStopped k (skip r) tokens why rest h
        (too_deep_here (no_statement scope k)
        (subst (Begun (λ one. IsStatement one scope) statement_height spell_statement (place tokens)) (sym is)
        (whole_begins (token_at (place tokens) next) one more refl fits same)))
        viable

    statement_by_viable : (o : Option Body) → next_body tokens ≡ o
        → statement_by k low scope (place tokens) o tokens ≡ Stopped why rest → IsStopped why rest
    statement_by_viable (Some (lexeme.Mark p.OpenBrace)) is h =
        block_viable is (given_stopped (block_with low.block_item scope (tail tokens)) (λ all. unit.Block all) why
        rest h)
    statement_by_viable (Some (lexeme.Word w.If)) is h =
        deep (unit.If (place tokens) least_expr empty) (lexeme.Word w.If) _ (if_on k low scope (place tokens)) (
          tt,
          tt,
        ) refl is (λ some h. if_on_viable some is h) h
    statement_by_viable (Some (lexeme.Word w.Switch)) is h =
        deep (unit.Switch (place tokens) least_expr unit.NoSwitchItem) (lexeme.Word w.Switch) _
        (switch_on k low scope (place tokens)) (tt, tt) refl is (λ some h. switch_on_viable some is h) h
    statement_by_viable (Some (lexeme.Word w.While)) is h =
        deep (unit.While (place tokens) least_expr empty) (lexeme.Word w.While) _
        (while_on k low scope (place tokens)) (tt, tt) refl is (λ some h. while_on_viable some is h) h
    statement_by_viable (Some (lexeme.Word w.Do)) is h =
        deep (unit.Do (place tokens) empty least_expr) (lexeme.Word w.Do) _ (do_on k low scope (place tokens)) (
          tt,
          tt,
        ) refl is (λ some h. do_on_viable some is h) h
    statement_by_viable (Some (lexeme.Word w.For)) is h =
        deep (unit.For (place tokens) (unit.WithExpression None) None None empty) (lexeme.Word w.For) _
        (for_on k low scope (place tokens)) (tt, tt, tt, tt) refl is (λ some h. for_on_viable some is h) h
    statement_by_viable (Some (lexeme.Word w.Break)) is h =
        jump_viable (lexeme.Word w.Break) (unit.Break (place tokens)) tt refl refl is h
    statement_by_viable (Some (lexeme.Word w.Continue)) is h =
        jump_viable (lexeme.Word w.Continue) (unit.Continue (place tokens)) tt refl refl is h
    statement_by_viable (Some (lexeme.Word w.Return)) is h =
        into (returned scope (place tokens)) (omega arith) (spelt_at tokens (lexeme.Word w.Return) is)
        (optional_viable k low p.Semicolon scope (tail tokens) rest why
        (given_stopped (optional k low (is_mark p.Semicolon) scope (tail tokens))
        (λ value. unit.Return (place tokens) value) why rest h))
    statement_by_viable _ is h =
        into (expression_statement scope) (omega arith) (nothing_spelt tokens)
        (optional_viable k low p.Semicolon scope tokens rest why
        (given_stopped (optional k low (is_mark p.Semicolon) scope tokens) (λ e. unit.ExprStmt e) why rest h))

    pub statement_at_viable : statement_at k low scope tokens ≡ Stopped why rest → IsStopped why rest
    unfolding statement_at
    statement_at_viable h = statement_by_viable (next_body tokens) refl h
