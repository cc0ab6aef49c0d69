-- Where the reading of a static assertion stops, one begins with what was read.
use Rattle.std.specs.Prelude.{ℤ}
use Rattle.std.proofs.Common.{◌≡◌, inl, inr, ℕ, zero, suc, ◌<◌, ◌≤◌, List, [], ◌∷◌, ◌++◌, Bool, true, false, Option}
use Rattle.std.proofs.Common.{Some, None, refl, sym, subst, append_assoc, arith}
use Rattle.critical_table.specs.declared.pos.Pos.{Pos}
use Rattle.c_lexer.specs.declared.punct.Punct.TheVariants as p
use Rattle.c_lexer.specs.declared.token.Body.{Body}
use Rattle.c_lexer.specs.declared.token.Body.TheVariants as lexeme
use Rattle.c_lexer.specs.declared.token.Token.{Token}
use Rattle.c_lexer.specs.declared.word.Word.TheVariants as w
use Rattle.c_syntax.specs.declared.spelled.Spelled.{Spelled}
use Rattle.c_syntax.specs.Begin.{Begins, BeginsAssert}
use Rattle.c_syntax.specs.Height.{height}
use Rattle.c_syntax.specs.HeightUnit.{assert_height}
use Rattle.c_syntax.specs.Levels.{conditional}
use Rattle.c_reading.specs.Parser.{Why, Unfit, Stopped, ◌>>=◌, pure, expect, next_body, place, tail}
use Rattle.c_reading.specs.ReadExpr.{pieces, piece, piece_by}
use Rattle.c_reading.specs.ReadBody.{message_by, message, assert_on, assert_at}
use Rattle.c_reading.specs.ReadSpecifier.{parsers}
use Rattle.c_reading.specs.ReadToken.{is_mark, is_word, is_literal}
use Rattle.c_syntax.specs.Scopes.{Scope}
use Rattle.c_syntax.specs.Spelling.{spell}
use Rattle.c_syntax.specs.SpellingUnit.{spell_assert}
use Rattle.c_syntax.specs.Tokens.{mark, word_at, spell_pieces}
use Rattle.c_syntax.specs.Tree.{Literals, Expr}
use Rattle.c_syntax.specs.TreeUnit.{Assert}
use Rattle.c_syntax.specs.WellFormed.{AreAdjacent, IsExpr}
use Rattle.c_syntax.specs.WellFormedUnit.{IsAssert}
use Rattle.c_reading.proofs.Viable.Completions.{behind_part, before_part, fewer, refused_behind, Begun, whole_begins}
use Rattle.c_reading.proofs.Viable.Completions.{too_deep_in}
use Rattle.c_reading.proofs.Viable.Contexts.{stopped, bind_stopped, close_stopped, mark_stopped, many_stopped}
use Rattle.c_reading.proofs.Viable.Contexts.{Completed, Context, refused, into}
use Rattle.c_reading.proofs.Sound.Steps.{Spelt, joined, nothing_spelt, spelt_at, spelt_bare}
use Rattle.c_reading.proofs.Sound.Law.{spelt}
use Rattle.c_reading.proofs.Sound.Expr.{pieces_sound}
use Rattle.c_reading.proofs.Sound.Specifier.{parsers_sound}
use Rattle.c_reading.proofs.Viable.Started.{least_expr}
use Rattle.c_reading.proofs.TokenTests.{is_word_is}
use Rattle.c_reading.proofs.Viable.Law.{Holds}
use Rattle.c_reading.proofs.Viable.Declarator.{parsers_viable}

-- literals never stop
pieces_never : (wide : Bool) (tokens rest : List Token) (why : Why) → pieces wide tokens ≡ Stopped why rest → ⊥
unfolding pieces piece
pieces_never wide tokens rest why h =
    many_stopped (λ s o. is_literal wide o) (λ s. piece) (λ s units. s) (λ s tokens why rest. ⊥)
    (λ s tokens rest why goes h. by wide (next_body tokens) tokens rest why goes h)
    (λ s tokens mid rest a why goes one then. then) wide tokens rest why h
  where
    by : (wide : Bool) (o : Option Body) (tokens rest : List Token) (why : Why) → is_literal wide o ≡ true
        → piece_by o tokens ≡ Stopped why rest → ⊥
    by wide (Some (lexeme.Literal units other)) tokens rest why goes h = cc (h)
    by true _ tokens rest why goes h = cc (goes)
    by false _ tokens rest why goes h = cc (goes)

abbrev InAssert : {A : Type 0} → (A → Type 0) → (A → ℕ) → (A → List Spelled) → Scope → ℕ → List Spelled → Type 0
InAssert Fits tall spelled scope =
    Context Fits tall spelled (λ one. IsAssert one scope) assert_height spell_assert (λ j. suc j)

abbrev least_text : Literals
least_text = record { pieces = [] ∷ []; wide = false }

its_test : (scope : Scope) (pos : Pos)
    → InAssert (λ e. IsExpr e scope conditional) height spell scope 0
    (word_at pos w.StaticAssert ∷ mark p.OpenParen ∷ [])
its_test scope pos = record {
  make = λ e. record { pos = pos; condition = e; message = least_text };
  behind = mark p.Comma ∷ spell_pieces None false ([] ∷ []) ++ mark p.CloseParen ∷ mark p.Semicolon ∷ [];
  fits = λ e fits. (fits, λ none. cc (none));
  within = λ e j others low. omega arith;
  spells = λ e. simp append_assoc;
}

its_message : (scope : Scope) (pos : Pos) (test : Expr) → IsExpr test scope conditional
    → InAssert AreAdjacent (λ text. 0) (λ text. spell_pieces None text.wide text.pieces) scope (height test)
    (word_at pos w.StaticAssert ∷ mark p.OpenParen ∷ spell test ++ mark p.Comma ∷ [])
its_message scope pos test fits = record {
  make = λ text. record { pos = pos; condition = test; message = text };
  behind = mark p.CloseParen ∷ mark p.Semicolon ∷ [];
  fits = λ text more. (fits, more);
  within = λ text j others low. omega arith;
  spells = λ text. simp append_assoc;
}

module _ (k : ℕ) (some : 0 < k) (scope : Scope) (start : List Token) (pos : Pos) where
  abbrev IsStopped : Why → List Token → Type 0
  IsStopped = Holds (BeginsAssert scope) (suc k) start

  module _ (test : Expr) (fits : IsExpr test scope conditional) (low : height test ≤ k) (tokens rest : List Token)
      (why : Why)
      (before : Spelt start (word_at pos w.StaticAssert ∷ mark p.OpenParen ∷ spell test ++ mark p.Comma ∷ [])
      tokens) where
    no_message : IsStopped Unfit tokens
    no_message = refused before (before_part (its_message scope pos test fits) k least_text (λ none. cc (none))
        (omega arith) low)

    abbrev before_message : List Spelled
    before_message = word_at pos w.StaticAssert ∷ mark p.OpenParen ∷ spell test ++ mark p.Comma ∷ []

    paren_closed : (text : Literals) → AreAdjacent text
        → Completed (λ one. IsAssert one scope) assert_height spell_assert (suc k)
        ((before_message ++ spell_pieces None text.wide text.pieces) ++ mark p.CloseParen ∷ [])
    paren_closed text adjacent = record {
      node = record { pos = pos; condition = test; message = text };
      more =
          mark p.Semicolon ∷ [];
      fits = (fits, adjacent);
      within = omega (arith, low);
      parts = simp append_assoc;
    }

    literal_stopped : (units : List ℤ) (wide : Bool) → next_body tokens ≡ Some (lexeme.Literal units wide)
        → message_by k pos test (Some (lexeme.Literal units wide)) tokens ≡ Stopped why rest → IsStopped why rest
    literal_stopped units wide is h =
        let last = λ (more : List _). pure {A =
        Assert} (record { pos = pos; condition = test; message = record { pieces = units ∷ more; wide = wide } }) in
        elim (bind_stopped (pieces wide (tail tokens)) (λ more. expect (is_mark p.CloseParen)
        >>= λ _. expect (is_mark p.Semicolon) >>= λ _. last more) why rest h) [
          | inl x ↦ absurd (pieces_never wide (tail tokens) rest why x)
          | inr x ↦
              let text : Literals = record { pieces = units ∷ x.value; wide = wide } in
              let read = joined before
              (joined (spelt_bare tokens (lexeme.Literal units wide) is)
              (pieces_sound wide (tail tokens) x.mid x.value x.one)) in
              mark_stopped p.CloseParen (expect (is_mark p.Semicolon) >>= λ _. last x.value) IsStopped x.mid why
              rest x.two
              (refused read (behind_part (its_message scope pos test fits) k text (λ none. cc (none)) (omega arith)
              low))
              (λ mid closed h. close_stopped {B =
              Assert} p.Semicolon (record { pos = pos; condition = test; message = text }) IsStopped mid why rest h
              (refused (joined read closed) (paren_closed text (λ none. cc (none)))))
        ]

    message_by_viable : (o : Option Body) → next_body tokens ≡ o → message_by k pos test o tokens ≡ Stopped why rest
        → IsStopped why rest
    message_by_viable (Some (lexeme.Literal units wide)) is h = literal_stopped units wide is h
    message_by_viable _ is h = stopped IsStopped h no_message

  assert_on_viable : (tokens rest : List Token) (why : Why) → Spelt start (word_at pos w.StaticAssert ∷ []) tokens
      → assert_on k scope pos tokens ≡ Stopped why rest → IsStopped why rest
  unfolding assert_on message
  assert_on_viable tokens rest why word h =
      mark_stopped p.OpenParen ((parsers k).expr scope conditional >>= λ test. expect (is_mark p.Comma)
      >>= λ _. message k pos test) IsStopped tokens why rest h
      (refused word
      (fewer (word_at pos w.StaticAssert ∷ []) (mark p.OpenParen ∷ [])
      (before_part (its_test scope pos) k least_expr tt (omega arith) (omega arith))))
      (λ behind behind_paren h.
      let front = joined word behind_paren in
      elim (bind_stopped ((parsers k).expr scope conditional behind) (λ test. expect (is_mark p.Comma)
      >>= λ _. message k pos test) why rest h) [
        | inl x ↦ into (its_test scope pos) (omega arith) front
            ((parsers_viable k).expr scope conditional behind rest why (omega arith) some x)
        | inr x ↦
            let test = (parsers_sound k).expr scope conditional (omega arith) behind x.mid x.value x.one in
            mark_stopped p.Comma (message k pos x.value) IsStopped x.mid why rest x.two
            (refused_behind (its_test scope pos) (omega arith) front test)
            (λ mid comma h. message_by_viable x.value test.fits test.within mid rest why
            (joined (joined front (spelt test)) comma) (next_body mid) refl h)
      ])

pub assert_viable : (k : ℕ) (scope : Scope) (tokens rest : List Token) (why : Why) → 0 < k
    → is_word w.StaticAssert (next_body tokens) ≡ true → assert_at k scope tokens ≡ Stopped why rest
    → Holds (BeginsAssert scope) (suc k) tokens why rest
unfolding assert_at
assert_viable zero scope tokens rest why some is h = absurd (omega (arith, some))
assert_viable (suc k) scope tokens rest why some is h =
    assert_on_viable (suc k) some scope tokens (place tokens) (tail tokens) rest why
    (spelt_at tokens (lexeme.Word w.StaticAssert) (is_word_is w.StaticAssert (next_body tokens) is)) h

pub assert_begun : (scope : Scope) (pos : Pos)
    → Begun (λ one. IsAssert one scope) assert_height spell_assert pos (Some (lexeme.Word w.StaticAssert))
assert_begun scope pos =
    whole_begins (word_at pos w.StaticAssert) (record { pos = pos; condition = least_expr; message = least_text })
    (mark p.OpenParen ∷ spell least_expr ++ mark p.Comma ∷ spell_pieces None false ([] ∷ [])
    ++ mark p.CloseParen ∷ mark p.Semicolon ∷ []) refl (tt, λ none. cc (none)) refl

-- an assertion as the whole of something that has other nodes of height 1
pub assertion_stopped : {B : Type 0} {Fits : B → Type 0} {tall : B → ℕ} {spelled : B
    → List Spelled} (k : ℕ) (scope : Scope) (tokens rest : List Token) (why : Why)
    → Context (λ one. IsAssert one scope) assert_height spell_assert Fits tall spelled (λ j. j) 0 []
    → Completed Fits tall spelled (suc k) [] → is_word w.StaticAssert (next_body tokens) ≡ true
    → assert_at k scope tokens ≡ Stopped why rest → Holds (Begins Fits tall spelled) (suc k) tokens why rest
unfolding assert_at
assertion_stopped {Fits = Fits} {tall = tall} {spelled = spelled} zero scope tokens rest why context c is h =
    stopped (Holds (Begins Fits tall spelled) 1 tokens) h
    (too_deep_in context (nothing_spelt tokens) c
    (subst (Begun (λ one. IsAssert one scope) assert_height spell_assert (place tokens))
    (sym (is_word_is w.StaticAssert (next_body tokens) is)) (assert_begun scope (place tokens))))
assertion_stopped (suc k) scope tokens rest why context c is h =
    into context (omega arith) (nothing_spelt tokens) (assert_viable (suc k) scope tokens rest why (omega arith) is h)
