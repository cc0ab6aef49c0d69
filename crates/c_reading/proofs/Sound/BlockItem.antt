-- What is read as an item of a block or of a switch is one; and all parsers of statements of every height are sound.
use Rattle.std.proofs.Common.{◌≡◌, inl, inr, ℕ, zero, suc, List, true, arith}
use Rattle.c_lexer.specs.declared.punct.Punct.TheVariants as p
use Rattle.c_lexer.specs.declared.token.Token.{Token}
use Rattle.c_lexer.specs.declared.token.Body.TheVariants as lexeme
use Rattle.c_lexer.specs.declared.word.Word.TheVariants as w
use Rattle.c_syntax.specs.Levels.{conditional}
use Rattle.c_syntax.specs.HeightUnit.{block_item_height, switch_item_height}
use Rattle.c_reading.specs.Parser.{Found, ◌>>=◌, pure, skip, expect, next_body, place, tail}
use Rattle.c_reading.specs.ReadBody.{begins_statement, begins_block_item, begins_switch_item, declaration_at}
use Rattle.c_reading.specs.ReadBody.{assert_at, Statements, statement_at, block_item_at, case_on, switch_item_at}
use Rattle.c_reading.specs.ReadBody.{statements}
use Rattle.c_reading.specs.ReadSpecifier.{parsers}
use Rattle.c_reading.specs.ReadToken.{is_mark, is_word, begins_type}
use Rattle.c_syntax.specs.Scopes.{Scope}
use Rattle.c_syntax.specs.SpellingUnit.{spell_block_item, spell_switch_item}
use Rattle.c_syntax.specs.TreeUnit as unit
use Rattle.c_syntax.specs.TreeUnit.{BlockItem, SwitchItem}
use Rattle.c_syntax.specs.WellFormedUnit.{IsBlockItem, IsSwitchItem}
use Rattle.c_reading.proofs.Sound.Steps.{moved, bind_found, chosen, deeper_found, mark_then, joined, spelt_at}
use Rattle.c_reading.proofs.Sound.Law.{Read, Sound, spelt}
use Rattle.c_reading.proofs.Sound.Declaration.{declaration_sound, assert_sound}
use Rattle.c_reading.proofs.Sound.Initializer.{unless_found}
use Rattle.c_reading.proofs.Sound.Block.{SoundStatements}
use Rattle.c_reading.proofs.Sound.Statement.{statement_at_sound}
use Rattle.c_reading.proofs.Sound.Specifier.{parsers_sound}
use Rattle.c_reading.proofs.TokenTests.{is_word_is}

module _ (k : ℕ) (low : Statements) (sound : SoundStatements k low) where
  abbrev ItemRead : Scope → List Token → BlockItem → List Token → Type 0
  ItemRead scope = Read (λ one. IsBlockItem one scope) block_item_height spell_block_item (suc k)

  declared_sound : (scope : Scope) (tokens rest : List Token) (one : BlockItem)
      → (declaration_at k scope >>= λ one. pure (unit.Declared one)) tokens ≡ Found one rest
      → ItemRead scope tokens one rest
  declared_sound scope tokens rest one h =
      let x = bind_found (declaration_at k scope tokens) (λ one. pure (unit.Declared one)) one rest h in
      let y = declaration_sound k scope tokens x.mid x.value x.one in
      moved (ItemRead scope tokens) {a = unit.Declared x.value} {tokens =
      x.mid} x.two (record { spells = y.spells; fits = y.fits; within = y.within })

  asserted_sound : (scope : Scope) (tokens rest : List Token) (one : BlockItem)
      → is_word w.StaticAssert (next_body tokens) ≡ true
      → (assert_at k scope >>= λ one. pure (unit.Asserted one)) tokens ≡ Found one rest → ItemRead scope tokens one rest
  asserted_sound scope tokens rest one is h =
      let x = bind_found (assert_at k scope tokens) (λ one. pure (unit.Asserted one)) one rest h in
      let y = assert_sound k scope tokens x.mid x.value is x.one in
      moved (ItemRead scope tokens) {a = unit.Asserted x.value} {tokens =
      x.mid} x.two (record { spells = y.spells; fits = y.fits; within = y.within })

  done_sound : (scope : Scope) (tokens rest : List Token) (one : BlockItem)
      → (statement_at k low scope >>= λ one. pure (unit.Executes one)) tokens ≡ Found one rest
      → ItemRead scope tokens one rest
  done_sound scope tokens rest one h =
      let x = bind_found (statement_at k low scope tokens) (λ one. pure (unit.Executes one)) one rest h in
      let y = statement_at_sound k low sound scope tokens x.mid x.value x.one in
      moved (ItemRead scope tokens) {a = unit.Executes x.value} {tokens =
      x.mid} x.two (record { spells = y.0.spells; fits = y.0.fits; within = y.0.within })

  block_item_at_sound : (scope : Scope)
      → Sound (λ one. IsBlockItem one scope) block_item_height spell_block_item (suc k) (block_item_at k low scope)
  unfolding block_item_at
  block_item_at_sound scope tokens rest one h =
      elim (chosen (begins_type scope (next_body tokens)) _ _ tokens (Found one rest) h) [
        | inl x ↦ declared_sound scope tokens rest one x.1
        | inr x ↦ elim (chosen (is_word w.StaticAssert (next_body tokens)) _ _ tokens (Found one rest) x.1) [
          | inl y ↦ asserted_sound scope tokens rest one y.0 y.1
          | inr y ↦ done_sound scope tokens rest one y.1
        ]
      ]

  abbrev SwitchItemRead : Scope → List Token → SwitchItem → List Token → Type 0
  SwitchItemRead scope = Read (λ one. IsSwitchItem one scope) switch_item_height spell_switch_item (suc k)

  case_on_sound : (scope : Scope) (tokens rest : List Token) (one : SwitchItem)
      → is_word w.Case (next_body tokens) ≡ true → case_on k low scope (place tokens) (tail tokens) ≡ Found one rest
      → SwitchItemRead scope tokens one rest
  unfolding case_on
  case_on_sound scope tokens rest one is h =
      let pos = place tokens in
      let x = bind_found ((parsers k).expr scope conditional (tail tokens)) (λ value. expect (is_mark p.Colon)
      >>= λ _. pure (unit.Case pos value)) one rest h in
      let c = mark_then p.Colon (pure (unit.Case pos x.value)) x.mid rest one x.two in
      let y = (parsers_sound k).expr scope conditional (omega arith) (tail tokens) x.mid x.value x.one in
      moved (SwitchItemRead scope tokens) {a = unit.Case pos x.value} {tokens = c.mid} c.two (record {
        spells = (joined (joined (spelt_at tokens (lexeme.Word w.Case) (is_word_is w.Case (next_body tokens) is))
            (spelt y)) c.spelt).takes;
        fits = y.fits;
        within = omega (arith, y.within);
      })

  default_sound : (scope : Scope) (tokens rest : List Token) (one : SwitchItem)
      → is_word w.Default (next_body tokens) ≡ true
      → (expect (is_mark p.Colon) >>= λ _. pure (unit.Default (place tokens))) (tail tokens) ≡ Found one rest
      → SwitchItemRead scope tokens one rest
  default_sound scope tokens rest one is h =
      let c = mark_then p.Colon (pure (unit.Default (place tokens))) (tail tokens) rest one h in
      moved (SwitchItemRead scope tokens) {a = unit.Default (place tokens)} {tokens = c.mid} c.two (record {
        spells = (joined (spelt_at tokens (lexeme.Word w.Default) (is_word_is w.Default (next_body tokens) is))
            c.spelt).takes;
        fits = tt;
        within = omega arith;
      })

  within_sound : (scope : Scope) (tokens rest : List Token) (one : SwitchItem)
      → (block_item_at k low scope >>= λ one. pure (unit.InBlock one)) tokens ≡ Found one rest
      → SwitchItemRead scope tokens one rest
  within_sound scope tokens rest one h =
      let x = bind_found (block_item_at k low scope tokens) (λ one. pure (unit.InBlock one)) one rest h in
      let y = block_item_at_sound scope tokens x.mid x.value x.one in
      moved (SwitchItemRead scope tokens) {a = unit.InBlock x.value} {tokens =
      x.mid} x.two (record { spells = y.spells; fits = y.fits; within = y.within })

  switch_item_at_sound : (scope : Scope)
      → Sound (λ one. IsSwitchItem one scope) switch_item_height spell_switch_item (suc k) (switch_item_at k low scope)
  unfolding switch_item_at
  switch_item_at_sound scope tokens rest one h =
      elim (chosen (is_word w.Case (next_body tokens)) _ _ tokens (Found one rest) h) [
        | inl x ↦ case_on_sound scope tokens rest one x.0
            (deeper_found k (skip (case_on k low scope (place tokens))) tokens rest one x.1)
        | inr x ↦ elim (chosen (is_word w.Default (next_body tokens)) _ _ tokens (Found one rest) x.1) [
          | inl y ↦ default_sound scope tokens rest one y.0 y.1
          | inr y ↦ within_sound scope tokens rest one y.1
        ]
      ]

pub statements_sound : (k : ℕ) → SoundStatements k (statements k)
statements_sound zero = record {
  statement = λ scope tokens rest one h.
      absurd (unless_found (begins_statement scope (next_body tokens)) tokens rest one h);
  no_else = λ scope tokens rest one h.
      absurd (unless_found (begins_statement scope (next_body tokens)) tokens rest one h);
  block_item = λ scope tokens rest one h.
      absurd (unless_found (begins_block_item scope (next_body tokens)) tokens rest one h);
  switch_item =
      λ scope tokens rest one h. absurd (unless_found (begins_switch_item scope (next_body tokens)) tokens rest one h);
}
statements_sound (suc k) =
    let low = statements k in
    let sound = statements_sound k in
    record {
      statement = λ scope tokens rest one h. (statement_at_sound k low sound scope tokens rest one h).0;
      no_else = λ scope tokens rest one h. (statement_at_sound k low sound scope tokens rest one h).1;
      block_item = block_item_at_sound k low sound;
      switch_item = switch_item_at_sound k low sound;
    }
