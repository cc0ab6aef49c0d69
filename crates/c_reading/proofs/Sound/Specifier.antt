-- What is read as specifiers are specifiers; and all parsers of every height are sound.
use Rattle.std.proofs.Common.{◌≡◌, ℕ, zero, suc, ◌≤◌, List, [], ◌∷◌, Bool, true, false, ◌||◌, not, Option, Some, None}
use Rattle.std.proofs.Common.{inl, inr, refl, sym, ap, subst, arith}
use Rattle.std.proofs.lemmas.Bool.{and_parts}
use Rattle.c_lexer.specs.declared.token.Token.{Token}
use Rattle.c_lexer.specs.declared.token.Body.{Body}
use Rattle.c_lexer.specs.declared.token.Body.TheVariants as lexeme
use Rattle.c_lexer.specs.declared.word.Word.TheVariants as w
use Rattle.c_syntax.specs.declared.specifier.BasicWord.{BasicWord}
use Rattle.c_syntax.specs.declared.specifier.BasicWord.TheVariants as basic
use Rattle.c_syntax.specs.declared.specifier.CompoundWord.TheVariants as words
use Rattle.c_syntax.specs.declared.specifier.Qualifier.{Qualifier}
use Rattle.c_syntax.specs.declared.specifier.Storage.{Storage}
use Rattle.c_syntax.specs.Height.{specifiers_height}
use Rattle.c_syntax.specs.Operators.{storage_word, qualifier_word, basic_word}
use Rattle.c_reading.specs.Parser.{Parser, Found, next_body, place, tail, many}
use Rattle.c_reading.specs.ReadExpr.{Parsers}
use Rattle.c_reading.specs.declared.type_seen.TypeSeen.{TypeSeen}
use Rattle.c_reading.specs.declared.type_seen.TypeSeen.TheVariants.{Nothing, Basic, Other}
use Rattle.c_reading.specs.ReadSpecifier.{Specified, is_nothing, is_other, goes_specifier, type_seen_with}
use Rattle.c_reading.specs.ReadSpecifier.{specified_with, types_seen, word_by, word_at, specifier_by}
use Rattle.c_reading.specs.ReadSpecifier.{low_specifier_by, low_specifier, specifier_at, with_type, specifiers_by}
use Rattle.c_reading.specs.ReadSpecifier.{parsers}
use Rattle.c_reading.specs.ReadToken.{is_word, storage_of, qualifier_of, basic_of}
use Rattle.c_syntax.specs.Scopes.{Scope, is_type}
use Rattle.c_syntax.specs.Spelling.{spell_specifiers}
use Rattle.c_syntax.specs.Tree as tree
use Rattle.c_syntax.specs.Tree.{Specifier, Specifiers}
use Rattle.c_syntax.specs.View.{specifiers}
use Rattle.c_syntax.specs.WellFormed.{basic_words, other_types, SpecifyOneType, AreSpecifiers}
use Rattle.c_reading.proofs.Sound.Steps.{moved, bind_found, joined, spelt_at, many_found}
use Rattle.c_reading.proofs.Sound.Law.{Read, Sound, spelt, AllSound}
use Rattle.c_reading.proofs.Sound.Compound.{May, IsMore, compound_sound, enumeration_sound}
use Rattle.c_reading.proofs.Sound.Declarator.{no_declarator_sound, declarator_sound, type_name_sound, parameter_sound}
use Rattle.c_reading.proofs.Sound.Declarator.{member_sound}
use Rattle.c_reading.proofs.Sound.Expr.{paren_expr_sound, expr_sound}
use Rattle.c_reading.proofs.TokenTests.{token_is, storage_is, qualifier_is, basic_is, is_word_is}

-- ---- specifiers of one word

basic_by : (other : Bool) → (not other || false) ≡ true → other ≡ false
basic_by true h = absurd (cc (h))
basic_by false h = refl

-- a basic word goes on where no other type has come
basic_may : (s : Specified) (word : BasicWord) → goes_specifier s (Some (lexeme.Word (basic_word word))) ≡ true
    → is_other s.type_seen ≡ false
basic_may s basic.Void h = basic_by (is_other s.type_seen) h
basic_may s basic.Char h = basic_by (is_other s.type_seen) h
basic_may s basic.Short h = basic_by (is_other s.type_seen) h
basic_may s basic.Int h = basic_by (is_other s.type_seen) h
basic_may s basic.Long h = basic_by (is_other s.type_seen) h
basic_may s basic.Signed h = basic_by (is_other s.type_seen) h
basic_may s basic.Unsigned h = basic_by (is_other s.type_seen) h
basic_may s basic.Bool h = basic_by (is_other s.type_seen) h

module _ (s : Specified) (most : ℕ) (tokens rest : List Token) (one : Specifier) where
  word_by_sound : (st : Option Storage) (q : Option Qualifier) (b : Option BasicWord) (i : Bool)
      → storage_of (next_body tokens) ≡ st → qualifier_of (next_body tokens) ≡ q → basic_of (next_body tokens) ≡ b
      → is_word w.Inline (next_body tokens) ≡ i
      → goes_specifier s (next_body tokens) ≡ true → word_by (place tokens) st q b i tokens ≡ Found one rest
      → IsMore s most tokens one rest
  word_by_sound (Some word) q b i is_storage is_qualifier is_basic inline goes h =
      moved (IsMore s most tokens) h (record {
        spells = (spelt_at tokens (lexeme.Word (storage_word word))
            (token_is (λ word. lexeme.Word (storage_word word)) _ _ word (storage_is (next_body tokens))
            is_storage)).takes;
        fits = (tt, tt);
        within = omega arith;
      })
  word_by_sound None (Some word) b i is_storage is_qualifier is_basic inline goes h =
      moved (IsMore s most tokens) h (record {
        spells = (spelt_at tokens (lexeme.Word (qualifier_word word))
            (token_is (λ word. lexeme.Word (qualifier_word word)) _ _ word (qualifier_is (next_body tokens))
            is_qualifier)).takes;
        fits = (tt, tt);
        within = omega arith;
      })
  word_by_sound None None (Some word) i is_storage is_qualifier is_basic inline goes h =
      let is = token_is (λ word. lexeme.Word (basic_word word)) _ _ word (basic_is (next_body tokens)) is_basic in
      moved (IsMore s most tokens) h (record {
        spells = (spelt_at tokens (lexeme.Word (basic_word word)) is).takes;
        fits = (tt, basic_may s word (subst (λ o. goes_specifier s o ≡ true) is goes));
        within = omega arith;
      })
  word_by_sound None None None true is_storage is_qualifier is_basic inline goes h =
      moved (IsMore s most tokens) h (record {
        spells = (spelt_at tokens (lexeme.Word w.Inline) (is_word_is w.Inline (next_body tokens) inline)).takes;
        fits = (tt, tt);
        within = omega arith;
      })
  word_by_sound None None None false is_storage is_qualifier is_basic inline goes h = absurd (cc (h))

  word_sound : (o : Option Body) → next_body tokens ≡ o → goes_specifier s o ≡ true
      → word_at (place tokens) o tokens ≡ Found one rest → IsMore s most tokens one rest
  word_sound o is goes h =
      word_by_sound (storage_of o) (qualifier_of o) (basic_of o) (is_word w.Inline o) (ap storage_of is)
      (ap qualifier_of is) (ap basic_of is) (ap (is_word w.Inline) is)
      (subst (λ o. goes_specifier s o ≡ true) (sym is) goes) h

  typedef_sound : (x : List ℕ) → next_body tokens ≡ Some (lexeme.Name x)
      → goes_specifier s (Some (lexeme.Name x)) ≡ true → Found (tree.TypedefName (place tokens) x) (tail tokens)
      ≡ Found one rest → IsMore s most tokens one rest
  typedef_sound x is goes h =
      let both = and_parts (is_type s.scope x) (is_nothing s.type_seen) goes in
      moved (IsMore s most tokens) h (record {
        spells = (spelt_at tokens (lexeme.Name x) is).takes;
        fits =
            (both.0, both.1);
        within = omega arith;
      })

abbrev pub SoundStep : ℕ → (Specified → Parser Specifier) → Type 0
SoundStep most step = (s : Specified) (tokens rest : List Token) (one : Specifier)
    → goes_specifier s (next_body tokens) ≡ true → step s tokens ≡ Found one rest → IsMore s most tokens one rest

low_specifier_by_sound : (s : Specified) (o : Option Body) (tokens rest : List Token) (one : Specifier)
    → next_body tokens ≡ o → goes_specifier s o ≡ true
    → low_specifier_by (place tokens) o tokens ≡ Found one rest → IsMore s 0 tokens one rest
low_specifier_by_sound s (Some (lexeme.Name x)) tokens rest one is goes h =
    typedef_sound s 0 tokens rest one x is goes h
low_specifier_by_sound s (Some (lexeme.Word w.Struct)) tokens rest one is goes h = absurd (cc (h))
low_specifier_by_sound s (Some (lexeme.Word w.Union)) tokens rest one is goes h = absurd (cc (h))
low_specifier_by_sound s (Some (lexeme.Word w.Enum)) tokens rest one is goes h = absurd (cc (h))
low_specifier_by_sound s o tokens rest one is goes h = word_sound s 0 tokens rest one o is goes h

pub low_step : SoundStep 0 low_specifier
unfolding low_specifier
low_step s tokens rest one goes h = low_specifier_by_sound s (next_body tokens) tokens rest one refl goes h

module _ (k : ℕ) (low : Parsers) (sound : AllSound k low) where
  specifier_by_sound : (s : Specified) (o : Option Body) (tokens rest : List Token) (one : Specifier)
      → next_body tokens ≡ o → goes_specifier s o ≡ true
      → specifier_by k low s.scope (place tokens) o tokens ≡ Found one rest → IsMore s (suc k) tokens one rest
  specifier_by_sound s (Some (lexeme.Name x)) tokens rest one is goes h =
      typedef_sound s (suc k) tokens rest one x is goes h
  specifier_by_sound s (Some (lexeme.Word w.Struct)) tokens rest one is goes h =
      compound_sound k low sound s goes words.Struct tokens rest one is h
  specifier_by_sound s (Some (lexeme.Word w.Union)) tokens rest one is goes h =
      compound_sound k low sound s goes words.Union tokens rest one is h
  specifier_by_sound s (Some (lexeme.Word w.Enum)) tokens rest one is goes h =
      enumeration_sound k low sound s goes tokens rest one is h
  specifier_by_sound s o tokens rest one is goes h = word_sound s (suc k) tokens rest one o is goes h

  pub step_sound : SoundStep (suc k) (specifier_at k low)
  unfolding specifier_at
  step_sound s tokens rest one goes h = specifier_by_sound s (next_body tokens) tokens rest one refl goes h

-- ---- all specifiers

-- how many types stand in specifiers, by what had come before them and what has come with them
abbrev Counted : TypeSeen → TypeSeen → ℕ → ℕ → Type 0
Counted Nothing Nothing basics others = Unit {0}
Counted Nothing Basic basics others = (1 ≤ basics) × (others ≡ 0)
Counted Nothing Other basics others = (basics ≡ 0) × (others ≡ 1)
Counted Basic Basic basics others = others ≡ 0
Counted Other Other basics others = (basics ≡ 0) × (others ≡ 0)
Counted _ _ basics others = ⊥

counted_none : (type_seen : TypeSeen) → Counted type_seen type_seen 0 0
counted_none Nothing = tt
counted_none Basic = refl
counted_none Other = (refl, refl)

counted_basic : (type_seen after : TypeSeen) (basics others : ℕ) → is_other type_seen ≡ false
    → Counted Basic after basics others → Counted type_seen after (suc basics) others
counted_basic Nothing Nothing basics others may rest = absurd rest
counted_basic Nothing Basic basics others may rest = (omega arith, rest)
counted_basic Nothing Other basics others may rest = absurd rest
counted_basic Basic Nothing basics others may rest = absurd rest
counted_basic Basic Basic basics others may rest = rest
counted_basic Basic Other basics others may rest = absurd rest
counted_basic Other after basics others may rest = absurd (cc (may))

counted_other : (type_seen after : TypeSeen) (basics others : ℕ) → is_nothing type_seen ≡ true
    → Counted Other after basics others → Counted type_seen after basics (suc others)
counted_other Nothing Nothing basics others may rest = absurd rest
counted_other Nothing Basic basics others may rest = absurd rest
counted_other Nothing Other basics others may rest = (rest.0, omega (arith, rest.1))
counted_other Basic after basics others may rest = absurd (cc (may))
counted_other Other after basics others may rest = absurd (cc (may))

abbrev AreCounted : TypeSeen → List Specifier → Type 0
AreCounted type_seen all =
    Counted type_seen (types_seen type_seen all) (basic_words (specifiers all)) (other_types (specifiers all))

counted_more : (type_seen : TypeSeen) (one : Specifier) (rest : List Specifier) → May type_seen one
    → AreCounted (type_seen_with type_seen one) rest → AreCounted type_seen (one ∷ rest)
counted_more type_seen (tree.StorageClass pos word) rest may are = are
counted_more type_seen (tree.TypeQualifier pos word) rest may are = are
counted_more type_seen (tree.Inline pos) rest may are = are
counted_more type_seen (tree.BasicType pos word) rest may are = counted_basic type_seen _ _ _ may are
counted_more type_seen (tree.CompoundTag pos word tag) rest may are = counted_other type_seen _ _ _ may are
counted_more type_seen (tree.Compound pos word tag all) rest may are = counted_other type_seen _ _ _ may are
counted_more type_seen (tree.EnumTag pos tag) rest may are = counted_other type_seen _ _ _ may are
counted_more type_seen (tree.Enum pos tag all comma) rest may are = counted_other type_seen _ _ _ may are
counted_more type_seen (tree.TypedefName pos x) rest may are = counted_other type_seen _ _ _ may are

module _ (most : ℕ) (step : Specified → Parser Specifier) (sound : SoundStep most step) where
  abbrev AreMore : Specified → List Token → List Specifier → List Token → Type 0
  AreMore s = Read (λ all. AreSpecifiers (specifiers all) s.scope × AreCounted s.type_seen all)
      (λ all. specifiers_height (specifiers all)) (λ all. spell_specifiers (specifiers all)) most

  no_specifier : (s : Specified) (tokens : List Token) → AreMore s tokens [] tokens
  no_specifier s tokens = record { spells = refl; fits = (tt, counted_none s.type_seen); within = omega arith }

  one_specifier : (s : Specified) (tokens mid rest : List Token) (one : Specifier) (more : List Specifier)
      → goes_specifier s (next_body tokens) ≡ true → step s tokens ≡ Found one mid
      → AreMore (specified_with s one) mid more rest → AreMore s tokens (one ∷ more) rest
  one_specifier s tokens mid rest one more goes h then =
      let x = sound s tokens mid one goes h in
      record {
        spells = (joined (spelt x) (spelt then)).takes;
        fits = ((x.fits.0, then.fits.0), counted_more s.type_seen one more x.fits.1 then.fits.1);
        within = omega (arith, x.within, then.within);
      }

  with_type_sound : (scope : Scope) (tokens mid rest : List Token) (list : List Specifier) (after : TypeSeen)
      (all : Specifiers) → types_seen Nothing list ≡ after
      → AreMore (record { scope = scope; type_seen = Nothing }) tokens list mid
      → with_type after list mid ≡ Found all rest
      → Read (λ all. SpecifyOneType all × AreSpecifiers all scope) specifiers_height spell_specifiers most tokens
      all rest
  with_type_sound scope tokens mid rest list Nothing all is are h = absurd (cc (h))
  with_type_sound scope tokens mid rest list Basic all is are h =
      let counted =
      subst (λ after. Counted Nothing after (basic_words (specifiers list)) (other_types (specifiers list))) is
      are.fits.1 in
      moved (Read (λ all. SpecifyOneType all × AreSpecifiers all scope) specifiers_height spell_specifiers most
      tokens) h (record { spells = are.spells; fits = (inl counted, are.fits.0); within = are.within })
  with_type_sound scope tokens mid rest list Other all is are h =
      let counted =
      subst (λ after. Counted Nothing after (basic_words (specifiers list)) (other_types (specifiers list))) is
      are.fits.1 in
      moved (Read (λ all. SpecifyOneType all × AreSpecifiers all scope) specifiers_height spell_specifiers most
      tokens) h (record { spells = are.spells; fits = (inr counted, are.fits.0); within = are.within })

  specifiers_by_sound : (scope : Scope)
      → Sound (λ all. SpecifyOneType all × AreSpecifiers all scope) specifiers_height spell_specifiers most
      (specifiers_by step scope)
  unfolding specifiers_by
  specifiers_by_sound scope tokens rest all h =
      let start : Specified = record { scope = scope; type_seen = Nothing } in
      let x = bind_found (many goes_specifier step specified_with start tokens)
      (λ all. with_type (types_seen Nothing all) all) all rest h in
      let y = many_found goes_specifier step specified_with AreMore no_specifier one_specifier start tokens x.mid
      x.value x.one in
      with_type_sound scope tokens x.mid rest x.value (types_seen Nothing x.value) all refl y x.two

pub low_specifiers_sound : (scope : Scope)
    → Sound (λ all. SpecifyOneType all × AreSpecifiers all scope) specifiers_height spell_specifiers 0
    (specifiers_by low_specifier scope)
low_specifiers_sound = specifiers_by_sound 0 low_specifier low_step

pub specifiers_sound : (k : ℕ) (low : Parsers) → AllSound k low → (scope : Scope)
    → Sound (λ all. SpecifyOneType all × AreSpecifiers all scope) specifiers_height spell_specifiers (suc k)
    (specifiers_by (specifier_at k low) scope)
specifiers_sound k low sound = specifiers_by_sound (suc k) (specifier_at k low) (step_sound k low sound)

pub parsers_sound : (k : ℕ) → AllSound k (parsers k)
parsers_sound zero = record {
  expr = λ scope level low tokens rest e h. absurd (cc (h));
  paren_expr = λ scope open_token tokens rest e is h. absurd (cc (h));
  type_name = λ scope tokens rest type h. absurd (cc (h));
  specifiers = low_specifiers_sound;
  declarator = no_declarator_sound;
  parameter = λ scope tokens rest one h. absurd (cc (h));
  member = λ scope tokens rest one h. absurd (cc (h));
}
parsers_sound (suc k) =
    let low = parsers k in
    let sound = parsers_sound k in
    record {
      expr = expr_sound k low sound;
      paren_expr = paren_expr_sound k low sound;
      type_name = type_name_sound k low sound;
      specifiers = specifiers_sound k low sound;
      declarator = declarator_sound k low sound;
      parameter = parameter_sound k low sound;
      member = member_sound k low sound;
    }
