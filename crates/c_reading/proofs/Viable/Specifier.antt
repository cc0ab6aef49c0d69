-- Where the reading of specifiers stops, specifiers begin with what was read.
use Rattle.std.proofs.Common.{◌≡◌, ◌⊎◌, inl, inr, ℕ, suc, ◌≤◌, List, [], ◌++◌, Bool, true, false, Option, Some, None}
use Rattle.std.proofs.Common.{refl, sym, subst, arith}
use Rattle.critical_table.specs.declared.pos.Pos.{Pos}
use Rattle.c_lexer.specs.declared.token.Token.{Token}
use Rattle.c_lexer.specs.declared.token.Body.{Body}
use Rattle.c_lexer.specs.declared.token.Body.TheVariants as lexeme
use Rattle.c_lexer.specs.declared.word.Word.TheVariants as w
use Rattle.c_syntax.specs.declared.specifier.BasicWord.{BasicWord}
use Rattle.c_syntax.specs.declared.specifier.CompoundWord.TheVariants as words
use Rattle.c_syntax.specs.declared.specifier.Qualifier.{Qualifier}
use Rattle.c_syntax.specs.declared.specifier.Storage.{Storage}
use Rattle.c_syntax.specs.Begin.{Begins, BeginsSpecifiers}
use Rattle.c_syntax.specs.Height.{specifier_height, specifiers_height}
use Rattle.c_reading.specs.Parser.{Why, Unfit, TooDeep, Outcome, Parser, Stopped, Found, next_body, place, many}
use Rattle.c_reading.specs.ReadExpr.{Parsers}
use Rattle.c_reading.specs.declared.type_seen.TypeSeen.{TypeSeen}
use Rattle.c_reading.specs.declared.type_seen.TypeSeen.TheVariants.{Nothing, Basic, Other}
use Rattle.c_reading.specs.ReadSpecifier.{Specified, is_nothing, is_other, goes_specifier, type_seen_with}
use Rattle.c_reading.specs.ReadSpecifier.{specified_with, types_seen, word_by, word_at, specifier_by}
use Rattle.c_reading.specs.ReadSpecifier.{low_specifier_by, low_specifier, specifier_at, with_type, specifiers_by}
use Rattle.c_reading.specs.ReadToken.{is_word, begins_type, storage_of, qualifier_of, basic_of}
use Rattle.c_syntax.specs.Scopes.{Scope, specifier_adds}
use Rattle.c_syntax.specs.Spelling.{spell_specifier, spell_specifiers}
use Rattle.c_syntax.specs.Tree as tree
use Rattle.c_syntax.specs.Tree.{Specifier, Specifiers}
use Rattle.c_syntax.specs.WellFormed.{basic_words, other_types, IsSpecifier, AreSpecifiers}
use Rattle.c_reading.proofs.Viable.Completions.{too_deep_here}
use Rattle.c_reading.proofs.Viable.Contexts.{Context, Completed, stopped, bind_stopped, many_stopped, refused, into}
use Rattle.c_reading.proofs.Sound.Steps.{nothing_spelt, many_found}
use Rattle.c_reading.proofs.Sound.Law.{spelt, AllSound}
use Rattle.c_reading.proofs.Sound.Compound.{May}
use Rattle.c_reading.proofs.Sound.Specifier.{SoundStep, low_step, step_sound}
use Rattle.c_reading.proofs.Viable.Started.{least_specifiers, one_type, TypeBegun, type_begun}
use Rattle.c_reading.proofs.Viable.Law.{Holds, AllViable}
use Rattle.c_reading.proofs.Viable.Compound.{compound_viable, enumeration_viable}
use Rattle.c_reading.proofs.Viable.Lists.{nothing_behind}

-- how many types stand in specifiers that complete what has come
abbrev Completes : TypeSeen → ℕ → ℕ → Type 0
Completes Nothing basics others = ((1 ≤ basics) × (others ≡ 0)) ⊎ ((basics ≡ 0) × (others ≡ 1))
Completes Basic basics others = others ≡ 0
Completes Other basics others = (basics ≡ 0) × (others ≡ 0)

completes_basic : (type_seen : TypeSeen) (basics others : ℕ) → is_other type_seen ≡ false
    → Completes Basic basics others → Completes type_seen (suc basics) others
completes_basic Nothing basics others may rest = inl (omega arith, rest)
completes_basic Basic basics others may rest = rest
completes_basic Other basics others may rest = absurd (cc (may))

completes_other : (type_seen : TypeSeen) (basics others : ℕ) → is_nothing type_seen ≡ true
    → Completes Other basics others → Completes type_seen basics (suc others)
completes_other Nothing basics others may rest = inr (rest.0, omega (arith, rest.1))
completes_other Basic basics others may rest = absurd (cc (may))
completes_other Other basics others may rest = absurd (cc (may))

abbrev Complete : TypeSeen → Specifiers → Type 0
Complete type_seen all = Completes type_seen (basic_words all) (other_types all)

complete_more : (type_seen : TypeSeen) (one : Specifier) (all : Specifiers) → May type_seen one
    → Complete (type_seen_with type_seen one) all → Complete type_seen (tree.MoreSpecifiers one all)
complete_more type_seen (tree.StorageClass pos word) all may rest = rest
complete_more type_seen (tree.TypeQualifier pos word) all may rest = rest
complete_more type_seen (tree.Inline pos) all may rest = rest
complete_more type_seen (tree.BasicType pos word) all may rest = completes_basic type_seen _ _ may rest
complete_more type_seen (tree.CompoundTag pos word tag) all may rest = completes_other type_seen _ _ may rest
complete_more type_seen (tree.Compound pos word tag members) all may rest = completes_other type_seen _ _ may rest
complete_more type_seen (tree.EnumTag pos tag) all may rest = completes_other type_seen _ _ may rest
complete_more type_seen (tree.Enum pos tag enumerators comma) all may rest = completes_other type_seen _ _ may rest
complete_more type_seen (tree.TypedefName pos x) all may rest = completes_other type_seen _ _ may rest

-- specifiers that complete what has come begin so
abbrev BeginsMore : Scope → TypeSeen → ℕ → List Token → Type 0
BeginsMore scope type_seen =
    Begins (λ all. Complete type_seen all × AreSpecifiers all scope) specifiers_height spell_specifiers

finish : (scope : Scope) (type_seen : TypeSeen) (most : ℕ)
    → Completed (λ all. Complete type_seen all × AreSpecifiers all scope) specifiers_height spell_specifiers most []
finish scope Nothing most = record {
  node = least_specifiers;
  more = spell_specifiers least_specifiers;
  fits =
      (one_type, (tt, tt));
  within = omega arith;
  parts = refl;
}
finish scope Basic most = record {
  node = tree.NoSpecifier;
  more = [];
  fits = (refl, tt);
  within =
      omega arith;
  parts = refl;
}
finish scope Other most = record {
  node = tree.NoSpecifier;
  more = [];
  fits = ((refl, refl), tt);
  within =
      omega arith;
  parts = refl;
}

-- where nothing has come, all specifiers do
at_nothing : (scope : Scope) (type_seen : TypeSeen) (most : ℕ) (tokens rest : List Token) (why : Why)
    → is_nothing type_seen ≡ true → Holds (BeginsSpecifiers scope) most tokens why rest
    → Holds (BeginsMore scope type_seen) most tokens why rest
at_nothing scope Nothing most tokens rest why nothing x = x
at_nothing scope Basic most tokens rest why nothing x = absurd (cc (nothing))
at_nothing scope Other most tokens rest why nothing x = absurd (cc (nothing))

-- a specifier of one word stops for its token alone
word_stopped : (P : Why → List Token → Type 0) (pos : Pos) (st : Option Storage) (q : Option Qualifier)
    (b : Option BasicWord) (inline : Bool) (tokens rest : List Token) (why : Why)
    → word_by pos st q b inline tokens ≡ Stopped why rest
    → P Unfit tokens → P why rest
word_stopped P pos (Some word) q b inline tokens rest why h unfit = absurd (cc (h))
word_stopped P pos None (Some word) b inline tokens rest why h unfit = absurd (cc (h))
word_stopped P pos None None (Some word) inline tokens rest why h unfit = absurd (cc (h))
word_stopped P pos None None None true tokens rest why h unfit = absurd (cc (h))
word_stopped P pos None None None false tokens rest why h unfit = stopped P h unfit

abbrev ViableStep : ℕ → (Specified → Parser Specifier) → Type 0
ViableStep most step = (s : Specified) (tokens rest : List Token) (why : Why)
    → goes_specifier s (next_body tokens) ≡ true → step s tokens ≡ Stopped why rest
    → Holds (BeginsMore s.scope s.type_seen) most tokens why rest

module _ (s : Specified) (most : ℕ) (tokens rest : List Token) (why : Why) where
  word_viable : (o : Option Body) → word_at (place tokens) o tokens ≡ Stopped why rest
      → Holds (BeginsMore s.scope s.type_seen) most tokens why rest
  word_viable o h =
      word_stopped (Holds (BeginsMore s.scope s.type_seen) most tokens) (place tokens) (storage_of o)
      (qualifier_of o) (basic_of o) (is_word w.Inline o) tokens rest why h
      (refused (nothing_spelt tokens) (finish s.scope s.type_seen most))

  -- no height is left
  word_deep : (o : Option Body) → is_nothing s.type_seen ≡ true → next_body tokens ≡ o
      → begins_type s.scope o ≡ true → ◌≡◌ {A = Outcome Specifier} (Stopped TooDeep tokens) (Stopped why rest)
      → Holds (BeginsMore s.scope s.type_seen) most tokens why rest
  word_deep o nothing is begins h =
      stopped (Holds (BeginsMore s.scope s.type_seen) most tokens) h
      (at_nothing s.scope s.type_seen most tokens tokens TooDeep nothing
      (too_deep_here (finish s.scope Nothing most)
      (subst (TypeBegun s.scope (place tokens)) (sym is) (type_begun s.scope (place tokens) o begins))))

low_by_viable : (s : Specified) (o : Option Body) (tokens rest : List Token) (why : Why) → next_body tokens ≡ o
    → goes_specifier s o ≡ true → low_specifier_by (place tokens) o tokens ≡ Stopped why rest
    → Holds (BeginsMore s.scope s.type_seen) 0 tokens why rest
low_by_viable s (Some (lexeme.Name x)) tokens rest why is goes h = absurd (cc (h))
low_by_viable s (Some (lexeme.Word w.Struct)) tokens rest why is goes h =
    word_deep s 0 tokens rest why (Some (lexeme.Word w.Struct)) goes is refl h
low_by_viable s (Some (lexeme.Word w.Union)) tokens rest why is goes h =
    word_deep s 0 tokens rest why (Some (lexeme.Word w.Union)) goes is refl h
low_by_viable s (Some (lexeme.Word w.Enum)) tokens rest why is goes h =
    word_deep s 0 tokens rest why (Some (lexeme.Word w.Enum)) goes is refl h
low_by_viable s o tokens rest why is goes h = word_viable s 0 tokens rest why o h

low_viable : ViableStep 0 low_specifier
unfolding low_specifier
low_viable s tokens rest why goes h = low_by_viable s (next_body tokens) tokens rest why refl goes h

module _ (k : ℕ) (low : Parsers) (sound : AllSound k low) (viable : AllViable k low) where
  specifier_by_viable : (s : Specified) (o : Option Body) (tokens rest : List Token) (why : Why)
      → next_body tokens ≡ o → goes_specifier s o ≡ true → specifier_by k low s.scope (place tokens) o tokens
      ≡ Stopped why rest
      → Holds (BeginsMore s.scope s.type_seen) (suc k) tokens why rest
  specifier_by_viable s (Some (lexeme.Name x)) tokens rest why is goes h = absurd (cc (h))
  specifier_by_viable s (Some (lexeme.Word w.Struct)) tokens rest why is goes h =
      at_nothing s.scope s.type_seen (suc k) tokens rest why goes
      (compound_viable k low sound viable s.scope words.Struct tokens rest why is h)
  specifier_by_viable s (Some (lexeme.Word w.Union)) tokens rest why is goes h =
      at_nothing s.scope s.type_seen (suc k) tokens rest why goes
      (compound_viable k low sound viable s.scope words.Union tokens rest why is h)
  specifier_by_viable s (Some (lexeme.Word w.Enum)) tokens rest why is goes h =
      at_nothing s.scope s.type_seen (suc k) tokens rest why goes
      (enumeration_viable k low sound viable s.scope tokens rest why is h)
  specifier_by_viable s o tokens rest why is goes h = word_viable s (suc k) tokens rest why o h

  step_viable : ViableStep (suc k) (specifier_at k low)
  unfolding specifier_at
  step_viable s tokens rest why goes h = specifier_by_viable s (next_body tokens) tokens rest why refl goes h

-- ---- all specifiers

module _ (most : ℕ) (step : Specified → Parser Specifier) (sound : SoundStep most step)
    (viable : ViableStep most step) where
  abbrev Ends : Specified → List Token → Why → List Token → Type 0
  Ends s tokens why rest = Holds (BeginsMore s.scope s.type_seen) most tokens why rest

  one_then : (s : Specified) (one : Specifier) → IsSpecifier one s.scope × May s.type_seen one
      → Context (λ all. Complete (type_seen_with s.type_seen one) all
      × AreSpecifiers all (s.scope ++ specifier_adds one)) specifiers_height spell_specifiers
      (λ all. Complete s.type_seen all × AreSpecifiers all s.scope) specifiers_height spell_specifiers (λ j. j)
      (specifier_height one) (spell_specifier one)
  one_then s one is = record {
    make = λ all. tree.MoreSpecifiers one all;
    behind = [];
    fits = λ all are. (complete_more s.type_seen one all is.1 are.0, (is.0, are.1));
    within = λ all j low le. omega arith;
    spells = λ all. nothing_behind (spell_specifier one) (spell_specifiers all);
  }

  behind_one : (s : Specified) (tokens mid rest : List Token) (one : Specifier) (why : Why)
      → goes_specifier s (next_body tokens) ≡ true → step s tokens ≡ Found one mid
      → Ends (specified_with s one) mid why rest → Ends s tokens why rest
  behind_one s tokens mid rest one why goes h then = let x = sound s tokens mid one goes h in
      into (one_then s one x.fits) x.within (spelt x) then

  with_type_viable : (scope : Scope) (tokens mid rest : List Token) (why : Why) (type_seen : TypeSeen)
      (list : List Specifier) → Holds (BeginsMore scope Nothing) most tokens Unfit mid
      → with_type type_seen list mid ≡ Stopped why rest
      → Holds (BeginsSpecifiers scope) most tokens why rest
  with_type_viable scope tokens mid rest why Nothing list x h = stopped (Holds (BeginsSpecifiers scope) most tokens) h x
  with_type_viable scope tokens mid rest why Basic list x h = absurd (cc (h))
  with_type_viable scope tokens mid rest why Other list x h = absurd (cc (h))

  specifiers_by_viable : (scope : Scope) (tokens rest : List Token) (why : Why)
      → specifiers_by step scope tokens ≡ Stopped why rest → Holds (BeginsSpecifiers scope) most tokens why rest
  unfolding specifiers_by
  specifiers_by_viable scope tokens rest why h =
      let start : Specified = record { scope = scope; type_seen = Nothing } in
      elim (bind_stopped (many goes_specifier step specified_with start tokens)
      (λ all. with_type (types_seen Nothing all) all) why rest h) [
        | inl x ↦ many_stopped goes_specifier step specified_with Ends viable behind_one start tokens rest why x
        | inr x ↦ with_type_viable scope tokens x.mid rest why (types_seen Nothing x.value) x.value
            (many_found goes_specifier step specified_with (λ s tokens all rest. Ends s tokens Unfit rest)
            (λ s tokens. refused (nothing_spelt tokens) (finish s.scope s.type_seen most))
            (λ s tokens mid rest one more goes h then. behind_one s tokens mid rest one Unfit goes h then) start
            tokens x.mid x.value x.one)
            x.two
      ]

pub low_specifiers_viable : (scope : Scope) (tokens rest : List Token) (why : Why)
    → specifiers_by low_specifier scope tokens ≡ Stopped why rest → Holds (BeginsSpecifiers scope) 0 tokens why rest
low_specifiers_viable = specifiers_by_viable 0 low_specifier low_step low_viable

pub specifiers_viable : (k : ℕ) (low : Parsers) → AllSound k low → AllViable k low
    → (scope : Scope) (tokens rest : List Token) (why : Why) → specifiers_by (specifier_at k low) scope tokens
    ≡ Stopped why rest
    → Holds (BeginsSpecifiers scope) (suc k) tokens why rest
specifiers_viable k low sound viable =
    specifiers_by_viable (suc k) (specifier_at k low) (step_sound k low sound) (step_viable k low sound viable)
