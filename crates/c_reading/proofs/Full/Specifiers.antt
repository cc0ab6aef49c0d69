-- Specifiers are read again: each goes on by what has come before it, and the list ends since a type has come.
use Rattle.std.proofs.Common.{◌≡◌, ◌⊎◌, inl, inr, ◌≤◌, ◌<◌, ℕ, suc, Bool, true, false, ◌&&◌, List, [], ◌∷◌, ◌++◌}
use Rattle.std.proofs.Common.{length, Option, Some, None, refl, ◌∙◌, ap, arith}
use Rattle.critical_table.specs.declared.pos.Pos.{Pos}
use Rattle.c_lexer.specs.declared.punct.Punct.TheVariants as p
use Rattle.c_lexer.specs.declared.token.Token.{Token}
use Rattle.c_lexer.specs.declared.token.Body.{Body}
use Rattle.c_lexer.specs.declared.token.Body.TheVariants as lexeme
use Rattle.c_lexer.specs.declared.word.Word.{Word}
use Rattle.c_lexer.specs.declared.word.Word.TheVariants as w
use Rattle.c_syntax.specs.declared.specifier.BasicWord.{BasicWord}
use Rattle.c_syntax.specs.declared.specifier.BasicWord.TheVariants as basic
use Rattle.c_syntax.specs.declared.specifier.CompoundWord.{CompoundWord}
use Rattle.c_syntax.specs.declared.specifier.CompoundWord.TheVariants as compound
use Rattle.c_syntax.specs.declared.specifier.Qualifier.{Qualifier}
use Rattle.c_syntax.specs.declared.specifier.Qualifier.TheVariants as qualifier
use Rattle.c_syntax.specs.declared.specifier.Storage.{Storage}
use Rattle.c_syntax.specs.declared.specifier.Storage.TheVariants as storage
use Rattle.c_syntax.specs.Height.{specifier_height, specifiers_height}
use Rattle.c_syntax.specs.Operators.{storage_word, qualifier_word, basic_word, compound_word}
use Rattle.c_reading.specs.Parser.{Found, Parser, next_body, place, tail}
use Rattle.c_reading.specs.declared.type_seen.TypeSeen.{TypeSeen}
use Rattle.c_reading.specs.declared.type_seen.TypeSeen.TheVariants.{Nothing, Basic, Other}
use Rattle.c_reading.specs.ReadSpecifier.{Specified, goes_specifier, type_seen_with, specified_with, types_seen}
use Rattle.c_reading.specs.ReadSpecifier.{word_at, low_specifier_by, low_specifier, with_type, specifiers_by}
use Rattle.c_reading.specs.ReadToken.{is_mark}
use Rattle.c_syntax.specs.Scopes.{Scope, is_type, specifier_adds}
use Rattle.c_syntax.specs.Spelling.{spell_specifier, spell_specifiers}
use Rattle.c_syntax.specs.Tokens.{word_at as spelled_word}
use Rattle.c_syntax.specs.Tree as tree
use Rattle.c_syntax.specs.Tree.{Specifier, Specifiers}
use Rattle.c_syntax.specs.View.{specifiers}
use Rattle.c_syntax.specs.WellFormed.{basic_words, other_types, SpecifyOneType, AreSpecifiers, IsSpecifier}
use Rattle.c_reading.proofs.Full.Steps.{front, then_read, read_at, Each, many_again}
use Rattle.c_reading.proofs.Full.Ends.{second_false}
use Rattle.c_syntax.proofs.FirstLaws.{some_type}
use Rattle.c_reading.proofs.Full.Law.{ends_specifiers}
use Rattle.c_reading.proofs.Takes.{Takes, takes_parted}

abbrev listed : Specifiers → List Specifier
listed tree.NoSpecifier = []
listed (tree.MoreSpecifiers first rest) = first ∷ listed rest

specifiers_again : (all : Specifiers) → specifiers (listed all) ≡ all
specifiers_again tree.NoSpecifier = refl
specifiers_again (tree.MoreSpecifiers first rest) = ap (tree.MoreSpecifiers first) (specifiers_again rest)

-- ---- what may still come

-- so many basic words, and so many other types
abbrev Leaves : TypeSeen → ℕ → ℕ → Type 0
Leaves Nothing words others = ((1 ≤ words) × (others ≡ 0)) ⊎ ((words ≡ 0) × (others ≡ 1))
Leaves Basic words others = others ≡ 0
Leaves Other words others = (words ≡ 0) × (others ≡ 0)

abbrev Allowed : TypeSeen → Specifiers → Type 0
Allowed type_seen all = Leaves type_seen (basic_words all) (other_types all)

word_next : (type_seen : TypeSeen) (words others : ℕ) → Leaves type_seen (suc words) others → Leaves Basic words others
word_next Nothing words others (inl a) = a.1
word_next Nothing words others (inr a) = absurd (omega (arith, a.0))
word_next Basic words others a = a
word_next Other words others a = absurd (omega (arith, a.0))

other_next : (type_seen : TypeSeen) (words others : ℕ) → Leaves type_seen words (suc others) → (type_seen ≡ Nothing)
    × Leaves Other words others
other_next Nothing words others (inl a) = absurd (omega (arith, a.1))
other_next Nothing words others (inr a) = (refl, (a.0, omega (arith, a.1)))
other_next Basic words others a = absurd (omega arith)
other_next Other words others a = absurd (omega (arith, a.1))

allowed_next : (type_seen : TypeSeen) (first : Specifier) (rest : Specifiers)
    → Allowed type_seen (tree.MoreSpecifiers first rest) → Allowed (type_seen_with type_seen first) rest
allowed_next type_seen (tree.StorageClass pos word) rest a = a
allowed_next type_seen (tree.TypeQualifier pos word) rest a = a
allowed_next type_seen (tree.Inline pos) rest a = a
allowed_next type_seen (tree.BasicType pos word) rest a = word_next type_seen _ _ a
allowed_next type_seen (tree.CompoundTag pos word tag) rest a = (other_next type_seen _ _ a).1
allowed_next type_seen (tree.Compound pos word tag members) rest a = (other_next type_seen _ _ a).1
allowed_next type_seen (tree.EnumTag pos tag) rest a = (other_next type_seen _ _ a).1
allowed_next type_seen (tree.Enum pos tag enumerators comma) rest a = (other_next type_seen _ _ a).1
allowed_next type_seen (tree.TypedefName pos x) rest a = (other_next type_seen _ _ a).1

-- ---- the token that a specifier begins with

abbrev first_body : Specifier → Body
first_body (tree.StorageClass pos word) = lexeme.Word (storage_word word)
first_body (tree.TypeQualifier pos word) = lexeme.Word (qualifier_word word)
first_body (tree.Inline pos) = lexeme.Word w.Inline
first_body (tree.BasicType pos word) = lexeme.Word (basic_word word)
first_body (tree.CompoundTag pos word tag) = lexeme.Word (compound_word word)
first_body (tree.Compound pos word tag members) = lexeme.Word (compound_word word)
first_body (tree.EnumTag pos tag) = lexeme.Word w.Enum
first_body (tree.Enum pos tag enumerators comma) = lexeme.Word w.Enum
first_body (tree.TypedefName pos x) = lexeme.Name x

specifier_front : (one : Specifier) (tokens rest : List Token) → Takes tokens (spell_specifier one) rest
    → (next_body tokens ≡ Some (first_body one)) × (length rest < length tokens)
specifier_front (tree.StorageClass pos word) tokens rest all = let f =
    front tokens rest (spell_specifier (tree.StorageClass pos word)) all in (f.0, f.3)
specifier_front (tree.TypeQualifier pos word) tokens rest all = let f =
    front tokens rest (spell_specifier (tree.TypeQualifier pos word)) all in (f.0, f.3)
specifier_front (tree.Inline pos) tokens rest all = let f =
    front tokens rest (spell_specifier (tree.Inline pos)) all in (f.0, f.3)
specifier_front (tree.BasicType pos word) tokens rest all = let f =
    front tokens rest (spell_specifier (tree.BasicType pos word)) all in (f.0, f.3)
specifier_front (tree.CompoundTag pos word tag) tokens rest all = let f =
    front tokens rest (spell_specifier (tree.CompoundTag pos word tag)) all in (f.0, f.3)
specifier_front (tree.Compound pos word tag members) tokens rest all = let f =
    front tokens rest (spell_specifier (tree.Compound pos word tag members)) all in (f.0, f.3)
specifier_front (tree.EnumTag pos tag) tokens rest all = let f =
    front tokens rest (spell_specifier (tree.EnumTag pos tag)) all in (f.0, f.3)
specifier_front (tree.Enum pos tag enumerators comma) tokens rest all = let f =
    front tokens rest (spell_specifier (tree.Enum pos tag enumerators comma)) all in (f.0, f.3)
specifier_front (tree.TypedefName pos x) tokens rest all = let f =
    front tokens rest (spell_specifier (tree.TypedefName pos x)) all in (f.0, f.3)

no_brace_first : (one : Specifier) → is_mark p.OpenBrace (Some (first_body one)) ≡ false
no_brace_first (tree.StorageClass pos word) = refl
no_brace_first (tree.TypeQualifier pos word) = refl
no_brace_first (tree.Inline pos) = refl
no_brace_first (tree.BasicType pos word) = refl
no_brace_first (tree.CompoundTag pos word tag) = refl
no_brace_first (tree.Compound pos word tag members) = refl
no_brace_first (tree.EnumTag pos tag) = refl
no_brace_first (tree.Enum pos tag enumerators comma) = refl
no_brace_first (tree.TypedefName pos x) = refl

no_brace_end : (o : Option Body) → ends_specifiers o ≡ true → is_mark p.OpenBrace o ≡ false
no_brace_end (Some (lexeme.Mark p.OpenBrace)) ends = absurd (cc)
no_brace_end o ends = refl

-- ---- whether a token is one more specifier

abbrev at : Scope → TypeSeen → Specified
at scope type_seen = record { scope = scope; type_seen = type_seen }

goes_basic : (scope : Scope) (type_seen : TypeSeen) (words others : ℕ) (word : BasicWord)
    → Leaves type_seen (suc words) others
    → goes_specifier (at scope type_seen) (Some (lexeme.Word (basic_word word))) ≡ true
goes_basic scope Other words others word a = absurd (omega (arith, a.0))
goes_basic scope type_seen words others basic.Void a = refl
goes_basic scope type_seen words others basic.Char a = refl
goes_basic scope type_seen words others basic.Short a = refl
goes_basic scope type_seen words others basic.Int a = refl
goes_basic scope type_seen words others basic.Long a = refl
goes_basic scope type_seen words others basic.Signed a = refl
goes_basic scope type_seen words others basic.Unsigned a = refl
goes_basic scope type_seen words others basic.Bool a = refl

goes_compound : (scope : Scope) (type_seen : TypeSeen) (word : CompoundWord) → type_seen ≡ Nothing
    → goes_specifier (at scope type_seen) (Some (lexeme.Word (compound_word word))) ≡ true
goes_compound scope Nothing compound.Struct e = refl
goes_compound scope Nothing compound.Union e = refl
goes_compound scope Basic word e = absurd (cc)
goes_compound scope Other word e = absurd (cc)

goes_enum : (scope : Scope) (type_seen : TypeSeen) → type_seen ≡ Nothing
    → goes_specifier (at scope type_seen) (Some (lexeme.Word w.Enum)) ≡ true
goes_enum scope Nothing e = refl
goes_enum scope Basic e = absurd (cc)
goes_enum scope Other e = absurd (cc)

goes_name : (scope : Scope) (type_seen : TypeSeen) (x : List ℕ) → is_type scope x ≡ true → type_seen ≡ Nothing
    → goes_specifier (at scope type_seen) (Some (lexeme.Name x)) ≡ true
goes_name scope Nothing x is e = ap (λ b. b && true) is
goes_name scope Basic x is e = absurd (cc)
goes_name scope Other x is e = absurd (cc)

goes_again : (one : Specifier) (rest : Specifiers) (scope : Scope) (type_seen : TypeSeen) → IsSpecifier one scope
    → Allowed type_seen (tree.MoreSpecifiers one rest) → goes_specifier (at scope type_seen) (Some (first_body one))
    ≡ true
goes_again (tree.StorageClass pos storage.Typedef) rest scope type_seen is a = refl
goes_again (tree.StorageClass pos storage.Extern) rest scope type_seen is a = refl
goes_again (tree.StorageClass pos storage.Static) rest scope type_seen is a = refl
goes_again (tree.StorageClass pos storage.Auto) rest scope type_seen is a = refl
goes_again (tree.StorageClass pos storage.Register) rest scope type_seen is a = refl
goes_again (tree.TypeQualifier pos qualifier.Const) rest scope type_seen is a = refl
goes_again (tree.TypeQualifier pos qualifier.Restrict) rest scope type_seen is a = refl
goes_again (tree.TypeQualifier pos qualifier.Volatile) rest scope type_seen is a = refl
goes_again (tree.Inline pos) rest scope type_seen is a = refl
goes_again (tree.BasicType pos word) rest scope type_seen is a = goes_basic scope type_seen _ _ word a
goes_again (tree.CompoundTag pos word tag) rest scope type_seen is a =
    goes_compound scope type_seen word (other_next type_seen _ _ a).0
goes_again (tree.Compound pos word tag members) rest scope type_seen is a =
    goes_compound scope type_seen word (other_next type_seen _ _ a).0
goes_again (tree.EnumTag pos tag) rest scope type_seen is a = goes_enum scope type_seen (other_next type_seen _ _ a).0
goes_again (tree.Enum pos tag enumerators comma) rest scope type_seen is a =
    goes_enum scope type_seen (other_next type_seen _ _ a).0
goes_again (tree.TypedefName pos x) rest scope type_seen is a =
    goes_name scope type_seen x is (other_next type_seen _ _ a).0

goes_over : (scope : Scope) (type_seen : TypeSeen) (o : Option Body) → Allowed type_seen tree.NoSpecifier
    → ends_specifiers o ≡ true → goes_specifier (at scope type_seen) o ≡ false
goes_over scope Nothing o a ends = absurd (some_type a)
goes_over scope Basic (Some (lexeme.Name x)) a ends = second_false (is_type scope x) false refl
goes_over scope Other (Some (lexeme.Name x)) a ends = second_false (is_type scope x) false refl
goes_over scope type_seen (Some (lexeme.Mark mark)) a ends = refl
goes_over scope type_seen None a ends = refl
goes_over scope type_seen o a ends = absurd (cc)

-- ---- all of them

-- what a parser of one has to read
abbrev pub StepFull : ℕ → (Specified → Parser Specifier) → Type 0
StepFull most step = (s : Specified) (one : Specifier) (tokens rest : List Token) → IsSpecifier one s.scope
    → specifier_height one ≤ most → is_mark p.OpenBrace (next_body rest) ≡ false
    → Takes tokens (spell_specifier one) rest → step s tokens ≡ Found one rest

no_brace : (all : Specifiers) (tokens rest : List Token) → ends_specifiers (next_body rest) ≡ true
    → Takes tokens (spell_specifiers all) rest → is_mark p.OpenBrace (next_body tokens) ≡ false
no_brace tree.NoSpecifier tokens rest ends all = ap (λ ts. is_mark p.OpenBrace (next_body ts)) all
    ∙ no_brace_end (next_body rest) ends
no_brace (tree.MoreSpecifiers first more) tokens rest ends all =
    let both = takes_parted tokens rest (spell_specifier first) (spell_specifiers more) all in
    ap (is_mark p.OpenBrace) (specifier_front first tokens both.mid both.one).0 ∙ no_brace_first first

module _ (most : ℕ) (step : Specified → Parser Specifier) (full : StepFull most step) where
  each_specifier : (all : Specifiers) (scope : Scope) (type_seen : TypeSeen) (tokens rest : List Token)
      → AreSpecifiers all scope → Allowed type_seen all → specifiers_height all ≤ most
      → ends_specifiers (next_body rest) ≡ true → Takes tokens (spell_specifiers all) rest
      → Each goes_specifier step specified_with (listed all) (at scope type_seen) tokens rest
  each_specifier tree.NoSpecifier scope type_seen tokens rest are a high ends all =
      (all, goes_over scope type_seen (next_body rest) a ends)
  each_specifier (tree.MoreSpecifiers first more) scope type_seen tokens rest are a high ends all =
      let both = takes_parted tokens rest (spell_specifier first) (spell_specifiers more) all in
      let f = specifier_front first tokens both.mid both.one in (
        both.mid,
        ap (goes_specifier (at scope type_seen)) f.0 ∙ goes_again first more scope type_seen are.0 a,
        full (at scope type_seen) first tokens both.mid are.0 (omega arith)
            (no_brace more both.mid rest ends both.two) both.one,
        f.1,
        each_specifier more (scope ++ specifier_adds first) (type_seen_with type_seen first) both.mid rest are.1
            (allowed_next type_seen first more a) (omega arith) ends both.two,
      )

  type_seen_end : (type_seen : TypeSeen) (all : Specifiers) → Allowed type_seen all
      → types_seen type_seen (listed all) ≡ Nothing → ⊥
  type_seen_end Nothing tree.NoSpecifier a e = some_type a
  type_seen_end Basic tree.NoSpecifier a e = cc
  type_seen_end Other tree.NoSpecifier a e = cc
  type_seen_end type_seen (tree.MoreSpecifiers first more) a e =
      type_seen_end (type_seen_with type_seen first) more (allowed_next type_seen first more a) e

  with_again : (type_seen : TypeSeen) (all : List Specifier) (rest : List Token) → (type_seen ≡ Nothing → ⊥)
      → with_type type_seen all rest ≡ Found (specifiers all) rest
  with_again Nothing all rest some = absurd (some refl)
  with_again Basic all rest some = refl
  with_again Other all rest some = refl

  pub all_full : (scope : Scope) (all : Specifiers) (tokens rest : List Token) → SpecifyOneType all
      → AreSpecifiers all scope → specifiers_height all ≤ most → ends_specifiers (next_body rest) ≡ true
      → Takes tokens (spell_specifiers all) rest
      → specifiers_by step scope tokens ≡ Found all rest
  unfolding specifiers_by
  all_full scope all tokens rest one are high ends takes =
      then_read _ _ (listed all) rest _
      (many_again _ _ _ (listed all) (at scope Nothing) tokens rest
      (each_specifier all scope Nothing tokens rest are one high ends takes))
      (with_again (types_seen Nothing (listed all)) (listed all) rest (type_seen_end Nothing all one)
      ∙ ap (λ all. Found all rest) (specifiers_again all))

-- ---- specifiers of one word

abbrev pub is_plain : Word → Bool
is_plain w.Struct = false
is_plain w.Union = false
is_plain w.Enum = false
is_plain _ = true

-- a parser that reads these words so
abbrev pub ReadsWords : (Pos → Option Body → Parser Specifier) → Type 0
ReadsWords by = (pos : Pos) (word : Word) (tokens : List Token) → is_plain word ≡ true
    → by pos (Some (lexeme.Word word)) tokens ≡ word_at pos (Some (lexeme.Word word)) tokens

module _ (by : Pos → Option Body → Parser Specifier) (words : ReadsWords by) where
  one_word : (pos : Pos) (word : Word) (one : Specifier) (tokens rest : List Token) → is_plain word ≡ true
      → word_at pos (Some (lexeme.Word word)) tokens ≡ Found one (tail tokens)
      → Takes tokens (spelled_word pos word ∷ []) rest
      → by (place tokens) (next_body tokens) tokens ≡ Found one rest
  one_word pos word one tokens rest plain reads all =
      let f = front tokens rest (spelled_word pos word ∷ []) all in
      read_at by tokens pos _ _ f.1 f.0 (words pos word tokens plain ∙ reads ∙ ap (λ ts. Found one ts) f.2)

  pub storage_again : (pos : Pos) (word : Storage) (tokens rest : List Token)
      → Takes tokens (spelled_word pos (storage_word word) ∷ []) rest → by (place tokens) (next_body tokens) tokens
      ≡ Found (tree.StorageClass pos word) rest
  storage_again pos storage.Typedef tokens rest all =
      one_word pos w.Typedef (tree.StorageClass pos storage.Typedef) tokens rest refl refl all
  storage_again pos storage.Extern tokens rest all =
      one_word pos w.Extern (tree.StorageClass pos storage.Extern) tokens rest refl refl all
  storage_again pos storage.Static tokens rest all =
      one_word pos w.Static (tree.StorageClass pos storage.Static) tokens rest refl refl all
  storage_again pos storage.Auto tokens rest all =
      one_word pos w.Auto (tree.StorageClass pos storage.Auto) tokens rest refl refl all
  storage_again pos storage.Register tokens rest all =
      one_word pos w.Register (tree.StorageClass pos storage.Register) tokens rest refl refl all

  pub qualifier_again : (pos : Pos) (word : Qualifier) (tokens rest : List Token)
      → Takes tokens (spelled_word pos (qualifier_word word) ∷ []) rest
      → by (place tokens) (next_body tokens) tokens ≡ Found (tree.TypeQualifier pos word) rest
  qualifier_again pos qualifier.Const tokens rest all =
      one_word pos w.Const (tree.TypeQualifier pos qualifier.Const) tokens rest refl refl all
  qualifier_again pos qualifier.Restrict tokens rest all =
      one_word pos w.Restrict (tree.TypeQualifier pos qualifier.Restrict) tokens rest refl refl all
  qualifier_again pos qualifier.Volatile tokens rest all =
      one_word pos w.Volatile (tree.TypeQualifier pos qualifier.Volatile) tokens rest refl refl all

  pub inline_again : (pos : Pos) (tokens rest : List Token) → Takes tokens (spelled_word pos w.Inline ∷ []) rest
      → by (place tokens) (next_body tokens) tokens ≡ Found (tree.Inline pos) rest
  inline_again pos tokens rest all = one_word pos w.Inline (tree.Inline pos) tokens rest refl refl all

  pub basic_again : (pos : Pos) (word : BasicWord) (tokens rest : List Token)
      → Takes tokens (spelled_word pos (basic_word word) ∷ []) rest → by (place tokens) (next_body tokens) tokens
      ≡ Found (tree.BasicType pos word) rest
  basic_again pos basic.Void tokens rest all =
      one_word pos w.Void (tree.BasicType pos basic.Void) tokens rest refl refl all
  basic_again pos basic.Char tokens rest all =
      one_word pos w.Char (tree.BasicType pos basic.Char) tokens rest refl refl all
  basic_again pos basic.Short tokens rest all =
      one_word pos w.Short (tree.BasicType pos basic.Short) tokens rest refl refl all
  basic_again pos basic.Int tokens rest all =
      one_word pos w.Int (tree.BasicType pos basic.Int) tokens rest refl refl all
  basic_again pos basic.Long tokens rest all =
      one_word pos w.Long (tree.BasicType pos basic.Long) tokens rest refl refl all
  basic_again pos basic.Signed tokens rest all =
      one_word pos w.Signed (tree.BasicType pos basic.Signed) tokens rest refl refl all
  basic_again pos basic.Unsigned tokens rest all =
      one_word pos w.Unsigned (tree.BasicType pos basic.Unsigned) tokens rest refl refl all
  basic_again pos basic.Bool tokens rest all =
      one_word pos w.Bool (tree.BasicType pos basic.Bool) tokens rest refl refl all

low_words : ReadsWords low_specifier_by
low_words pos w.Struct tokens plain = absurd (cc)
low_words pos w.Union tokens plain = absurd (cc)
low_words pos w.Enum tokens plain = absurd (cc)
low_words pos word tokens plain = refl

pub low_full : StepFull 0 low_specifier
unfolding low_specifier
low_full s (tree.StorageClass pos word) tokens rest is high no_brace all =
    storage_again low_specifier_by low_words pos word tokens rest all
low_full s (tree.TypeQualifier pos word) tokens rest is high no_brace all =
    qualifier_again low_specifier_by low_words pos word tokens rest all
low_full s (tree.Inline pos) tokens rest is high no_brace all =
    inline_again low_specifier_by low_words pos tokens rest all
low_full s (tree.BasicType pos word) tokens rest is high no_brace all =
    basic_again low_specifier_by low_words pos word tokens rest all
low_full s (tree.CompoundTag pos word tag) tokens rest is high no_brace all = absurd (omega arith)
low_full s (tree.Compound pos word tag members) tokens rest is high no_brace all = absurd (omega arith)
low_full s (tree.EnumTag pos tag) tokens rest is high no_brace all = absurd (omega arith)
low_full s (tree.Enum pos tag enumerators comma) tokens rest is high no_brace all = absurd (omega arith)
low_full s (tree.TypedefName pos x) tokens rest is high no_brace all =
    let f = front tokens rest (spell_specifier (tree.TypedefName pos x)) all in
    read_at low_specifier_by tokens pos _ _ f.1 f.0 (ap (λ ts. Found (tree.TypedefName pos x) ts) f.2)
