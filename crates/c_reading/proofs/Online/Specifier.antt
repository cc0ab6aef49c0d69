-- Specifiers are read online, and each has a token.
use Rattle.std.proofs.Common.{◌≡◌, ℕ, ◌≤◌, Bool, true, false, List, [], ◌∷◌, ◌++◌, length, Option, Some, None, refl}
use Rattle.critical_table.specs.declared.pos.Pos.{Pos}
use Rattle.c_lexer.specs.declared.punct.Punct.TheVariants as p
use Rattle.c_lexer.specs.declared.token.Body.{Body}
use Rattle.c_lexer.specs.declared.token.Body.TheVariants as lexeme
use Rattle.c_lexer.specs.declared.word.Word.TheVariants as w
use Rattle.c_syntax.specs.declared.specifier.BasicWord.{BasicWord}
use Rattle.c_syntax.specs.declared.specifier.CompoundWord.{CompoundWord}
use Rattle.c_syntax.specs.declared.specifier.CompoundWord.TheVariants as words
use Rattle.c_syntax.specs.declared.specifier.Qualifier.{Qualifier}
use Rattle.c_syntax.specs.declared.specifier.Storage.{Storage}
use Rattle.c_syntax.specs.declared.specifier.Tag.{Tag}
use Rattle.c_syntax.specs.Levels.{conditional}
use Rattle.c_reading.specs.Parser.{Parser, Unfit, TooDeep, Found, and_then, ◌>>=◌, pure, peek, choose, go, many}
use Rattle.c_reading.specs.ReadToken.{is_mark, is_word, name_of, storage_of, qualifier_of, basic_of}
use Rattle.c_reading.specs.ReadExpr.{Parsers}
use Rattle.c_reading.specs.declared.type_seen.TypeSeen.{TypeSeen}
use Rattle.c_reading.specs.declared.type_seen.TypeSeen.TheVariants.{Nothing, Basic, Other}
use Rattle.c_reading.specs.ReadSpecifier.{Specified, goes_specifier, specified_with, types_seen, word_by, word_at}
use Rattle.c_reading.specs.ReadSpecifier.{more_members, compound_body, compound_by, compound_tag, compound_on}
use Rattle.c_reading.specs.ReadSpecifier.{compound, value_by, enumerator_on, enumerator_by, enumerator}
use Rattle.c_reading.specs.ReadSpecifier.{listed_enumerators, enum_body, enum_by, enum_tag, enum_on, enumeration}
use Rattle.c_reading.specs.ReadSpecifier.{specifier_by, low_specifier_by, low_specifier, specifier_at, with_type}
use Rattle.c_reading.specs.ReadSpecifier.{specifiers_by}
use Rattle.c_syntax.specs.Scopes.{Scope, member_adds}
use Rattle.c_syntax.specs.Tree as tree
use Rattle.c_syntax.specs.Tree.{Specifier}
use Rattle.c_syntax.specs.View.{specifiers, members, enumerators}
use Rattle.c_reading.proofs.Online.Steps.{Online, TakesOne, online_pure, online_fail, online_skip, online_peek}
use Rattle.c_reading.proofs.Online.Steps.{online_here, online_deeper, online_bind, online_before, takes_fail}
use Rattle.c_reading.proofs.Online.Steps.{takes_skip, takes_peek, takes_here, takes_bind, go_online, turn_online}
use Rattle.c_reading.proofs.Online.Steps.{many_online, listed_online}
use Rattle.c_reading.proofs.Online.Law.{AllOnline}

-- ---- a specifier of one word

word_by_online : (pos : Pos) (s : Option Storage) (q : Option Qualifier) (b : Option BasicWord) (inline : Bool)
    → Online (word_by pos s q b inline)
word_by_online pos (Some word) q b inline = online_skip _ (online_pure (tree.StorageClass pos word))
word_by_online pos None (Some word) b inline = online_skip _ (online_pure (tree.TypeQualifier pos word))
word_by_online pos None None (Some word) inline = online_skip _ (online_pure (tree.BasicType pos word))
word_by_online pos None None None true = online_skip _ (online_pure (tree.Inline pos))
word_by_online pos None None None false = online_fail Unfit

word_by_takes : (pos : Pos) (s : Option Storage) (q : Option Qualifier) (b : Option BasicWord) (inline : Bool)
    → TakesOne (word_by pos s q b inline)
word_by_takes pos (Some word) q b inline = takes_skip _ (online_pure (tree.StorageClass pos word))
word_by_takes pos None (Some word) b inline = takes_skip _ (online_pure (tree.TypeQualifier pos word))
word_by_takes pos None None (Some word) inline = takes_skip _ (online_pure (tree.BasicType pos word))
word_by_takes pos None None None true = takes_skip _ (online_pure (tree.Inline pos))
word_by_takes pos None None None false = takes_fail Unfit

word_online : (pos : Pos) (o : Option Body) → Online (word_at pos o)
word_online pos o = word_by_online pos (storage_of o) (qualifier_of o) (basic_of o) (is_word w.Inline o)

word_takes : (pos : Pos) (o : Option Body) → TakesOne (word_at pos o)
word_takes pos o = word_by_takes pos (storage_of o) (qualifier_of o) (basic_of o) (is_word w.Inline o)

-- ---- structures, unions and enumerations

module _ (k : ℕ) (low : Parsers) (on : AllOnline low) (takes : (scope : Scope) → TakesOne (low.member scope)) where
  more_members_online : (scope : Scope) → Online (more_members k low scope)
  unfolding more_members
  more_members_online scope = many_online _ _ _ on.member (λ s. refl) takes scope

  compound_body_online : (scope : Scope) (pos : Pos) (word : CompoundWord) (tag : Option Tag)
      → Online (compound_body k low scope pos word tag)
  unfolding compound_body
  compound_body_online scope pos word tag = online_bind _ _ (on.member scope) (λ first.
      online_before _ (is_mark p.CloseBrace) _ (more_members_online (scope ++ member_adds first))
      (λ rest. online_pure (tree.Compound pos word tag (members (first ∷ rest)))))

  compound_by_online : (scope : Scope) (pos : Pos) (word : CompoundWord) (tag : Tag) (braces : Bool)
      → Online (compound_by k low scope pos word tag braces)
  compound_by_online scope pos word tag true =
      online_deeper k _ (online_skip _ (compound_body_online scope pos word (Some tag)))
  compound_by_online scope pos word tag false = online_pure (tree.CompoundTag pos word tag)

  compound_tag_online : (scope : Scope) (pos : Pos) (word : CompoundWord) (tag : Tag)
      → Online (compound_tag k low scope pos word tag)
  unfolding compound_tag
  compound_tag_online scope pos word tag =
      online_peek _ (λ o. compound_by_online scope pos word tag (is_mark p.OpenBrace o))

  compound_online : (scope : Scope) (pos : Pos) (word : CompoundWord) → Online (compound k low scope pos word)
  unfolding compound
  compound_online scope pos word = online_here _ (λ place. online_peek _ (by place))
    where
      by : (place : Pos) (o : Option Body) → Online (compound_on k low scope pos word place o)
      by place (Some (lexeme.Name x)) =
          online_skip _ (compound_tag_online scope pos word (record { pos = place; name = x }))
      by place (Some (lexeme.Mark p.OpenBrace)) =
          online_deeper k _ (online_skip _ (compound_body_online scope pos word None))
      by place o = online_fail Unfit

  value_by_online : (scope : Scope) (pos : Pos) (x : List ℕ) (assigned : Bool)
      → Online (value_by k low scope pos x assigned)
  value_by_online scope pos x true =
      online_deeper k _
      (online_skip _
      (online_bind _ _ (on.expr scope conditional) (λ value. online_pure (tree.Enumerates pos x (tree.With value)))))
  value_by_online scope pos x false = online_pure (tree.Enumerates pos x tree.Without)

  enumerator_on_online : (scope : Scope) (pos : Pos) (x : List ℕ) → Online (enumerator_on k low scope pos x)
  unfolding enumerator_on
  enumerator_on_online scope pos x = online_peek _ (λ o. value_by_online scope pos x (is_mark p.Assign o))

  enumerator_by_online : (scope : Scope) (pos : Pos) (o : Option (List ℕ)) → Online (enumerator_by k low scope pos o)
  enumerator_by_online scope pos (Some x) = online_skip _ (enumerator_on_online scope pos x)
  enumerator_by_online scope pos None = online_fail Unfit

  pub enumerator_online : (scope : Scope) → Online (enumerator k low scope)
  unfolding enumerator
  enumerator_online scope = online_here _ (λ pos. online_peek _ (λ o. enumerator_by_online scope pos (name_of o)))

  listed_enumerators_online : (scope : Scope) → Online (listed_enumerators k low scope)
  unfolding listed_enumerators
  listed_enumerators_online scope = listed_online _ _ _ _ _ refl (online_pure tt) enumerator_online scope

  enum_body_online : (scope : Scope) (pos : Pos) (tag : Option Tag) → Online (enum_body k low scope pos tag)
  unfolding enum_body
  enum_body_online scope pos tag =
      online_before _ (is_mark p.CloseBrace) _ (listed_enumerators_online scope)
      (λ all. online_pure (tree.Enum pos tag (enumerators all.0) all.1))

  enum_by_online : (scope : Scope) (pos : Pos) (tag : Tag) (braces : Bool) → Online (enum_by k low scope pos tag braces)
  enum_by_online scope pos tag true = online_skip _ (enum_body_online scope pos (Some tag))
  enum_by_online scope pos tag false = online_pure (tree.EnumTag pos tag)

  enum_tag_online : (scope : Scope) (pos : Pos) (tag : Tag) → Online (enum_tag k low scope pos tag)
  unfolding enum_tag
  enum_tag_online scope pos tag = online_peek _ (λ o. enum_by_online scope pos tag (is_mark p.OpenBrace o))

  enumeration_online : (scope : Scope) (pos : Pos) → Online (enumeration k low scope pos)
  unfolding enumeration
  enumeration_online scope pos = online_here _ (λ place. online_peek _ (by place))
    where
      by : (place : Pos) (o : Option Body) → Online (enum_on k low scope pos place o)
      by place (Some (lexeme.Name x)) = online_skip _ (enum_tag_online scope pos (record { pos = place; name = x }))
      by place (Some (lexeme.Mark p.OpenBrace)) = online_skip _ (enum_body_online scope pos None)
      by place o = online_fail Unfit

  -- ---- all specifiers

  pub specifier_at_online : (s : Specified) → Online (specifier_at k low s)
  unfolding specifier_at
  specifier_at_online s = online_here _ (λ pos. online_peek _ (by pos))
    where
      by : (pos : Pos) (o : Option Body) → Online (specifier_by k low s.scope pos o)
      by pos (Some (lexeme.Name x)) = online_skip _ (online_pure (tree.TypedefName pos x))
      by pos (Some (lexeme.Word w.Struct)) = online_skip _ (compound_online s.scope pos words.Struct)
      by pos (Some (lexeme.Word w.Union)) = online_skip _ (compound_online s.scope pos words.Union)
      by pos (Some (lexeme.Word w.Enum)) = online_skip _ (enumeration_online s.scope pos)
      by pos o = word_online pos o

  pub specifier_at_takes : (s : Specified) → TakesOne (specifier_at k low s)
  unfolding specifier_at
  specifier_at_takes s =
      takes_here (λ pos. peek (specifier_by k low s.scope pos))
      (λ pos. takes_peek (specifier_by k low s.scope pos) (by pos))
    where
      by : (pos : Pos) (next : Body) → TakesOne (specifier_by k low s.scope pos (Some next))
      by pos (lexeme.Name x) = takes_skip _ (online_pure (tree.TypedefName pos x))
      by pos (lexeme.Word w.Struct) = takes_skip _ (compound_online s.scope pos words.Struct)
      by pos (lexeme.Word w.Union) = takes_skip _ (compound_online s.scope pos words.Union)
      by pos (lexeme.Word w.Enum) = takes_skip _ (enumeration_online s.scope pos)
      by pos next = word_takes pos (Some next)

pub low_specifier_online : (s : Specified) → Online (low_specifier s)
unfolding low_specifier
low_specifier_online s = online_here _ (λ pos. online_peek _ (by pos))
  where
    by : (pos : Pos) (o : Option Body) → Online (low_specifier_by pos o)
    by pos (Some (lexeme.Name x)) = online_skip _ (online_pure (tree.TypedefName pos x))
    by pos (Some (lexeme.Word w.Struct)) = online_fail TooDeep
    by pos (Some (lexeme.Word w.Union)) = online_fail TooDeep
    by pos (Some (lexeme.Word w.Enum)) = online_fail TooDeep
    by pos o = word_online pos o

pub low_specifier_takes : (s : Specified) → TakesOne (low_specifier s)
unfolding low_specifier
low_specifier_takes s =
    takes_here (λ pos. peek (low_specifier_by pos)) (λ pos. takes_peek (low_specifier_by pos) (by pos))
  where
    by : (pos : Pos) (next : Body) → TakesOne (low_specifier_by pos (Some next))
    by pos (lexeme.Name x) = takes_skip _ (online_pure (tree.TypedefName pos x))
    by pos (lexeme.Word w.Struct) = takes_fail TooDeep
    by pos (lexeme.Word w.Union) = takes_fail TooDeep
    by pos (lexeme.Word w.Enum) = takes_fail TooDeep
    by pos next = word_takes pos (Some next)

with_type_online : (type_seen : TypeSeen) (all : List Specifier) → Online (with_type type_seen all)
with_type_online Nothing all = online_fail Unfit
with_type_online Basic all = online_pure (specifiers all)
with_type_online Other all = online_pure (specifiers all)

module _ (step : Specified → Parser Specifier) (on : (s : Specified) → Online (step s)) (takes : (s : Specified)
    → TakesOne (step s)) where
  pub specifiers_by_online : (scope : Scope) → Online (specifiers_by step scope)
  unfolding specifiers_by
  specifiers_by_online scope =
      online_bind _ _ (many_online goes_specifier step specified_with on (λ s. refl) takes
      (record { scope = scope; type_seen = Nothing }))
      (λ all. with_type_online (types_seen Nothing all) all)

  -- since one of them is a type
  pub specifiers_by_takes : (scope : Scope) → TakesOne (specifiers_by step scope)
  unfolding specifiers_by many
  specifiers_by_takes scope token tokens rest all = by (goes_specifier s (Some token.body))
    where
      s : Specified
      s = record { scope = scope; type_seen = Nothing }

      first : Parser (List Specifier)
      first = step s >>= λ one. go goes_specifier step specified_with (length (token ∷ tokens))
          (specified_with s one) >>= λ more. pure (one ∷ more)

      by : (b : Bool)
          → and_then (choose b first (pure []) (token ∷ tokens)) (λ all. with_type (types_seen Nothing all) all)
          ≡ Found all rest → length rest ≤ length tokens
      by true h = takes_bind first (λ all. with_type (types_seen Nothing all) all)
          (takes_bind (step s) _ (takes s)
          (turn_online goes_specifier step specified_with on (length (token ∷ tokens)) s
          (go_online goes_specifier step specified_with on (length (token ∷ tokens)))))
          (λ all. with_type_online (types_seen Nothing all) all) token tokens rest all h
      by false h = absurd (cc (h))
