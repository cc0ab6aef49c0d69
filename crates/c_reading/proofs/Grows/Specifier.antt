-- Specifiers are read the same with more height.
use Rattle.std.proofs.Common.{ℕ, ◌≤◌, Bool, true, false, List, ◌∷◌, ◌++◌, Option, Some, None}
use Rattle.critical_table.specs.declared.pos.Pos.{Pos}
use Rattle.c_lexer.specs.declared.punct.Punct.TheVariants as p
use Rattle.c_lexer.specs.declared.token.Body.{Body}
use Rattle.c_lexer.specs.declared.token.Body.TheVariants as lexeme
use Rattle.c_lexer.specs.declared.word.Word.TheVariants as w
use Rattle.c_syntax.specs.declared.specifier.CompoundWord.{CompoundWord}
use Rattle.c_syntax.specs.declared.specifier.CompoundWord.TheVariants as words
use Rattle.c_syntax.specs.declared.specifier.Tag.{Tag}
use Rattle.c_syntax.specs.Levels.{conditional}
use Rattle.c_reading.specs.Parser.{Parser, Unfit, ◌>>=◌, pure, fail, skip, expect}
use Rattle.c_reading.specs.ReadToken.{is_mark, name_of}
use Rattle.c_reading.specs.ReadExpr.{Parsers}
use Rattle.c_reading.specs.declared.type_seen.TypeSeen.TheVariants.{Nothing}
use Rattle.c_reading.specs.ReadSpecifier.{Specified, goes_specifier, specified_with, types_seen, word_at}
use Rattle.c_reading.specs.ReadSpecifier.{more_members, compound_body, compound_by, compound_tag, compound_on}
use Rattle.c_reading.specs.ReadSpecifier.{compound, value_by, enumerator_on, enumerator_by, enumerator}
use Rattle.c_reading.specs.ReadSpecifier.{listed_enumerators, enum_body, enum_by, enum_tag, enum_on, enumeration}
use Rattle.c_reading.specs.ReadSpecifier.{specifier_by, low_specifier_by, low_specifier, specifier_at, with_type}
use Rattle.c_reading.specs.ReadSpecifier.{specifiers_by}
use Rattle.c_syntax.specs.Scopes.{Scope, member_adds}
use Rattle.c_syntax.specs.Tree as tree
use Rattle.c_syntax.specs.Tree.{Specifier}
use Rattle.c_syntax.specs.View.{members, enumerators}
use Rattle.c_reading.proofs.Grows.Steps.{Grown, grown_same, deep_grown, grown_bind, grown_then, grown_skip}
use Rattle.c_reading.proofs.Grows.Steps.{grown_peek, grown_here, grown_deeper, many_grown, listed_grown}
use Rattle.c_reading.proofs.Grows.Law.{AllGrown}

module _ (k k' : ℕ) (le : k ≤ k') (low low' : Parsers) (on : AllGrown low low') where
  -- ---- structures and unions

  more_members_grown : (scope : Scope) → Grown (more_members k low scope) (more_members k' low' scope)
  unfolding more_members
  more_members_grown scope = many_grown _ _ _ _ on.member scope

  compound_body_grown : (scope : Scope) (pos : Pos) (word : CompoundWord) (tag : Option Tag)
      → Grown (compound_body k low scope pos word tag) (compound_body k' low' scope pos word tag)
  unfolding compound_body
  compound_body_grown scope pos word tag = grown_bind _ _ _ _ (on.member scope) (λ first.
      grown_then _ _ (λ rest. expect (is_mark p.CloseBrace)
      >>= λ _. pure (tree.Compound pos word tag (members (first ∷ rest))))
      (more_members_grown (scope ++ member_adds first)))

  compound_by_grown : (scope : Scope) (pos : Pos) (word : CompoundWord) (tag : Tag) (braces : Bool)
      → Grown (compound_by k low scope pos word tag braces) (compound_by k' low' scope pos word tag braces)
  compound_by_grown scope pos word tag true =
      grown_deeper k k' _ _ le (grown_skip _ _ (compound_body_grown scope pos word (Some tag)))
  compound_by_grown scope pos word tag false = grown_same (pure (tree.CompoundTag pos word tag))

  compound_tag_grown : (scope : Scope) (pos : Pos) (word : CompoundWord) (tag : Tag)
      → Grown (compound_tag k low scope pos word tag) (compound_tag k' low' scope pos word tag)
  unfolding compound_tag
  compound_tag_grown scope pos word tag =
      grown_peek _ _ (λ o. compound_by_grown scope pos word tag (is_mark p.OpenBrace o))

  compound_grown : (scope : Scope) (pos : Pos) (word : CompoundWord)
      → Grown (compound k low scope pos word) (compound k' low' scope pos word)
  unfolding compound
  compound_grown scope pos word = grown_here _ _ (λ place. grown_peek _ _ (by place))
    where
      by : (place : Pos) (o : Option Body)
          → Grown (compound_on k low scope pos word place o) (compound_on k' low' scope pos word place o)
      by place (Some (lexeme.Name x)) =
          grown_skip _ _ (compound_tag_grown scope pos word (record { pos = place; name = x }))
      by place (Some (lexeme.Mark p.OpenBrace)) =
          grown_deeper k k' _ _ le (grown_skip _ _ (compound_body_grown scope pos word None))
      by place o = grown_same (fail Unfit)

  -- ---- enumerations

  value_by_grown : (scope : Scope) (pos : Pos) (x : List ℕ) (assigned : Bool)
      → Grown (value_by k low scope pos x assigned) (value_by k' low' scope pos x assigned)
  value_by_grown scope pos x true =
      grown_deeper k k' _ _ le
      (grown_skip _ _ (grown_then _ _ (λ value. pure (tree.Enumerates pos x (tree.With value)))
      (on.expr scope conditional)))
  value_by_grown scope pos x false = grown_same (pure (tree.Enumerates pos x tree.Without))

  enumerator_on_grown : (scope : Scope) (pos : Pos) (x : List ℕ)
      → Grown (enumerator_on k low scope pos x) (enumerator_on k' low' scope pos x)
  unfolding enumerator_on
  enumerator_on_grown scope pos x = grown_peek _ _ (λ o. value_by_grown scope pos x (is_mark p.Assign o))

  enumerator_by_grown : (scope : Scope) (pos : Pos) (o : Option (List ℕ))
      → Grown (enumerator_by k low scope pos o) (enumerator_by k' low' scope pos o)
  enumerator_by_grown scope pos (Some x) = grown_skip _ _ (enumerator_on_grown scope pos x)
  enumerator_by_grown scope pos None = grown_same (fail Unfit)

  enumerator_grown : (scope : Scope) → Grown (enumerator k low scope) (enumerator k' low' scope)
  unfolding enumerator
  enumerator_grown scope = grown_here _ _ (λ pos. grown_peek _ _ (λ o. enumerator_by_grown scope pos (name_of o)))

  listed_enumerators_grown : (scope : Scope) → Grown (listed_enumerators k low scope) (listed_enumerators k' low' scope)
  unfolding listed_enumerators
  listed_enumerators_grown scope = listed_grown _ _ _ _ _ _ enumerator_grown scope

  enum_body_grown : (scope : Scope) (pos : Pos) (tag : Option Tag)
      → Grown (enum_body k low scope pos tag) (enum_body k' low' scope pos tag)
  unfolding enum_body
  enum_body_grown scope pos tag =
      grown_then _ _ (λ all. expect (is_mark p.CloseBrace)
      >>= λ _. pure (tree.Enum pos tag (enumerators all.0) all.1)) (listed_enumerators_grown scope)

  enum_by_grown : (scope : Scope) (pos : Pos) (tag : Tag) (braces : Bool)
      → Grown (enum_by k low scope pos tag braces) (enum_by k' low' scope pos tag braces)
  enum_by_grown scope pos tag true = grown_skip _ _ (enum_body_grown scope pos (Some tag))
  enum_by_grown scope pos tag false = grown_same (pure (tree.EnumTag pos tag))

  enum_tag_grown : (scope : Scope) (pos : Pos) (tag : Tag)
      → Grown (enum_tag k low scope pos tag) (enum_tag k' low' scope pos tag)
  unfolding enum_tag
  enum_tag_grown scope pos tag = grown_peek _ _ (λ o. enum_by_grown scope pos tag (is_mark p.OpenBrace o))

  enumeration_grown : (scope : Scope) (pos : Pos) → Grown (enumeration k low scope pos) (enumeration k' low' scope pos)
  unfolding enumeration
  enumeration_grown scope pos = grown_here _ _ (λ place. grown_peek _ _ (by place))
    where
      by : (place : Pos) (o : Option Body) → Grown (enum_on k low scope pos place o) (enum_on k' low' scope pos place o)
      by place (Some (lexeme.Name x)) = grown_skip _ _ (enum_tag_grown scope pos (record { pos = place; name = x }))
      by place (Some (lexeme.Mark p.OpenBrace)) = grown_skip _ _ (enum_body_grown scope pos None)
      by place o = grown_same (fail Unfit)

  -- ---- all specifiers

  pub specifier_at_grown : (s : Specified) → Grown (specifier_at k low s) (specifier_at k' low' s)
  unfolding specifier_at
  specifier_at_grown s = grown_here _ _ (λ pos. grown_peek _ _ (by pos))
    where
      by : (pos : Pos) (o : Option Body) → Grown (specifier_by k low s.scope pos o) (specifier_by k' low' s.scope pos o)
      by pos (Some (lexeme.Name x)) = grown_same (skip (pure (tree.TypedefName pos x)))
      by pos (Some (lexeme.Word w.Struct)) = grown_skip _ _ (compound_grown s.scope pos words.Struct)
      by pos (Some (lexeme.Word w.Union)) = grown_skip _ _ (compound_grown s.scope pos words.Union)
      by pos (Some (lexeme.Word w.Enum)) = grown_skip _ _ (enumeration_grown s.scope pos)
      by pos o = grown_same (word_at pos o)

pub low_specifier_grown : (k : ℕ) (low : Parsers) (s : Specified) → Grown (low_specifier s) (specifier_at k low s)
unfolding low_specifier specifier_at
low_specifier_grown k low s = grown_here _ _ (λ pos. grown_peek _ _ (by pos))
  where
    by : (pos : Pos) (o : Option Body) → Grown (low_specifier_by pos o) (specifier_by k low s.scope pos o)
    by pos (Some (lexeme.Name x)) = grown_same (skip (pure (tree.TypedefName pos x)))
    by pos (Some (lexeme.Word w.Struct)) = deep_grown (skip (compound k low s.scope pos words.Struct))
    by pos (Some (lexeme.Word w.Union)) = deep_grown (skip (compound k low s.scope pos words.Union))
    by pos (Some (lexeme.Word w.Enum)) = deep_grown (skip (enumeration k low s.scope pos))
    by pos o = grown_same (word_at pos o)

pub specifiers_by_grown : (step step' : Specified → Parser Specifier) → ((s : Specified) → Grown (step s) (step' s))
    → (scope : Scope) → Grown (specifiers_by step scope) (specifiers_by step' scope)
unfolding specifiers_by
specifiers_by_grown step step' each scope =
    grown_then _ _ (λ all. with_type (types_seen Nothing all) all)
    (many_grown goes_specifier step step' specified_with each (record { scope = scope; type_seen = Nothing }))
