-- How specifiers are read, and the parsers of every height.
use Rattle.std.specs.Prelude.{ℕ, zero, suc, Bool, true, false, ◌||◌, ◌&&◌, not, List, [], ◌∷◌, ◌++◌, Option, Some}
use Rattle.std.specs.Prelude.{None, is_some}
use Rattle.critical_table.specs.declared.pos.Pos.{Pos}
use Rattle.c_lexer.specs.declared.punct.Punct.TheVariants as p
use Rattle.c_lexer.specs.declared.token.Body.{Body}
use Rattle.c_lexer.specs.declared.token.Body.TheVariants as lexeme
use Rattle.c_lexer.specs.declared.word.Word.TheVariants as w
use Rattle.c_reading.specs.declared.type_seen.TypeSeen.{TypeSeen}
use Rattle.c_reading.specs.declared.type_seen.TypeSeen.TheVariants.{Nothing, Basic, Other}
use Rattle.c_syntax.specs.declared.specifier.BasicWord.{BasicWord}
use Rattle.c_syntax.specs.declared.specifier.CompoundWord.{CompoundWord}
use Rattle.c_syntax.specs.declared.specifier.CompoundWord.TheVariants as words
use Rattle.c_syntax.specs.declared.specifier.Qualifier.{Qualifier}
use Rattle.c_syntax.specs.declared.specifier.Storage.{Storage}
use Rattle.c_syntax.specs.declared.specifier.Tag.{Tag}
use Rattle.c_syntax.specs.Levels.{conditional}
use Rattle.c_reading.specs.Parser.{Parser, Unfit, TooDeep, ◌>>=◌, pure, fail, peek, here, skip, deeper, expect, many}
use Rattle.c_reading.specs.Parser.{comma_list}
use Rattle.c_reading.specs.ReadToken.{is_mark, is_word, name_of, begins_type, storage_of, qualifier_of, basic_of}
use Rattle.c_reading.specs.ReadExpr.{Parsers, paren_expr, expr_at}
use Rattle.c_reading.specs.ReadDeclarator.{no_declarator, declarator_at, type_name_at, parameter_at, member_at}
use Rattle.c_syntax.specs.Scopes.{Scope, is_type, specifier_adds, member_adds, enumerator_adds}
use Rattle.c_syntax.specs.Tree as tree
use Rattle.c_syntax.specs.Tree.{Specifier, Specifiers, MemberDeclaration, Enumerator}
use Rattle.c_syntax.specs.View.{specifiers, members, enumerators}

-- the scope, and whether a type has come (6.7.2p2)
pub record Specified : Type 0 where
  pub scope : Scope
  pub type_seen : TypeSeen

abbrev pub is_nothing : TypeSeen → Bool
is_nothing Nothing = true
is_nothing Basic = false
is_nothing Other = false

abbrev pub is_other : TypeSeen → Bool
is_other Nothing = false
is_other Basic = false
is_other Other = true

abbrev pub begins_other : Scope → Option Body → Bool
begins_other scope (Some (lexeme.Name x)) = is_type scope x
begins_other scope (Some (lexeme.Word w.Struct)) = true
begins_other scope (Some (lexeme.Word w.Union)) = true
begins_other scope (Some (lexeme.Word w.Enum)) = true
begins_other scope _ = false

-- the token is one more specifier
abbrev pub goes_specifier : Specified → Option Body → Bool
goes_specifier s o =
    is_some (storage_of o) || is_some (qualifier_of o) || is_word w.Inline o
    || (is_some (basic_of o) && not (is_other s.type_seen)) || (begins_other s.scope o && is_nothing s.type_seen)

-- what has come with it
abbrev pub type_seen_with : TypeSeen → Specifier → TypeSeen
type_seen_with type_seen (tree.StorageClass pos word) = type_seen
type_seen_with type_seen (tree.TypeQualifier pos word) = type_seen
type_seen_with type_seen (tree.Inline pos) = type_seen
type_seen_with type_seen (tree.BasicType pos word) = Basic
type_seen_with type_seen (tree.CompoundTag pos word tag) = Other
type_seen_with type_seen (tree.Compound pos word tag all) = Other
type_seen_with type_seen (tree.EnumTag pos tag) = Other
type_seen_with type_seen (tree.Enum pos tag all comma) = Other
type_seen_with type_seen (tree.TypedefName pos x) = Other

abbrev pub specified_with : Specified → Specifier → Specified
specified_with s one = record { scope = s.scope ++ specifier_adds one; type_seen = type_seen_with s.type_seen one }

-- what came in the end
abbrev pub types_seen : TypeSeen → List Specifier → TypeSeen
types_seen type_seen [] = type_seen
types_seen type_seen (one ∷ rest) = types_seen (type_seen_with type_seen one) rest

-- a specifier of one word
abbrev pub word_by : Pos → Option Storage → Option Qualifier → Option BasicWord → Bool → Parser Specifier
word_by pos (Some word) q b inline = skip (pure (tree.StorageClass pos word))
word_by pos None (Some word) b inline = skip (pure (tree.TypeQualifier pos word))
word_by pos None None (Some word) inline = skip (pure (tree.BasicType pos word))
word_by pos None None None true = skip (pure (tree.Inline pos))
word_by pos None None None false = fail Unfit

abbrev pub word_at : Pos → Option Body → Parser Specifier
word_at pos o = word_by pos (storage_of o) (qualifier_of o) (basic_of o) (is_word w.Inline o)

module _ (k : ℕ) (low : Parsers) where
  -- ---- structures and unions (6.7.2.1)

  unfoldable pub more_members : Scope → Parser (List MemberDeclaration)
  more_members = many begins_type low.member (λ s one. s ++ member_adds one)

  -- one member at least
  abbrev pub all_members : Scope → Parser (List MemberDeclaration)
  all_members scope = low.member scope >>= λ first. more_members (scope ++ member_adds first)
      >>= λ rest. pure (first ∷ rest)

  unfoldable pub compound_body : Scope → Pos → CompoundWord → Option Tag → Parser Specifier
  compound_body scope pos word tag =
      low.member scope >>= λ first. more_members (scope ++ member_adds first) >>= λ rest.
      expect (is_mark p.CloseBrace) >>= λ _. pure (tree.Compound pos word tag (members (first ∷ rest)))

  abbrev pub compound_by : Scope → Pos → CompoundWord → Tag → Bool → Parser Specifier
  compound_by scope pos word tag true = deeper k (skip (compound_body scope pos word (Some tag)))
  compound_by scope pos word tag false = pure (tree.CompoundTag pos word tag)

  unfoldable pub compound_tag : Scope → Pos → CompoundWord → Tag → Parser Specifier
  compound_tag scope pos word tag = peek (λ o. compound_by scope pos word tag (is_mark p.OpenBrace o))

  abbrev pub compound_on : Scope → Pos → CompoundWord → Pos → Option Body → Parser Specifier
  compound_on scope pos word place (Some (lexeme.Name x)) =
      skip (compound_tag scope pos word (record { pos = place; name = x }))
  compound_on scope pos word place (Some (lexeme.Mark p.OpenBrace)) =
      deeper k (skip (compound_body scope pos word None))
  compound_on scope pos word place _ = fail Unfit

  unfoldable pub compound : Scope → Pos → CompoundWord → Parser Specifier
  compound scope pos word = here (λ place. peek (compound_on scope pos word place))

  -- ---- enumerations (6.7.2.2)

  abbrev pub value_by : Scope → Pos → List ℕ → Bool → Parser Enumerator
  value_by scope pos x true =
      deeper k (skip (low.expr scope conditional >>= λ value. pure (tree.Enumerates pos x (tree.With value))))
  value_by scope pos x false = pure (tree.Enumerates pos x tree.Without)

  unfoldable pub enumerator_on : Scope → Pos → List ℕ → Parser Enumerator
  enumerator_on scope pos x = peek (λ o. value_by scope pos x (is_mark p.Assign o))

  abbrev pub enumerator_by : Scope → Pos → Option (List ℕ) → Parser Enumerator
  enumerator_by scope pos (Some x) = skip (enumerator_on scope pos x)
  enumerator_by scope pos None = fail Unfit

  unfoldable pub enumerator : Scope → Parser Enumerator
  enumerator scope = here (λ pos. peek (λ o. enumerator_by scope pos (name_of o)))

  unfoldable pub listed_enumerators : Scope → Parser (List Enumerator × Bool)
  listed_enumerators =
      comma_list (is_mark p.Comma) (is_mark p.CloseBrace) (pure tt) enumerator (λ s one. s ++ enumerator_adds one)

  unfoldable pub enum_body : Scope → Pos → Option Tag → Parser Specifier
  enum_body scope pos tag =
      listed_enumerators scope >>= λ all. expect (is_mark p.CloseBrace)
      >>= λ _. pure (tree.Enum pos tag (enumerators all.0) all.1)

  abbrev pub enum_by : Scope → Pos → Tag → Bool → Parser Specifier
  enum_by scope pos tag true = skip (enum_body scope pos (Some tag))
  enum_by scope pos tag false = pure (tree.EnumTag pos tag)

  unfoldable pub enum_tag : Scope → Pos → Tag → Parser Specifier
  enum_tag scope pos tag = peek (λ o. enum_by scope pos tag (is_mark p.OpenBrace o))

  abbrev pub enum_on : Scope → Pos → Pos → Option Body → Parser Specifier
  enum_on scope pos place (Some (lexeme.Name x)) = skip (enum_tag scope pos (record { pos = place; name = x }))
  enum_on scope pos place (Some (lexeme.Mark p.OpenBrace)) = skip (enum_body scope pos None)
  enum_on scope pos place _ = fail Unfit

  unfoldable pub enumeration : Scope → Pos → Parser Specifier
  enumeration scope pos = here (λ place. peek (enum_on scope pos place))

  -- ---- all specifiers

  abbrev pub specifier_by : Scope → Pos → Option Body → Parser Specifier
  specifier_by scope pos (Some (lexeme.Name x)) = skip (pure (tree.TypedefName pos x))
  specifier_by scope pos (Some (lexeme.Word w.Struct)) = skip (compound scope pos words.Struct)
  specifier_by scope pos (Some (lexeme.Word w.Union)) = skip (compound scope pos words.Union)
  specifier_by scope pos (Some (lexeme.Word w.Enum)) = skip (enumeration scope pos)
  specifier_by scope pos o = word_at pos o

-- no height is left for a structure, a union or an enumeration
abbrev pub low_specifier_by : Pos → Option Body → Parser Specifier
low_specifier_by pos (Some (lexeme.Name x)) = skip (pure (tree.TypedefName pos x))
low_specifier_by pos (Some (lexeme.Word w.Struct)) = fail TooDeep
low_specifier_by pos (Some (lexeme.Word w.Union)) = fail TooDeep
low_specifier_by pos (Some (lexeme.Word w.Enum)) = fail TooDeep
low_specifier_by pos o = word_at pos o

unfoldable pub low_specifier : Specified → Parser Specifier
low_specifier s = here (λ pos. peek (low_specifier_by pos))

unfoldable pub specifier_at : ℕ → Parsers → Specified → Parser Specifier
specifier_at k low s = here (λ pos. peek (specifier_by k low s.scope pos))

-- at least one of them is a type
abbrev pub with_type : TypeSeen → List Specifier → Parser Specifiers
with_type Nothing all = fail Unfit
with_type Basic all = pure (specifiers all)
with_type Other all = pure (specifiers all)

unfoldable pub specifiers_by : (Specified → Parser Specifier) → Scope → Parser Specifiers
specifiers_by step scope =
    many goes_specifier step specified_with (record { scope = scope; type_seen = Nothing })
    >>= λ all. with_type (types_seen Nothing all) all

-- ---- the parsers of every height

abbrev pub lowest : Parsers
lowest = record {
  expr = λ scope level. fail TooDeep;
  paren_expr = λ scope. fail TooDeep;
  type_name = λ scope. fail TooDeep;
  specifiers = specifiers_by low_specifier;
  declarator = λ shape scope. no_declarator shape;
  parameter = λ scope. fail TooDeep;
  member = λ scope. fail TooDeep;
}

abbrev pub higher : ℕ → Parsers → Parsers
higher k low = record {
  expr = expr_at k low;
  paren_expr = paren_expr k low;
  type_name = type_name_at k low;
  specifiers = specifiers_by (specifier_at k low);
  declarator = declarator_at k low;
  parameter = parameter_at k low;
  member = member_at k low;
}

-- trees of this height at most
abbrev pub parsers : ℕ → Parsers
parsers zero = lowest
parsers (suc k) = higher k (parsers k)

-- one specifier of this height at most
abbrev pub specifier_within : ℕ → Scope → Pos → Option Body → Parser Specifier
specifier_within zero scope = low_specifier_by
specifier_within (suc k) scope = specifier_by k (parsers k) scope
