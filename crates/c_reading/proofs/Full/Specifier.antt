-- Structures, unions and enumerations are read again.
use Rattle.std.proofs.Common.{◌≡◌, ◌⊎◌, inl, inr, ◌≤◌, ◌<◌, ℕ, suc, Bool, true, false, List, [], ◌∷◌, ◌++◌, Option}
use Rattle.std.proofs.Common.{Some, None, refl, sym, ◌∙◌, ap, subst, arith}
use Rattle.critical_table.specs.declared.pos.Pos.{Pos}
use Rattle.c_lexer.specs.declared.punct.Punct.TheVariants as p
use Rattle.c_lexer.specs.declared.token.Token.{Token}
use Rattle.c_lexer.specs.declared.token.Body.TheVariants as lexeme
use Rattle.c_lexer.specs.declared.word.Word.TheVariants as w
use Rattle.c_syntax.specs.declared.operator.Infix.TheVariants as between
use Rattle.c_syntax.specs.declared.specifier.CompoundWord.{CompoundWord}
use Rattle.c_syntax.specs.declared.specifier.CompoundWord.TheVariants as compound_word_of
use Rattle.c_syntax.specs.declared.specifier.Tag.{Tag}
use Rattle.c_syntax.specs.Height.{members_height, enumerator_height, enumerators_height}
use Rattle.c_syntax.specs.Levels.{conditional}
use Rattle.c_syntax.specs.Operators.{compound_word}
use Rattle.c_reading.specs.Parser.{Found, pure, next_body, place, tail}
use Rattle.c_reading.specs.ReadExpr.{Parsers}
use Rattle.c_reading.specs.ReadToken.{is_mark, name_of, begins_type}
use Rattle.c_reading.specs.ReadSpecifier.{more_members, compound_body, compound_by, compound_tag, compound_on}
use Rattle.c_reading.specs.ReadSpecifier.{compound, value_by, enumerator_on, enumerator_by, enumerator}
use Rattle.c_reading.specs.ReadSpecifier.{listed_enumerators, enum_body, enum_by, enum_tag, enum_on, enumeration}
use Rattle.c_reading.specs.ReadSpecifier.{specifier_by, specifier_at}
use Rattle.c_syntax.specs.Scopes.{Scope, member_adds, enumerator_adds}
use Rattle.c_syntax.specs.Spelling.{spell, spell_tag, spell_specifier, spell_member, spell_members, spell_enumerator}
use Rattle.c_syntax.specs.Spelling.{spelled_enumerators}
use Rattle.c_syntax.specs.Tokens.{mark, name_at, word_at, commas, comma_if}
use Rattle.c_syntax.specs.Tree as tree
use Rattle.c_syntax.specs.Tree.{MemberDeclaration, Members, Enumerator, Enumerators}
use Rattle.c_syntax.specs.View.{members, enumerators}
use Rattle.c_syntax.specs.WellFormed.{HasMember, HasEnumerator, AreMembers, IsEnumerator, AreEnumerators}
use Rattle.c_reading.proofs.Full.Steps.{front, then_read, peek_at, read_at, deeper_again, expect_again, Each}
use Rattle.c_reading.proofs.Full.Steps.{many_again, Behind, listed_again, behind_commas, behind_seen}
use Rattle.c_reading.proofs.Full.Ends.{ends_closed, ends_infix}
use Rattle.c_syntax.proofs.FirstLaws.{first_member}
use Rattle.c_reading.proofs.FirstTokens.{first_seen, first_shorter}
use Rattle.c_reading.proofs.Full.Law.{EndsExpr, AllFull}
use Rattle.c_reading.proofs.Full.Specifiers.{StepFull, ReadsWords, storage_again, qualifier_again, inline_again}
use Rattle.c_reading.proofs.Full.Specifiers.{basic_again}
use Rattle.c_syntax.proofs.HeightLaws.{expr_high}
use Rattle.c_reading.proofs.Takes.{Takes, takes_append, takes_parted}

-- ---- members

abbrev listed_members : Members → List MemberDeclaration
listed_members tree.NoMember = []
listed_members (tree.MoreMembers first rest) = first ∷ listed_members rest

members_again : (all : Members) → members (listed_members all) ≡ all
members_again tree.NoMember = refl
members_again (tree.MoreMembers first rest) = ap (tree.MoreMembers first) (members_again rest)

members_high : (all : Members) → HasMember all → 1 ≤ members_height all
members_high tree.NoMember has = absurd has
members_high (tree.MoreMembers (tree.Declares specifiers declarators) rest) has = omega arith

-- ---- enumerators

abbrev listed_enums : Enumerators → List Enumerator
listed_enums tree.NoEnumerator = []
listed_enums (tree.MoreEnumerators first rest) = first ∷ listed_enums rest

enums_again : (all : Enumerators) → enumerators (listed_enums all) ≡ all
enums_again tree.NoEnumerator = refl
enums_again (tree.MoreEnumerators first rest) = ap (tree.MoreEnumerators first) (enums_again rest)

-- a comma or the closing brace
abbrev EndsValue : List Token → Type 0
EndsValue rest = (next_body rest ≡ Some (lexeme.Mark p.Comma)) ⊎ (next_body rest ≡ Some (lexeme.Mark p.CloseBrace))

value_ends : (rest : List Token) → EndsValue rest → EndsExpr conditional rest
value_ends rest (inl e) = ends_infix conditional rest between.Comma e (omega arith)
value_ends rest (inr e) = ends_closed conditional rest p.CloseBrace e (λ k low left. refl) refl refl

no_value : (rest : List Token) → EndsValue rest → is_mark p.Assign (next_body rest) ≡ false
no_value rest (inl e) = ap (is_mark p.Assign) e
no_value rest (inr e) = ap (is_mark p.Assign) e

comma_ends : (comma : Bool) (tokens rest : List Token) → next_body rest ≡ Some (lexeme.Mark p.CloseBrace)
    → Takes tokens (comma_if comma) rest → EndsValue tokens
comma_ends true tokens rest close all = inl (front tokens rest (mark p.Comma ∷ []) all).0
comma_ends false tokens rest close all = inr (ap next_body all ∙ close)

value_behind : (parts : List _) (tokens rest : List Token) → EndsValue rest
    → Takes tokens (behind_commas parts) rest → EndsValue tokens
value_behind parts tokens rest ends all = elim (behind_seen parts tokens rest all) [
  | inl e ↦ inl e
  | inr e ↦ subst EndsValue (sym e) ends
]

enumerator_front : (one : Enumerator) (tokens rest : List Token) → Takes tokens (spell_enumerator one) rest
    → is_mark p.CloseBrace (next_body tokens) ≡ false
enumerator_front (tree.Enumerates pos x tree.Without) tokens rest all =
    ap (is_mark p.CloseBrace) (front tokens rest (spell_enumerator (tree.Enumerates pos x tree.Without)) all).0
enumerator_front (tree.Enumerates pos x (tree.With value)) tokens rest all =
    ap (is_mark p.CloseBrace) (front tokens rest (spell_enumerator (tree.Enumerates pos x (tree.With value))) all).0

module _ (k : ℕ) (low : Parsers) (full : AllFull k low) where
  each_member : (all : Members) (scope : Scope) (tokens rest : List Token) → AreMembers all scope
      → members_height all ≤ k → next_body rest ≡ Some (lexeme.Mark p.CloseBrace)
      → Takes tokens (spell_members all) rest
      → Each begins_type low.member (λ s one. s ++ member_adds one) (listed_members all) scope tokens rest
  each_member tree.NoMember scope tokens rest are high close all = (all, ap (begins_type scope) close)
  each_member (tree.MoreMembers first more) scope tokens rest are high close all =
      let both = takes_parted tokens rest (spell_member first) (spell_members more) all in
      let is_first = first_member first scope are.0 in (
        both.mid,
        first_seen true scope tokens both.mid (spell_member first) is_first both.one,
        full.member scope first tokens both.mid are.0 (omega arith) both.one,
        first_shorter true scope tokens both.mid (spell_member first) is_first both.one,
        each_member more (scope ++ member_adds first) both.mid rest are.1 (omega arith) close both.two,
      )

  body_again : (scope : Scope) (pos : Pos) (word : CompoundWord) (tag : Option Tag) (all : Members)
      (tokens rest : List Token) → HasMember all → AreMembers all scope → members_height all ≤ k
      → Takes tokens (spell_members all ++ mark p.CloseBrace ∷ []) rest
      → compound_body k low scope pos word tag tokens ≡ Found (tree.Compound pos word tag all) rest
  unfolding compound_body more_members
  body_again scope pos word tag tree.NoMember tokens rest has are high all = absurd has
  body_again scope pos word tag (tree.MoreMembers first more) tokens rest has are high all =
      let both = takes_parted tokens rest (spell_members (tree.MoreMembers first more)) (mark p.CloseBrace ∷ []) all in
      let one = takes_parted tokens both.mid (spell_member first) (spell_members more) both.one in
      let g = front both.mid rest (mark p.CloseBrace ∷ []) both.two in
      then_read _ _ first one.mid _ (full.member scope first tokens one.mid are.0 (omega arith) one.one)
      (then_read _ _ (listed_members more) both.mid _
      (many_again _ _ _ (listed_members more) (scope ++ member_adds first) one.mid both.mid
      (each_member more (scope ++ member_adds first) one.mid both.mid are.1 (omega arith) g.0 one.two))
      (expect_again (is_mark p.CloseBrace) _ both.mid _ _ refl g.0
      (ap (λ more. Found (tree.Compound pos word tag (tree.MoreMembers first more)) (tail both.mid))
      (members_again more) ∙ ap (λ ts. Found (tree.Compound pos word tag (tree.MoreMembers first more)) ts) g.2)))

  compound_word_again : (scope : Scope) (pos : Pos) (word : CompoundWord) (tokens : List Token)
      → specifier_by k low scope pos (Some (lexeme.Word (compound_word word))) tokens
      ≡ compound k low scope pos word (tail tokens)
  compound_word_again scope pos compound_word_of.Struct tokens = refl
  compound_word_again scope pos compound_word_of.Union tokens = refl

  tag_again : (scope : Scope) (pos : Pos) (word : CompoundWord) (tag : Tag) (tokens rest : List Token)
      → is_mark p.OpenBrace (next_body rest) ≡ false → Takes tokens (name_at tag.pos tag.name ∷ []) rest
      → compound k low scope pos word tokens ≡ Found (tree.CompoundTag pos word tag) rest
  unfolding compound compound_tag
  tag_again scope pos word tag tokens rest no_brace all =
      let f = front tokens rest (name_at tag.pos tag.name ∷ []) all in
      read_at (compound_on k low scope pos word) tokens tag.pos _ _ f.1 f.0
      (ap (λ ts. compound_by k low scope pos word tag (is_mark p.OpenBrace (next_body ts)) ts) f.2
      ∙ ap (λ b. compound_by k low scope pos word tag b rest) no_brace)

  compound_again : (scope : Scope) (pos : Pos) (word : CompoundWord) (tag : Option Tag) (all : Members)
      (tokens rest : List Token) → HasMember all → AreMembers all scope → members_height all ≤ k
      → Takes tokens (spell_tag tag ++ (mark p.OpenBrace ∷ (spell_members all ++ mark p.CloseBrace ∷ []))) rest
      → compound k low scope pos word tokens ≡ Found (tree.Compound pos word tag all) rest
  unfolding compound compound_tag
  compound_again scope pos word None all tokens rest has are high takes =
      let f = front tokens rest (mark p.OpenBrace ∷ (spell_members all ++ mark p.CloseBrace ∷ [])) takes in
      let some : 0 < k = let h = members_high all has in omega arith in
      peek_at (compound_on k low scope pos word (place tokens)) tokens _ _ f.0
      (deeper_again k _ tokens _ some (body_again scope pos word None all (tail tokens) rest has are high f.2))
  compound_again scope pos word (Some tag) all tokens rest has are high takes =
      let braces = mark p.OpenBrace ∷ (spell_members all ++ mark p.CloseBrace ∷ []) in
      let f = front tokens rest (name_at tag.pos tag.name ∷ braces) takes in
      let g = front (tail tokens) rest braces f.2 in
      let some : 0 < k = let h = members_high all has in omega arith in
      read_at (compound_on k low scope pos word) tokens tag.pos _ _ f.1 f.0
      (ap (λ o. compound_by k low scope pos word tag (is_mark p.OpenBrace o) (tail tokens)) g.0
      ∙ deeper_again k _ (tail tokens) _ some
      (body_again scope pos word (Some tag) all (tail (tail tokens)) rest has are high g.2))

  -- ---- enumerations

  enumerator_again : (scope : Scope) (one : Enumerator) (tokens rest : List Token) → IsEnumerator one scope
      → enumerator_height one ≤ k → EndsValue rest → Takes tokens (spell_enumerator one) rest
      → enumerator k low scope tokens ≡ Found one rest
  unfolding enumerator enumerator_on
  enumerator_again scope (tree.Enumerates pos x tree.Without) tokens rest is high ends all =
      let f = front tokens rest (spell_enumerator (tree.Enumerates pos x tree.Without)) all in
      read_at (λ pos o. enumerator_by k low scope pos (name_of o)) tokens pos _ _ f.1 f.0
      (ap (λ ts. value_by k low scope pos x (is_mark p.Assign (next_body ts)) ts) f.2
      ∙ ap (λ b. value_by k low scope pos x b rest) (no_value rest ends))
  enumerator_again scope (tree.Enumerates pos x (tree.With value)) tokens rest is high ends all =
      let f = front tokens rest (spell_enumerator (tree.Enumerates pos x (tree.With value))) all in
      let g = front (tail tokens) rest (mark p.Assign ∷ spell value) f.2 in
      let some : 0 < k = let h = expr_high value in omega arith in
      let reads = full.expr scope conditional value (tail (tail tokens)) rest (omega arith) is high
      (value_ends rest ends) g.2 in
      read_at (λ pos o. enumerator_by k low scope pos (name_of o)) tokens pos _ _ f.1 f.0
      (ap (λ o. value_by k low scope pos x (is_mark p.Assign o) (tail tokens)) g.0
      ∙ deeper_again k _ (tail tokens) _ some (then_read _ _ value rest _ reads refl))

  behind_enumerators : (all : Enumerators) (comma : Bool) (scope : Scope) (tokens mid rest : List Token)
      → AreEnumerators all scope → enumerators_height all ≤ k → next_body rest ≡ Some (lexeme.Mark p.CloseBrace)
      → Takes tokens (behind_commas (spelled_enumerators all)) mid → Takes mid (comma_if comma) rest
      → Behind (is_mark p.Comma) (is_mark p.CloseBrace) (pure tt) (enumerator k low)
      (λ s one. s ++ enumerator_adds one) (listed_enums all) comma scope tokens rest
  behind_enumerators tree.NoEnumerator false scope tokens mid rest are high close all end =
      (all ∙ end, ap (is_mark p.Comma) close)
  behind_enumerators tree.NoEnumerator true scope tokens mid rest are high close all end =
      let f = front tokens rest (mark p.Comma ∷ []) (subst (λ ts. Takes ts (mark p.Comma ∷ []) rest) (sym all) end) in
      (ap (is_mark p.Comma) f.0, ap (is_mark p.CloseBrace) (ap next_body f.2 ∙ close), ap (λ ts. Found tt ts) f.2, f.3)
  behind_enumerators (tree.MoreEnumerators first more) comma scope tokens mid rest are high close all end =
      let both = takes_parted tokens mid (mark p.Comma ∷ spell_enumerator first)
      (behind_commas (spelled_enumerators more)) all in
      let f = front tokens both.mid (mark p.Comma ∷ spell_enumerator first) both.one in
      let ends = value_behind (spelled_enumerators more) both.mid mid (comma_ends comma mid rest close end) both.two
      in (
        both.mid,
        ap (is_mark p.Comma) f.0,
        enumerator_front first (tail tokens) both.mid f.2,
        enumerator_again scope first (tail tokens) both.mid are.0 (omega arith) ends f.2,
        f.3,
        behind_enumerators more comma (scope ++ enumerator_adds first) both.mid mid rest are.1 (omega arith) close
            both.two end,
      )

  enum_again : (scope : Scope) (pos : Pos) (tag : Option Tag) (all : Enumerators) (comma : Bool)
      (tokens mid end rest : List Token) → HasEnumerator all → AreEnumerators all scope → enumerators_height all ≤ k
      → Takes tokens (commas (spelled_enumerators all)) mid → Takes mid (comma_if comma) end
      → Takes end (mark p.CloseBrace ∷ []) rest → enum_body k low scope pos tag tokens
      ≡ Found (tree.Enum pos tag all comma) rest
  unfolding enum_body listed_enumerators
  enum_again scope pos tag tree.NoEnumerator comma tokens mid end rest has are high all ending close = absurd has
  enum_again scope pos tag (tree.MoreEnumerators first more) comma tokens mid end rest has are high all ending close =
      let both = takes_parted tokens mid (spell_enumerator first) (behind_commas (spelled_enumerators more)) all in
      let g = front end rest (mark p.CloseBrace ∷ []) close in
      let ends = value_behind (spelled_enumerators more) both.mid mid (comma_ends comma mid end g.0 ending) both.two in
      let one = enumerator_again scope first tokens both.mid are.0 (omega arith) ends both.one in
      let behind = behind_enumerators more comma (scope ++ enumerator_adds first) both.mid mid end are.1
      (omega arith) g.0 both.two ending in
      then_read _ _ _ end _ (listed_again _ _ _ _ _ first (listed_enums more) comma scope tokens both.mid end one
      behind)
      (expect_again (is_mark p.CloseBrace) _ end _ _ refl g.0
      (ap (λ more. Found (tree.Enum pos tag (tree.MoreEnumerators first more) comma) (tail end)) (enums_again more)
      ∙ ap (λ ts. Found (tree.Enum pos tag (tree.MoreEnumerators first more) comma) ts) g.2))

  enum_tag_again : (scope : Scope) (pos : Pos) (tag : Tag) (tokens rest : List Token)
      → is_mark p.OpenBrace (next_body rest) ≡ false → Takes tokens (name_at tag.pos tag.name ∷ []) rest
      → enumeration k low scope pos tokens ≡ Found (tree.EnumTag pos tag) rest
  unfolding enumeration enum_tag
  enum_tag_again scope pos tag tokens rest no_brace all =
      let f = front tokens rest (name_at tag.pos tag.name ∷ []) all in
      read_at (enum_on k low scope pos) tokens tag.pos _ _ f.1 f.0
      (ap (λ ts. enum_by k low scope pos tag (is_mark p.OpenBrace (next_body ts)) ts) f.2
      ∙ ap (λ b. enum_by k low scope pos tag b rest) no_brace)

  enumeration_again : (scope : Scope) (pos : Pos) (tag : Option Tag) (all : Enumerators) (comma : Bool)
      (tokens front_end mid end rest : List Token) → HasEnumerator all → AreEnumerators all scope
      → enumerators_height all ≤ k
      → Takes tokens (spell_tag tag) front_end
      → Takes front_end (mark p.OpenBrace ∷ commas (spelled_enumerators all)) mid → Takes mid (comma_if comma) end
      → Takes end (mark p.CloseBrace ∷ []) rest
      → enumeration k low scope pos tokens ≡ Found (tree.Enum pos tag all comma) rest
  unfolding enumeration enum_tag
  enumeration_again scope pos None all comma tokens front_end mid end rest has are high start takes ending close =
      let f = front tokens mid (mark p.OpenBrace ∷ commas (spelled_enumerators all))
      (subst (λ ts. Takes ts (mark p.OpenBrace ∷ commas (spelled_enumerators all)) mid) (sym start) takes) in
      peek_at (enum_on k low scope pos (place tokens)) tokens _ _ f.0
      (enum_again scope pos None all comma (tail tokens) mid end rest has are high f.2 ending close)
  enumeration_again scope pos (Some tag) all comma tokens front_end mid end rest has are high start takes ending close =
      let f = front tokens front_end (name_at tag.pos tag.name ∷ []) start in
      let braces = mark p.OpenBrace ∷ commas (spelled_enumerators all) in
      let g = front (tail tokens) mid braces (subst (λ ts. Takes ts braces mid) (sym f.2) takes) in
      read_at (enum_on k low scope pos) tokens tag.pos _ _ f.1 f.0
      (ap (λ o. enum_by k low scope pos tag (is_mark p.OpenBrace o) (tail tokens)) g.0
      ∙ enum_again scope pos (Some tag) all comma (tail (tail tokens)) mid end rest has are high g.2 ending close)

  -- ---- one specifier

  words : (scope : Scope) → ReadsWords (specifier_by k low scope)
  words scope pos w.Struct tokens plain = absurd (cc)
  words scope pos w.Union tokens plain = absurd (cc)
  words scope pos w.Enum tokens plain = absurd (cc)
  words scope pos word tokens plain = refl

  pub specifier_full : StepFull (suc k) (specifier_at k low)
  unfolding specifier_at
  specifier_full s (tree.StorageClass pos word) tokens rest is high no_brace all =
      storage_again (specifier_by k low s.scope) (words s.scope) pos word tokens rest all
  specifier_full s (tree.TypeQualifier pos word) tokens rest is high no_brace all =
      qualifier_again (specifier_by k low s.scope) (words s.scope) pos word tokens rest all
  specifier_full s (tree.Inline pos) tokens rest is high no_brace all =
      inline_again (specifier_by k low s.scope) (words s.scope) pos tokens rest all
  specifier_full s (tree.BasicType pos word) tokens rest is high no_brace all =
      basic_again (specifier_by k low s.scope) (words s.scope) pos word tokens rest all
  specifier_full s (tree.CompoundTag pos word tag) tokens rest is high no_brace all =
      let f = front tokens rest (spell_specifier (tree.CompoundTag pos word tag)) all in
      read_at (specifier_by k low s.scope) tokens pos _ _ f.1 f.0 (compound_word_again s.scope pos word tokens
      ∙ tag_again s.scope pos word tag (tail tokens) rest no_brace f.2)
  specifier_full s (tree.Compound pos word tag members) tokens rest is high no_brace all =
      let close = takes_parted tokens rest ((word_at pos (compound_word word) ∷ spell_tag tag)
      ++ (mark p.OpenBrace ∷ spell_members members)) (mark p.CloseBrace ∷ []) all in
      let open_brace =
      takes_parted tokens close.mid (word_at pos (compound_word word) ∷ spell_tag tag)
      (mark p.OpenBrace ∷ spell_members members) close.one in
      let f = front tokens open_brace.mid (word_at pos (compound_word word) ∷ spell_tag tag) open_brace.one in
      let braces = takes_append open_brace.mid close.mid rest (mark p.OpenBrace ∷ spell_members members)
      (mark p.CloseBrace ∷ []) open_brace.two close.two in
      read_at (specifier_by k low s.scope) tokens pos _ _ f.1 f.0
      (compound_word_again s.scope pos word tokens
      ∙ compound_again s.scope pos word tag members (tail tokens) rest is.0 is.1 (omega arith)
      (takes_append (tail tokens) open_brace.mid rest (spell_tag tag)
      (mark p.OpenBrace ∷ (spell_members members ++ mark p.CloseBrace ∷ [])) f.2 braces))
  specifier_full s (tree.EnumTag pos tag) tokens rest is high no_brace all =
      let f = front tokens rest (spell_specifier (tree.EnumTag pos tag)) all in
      read_at (specifier_by k low s.scope) tokens pos _ _ f.1 f.0
      (enum_tag_again s.scope pos tag (tail tokens) rest no_brace f.2)
  specifier_full s (tree.Enum pos tag enumerators comma) tokens rest is high no_brace all =
      let list = mark p.OpenBrace ∷ commas (spelled_enumerators enumerators) in
      let close = takes_parted tokens rest ((word_at pos w.Enum ∷ spell_tag tag) ++ list ++ comma_if comma)
      (mark p.CloseBrace ∷ []) all in
      let ending = takes_parted tokens close.mid ((word_at pos w.Enum ∷ spell_tag tag) ++ list) (comma_if comma)
      close.one in
      let open_brace = takes_parted tokens ending.mid (word_at pos w.Enum ∷ spell_tag tag) list ending.one in
      let f = front tokens open_brace.mid (word_at pos w.Enum ∷ spell_tag tag) open_brace.one in
      read_at (specifier_by k low s.scope) tokens pos _ _ f.1 f.0
      (enumeration_again s.scope pos tag enumerators comma (tail tokens) open_brace.mid ending.mid close.mid rest
      is.0 is.1 (omega arith) f.2 open_brace.two ending.two close.two)
  specifier_full s (tree.TypedefName pos x) tokens rest is high no_brace all =
      let f = front tokens rest (spell_specifier (tree.TypedefName pos x)) all in
      read_at (specifier_by k low s.scope) tokens pos _ _ f.1 f.0 (ap (λ ts. Found (tree.TypedefName pos x) ts) f.2)
