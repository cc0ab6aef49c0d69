-- What is read as a structure, a union or an enumeration is one.
use Rattle.std.proofs.Common.{◌≡◌, ℕ, suc, List, [], ◌∷◌, ◌++◌, Bool, true, false, Option, Some, None, refl, subst}
use Rattle.std.proofs.Common.{arith}
use Rattle.std.specs.List.{flat_map}
use Rattle.c_lexer.specs.declared.punct.Punct.TheVariants as p
use Rattle.c_lexer.specs.declared.token.Token.{Token}
use Rattle.c_lexer.specs.declared.token.Body.{Body}
use Rattle.c_lexer.specs.declared.token.Body.TheVariants as lexeme
use Rattle.c_lexer.specs.declared.word.Word.TheVariants as w
use Rattle.c_syntax.specs.declared.specifier.CompoundWord.{CompoundWord}
use Rattle.c_syntax.specs.declared.specifier.Tag.{Tag}
use Rattle.c_syntax.specs.Height.{member_height, specifier_height, members_height, enumerator_height}
use Rattle.c_syntax.specs.Height.{enumerators_height}
use Rattle.c_syntax.specs.Levels.{conditional}
use Rattle.c_syntax.specs.Operators.{compound_word}
use Rattle.c_reading.specs.Parser.{Found, next_body, place, tail, pure, expect, ◌>>=◌}
use Rattle.c_reading.specs.ReadExpr.{Parsers}
use Rattle.c_reading.specs.declared.type_seen.TypeSeen.{TypeSeen}
use Rattle.c_reading.specs.ReadSpecifier.{Specified, is_nothing, is_other, more_members, compound_body, compound_by}
use Rattle.c_reading.specs.ReadSpecifier.{compound_tag, compound_on, compound, value_by, enumerator_on, enumerator_by}
use Rattle.c_reading.specs.ReadSpecifier.{enumerator, listed_enumerators, enum_body, enum_by, enum_tag, enum_on}
use Rattle.c_reading.specs.ReadSpecifier.{enumeration}
use Rattle.c_reading.specs.ReadToken.{is_mark, name_of, begins_type}
use Rattle.c_syntax.specs.Scopes.{Scope, member_adds, enumerator_adds}
use Rattle.c_syntax.specs.Spelling.{spell_tag, spell_specifier, spell_members, spell_enumerator, spelled_enumerators}
use Rattle.c_syntax.specs.Spelling.{spell_member}
use Rattle.c_syntax.specs.Tokens.{mark, word_at, commas, comma_if}
use Rattle.c_syntax.specs.Tree as tree
use Rattle.c_syntax.specs.Tree.{Specifier, MemberDeclaration, Enumerator}
use Rattle.c_syntax.specs.View.{members, enumerators}
use Rattle.c_syntax.specs.WellFormed.{IsSpecifier, IsMember, AreMembers, IsEnumerator, HasEnumerator, AreEnumerators}
use Rattle.c_reading.proofs.Sound.Steps.{moved, bind_found, deeper_found, mark_then, Spelt, joined, nothing_spelt}
use Rattle.c_reading.proofs.Sound.Steps.{spelt_at, spelt_bare, spelt_mark, listed_found}
use Rattle.c_reading.proofs.NodeLists.{member_list}
use Rattle.c_reading.proofs.Sound.Nodes.{nodes_sound}
use Rattle.c_reading.proofs.Sound.Law.{Read, Listed, spelt, AllSound}
use Rattle.c_reading.proofs.TokenTests.{token_is, name_is}

-- basic words stand with each other, another type alone
abbrev pub May : TypeSeen → Specifier → Type 0
May type_seen (tree.StorageClass pos word) = Unit {0}
May type_seen (tree.TypeQualifier pos word) = Unit {0}
May type_seen (tree.Inline pos) = Unit {0}
May type_seen (tree.BasicType pos word) = is_other type_seen ≡ false
May type_seen _ = is_nothing type_seen ≡ true

-- what is read is one more specifier
abbrev pub IsMore : Specified → ℕ → List Token → Specifier → List Token → Type 0
IsMore s = Read (λ one. IsSpecifier one s.scope × May s.type_seen one) specifier_height spell_specifier

module _ (k : ℕ) (low : Parsers) (sound : AllSound k low) where
  -- ---- structures and unions

  abbrev pub IsBody : Scope → List Token → List MemberDeclaration → List Token → Type 0
  IsBody scope tokens all rest =
      Read (λ all. AreMembers all scope) members_height spell_members k tokens (members all) rest

  pub more_members_sound : (scope : Scope) (tokens rest : List Token) (all : List MemberDeclaration)
      → more_members k low scope tokens ≡ Found all rest → IsBody scope tokens all rest
  unfolding more_members
  more_members_sound = nodes_sound member_list k begins_type low.member sound.member

  compound_read : (s : Specified) → is_nothing s.type_seen ≡ true
      → (word : CompoundWord) (tag : Option Tag) (tokens mid behind second last rest : List Token)
      (first : MemberDeclaration) (more : List MemberDeclaration)
      → Spelt tokens (word_at (place tokens) (compound_word word) ∷ spell_tag tag) mid
      → Spelt mid (mark p.OpenBrace ∷ []) behind
      → Read (λ one. IsMember one s.scope) member_height spell_member k behind first second
      → IsBody (s.scope ++ member_adds first) second more last → Spelt last (mark p.CloseBrace ∷ []) rest
      → IsMore s (suc k) tokens (tree.Compound (place tokens) word tag (members (first ∷ more))) rest
  compound_read s nothing word tag tokens mid behind second last rest first more front opens x y closes = record {
    spells = (joined (joined front (joined opens (joined (spelt x) (spelt y)))) closes).takes;
    fits = ((tt, (x.fits, y.fits)), nothing);
    within = omega (arith, x.within, y.within);
  }

  -- behind the brace; the word and the tag stand before it
  compound_body_sound : (s : Specified) → is_nothing s.type_seen ≡ true
      → (word : CompoundWord) (tag : Option Tag) (tokens mid behind rest : List Token) (one : Specifier)
      → Spelt tokens (word_at (place tokens) (compound_word word) ∷ spell_tag tag) mid
      → Spelt mid (mark p.OpenBrace ∷ []) behind
      → compound_body k low s.scope (place tokens) word tag behind ≡ Found one rest → IsMore s (suc k) tokens one rest
  unfolding compound_body
  compound_body_sound s nothing word tag tokens mid behind rest one front opens h =
      let pos = place tokens in
      let x = bind_found (low.member s.scope behind) (λ first. more_members k low (s.scope ++ member_adds first)
      >>= λ rest. expect (is_mark p.CloseBrace)
      >>= λ _. pure (tree.Compound pos word tag (members (first ∷ rest)))) one rest h in
      let y = bind_found (more_members k low (s.scope ++ member_adds x.value) x.mid)
      (λ rest. expect (is_mark p.CloseBrace)
      >>= λ _. pure (tree.Compound pos word tag (members (x.value ∷ rest)))) one rest x.two in
      let c = mark_then p.CloseBrace (pure (tree.Compound pos word tag (members (x.value ∷ y.value)))) y.mid rest
      one y.two in
      moved (IsMore s (suc k) tokens) {a = tree.Compound pos word tag (members (x.value ∷ y.value))} {tokens =
      c.mid} c.two
      (compound_read s nothing word tag tokens mid behind x.mid y.mid c.mid x.value y.value front opens
      (sound.member s.scope behind x.mid x.value x.one)
      (more_members_sound (s.scope ++ member_adds x.value) x.mid y.mid y.value y.one) c.spelt)

  module _ (s : Specified) (nothing : is_nothing s.type_seen ≡ true) (word : CompoundWord) (tokens rest
      : List Token) (one : Specifier) (is : next_body tokens ≡ Some (lexeme.Word (compound_word word))) where
    compound_by_sound : (x : List ℕ) (b : Bool) → next_body (tail tokens) ≡ Some (lexeme.Name x)
        → is_mark p.OpenBrace (next_body (tail (tail tokens))) ≡ b
        → compound_by k low s.scope (place tokens) word (record { pos = place (tail tokens); name = x }) b
        (tail (tail tokens)) ≡ Found one rest → IsMore s (suc k) tokens one rest
    compound_by_sound x true named opens h =
        compound_body_sound s nothing word (Some (record { pos = place (tail tokens); name = x })) tokens
        (tail (tail tokens)) (tail (tail (tail tokens))) rest one
        (joined (spelt_at tokens (lexeme.Word (compound_word word)) is)
        (spelt_at (tail tokens) (lexeme.Name x) named)) (spelt_mark p.OpenBrace (tail (tail tokens)) opens)
        (deeper_found k
        (λ ts. compound_body k low s.scope (place tokens) word
        (Some (record { pos = place (tail tokens); name = x })) (tail ts)) (tail (tail tokens)) rest one h)
    compound_by_sound x false named opens h =
        moved (IsMore s (suc k) tokens) h (record {
          spells = (joined (spelt_at tokens (lexeme.Word (compound_word word)) is)
              (spelt_at (tail tokens) (lexeme.Name x) named)).takes;
          fits = (tt, nothing);
          within = omega arith;
        })

    compound_on_sound : (o : Option Body) → next_body (tail tokens) ≡ o
        → compound_on k low s.scope (place tokens) word (place (tail tokens)) o (tail tokens) ≡ Found one rest
        → IsMore s (suc k) tokens one rest
    unfolding compound_tag
    compound_on_sound (Some (lexeme.Name x)) next h =
        compound_by_sound x (is_mark p.OpenBrace (next_body (tail (tail tokens)))) next refl h
    compound_on_sound (Some (lexeme.Mark p.OpenBrace)) next h =
        compound_body_sound s nothing word None tokens (tail tokens) (tail (tail tokens)) rest one
        (spelt_at tokens (lexeme.Word (compound_word word)) is)
        (spelt_bare (tail tokens) (lexeme.Mark p.OpenBrace) next)
        (deeper_found k (λ ts. compound_body k low s.scope (place tokens) word None (tail ts)) (tail tokens) rest one h)
    compound_on_sound _ next h = absurd (cc (h))

    pub compound_sound : compound k low s.scope (place tokens) word (tail tokens) ≡ Found one rest
        → IsMore s (suc k) tokens one rest
    unfolding compound
    compound_sound h = compound_on_sound (next_body (tail tokens)) refl h

  -- ---- enumerations

  abbrev pub IsOne : Scope → List Token → Enumerator → List Token → Type 0
  IsOne scope = Read (λ one. IsEnumerator one scope) enumerator_height spell_enumerator k

  value_by_sound : (scope : Scope) (x : List ℕ) (b : Bool) (tokens rest : List Token) (one : Enumerator)
      → next_body tokens ≡ Some (lexeme.Name x) → is_mark p.Assign (next_body (tail tokens)) ≡ b
      → value_by k low scope (place tokens) x b (tail tokens) ≡ Found one rest → IsOne scope tokens one rest
  value_by_sound scope x true tokens rest one is assigns h =
      let y = bind_found (low.expr scope conditional (tail (tail tokens)))
      (λ value. pure (tree.Enumerates (place tokens) x (tree.With value))) one rest
      (deeper_found k
      (λ ts. (low.expr scope conditional >>= λ value. pure (tree.Enumerates (place tokens) x (tree.With value)))
      (tail ts)) (tail tokens) rest one h) in
      let z = sound.expr scope conditional (omega arith) (tail (tail tokens)) y.mid y.value y.one in
      moved (IsOne scope tokens) y.two (record {
        spells = (joined (spelt_at tokens (lexeme.Name x) is)
            (joined (spelt_mark p.Assign (tail tokens) assigns) (spelt z))).takes;
        fits = z.fits;
        within = z.within;
      })
  value_by_sound scope x false tokens rest one is assigns h =
      moved (IsOne scope tokens) h (record {
        spells = (spelt_at tokens (lexeme.Name x) is).takes;
        fits =
            tt;
        within = omega arith;
      })

  enumerator_by_sound : (scope : Scope) (m : Option (List ℕ)) (tokens rest : List Token) (one : Enumerator)
      → name_of (next_body tokens) ≡ m → enumerator_by k low scope (place tokens) m tokens ≡ Found one rest
      → IsOne scope tokens one rest
  unfolding enumerator_on
  enumerator_by_sound scope (Some x) tokens rest one m h =
      value_by_sound scope x (is_mark p.Assign (next_body (tail tokens))) tokens rest one
      (token_is lexeme.Name _ _ x (name_is (next_body tokens)) m) refl h
  enumerator_by_sound scope None tokens rest one m h = absurd (cc (h))

  pub enumerator_sound : (scope : Scope) (tokens rest : List Token) (one : Enumerator)
      → enumerator k low scope tokens ≡ Found one rest → IsOne scope tokens one rest
  unfolding enumerator
  enumerator_sound scope tokens rest one h =
      enumerator_by_sound scope (name_of (next_body tokens)) tokens rest one refl h

  abbrev MoreEnumerated : Scope → List Token → List Enumerator → Bool → List Token → Type 0
  MoreEnumerated scope tokens more b rest =
      Listed (AreEnumerators (enumerators more) scope) (enumerators_height (enumerators more)) k
      (flat_map (λ part. mark p.Comma ∷ part) (spelled_enumerators (enumerators more))) (comma_if b) tokens rest

  no_enumerator : (scope : Scope) (tokens : List Token) → MoreEnumerated scope tokens [] false tokens
  no_enumerator scope tokens =
      record {
        mid = tokens;
        spells = nothing_spelt tokens;
        ends = nothing_spelt tokens;
        fits = tt;
        within =
            omega arith;
      }

  comma_last : (scope : Scope) (tokens rest : List Token) (u : Unit {0}) → is_mark p.Comma (next_body tokens) ≡ true
      → is_mark p.CloseBrace (next_body (tail tokens)) ≡ true → Found tt (tail tokens) ≡ Found u rest
      → MoreEnumerated scope tokens [] true rest
  comma_last scope tokens rest u comma closes h =
      moved (λ u. MoreEnumerated scope tokens [] true) h (record {
        mid = tokens;
        spells =
            nothing_spelt tokens;
        ends = spelt_mark p.Comma tokens comma;
        fits = tt;
        within = omega arith;
      })

  one_enumerator : (scope : Scope) (tokens mid rest : List Token) (one : Enumerator) (more : List Enumerator)
      (b : Bool) → is_mark p.Comma (next_body tokens) ≡ true → enumerator k low scope (tail tokens) ≡ Found one mid
      → MoreEnumerated (scope ++ enumerator_adds one) mid more b rest → MoreEnumerated scope tokens (one ∷ more) b rest
  one_enumerator scope tokens mid rest one more b comma h then =
      let x = enumerator_sound scope (tail tokens) mid one h in
      record {
        mid = then.mid;
        spells = joined (joined (spelt_mark p.Comma tokens comma) (spelt x)) then.spells;
        ends = then.ends;
        fits = (x.fits, then.fits);
        within = omega (arith, x.within, then.within);
      }

  abbrev pub Enumerated : Scope → List Token → List Enumerator × Bool → List Token → Type 0
  Enumerated scope tokens all rest =
      Listed (HasEnumerator (enumerators all.0) × AreEnumerators (enumerators all.0) scope)
      (enumerators_height (enumerators all.0)) k (commas (spelled_enumerators (enumerators all.0)))
      (comma_if all.1) tokens rest

  pub listed_enumerators_sound : (scope : Scope) (tokens rest : List Token) (all : List Enumerator × Bool)
      → listed_enumerators k low scope tokens ≡ Found all rest → Enumerated scope tokens all rest
  unfolding listed_enumerators
  listed_enumerators_sound scope tokens rest all h =
      let x = listed_found (is_mark p.Comma) (is_mark p.CloseBrace) (pure tt) (enumerator k low)
      (λ s one. s ++ enumerator_adds one) MoreEnumerated
      no_enumerator comma_last one_enumerator scope tokens rest all h in
      let y = enumerator_sound scope tokens x.mid x.first x.first_found in
      let then = x.more_found in
      subst (λ (all : List Enumerator × Bool). Enumerated scope tokens all rest) x.all_is (record {
        mid = then.mid;
        spells = joined (spelt y) then.spells;
        ends = then.ends;
        fits = (tt, (y.fits, then.fits));
        within = omega (arith, y.within, then.within);
      })

  enum_body_sound : (s : Specified) → is_nothing s.type_seen ≡ true
      → (tag : Option Tag) (tokens mid behind rest : List Token) (one : Specifier)
      → Spelt tokens (word_at (place tokens) w.Enum ∷ spell_tag tag) mid → Spelt mid (mark p.OpenBrace ∷ []) behind
      → enum_body k low s.scope (place tokens) tag behind ≡ Found one rest → IsMore s (suc k) tokens one rest
  unfolding enum_body
  enum_body_sound s nothing tag tokens mid behind rest one front opens h =
      let x = bind_found (listed_enumerators k low s.scope behind) (λ all. expect (is_mark p.CloseBrace)
      >>= λ _. pure (tree.Enum (place tokens) tag (enumerators all.0) all.1)) one rest h in
      let c = mark_then p.CloseBrace (pure (tree.Enum (place tokens) tag (enumerators x.value.0) x.value.1)) x.mid
      rest one x.two in
      let y = listed_enumerators_sound s.scope behind x.mid x.value x.one in
      moved (IsMore s (suc k) tokens) c.two (record {
        spells = (joined (joined (joined front (joined opens y.spells)) y.ends) c.spelt).takes;
        fits = (y.fits, nothing);
        within = omega (arith, y.within);
      })

  module _ (s : Specified) (nothing : is_nothing s.type_seen ≡ true) (tokens rest : List Token) (one : Specifier)
      (is : next_body tokens ≡ Some (lexeme.Word w.Enum)) where
    enum_by_sound : (x : List ℕ) (b : Bool) → next_body (tail tokens) ≡ Some (lexeme.Name x)
        → is_mark p.OpenBrace (next_body (tail (tail tokens))) ≡ b
        → enum_by k low s.scope (place tokens) (record { pos = place (tail tokens); name = x }) b
        (tail (tail tokens)) ≡ Found one rest → IsMore s (suc k) tokens one rest
    enum_by_sound x true named opens h =
        enum_body_sound s nothing (Some (record { pos = place (tail tokens); name = x })) tokens
        (tail (tail tokens)) (tail (tail (tail tokens))) rest one
        (joined (spelt_at tokens (lexeme.Word w.Enum) is) (spelt_at (tail tokens) (lexeme.Name x) named))
        (spelt_mark p.OpenBrace (tail (tail tokens)) opens) h
    enum_by_sound x false named opens h =
        moved (IsMore s (suc k) tokens) h (record {
          spells = (joined (spelt_at tokens (lexeme.Word w.Enum) is)
              (spelt_at (tail tokens) (lexeme.Name x) named)).takes;
          fits = (tt, nothing);
          within = omega arith;
        })

    enum_on_sound : (o : Option Body) → next_body (tail tokens) ≡ o
        → enum_on k low s.scope (place tokens) (place (tail tokens)) o (tail tokens) ≡ Found one rest
        → IsMore s (suc k) tokens one rest
    unfolding enum_tag
    enum_on_sound (Some (lexeme.Name x)) next h =
        enum_by_sound x (is_mark p.OpenBrace (next_body (tail (tail tokens)))) next refl h
    enum_on_sound (Some (lexeme.Mark p.OpenBrace)) next h =
        enum_body_sound s nothing None tokens (tail tokens) (tail (tail tokens)) rest one
        (spelt_at tokens (lexeme.Word w.Enum) is) (spelt_bare (tail tokens) (lexeme.Mark p.OpenBrace) next) h
    enum_on_sound _ next h = absurd (cc (h))

    pub enumeration_sound : enumeration k low s.scope (place tokens) (tail tokens) ≡ Found one rest
        → IsMore s (suc k) tokens one rest
    unfolding enumeration
    enumeration_sound h = enum_on_sound (next_body (tail tokens)) refl h
