-- Where the reading of a structure, a union or an enumeration stops, specifiers begin with what was read.
use Rattle.std.proofs.Common.{◌≡◌, ℕ, suc, ◌<◌, List, [], ◌∷◌, ◌++◌, Bool, true, false, Option, Some, None, inl, inr}
use Rattle.std.proofs.Common.{refl, subst, append_assoc, arith}
use Rattle.c_lexer.specs.declared.punct.Punct.TheVariants as p
use Rattle.c_lexer.specs.declared.token.Token.{Token}
use Rattle.c_lexer.specs.declared.token.Body.{Body}
use Rattle.c_lexer.specs.declared.token.Body.TheVariants as lexeme
use Rattle.c_lexer.specs.declared.word.Word.TheVariants as w
use Rattle.c_syntax.specs.declared.specifier.CompoundWord.{CompoundWord}
use Rattle.c_syntax.specs.declared.specifier.Tag.{Tag}
use Rattle.c_syntax.specs.declared.spelled.Spelled.{Spelled}
use Rattle.c_syntax.specs.Begin.{Begins, BeginsSpecifiers}
use Rattle.c_syntax.specs.Height.{height, member_height, members_height, specifiers_height, enumerator_height}
use Rattle.c_syntax.specs.Height.{enumerators_height}
use Rattle.c_syntax.specs.Levels.{conditional}
use Rattle.c_syntax.specs.Operators.{compound_word}
use Rattle.c_reading.specs.Parser.{Why, Stopped, next_body, place, tail, pure, expect, ◌>>=◌}
use Rattle.c_reading.specs.ReadExpr.{Parsers}
use Rattle.c_reading.specs.ReadSpecifier.{more_members, compound_body, compound_by, compound_tag, compound_on}
use Rattle.c_reading.specs.ReadSpecifier.{compound, value_by, enumerator_on, enumerator_by, enumerator}
use Rattle.c_reading.specs.ReadSpecifier.{listed_enumerators, enum_body, enum_by, enum_tag, enum_on, enumeration}
use Rattle.c_reading.specs.ReadToken.{is_mark, name_of, begins_type}
use Rattle.c_syntax.specs.Scopes.{Scope, member_adds, enumerator_adds}
use Rattle.c_syntax.specs.Spelling.{spell, spell_tag, spell_specifiers, spell_member, spell_members, spell_enumerator}
use Rattle.c_syntax.specs.Spelling.{spelled_enumerators}
use Rattle.c_syntax.specs.Tokens.{mark, word_at, name_at, commas}
use Rattle.c_syntax.specs.Tree as tree
use Rattle.c_syntax.specs.Tree.{Specifiers, MemberDeclaration, Members}
use Rattle.c_syntax.specs.View.{members, enumerators}
use Rattle.c_syntax.specs.WellFormed.{SpecifyOneType, HasEnumerator, IsExpr, AreSpecifiers, IsMember, AreMembers}
use Rattle.c_syntax.specs.WellFormed.{IsEnumerator, AreEnumerators}
use Rattle.c_reading.proofs.Viable.Contexts.{Context, Completed, stopped, bind_stopped, given_stopped, close_stopped}
use Rattle.c_reading.proofs.Viable.Contexts.{deeper_stopped, refused, too_deep, into}
use Rattle.c_reading.proofs.Sound.Steps.{joined, nothing_spelt, Spelt, spelt_at, spelt_bare, spelt_mark}
use Rattle.c_reading.proofs.Sound.Law.{spelt, AllSound}
use Rattle.c_reading.proofs.Sound.Compound.{more_members_sound, enumerator_sound, listed_enumerators_sound}
use Rattle.c_reading.proofs.Viable.Started.{origin, least_expr, least_specifiers, least_tag, one_type}
use Rattle.c_reading.proofs.TokenTests.{token_is, name_is}
use Rattle.c_reading.proofs.Viable.Law.{Holds, AllViable}
use Rattle.c_reading.proofs.NodeLists.{member_list}
use Rattle.c_reading.proofs.Viable.Nodes.{nodes_viable}
use Rattle.c_reading.proofs.Viable.Lists.{nothing_behind, listed_viable}

abbrev least_members : Members
least_members = tree.MoreMembers (tree.Declares least_specifiers tree.NoDeclarator) tree.NoMember

in_braces : (front inner : List Spelled) → front ++ mark p.OpenBrace ∷ inner ++ mark p.CloseBrace ∷ [] ++ []
    ≡ front ++ mark p.OpenBrace ∷ [] ++ (inner ++ mark p.CloseBrace ∷ [])
in_braces front inner = simp append_assoc

module _ (k : ℕ) (low : Parsers) (sound : AllSound k low) (viable : AllViable k low) where
  -- ---- structures and unions

  more_members_viable : 0 < k → (scope : Scope) (tokens rest : List Token) (why : Why)
      → more_members k low scope tokens ≡ Stopped why rest
      → Holds (Begins (λ all. AreMembers all scope) members_height spell_members) k tokens why rest
  unfolding more_members
  more_members_viable some =
      nodes_viable member_list k begins_type low.member sound.member
      (λ s tokens rest why h. viable.member s tokens rest why some h)

  module _ (scope : Scope) (word : CompoundWord) (tokens rest : List Token) (why : Why) where
    abbrev Stops : Why → List Token → Type 0
    Stops = Holds (BeginsSpecifiers scope) (suc k) tokens

    -- behind the brace; the word and the tag stand before it
    module _ (tag : Option Tag) (behind : List Token)
        (opens : Spelt tokens (word_at (place tokens) (compound_word word) ∷ spell_tag tag ++ mark p.OpenBrace ∷ [])
        behind) where
      abbrev whole : Members → Specifiers
      whole all = tree.MoreSpecifiers (tree.Compound (place tokens) word tag all) tree.NoSpecifier

      in_compound : Context (λ one. IsMember one scope) member_height spell_member (λ all. SpecifyOneType all
          × AreSpecifiers all scope) specifiers_height spell_specifiers suc 0
          (word_at (place tokens) (compound_word word) ∷ spell_tag tag ++ mark p.OpenBrace ∷ [])
      in_compound = record {
        make = λ one. whole (tree.MoreMembers one tree.NoMember);
        behind = mark p.CloseBrace ∷ [];
        fits = λ one is. (inr (refl, refl), ((tt, (is, tt)), tt));
        within = λ one j low le. omega arith;
        spells = λ one. simp append_assoc;
      }

      in_more : (first : MemberDeclaration) → IsMember first scope
          → Context (λ all. AreMembers all (scope ++ member_adds first)) members_height spell_members
          (λ all. SpecifyOneType all × AreSpecifiers all scope) specifiers_height spell_specifiers suc
          (member_height first)
          (word_at (place tokens) (compound_word word) ∷ spell_tag tag ++ mark p.OpenBrace ∷ spell_member first)
      in_more first is = record {
        make = λ all. whole (tree.MoreMembers first all);
        behind = mark p.CloseBrace ∷ [];
        fits = λ all are. (inr (refl, refl), ((tt, (is, are)), tt));
        within = λ all j low le. omega arith;
        spells = λ all. simp append_assoc;
      }

      compound_body_viable : 0 < k → compound_body k low scope (place tokens) word tag behind ≡ Stopped why rest
          → Stops why rest
      unfolding compound_body
      compound_body_viable some h =
          elim (bind_stopped (low.member scope behind) (λ first. more_members k low (scope ++ member_adds first)
          >>= λ rest. expect (is_mark p.CloseBrace)
          >>= λ _. pure (tree.Compound (place tokens) word tag (members (first ∷ rest)))) why rest h) [
            | inl x ↦ into in_compound (omega arith) opens (viable.member scope behind rest why some x)
            | inr x ↦
                (let first = sound.member scope behind x.mid x.value x.one in
                let inner : Scope = scope ++ member_adds x.value in
                elim (bind_stopped (more_members k low inner x.mid) (λ rest. expect (is_mark p.CloseBrace)
                >>= λ _. pure (tree.Compound (place tokens) word tag (members (x.value ∷ rest)))) why rest x.two) [
                  | inl y ↦ into (in_more x.value first.fits) first.within
                      (regroup (spell_member x.value) x.mid (joined opens (spelt first)))
                      (more_members_viable some inner x.mid rest why y)
                  | inr y ↦
                      (let more = more_members_sound k low sound inner x.mid y.mid y.value y.one in
                      close_stopped p.CloseBrace
                      (tree.Compound (place tokens) word tag (members (x.value ∷ y.value))) Stops y.mid why rest
                      y.two
                      (refused (joined (joined opens (spelt first)) (spelt more)) (record {
                        node = whole (members (x.value ∷ y.value));
                        more = mark p.CloseBrace ∷ [];
                        fits = (inr (refl, refl), ((tt, (first.fits, more.fits)), tt));
                        within = omega (arith, first.within, more.within);
                        parts = simp append_assoc;
                      })))
                ])
          ]
        where
          regroup : (all : List Spelled) (mid : List Token)
              → Spelt tokens ((word_at (place tokens) (compound_word word) ∷ spell_tag tag ++ mark p.OpenBrace ∷ [])
              ++ all) mid
              → Spelt tokens (word_at (place tokens) (compound_word word) ∷ spell_tag tag ++ mark p.OpenBrace ∷ all) mid
          regroup all mid x =
              subst (λ z. Spelt tokens z mid)
              (append_assoc (word_at (place tokens) (compound_word word) ∷ spell_tag tag) (mark p.OpenBrace ∷ []) all) x

      brace_deep : Completed (λ all. SpecifyOneType all × AreSpecifiers all scope) specifiers_height
          spell_specifiers 2 (word_at (place tokens) (compound_word word) ∷ spell_tag tag ++ mark p.OpenBrace ∷ [])
      brace_deep = record {
        node = whole least_members;
        more =
            spell_members least_members ++ mark p.CloseBrace ∷ [];
        fits =
            (inr (refl, refl), ((tt, ((one_type, (tt, tt), tt), tt)), tt));
        within = omega arith;
        parts =
            in_braces (word_at (place tokens) (compound_word word) ∷ spell_tag tag) (spell_members least_members);
      }

    module _ (is : next_body tokens ≡ Some (lexeme.Word (compound_word word))) where
      first : Spelt tokens (word_at (place tokens) (compound_word word) ∷ []) (tail tokens)
      first = spelt_at tokens (lexeme.Word (compound_word word)) is

      only_word : Completed (λ all. SpecifyOneType all × AreSpecifiers all scope) specifiers_height spell_specifiers
          (suc k) (word_at (place tokens) (compound_word word) ∷ [])
      only_word = record {
        node =
            tree.MoreSpecifiers (tree.CompoundTag (place tokens) word least_tag) tree.NoSpecifier;
        more =
            name_at origin [] ∷ [];
        fits = (inr (refl, refl), (tt, tt));
        within = omega arith;
        parts = refl;
      }

      compound_by_viable : (x : List ℕ) (b : Bool) → next_body (tail tokens) ≡ Some (lexeme.Name x)
          → is_mark p.OpenBrace (next_body (tail (tail tokens))) ≡ b
          → compound_by k low scope (place tokens) word (record { pos = place (tail tokens); name = x }) b
          (tail (tail tokens)) ≡ Stopped why rest → Stops why rest
      compound_by_viable x true named opens h =
          let tag : Tag = record { pos = place (tail tokens); name = x } in
          let front = joined first (spelt_at (tail tokens) (lexeme.Name x) named) in
          let brace = spelt_mark p.OpenBrace (tail (tail tokens)) opens in
          deeper_stopped Stops k (λ ts. compound_body k low scope (place tokens) word (Some tag) (tail ts))
          (tail (tail tokens)) why rest h
          (too_deep {high = 2} front brace
          (record {
            node = tree.MoreSpecifiers (tree.CompoundTag (place tokens) word tag) tree.NoSpecifier;
            more =
                [];
            fits = (inr (refl, refl), (tt, tt));
            within = omega arith;
            parts = refl;
          })
          (brace_deep (Some tag) (tail (tail (tail tokens))) (joined front brace)))
          (λ some g. compound_body_viable (Some tag) (tail (tail (tail tokens))) (joined front brace) some g)
      compound_by_viable x false named opens h = absurd (cc (h))

      compound_on_viable : (o : Option Body) → next_body (tail tokens) ≡ o
          → compound_on k low scope (place tokens) word (place (tail tokens)) o (tail tokens) ≡ Stopped why rest
          → Stops why rest
      unfolding compound_tag
      compound_on_viable (Some (lexeme.Name x)) next h =
          compound_by_viable x (is_mark p.OpenBrace (next_body (tail (tail tokens)))) next refl h
      compound_on_viable (Some (lexeme.Mark p.OpenBrace)) next h =
          let brace = spelt_bare (tail tokens) (lexeme.Mark p.OpenBrace) next in
          deeper_stopped Stops k (λ ts. compound_body k low scope (place tokens) word None (tail ts)) (tail tokens)
          why rest h
          (too_deep {high = 2} first brace only_word (brace_deep None (tail (tail tokens)) (joined first brace)))
          (λ some g. compound_body_viable None (tail (tail tokens)) (joined first brace) some g)
      compound_on_viable _ next h = stopped Stops h (refused first only_word)

      pub compound_viable : compound k low scope (place tokens) word (tail tokens) ≡ Stopped why rest → Stops why rest
      unfolding compound
      compound_viable h = compound_on_viable (next_body (tail tokens)) refl h

  -- ---- enumerations

  abbrev BeginsOne : Scope → ℕ → List Token → Type 0
  BeginsOne scope = Begins (λ one. IsEnumerator one scope) enumerator_height spell_enumerator

  module _ (scope : Scope) (tokens rest : List Token) (why : Why) where
    value_by_viable : (x : List ℕ) (b : Bool) → next_body tokens ≡ Some (lexeme.Name x)
        → is_mark p.Assign (next_body (tail tokens)) ≡ b → value_by k low scope (place tokens) x b (tail tokens)
        ≡ Stopped why rest → Holds (BeginsOne scope) k tokens why rest
    value_by_viable x true is assigns h =
        let name = spelt_at tokens (lexeme.Name x) is in
        let assign = spelt_mark p.Assign (tail tokens) assigns in
        let in_value : Context (λ e. IsExpr e scope conditional) height spell (λ one. IsEnumerator one scope)
        enumerator_height spell_enumerator (λ j. j) 0 (name_at (place tokens) x ∷ mark p.Assign ∷ []) =
        record {
          make = λ e. tree.Enumerates (place tokens) x (tree.With e);
          behind = [];
          fits =
              λ e is. is;
          within = λ e j low le. le;
          spells =
              λ e. nothing_behind (name_at (place tokens) x ∷ mark p.Assign ∷ []) (spell e);
        } in
        deeper_stopped (Holds (BeginsOne scope) k tokens) k
        (λ ts. (low.expr scope conditional
        >>= λ value. pure (tree.Enumerates (place tokens) x (tree.With value))) (tail ts)) (tail tokens) why rest h
        (too_deep {high = 1} name assign (record {
          node = tree.Enumerates (place tokens) x tree.Without;
          more =
              [];
          fits = tt;
          within = omega arith;
          parts = refl;
        })
        (record {
          node = tree.Enumerates (place tokens) x (tree.With least_expr);
          more = spell least_expr;
          fits =
              tt;
          within = omega arith;
          parts = refl;
        }))
        (λ some g. into in_value (omega arith) (joined name assign)
        (viable.expr scope conditional (tail (tail tokens)) rest why (omega arith) some
        (given_stopped (low.expr scope conditional (tail (tail tokens)))
        (λ value. tree.Enumerates (place tokens) x (tree.With value)) why rest g)))
    value_by_viable x false is assigns h = absurd (cc (h))

    enumerator_by_viable : (m : Option (List ℕ)) → name_of (next_body tokens) ≡ m
        → enumerator_by k low scope (place tokens) m tokens ≡ Stopped why rest
        → Holds (BeginsOne scope) k tokens why rest
    unfolding enumerator_on
    enumerator_by_viable (Some x) m h =
        value_by_viable x (is_mark p.Assign (next_body (tail tokens)))
        (token_is lexeme.Name _ _ x (name_is (next_body tokens)) m) refl h
    enumerator_by_viable None m h =
        stopped (Holds (BeginsOne scope) k tokens) h
        (refused (nothing_spelt tokens) (record {
          node = tree.Enumerates origin [] tree.Without;
          more =
              name_at origin [] ∷ [];
          fits = tt;
          within = omega arith;
          parts = refl;
        }))

    enumerator_viable : enumerator k low scope tokens ≡ Stopped why rest → Holds (BeginsOne scope) k tokens why rest
    unfolding enumerator
    enumerator_viable h = enumerator_by_viable (name_of (next_body tokens)) refl h

  listed_enumerators_viable : (scope : Scope) (tokens rest : List Token) (why : Why)
      → listed_enumerators k low scope tokens ≡ Stopped why rest
      → Holds (Begins (λ all. HasEnumerator all × AreEnumerators all scope) enumerators_height
      (λ all. commas (spelled_enumerators all))) k tokens why rest
  unfolding listed_enumerators
  listed_enumerators_viable scope tokens rest why h =
      listed_viable k (λ s one. IsEnumerator one s) enumerator_height spell_enumerator
      (λ s one. s ++ enumerator_adds one)
      (λ s all. HasEnumerator all × AreEnumerators all s) (λ s all. AreEnumerators all s) enumerators_height
      spelled_enumerators tree.NoEnumerator tree.MoreEnumerators
      (λ s. tt) (λ s one all is are. (is, are)) (λ s one all is are. (tt, (is, are))) refl (λ one all. refl) refl
      (λ one all. refl)
      (is_mark p.CloseBrace) (pure tt) (λ tokens rest why h. cc (h)) (enumerator k low)
      (λ s tokens rest one h. enumerator_sound k low sound s tokens rest one h) enumerator_viable scope tokens rest
      why h

  module _ (scope : Scope) (tokens rest : List Token) (why : Why) where
    abbrev Ends : Why → List Token → Type 0
    Ends = Holds (BeginsSpecifiers scope) (suc k) tokens

    module _ (tag : Option Tag) (behind : List Token)
        (opens : Spelt tokens (word_at (place tokens) w.Enum ∷ spell_tag tag ++ mark p.OpenBrace ∷ []) behind) where
      in_enum : Context (λ all. HasEnumerator all × AreEnumerators all scope) enumerators_height
          (λ all. commas (spelled_enumerators all)) (λ all. SpecifyOneType all × AreSpecifiers all scope)
          specifiers_height spell_specifiers suc 0
          (word_at (place tokens) w.Enum ∷ spell_tag tag ++ mark p.OpenBrace ∷ [])
      in_enum = record {
        make = λ all. tree.MoreSpecifiers (tree.Enum (place tokens) tag all false) tree.NoSpecifier;
        behind = mark p.CloseBrace ∷ [];
        fits = λ all are. (inr (refl, refl), (are, tt));
        within = λ all j low le. omega arith;
        spells = λ all. simp append_assoc;
      }

      enum_body_viable : enum_body k low scope (place tokens) tag behind ≡ Stopped why rest → Ends why rest
      unfolding enum_body
      enum_body_viable h =
          elim (bind_stopped (listed_enumerators k low scope behind) (λ all. expect (is_mark p.CloseBrace)
          >>= λ _. pure (tree.Enum (place tokens) tag (enumerators all.0) all.1)) why rest h) [
            | inl x ↦ into in_enum (omega arith) opens (listed_enumerators_viable scope behind rest why x)
            | inr x ↦
                (let y = listed_enumerators_sound k low sound scope behind x.mid x.value x.one in
                close_stopped p.CloseBrace (tree.Enum (place tokens) tag (enumerators x.value.0) x.value.1) Ends
                x.mid why rest x.two
                (refused (joined (joined opens y.spells) y.ends) (record {
                  node = tree.MoreSpecifiers (tree.Enum (place tokens) tag (enumerators x.value.0) x.value.1)
                      tree.NoSpecifier;
                  more = mark p.CloseBrace ∷ [];
                  fits = (inr (refl, refl), (y.fits, tt));
                  within = omega (arith, y.within);
                  parts = simp append_assoc;
                })))
          ]

    module _ (is : next_body tokens ≡ Some (lexeme.Word w.Enum)) where
      first_word : Spelt tokens (word_at (place tokens) w.Enum ∷ []) (tail tokens)
      first_word = spelt_at tokens (lexeme.Word w.Enum) is

      enum_by_viable : (x : List ℕ) (b : Bool) → next_body (tail tokens) ≡ Some (lexeme.Name x)
          → is_mark p.OpenBrace (next_body (tail (tail tokens))) ≡ b
          → enum_by k low scope (place tokens) (record { pos = place (tail tokens); name = x }) b
          (tail (tail tokens)) ≡ Stopped why rest → Ends why rest
      enum_by_viable x true named opens h =
          enum_body_viable (Some (record { pos = place (tail tokens); name = x })) (tail (tail (tail tokens)))
          (joined (joined first_word (spelt_at (tail tokens) (lexeme.Name x) named))
          (spelt_mark p.OpenBrace (tail (tail tokens)) opens)) h
      enum_by_viable x false named opens h = absurd (cc (h))

      enum_on_viable : (o : Option Body) → next_body (tail tokens) ≡ o
          → enum_on k low scope (place tokens) (place (tail tokens)) o (tail tokens) ≡ Stopped why rest → Ends why rest
      unfolding enum_tag
      enum_on_viable (Some (lexeme.Name x)) next h =
          enum_by_viable x (is_mark p.OpenBrace (next_body (tail (tail tokens)))) next refl h
      enum_on_viable (Some (lexeme.Mark p.OpenBrace)) next h =
          enum_body_viable None (tail (tail tokens))
          (joined first_word (spelt_bare (tail tokens) (lexeme.Mark p.OpenBrace) next)) h
      enum_on_viable _ next h =
          stopped Ends h
          (refused first_word
          (record {
            node = tree.MoreSpecifiers (tree.EnumTag (place tokens) least_tag) tree.NoSpecifier;
            more =
                name_at origin [] ∷ [];
            fits = (inr (refl, refl), (tt, tt));
            within = omega arith;
            parts = refl;
          }))

      pub enumeration_viable : enumeration k low scope (place tokens) (tail tokens) ≡ Stopped why rest → Ends why rest
      unfolding enumeration
      enumeration_viable h = enum_on_viable (next_body (tail tokens)) refl h
