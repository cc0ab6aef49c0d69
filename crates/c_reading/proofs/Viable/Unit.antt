-- Where the reading of an external declaration or of a unit stops, one begins with what was read.
use Rattle.std.proofs.Common.{◌≡◌, inl, inr, ℕ, zero, suc, pred, ◌≤◌, max, List, [], ◌∷◌, ◌++◌, Bool, true, false}
use Rattle.std.proofs.Common.{is_some, refl, sym, ap, append_assoc, append-nil, arith}
use Rattle.std.proofs.lemmas.Bool.{and_parts}
use Rattle.c_lexer.specs.declared.punct.Punct.TheVariants as p
use Rattle.c_lexer.specs.declared.token.Token.{Token}
use Rattle.c_lexer.specs.declared.word.Word.TheVariants as w
use Rattle.c_reading.specs.declared.declarator_form.DeclaratorForm.TheVariants as form
use Rattle.c_syntax.specs.declared.spelled.Spelled.{Spelled}
use Rattle.c_syntax.specs.Begin.{Begins, BeginsExternal, BeginsTree}
use Rattle.c_syntax.specs.Height.{specifiers_height, declarator_height}
use Rattle.c_syntax.specs.HeightUnit.{block_items_height, declaration_height, assert_height, external_height}
use Rattle.c_syntax.specs.HeightUnit.{externals_height, tree_height}
use Rattle.c_reading.specs.Parser.{Why, Stopped, ◌>>=◌, pure, peek, next_body, tail, many}
use Rattle.c_reading.specs.ReadBody.{statements, declared_on, assert_at, block_lower, is_body, function_scope}
use Rattle.c_reading.specs.ReadBody.{external_declared, external_on, external_by, external_at, externals}
use Rattle.c_reading.specs.ReadSpecifier.{parsers}
use Rattle.c_reading.specs.ReadToken.{is_mark, is_word}
use Rattle.c_syntax.specs.Scopes.{Scope, predeclared, specifiers_add}
use Rattle.c_syntax.specs.ScopesUnit.{own_parameters, external_adds}
use Rattle.c_syntax.specs.Spelling.{spell_specifiers, spell_declarator}
use Rattle.c_syntax.specs.SpellingUnit.{spell_declaration, spell_assert, spell_block_items, spell_external, spell_tree}
use Rattle.c_syntax.specs.Tokens.{mark}
use Rattle.c_syntax.specs.Tree.{Specifiers, Declarator}
use Rattle.c_syntax.specs.TreeUnit.{External, Defines, Declaring, Asserting}
use Rattle.c_syntax.specs.WellFormed.{DeclaresName, IsDeclarator}
use Rattle.c_syntax.specs.WellFormedUnit.{IsDeclaration, IsAssert, AreBlockItems, IsExternal, AreExternals, IsTree}
use Rattle.c_reading.proofs.Viable.Completions.{refused_behind}
use Rattle.c_reading.proofs.Viable.Contexts.{bind_stopped, given_stopped, Context, into}
use Rattle.c_reading.proofs.Sound.Steps.{chosen, joined, nothing_spelt, spelt_mark}
use Rattle.c_reading.proofs.Sound.Law.{spelt}
use Rattle.c_reading.proofs.Sound.BlockItem.{statements_sound}
use Rattle.c_reading.proofs.Sound.Unit.{external_sound}
use Rattle.c_reading.proofs.Sound.Declaration.{SpecifiersRead, DeclaratorRead}
use Rattle.c_reading.proofs.Sound.Specifier.{parsers_sound}
use Rattle.c_reading.proofs.Viable.Started.{origin, least_specifiers, one_type}
use Rattle.c_reading.proofs.Viable.Law.{Holds}
use Rattle.c_reading.proofs.Viable.Assert.{assertion_stopped}
use Rattle.c_reading.proofs.NodeLists.{spell_externals, external_list}
use Rattle.c_reading.proofs.Viable.Block.{block_with_stopped}
use Rattle.c_reading.proofs.Viable.Nodes.{nodes_viable}
use Rattle.c_reading.proofs.Viable.Declaration.{named_room, declarator_stopped, declared_on_viable, specifiers_stopped}
use Rattle.c_reading.proofs.Viable.BlockItem.{block_item_viable}

-- ---- external declarations

abbrev InExternal : {A : Type 0} → (A → Type 0) → (A → ℕ) → (A → List Spelled) → Scope → (ℕ → ℕ) → ℕ → List Spelled
    → Type 0
InExternal Fits tall spelled scope =
    Context Fits tall spelled (λ one. IsExternal one scope) external_height spell_external

a_declaration : (scope : Scope)
    → InExternal (λ one. IsDeclaration one scope) declaration_height spell_declaration scope (λ j. j) 0 []
a_declaration scope = record {
  make = λ one. Declaring one;
  behind = [];
  fits = λ one fits. fits;
  within =
      λ one j others low. low;
  spells = λ one. sym (append-nil (spell_declaration one));
}

an_assertion : (scope : Scope) → InExternal (λ one. IsAssert one scope) assert_height spell_assert scope (λ j. j) 0 []
an_assertion scope = record {
  make = λ one. Asserting one;
  behind = [];
  fits = λ one fits. fits;
  within =
      λ one j others low. low;
  spells = λ one. sym (append-nil (spell_assert one));
}

module _ (k : ℕ) where
  module _ (scope : Scope) (start : List Token) (all : Specifiers) (mid : List Token)
      (specified : SpecifiersRead k scope start all mid) where
    -- the other parts have one height less than the function at most
    body_of : (one : Declarator) → (is_some (own_parameters one) ≡ true)
        → IsDeclarator one (scope ++ specifiers_add all) × DeclaresName one
        → InExternal (λ items. AreBlockItems items (function_scope k scope all one)) block_items_height
        spell_block_items scope (λ j. suc (suc j)) (pred (max (specifiers_height all) (declarator_height one)))
        (spell_specifiers all ++ spell_declarator one ++ mark p.OpenBrace ∷ [])
    body_of one has declared = record {
      make = λ items. Defines (record { specifiers = all; declarator = one; body = items });
      behind = mark p.CloseBrace ∷ [];
      fits = λ items fits. (specified.fits.0, specified.fits.1, declared.0, declared.1, has, fits);
      within = λ items j others low. omega arith;
      spells = λ items. simp append_assoc;
    }

    -- some height is left for the body, since there is a declarator
    body_viable : (j : ℕ) → suc j ≡ k → (tokens rest : List Token) (one : Declarator) (why : Why)
        → DeclaratorRead k (scope ++ specifiers_add all) mid one tokens → is_body one (next_body tokens) ≡ true
        → block_lower (suc j) (function_scope k scope all one) (tail tokens) ≡ Stopped why rest
        → Holds (BeginsExternal scope) (suc (suc j)) start why rest
    body_viable j room tokens rest one why declared body h =
        let parts = and_parts (is_mark p.OpenBrace (next_body tokens)) (is_some (own_parameters one)) body in
        let inner : Scope = function_scope k scope all one in
        let context = body_of one parts.1 declared.fits in
        let before = joined (joined (spelt specified) (spelt declared)) (spelt_mark p.OpenBrace tokens parts.0) in
        let others : pred (max (specifiers_height all) (declarator_height one)) ≤ j =
        omega (arith, specified.within, declared.within, room) in
        block_with_stopped j (statements j).block_item (statements_sound j).block_item (block_item_viable j)
        (Holds (BeginsExternal scope) (suc (suc j)) start) inner (tail tokens) rest why h
        (λ x. into context others before x)
        (λ items mid read. refused_behind context others before read)

    lower_viable : (tokens rest : List Token) (one : Declarator) (why : Why) (m : ℕ) → m ≡ k
        → DeclaratorRead k (scope ++ specifiers_add all) mid one tokens → is_body one (next_body tokens) ≡ true
        → block_lower m (function_scope k scope all one) (tail tokens) ≡ Stopped why rest
        → Holds (BeginsExternal scope) (suc m) start why rest
    lower_viable tokens rest one why zero room declared body h =
        absurd (omega (arith, room, named_room one declared.fits.1 declared.within))
    lower_viable tokens rest one why (suc j) room declared body h =
        body_viable j room tokens rest one why declared body h

    external_declared_viable : (tokens rest : List Token) (one : Declarator) (why : Why) (b : Bool)
        → DeclaratorRead k (scope ++ specifiers_add all) mid one tokens → is_body one (next_body tokens) ≡ b
        → external_declared k scope all one b tokens ≡ Stopped why rest
        → Holds (BeginsExternal scope) (suc k) start why rest
    external_declared_viable tokens rest one why true declared body h =
        lower_viable tokens rest one why k refl declared body
        (given_stopped (block_lower k (function_scope k scope all one) (tail tokens))
        (λ items. Defines (record { specifiers = all; declarator = one; body = items })) why rest h)
    external_declared_viable tokens rest one why false declared body h =
        into (a_declaration scope) (omega arith) (nothing_spelt start)
        (declared_on_viable k scope start mid tokens rest all one why specified declared
        (given_stopped (declared_on k (scope ++ specifiers_add all) all one tokens) (λ one. Declaring one) why
        rest h))

    external_by_viable : (rest : List Token) (why : Why) (b : Bool)
        → external_by k scope all b mid ≡ Stopped why rest → Holds (BeginsExternal scope) (suc k) start why rest
    unfolding external_on
    external_by_viable rest why true h = absurd (cc (h))
    external_by_viable rest why false h =
        elim (bind_stopped ((parsers k).declarator form.Named (scope ++ specifiers_add all) mid)
        (external_on k scope all) why rest h) [
          | inl x ↦ into (a_declaration scope) (omega arith) (nothing_spelt start)
              (declarator_stopped scope start mid all k rest why specified x)
          | inr x ↦ external_declared_viable x.mid rest x.value why (is_body x.value (next_body x.mid))
              ((parsers_sound k).declarator form.Named (scope ++ specifiers_add all) mid x.mid x.value x.one) refl x.two
        ]

  specified_viable : (scope : Scope) (tokens rest : List Token) (why : Why)
      → ((parsers k).specifiers scope >>= λ all. peek (λ next. external_by k scope all (is_mark p.Semicolon next)))
      tokens ≡ Stopped why rest
      → Holds (BeginsExternal scope) (suc k) tokens why rest
  specified_viable scope tokens rest why h =
      elim (bind_stopped ((parsers k).specifiers scope tokens)
      (λ all. peek (λ next. external_by k scope all (is_mark p.Semicolon next))) why rest h) [
        | inl x ↦ into (a_declaration scope) (omega arith) (nothing_spelt tokens)
            (specifiers_stopped k scope tokens rest why x)
        | inr x ↦ external_by_viable scope tokens x.value x.mid
            ((parsers_sound k).specifiers scope tokens x.mid x.value x.one) rest why
            (is_mark p.Semicolon (next_body x.mid)) x.two
      ]

  asserting_viable : (scope : Scope) (tokens rest : List Token) (why : Why)
      → is_word w.StaticAssert (next_body tokens) ≡ true → assert_at k scope tokens ≡ Stopped why rest
      → Holds (BeginsExternal scope) (suc k) tokens why rest
  asserting_viable scope tokens rest why is h =
      assertion_stopped k scope tokens rest why (an_assertion scope)
      (record {
        node = Declaring (record { specifiers = least_specifiers; declarators = [] });
        more =
            spell_declaration (record { specifiers = least_specifiers; declarators = [] });
        fits =
            (one_type, (tt, tt), tt);
        within = omega arith;
        parts = refl;
      }) is h

  pub external_viable : (scope : Scope) (tokens rest : List Token) (why : Why)
      → external_at k scope tokens ≡ Stopped why rest → Holds (BeginsExternal scope) (suc k) tokens why rest
  unfolding external_at
  external_viable scope tokens rest why h =
      elim (chosen (is_word w.StaticAssert (next_body tokens)) _ _ tokens (Stopped why rest) h) [
        | inl x ↦ asserting_viable scope tokens rest why x.0
            (given_stopped (assert_at k scope tokens) (λ one. Asserting one) why rest x.1)
        | inr x ↦ specified_viable scope tokens rest why x.1
      ]

  -- ---- all tokens of a unit

  more_externals_viable : (scope : Scope) (tokens rest : List Token) (why : Why)
      → many (λ s o. is_some o) (external_at k) (λ s one. s ++ external_adds one) scope tokens ≡ Stopped why rest
      → Holds (Begins (λ all. AreExternals all scope) externals_height spell_externals) (suc k) tokens why rest
  more_externals_viable =
      nodes_viable external_list (suc k) (λ s o. is_some o) (external_at k) (external_sound k) external_viable

  abbrev InTree : {A : Type 0} → (A → Type 0) → (A → ℕ) → (A → List Spelled) → ℕ → List Spelled → Type 0
  InTree Fits tall spelled = Context Fits tall spelled IsTree tree_height spell_tree (λ j. suc j)

  one_external : InTree (λ one. IsExternal one predeclared) external_height spell_external 0 []
  one_external = record {
    make = λ one. record { externals = one ∷ []; end = origin };
    behind = [];
    fits =
        λ one fits. (λ none. cc (none), (fits, tt));
    within = λ one j others low. omega arith;
    spells = λ one. refl;
  }

  more_externals : (first : External) → IsExternal first predeclared
      → InTree (λ more. AreExternals more (predeclared ++ external_adds first)) externals_height spell_externals
      (external_height first) (spell_external first)
  more_externals first fits = record {
    make = λ more. record { externals = first ∷ more; end = origin };
    behind = [];
    fits = λ more then. (λ none. cc (none), (fits, then));
    within = λ more j others low. omega arith;
    spells = λ more. ap (λ z. spell_external first ++ z) (sym (append-nil (spell_externals more)));
  }

  pub externals_viable : (tokens rest : List Token) (why : Why) → externals k tokens ≡ Stopped why rest
      → Holds BeginsTree (suc (suc k)) tokens why rest
  unfolding externals
  externals_viable tokens rest why h =
      let more = λ (first : External). many (λ s o. is_some o) (external_at k) (λ s one. s ++ external_adds one)
      (predeclared ++ external_adds first) in
      elim (bind_stopped (external_at k predeclared tokens) (λ first. more first >>= λ rest. pure (first ∷ rest))
      why rest h) [
        | inl x ↦ into one_external (omega arith) (nothing_spelt tokens) (external_viable predeclared tokens rest why x)
        | inr x ↦
            let first = external_sound k predeclared tokens x.mid x.value x.one in
            into (more_externals x.value first.fits) first.within (spelt first)
            (more_externals_viable (predeclared ++ external_adds x.value) x.mid rest why
            (given_stopped (more x.value x.mid) (λ rest. x.value ∷ rest) why rest x.two))
      ]
