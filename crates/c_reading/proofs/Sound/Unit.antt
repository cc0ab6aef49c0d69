-- What is read as an external declaration or as a unit is one.
use Rattle.std.proofs.Common.{◌≡◌, inl, inr, ℕ, zero, suc, ◌≤◌, List, [], ◌∷◌, ◌++◌, Bool, true, false, is_some, refl}
use Rattle.std.proofs.Common.{subst, arith}
use Rattle.std.proofs.lemmas.Bool.{and_parts}
use Rattle.std.specs.List.{flat_map}
use Rattle.c_lexer.specs.declared.punct.Punct.TheVariants as p
use Rattle.c_lexer.specs.declared.token.Token.{Token}
use Rattle.c_lexer.specs.declared.word.Word.TheVariants as w
use Rattle.c_reading.specs.declared.declarator_form.DeclaratorForm.TheVariants as form
use Rattle.c_syntax.specs.HeightUnit.{block_items_height, external_height, externals_height}
use Rattle.c_reading.specs.Parser.{Found, ◌>>=◌, pure, peek, next_body, tail, many}
use Rattle.c_reading.specs.ReadBody.{declared_on, assert_at, block_lower, is_body, function_scope, external_declared}
use Rattle.c_reading.specs.ReadBody.{external_on, external_by, external_at, externals, statements}
use Rattle.c_reading.specs.ReadSpecifier.{parsers}
use Rattle.c_reading.specs.ReadToken.{is_mark, is_word}
use Rattle.c_syntax.specs.Scopes.{Scope, predeclared, specifiers_add}
use Rattle.c_syntax.specs.ScopesUnit.{own_parameters, external_adds}
use Rattle.c_syntax.specs.SpellingUnit.{spell_block_items, spell_external}
use Rattle.c_syntax.specs.Tokens.{mark}
use Rattle.c_syntax.specs.Tree.{Specifiers, Declarator}
use Rattle.c_syntax.specs.TreeUnit.{BlockItems, External, Defines, Declaring, Asserting}
use Rattle.c_syntax.specs.WellFormedUnit.{AreBlockItems, IsExternal, AreExternals}
use Rattle.c_reading.proofs.Sound.Steps.{moved, bind_found, chosen, joined, spelt_mark}
use Rattle.c_reading.proofs.Online.Statement.{external_at_takes}
use Rattle.c_reading.proofs.Online.Steps.{many_over}
use Rattle.c_reading.proofs.NodeLists.{spell_externals, external_list}
use Rattle.c_reading.proofs.Sound.Nodes.{nodes_sound}
use Rattle.c_reading.proofs.Sound.Law.{Read, Listed, Sound, spelt}
use Rattle.c_reading.proofs.Sound.Block.{block_with_sound}
use Rattle.c_reading.proofs.Sound.BlockItem.{statements_sound}
use Rattle.c_reading.proofs.Sound.Declaration.{SpecifiersRead, DeclaratorRead, declared_on_sound, no_declarator_read}
use Rattle.c_reading.proofs.Sound.Declaration.{assert_sound}
use Rattle.c_reading.proofs.Sound.Specifier.{parsers_sound}
use Rattle.c_reading.proofs.Takes.{Takes}

-- ---- external declarations

-- the items of the body of a function, with the closing brace
abbrev BodyRead : ℕ → Scope → List Token → BlockItems → List Token → Type 0
BodyRead k scope tokens all rest =
    Listed (AreBlockItems all scope) (suc (block_items_height all)) k (spell_block_items all)
    (mark p.CloseBrace ∷ []) tokens rest

block_lower_sound : (k : ℕ) (scope : Scope) (tokens rest : List Token) (all : BlockItems)
    → block_lower k scope tokens ≡ Found all rest → BodyRead k scope tokens all rest
block_lower_sound zero scope tokens rest all h = absurd (cc (h))
block_lower_sound (suc k) scope tokens rest all h =
    let x = block_with_sound k (statements k).block_item (statements_sound k).block_item scope tokens rest all h in
    record { mid = x.mid; spells = x.spells; ends = x.ends; fits = x.fits; within = omega (arith, x.within) }

module _ (k : ℕ) where
  abbrev IsRead : Scope → List Token → External → List Token → Type 0
  IsRead scope = Read (λ one. IsExternal one scope) external_height spell_external (suc k)

  module _ (scope : Scope) (start : List Token) (all : Specifiers) (mid : List Token)
      (specified : SpecifiersRead k scope start all mid) where
    -- with the specifiers and the declarator before
    external_declared_sound : (tokens rest : List Token) (one : Declarator) (external : External) (b : Bool)
        → DeclaratorRead k (scope ++ specifiers_add all) mid one tokens → is_body one (next_body tokens) ≡ b
        → external_declared k scope all one b tokens ≡ Found external rest → IsRead scope start external rest
    external_declared_sound tokens rest one external true declared body h =
        let parts = and_parts (is_mark p.OpenBrace (next_body tokens)) (is_some (own_parameters one)) body in
        let x = bind_found (block_lower k (function_scope k scope all one) (tail tokens))
        (λ items. pure (Defines (record { specifiers = all; declarator = one; body = items }))) external rest h in
        let y = block_lower_sound k (function_scope k scope all one) (tail tokens) x.mid x.value x.one in
        moved (IsRead scope start) {a = Defines (record { specifiers = all; declarator = one; body = x.value })}
        {tokens = x.mid} x.two (record {
          spells = (joined
              (joined (joined (spelt specified) (spelt declared))
              (joined (spelt_mark p.OpenBrace tokens parts.0) y.spells)) y.ends).takes;
          fits = (specified.fits.0, specified.fits.1, declared.fits.0, declared.fits.1, parts.1, y.fits);
          within = omega (arith, specified.within, declared.within, y.within);
        })
    external_declared_sound tokens rest one external false declared body h =
        let x = bind_found (declared_on k (scope ++ specifiers_add all) all one tokens)
        (λ found. pure (Declaring found)) external rest h in
        let y = declared_on_sound k scope start mid tokens x.mid all one x.value specified declared x.one in
        moved (IsRead scope start) {a = Declaring x.value} {tokens =
        x.mid} x.two (record { spells = y.spells; fits = y.fits; within = y.within })

    external_on_sound : (tokens rest : List Token) (one : Declarator) (external : External)
        → DeclaratorRead k (scope ++ specifiers_add all) mid one tokens → external_on k scope all one tokens
        ≡ Found external rest → IsRead scope start external rest
    unfolding external_on
    external_on_sound tokens rest one external declared h =
        external_declared_sound tokens rest one external (is_body one (next_body tokens)) declared refl h

    external_by_sound : (rest : List Token) (external : External) (b : Bool)
        → is_mark p.Semicolon (next_body mid) ≡ b → external_by k scope all b mid ≡ Found external rest
        → IsRead scope start external rest
    external_by_sound rest external true is h =
        let y = no_declarator_read k scope start mid all specified is in
        moved (IsRead scope start) {a = Declaring (record { specifiers = all; declarators = [] })} {tokens =
        tail mid} h (record { spells = y.spells; fits = y.fits; within = y.within })
    external_by_sound rest external false is h =
        let x = bind_found ((parsers k).declarator form.Named (scope ++ specifiers_add all) mid)
        (external_on k scope all) external rest h in
        external_on_sound x.mid rest x.value external
        ((parsers_sound k).declarator form.Named (scope ++ specifiers_add all) mid x.mid x.value x.one) x.two

  asserting_sound : (scope : Scope) (tokens rest : List Token) (one : External)
      → is_word w.StaticAssert (next_body tokens) ≡ true
      → (assert_at k scope >>= λ one. pure (Asserting one)) tokens ≡ Found one rest → IsRead scope tokens one rest
  asserting_sound scope tokens rest one is h =
      let x = bind_found (assert_at k scope tokens) (λ one. pure (Asserting one)) one rest h in
      let y = assert_sound k scope tokens x.mid x.value is x.one in
      moved (IsRead scope tokens) {a = Asserting x.value} {tokens =
      x.mid} x.two (record { spells = y.spells; fits = y.fits; within = y.within })

  specified_sound : (scope : Scope) (tokens rest : List Token) (one : External)
      → ((parsers k).specifiers scope >>= λ all. peek (λ next. external_by k scope all (is_mark p.Semicolon next)))
      tokens ≡ Found one rest → IsRead scope tokens one rest
  specified_sound scope tokens rest one h =
      let x = bind_found ((parsers k).specifiers scope tokens)
      (λ all. peek (λ next. external_by k scope all (is_mark p.Semicolon next))) one rest h in
      external_by_sound scope tokens x.value x.mid ((parsers_sound k).specifiers scope tokens x.mid x.value x.one)
      rest one (is_mark p.Semicolon (next_body x.mid)) refl x.two

  pub external_sound : (scope : Scope)
      → Sound (λ one. IsExternal one scope) external_height spell_external (suc k) (external_at k scope)
  unfolding external_at
  external_sound scope tokens rest one h =
      elim (chosen (is_word w.StaticAssert (next_body tokens)) _ _ tokens (Found one rest) h) [
        | inl x ↦ asserting_sound scope tokens rest one x.0 x.1
        | inr x ↦ specified_sound scope tokens rest one x.1
      ]

  -- ---- all tokens of a unit

  pub record ReadAll (tokens : List Token) (all : List External) (rest : List Token) : Type 0 where
    pub over : rest ≡ []
    pub some : all ≡ [] → ⊥
    pub spells : Takes tokens (flat_map spell_external all) []
    pub fits : AreExternals all predeclared
    pub within : externals_height all ≤ suc k

  -- what stands behind the first external declaration
  abbrev MoreRead : Scope → List Token → List External → List Token → Type 0
  MoreRead scope = Read (λ all. AreExternals all scope) externals_height spell_externals (suc k)

  none_left : (rest : List Token) → is_some (next_body rest) ≡ false → rest ≡ []
  none_left [] h = refl
  none_left (token ∷ tokens) h = absurd (cc (h))

  read_all : (tokens mid rest : List Token) (first : External) (more : List External)
      → Read (λ one. IsExternal one predeclared) external_height spell_external (suc k) tokens first mid
      → MoreRead (predeclared ++ external_adds first) mid more rest → rest ≡ [] → ReadAll tokens (first ∷ more) rest
  read_all tokens mid rest first more x then over = record {
    over = over;
    some = λ none. cc (none);
    spells = subst (Takes tokens (flat_map spell_external (first ∷ more))) over (joined (spelt x) (spelt then)).takes;
    fits = (x.fits, then.fits);
    within = omega (arith, x.within, then.within);
  }

  pub externals_sound : (tokens rest : List Token) (all : List External) → externals k tokens ≡ Found all rest
      → ReadAll tokens all rest
  unfolding externals
  externals_sound tokens rest all h =
      let more = λ (first : External). many (λ s o. is_some o) (external_at k) (λ s one. s ++ external_adds one)
      (predeclared ++ external_adds first) in
      let x = bind_found (external_at k predeclared tokens) (λ first. more first >>= λ rest. pure (first ∷ rest))
      all rest h in
      let y = bind_found (more x.value x.mid) (λ rest. pure (x.value ∷ rest)) all rest x.two in
      let then = nodes_sound external_list (suc k) (λ s o. is_some o) (external_at k) external_sound
      (predeclared ++ external_adds x.value) x.mid y.mid y.value y.one in
      let over = many_over (λ s o. is_some o) (external_at k) (λ s one. s ++ external_adds one) (λ s. refl)
      (external_at_takes k) (predeclared ++ external_adds x.value) x.mid y.mid y.value y.one in
      moved (ReadAll tokens) {a = x.value ∷ y.value} {tokens = y.mid} y.two
      (read_all tokens x.mid y.mid x.value y.value (external_sound predeclared tokens x.mid x.value x.one)
      then (none_left y.mid over.stops))
