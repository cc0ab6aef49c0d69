-- Where the reading of a declaration stops, one begins with what was read.
use Rattle.std.proofs.Common.{◌≡◌, inl, inr, ℕ, zero, suc, ◌<◌, ◌≤◌, List, [], ◌∷◌, ◌++◌, map, max, Bool, true, false}
use Rattle.std.proofs.Common.{Some, None, refl, sym, ap, append_assoc, append-nil, arith}
use Rattle.c_lexer.specs.declared.punct.Punct.TheVariants as p
use Rattle.c_lexer.specs.declared.token.Token.{Token}
use Rattle.c_reading.specs.declared.declarator_form.DeclaratorForm.TheVariants as form
use Rattle.c_syntax.specs.Begin.{Begins, BeginsDeclaration}
use Rattle.c_syntax.specs.Height.{declarator_height, specifiers_height}
use Rattle.c_syntax.specs.HeightUnit.{initializer_height, init_declarators_height, declaration_height}
use Rattle.c_reading.specs.Parser.{Why, TooDeep, Found, Stopped, ◌>>=◌, pure, fail, expect, next_body, place, tail}
use Rattle.c_reading.specs.Parser.{ones, goes_listing, behind_comma, next_listing, more_listed}
use Rattle.c_reading.specs.ReadDeclarator.{begins_declarator, no_declarator, omission}
use Rattle.c_reading.specs.ReadBody.{initializers, init_by, init_on, init_declarator, init_declarator_adds}
use Rattle.c_reading.specs.ReadBody.{more_declarators, declared_on, declaration_by, declaration_on, declaration_at}
use Rattle.c_reading.specs.ReadSpecifier.{parsers}
use Rattle.c_reading.specs.ReadToken.{is_mark}
use Rattle.c_syntax.specs.Scopes.{Scope, names_types, specifiers_add}
use Rattle.c_syntax.specs.Spelling.{spell_declarator, spell_specifiers}
use Rattle.c_syntax.specs.SpellingUnit.{spell_initializer, spell_init_declarator, spell_declaration}
use Rattle.c_syntax.specs.Tokens.{mark}
use Rattle.c_syntax.specs.Tree.{Specifiers, Declarator}
use Rattle.c_syntax.specs.TreeUnit.{Declaration, InitDeclarator}
use Rattle.c_syntax.specs.WellFormed.{SpecifyOneType, AreSpecifiers, IsDeclarator, DeclaresName}
use Rattle.c_syntax.specs.WellFormedUnit.{IsInitializer, AreInitDeclarators, IsDeclaration}
use Rattle.c_reading.proofs.Viable.Completions.{too_deep_in, refused_behind}
use Rattle.c_reading.proofs.Full.Declaration.{named_token}
use Rattle.c_syntax.proofs.HeightLaws.{declarator_high}
use Rattle.c_reading.proofs.Viable.Initializer.{initializers_viable}
use Rattle.c_reading.proofs.Sound.Specifier.{parsers_sound}
use Rattle.std.specs.List.{flat_map}
use Rattle.std.proofs.lemmas.Bool.{and_parts}
use Rattle.c_syntax.specs.declared.spelled.Spelled.{Spelled}
use Rattle.c_reading.proofs.Viable.Contexts.{close_stopped, given_stopped, many_stopped, stopped, bind_stopped}
use Rattle.c_reading.proofs.Viable.Contexts.{Completed, Context, refused, into}
use Rattle.c_reading.proofs.Sound.Steps.{moved, bind_found, chosen, joined, nothing_spelt, spelt_mark}
use Rattle.c_reading.proofs.Sound.Law.{HasForm, spelt}
use Rattle.c_reading.proofs.Sound.Declaration.{behind, IsInitOne, SpecifiersRead, DeclaratorRead, init_on_sound}
use Rattle.c_reading.proofs.Sound.Declaration.{init_declarator_sound, first_init, more_declarators_sound}
use Rattle.c_reading.proofs.Viable.Law.{Holds}
use Rattle.c_reading.proofs.Viable.Declarator.{parsers_viable}
use Rattle.c_reading.proofs.Viable.Nested.{declarator_begun}

-- ---- a declarator in a declaration

-- where a declarator of a name is read, some height is left
pub named_room : {k : ℕ} (one : Declarator) → DeclaresName one → declarator_height one ≤ k → 0 < k
named_room one named low = omega (arith, declarator_high one (named_token one named), low)

first_declarator : (scope : Scope) (all : Specifiers) → SpecifyOneType all × AreSpecifiers all scope
    → Context (λ one. IsDeclarator one (scope ++ specifiers_add all)
    × HasForm form.Named (scope ++ specifiers_add all) one) declarator_height spell_declarator
    (λ one. IsDeclaration one scope) declaration_height spell_declaration (λ j. suc j) (specifiers_height all)
    (spell_specifiers all)
first_declarator scope all specified = record {
  make = λ one. record { specifiers = all; declarators = record { declarator = one; initializer = None } ∷ [] };
  behind = mark p.Semicolon ∷ [];
  fits = λ one fits. (specified.0, specified.1, (fits.0, fits.1, tt, tt));
  within = λ one j others low. omega arith;
  spells = λ one. simp (append_assoc, append-nil);
}

no_declarators : (scope : Scope) (all : Specifiers) (k : ℕ) → SpecifyOneType all × AreSpecifiers all scope
    → specifiers_height all ≤ k
    → Completed (λ one. IsDeclaration one scope) declaration_height spell_declaration (suc k) (spell_specifiers all)
no_declarators scope all k specified low = record {
  node = record { specifiers = all; declarators = [] };
  more = mark p.Semicolon ∷ [];
  fits = (specified.0, specified.1, tt);
  within = omega arith;
  parts = ap (λ z. z ++ mark p.Semicolon ∷ []) (append-nil (spell_specifiers all));
}

module _ (scope : Scope) (tokens mid : List Token) (all : Specifiers) where
  lowest_stopped : (rest : List Token) (why : Why) → SpecifiersRead 0 scope tokens all mid
      → no_declarator form.Named mid ≡ Stopped why rest → Holds (BeginsDeclaration scope) 1 tokens why rest
  unfolding no_declarator
  lowest_stopped rest why read h =
      elim (chosen (begins_declarator form.Named (next_body mid)) (fail TooDeep) (omission form.Named) mid
      (Stopped why rest) h) [
        | inl x ↦ stopped (Holds (BeginsDeclaration scope) 1 tokens) x.1
            (too_deep_in (first_declarator scope all read.fits) (spelt read)
            (no_declarators scope all 0 read.fits read.within)
            (declarator_begun (scope ++ specifiers_add all) (place mid) form.Named (next_body mid) x.0))
        | inr x ↦ stopped (Holds (BeginsDeclaration scope) 1 tokens) x.1
            (refused (spelt read) (no_declarators scope all 0 read.fits read.within))
      ]

  -- where no height is left for a declarator, the parser stops before it
  pub declarator_stopped : (k : ℕ) (rest : List Token) (why : Why) → SpecifiersRead k scope tokens all mid
      → (parsers k).declarator form.Named (scope ++ specifiers_add all) mid ≡ Stopped why rest
      → Holds (BeginsDeclaration scope) (suc k) tokens why rest
  declarator_stopped zero rest why read h = lowest_stopped rest why read h
  declarator_stopped (suc k) rest why read h =
      into (first_declarator scope all read.fits) read.within (spelt read)
      ((parsers_viable (suc k)).declarator form.Named (scope ++ specifiers_add all) mid rest why (omega arith) h)

-- ---- a declarator and what follows its `=`

module _ (k : ℕ) where
  abbrev BeginsInit : Bool → Scope → ℕ → List Token → Type 0
  BeginsInit names_type scope =
      Begins (λ one. IsInitOne k names_type scope one) (λ one. init_declarators_height (one ∷ [])) spell_init_declarator

  abbrev InInit : {A : Type 0} → (A → Type 0) → (A → ℕ) → (A → List Spelled) → Bool → Scope → ℕ → List Spelled → Type 0
  InInit Fits tall spelled names_type scope =
      Context Fits tall spelled (λ one. IsInitOne k names_type scope one)
      (λ one. init_declarators_height (one ∷ [])) spell_init_declarator (λ j. j)

  bare_declarator : (names_type : Bool) (scope : Scope)
      → InInit (λ one. IsDeclarator one scope × HasForm form.Named scope one) declarator_height spell_declarator
      names_type scope 0 []
  bare_declarator names_type scope =
      record {
        make = λ one. record { declarator = one; initializer = None };
        behind = [];
        fits =
            λ one fits. (fits.0, fits.1, tt);
        within = λ one j others low. omega arith;
        spells = λ one. refl;
      }

  its_initializer : (names_type : Bool) (scope : Scope) (one : Declarator) → IsDeclarator one scope × DeclaresName one
      → InInit (λ value. IsInitializer value (behind k names_type scope one)) initializer_height spell_initializer
      names_type scope (declarator_height one) (spell_declarator one ++ mark p.Assign ∷ [])
  its_initializer names_type scope one fits = record {
    make = λ value. record { declarator = one; initializer = Some value };
    behind = [];
    fits = λ value more. (fits.0, fits.1, more);
    within = λ value j others low. omega arith;
    spells = λ value. simp (append_assoc, append-nil);
  }

  module _ (names_type : Bool) (scope : Scope) (start tokens rest : List Token) (one : Declarator) (why : Why)
      (before : DeclaratorRead k scope start one tokens) where
    init_by_viable : (b : Bool) → is_mark p.Assign (next_body tokens) ≡ b
        → init_by k (behind k names_type scope one) one b tokens ≡ Stopped why rest
        → Holds (BeginsInit names_type scope) k start why rest
    init_by_viable true is h =
        into (its_initializer names_type scope one before.fits) before.within
        (joined (spelt before) (spelt_mark p.Assign tokens is))
        ((initializers_viable k).initializer (behind k names_type scope one) (tail tokens) rest why
        (named_room one before.fits.1 before.within)
        (given_stopped ((initializers k).initializer (behind k names_type scope one) (tail tokens)) _ why rest h))
    init_by_viable false is h = absurd (cc (h))

    init_on_viable : init_on k names_type scope one tokens ≡ Stopped why rest
        → Holds (BeginsInit names_type scope) k start why rest
    unfolding init_on
    init_on_viable h = init_by_viable (is_mark p.Assign (next_body tokens)) refl h

  init_declarator_viable : (names_type : Bool) (scope : Scope) (tokens rest : List Token) (why : Why) → 0 < k
      → init_declarator k names_type scope tokens ≡ Stopped why rest
      → Holds (BeginsInit names_type scope) k tokens why rest
  unfolding init_declarator
  init_declarator_viable names_type scope tokens rest why some h =
      elim (bind_stopped ((parsers k).declarator form.Named scope tokens) (init_on k names_type scope) why rest h) [
        | inl x ↦ into (bare_declarator names_type scope) (omega arith) (nothing_spelt tokens)
            ((parsers_viable k).declarator form.Named scope tokens rest why some x)
        | inr x ↦ init_on_viable names_type scope tokens x.mid rest x.value why
            ((parsers_sound k).declarator form.Named scope tokens x.mid x.value x.one) x.two
      ]

  -- ---- the declarators behind a first one

  abbrev spell_more : List InitDeclarator → List Spelled
  spell_more all = flat_map (λ part. mark p.Comma ∷ part) (map spell_init_declarator all)

  abbrev BeginsMore : Bool → Scope → ℕ → List Token → Type 0
  BeginsMore names_type scope =
      Begins (λ all. AreInitDeclarators names_type all scope) init_declarators_height spell_more

  abbrev InMore : {A : Type 0} → (A → Type 0) → (A → ℕ) → (A → List Spelled) → Bool → Scope → ℕ → List Spelled → Type 0
  InMore Fits tall spelled names_type scope =
      Context Fits tall spelled (λ all. AreInitDeclarators names_type all scope) init_declarators_height spell_more
      (λ j. j)

  one_behind : (names_type : Bool) (scope : Scope)
      → InMore (λ one. IsInitOne k names_type scope one) (λ one. init_declarators_height (one ∷ []))
      spell_init_declarator names_type scope 0 (mark p.Comma ∷ [])
  one_behind names_type scope =
      record {
        make = λ one. one ∷ [];
        behind = [];
        fits = λ one fits. (fits.0, fits.1, fits.2, tt);
        within =
            λ one j others low. low;
        spells = λ one. refl;
      }

  more_behind : (names_type : Bool) (scope : Scope) (one : InitDeclarator) → IsInitOne k names_type scope one
      → InMore (λ all. AreInitDeclarators names_type all (scope ++ init_declarator_adds k names_type one))
      init_declarators_height spell_more names_type scope (init_declarators_height (one ∷ []))
      (mark p.Comma ∷ spell_init_declarator one)
  more_behind names_type scope one fits = record {
    make = λ all. one ∷ all;
    behind = [];
    fits = λ all more. first_init k names_type scope one all fits more;
    within = λ all j others low. omega arith;
    spells = λ all. ap (λ z. (mark p.Comma ∷ spell_init_declarator one) ++ z) (sym (append-nil (spell_more all)));
  }

  one_more : (names_type : Bool) (scope : Scope) (tokens mid rest : List Token) (one : InitDeclarator) (why : Why)
      → is_mark p.Comma (next_body tokens) ≡ true → init_declarator k names_type scope (tail tokens) ≡ Found one mid
      → Holds (BeginsMore names_type (scope ++ init_declarator_adds k names_type one)) k mid why rest
      → Holds (BeginsMore names_type scope) k tokens why rest
  one_more names_type scope tokens mid rest one why comma h then =
      let x = init_declarator_sound k names_type scope (tail tokens) mid one h in
      into (more_behind names_type scope one x.fits) x.within (joined (spelt_mark p.Comma tokens comma) (spelt x)) then

  more_viable : (names_type : Bool) (scope : Scope) (tokens rest : List Token) (why : Why) → 0 < k
      → more_declarators k names_type scope tokens ≡ Stopped why rest
      → Holds (BeginsMore names_type scope) k tokens why rest
  unfolding more_declarators more_listed behind_comma
  more_viable names_type scope tokens rest why some h =
      let next = λ (s : Scope) (one : InitDeclarator). s ++ init_declarator_adds k names_type one in
      many_stopped (goes_listing (is_mark p.Comma) (λ o. false) (pure tt) (init_declarator k names_type) next)
      (behind_comma (is_mark p.Comma) (λ o. false) (pure tt) (init_declarator k names_type) next)
      (next_listing (is_mark p.Comma) (λ o. false) (pure tt) (init_declarator k names_type) next)
      (λ l tokens why rest. Holds (BeginsMore names_type l.state) k tokens why rest)
      (λ l tokens rest why goes h. into (one_behind names_type l.state) (omega arith)
      (spelt_mark p.Comma tokens (and_parts _ _ goes).1)
      (init_declarator_viable names_type l.state (tail tokens) rest why some
      (given_stopped (init_declarator k names_type l.state (tail tokens)) (λ one. Some one) why rest h)))
      (λ l tokens mid rest found why goes h then.
      let x = bind_found (init_declarator k names_type l.state (tail tokens)) (λ one. pure (Some one)) found mid h in
      moved (λ found mid.
      Holds (BeginsMore names_type
      (next_listing (is_mark p.Comma) (λ o. false) (pure tt) (init_declarator k names_type) next l found).state)
      k mid why rest → Holds (BeginsMore names_type l.state) k tokens why rest)
      {a = Some x.value} {tokens =
      x.mid} x.two (one_more names_type l.state tokens x.mid rest x.value why (and_parts _ _ goes).1 x.one) then)
      (record { state = scope; over = false }) tokens rest why h

  -- ---- declarations

  abbrev InDeclaration : {A : Type 0} → (A → Type 0) → (A → ℕ) → (A → List Spelled) → Scope → ℕ → List Spelled → Type 0
  InDeclaration Fits tall spelled scope =
      Context Fits tall spelled (λ one. IsDeclaration one scope) declaration_height spell_declaration (λ j. suc j)

  first_init_declarator : (scope : Scope) (all : Specifiers) → SpecifyOneType all × AreSpecifiers all scope
      → InDeclaration (λ one. IsInitOne k (names_types all) (scope ++ specifiers_add all) one)
      (λ one. init_declarators_height (one ∷ [])) spell_init_declarator scope (specifiers_height all)
      (spell_specifiers all)
  first_init_declarator scope all specified = record {
    make = λ one. record { specifiers = all; declarators = one ∷ [] };
    behind = mark p.Semicolon ∷ [];
    fits = λ one fits. (specified.0, specified.1, (fits.0, fits.1, fits.2, tt));
    within = λ one j others low. omega arith;
    spells = λ one. simp (append_assoc, append-nil);
  }

  more_init_declarators : (scope : Scope) (all : Specifiers) (first : InitDeclarator) → SpecifyOneType all
      × AreSpecifiers all scope → IsInitOne k (names_types all) (scope ++ specifiers_add all) first
      → InDeclaration
      (λ more. AreInitDeclarators (names_types all) more (scope ++ specifiers_add all
      ++ init_declarator_adds k (names_types all) first)) init_declarators_height spell_more scope
      (max (specifiers_height all) (init_declarators_height (first ∷ []))) (spell_specifiers all
      ++ spell_init_declarator first)
  more_init_declarators scope all first specified fits = record {
    make = λ more. record { specifiers = all; declarators = first ∷ more };
    behind = mark p.Semicolon ∷ [];
    fits = λ more then. (
      specified.0,
      specified.1,
      first_init k (names_types all) (scope ++ specifiers_add all) first more fits then,
    );
    within = λ more j others low. omega arith;
    spells = λ more. simp append_assoc;
  }

  pub declared_on_viable : (scope : Scope) (start mid tokens rest : List Token) (all : Specifiers)
      (one : Declarator) (why : Why) → SpecifiersRead k scope start all mid
      → DeclaratorRead k (scope ++ specifiers_add all) mid one tokens
      → declared_on k (scope ++ specifiers_add all) all one tokens ≡ Stopped why rest
      → Holds (BeginsDeclaration scope) (suc k) start why rest
  unfolding declared_on
  declared_on_viable scope start mid tokens rest all one why specified declared h =
      let inner : Scope = scope ++ specifiers_add all in
      let types : Bool = names_types all in
      elim (bind_stopped (init_on k types inner one tokens)
      (λ first. more_declarators k types (inner ++ init_declarator_adds k types first) >>= λ rest.
      expect (is_mark p.Semicolon)
      >>= λ _. pure {A = Declaration} (record { specifiers = all; declarators = first ∷ ones rest })) why rest h) [
        | inl x ↦ into (first_init_declarator scope all specified.fits) specified.within (spelt specified)
            (init_on_viable types inner mid tokens rest one why declared x)
        | inr x ↦
            let first = init_on_sound k types inner mid tokens x.mid one x.value declared x.one in
            let context = more_init_declarators scope all x.value specified.fits first.fits in
            let others : max (specifiers_height all) (init_declarators_height (x.value ∷ [])) ≤ k =
            omega (arith, specified.within, first.within) in
            elim (bind_stopped (more_declarators k types (inner ++ init_declarator_adds k types x.value) x.mid) (λ rest.
            expect (is_mark p.Semicolon)
            >>= λ _. pure {A = Declaration} (record { specifiers = all; declarators = x.value ∷ ones rest }))
            why rest x.two) [
              | inl y ↦ into context others (joined (spelt specified) (spelt first))
                  (more_viable types (inner ++ init_declarator_adds k types x.value) x.mid rest why
                  (named_room one declared.fits.1 declared.within) y)
              | inr y ↦ close_stopped {B = Declaration} p.Semicolon (record {
                specifiers = all;
                declarators =
                    x.value ∷ ones y.value;
              }) (Holds (BeginsDeclaration scope) (suc k) start) y.mid why rest y.two
                  (refused_behind context others (joined (spelt specified) (spelt first))
                  (more_declarators_sound k types (inner ++ init_declarator_adds k types x.value) x.mid y.mid
                  y.value y.one))
            ]
      ]

  pub all_specifiers : (scope : Scope)
      → InDeclaration (λ all. SpecifyOneType all × AreSpecifiers all scope) specifiers_height spell_specifiers scope
      0 []
  all_specifiers scope = record {
    make = λ all. record { specifiers = all; declarators = [] };
    behind = mark p.Semicolon ∷ [];
    fits = λ all fits. (fits.0, fits.1, tt);
    within = λ all j others low. omega arith;
    spells = λ all. ap (λ z. z ++ mark p.Semicolon ∷ []) (append-nil (spell_specifiers all));
  }

  pub specifiers_stopped : (scope : Scope) (tokens rest : List Token) (why : Why)
      → (parsers k).specifiers scope tokens ≡ Stopped why rest → Holds (BeginsDeclaration scope) (suc k) tokens why rest
  specifiers_stopped scope tokens rest why h =
      into (all_specifiers scope) (omega arith) (nothing_spelt tokens)
      ((parsers_viable k).specifiers scope tokens rest why h)

  declaration_by_viable : (scope : Scope) (start tokens rest : List Token) (all : Specifiers) (why : Why) (b : Bool)
      → SpecifiersRead k scope start all tokens → declaration_by k (scope ++ specifiers_add all) all b tokens
      ≡ Stopped why rest
      → Holds (BeginsDeclaration scope) (suc k) start why rest
  declaration_by_viable scope start tokens rest all why true specified h = absurd (cc (h))
  declaration_by_viable scope start tokens rest all why false specified h =
      let inner : Scope = scope ++ specifiers_add all in
      elim (bind_stopped ((parsers k).declarator form.Named inner tokens) (λ one. declared_on k inner all one) why
      rest h) [
        | inl x ↦ declarator_stopped scope start tokens all k rest why specified x
        | inr x ↦ declared_on_viable scope start tokens x.mid rest all x.value why specified
            ((parsers_sound k).declarator form.Named inner tokens x.mid x.value x.one) x.two
      ]

  pub declaration_viable : (scope : Scope) (tokens rest : List Token) (why : Why)
      → declaration_at k scope tokens ≡ Stopped why rest → Holds (BeginsDeclaration scope) (suc k) tokens why rest
  unfolding declaration_at declaration_on
  declaration_viable scope tokens rest why h =
      elim (bind_stopped ((parsers k).specifiers scope tokens) (declaration_on k scope) why rest h) [
        | inl x ↦ specifiers_stopped scope tokens rest why x
        | inr x ↦ declaration_by_viable scope tokens x.mid rest x.value why (is_mark p.Semicolon (next_body x.mid))
            ((parsers_sound k).specifiers scope tokens x.mid x.value x.one) x.two
      ]
