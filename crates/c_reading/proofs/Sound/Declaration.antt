-- What is read as a declaration or a static assertion is one.
use Rattle.std.proofs.Common.{◌≡◌, ℕ, zero, suc, ◌≤◌, List, [], ◌∷◌, ◌++◌, map, Bool, true, false, Option, Some, refl}
use Rattle.std.proofs.Common.{subst, append_assoc, arith}
use Rattle.std.specs.List.{flat_map}
use Rattle.critical_table.specs.declared.pos.Pos.{Pos}
use Rattle.c_lexer.specs.declared.punct.Punct.TheVariants as p
use Rattle.c_lexer.specs.declared.token.Token.{Token}
use Rattle.c_lexer.specs.declared.token.Body.{Body}
use Rattle.c_lexer.specs.declared.token.Body.TheVariants as lexeme
use Rattle.c_lexer.specs.declared.word.Word.TheVariants as w
use Rattle.c_reading.specs.declared.declarator_form.DeclaratorForm.TheVariants as form
use Rattle.c_syntax.specs.Levels.{conditional}
use Rattle.c_syntax.specs.Height.{height, specifiers_height, declarator_height}
use Rattle.c_syntax.specs.HeightUnit.{init_declarators_height, declaration_height, assert_height}
use Rattle.c_reading.specs.Parser.{Found, ◌>>=◌, pure, skip, expect, next_body, place, tail, ones}
use Rattle.c_reading.specs.ReadExpr.{pieces}
use Rattle.c_reading.specs.ReadBody.{initializers, init_by, init_on, init_declarator, init_declarator_adds}
use Rattle.c_reading.specs.ReadBody.{more_declarators, declared_on, declaration_by, declaration_on, declaration_at}
use Rattle.c_reading.specs.ReadBody.{message_by, message, assert_on, assert_at, declaration_lower}
use Rattle.c_reading.specs.ReadSpecifier.{parsers}
use Rattle.c_reading.specs.ReadToken.{is_mark, is_word}
use Rattle.c_syntax.specs.Scopes.{Scope, names_types, own_name, declared_if, specifiers_add, declarator_adds}
use Rattle.c_syntax.specs.ScopesUnit.{init_adds}
use Rattle.c_syntax.specs.Spelling.{spell, spell_specifiers, spell_declarator}
use Rattle.c_syntax.specs.SpellingUnit.{spell_init_declarator, spell_declaration, spell_assert}
use Rattle.c_syntax.specs.Tokens.{mark, word_at}
use Rattle.c_syntax.specs.Tree.{Expr, Specifiers, Declarator}
use Rattle.c_syntax.specs.TreeUnit.{InitDeclarator, Declaration, Assert}
use Rattle.c_syntax.specs.WellFormed.{SpecifyOneType, DeclaresName, IsExpr, AreSpecifiers, IsDeclarator}
use Rattle.c_syntax.specs.WellFormedUnit.{IsInit, AreInitDeclarators, IsDeclaration, IsAssert}
use Rattle.c_reading.proofs.Sound.Steps.{moved, bind_found, deeper_found, mark_then, Spelt, joined, nothing_spelt}
use Rattle.c_reading.proofs.Sound.Steps.{spelt_at, spelt_bare, spelt_mark, more_found}
use Rattle.c_reading.proofs.Sound.Law.{Read, Sound, spelt}
use Rattle.c_reading.proofs.Sound.Expr.{pieces_sound}
use Rattle.c_reading.proofs.Sound.Initializer.{initializers_sound}
use Rattle.c_reading.proofs.Sound.Specifier.{parsers_sound}
use Rattle.c_reading.proofs.TokenTests.{is_word_is}

module _ (k : ℕ) where
  -- ---- declarators and what follows their `=`

  abbrev pub behind : Bool → Scope → Declarator → Scope
  behind names_type scope one = scope ++ declarator_adds one ++ declared_if names_type (own_name one)

  -- a declarator with its initializer
  abbrev pub IsInitOne : Bool → Scope → InitDeclarator → Type 0
  IsInitOne names_type scope one = IsDeclarator one.declarator scope × DeclaresName one.declarator
      × IsInit one.initializer (behind names_type scope one.declarator)

  abbrev pub InitRead : Bool → Scope → List Token → InitDeclarator → List Token → Type 0
  InitRead names_type scope =
      Read (IsInitOne names_type scope) (λ one. init_declarators_height (one ∷ [])) spell_init_declarator k

  abbrev pub DeclaratorRead : Scope → List Token → Declarator → List Token → Type 0
  DeclaratorRead scope = Read (λ one. IsDeclarator one scope × DeclaresName one) declarator_height spell_declarator k

  module _ (names_type : Bool) (scope : Scope) (start tokens rest : List Token) (one : Declarator)
      (all : InitDeclarator) (before : DeclaratorRead scope start one tokens) where
    init_by_sound : (b : Bool) → is_mark p.Assign (next_body tokens) ≡ b
        → init_by k (behind names_type scope one) one b tokens ≡ Found all rest
        → InitRead names_type scope start all rest
    init_by_sound true is h =
        let x = bind_found ((initializers k).initializer (behind names_type scope one) (tail tokens))
        (λ value. pure {A = InitDeclarator} (record { declarator = one; initializer = Some value })) all rest h in
        let y = (initializers_sound k).initializer (behind names_type scope one) (tail tokens) x.mid x.value x.one in
        moved (InitRead names_type scope start) x.two (record {
          spells = (joined (spelt before) (joined (spelt_mark p.Assign tokens is) (spelt y))).takes;
          fits = (before.fits.0, before.fits.1, y.fits);
          within = omega (arith, before.within, y.within);
        })
    init_by_sound false is h =
        moved (InitRead names_type scope start) h (record {
          spells = (joined (spelt before) (nothing_spelt tokens)).takes;
          fits = (before.fits.0, before.fits.1, tt);
          within = omega (arith, before.within);
        })

    pub init_on_sound : init_on k names_type scope one tokens ≡ Found all rest
        → InitRead names_type scope start all rest
    unfolding init_on
    init_on_sound h = init_by_sound (is_mark p.Assign (next_body tokens)) refl h

  pub init_declarator_sound : (names_type : Bool) (scope : Scope) (tokens rest : List Token) (all : InitDeclarator)
      → init_declarator k names_type scope tokens ≡ Found all rest → InitRead names_type scope tokens all rest
  unfolding init_declarator
  init_declarator_sound names_type scope tokens rest all h =
      let x = bind_found ((parsers k).declarator form.Named scope tokens) (init_on k names_type scope) all rest h in
      init_on_sound names_type scope tokens x.mid rest x.value all
      ((parsers_sound k).declarator form.Named scope tokens x.mid x.value x.one) x.two

  -- ---- the declarators behind a first one

  abbrev pub MoreRead : Bool → Scope → List Token → List InitDeclarator → Bool → List Token → Type 0
  MoreRead names_type scope tokens more b rest =
      Read (λ all. AreInitDeclarators names_type all scope) init_declarators_height
      (λ all. flat_map (λ part. mark p.Comma ∷ part) (map spell_init_declarator all)) k tokens more rest

  scope_behind : (names_type : Bool) (scope : Scope) (one : InitDeclarator)
      → scope ++ init_declarator_adds k names_type one ≡ behind names_type scope one.declarator
      ++ init_adds one.initializer
  scope_behind names_type scope one = simp append_assoc

  pub first_init : (names_type : Bool) (scope : Scope) (one : InitDeclarator) (more : List InitDeclarator)
      → IsInitOne names_type scope one
      → AreInitDeclarators names_type more (scope ++ init_declarator_adds k names_type one)
      → AreInitDeclarators names_type (one ∷ more) scope
  first_init names_type scope one more fits then =
      (fits.0, fits.1, fits.2, subst (AreInitDeclarators names_type more) (scope_behind names_type scope one) then)

  no_more : (names_type : Bool) (scope : Scope) (tokens : List Token) → MoreRead names_type scope tokens [] false tokens
  no_more names_type scope tokens = record { spells = refl; fits = tt; within = omega arith }

  one_more : (names_type : Bool) (scope : Scope) (tokens mid rest : List Token) (one : InitDeclarator)
      (more : List InitDeclarator) (b : Bool) → is_mark p.Comma (next_body tokens) ≡ true
      → init_declarator k names_type scope (tail tokens) ≡ Found one mid
      → MoreRead names_type (scope ++ init_declarator_adds k names_type one) mid more b rest
      → MoreRead names_type scope tokens (one ∷ more) b rest
  one_more names_type scope tokens mid rest one more b comma h then =
      let x = init_declarator_sound names_type scope (tail tokens) mid one h in
      record {
        spells = (joined (joined (spelt_mark p.Comma tokens comma) (spelt x)) (spelt then)).takes;
        fits = first_init names_type scope one more x.fits then.fits;
        within = omega (arith, x.within, then.within);
      }

  pub more_declarators_sound : (names_type : Bool) (scope : Scope) (tokens rest : List Token)
      (all : List (Option InitDeclarator)) → more_declarators k names_type scope tokens ≡ Found all rest
      → MoreRead names_type scope tokens (ones all) false rest
  unfolding more_declarators
  more_declarators_sound names_type scope tokens rest all h =
      more_found (is_mark p.Comma) (λ o. false) (pure tt) (init_declarator k names_type)
      (λ s one. s ++ init_declarator_adds k names_type one) (MoreRead names_type)
      (no_more names_type) (λ s tokens rest u comma ends h. absurd (cc (ends))) (one_more names_type) scope tokens
      rest all h

  -- ---- declarations

  abbrev pub SpecifiersRead : Scope → List Token → Specifiers → List Token → Type 0
  SpecifiersRead scope = Read (λ all. SpecifyOneType all × AreSpecifiers all scope) specifiers_height spell_specifiers k

  abbrev pub DeclarationRead : Scope → List Token → Declaration → List Token → Type 0
  DeclarationRead scope = Read (λ one. IsDeclaration one scope) declaration_height spell_declaration (suc k)

  -- with the specifiers and the first declarator before
  pub declared_on_sound : (scope : Scope) (start mid tokens rest : List Token) (all : Specifiers) (one : Declarator)
      (declaration : Declaration) → SpecifiersRead scope start all mid
      → DeclaratorRead (scope ++ specifiers_add all) mid one tokens
      → declared_on k (scope ++ specifiers_add all) all one tokens ≡ Found declaration rest
      → DeclarationRead scope start declaration rest
  unfolding declared_on
  declared_on_sound scope start mid tokens rest all one declaration specified declared h =
      let inner : Scope = scope ++ specifiers_add all in
      let types : Bool = names_types all in
      let x = bind_found (init_on k types inner one tokens)
      (λ first. more_declarators k types (inner ++ init_declarator_adds k types first) >>= λ rest.
      expect (is_mark p.Semicolon)
      >>= λ _. pure {A = Declaration} (record { specifiers = all; declarators = first ∷ ones rest }))
      declaration rest h in
      let y = bind_found (more_declarators k types (inner ++ init_declarator_adds k types x.value) x.mid) (λ rest.
      expect (is_mark p.Semicolon)
      >>= λ _. pure {A = Declaration} (record { specifiers = all; declarators = x.value ∷ ones rest }))
      declaration rest x.two in
      let c = mark_then p.Semicolon
      (pure {A = Declaration} (record { specifiers = all; declarators = x.value ∷ ones y.value })) y.mid rest
      declaration y.two in
      let first = init_on_sound types inner mid tokens x.mid one x.value declared x.one in
      let more = more_declarators_sound types (inner ++ init_declarator_adds k types x.value) x.mid y.mid y.value
      y.one in
      moved (DeclarationRead scope start) c.two (record {
        spells = (joined (joined (spelt specified) (joined (spelt first) (spelt more))) c.spelt).takes;
        fits = (specified.fits.0, specified.fits.1, first_init types inner x.value (ones y.value) first.fits more.fits);
        within = omega (arith, specified.within, first.within, more.within);
      })

  -- without a declarator
  pub no_declarator_read : (scope : Scope) (start tokens : List Token) (all : Specifiers)
      → SpecifiersRead scope start all tokens → is_mark p.Semicolon (next_body tokens) ≡ true
      → DeclarationRead scope start (record { specifiers = all; declarators = [] }) (tail tokens)
  no_declarator_read scope start tokens all specified over = record {
    spells = (joined (joined (spelt specified) (nothing_spelt tokens)) (spelt_mark p.Semicolon tokens over)).takes;
    fits = (specified.fits.0, specified.fits.1, tt);
    within = omega (arith, specified.within);
  }

  declaration_by_sound : (scope : Scope) (start tokens rest : List Token) (all : Specifiers) (one : Declaration)
      (b : Bool) → SpecifiersRead scope start all tokens → is_mark p.Semicolon (next_body tokens) ≡ b
      → declaration_by k (scope ++ specifiers_add all) all b tokens ≡ Found one rest
      → DeclarationRead scope start one rest
  declaration_by_sound scope start tokens rest all one true specified is h =
      moved (DeclarationRead scope start) h (no_declarator_read scope start tokens all specified is)
  declaration_by_sound scope start tokens rest all one false specified is h =
      let inner : Scope = scope ++ specifiers_add all in
      let x = bind_found ((parsers k).declarator form.Named inner tokens) (λ first. declared_on k inner all first)
      one rest h in
      declared_on_sound scope start tokens x.mid rest all x.value one specified
      ((parsers_sound k).declarator form.Named inner tokens x.mid x.value x.one) x.two

  pub declaration_sound : (scope : Scope)
      → Sound (λ one. IsDeclaration one scope) declaration_height spell_declaration (suc k) (declaration_at k scope)
  unfolding declaration_at declaration_on
  declaration_sound scope tokens rest one h =
      let x = bind_found ((parsers k).specifiers scope tokens) (declaration_on k scope) one rest h in
      declaration_by_sound scope tokens x.mid rest x.value one (is_mark p.Semicolon (next_body x.mid))
      ((parsers_sound k).specifiers scope tokens x.mid x.value x.one) refl x.two

  -- ---- static assertions

  abbrev pub AssertRead : Scope → List Token → Assert → List Token → Type 0
  AssertRead scope = Read (λ one. IsAssert one scope) assert_height spell_assert (suc k)

  -- what stands before the message
  record Tested (scope : Scope) (tokens : List Token) (pos : Pos) (test : Expr) (rest : List Token) : Type 0 where
    front : Spelt tokens (word_at pos w.StaticAssert ∷ mark p.OpenParen ∷ spell test) rest
    fits : IsExpr test scope conditional
    within : height test ≤ k

  message_by_sound : (scope : Scope) (start behind_test tokens rest : List Token) (pos : Pos) (test : Expr)
      (one : Assert) (o : Option Body) → Tested scope start pos test behind_test
      → Spelt behind_test (mark p.Comma ∷ []) tokens → next_body tokens ≡ o
      → message_by k pos test o tokens ≡ Found one rest → AssertRead scope start one rest
  message_by_sound scope start behind_test tokens rest pos test one (Some (lexeme.Literal units wide)) tested comma
      is h =
      let last = λ (more : List _). pure {A =
      Assert} (record { pos = pos; condition = test; message = record { pieces = units ∷ more; wide = wide } }) in
      let x = bind_found (pieces wide (tail tokens)) (λ more. expect (is_mark p.CloseParen)
      >>= λ _. expect (is_mark p.Semicolon) >>= λ _. last more) one rest h in
      let c = mark_then p.CloseParen (expect (is_mark p.Semicolon) >>= λ _. last x.value) x.mid rest one x.two in
      let s = mark_then p.Semicolon (last x.value) c.mid rest one c.two in
      let text = joined (spelt_bare tokens (lexeme.Literal units wide) is)
      (pieces_sound wide (tail tokens) x.mid x.value x.one) in
      moved (AssertRead scope start) s.two (record {
        spells = (joined (joined tested.front (joined comma text)) (joined c.spelt s.spelt)).takes;
        fits = (tested.fits, λ none. cc (none));
        within = omega (arith, tested.within);
      })
  message_by_sound scope start behind_test tokens rest pos test one _ tested comma is h = absurd (cc (h))

  assert_on_sound : (scope : Scope) (tokens rest : List Token) (one : Assert)
      → next_body tokens ≡ Some (lexeme.Word w.StaticAssert) → assert_on k scope (place tokens) (tail tokens)
      ≡ Found one rest → AssertRead scope tokens one rest
  unfolding assert_on message
  assert_on_sound scope tokens rest one is h =
      let pos = place tokens in
      let o = mark_then p.OpenParen ((parsers k).expr scope conditional >>= λ test. expect (is_mark p.Comma)
      >>= λ _. message k pos test) (tail tokens) rest one h in
      let x = bind_found ((parsers k).expr scope conditional o.mid) (λ test. expect (is_mark p.Comma)
      >>= λ _. message k pos test) one rest o.two in
      let c = mark_then p.Comma (message k pos x.value) x.mid rest one x.two in
      let y = (parsers_sound k).expr scope conditional (omega arith) o.mid x.mid x.value x.one in
      message_by_sound scope tokens x.mid c.mid rest pos x.value one (next_body c.mid)
      (record {
        front = joined (joined (spelt_at tokens (lexeme.Word w.StaticAssert) is) o.spelt) (spelt y);
        fits =
            y.fits;
        within = y.within;
      }) c.spelt refl c.two

  -- the word is the next token
  pub assert_sound : (scope : Scope) (tokens rest : List Token) (one : Assert)
      → is_word w.StaticAssert (next_body tokens) ≡ true → assert_at k scope tokens ≡ Found one rest
      → AssertRead scope tokens one rest
  unfolding assert_at
  assert_sound scope tokens rest one is h =
      assert_on_sound scope tokens rest one (is_word_is w.StaticAssert (next_body tokens) is)
      (deeper_found k (skip (assert_on k scope (place tokens))) tokens rest one h)

pub declaration_lower_sound : (k : ℕ) (scope : Scope)
    → Sound (λ one. IsDeclaration one scope) declaration_height spell_declaration k (declaration_lower k scope)
declaration_lower_sound zero scope tokens rest one h = absurd (cc (h))
declaration_lower_sound (suc k) scope tokens rest one h = declaration_sound k scope tokens rest one h
