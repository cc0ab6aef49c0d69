-- Where the reading of a declarator, a parameter, a member or a type name stops, one begins with what was read; and
-- so of all parsers of every height.
use Rattle.std.proofs.Common.{◌≡◌, ℕ, zero, suc, ◌<◌, max, List, [], ◌∷◌, ◌++◌, false, Option, Some, inl, inr, refl}
use Rattle.std.proofs.Common.{sym, ◌∙◌, ap, append_assoc, arith}
use Rattle.std.proofs.lemmas.List.{append-nil}
use Rattle.c_lexer.specs.declared.punct.Punct.TheVariants as p
use Rattle.c_lexer.specs.declared.token.Token.{Token}
use Rattle.c_lexer.specs.declared.token.Body.{Body}
use Rattle.c_lexer.specs.declared.token.Body.TheVariants as lexeme
use Rattle.c_reading.specs.declared.declarator_form.DeclaratorForm.{DeclaratorForm}
use Rattle.c_reading.specs.declared.declarator_form.DeclaratorForm.TheVariants as form
use Rattle.c_syntax.specs.Begin.{Begins, BeginsTypeName, BeginsParameter, BeginsMember}
use Rattle.c_syntax.specs.Height.{type_name_height, specifiers_height, declarator_height, declarators_height}
use Rattle.c_syntax.specs.Height.{parameter_height, member_height}
use Rattle.c_reading.specs.Parser.{Why, Unfit, TooDeep, Found, Stopped, next_body, place, tail, pure, fail, expect}
use Rattle.c_reading.specs.Parser.{◌>>=◌}
use Rattle.c_reading.specs.ReadExpr.{Parsers}
use Rattle.c_reading.specs.ReadDeclarator.{begins_declarator, no_declarator, suffix_by, suffix_on, suffixes}
use Rattle.c_reading.specs.ReadDeclarator.{nested_declarator, open_by, room, pointer, name_by, bracket_by}
use Rattle.c_reading.specs.ReadDeclarator.{declarator_by, declarator_at, type_name_at, parameter_at}
use Rattle.c_reading.specs.ReadDeclarator.{listed_declarators, member_by, member_on, member_at}
use Rattle.c_reading.specs.ReadSpecifier.{parsers}
use Rattle.c_reading.specs.ReadToken.{is_mark}
use Rattle.c_syntax.specs.Scopes.{Scope, specifiers_add, declarator_adds}
use Rattle.c_syntax.specs.Spelling.{spell_type_name, spell_specifiers, spell_declarator, spelled_declarators}
use Rattle.c_syntax.specs.Spelling.{spell_parameter, spell_member}
use Rattle.c_syntax.specs.Tokens.{mark, commas}
use Rattle.c_syntax.specs.Tree as tree
use Rattle.c_syntax.specs.Tree.{Specifiers, Declarator}
use Rattle.c_syntax.specs.View.{declarators}
use Rattle.c_syntax.specs.WellFormed.{SpecifyOneType, DeclaresName, AreSpecifiers, AreDeclarators, IsTypeName}
use Rattle.c_syntax.specs.WellFormed.{IsDeclarator, IsParameter, IsMember}
use Rattle.c_reading.proofs.Viable.Completions.{spelt_next, too_deep_here}
use Rattle.c_reading.proofs.Viable.Contexts.{Context, Completed, stopped, bind_stopped, given_stopped, close_stopped}
use Rattle.c_reading.proofs.Viable.Contexts.{deeper_stopped, listed_stopped, refused, too_deep, into}
use Rattle.c_reading.proofs.Sound.Steps.{chosen, joined, nothing_spelt, spelt_at}
use Rattle.c_reading.proofs.Sound.Law.{Read, HasForm, spelt, AllSound}
use Rattle.c_reading.proofs.Sound.Declarator.{listed_declarators_sound}
use Rattle.c_reading.proofs.Sound.Suffix.{IsSuffixed, suffix_by_sound}
use Rattle.c_reading.proofs.Sound.Specifier.{parsers_sound}
use Rattle.c_reading.proofs.Viable.Law.{Holds, BeginsForm, AllViable}
use Rattle.c_reading.proofs.Viable.Unary.{paren_expr_at_once}
use Rattle.c_reading.proofs.Viable.Expr.{expr_viable, paren_expr_viable}
use Rattle.c_reading.proofs.Viable.Lists.{nothing_behind, listed_viable}
use Rattle.c_reading.proofs.Viable.Nested.{CompletedForm, nothing_read, declarator_begun, omission_viable}
use Rattle.c_reading.proofs.Viable.Nested.{omitting_viable, pointer_viable, nested_declarator_viable}
use Rattle.c_reading.proofs.Viable.Nested.{behind_paren_viable}
use Rattle.c_reading.proofs.Viable.Specifier.{low_specifiers_viable, specifiers_viable}
use Rattle.c_reading.proofs.Viable.Suffix.{array_viable, suffix_token, suffixes_viable}

abstract_omitted : (scope : Scope) → CompletedForm form.Abstract scope 0 []
abstract_omitted scope = record {
  node = tree.Omitted;
  more = [];
  fits = (tt, refl);
  within = omega arith;
  parts =
      refl;
}

parameter_omitted : (scope : Scope) → CompletedForm form.Parameter scope 0 []
parameter_omitted scope = record { node = tree.Omitted; more = []; fits = (tt, tt); within = omega arith; parts = refl }

-- ---- specifiers, and declarators behind them, in the whole

module _ (scope : Scope) where
  abbrev Types : Specifiers → Type 0
  Types all = SpecifyOneType all × AreSpecifiers all scope

  only_specifiers : Context Types specifiers_height spell_specifiers (λ type. IsTypeName type scope)
      type_name_height spell_type_name suc 0 []
  only_specifiers = record {
    make = λ all. tree.NamedType all tree.Omitted;
    behind = [];
    fits =
        λ all are. (are.0, are.1, tt, refl);
    within = λ all j low le. omega arith;
    spells = λ all. refl;
  }

  parameter_specifiers : Context Types specifiers_height spell_specifiers (λ one. IsParameter one scope)
      parameter_height spell_parameter suc 0 []
  parameter_specifiers = record {
    make = λ all. tree.Param all tree.Omitted;
    behind = [];
    fits =
        λ all are. (are.0, are.1, tt, tt);
    within = λ all j low le. omega arith;
    spells = λ all. refl;
  }

  member_specifiers : Context Types specifiers_height spell_specifiers (λ one. IsMember one scope) member_height
      spell_member suc 0 []
  member_specifiers = record {
    make = λ all. tree.Declares all tree.NoDeclarator;
    behind =
        mark p.Semicolon ∷ [];
    fits = λ all are. (are.0, are.1, tt);
    within = λ all j low le. omega arith;
    spells =
        λ all. simp append-nil;
  }

  module _ (all : Specifiers) (are : SpecifyOneType all × AreSpecifiers all scope) where
    in_type_name : Context (λ one. IsDeclarator one (scope ++ specifiers_add all)
        × HasForm form.Abstract (scope ++ specifiers_add all) one) declarator_height spell_declarator
        (λ type. IsTypeName type scope) type_name_height spell_type_name suc
        (specifiers_height all) (spell_specifiers all)
    in_type_name = record {
      make = λ one. tree.NamedType all one;
      behind = [];
      fits = λ one is. (are.0, are.1, is.0, is.1);
      within = λ one j low le. omega arith;
      spells = λ one. nothing_behind (spell_specifiers all) (spell_declarator one);
    }

    in_parameter : Context (λ one. IsDeclarator one (scope ++ specifiers_add all)
        × HasForm form.Parameter (scope ++ specifiers_add all) one) declarator_height spell_declarator
        (λ one. IsParameter one scope) parameter_height spell_parameter suc
        (specifiers_height all) (spell_specifiers all)
    in_parameter = record {
      make = λ one. tree.Param all one;
      behind = [];
      fits = λ one is. (are.0, are.1, is.0, is.1);
      within = λ one j low le. omega arith;
      spells = λ one. nothing_behind (spell_specifiers all) (spell_declarator one);
    }

module _ (k : ℕ) (low : Parsers) (sound : AllSound k low) (viable : AllViable k low) where
  module _ (scope : Scope) (tokens rest : List Token) (why : Why) where
    abbrev Stops : DeclaratorForm → Why → List Token → Type 0
    Stops shape = Holds (BeginsForm shape scope) (suc k) tokens

    star_viable : (shape : DeclaratorForm) → next_body tokens ≡ Some (lexeme.Mark p.Star)
        → room k low shape (λ ts. pointer k low shape scope (tail ts)) tokens ≡ Stopped why rest → Stops shape why rest
    star_viable form.Named is h =
        deeper_stopped (Stops form.Named) k (λ ts. pointer k low form.Named scope (tail ts)) tokens why rest h
        (too_deep_here (nothing_read form.Named scope k)
        (declarator_begun scope (place tokens) form.Named (next_body tokens)
        (ap (begins_declarator form.Named) is)))
        (λ some g. pointer_viable k low sound viable form.Named scope tokens rest why
        (λ ts g. viable.declarator form.Named scope ts rest why some g) is g)
    star_viable form.Abstract is h =
        pointer_viable k low sound viable form.Abstract scope tokens rest why
        (λ ts g. omitting_viable k low sound viable form.Abstract scope (abstract_omitted scope) ts rest why g) is h
    star_viable form.Parameter is h =
        pointer_viable k low sound viable form.Parameter scope tokens rest why
        (λ ts g. omitting_viable k low sound viable form.Parameter scope (parameter_omitted scope) ts rest why g) is h

    open_by_viable : (shape : DeclaratorForm) → next_body tokens ≡ Some (lexeme.Mark p.OpenParen)
        → open_by k low shape scope tokens ≡ Stopped why rest → Stops shape why rest
    open_by_viable form.Named is h =
        deeper_stopped (Stops form.Named) k (λ ts. nested_declarator k low form.Named scope (tail ts)) tokens why rest h
        (too_deep_here (nothing_read form.Named scope k)
        (declarator_begun scope (place tokens) form.Named (next_body tokens)
        (ap (begins_declarator form.Named) is)))
        (λ some g. nested_declarator_viable k low sound viable form.Named scope tokens rest why some is tt g)
    open_by_viable form.Abstract is h =
        behind_paren_viable k low sound viable form.Abstract scope tokens rest why (λ all b. refl) is
        (λ closed begins. closed) h
    open_by_viable form.Parameter is h =
        behind_paren_viable k low sound viable form.Parameter scope tokens rest why (λ all b. tt) is
        (λ closed begins. (closed, begins)) h

    bracket_viable : (shape : DeclaratorForm) → HasForm shape scope tree.Omitted
        → next_body tokens ≡ Some (lexeme.Mark p.OpenBracket)
        → (suffix_on k low scope tree.Omitted >>= suffixes k low scope) tokens ≡ Stopped why rest → Stops shape why rest
    unfolding suffix_on
    bracket_viable shape has is h =
        let before : IsSuffixed k low sound shape scope tokens tree.Omitted tokens =
        record { spells = refl; fits = (tt, tt, has); within = omega arith } in
        elim (bind_stopped (suffix_on k low scope tree.Omitted tokens) (suffixes k low scope) why rest h) [
          | inl x ↦ array_viable k low sound viable shape scope tokens tokens rest why tree.Omitted before
              (omega arith) is (sym (ap (λ o. suffix_by k low scope tree.Omitted o tokens) is) ∙ x)
          | inr x ↦
              (let first = suffix_by_sound k low sound shape scope tokens tokens x.mid tree.Omitted x.value before
              (omega arith) (next_body tokens) refl x.one in
              suffixes_viable k low sound viable shape scope tokens x.mid rest why x.value first
              (suffix_token k low sound viable scope tree.Omitted x.value (next_body tokens) tokens x.mid x.one)
              x.two)
        ]

    bracket_by_viable : (shape : DeclaratorForm) → next_body tokens ≡ Some (lexeme.Mark p.OpenBracket)
        → bracket_by k low shape scope tokens ≡ Stopped why rest → Stops shape why rest
    bracket_by_viable form.Named is h =
        stopped (Stops form.Named) h (refused (nothing_spelt tokens) (nothing_read form.Named scope k))
    bracket_by_viable form.Abstract is h = bracket_viable form.Abstract refl is h
    bracket_by_viable form.Parameter is h = bracket_viable form.Parameter tt is h

    name_viable : (shape : DeclaratorForm) (x : List ℕ) → next_body tokens ≡ Some (lexeme.Name x)
        → HasForm shape scope (tree.Name (place tokens) x)
        → suffixes k low scope (tree.Name (place tokens) x) (tail tokens) ≡ Stopped why rest → Stops shape why rest
    name_viable shape x is has h =
        suffixes_viable k low sound viable shape scope tokens (tail tokens) rest why (tree.Name (place tokens) x)
        (record {
          spells = (spelt_at tokens (lexeme.Name x) is).takes;
          fits = (tt, tt, has);
          within = omega arith;
        }) tt h

    name_by_viable : (shape : DeclaratorForm) (x : List ℕ) → next_body tokens ≡ Some (lexeme.Name x)
        → name_by k low shape scope (place tokens) x tokens ≡ Stopped why rest → Stops shape why rest
    name_by_viable form.Named x is h = name_viable form.Named x is refl h
    name_by_viable form.Abstract x is h = absurd (cc (h))
    name_by_viable form.Parameter x is h = name_viable form.Parameter x is tt h

    declarator_by_viable : (shape : DeclaratorForm) (o : Option Body) → next_body tokens ≡ o
        → declarator_by k low shape scope (place tokens) o tokens ≡ Stopped why rest → Stops shape why rest
    declarator_by_viable shape (Some (lexeme.Mark p.Star)) is h = star_viable shape is h
    declarator_by_viable shape (Some (lexeme.Mark p.OpenParen)) is h = open_by_viable shape is h
    declarator_by_viable shape (Some (lexeme.Mark p.OpenBracket)) is h = bracket_by_viable shape is h
    declarator_by_viable shape (Some (lexeme.Name x)) is h = name_by_viable shape x is h
    declarator_by_viable shape _ is h =
        omission_viable shape scope (suc k) tokens rest why (nothing_read shape scope k) h

  pub declarator_viable : (shape : DeclaratorForm) (scope : Scope) (tokens rest : List Token) (why : Why)
      → declarator_at k low shape scope tokens ≡ Stopped why rest
      → Holds (BeginsForm shape scope) (suc k) tokens why rest
  unfolding declarator_at
  declarator_viable shape scope tokens rest why h =
      declarator_by_viable scope tokens rest why shape (next_body tokens) refl h

  -- ---- type names, parameters and members

  pub type_name_viable : (scope : Scope) (tokens rest : List Token) (why : Why)
      → type_name_at k low scope tokens ≡ Stopped why rest → Holds (BeginsTypeName scope) (suc k) tokens why rest
  unfolding type_name_at
  type_name_viable scope tokens rest why h =
      elim (bind_stopped (low.specifiers scope tokens)
      (λ all. low.declarator form.Abstract (scope ++ specifiers_add all)
      >>= λ one. pure (tree.NamedType all one)) why rest h) [
        | inl x ↦ into (only_specifiers scope) (omega arith) (nothing_spelt tokens)
            (viable.specifiers scope tokens rest why x)
        | inr x ↦
            (let all = sound.specifiers scope tokens x.mid x.value x.one in
            let inner : Scope = scope ++ specifiers_add x.value in
            into (in_type_name scope x.value all.fits) all.within (spelt all)
            (omitting_viable k low sound viable form.Abstract inner (abstract_omitted inner) x.mid rest why
            (given_stopped (low.declarator form.Abstract inner x.mid) (λ one. tree.NamedType x.value one) why rest
            x.two)))
      ]

  pub parameter_viable : (scope : Scope) (tokens rest : List Token) (why : Why)
      → parameter_at k low scope tokens ≡ Stopped why rest → Holds (BeginsParameter scope) (suc k) tokens why rest
  unfolding parameter_at
  parameter_viable scope tokens rest why h =
      elim (bind_stopped (low.specifiers scope tokens)
      (λ all. low.declarator form.Parameter (scope ++ specifiers_add all) >>= λ one. pure (tree.Param all one))
      why rest h) [
        | inl x ↦ into (parameter_specifiers scope) (omega arith) (nothing_spelt tokens)
            (viable.specifiers scope tokens rest why x)
        | inr x ↦
            (let all = sound.specifiers scope tokens x.mid x.value x.one in
            let inner : Scope = scope ++ specifiers_add x.value in
            into (in_parameter scope x.value all.fits) all.within (spelt all)
            (omitting_viable k low sound viable form.Parameter inner (parameter_omitted inner) x.mid rest why
            (given_stopped (low.declarator form.Parameter inner x.mid) (λ one. tree.Param x.value one) why rest x.two)))
      ]

  -- where no height is left, no declarator is found, and it stops at once
  none_named : (scope : Scope) (tokens rest : List Token) (one : Declarator)
      → no_declarator form.Named tokens ≡ Found one rest → ⊥
  unfolding no_declarator
  none_named scope tokens rest one h =
      elim (chosen (begins_declarator form.Named (next_body tokens)) (fail TooDeep) (fail Unfit) tokens
      (Found one rest) h) [ inl x ↦ cc (x.1) | inr x ↦ cc (x.1) ]

  module _ (scope : Scope) (start tokens rest : List Token) (why : Why) (all : Specifiers)
      (before : Read (λ all. SpecifyOneType all × AreSpecifiers all scope) specifiers_height spell_specifiers k
      start all tokens) where
    abbrev Ends : Why → List Token → Type 0
    Ends = Holds (BeginsMember scope) (suc k) start

    abbrev inner : Scope
    inner = scope ++ specifiers_add all

    no_name : Completed (λ one. IsMember one scope) member_height spell_member (suc k) (spell_specifiers all)
    no_name = record {
      node = tree.Declares all tree.NoDeclarator;
      more = mark p.Semicolon ∷ [];
      fits =
          (before.fits.0, before.fits.1, tt);
      within = omega (arith, before.within);
      parts = simp append-nil;
    }

    at_once : no_declarator form.Named tokens ≡ Stopped why rest → Ends why rest
    unfolding no_declarator
    at_once h =
        elim (chosen (begins_declarator form.Named (next_body tokens)) (fail TooDeep) (fail Unfit) tokens
        (Stopped why rest) h) [
          | inl x ↦
              (let y = declarator_begun inner (place tokens) form.Named (next_body tokens) x.0 in
              stopped Ends x.1 (too_deep {high = suc (max (specifiers_height all) y.high)} (spelt before)
              (spelt_next tokens y) no_name (record {
                node = tree.Declares all (tree.MoreDeclarators y.completed.node tree.NoDeclarator);
                more = y.completed.more ++ mark p.Semicolon ∷ [];
                fits = (before.fits.0, before.fits.1, (y.completed.fits.0, y.completed.fits.1, tt));
                within = omega (arith, y.completed.within);
                parts = simp append-nil (ap (λ z. spell_specifiers all ++ z ++ mark p.Semicolon ∷ [])
                    y.completed.parts ∙ simp append_assoc);
              })))
          | inr x ↦ stopped Ends x.1 (refused (spelt before) no_name)
        ]

    in_member : Context (λ list. AreDeclarators list inner) declarators_height
        (λ list. commas (spelled_declarators list)) (λ one. IsMember one scope) member_height spell_member suc
        (specifiers_height all) (spell_specifiers all)
    in_member = record {
      make = λ list. tree.Declares all list;
      behind = mark p.Semicolon ∷ [];
      fits = λ list are. (before.fits.0, before.fits.1, are);
      within = λ list j low le. omega arith;
      spells = λ list. append_assoc (spell_specifiers all) (commas (spelled_declarators list)) (mark p.Semicolon ∷ []);
    }

    some_viable : 0 < k → listed_declarators k low inner tokens ≡ Stopped why rest
        → Holds (Begins (λ list. AreDeclarators list inner) declarators_height
        (λ list. commas (spelled_declarators list))) k tokens why rest
    unfolding listed_declarators
    some_viable some h =
        listed_viable k (λ s one. IsDeclarator one s × DeclaresName one) declarator_height spell_declarator
        (λ s one. s ++ declarator_adds one)
        (λ s list. AreDeclarators list s) (λ s list. AreDeclarators list s) declarators_height spelled_declarators
        tree.NoDeclarator tree.MoreDeclarators
        (λ s. tt) (λ s one list is are. (is.0, is.1, are)) (λ s one list is are. (is.0, is.1, are)) refl
        (λ one list. refl) refl (λ one list. refl)
        (λ o. false) (pure tt) (λ tokens rest why h. cc (h)) (low.declarator form.Named)
        (λ s. sound.declarator form.Named s)
        (λ s tokens rest why h. viable.declarator form.Named s tokens rest why some h) inner tokens rest why h

    list_viable : (j : ℕ) → k ≡ j → listed_declarators k low inner tokens ≡ Stopped why rest → Ends why rest
    unfolding listed_declarators
    list_viable zero none h =
        listed_stopped (is_mark p.Comma) (λ o. false) (pure tt) (low.declarator form.Named)
        (λ s one. s ++ declarator_adds one) (λ s tokens why rest. Unit {0})
        (λ tokens rest why h. cc (h)) (λ s tokens rest why comma h. tt) (λ s tokens mid rest a why comma h then. tt)
        Ends inner tokens rest why h
        (λ h. at_once (sym (viable.lowest none form.Named inner tokens) ∙ h))
        (λ a mid h then. absurd (none_named inner tokens mid a (sym (viable.lowest none form.Named inner tokens) ∙ h)))
    list_viable (suc j) some h = into in_member before.within (spelt before) (some_viable (omega (arith, some)) h)

    declared_viable : (listed_declarators k low inner >>= λ found. expect (is_mark p.Semicolon)
        >>= λ _. pure (tree.Declares all (declarators found.0))) tokens ≡ Stopped why rest → Ends why rest
    declared_viable h =
        elim (bind_stopped (listed_declarators k low inner tokens) (λ found. expect (is_mark p.Semicolon)
        >>= λ _. pure (tree.Declares all (declarators found.0))) why rest h) [
          | inl x ↦ list_viable k refl x
          | inr x ↦
              (let y = listed_declarators_sound k low sound inner tokens x.mid x.value x.one in
              close_stopped p.Semicolon (tree.Declares all (declarators x.value.0)) Ends x.mid why rest x.two
              (refused (joined (spelt before) (spelt y)) (record {
                node = tree.Declares all (declarators x.value.0);
                more = mark p.Semicolon ∷ [];
                fits = (before.fits.0, before.fits.1, y.fits);
                within = omega (arith, before.within, y.within);
                parts = refl;
              })))
        ]

    member_by_viable : (o : Option Body) → member_by k low scope all o tokens ≡ Stopped why rest → Ends why rest
    member_by_viable (Some (lexeme.Mark p.Semicolon)) h = absurd (cc (h))
    member_by_viable o h = declared_viable h

  pub member_viable : (scope : Scope) (tokens rest : List Token) (why : Why)
      → member_at k low scope tokens ≡ Stopped why rest → Holds (BeginsMember scope) (suc k) tokens why rest
  unfolding member_at member_on
  member_viable scope tokens rest why h =
      elim (bind_stopped (low.specifiers scope tokens) (member_on k low scope) why rest h) [
        | inl x ↦ into (member_specifiers scope) (omega arith) (nothing_spelt tokens)
            (viable.specifiers scope tokens rest why x)
        | inr x ↦ member_by_viable scope tokens x.mid rest why x.value
            (sound.specifiers scope tokens x.mid x.value x.one) (next_body x.mid) x.two
      ]

pub parsers_viable : (k : ℕ) → AllViable k (parsers k)
parsers_viable zero = record {
  expr = λ scope level tokens rest why low_level some h. absurd (omega (arith, some));
  paren_expr = λ scope open_token tokens rest why is some h. absurd (omega (arith, some));
  paren_expr_low = λ scope tokens rest why one h. absurd (omega (arith, one));
  type_name = λ scope tokens rest why some h. absurd (omega (arith, some));
  specifiers = low_specifiers_viable;
  declarator = λ shape scope tokens rest why some h. absurd (omega (arith, some));
  lowest = λ none shape scope tokens. refl;
  parameter = λ scope tokens rest why some h. absurd (omega (arith, some));
  member = λ scope tokens rest why some h. absurd (omega (arith, some));
}
parsers_viable (suc k) =
    let low = parsers k in
    let sound = parsers_sound k in
    let viable = parsers_viable k in
    record {
      expr = λ scope level tokens rest why low_level some h. expr_viable k low sound viable scope level tokens rest
          why low_level h;
      paren_expr = λ scope open_token tokens rest why is some h. paren_expr_viable k low sound viable scope
          open_token tokens rest why is (omega (arith, some)) h;
      paren_expr_low =
          λ scope tokens rest why one h. paren_expr_at_once k low scope tokens rest why (omega (arith, one)) h;
      type_name = λ scope tokens rest why some h. type_name_viable k low sound viable scope tokens rest why h;
      specifiers = specifiers_viable k low sound viable;
      declarator = λ shape scope tokens rest why some h. declarator_viable k low sound viable shape scope tokens
          rest why h;
      lowest = λ none shape scope tokens. absurd (omega (arith, none));
      parameter = λ scope tokens rest why some h. parameter_viable k low sound viable scope tokens rest why h;
      member = λ scope tokens rest why some h. member_viable k low sound viable scope tokens rest why h;
    }
