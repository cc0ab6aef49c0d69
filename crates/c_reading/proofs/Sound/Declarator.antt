-- What is read as a declarator, a parameter, a member or a type name is one.
use Rattle.std.proofs.Common.{◌≡◌, ℕ, suc, List, [], ◌∷◌, ◌++◌, Bool, true, false, Option, Some, None, is_some, inl}
use Rattle.std.proofs.Common.{inr, refl, sym, ap, subst, arith}
use Rattle.std.specs.List.{flat_map}
use Rattle.std.proofs.lemmas.List.{append-nil}
use Rattle.c_lexer.specs.declared.punct.Punct.TheVariants as p
use Rattle.c_lexer.specs.declared.token.Token.{Token}
use Rattle.c_lexer.specs.declared.token.Body.{Body}
use Rattle.c_lexer.specs.declared.token.Body.TheVariants as lexeme
use Rattle.c_reading.specs.declared.declarator_form.DeclaratorForm.{DeclaratorForm}
use Rattle.c_reading.specs.declared.declarator_form.DeclaratorForm.TheVariants as form
use Rattle.c_syntax.specs.declared.specifier.Qualifier.{Qualifier}
use Rattle.c_syntax.specs.declared.spelled.Spelled.{Spelled}
use Rattle.c_syntax.specs.Height.{type_name_height, specifiers_height, declarator_height, declarators_height}
use Rattle.c_syntax.specs.Height.{parameter_height, member_height}
use Rattle.c_syntax.specs.Operators.{qualifier_word}
use Rattle.c_reading.specs.Parser.{Found, next_body, place, tail, pure, expect, ◌>>=◌}
use Rattle.c_reading.specs.ReadExpr.{Parsers}
use Rattle.c_reading.specs.ReadDeclarator.{begins_declarator, omission, no_declarator, qualifier_by, qualifier}
use Rattle.c_reading.specs.ReadDeclarator.{qualifiers, listed_parameters, suffix_on, suffixes, nested_declarator}
use Rattle.c_reading.specs.ReadDeclarator.{omitted_list, behind_paren, open_by, room, pointer, name_by, bracket_by}
use Rattle.c_reading.specs.ReadDeclarator.{declarator_by, declarator_at, type_name_at, parameter_at}
use Rattle.c_reading.specs.ReadDeclarator.{listed_declarators, member_by, member_on, member_at}
use Rattle.c_reading.specs.ReadToken.{is_mark, begins_type, qualifier_of}
use Rattle.c_syntax.specs.Scopes.{Scope, specifiers_add, declarator_adds}
use Rattle.c_syntax.specs.Spelling.{spell_qualifiers, spell_type_name, spell_specifiers, spell_declarator}
use Rattle.c_syntax.specs.Spelling.{spelled_declarators, spell_parameter, spell_member}
use Rattle.c_syntax.specs.Tokens.{word, mark, commas}
use Rattle.c_syntax.specs.Tree as tree
use Rattle.c_syntax.specs.Tree.{Specifiers, MemberDeclaration, Declarator}
use Rattle.c_syntax.specs.View.{declarators, parameters}
use Rattle.c_syntax.specs.WellFormed.{SpecifyOneType, DeclaresName, HasToken, first_name, IsNoType, AreSpecifiers}
use Rattle.c_syntax.specs.WellFormed.{AreParameters, AreDeclarators, IsTypeName, IsDeclarator, IsParameter, IsMember}
use Rattle.c_reading.proofs.Sound.Steps.{moved, bind_found, chosen, deeper_found, mark_then, Spelt, joined}
use Rattle.c_reading.proofs.Sound.Steps.{nothing_spelt, spelt_at, spelt_bare, spelt_mark, many_found, listed_found}
use Rattle.c_reading.proofs.Sound.Law.{Read, Sound, HasForm, spelt, AllSound}
use Rattle.c_reading.proofs.Sound.Suffix.{listed_parameters_sound, IsSuffixed, suffix_by_sound, suffixes_sound}
use Rattle.c_reading.proofs.Takes.{Takes}
use Rattle.c_reading.proofs.TokenTests.{token_is, qualifier_is}

abbrev IsRead : DeclaratorForm → Scope → ℕ → List Token → Declarator → List Token → Type 0
IsRead shape scope = Read (λ one. IsDeclarator one scope × HasForm shape scope one) declarator_height spell_declarator

omission_sound : (shape : DeclaratorForm) (scope : Scope) (most : ℕ) (tokens rest : List Token) (one : Declarator)
    → omission shape tokens ≡ Found one rest → IsRead shape scope most tokens one rest
omission_sound form.Named scope most tokens rest one h = absurd (cc (h))
omission_sound form.Abstract scope most tokens rest one h =
    moved (IsRead form.Abstract scope most tokens) h (record { spells = refl; fits = (tt, refl); within = omega arith })
omission_sound form.Parameter scope most tokens rest one h =
    moved (IsRead form.Parameter scope most tokens) h (record { spells = refl; fits = (tt, tt); within = omega arith })

pub no_declarator_sound : (shape : DeclaratorForm) (scope : Scope)
    → Sound (λ one. IsDeclarator one scope × HasForm shape scope one) declarator_height spell_declarator 0
    (no_declarator shape)
unfolding no_declarator
no_declarator_sound shape scope tokens rest one h =
    elim (chosen (begins_declarator shape (next_body tokens)) _ _ tokens (Found one rest) h) [
      | inl x ↦ absurd (cc (x.1))
      | inr x ↦ omission_sound shape scope 0 tokens rest one x.1
    ]

-- ---- qualifiers behind a star

abbrev pub AreQualifiers : List Token → List Qualifier → List Token → Type 0
AreQualifiers tokens all rest = Spelt tokens (spell_qualifiers all) rest

qualifier_sound : (m : Option Qualifier) (tokens rest : List Token) (one : Qualifier)
    → qualifier_of (next_body tokens) ≡ m → qualifier_by m tokens ≡ Found one rest
    → Spelt tokens (word (qualifier_word one) ∷ []) rest
qualifier_sound (Some found) tokens rest one m h =
    moved (λ one. Spelt tokens (word (qualifier_word one) ∷ [])) h
    (spelt_bare tokens (lexeme.Word (qualifier_word found))
    (token_is (λ one. lexeme.Word (qualifier_word one)) _ _ found (qualifier_is (next_body tokens)) m))
qualifier_sound None tokens rest one m h = absurd (cc (h))

pub qualifiers_sound : (scope : Scope) (tokens rest : List Token) (all : List Qualifier)
    → qualifiers scope tokens ≡ Found all rest → AreQualifiers tokens all rest
unfolding qualifiers qualifier
qualifiers_sound scope tokens rest all h =
    many_found (λ s o. is_some (qualifier_of o)) (λ s. qualifier) (λ s word. s) (λ s. AreQualifiers)
    (λ s tokens. nothing_spelt tokens)
    (λ s tokens mid rest one more goes h then.
    joined (qualifier_sound (qualifier_of (next_body tokens)) tokens mid one refl h) then) scope tokens rest all h

-- ---- the first token of a declarator

abbrev pub BeginsWith : List ℕ → List Spelled → Type 0
BeginsWith x [] = ⊥
BeginsWith x (first ∷ more) = first.body ≡ lexeme.Name x

begins_more : (x : List ℕ) (front more : List Spelled) → BeginsWith x front → BeginsWith x (front ++ more)
begins_more x [] more is = absurd is
begins_more x (first ∷ front) more is = is

pub begins_name : (inner : Declarator) (x : List ℕ) → first_name inner ≡ Some x → BeginsWith x (spell_declarator inner)
begins_name tree.Omitted x h = absurd (cc (h))
begins_name (tree.Name pos y) x h = cc (h)
begins_name (tree.DParen inner) x h = absurd (cc (h))
begins_name (tree.PointerTo words inner) x h = absurd (cc (h))
begins_name (tree.ArrayOf inner length) x h = begins_more x _ _ (begins_more x _ _ (begins_name inner x h))
begins_name (tree.FunctionOf inner list variadic) x h =
    begins_more x _ _ (begins_more x _ _ (begins_more x _ _ (begins_name inner x h)))

begins_seen : (x : List ℕ) (tokens rest : List Token) (spelled : List Spelled) → BeginsWith x spelled
    → Takes tokens spelled rest → next_body tokens ≡ Some (lexeme.Name x)
begins_seen x tokens rest [] is all = absurd is
begins_seen x [] rest (first ∷ more) is all = absurd all
begins_seen x (token ∷ tokens) rest (first ∷ more) is all = cc (is, all.0)

no_type : (scope : Scope) (tokens rest : List Token) (inner : Declarator)
    → begins_type scope (next_body tokens) ≡ false → Takes tokens (spell_declarator inner) rest
    → IsNoType scope (first_name inner)
no_type scope tokens rest inner none all = by (first_name inner) refl
  where
    by : (m : Option (List ℕ)) → first_name inner ≡ m → IsNoType scope m
    by None m = tt
    by (Some x) m =
        subst (λ o. begins_type scope o ≡ false)
        (begins_seen x tokens rest (spell_declarator inner) (begins_name inner x m) all) none

pub named_token : (inner : Declarator) → DeclaresName inner → HasToken inner
named_token tree.Omitted has = absurd (cc (has))
named_token _ has = tt

closed_token : (inner : Declarator) (tokens mid : List Token) → is_mark p.CloseParen (next_body tokens) ≡ false
    → is_mark p.CloseParen (next_body mid) ≡ true → Takes tokens (spell_declarator inner) mid → HasToken inner
closed_token tree.Omitted tokens mid open_now closed all = absurd (cc (open_now, closed, all))
closed_token _ tokens mid open_now closed all = tt

close_seen : (mid rest : List Token) → Spelt mid (mark p.CloseParen ∷ []) rest
    → is_mark p.CloseParen (next_body mid) ≡ true
close_seen [] rest closes = absurd closes.takes
close_seen (token ∷ tokens) rest closes = ap (λ next. is_mark p.CloseParen (Some next)) closes.takes.0

-- what is known of the token behind a parenthesis that begins no parameter list
abbrev pub Opens : DeclaratorForm → Scope → List Token → Type 0
Opens form.Named scope behind = Unit {0}
Opens form.Abstract scope behind = is_mark p.CloseParen (next_body behind) ≡ false
Opens form.Parameter scope behind = (is_mark p.CloseParen (next_body behind) ≡ false)
    × (begins_type scope (next_body behind) ≡ false)

pub has_paren : (shape : DeclaratorForm) (scope : Scope) (behind mid rest : List Token) (inner : Declarator)
    → Opens shape scope behind → Takes behind (spell_declarator inner) mid → Spelt mid (mark p.CloseParen ∷ []) rest
    → HasForm shape scope inner
    → HasToken inner × HasForm shape scope (tree.DParen inner)
has_paren form.Named scope behind mid rest inner opens all closes has = (named_token inner has, has)
has_paren form.Abstract scope behind mid rest inner opens all closes has =
    (closed_token inner behind mid opens (close_seen mid rest closes) all, has)
has_paren form.Parameter scope behind mid rest inner opens all closes has = (
  closed_token inner behind mid opens.0 (close_seen mid rest closes) all,
  (no_type scope behind mid inner opens.1 all, has),
)

pub has_pointer : (shape : DeclaratorForm) (scope : Scope) (words : List Qualifier) (inner : Declarator)
    → HasForm shape scope inner → HasForm shape scope (tree.PointerTo words inner)
has_pointer form.Named scope words inner has = has
has_pointer form.Abstract scope words inner has = has
has_pointer form.Parameter scope words inner has = has

module _ (k : ℕ) (low : Parsers) (sound : AllSound k low) where
  module _ (shape : DeclaratorForm) (scope : Scope) (tokens rest : List Token) (one : Declarator) where
    -- a direct declarator is a declarator
    direct : IsSuffixed k low sound shape scope tokens one rest → IsRead shape scope (suc k) tokens one rest
    direct x = record { spells = x.spells; fits = (x.fits.1, x.fits.2); within = x.within }

    nested_declarator_sound : next_body tokens ≡ Some (lexeme.Mark p.OpenParen) → Opens shape scope (tail tokens)
        → nested_declarator k low shape scope (tail tokens) ≡ Found one rest
        → IsRead shape scope (suc k) tokens one rest
    unfolding nested_declarator
    nested_declarator_sound is opens h =
        let x = bind_found (low.declarator shape scope (tail tokens)) (λ inner. expect (is_mark p.CloseParen)
        >>= λ _. suffixes k low scope (tree.DParen inner)) one rest h in
        let c = mark_then p.CloseParen (suffixes k low scope (tree.DParen x.value)) x.mid rest one x.two in
        let y = sound.declarator shape scope (tail tokens) x.mid x.value x.one in
        let has = has_paren shape scope (tail tokens) x.mid c.mid x.value opens y.spells c.spelt y.fits.1 in
        direct (suffixes_sound k low sound shape scope tokens c.mid rest (tree.DParen x.value) one (record {
          spells = (joined (joined (spelt_bare tokens (lexeme.Mark p.OpenParen) is) (spelt y)) c.spelt).takes;
          fits = (tt, (has.0, y.fits.0), has.1);
          within = omega (arith, y.within);
        }) c.two)

    omitted_list_sound : next_body tokens ≡ Some (lexeme.Mark p.OpenParen)
        → ((all : _) (b : Bool) → HasForm shape scope (tree.FunctionOf tree.Omitted all b))
        → omitted_list k low scope (tail tokens) ≡ Found one rest → IsRead shape scope (suc k) tokens one rest
    unfolding omitted_list
    omitted_list_sound is has h =
        let x = bind_found (listed_parameters k low scope (tail tokens)) (λ all. expect (is_mark p.CloseParen)
        >>= λ _. suffixes k low scope (tree.FunctionOf tree.Omitted (parameters all.0) all.1)) one rest h in
        let c = mark_then p.CloseParen
        (suffixes k low scope (tree.FunctionOf tree.Omitted (parameters x.value.0) x.value.1)) x.mid rest one
        x.two in
        let y = listed_parameters_sound k low sound scope (tail tokens) x.mid x.value x.one in
        direct (suffixes_sound k low sound shape scope tokens c.mid rest
        (tree.FunctionOf tree.Omitted (parameters x.value.0) x.value.1) one (record {
          spells = (joined (joined (joined (spelt_bare tokens (lexeme.Mark p.OpenParen) is) y.spells) y.ends)
              c.spelt).takes;
          fits = (
            tt,
            (
              tt,
              tt,
              subst (AreParameters (parameters x.value.0)) (sym (append-nil scope)) y.fits.1,
              y.fits.0,
            ),
            has (parameters x.value.0) x.value.1,
          );
          within = omega (arith, y.within);
        }) c.two)

    behind_paren_sound : next_body tokens ≡ Some (lexeme.Mark p.OpenParen)
        → ((all : _) (b : Bool) → HasForm shape scope (tree.FunctionOf tree.Omitted all b))
        → (is_mark p.CloseParen (next_body (tail tokens)) ≡ false → begins_type scope (next_body (tail tokens))
        ≡ false → Opens shape scope (tail tokens))
        → behind_paren k low shape scope (tail tokens) ≡ Found one rest → IsRead shape scope (suc k) tokens one rest
    unfolding behind_paren
    behind_paren_sound is has opens h =
        elim (chosen (is_mark p.CloseParen (next_body (tail tokens))) _ _ (tail tokens) (Found one rest) h) [
          | inl x ↦ direct (suffixes_sound k low sound shape scope tokens (tail (tail tokens)) rest
              (tree.FunctionOf tree.Omitted tree.NoParameter false) one (record {
                spells = (joined (spelt_bare tokens (lexeme.Mark p.OpenParen) is)
                    (spelt_mark p.CloseParen (tail tokens) x.0)).takes;
                fits = (tt, (tt, tt, tt, tt), has tree.NoParameter false);
                within = omega arith;
              }) x.1)
          | inr x ↦ elim (chosen (begins_type scope (next_body (tail tokens))) _ _ (tail tokens) (Found one rest) x.1) [
            | inl y ↦ omitted_list_sound is has (deeper_found k (omitted_list k low scope) (tail tokens) rest one y.1)
            | inr y ↦ elim (chosen (begins_declarator shape (next_body (tail tokens))) _ _ (tail tokens)
                (Found one rest) y.1) [
                  | inl z ↦ nested_declarator_sound is (opens x.0 y.0)
                      (deeper_found k (nested_declarator k low shape scope) (tail tokens) rest one z.1)
                  | inr z ↦ absurd (cc (z.1))
                ]
          ]
        ]

    pointer_sound : next_body tokens ≡ Some (lexeme.Mark p.Star) → pointer k low shape scope (tail tokens)
        ≡ Found one rest → IsRead shape scope (suc k) tokens one rest
    unfolding pointer
    pointer_sound is h =
        let x = bind_found (qualifiers scope (tail tokens)) (λ words. low.declarator shape scope
        >>= λ inner. pure (tree.PointerTo words inner)) one rest h in
        let y = bind_found (low.declarator shape scope x.mid) (λ inner. pure (tree.PointerTo x.value inner)) one
        rest x.two in
        let z = sound.declarator shape scope x.mid y.mid y.value y.one in
        moved (IsRead shape scope (suc k) tokens) y.two (record {
          spells = (joined
              (joined (spelt_bare tokens (lexeme.Mark p.Star) is)
              (qualifiers_sound scope (tail tokens) x.mid x.value x.one)) (spelt z)).takes;
          fits = (z.fits.0, has_pointer shape scope x.value y.value z.fits.1);
          within = omega (arith, z.within);
        })

    name_sound : (x : List ℕ) → next_body tokens ≡ Some (lexeme.Name x)
        → HasForm shape scope (tree.Name (place tokens) x)
        → suffixes k low scope (tree.Name (place tokens) x) (tail tokens) ≡ Found one rest
        → IsRead shape scope (suc k) tokens one rest
    name_sound x is has h =
        direct (suffixes_sound k low sound shape scope tokens (tail tokens) rest (tree.Name (place tokens) x) one
        (record {
          spells = (spelt_at tokens (lexeme.Name x) is).takes;
          fits = (tt, tt, has);
          within = omega arith;
        }) h)

    bracket_sound : HasForm shape scope tree.Omitted
        → (suffix_on k low scope tree.Omitted >>= suffixes k low scope) tokens ≡ Found one rest
        → IsRead shape scope (suc k) tokens one rest
    unfolding suffix_on
    bracket_sound has h =
        let x = bind_found (suffix_on k low scope tree.Omitted tokens) (suffixes k low scope) one rest h in
        let first = suffix_by_sound k low sound shape scope tokens tokens x.mid tree.Omitted x.value
        (record { spells = refl; fits = (tt, tt, has); within = omega arith }) (omega arith) (next_body tokens)
        refl x.one in
        direct (suffixes_sound k low sound shape scope tokens x.mid rest x.value one first x.two)

  module _ (scope : Scope) (tokens rest : List Token) (one : Declarator) where
    open_by_sound : (shape : DeclaratorForm) → next_body tokens ≡ Some (lexeme.Mark p.OpenParen)
        → open_by k low shape scope tokens ≡ Found one rest → IsRead shape scope (suc k) tokens one rest
    open_by_sound form.Named is h =
        nested_declarator_sound form.Named scope tokens rest one is tt
        (deeper_found k (λ ts. nested_declarator k low form.Named scope (tail ts)) tokens rest one h)
    open_by_sound form.Abstract is h =
        behind_paren_sound form.Abstract scope tokens rest one is (λ all b. refl) (λ closed begins. closed) h
    open_by_sound form.Parameter is h =
        behind_paren_sound form.Parameter scope tokens rest one is (λ all b. tt) (λ closed begins. (closed, begins)) h

    star_sound : (shape : DeclaratorForm) → next_body tokens ≡ Some (lexeme.Mark p.Star)
        → room k low shape (λ ts. pointer k low shape scope (tail ts)) tokens ≡ Found one rest
        → IsRead shape scope (suc k) tokens one rest
    star_sound form.Named is h =
        pointer_sound form.Named scope tokens rest one is
        (deeper_found k (λ ts. pointer k low form.Named scope (tail ts)) tokens rest one h)
    star_sound form.Abstract is h = pointer_sound form.Abstract scope tokens rest one is h
    star_sound form.Parameter is h = pointer_sound form.Parameter scope tokens rest one is h

    name_by_sound : (shape : DeclaratorForm) (x : List ℕ) → next_body tokens ≡ Some (lexeme.Name x)
        → name_by k low shape scope (place tokens) x tokens ≡ Found one rest
        → IsRead shape scope (suc k) tokens one rest
    name_by_sound form.Named x is h = name_sound form.Named scope tokens rest one x is refl h
    name_by_sound form.Abstract x is h = omission_sound form.Abstract scope (suc k) tokens rest one h
    name_by_sound form.Parameter x is h = name_sound form.Parameter scope tokens rest one x is tt h

    bracket_by_sound : (shape : DeclaratorForm) → bracket_by k low shape scope tokens ≡ Found one rest
        → IsRead shape scope (suc k) tokens one rest
    bracket_by_sound form.Named h = absurd (cc (h))
    bracket_by_sound form.Abstract h = bracket_sound form.Abstract scope tokens rest one refl h
    bracket_by_sound form.Parameter h = bracket_sound form.Parameter scope tokens rest one tt h

    declarator_by_sound : (shape : DeclaratorForm) (o : Option Body) → next_body tokens ≡ o
        → declarator_by k low shape scope (place tokens) o tokens ≡ Found one rest
        → IsRead shape scope (suc k) tokens one rest
    declarator_by_sound shape (Some (lexeme.Mark p.Star)) is h = star_sound shape is h
    declarator_by_sound shape (Some (lexeme.Mark p.OpenParen)) is h = open_by_sound shape is h
    declarator_by_sound shape (Some (lexeme.Mark p.OpenBracket)) is h = bracket_by_sound shape h
    declarator_by_sound shape (Some (lexeme.Name x)) is h = name_by_sound shape x is h
    declarator_by_sound shape _ is h = omission_sound shape scope (suc k) tokens rest one h

  pub declarator_sound : (shape : DeclaratorForm) (scope : Scope)
      → Sound (λ one. IsDeclarator one scope × HasForm shape scope one) declarator_height spell_declarator (suc k)
      (declarator_at k low shape scope)
  unfolding declarator_at
  declarator_sound shape scope tokens rest one h =
      declarator_by_sound scope tokens rest one shape (next_body tokens) refl h

  -- ---- type names, parameters and members

  pub type_name_sound : (scope : Scope)
      → Sound (λ type. IsTypeName type scope) type_name_height spell_type_name (suc k) (type_name_at k low scope)
  unfolding type_name_at
  type_name_sound scope tokens rest type h =
      let x = bind_found (low.specifiers scope tokens)
      (λ all. low.declarator form.Abstract (scope ++ specifiers_add all)
      >>= λ one. pure (tree.NamedType all one)) type rest h in
      let y = bind_found (low.declarator form.Abstract (scope ++ specifiers_add x.value) x.mid)
      (λ one. pure (tree.NamedType x.value one)) type rest x.two in
      let all = sound.specifiers scope tokens x.mid x.value x.one in
      let one = sound.declarator form.Abstract (scope ++ specifiers_add x.value) x.mid y.mid y.value y.one in
      moved (Read (λ type. IsTypeName type scope) type_name_height spell_type_name (suc k) tokens) y.two (record {
        spells = (joined (spelt all) (spelt one)).takes;
        fits = (all.fits.0, all.fits.1, one.fits.0, one.fits.1);
        within = omega (arith, all.within, one.within);
      })

  pub parameter_sound : (scope : Scope)
      → Sound (λ one. IsParameter one scope) parameter_height spell_parameter (suc k) (parameter_at k low scope)
  unfolding parameter_at
  parameter_sound scope tokens rest parameter h =
      let x = bind_found (low.specifiers scope tokens)
      (λ all. low.declarator form.Parameter (scope ++ specifiers_add all) >>= λ one. pure (tree.Param all one))
      parameter rest h in
      let y = bind_found (low.declarator form.Parameter (scope ++ specifiers_add x.value) x.mid)
      (λ one. pure (tree.Param x.value one)) parameter rest x.two in
      let all = sound.specifiers scope tokens x.mid x.value x.one in
      let one = sound.declarator form.Parameter (scope ++ specifiers_add x.value) x.mid y.mid y.value y.one in
      moved (Read (λ one. IsParameter one scope) parameter_height spell_parameter (suc k) tokens) y.two (record {
        spells = (joined (spelt all) (spelt one)).takes;
        fits = (all.fits.0, all.fits.1, one.fits.0, one.fits.1);
        within = omega (arith, all.within, one.within);
      })

  abbrev MoreDeclared : Scope → List Token → List Declarator → Bool → List Token → Type 0
  MoreDeclared scope tokens more b rest =
      Read (λ all. AreDeclarators all scope) declarators_height
      (λ all. flat_map (λ part. mark p.Comma ∷ part) (spelled_declarators all)) k tokens (declarators more) rest

  no_more : (scope : Scope) (tokens : List Token) → MoreDeclared scope tokens [] false tokens
  no_more scope tokens = record { spells = refl; fits = tt; within = omega arith }

  one_more : (scope : Scope) (tokens mid rest : List Token) (one : Declarator) (more : List Declarator) (b : Bool)
      → is_mark p.Comma (next_body tokens) ≡ true → low.declarator form.Named scope (tail tokens) ≡ Found one mid
      → MoreDeclared (scope ++ declarator_adds one) mid more b rest → MoreDeclared scope tokens (one ∷ more) b rest
  one_more scope tokens mid rest one more b comma h then =
      let x = sound.declarator form.Named scope (tail tokens) mid one h in
      record {
        spells = (joined (joined (spelt_mark p.Comma tokens comma) (spelt x)) (spelt then)).takes;
        fits = (x.fits.0, x.fits.1, then.fits);
        within = omega (arith, x.within, then.within);
      }

  pub listed_declarators_sound : (scope : Scope) (tokens rest : List Token) (all : List Declarator × Bool)
      → listed_declarators k low scope tokens ≡ Found all rest
      → Read (λ all. AreDeclarators all scope) declarators_height (λ all. commas (spelled_declarators all)) k tokens
      (declarators all.0) rest
  unfolding listed_declarators
  listed_declarators_sound scope tokens rest all h =
      let x = listed_found (is_mark p.Comma) (λ o. false) (pure tt) (low.declarator form.Named)
      (λ s one. s ++ declarator_adds one) MoreDeclared
      no_more (λ s tokens rest u comma ends h. absurd (cc (ends))) one_more scope tokens rest all h in
      let y = sound.declarator form.Named scope tokens x.mid x.first x.first_found in
      subst (λ (all : List Declarator × Bool). Read (λ all. AreDeclarators all scope) declarators_height
      (λ all. commas (spelled_declarators all)) k tokens (declarators all.0) rest) x.all_is (record {
        spells = (joined (spelt y) (spelt x.more_found)).takes;
        fits = (y.fits.0, y.fits.1, x.more_found.fits);
        within = omega (arith, y.within, x.more_found.within);
      })

  module _ (scope : Scope) (start tokens rest : List Token) (all : Specifiers) (one : MemberDeclaration)
      (before : Read (λ all. SpecifyOneType all × AreSpecifiers all scope) specifiers_height spell_specifiers k
      start all tokens) where
    declared_sound : (listed_declarators k low (scope ++ specifiers_add all)
        >>= λ found. expect (is_mark p.Semicolon) >>= λ _. pure (tree.Declares all (declarators found.0))) tokens
        ≡ Found one rest
        → Read (λ one. IsMember one scope) member_height spell_member (suc k) start one rest
    declared_sound h =
        let x = bind_found (listed_declarators k low (scope ++ specifiers_add all) tokens)
        (λ found. expect (is_mark p.Semicolon) >>= λ _. pure (tree.Declares all (declarators found.0))) one rest
        h in
        let c = mark_then p.Semicolon (pure (tree.Declares all (declarators x.value.0))) x.mid rest one x.two in
        let y = listed_declarators_sound (scope ++ specifiers_add all) tokens x.mid x.value x.one in
        moved (Read (λ one. IsMember one scope) member_height spell_member (suc k) start) c.two (record {
          spells = (joined (joined (spelt before) (spelt y)) c.spelt).takes;
          fits = (before.fits.0, before.fits.1, y.fits);
          within = omega (arith, before.within, y.within);
        })

    member_by_sound : (o : Option Body) → next_body tokens ≡ o → member_by k low scope all o tokens ≡ Found one rest
        → Read (λ one. IsMember one scope) member_height spell_member (suc k) start one rest
    member_by_sound (Some (lexeme.Mark p.Semicolon)) is h =
        moved (Read (λ one. IsMember one scope) member_height spell_member (suc k) start) h (record {
          spells = (joined (joined (spelt before) (nothing_spelt tokens))
              (spelt_bare tokens (lexeme.Mark p.Semicolon) is)).takes;
          fits = (before.fits.0, before.fits.1, tt);
          within = omega (arith, before.within);
        })
    member_by_sound o is h = declared_sound h

  pub member_sound : (scope : Scope)
      → Sound (λ one. IsMember one scope) member_height spell_member (suc k) (member_at k low scope)
  unfolding member_at member_on
  member_sound scope tokens rest one h =
      let x = bind_found (low.specifiers scope tokens) (member_on k low scope) one rest h in
      member_by_sound scope tokens x.mid rest x.value one (sound.specifiers scope tokens x.mid x.value x.one)
      (next_body x.mid) refl x.two
