-- Where the reading of what stands in parentheses or behind a star, in a declarator, stops.
use Rattle.std.proofs.Common.{◌≡◌, ℕ, zero, suc, ◌≤◌, ◌<◌, List, [], ◌∷◌, ◌++◌, Bool, true, false, is_some, Option}
use Rattle.std.proofs.Common.{Some, None, inl, inr, refl, sym, ◌∙◌, ap, subst, append_assoc, arith}
use Rattle.std.proofs.lemmas.List.{append-nil}
use Rattle.critical_table.specs.declared.pos.Pos.{Pos}
use Rattle.c_lexer.specs.declared.punct.Punct.TheVariants as p
use Rattle.c_lexer.specs.declared.token.Token.{Token}
use Rattle.c_lexer.specs.declared.token.Body.{Body}
use Rattle.c_lexer.specs.declared.token.Body.TheVariants as lexeme
use Rattle.c_reading.specs.declared.declarator_form.DeclaratorForm.{DeclaratorForm}
use Rattle.c_reading.specs.declared.declarator_form.DeclaratorForm.TheVariants as form
use Rattle.c_syntax.specs.declared.specifier.Qualifier.{Qualifier}
use Rattle.c_syntax.specs.declared.spelled.Spelled.{Spelled}
use Rattle.c_syntax.specs.Height.{declarator_height, parameters_height}
use Rattle.c_reading.specs.Parser.{Why, Unfit, TooDeep, Stopped, next_body, place, tail, pure, expect, fail, ◌>>=◌}
use Rattle.c_reading.specs.ReadExpr.{Parsers}
use Rattle.c_reading.specs.ReadDeclarator.{begins_declarator, omission, no_declarator, qualifier_by, qualifier}
use Rattle.c_reading.specs.ReadDeclarator.{qualifiers, listed_parameters, suffixes, nested_declarator, omitted_list}
use Rattle.c_reading.specs.ReadDeclarator.{behind_paren, pointer}
use Rattle.c_reading.specs.ReadToken.{is_mark, begins_type, qualifier_of}
use Rattle.c_syntax.specs.Scopes.{Scope}
use Rattle.c_syntax.specs.Spelling.{spell_qualifiers, spell_declarator, spelled_parameters}
use Rattle.c_syntax.specs.Tokens.{mark, name_at, commas, Match}
use Rattle.c_syntax.specs.Tree as tree
use Rattle.c_syntax.specs.Tree.{Declarator, Parameters}
use Rattle.c_syntax.specs.View.{parameters}
use Rattle.c_syntax.specs.WellFormed.{HasToken, IsNoType, first_name, IsDeclarator, AreSpecifiers, AreParameters}
use Rattle.c_reading.proofs.Viable.Completions.{Begun, whole_begins, spelt_next, too_deep_here}
use Rattle.c_reading.proofs.Viable.Contexts.{Context, Completed, stopped, bind_stopped, given_stopped, mark_stopped}
use Rattle.c_reading.proofs.Viable.Contexts.{deeper_stopped, many_stopped, refused, too_deep, into, match_append}
use Rattle.c_reading.proofs.Viable.Contexts.{before_of, begins_higher}
use Rattle.c_reading.proofs.Sound.Steps.{chosen, joined, nothing_spelt, Spelt, spelt_bare, spelt_mark}
use Rattle.c_reading.proofs.Sound.Law.{Read, HasForm, spelt, AllSound}
use Rattle.c_reading.proofs.Sound.Declarator.{BeginsWith, begins_name, Opens, has_paren, has_pointer, qualifiers_sound}
use Rattle.c_reading.proofs.Sound.Suffix.{listed_parameters_sound}
use Rattle.c_reading.proofs.Viable.Started.{origin, type_begun}
use Rattle.c_reading.proofs.Full.Steps.{front}
use Rattle.c_reading.proofs.Takes.{Takes}
use Rattle.c_reading.proofs.Viable.Law.{Holds, BeginsForm, AllViable}
use Rattle.c_reading.proofs.Viable.Lists.{nothing_behind}
use Rattle.c_reading.proofs.Viable.Suffix.{may_end, listed_parameters_viable, suffixes_viable}

-- ---- the least declarator of a form, and the least that has a token

abbrev pub CompletedForm : DeclaratorForm → Scope → ℕ → List Spelled → Type 0
CompletedForm shape scope =
    Completed (λ one. IsDeclarator one scope × HasForm shape scope one) declarator_height spell_declarator

abbrev pub FormBegun : DeclaratorForm → Scope → Pos → Option Body → Type 0
FormBegun shape scope =
    Begun (λ one. IsDeclarator one scope × HasForm shape scope one) declarator_height spell_declarator

abbrev least : DeclaratorForm → Declarator
least form.Named = tree.Name origin []
least form.Abstract = tree.Omitted
least form.Parameter = tree.Omitted

least_fits : (shape : DeclaratorForm) (scope : Scope) → IsDeclarator (least shape) scope
    × HasForm shape scope (least shape)
least_fits form.Named scope = (tt, refl)
least_fits form.Abstract scope = (tt, refl)
least_fits form.Parameter scope = (tt, tt)

least_height : (shape : DeclaratorForm) → declarator_height (least shape) ≤ 1
least_height form.Named = omega arith
least_height form.Abstract = omega arith
least_height form.Parameter = omega arith

pub nothing_read : (shape : DeclaratorForm) (scope : Scope) (k : ℕ) → CompletedForm shape scope (suc k) []
nothing_read shape scope k = record {
  node = least shape;
  more = spell_declarator (least shape);
  fits =
      least_fits shape scope;
  within = omega (arith, least_height shape);
  parts = refl;
}

abbrev in_paren : DeclaratorForm → Declarator
in_paren form.Named = tree.Name origin []
in_paren form.Abstract = tree.PointerTo [] tree.Omitted
in_paren form.Parameter = tree.PointerTo [] tree.Omitted

in_paren_fits : (shape : DeclaratorForm) (scope : Scope) → IsDeclarator (tree.DParen (in_paren shape)) scope
    × HasForm shape scope (tree.DParen (in_paren shape))
in_paren_fits form.Named scope = ((tt, tt), refl)
in_paren_fits form.Abstract scope = ((tt, tt), refl)
in_paren_fits form.Parameter scope = ((tt, tt), (tt, tt))

in_paren_height : (shape : DeclaratorForm) → declarator_height (in_paren shape) ≤ 1
in_paren_height form.Named = omega arith
in_paren_height form.Abstract = omega arith
in_paren_height form.Parameter = omega arith

-- an opening parenthesis
paren_read : (shape : DeclaratorForm) (scope : Scope) (k : ℕ) → 0 < k
    → CompletedForm shape scope (suc k) (mark p.OpenParen ∷ [])
paren_read shape scope k some = record {
  node = tree.DParen (in_paren shape);
  more = spell_declarator (in_paren shape) ++ mark p.CloseParen ∷ [];
  fits = in_paren_fits shape scope;
  within = omega (arith, in_paren_height shape, some);
  parts = refl;
}

-- ---- a token that begins a declarator

module _ (scope : Scope) (pos : Pos) where
  pub declarator_begun : (shape : DeclaratorForm) (o : Option Body) → begins_declarator shape o ≡ true
      → FormBegun shape scope pos o
  declarator_begun shape (Some (lexeme.Mark p.Star)) h =
      let fits = least_fits shape scope in
      whole_begins (mark p.Star) (tree.PointerTo [] (least shape)) (spell_declarator (least shape)) tt (
        fits.0,
        has_pointer shape scope [] (least shape) fits.1,
      ) refl
  declarator_begun shape (Some (lexeme.Mark p.OpenParen)) h =
      whole_begins (mark p.OpenParen) (tree.DParen (in_paren shape)) (spell_declarator (in_paren shape)
      ++ mark p.CloseParen ∷ []) tt (in_paren_fits shape scope) refl
  declarator_begun form.Abstract (Some (lexeme.Mark p.OpenBracket)) h =
      whole_begins (mark p.OpenBracket) (tree.ArrayOf tree.Omitted tree.Without) (mark p.CloseBracket ∷ []) tt
      ((tt, tt, tt), refl) refl
  declarator_begun form.Parameter (Some (lexeme.Mark p.OpenBracket)) h =
      whole_begins (mark p.OpenBracket) (tree.ArrayOf tree.Omitted tree.Without) (mark p.CloseBracket ∷ []) tt
      ((tt, tt, tt), tt) refl
  declarator_begun form.Named (Some (lexeme.Name x)) h =
      whole_begins (name_at pos x) (tree.Name pos x) [] refl (tt, refl) refl
  declarator_begun form.Parameter (Some (lexeme.Name x)) h =
      whole_begins (name_at pos x) (tree.Name pos x) [] refl (tt, tt) refl
  declarator_begun shape _ h = absurd (cc (h))

pub omission_viable : (shape : DeclaratorForm) (scope : Scope) (most : ℕ) (tokens rest : List Token) (why : Why)
    → CompletedForm shape scope most [] → omission shape tokens ≡ Stopped why rest
    → Holds (BeginsForm shape scope) most tokens why rest
omission_viable form.Named scope most tokens rest why c h =
    stopped (Holds (BeginsForm form.Named scope) most tokens) h (refused (nothing_spelt tokens) c)
omission_viable form.Abstract scope most tokens rest why c h = absurd (cc (h))
omission_viable form.Parameter scope most tokens rest why c h = absurd (cc (h))

no_declarator_viable : (shape : DeclaratorForm) (scope : Scope) (most : ℕ) (tokens rest : List Token) (why : Why)
    → CompletedForm shape scope most [] → no_declarator shape tokens ≡ Stopped why rest
    → Holds (BeginsForm shape scope) most tokens why rest
unfolding no_declarator
no_declarator_viable shape scope most tokens rest why c h =
    elim (chosen (begins_declarator shape (next_body tokens)) (fail TooDeep) (omission shape) tokens
    (Stopped why rest) h) [
      | inl x ↦ stopped (Holds (BeginsForm shape scope) most tokens) x.1
          (too_deep_here c (declarator_begun scope (place tokens) shape (next_body tokens) x.0))
      | inr x ↦ omission_viable shape scope most tokens rest why c x.1
    ]

-- ---- qualifiers behind a star never stop

qualifier_stops : (o : Option Qualifier) (tokens rest : List Token) (why : Why) → is_some o ≡ true
    → qualifier_by o tokens ≡ Stopped why rest → ⊥
qualifier_stops (Some word) tokens rest why goes h = cc (h)
qualifier_stops None tokens rest why goes h = cc (goes)

qualifiers_stop : (scope : Scope) (tokens rest : List Token) (why : Why)
    → qualifiers scope tokens ≡ Stopped why rest → ⊥
unfolding qualifiers qualifier
qualifiers_stop scope tokens rest why h =
    many_stopped (λ s o. is_some (qualifier_of o)) (λ s. qualifier) (λ s word. s) (λ s tokens why rest. ⊥)
    (λ s tokens rest why goes h. qualifier_stops (qualifier_of (next_body tokens)) tokens rest why goes h)
    (λ s tokens mid rest a why goes h then. then) scope tokens rest why h

-- ---- what is known of a declarator in parentheses by its first token

first_no_type : (scope : Scope) (behind : List Token) (inner : Declarator) (first : Spelled) (more : List Spelled)
    → begins_type scope (next_body behind) ≡ false → next_body behind ≡ Some first.body
    → spell_declarator inner ≡ first ∷ more
    → IsNoType scope (first_name inner)
first_no_type scope behind inner first more none is same = by (first_name inner) refl
  where
    by : (m : Option (List ℕ)) → first_name inner ≡ m → IsNoType scope m
    by None m = tt
    by (Some x) m =
        let begins : BeginsWith x (first ∷ more) = subst (BeginsWith x) same (begins_name inner x m) in
        subst (λ o. begins_type scope o ≡ false) (is ∙ ap (λ b. Some b) begins) none

begins_token : (inner : Declarator) (first : Spelled) (more : List Spelled) → spell_declarator inner ≡ first ∷ more
    → HasToken inner
begins_token tree.Omitted first more same = absurd (cc (same))
begins_token _ first more same = tt

paren_form : (shape : DeclaratorForm) (scope : Scope) (behind : List Token) (inner : Declarator) (first : Spelled)
    (more : List Spelled) → Opens shape scope behind → next_body behind ≡ Some first.body
    → spell_declarator inner ≡ first ∷ more
    → IsDeclarator inner scope × HasForm shape scope inner → IsDeclarator (tree.DParen inner) scope
    × HasForm shape scope (tree.DParen inner)
paren_form form.Named scope behind inner first more opens is same fits =
    ((begins_token inner first more same, fits.0), fits.1)
paren_form form.Abstract scope behind inner first more opens is same fits =
    ((begins_token inner first more same, fits.0), fits.1)
paren_form form.Parameter scope behind inner first more opens is same fits = (
  (begins_token inner first more same, fits.0),
  (first_no_type scope behind inner first more opens.1 is same, fits.1),
)

paren_begins_more : (shape : DeclaratorForm) (scope : Scope) (behind : List Token) → Opens shape scope behind
    → (j : ℕ) (before tokens after : List Token) → Match before (mark p.OpenParen ∷ []) → 1 ≤ j
    → behind ≡ tokens ++ after → BeginsForm shape scope j tokens
    → BeginsForm shape scope (suc j) (before ++ tokens)
paren_begins_more shape scope behind opens j before tokens after match some parts b =
    by tokens b.front parts b.match b.parts
  where
    by : (tokens : List Token) (front : List Spelled) → behind ≡ tokens ++ after → Match tokens front
        → spell_declarator b.node ≡ front ++ b.more → BeginsForm shape scope (suc j) (before ++ tokens)
    by [] [] parts none same = record {
      node = tree.DParen (in_paren shape);
      front = mark p.OpenParen ∷ [];
      more = spell_declarator (in_paren shape) ++ mark p.CloseParen ∷ [];
      fits = in_paren_fits shape scope;
      within = omega (arith, in_paren_height shape, some);
      parts = refl;
      match = match_append before [] (mark p.OpenParen ∷ []) [] match tt;
    }
    by [] (first ∷ front) parts none same = absurd none
    by (token ∷ tokens) [] parts one same = absurd one
    by (token ∷ tokens) (first ∷ front) parts one same = record {
      node = tree.DParen b.node;
      front = mark p.OpenParen ∷ first ∷ front;
      more = b.more ++ mark p.CloseParen ∷ [];
      fits = paren_form shape scope behind b.node first (front ++ b.more) opens (ap next_body parts
          ∙ ap (λ b. Some b) one.0) same b.fits;
      within = omega (arith, b.within);
      parts = ap (λ z. mark p.OpenParen ∷ z ++ mark p.CloseParen ∷ []) same ∙ simp append_assoc;
      match = match_append before (token ∷ tokens) (mark p.OpenParen ∷ []) (first ∷ front) match one;
    }

into_paren : (shape : DeclaratorForm) (scope : Scope) (k : ℕ) (tokens behind rest : List Token) (why : Why) → 0 < k
    → Spelt tokens (mark p.OpenParen ∷ []) behind → Opens shape scope behind
    → Holds (BeginsForm shape scope) k behind why rest
    → Holds (BeginsForm shape scope) (suc k) tokens why rest
into_paren shape scope k tokens behind rest why some spelt opens x =
    let b = before_of spelt in
    record {
      before = b.before ++ x.before;
      parts = b.parts ∙ ap (λ z. b.before ++ z) x.parts ∙ sym (append_assoc b.before x.before rest);
      begins = paren_begins_more shape scope behind opens k b.before x.before rest b.match (omega arith) x.parts
          x.begins;
      deep = λ e.
          let d = x.deep e in (
            d.0,
            d.1,
            d.2,
            (
              suc (suc d.3.0),
              subst (BeginsForm shape scope (suc (suc d.3.0))) (sym (append_assoc b.before x.before (d.0 ∷ [])))
                  (paren_begins_more shape scope behind opens (suc d.3.0) b.before (x.before ++ d.0 ∷ []) d.1
                  b.match (omega arith) (x.parts ∙ ap (λ z. x.before ++ z) d.2
                  ∙ sym (append_assoc x.before (d.0 ∷ []) d.1))
                  (begins_higher d.3.0 (suc d.3.0) (x.before ++ d.0 ∷ []) (omega arith) d.3.1)),
            ),
          );
    }

module _ (k : ℕ) (low : Parsers) (sound : AllSound k low) (viable : AllViable k low) where
  -- where the identifier may be omitted, whatever height is left
  pub omitting_viable : (shape : DeclaratorForm) (scope : Scope) → CompletedForm shape scope 0 []
      → (tokens rest : List Token) (why : Why) → low.declarator shape scope tokens ≡ Stopped why rest
      → Holds (BeginsForm shape scope) k tokens why rest
  omitting_viable shape scope c tokens rest why h = by k refl
    where
      by : (j : ℕ) → k ≡ j → Holds (BeginsForm shape scope) k tokens why rest
      by zero none =
          subst (λ j. Holds (BeginsForm shape scope) j tokens why rest) (sym none)
          (no_declarator_viable shape scope 0 tokens rest why c (sym (viable.lowest none shape scope tokens) ∙ h))
      by (suc j) some = viable.declarator shape scope tokens rest why (omega (arith, some)) h

  module _ (shape : DeclaratorForm) (scope : Scope) (tokens rest : List Token) (why : Why) where
    abbrev Stops : Why → List Token → Type 0
    Stops = Holds (BeginsForm shape scope) (suc k) tokens

    -- ---- pointers

    in_pointer : (words : List Qualifier)
        → Context (λ one. IsDeclarator one scope × HasForm shape scope one) declarator_height spell_declarator
        (λ one. IsDeclarator one scope × HasForm shape scope one) declarator_height spell_declarator suc
        0 (mark p.Star ∷ spell_qualifiers words)
    in_pointer words = record {
      make = λ one. tree.PointerTo words one;
      behind = [];
      fits = λ one is. (is.0, has_pointer shape scope words one is.1);
      within = λ one j low le. omega arith;
      spells = λ one. nothing_behind (mark p.Star ∷ spell_qualifiers words) (spell_declarator one);
    }

    pub pointer_viable : ((tokens : List Token) → low.declarator shape scope tokens ≡ Stopped why rest
        → Holds (BeginsForm shape scope) k tokens why rest) → next_body tokens ≡ Some (lexeme.Mark p.Star)
        → pointer k low shape scope (tail tokens) ≡ Stopped why rest → Stops why rest
    unfolding pointer
    pointer_viable inner is h =
        elim (bind_stopped (qualifiers scope (tail tokens)) (λ words. low.declarator shape scope
        >>= λ inner. pure (tree.PointerTo words inner)) why rest h) [
          | inl x ↦ absurd (qualifiers_stop scope (tail tokens) rest why x)
          | inr x ↦ into (in_pointer x.value) (omega arith)
              (joined (spelt_bare tokens (lexeme.Mark p.Star) is)
              (qualifiers_sound scope (tail tokens) x.mid x.value x.one))
              (inner x.mid (given_stopped (low.declarator shape scope x.mid) (λ inner. tree.PointerTo x.value inner)
              why rest x.two))
        ]

    -- ---- parentheses

    closed_read : 0 < k → (inner : Declarator) (mid : List Token) → Opens shape scope (tail tokens)
        → Read (λ one. IsDeclarator one scope × HasForm shape scope one) declarator_height spell_declarator k
        (tail tokens) inner mid
        → CompletedForm shape scope (suc k) (mark p.OpenParen ∷ spell_declarator inner)
    closed_read some inner mid opens read = by (spell_declarator inner) refl read.spells
      where
        by : (spelled : List Spelled) → spell_declarator inner ≡ spelled → Takes (tail tokens) spelled mid
            → CompletedForm shape scope (suc k) (mark p.OpenParen ∷ spelled)
        by [] same all = paren_read shape scope k some
        by (first ∷ more) same all = record {
          node = tree.DParen inner;
          more = mark p.CloseParen ∷ [];
          fits = paren_form shape scope (tail tokens) inner first more opens
              (front (tail tokens) mid (first ∷ more) all).0 same read.fits;
          within = omega (arith, read.within);
          parts = ap (λ z. mark p.OpenParen ∷ z ++ mark p.CloseParen ∷ []) same;
        }

    pub nested_declarator_viable : 0 < k → next_body tokens ≡ Some (lexeme.Mark p.OpenParen)
        → Opens shape scope (tail tokens) → nested_declarator k low shape scope (tail tokens) ≡ Stopped why rest
        → Stops why rest
    unfolding nested_declarator
    nested_declarator_viable some is opens h =
        let paren = spelt_bare tokens (lexeme.Mark p.OpenParen) is in
        elim (bind_stopped (low.declarator shape scope (tail tokens)) (λ inner. expect (is_mark p.CloseParen)
        >>= λ _. suffixes k low scope (tree.DParen inner)) why rest h) [
          | inl x ↦ into_paren shape scope k tokens (tail tokens) rest why some paren opens
              (viable.declarator shape scope (tail tokens) rest why some x)
          | inr x ↦
              (let y = sound.declarator shape scope (tail tokens) x.mid x.value x.one in
              mark_stopped p.CloseParen (suffixes k low scope (tree.DParen x.value)) Stops x.mid why rest x.two
              (refused (joined paren (spelt y)) (closed_read some x.value x.mid opens y))
              (λ mid closes g.
              let has = has_paren shape scope (tail tokens) x.mid mid x.value opens y.spells closes y.fits.1 in
              suffixes_viable k low sound viable shape scope tokens mid rest why (tree.DParen x.value) (record {
                spells = (joined (joined paren (spelt y)) closes).takes;
                fits = (tt, (has.0, y.fits.0), has.1);
                within = omega (arith, y.within);
              }) tt g))
        ]

    -- ---- parentheses where the identifier may be omitted

    module _ (omits : (all : Parameters) (variadic : Bool)
        → HasForm shape scope (tree.FunctionOf tree.Omitted all variadic)) (is : next_body tokens
        ≡ Some (lexeme.Mark p.OpenParen)) where
      paren_spelt : Spelt tokens (mark p.OpenParen ∷ []) (tail tokens)
      paren_spelt = spelt_bare tokens (lexeme.Mark p.OpenParen) is

      in_omitted : Context (λ all. AreParameters all scope) parameters_height
          (λ all. commas (spelled_parameters all)) (λ one. IsDeclarator one scope × HasForm shape scope one)
          declarator_height spell_declarator suc 0 (mark p.OpenParen ∷ [])
      in_omitted = record {
        make = λ all. tree.FunctionOf tree.Omitted all false;
        behind = mark p.CloseParen ∷ [];
        fits = λ all are. (
          (tt, tt, subst (AreParameters all) (sym (append-nil scope)) are, may_end all),
          omits all false,
        );
        within = λ all j low le. omega arith;
        spells = λ all. simp append_assoc;
      }

      empty_list : CompletedForm shape scope (suc k) (mark p.OpenParen ∷ [])
      empty_list = record {
        node = tree.FunctionOf tree.Omitted tree.NoParameter false;
        more =
            mark p.CloseParen ∷ [];
        fits = ((tt, tt, tt, tt), omits tree.NoParameter false);
        within =
            omega arith;
        parts = refl;
      }

      list_deep : begins_type scope (next_body (tail tokens)) ≡ true → Stops TooDeep (tail tokens)
      list_deep begins =
          let x = type_begun scope (place (tail tokens)) (next_body (tail tokens)) begins in
          too_deep {high = suc (suc x.high)} paren_spelt (spelt_next (tail tokens) x) empty_list (record {
            node = tree.FunctionOf tree.Omitted
                (tree.MoreParameters (tree.Param x.completed.node tree.Omitted) tree.NoParameter) false;
            more = x.completed.more ++ mark p.CloseParen ∷ [];
            fits = (
              (
                tt,
                tt,
                (
                  (
                    x.completed.fits.0,
                    subst (AreSpecifiers x.completed.node) (sym (append-nil scope)) x.completed.fits.1,
                    tt,
                    tt,
                  ),
                  tt,
                ),
                tt,
              ),
              omits _ false,
            );
            within = omega (arith, x.completed.within);
            parts = ap (λ z. mark p.OpenParen ∷ z ++ [] ++ [] ++ [] ++ mark p.CloseParen ∷ []) x.completed.parts
                ∙ simp append_assoc;
          })

      omitted_list_viable : 0 < k → omitted_list k low scope (tail tokens) ≡ Stopped why rest → Stops why rest
      unfolding omitted_list
      omitted_list_viable some h =
          elim (bind_stopped (listed_parameters k low scope (tail tokens)) (λ all. expect (is_mark p.CloseParen)
          >>= λ _. suffixes k low scope (tree.FunctionOf tree.Omitted (parameters all.0) all.1)) why rest h) [
            | inl x ↦ into in_omitted (omega arith) paren_spelt
                (listed_parameters_viable k low sound viable some scope (tail tokens) rest why x)
            | inr x ↦
                (let y = listed_parameters_sound k low sound scope (tail tokens) x.mid x.value x.one in
                mark_stopped p.CloseParen
                (suffixes k low scope (tree.FunctionOf tree.Omitted (parameters x.value.0) x.value.1)) Stops
                x.mid why rest x.two
                (refused (joined (joined paren_spelt y.spells) y.ends) (record {
                  node = tree.FunctionOf tree.Omitted (parameters x.value.0) x.value.1;
                  more = mark p.CloseParen ∷ [];
                  fits = (
                    (
                      tt,
                      tt,
                      subst (AreParameters (parameters x.value.0)) (sym (append-nil scope)) y.fits.1,
                      y.fits.0,
                    ),
                    omits (parameters x.value.0) x.value.1,
                  );
                  within = omega (arith, y.within);
                  parts = refl;
                }))
                (λ mid closes g. suffixes_viable k low sound viable shape scope tokens mid rest why
                (tree.FunctionOf tree.Omitted (parameters x.value.0) x.value.1) (record {
                  spells = (joined (joined (joined paren_spelt y.spells) y.ends) closes).takes;
                  fits = (
                    tt,
                    (
                      tt,
                      tt,
                      subst (AreParameters (parameters x.value.0)) (sym (append-nil scope)) y.fits.1,
                      y.fits.0,
                    ),
                    omits (parameters x.value.0) x.value.1,
                  );
                  within = omega (arith, y.within);
                }) tt g))
          ]

      nested_declarator_deep : Opens shape scope (tail tokens) → begins_declarator shape (next_body (tail tokens))
          ≡ true → Stops TooDeep (tail tokens)
      nested_declarator_deep opens begins =
          let x = declarator_begun scope (place (tail tokens)) shape (next_body (tail tokens)) begins in
          too_deep {high = suc x.high} paren_spelt (spelt_next (tail tokens) x) empty_list (record {
            node = tree.DParen x.completed.node;
            more = x.completed.more ++ mark p.CloseParen ∷ [];
            fits = paren_form shape scope (tail tokens) x.completed.node x.next x.completed.more opens x.is
                x.completed.parts x.completed.fits;
            within = omega (arith, x.completed.within);
            parts = ap (λ z. mark p.OpenParen ∷ z ++ mark p.CloseParen ∷ []) x.completed.parts ∙ simp append_assoc;
          })

      pub behind_paren_viable : (is_mark p.CloseParen (next_body (tail tokens)) ≡ false
          → begins_type scope (next_body (tail tokens)) ≡ false → Opens shape scope (tail tokens))
          → behind_paren k low shape scope (tail tokens) ≡ Stopped why rest → Stops why rest
      unfolding behind_paren
      behind_paren_viable opens h =
          elim (chosen (is_mark p.CloseParen (next_body (tail tokens))) _ _ (tail tokens) (Stopped why rest) h) [
            | inl x ↦ suffixes_viable k low sound viable shape scope tokens (tail (tail tokens)) rest why
                (tree.FunctionOf tree.Omitted tree.NoParameter false) (record {
                  spells = (joined paren_spelt (spelt_mark p.CloseParen (tail tokens) x.0)).takes;
                  fits = (tt, (tt, tt, tt, tt), omits tree.NoParameter false);
                  within = omega arith;
                }) tt x.1
            | inr x ↦ elim (chosen (begins_type scope (next_body (tail tokens))) _ _ (tail tokens)
                (Stopped why rest) x.1) [
                  | inl y ↦ deeper_stopped Stops k (omitted_list k low scope) (tail tokens) why rest y.1 (list_deep y.0)
                      omitted_list_viable
                  | inr y ↦ elim (chosen (begins_declarator shape (next_body (tail tokens))) _ (fail Unfit)
                      (tail tokens) (Stopped why rest) y.1) [
                        | inl z ↦ deeper_stopped Stops k (nested_declarator k low shape scope) (tail tokens) why
                            rest z.1
                            (nested_declarator_deep (opens x.0 y.0) z.0)
                            (λ some g. nested_declarator_viable some is (opens x.0 y.0) g)
                        | inr z ↦ stopped Stops z.1 (refused paren_spelt empty_list)
                      ]
                ]
          ]
