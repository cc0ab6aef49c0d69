-- What is read as a parameter list is one, and what is read behind array and function declarators is a direct
-- declarator.
use Rattle.std.proofs.Common.{◌≡◌, ℕ, suc, ◌≤◌, List, [], ◌∷◌, ◌++◌, Bool, true, false, nat_le, Option, Some, refl}
use Rattle.std.proofs.Common.{subst, arith}
use Rattle.std.specs.List.{flat_map}
use borrow.Author.Tests.{leb-true}
use Rattle.c_lexer.specs.declared.punct.Punct.TheVariants as p
use Rattle.c_lexer.specs.declared.token.Token.{Token}
use Rattle.c_lexer.specs.declared.token.Body.{Body}
use Rattle.c_lexer.specs.declared.token.Body.TheVariants as lexeme
use Rattle.c_reading.specs.declared.declarator_form.DeclaratorForm.{DeclaratorForm}
use Rattle.c_reading.specs.declared.declarator_form.DeclaratorForm.TheVariants as form
use Rattle.c_syntax.specs.Height.{maybe_height, declarator_height, parameters_height}
use Rattle.c_syntax.specs.Levels.{conditional}
use Rattle.c_reading.specs.Parser.{Found, next_body, tail, pure, skip, expect, ◌>>=◌}
use Rattle.c_reading.specs.ReadExpr.{Parsers, expr_lower}
use Rattle.c_reading.specs.ReadDeclarator.{listed_parameters, parameters_by, parameters_at, goes_suffix, length_by}
use Rattle.c_reading.specs.ReadDeclarator.{array_on, function_on, suffix_by, suffix_on, suffixes}
use Rattle.c_reading.specs.ReadToken.{is_mark}
use Rattle.c_syntax.specs.Scopes.{Scope, declarator_adds, parameter_adds}
use Rattle.c_syntax.specs.Spelling.{spell_maybe, spell_declarator, spelled_parameters}
use Rattle.c_syntax.specs.Tokens.{mark, commas, ellipsis_if}
use Rattle.c_syntax.specs.Tree as tree
use Rattle.c_syntax.specs.Tree.{Declarator, Parameter, Parameters, Maybe}
use Rattle.c_syntax.specs.View.{parameters}
use Rattle.c_syntax.specs.WellFormed.{IsDirect, MayEnd, IsAbsentOrConditional, IsDeclarator, AreParameters}
use Rattle.c_reading.proofs.Sound.Steps.{Spelt, moved, bind_found, mark_then, joined, regrouped, nothing_spelt}
use Rattle.c_reading.proofs.Sound.Steps.{spelt_bare, spelt_mark, listed_found, climb_found}
use Rattle.c_reading.proofs.Sound.Law.{Read, Listed, HasForm, spelt, AllSound}
use Rattle.c_reading.proofs.Sound.Expr.{expr_lower_found}

pub has_array : (shape : DeclaratorForm) (scope : Scope) (left : Declarator) (length : Maybe)
    → HasForm shape scope left → HasForm shape scope (tree.ArrayOf left length)
has_array form.Named scope left length has = has
has_array form.Abstract scope left length has = has
has_array form.Parameter scope left length has = has

pub has_function : (shape : DeclaratorForm) (scope : Scope) (left : Declarator) (list : Parameters)
    (variadic : Bool) → HasForm shape scope left → HasForm shape scope (tree.FunctionOf left list variadic)
has_function form.Named scope left list variadic has = has
has_function form.Abstract scope left list variadic has = has
has_function form.Parameter scope left list variadic has = has

module _ (k : ℕ) (low : Parsers) (sound : AllSound k low) where
  -- ---- parameters

  abbrev MoreParametersRead : Scope → List Token → List Parameter → Bool → List Token → Type 0
  MoreParametersRead scope tokens more b rest =
      Listed (AreParameters (parameters more) scope) (parameters_height (parameters more)) k
      (flat_map (λ part. mark p.Comma ∷ part) (spelled_parameters (parameters more))) (ellipsis_if b) tokens rest

  no_parameter : (scope : Scope) (tokens : List Token) → MoreParametersRead scope tokens [] false tokens
  no_parameter scope tokens =
      record {
        mid = tokens;
        spells = nothing_spelt tokens;
        ends = nothing_spelt tokens;
        fits = tt;
        within =
            omega arith;
      }

  ellipsis_last : (scope : Scope) (tokens rest : List Token) (u : Unit {0})
      → is_mark p.Comma (next_body tokens) ≡ true → is_mark p.Ellipsis (next_body (tail tokens)) ≡ true
      → Found tt (tail (tail tokens)) ≡ Found u rest
      → MoreParametersRead scope tokens [] true rest
  ellipsis_last scope tokens rest u comma ellipsis h =
      moved (λ u. MoreParametersRead scope tokens [] true) h (record {
        mid = tokens;
        spells = nothing_spelt tokens;
        ends = joined (spelt_mark p.Comma tokens comma) (spelt_mark p.Ellipsis (tail tokens) ellipsis);
        fits = tt;
        within = omega arith;
      })

  one_parameter : (scope : Scope) (tokens mid rest : List Token) (one : Parameter) (more : List Parameter)
      (b : Bool) → is_mark p.Comma (next_body tokens) ≡ true → low.parameter scope (tail tokens) ≡ Found one mid
      → MoreParametersRead (scope ++ parameter_adds one) mid more b rest
      → MoreParametersRead scope tokens (one ∷ more) b rest
  one_parameter scope tokens mid rest one more b comma h then =
      let x = sound.parameter scope (tail tokens) mid one h in
      record {
        mid = then.mid;
        spells = joined (joined (spelt_mark p.Comma tokens comma) (spelt x)) then.spells;
        ends = then.ends;
        fits = (x.fits, then.fits);
        within = omega (arith, x.within, then.within);
      }

  abbrev pub ParametersRead : Scope → List Token → Parameters × Bool → List Token → Type 0
  ParametersRead scope tokens all rest =
      Listed (MayEnd all.0 all.1 × AreParameters all.0 scope) (parameters_height all.0) k
      (commas (spelled_parameters all.0)) (ellipsis_if all.1) tokens rest

  pub listed_parameters_sound : (scope : Scope) (tokens rest : List Token) (all : List Parameter × Bool)
      → listed_parameters k low scope tokens ≡ Found all rest
      → ParametersRead scope tokens (parameters all.0, all.1) rest
  unfolding listed_parameters
  listed_parameters_sound scope tokens rest all h =
      let x = listed_found (is_mark p.Comma) (is_mark p.Ellipsis) (skip (pure tt)) low.parameter
      (λ s one. s ++ parameter_adds one) MoreParametersRead
      no_parameter ellipsis_last one_parameter scope tokens rest all h in
      let y = sound.parameter scope tokens x.mid x.first x.first_found in
      let then = x.more_found in
      subst (λ (all : List Parameter × Bool). ParametersRead scope tokens (parameters all.0, all.1) rest) x.all_is
      (record {
        mid = then.mid;
        spells = joined (spelt y) then.spells;
        ends = then.ends;
        fits = (tt, (y.fits, then.fits));
        within = omega (arith, y.within, then.within);
      })

  -- with the closing parenthesis
  abbrev ParametersClosed : Scope → List Token → Parameters × Bool → List Token → Type 0
  ParametersClosed scope tokens all rest =
      Listed (MayEnd all.0 all.1 × AreParameters all.0 scope) (parameters_height all.0) k
      (commas (spelled_parameters all.0)) (ellipsis_if all.1 ++ mark p.CloseParen ∷ []) tokens rest

  listed_closed : (scope : Scope) (tokens rest : List Token) (all : Parameters × Bool)
      → (listed_parameters k low scope >>= λ all. expect (is_mark p.CloseParen)
      >>= λ _. pure (parameters all.0, all.1)) tokens ≡ Found all rest → ParametersClosed scope tokens all rest
  listed_closed scope tokens rest all h =
      let x = bind_found (listed_parameters k low scope tokens) (λ all. expect (is_mark p.CloseParen)
      >>= λ _. pure (parameters all.0, all.1)) all rest h in
      let c = mark_then p.CloseParen (pure (parameters x.value.0, x.value.1)) x.mid rest all x.two in
      let y = listed_parameters_sound scope tokens x.mid x.value x.one in
      moved (ParametersClosed scope tokens) c.two (record {
        mid = y.mid;
        spells = y.spells;
        ends = joined y.ends c.spelt;
        fits = y.fits;
        within = y.within;
      })

  parameters_by_sound : (scope : Scope) (o : Option Body) (tokens rest : List Token) (all : Parameters × Bool)
      → next_body tokens ≡ o → parameters_by k low scope o tokens ≡ Found all rest
      → ParametersClosed scope tokens all rest
  parameters_by_sound scope (Some (lexeme.Mark p.CloseParen)) tokens rest all is h =
      moved (ParametersClosed scope tokens) {a = (tree.NoParameter, false)} h (record {
        mid = tokens;
        spells = nothing_spelt tokens;
        ends = spelt_bare tokens (lexeme.Mark p.CloseParen) is;
        fits = (tt, tt);
        within = omega arith;
      })
  parameters_by_sound scope o tokens rest all is h = listed_closed scope tokens rest all h

  -- ---- what follows the identifier

  abbrev pub IsSuffixed : DeclaratorForm → Scope → List Token → Declarator → List Token → Type 0
  IsSuffixed shape scope =
      Read (λ one. IsDirect one × IsDeclarator one scope × HasForm shape scope one) declarator_height
      spell_declarator (suc k)

  module _ (shape : DeclaratorForm) (scope : Scope) (start tokens rest : List Token) (left one : Declarator)
      (before : IsSuffixed shape scope start left tokens) (low_left : declarator_height left ≤ k) where
    array_sound : next_body tokens ≡ Some (lexeme.Mark p.OpenBracket) → (length : Maybe) (mid : List Token)
        → Read (λ length. IsAbsentOrConditional length (scope ++ declarator_adds left)) maybe_height spell_maybe k
        (tail tokens) length mid
        → Spelt mid (mark p.CloseBracket ∷ []) rest → IsSuffixed shape scope start (tree.ArrayOf left length) rest
    array_sound is length mid x closes = record {
      spells = (joined (joined (spelt before) (joined (spelt_bare tokens (lexeme.Mark p.OpenBracket) is) (spelt x)))
          closes).takes;
      fits = (tt, (before.fits.0, before.fits.1, x.fits), has_array shape scope left length before.fits.2);
      within = omega (arith, x.within);
    }

    function_sound : next_body tokens ≡ Some (lexeme.Mark p.OpenParen) → function_on k low scope left (tail tokens)
        ≡ Found one rest → IsSuffixed shape scope start one rest
    unfolding function_on parameters_at
    function_sound is h =
        let x = bind_found (parameters_at k low (scope ++ declarator_adds left) (tail tokens))
        (λ all. pure (tree.FunctionOf left all.0 all.1)) one rest h in
        let y = parameters_by_sound (scope ++ declarator_adds left) (next_body (tail tokens)) (tail tokens) x.mid
        x.value refl x.one in
        moved (IsSuffixed shape scope start) x.two (record {
          spells = (regrouped (spell_declarator left ++ mark p.OpenParen ∷ commas (spelled_parameters x.value.0))
              (ellipsis_if x.value.1) (mark p.CloseParen ∷ [])
              (joined (joined (spelt before) (joined (spelt_bare tokens (lexeme.Mark p.OpenParen) is) y.spells))
              y.ends)).takes;
          fits = (
            tt,
            (before.fits.0, before.fits.1, y.fits.1, y.fits.0),
            has_function shape scope left x.value.0 x.value.1 before.fits.2,
          );
          within = omega (arith, y.within);
        })

  module _ (shape : DeclaratorForm) (scope : Scope) (start tokens rest : List Token) (left one : Declarator)
      (before : IsSuffixed shape scope start left tokens) (low_left : declarator_height left ≤ k) where
    length_sound : next_body tokens ≡ Some (lexeme.Mark p.OpenBracket)
        → (expr_lower (scope ++ declarator_adds left) k (low.expr (scope ++ declarator_adds left) conditional)
        >>= λ length. expect (is_mark p.CloseBracket) >>= λ _. pure (tree.ArrayOf left (tree.With length)))
        (tail tokens) ≡ Found one rest
        → IsSuffixed shape scope start one rest
    length_sound is h =
        let inner : Scope = scope ++ declarator_adds left in
        let x = bind_found (expr_lower inner k (low.expr inner conditional) (tail tokens))
        (λ length. expect (is_mark p.CloseBracket) >>= λ _. pure (tree.ArrayOf left (tree.With length))) one
        rest h in
        let c = mark_then p.CloseBracket (pure (tree.ArrayOf left (tree.With x.value))) x.mid rest one x.two in
        let y = sound.expr inner conditional (omega arith) (tail tokens) x.mid x.value
        (expr_lower_found inner k (low.expr inner conditional) (tail tokens) x.mid x.value x.one) in
        moved (IsSuffixed shape scope start) c.two
        (array_sound shape scope start tokens c.mid left one before low_left is (tree.With x.value) x.mid
        (record { spells = y.spells; fits = y.fits; within = y.within }) c.spelt)

    length_by_sound : (o : Option Body) → next_body tokens ≡ Some (lexeme.Mark p.OpenBracket)
        → next_body (tail tokens) ≡ o → length_by k low scope left o (tail tokens) ≡ Found one rest
        → IsSuffixed shape scope start one rest
    length_by_sound (Some (lexeme.Mark p.CloseBracket)) is next h =
        moved (IsSuffixed shape scope start) h
        (array_sound shape scope start tokens (tail (tail tokens)) left one before low_left is tree.Without
        (tail tokens) (record { spells = refl; fits = tt; within = omega arith })
        (spelt_bare (tail tokens) (lexeme.Mark p.CloseBracket) next))
    length_by_sound o is next h = length_sound is h

    pub suffix_by_sound : (o : Option Body) → next_body tokens ≡ o → suffix_by k low scope left o tokens
        ≡ Found one rest → IsSuffixed shape scope start one rest
    unfolding array_on
    suffix_by_sound (Some (lexeme.Mark p.OpenBracket)) is h = length_by_sound (next_body (tail tokens)) is refl h
    suffix_by_sound (Some (lexeme.Mark p.OpenParen)) is h =
        function_sound shape scope start tokens rest left one before low_left is h
    suffix_by_sound _ is h = absurd (cc (h))

  pub suffixes_sound : (shape : DeclaratorForm) (scope : Scope) (start tokens rest : List Token)
      (left one : Declarator) → IsSuffixed shape scope start left tokens → suffixes k low scope left tokens
      ≡ Found one rest
      → IsSuffixed shape scope start one rest
  unfolding suffixes suffix_on
  suffixes_sound shape scope start tokens rest left one before h =
      climb_found goes_suffix (λ d. nat_le (declarator_height d) k) (suffix_on k low scope)
      (IsSuffixed shape scope start)
      (λ left a here mid goes fits h before. suffix_by_sound shape scope start here mid left a before
      (leb-true (declarator_height left) k fits) (next_body here) refl h)
      k left one tokens rest before h
