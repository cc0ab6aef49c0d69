-- Where the reading of parameter lists, or of what stands behind an array or function declarator, stops.
use Rattle.std.proofs.Common.{◌≡◌, ℕ, suc, ◌≤◌, ◌<◌, List, [], ◌∷◌, ◌++◌, Bool, true, false, nat_le, max, Option}
use Rattle.std.proofs.Common.{Some, None, inl, inr, refl, sym, ◌∙◌, ap, append_assoc, arith}
use Rattle.std.proofs.lemmas.List.{append-nil}
use borrow.Author.Tests.{leb-true}
use Rattle.c_lexer.specs.declared.punct.Punct.TheVariants as p
use Rattle.c_lexer.specs.declared.token.Token.{Token}
use Rattle.c_lexer.specs.declared.token.Body.{Body}
use Rattle.c_lexer.specs.declared.token.Body.TheVariants as lexeme
use Rattle.c_reading.specs.declared.declarator_form.DeclaratorForm.{DeclaratorForm}
use Rattle.c_syntax.specs.declared.spelled.Spelled.{Spelled}
use Rattle.c_syntax.specs.Begin.{Begins}
use Rattle.c_syntax.specs.Height.{height, declarator_height, parameter_height, parameters_height}
use Rattle.c_syntax.specs.Levels.{conditional}
use Rattle.c_reading.specs.Parser.{Why, TooDeep, Stopped, Found, next_body, place, tail, pure, skip, expect, ◌>>=◌}
use Rattle.c_reading.specs.ReadExpr.{Parsers, expr_lower, begins_expr}
use Rattle.c_reading.specs.ReadDeclarator.{listed_parameters, parameters_by, parameters_at, goes_suffix, length_by}
use Rattle.c_reading.specs.ReadDeclarator.{array_on, function_on, suffix_by, suffix_on, suffixes}
use Rattle.c_reading.specs.ReadToken.{is_mark}
use Rattle.c_syntax.specs.Scopes.{Scope, declarator_adds, parameter_adds}
use Rattle.c_syntax.specs.Spelling.{spell, spell_declarator, spell_parameter, spelled_parameters}
use Rattle.c_syntax.specs.Tokens.{mark, commas}
use Rattle.c_syntax.specs.Tree as tree
use Rattle.c_syntax.specs.Tree.{Declarator, Parameters}
use Rattle.c_syntax.specs.View.{parameters}
use Rattle.c_syntax.specs.WellFormed.{HasToken, MayEnd, IsExpr, IsDeclarator, IsParameter, AreParameters}
use Rattle.c_reading.proofs.Viable.Completions.{spelt_next}
use Rattle.c_reading.proofs.Viable.Contexts.{Context, Completed, bind_stopped, given_stopped, close_stopped}
use Rattle.c_reading.proofs.Viable.Contexts.{expr_lower_stopped, climb_stopped, refused, too_deep, into}
use Rattle.c_reading.proofs.Sound.Steps.{moved, bind_found, mark_then, joined, Spelt, spelt_bare}
use Rattle.c_syntax.proofs.HeightLaws.{declarator_high}
use Rattle.c_reading.proofs.Sound.Law.{HasForm, spelt, AllSound}
use Rattle.c_reading.proofs.Sound.Expr.{expr_lower_found}
use Rattle.c_reading.proofs.Sound.Suffix.{listed_parameters_sound, IsSuffixed, suffix_by_sound, has_array, has_function}
use Rattle.c_reading.proofs.Viable.Started.{expr_begun}
use Rattle.c_reading.proofs.Viable.Law.{Holds, BeginsForm, AllViable}
use Rattle.c_reading.proofs.Viable.Lists.{listed_viable}

pub may_end : (all : Parameters) → MayEnd all false
may_end tree.NoParameter = tt
may_end (tree.MoreParameters first rest) = tt

module _ (k : ℕ) (low : Parsers) (sound : AllSound k low) (viable : AllViable k low) where
  abbrev pub BeginsParameters : Scope → ℕ → List Token → Type 0
  BeginsParameters scope =
      Begins (λ all. AreParameters all scope) parameters_height (λ all. commas (spelled_parameters all))

  pub listed_parameters_viable : 0 < k → (scope : Scope) (tokens rest : List Token) (why : Why)
      → listed_parameters k low scope tokens ≡ Stopped why rest → Holds (BeginsParameters scope) k tokens why rest
  unfolding listed_parameters
  listed_parameters_viable some scope tokens rest why h =
      listed_viable k (λ s one. IsParameter one s) parameter_height spell_parameter (λ s one. s ++ parameter_adds one)
      (λ s all. AreParameters all s) (λ s all. AreParameters all s) parameters_height spelled_parameters
      tree.NoParameter tree.MoreParameters
      (λ s. tt) (λ s a all is are. (is, are)) (λ s a all is are. (is, are)) refl (λ a all. refl) refl (λ a all. refl)
      (is_mark p.Ellipsis) (skip (pure tt)) (λ tokens rest why h. cc (h)) low.parameter
      sound.parameter (λ s tokens rest why h. viable.parameter s tokens rest why some h) scope tokens rest why h

  module _ (shape : DeclaratorForm) (scope : Scope) (start tokens rest : List Token) (why : Why) (left : Declarator)
      (before : IsSuffixed k low sound shape scope start left tokens) (low_left : declarator_height left ≤ k) where
    abbrev inner : Scope
    inner = scope ++ declarator_adds left

    opens : (next : Body) → next_body tokens ≡ Some next
        → Spelt start (spell_declarator left ++ record { body = next; place = None } ∷ []) (tail tokens)
    opens next is = joined (spelt before) (spelt_bare tokens next is)

    -- ---- parameter lists

    in_function : Context (λ all. AreParameters all inner) parameters_height
        (λ all. commas (spelled_parameters all)) (λ one. IsDeclarator one scope × HasForm shape scope one)
        declarator_height spell_declarator suc
        (declarator_height left) (spell_declarator left ++ mark p.OpenParen ∷ [])
    in_function = record {
      make = λ all. tree.FunctionOf left all false;
      behind = mark p.CloseParen ∷ [];
      fits = λ all are. (
        (before.fits.0, before.fits.1, are, may_end all),
        has_function shape scope left all false before.fits.2,
      );
      within = λ all j low le. omega arith;
      spells = λ all. simp (append_assoc, append-nil);
    }

    list_viable : 0 < k → next_body tokens ≡ Some (lexeme.Mark p.OpenParen)
        → (listed_parameters k low inner >>= λ all. expect (is_mark p.CloseParen)
        >>= λ _. pure {A = Parameters × Bool} (parameters all.0, all.1)) (tail tokens) ≡ Stopped why rest
        → Holds (BeginsForm shape scope) (suc k) start why rest
    list_viable some is h =
        elim (bind_stopped (listed_parameters k low inner (tail tokens)) (λ all. expect (is_mark p.CloseParen)
        >>= λ _. pure {A = Parameters × Bool} (parameters all.0, all.1)) why rest h) [
          | inl x ↦ into in_function low_left (opens (lexeme.Mark p.OpenParen) is)
              (listed_parameters_viable some inner (tail tokens) rest why x)
          | inr x ↦
              (let y = listed_parameters_sound k low sound inner (tail tokens) x.mid x.value x.one in
              close_stopped p.CloseParen (parameters x.value.0, x.value.1)
              (Holds (BeginsForm shape scope) (suc k) start) x.mid why rest x.two
              (refused (joined (joined (opens (lexeme.Mark p.OpenParen) is) y.spells) y.ends) (record {
                node = tree.FunctionOf left (parameters x.value.0) x.value.1;
                more = mark p.CloseParen ∷ [];
                fits = (
                  (before.fits.0, before.fits.1, y.fits.1, y.fits.0),
                  has_function shape scope left (parameters x.value.0) x.value.1 before.fits.2,
                );
                within = omega (arith, y.within);
                parts = simp append_assoc;
              })))
        ]

    function_by_viable : (o : Option Body) → 0 < k → next_body tokens ≡ Some (lexeme.Mark p.OpenParen)
        → parameters_by k low inner o (tail tokens) ≡ Stopped why rest
        → Holds (BeginsForm shape scope) (suc k) start why rest
    function_by_viable (Some (lexeme.Mark p.CloseParen)) some is h = absurd (cc (h))
    function_by_viable o some is h = list_viable some is h

    function_viable : 0 < k → next_body tokens ≡ Some (lexeme.Mark p.OpenParen)
        → function_on k low scope left (tail tokens) ≡ Stopped why rest
        → Holds (BeginsForm shape scope) (suc k) start why rest
    unfolding function_on parameters_at
    function_viable some is h =
        function_by_viable (next_body (tail tokens)) some is
        (given_stopped (parameters_at k low inner (tail tokens)) (λ all. tree.FunctionOf left all.0 all.1) why rest h)

    -- ---- arrays

    abbrev array_front : List Spelled
    array_front = spell_declarator left ++ mark p.OpenBracket ∷ []

    in_array : Context (λ e. IsExpr e inner conditional) height spell (λ one. IsDeclarator one scope
        × HasForm shape scope one) declarator_height spell_declarator suc (declarator_height left) array_front
    in_array = record {
      make = λ e. tree.ArrayOf left (tree.With e);
      behind = mark p.CloseBracket ∷ [];
      fits = λ e is. ((before.fits.0, before.fits.1, is), has_array shape scope left (tree.With e) before.fits.2);
      within = λ e j low le. omega arith;
      spells = λ e. simp append_assoc;
    }

    no_length : Completed (λ one. IsDeclarator one scope × HasForm shape scope one) declarator_height
        spell_declarator (suc k) array_front
    no_length = record {
      node = tree.ArrayOf left tree.Without;
      more = mark p.CloseBracket ∷ [];
      fits = ((before.fits.0, before.fits.1, tt), has_array shape scope left tree.Without before.fits.2);
      within = omega arith;
      parts = refl;
    }

    length_deep : next_body tokens ≡ Some (lexeme.Mark p.OpenBracket) → begins_expr inner (next_body (tail tokens))
        ≡ true → Holds (BeginsForm shape scope) (suc k) start TooDeep (tail tokens)
    length_deep is begins =
        let x = expr_begun inner conditional (omega arith) (place (tail tokens)) (next_body (tail tokens)) begins in
        too_deep {high = suc (max (declarator_height left) x.high)} (opens (lexeme.Mark p.OpenBracket) is)
        (spelt_next (tail tokens) x) no_length (record {
          node = tree.ArrayOf left (tree.With x.completed.node);
          more = x.completed.more ++ mark p.CloseBracket ∷ [];
          fits = (
            (before.fits.0, before.fits.1, x.completed.fits),
            has_array shape scope left (tree.With x.completed.node) before.fits.2,
          );
          within = omega (arith, x.completed.within);
          parts = ap (λ z. spell_declarator left ++ mark p.OpenBracket ∷ z ++ mark p.CloseBracket ∷ [])
              x.completed.parts ∙ simp append_assoc;
        })

    length_viable : next_body tokens ≡ Some (lexeme.Mark p.OpenBracket)
        → (expr_lower inner k (low.expr inner conditional) >>= λ length. expect (is_mark p.CloseBracket)
        >>= λ _. pure (tree.ArrayOf left (tree.With length))) (tail tokens) ≡ Stopped why rest
        → Holds (BeginsForm shape scope) (suc k) start why rest
    length_viable is h =
        elim (bind_stopped (expr_lower inner k (low.expr inner conditional) (tail tokens))
        (λ length. expect (is_mark p.CloseBracket) >>= λ _. pure (tree.ArrayOf left (tree.With length))) why
        rest h) [
          | inl x ↦ expr_lower_stopped (Holds (BeginsForm shape scope) (suc k) start) inner k
              (low.expr inner conditional) (tail tokens) why rest x
              (refused (opens (lexeme.Mark p.OpenBracket) is) no_length)
              (length_deep is)
              (λ some g. into in_array low_left (opens (lexeme.Mark p.OpenBracket) is)
              (viable.expr inner conditional (tail tokens) rest why (omega arith) some g))
          | inr x ↦
              (let y = sound.expr inner conditional (omega arith) (tail tokens) x.mid x.value
              (expr_lower_found inner k (low.expr inner conditional) (tail tokens) x.mid x.value x.one) in
              close_stopped p.CloseBracket (tree.ArrayOf left (tree.With x.value))
              (Holds (BeginsForm shape scope) (suc k) start) x.mid why rest x.two
              (refused (joined (opens (lexeme.Mark p.OpenBracket) is) (spelt y)) (record {
                node = tree.ArrayOf left (tree.With x.value);
                more = mark p.CloseBracket ∷ [];
                fits = (
                  (before.fits.0, before.fits.1, y.fits),
                  has_array shape scope left (tree.With x.value) before.fits.2,
                );
                within = omega (arith, y.within);
                parts = simp append_assoc;
              })))
        ]

    length_by_viable : (o : Option Body) → next_body tokens ≡ Some (lexeme.Mark p.OpenBracket)
        → length_by k low scope left o (tail tokens) ≡ Stopped why rest
        → Holds (BeginsForm shape scope) (suc k) start why rest
    length_by_viable (Some (lexeme.Mark p.CloseBracket)) is h = absurd (cc (h))
    length_by_viable o is h = length_viable is h

    pub array_viable : next_body tokens ≡ Some (lexeme.Mark p.OpenBracket)
        → array_on k low scope left (tail tokens) ≡ Stopped why rest
        → Holds (BeginsForm shape scope) (suc k) start why rest
    unfolding array_on
    array_viable is h = length_by_viable (next_body (tail tokens)) is h

    suffix_by_viable : (o : Option Body) → HasToken left → next_body tokens ≡ o → goes_suffix left o ≡ true
        → suffix_by k low scope left o tokens ≡ Stopped why rest → Holds (BeginsForm shape scope) (suc k) start why rest
    suffix_by_viable (Some (lexeme.Mark p.OpenBracket)) has is goes h = array_viable is h
    suffix_by_viable (Some (lexeme.Mark p.OpenParen)) has is goes h =
        function_viable (omega (arith, declarator_high left has, low_left)) is h
    suffix_by_viable _ has is goes h = absurd (cc (goes))

  -- ---- all that follows

  length_token : (scope : Scope) (left a : Declarator) (o : Option Body) (tokens mid : List Token)
      → length_by k low scope left o tokens ≡ Found a mid → HasToken a
  length_token scope left a (Some (lexeme.Mark p.CloseBracket)) tokens mid h = moved (λ a mid. HasToken a) h tt
  length_token scope left a o tokens mid h =
      let inside : Scope = scope ++ declarator_adds left in
      let x = bind_found (expr_lower inside k (low.expr inside conditional) tokens)
      (λ length. expect (is_mark p.CloseBracket) >>= λ _. pure (tree.ArrayOf left (tree.With length))) a mid h in
      let c = mark_then p.CloseBracket (pure (tree.ArrayOf left (tree.With x.value))) x.mid mid a x.two in
      moved (λ a mid. HasToken a) c.two tt

  pub suffix_token : (scope : Scope) (left a : Declarator) (o : Option Body) (tokens mid : List Token)
      → suffix_by k low scope left o tokens ≡ Found a mid → HasToken a
  unfolding array_on function_on
  suffix_token scope left a (Some (lexeme.Mark p.OpenBracket)) tokens mid h =
      length_token scope left a (next_body (tail tokens)) (tail tokens) mid h
  suffix_token scope left a (Some (lexeme.Mark p.OpenParen)) tokens mid h =
      let x = bind_found (parameters_at k low (scope ++ declarator_adds left) (tail tokens))
      (λ all. pure (tree.FunctionOf left all.0 all.1)) a mid h in moved (λ a mid. HasToken a) x.two tt
  suffix_token scope left a _ tokens mid h = absurd (cc (h))

  module _ (shape : DeclaratorForm) (scope : Scope) (start : List Token) where
    complete : (left : Declarator) (tokens : List Token) → IsSuffixed k low sound shape scope start left tokens
        → Completed (λ one. IsDeclarator one scope × HasForm shape scope one) declarator_height spell_declarator
        (suc k) (spell_declarator left)
    complete left tokens before = record {
      node = left;
      more = [];
      fits = (before.fits.1, before.fits.2);
      within =
          before.within;
      parts = sym (append-nil (spell_declarator left));
    }

    suffix_deep : (left : Declarator) (tokens : List Token) (o : Option Body)
        → IsSuffixed k low sound shape scope start left tokens → next_body tokens ≡ o → goes_suffix left o ≡ true
        → Holds (BeginsForm shape scope) (suc k) start TooDeep tokens
    suffix_deep left tokens (Some (lexeme.Mark p.OpenBracket)) before is goes =
        too_deep {high = suc (declarator_height left)} (spelt before)
        (spelt_bare tokens (lexeme.Mark p.OpenBracket) is) (complete left tokens before) (record {
          node = tree.ArrayOf left tree.Without;
          more = mark p.CloseBracket ∷ [];
          fits = ((before.fits.0, before.fits.1, tt), has_array shape scope left tree.Without before.fits.2);
          within = omega arith;
          parts = refl;
        })
    suffix_deep left tokens (Some (lexeme.Mark p.OpenParen)) before is goes =
        too_deep {high = suc (declarator_height left)} (spelt before)
        (spelt_bare tokens (lexeme.Mark p.OpenParen) is) (complete left tokens before) (record {
          node = tree.FunctionOf left tree.NoParameter false;
          more = mark p.CloseParen ∷ [];
          fits = (
            (before.fits.0, before.fits.1, tt, tt),
            has_function shape scope left tree.NoParameter false before.fits.2,
          );
          within = omega arith;
          parts = simp append-nil;
        })
    suffix_deep left tokens _ before is goes = absurd (cc (goes))

    pub suffixes_viable : (tokens rest : List Token) (why : Why) (left : Declarator)
        → IsSuffixed k low sound shape scope start left tokens → HasToken left
        → suffixes k low scope left tokens ≡ Stopped why rest
        → Holds (BeginsForm shape scope) (suc k) start why rest
    unfolding suffixes suffix_on
    suffixes_viable tokens rest why left before has h =
        climb_stopped goes_suffix (λ d. nat_le (declarator_height d) k) (suffix_on k low scope)
        (λ left tokens. IsSuffixed k low sound shape scope start left tokens
        × HasToken left) (Holds (BeginsForm shape scope) (suc k) start)
        (λ left a here mid goes fits h is. (
          suffix_by_sound k low sound shape scope start here mid left a is.0
              (leb-true (declarator_height left) k fits) (next_body here) refl h,
          suffix_token scope left a (next_body here) here mid h,
        ))
        (λ left here rest why goes fits h is. suffix_by_viable shape scope start here rest why left is.0
        (leb-true (declarator_height left) k fits) (next_body here) is.1 refl goes h)
        (λ left here goes is. suffix_deep left here (next_body here) is.0 refl goes)
        k left tokens rest why (before, has) h
