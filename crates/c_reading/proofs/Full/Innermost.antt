-- A pointer, and what stands innermost in a declarator, are read again.
use Rattle.std.proofs.Common.{◌≡◌, ◌≤◌, ◌<◌, ℕ, suc, Bool, true, false, is_some, List, [], ◌∷◌, ◌++◌, Option, Some}
use Rattle.std.proofs.Common.{refl, sym, ◌∙◌, ap, subst, arith, append-nil}
use Rattle.c_lexer.specs.declared.punct.Punct.TheVariants as p
use Rattle.c_lexer.specs.declared.token.Token.{Token}
use Rattle.c_lexer.specs.declared.token.Body.{Body}
use Rattle.c_lexer.specs.declared.token.Body.TheVariants as lexeme
use Rattle.c_reading.specs.declared.declarator_form.DeclaratorForm.{DeclaratorForm}
use Rattle.c_reading.specs.declared.declarator_form.DeclaratorForm.TheVariants as form
use Rattle.c_syntax.specs.declared.specifier.Qualifier.{Qualifier}
use Rattle.c_syntax.specs.declared.specifier.Qualifier.TheVariants as qualifier_word_of
use Rattle.c_syntax.specs.Height.{maybe_height, declarator_height, parameters_height}
use Rattle.c_syntax.specs.Operators.{qualifier_word}
use Rattle.c_reading.specs.Parser.{Found, next_body, place, tail}
use Rattle.c_reading.specs.ReadExpr.{Parsers}
use Rattle.c_reading.specs.ReadDeclarator.{begins_declarator, qualifier_by, qualifier, qualifiers, nested_declarator}
use Rattle.c_reading.specs.ReadDeclarator.{omitted_list, behind_paren, pointer, bracket_by, declarator_by}
use Rattle.c_reading.specs.ReadDeclarator.{declarator_at, suffixes}
use Rattle.c_reading.specs.ReadToken.{is_mark, begins_type, qualifier_of}
use Rattle.c_syntax.specs.Scopes.{Scope}
use Rattle.c_syntax.specs.Spelling.{spell_maybe, spell_qualifiers, spell_declarator, spelled_parameters}
use Rattle.c_syntax.specs.Tokens.{mark, word, commas, ellipsis_if}
use Rattle.c_syntax.specs.Tree as tree
use Rattle.c_syntax.specs.Tree.{Maybe, Declarator, Parameters}
use Rattle.c_syntax.specs.WellFormed.{HasToken, DeclaresName, MayEnd, IsAbsentOrConditional, IsDeclarator}
use Rattle.c_syntax.specs.WellFormed.{AreParameters}
use Rattle.c_reading.proofs.Full.Steps.{front, tail_shorter, then_read, peek_at, read_at, chosen_first, chosen_second}
use Rattle.c_reading.proofs.Full.Steps.{deeper_again, expect_again, Each, many_again}
use Rattle.c_reading.proofs.Full.DeclaratorEnds.{ends_qualifiers, ends_at, opening, opening_no_mark, opening_no_type}
use Rattle.c_reading.proofs.Full.DeclaratorEnds.{NamesNoType, Begins, declarator_begins}
use Rattle.c_reading.proofs.Full.Law.{EndsDeclarator, AllFull}
use Rattle.c_reading.proofs.Full.Suffix.{IsInnermost, type_no_mark, list_again, list_begins, array_again}
use Rattle.c_reading.proofs.Full.Suffix.{parameters_again}
use Rattle.c_syntax.proofs.HeightLaws.{declarator_high}
use Rattle.c_reading.proofs.Sound.Law.{HasForm}
use Rattle.c_reading.proofs.Takes.{Takes, takes_parted}

pub named_has : (one : Declarator) → DeclaresName one → HasToken one
named_has tree.Omitted has = absurd (cc)
named_has (tree.Name pos x) has = tt
named_has (tree.DParen inner) has = tt
named_has (tree.PointerTo qualifiers inner) has = tt
named_has (tree.ArrayOf inner length) has = tt
named_has (tree.FunctionOf inner parameters variadic) has = tt

-- the next token is the declarator's first, or what stands behind an omitted identifier
pub declarator_front : (shape : DeclaratorForm) (scope : Scope) (one : Declarator) (tokens rest : List Token)
    (P : Option Body → Type 0) → ((o : Option Body) → Begins shape o → P o) → HasForm shape scope one
    → P (next_body rest) → Takes tokens (spell_declarator one) rest → P (next_body tokens)
declarator_front shape scope tree.Omitted tokens rest P leads has ends all =
    subst (λ ts. P (next_body ts)) (sym all) ends
declarator_front shape scope (tree.Name pos x) tokens rest P leads has ends all =
    leads _ (declarator_begins shape scope (tree.Name pos x) tokens rest tt has all)
declarator_front shape scope (tree.DParen inner) tokens rest P leads has ends all =
    leads _ (declarator_begins shape scope (tree.DParen inner) tokens rest tt has all)
declarator_front shape scope (tree.PointerTo qualifiers inner) tokens rest P leads has ends all =
    leads _ (declarator_begins shape scope (tree.PointerTo qualifiers inner) tokens rest tt has all)
declarator_front shape scope (tree.ArrayOf inner length) tokens rest P leads has ends all =
    leads _ (declarator_begins shape scope (tree.ArrayOf inner length) tokens rest tt has all)
declarator_front shape scope (tree.FunctionOf inner parameters variadic) tokens rest P leads has ends all =
    leads _ (declarator_begins shape scope (tree.FunctionOf inner parameters variadic) tokens rest tt has all)

-- ---- qualifiers

word_again : (word : Qualifier) → qualifier_of (Some (lexeme.Word (qualifier_word word))) ≡ Some word
word_again qualifier_word_of.Const = refl
word_again qualifier_word_of.Restrict = refl
word_again qualifier_word_of.Volatile = refl

each_qualifier : (all : List Qualifier) (scope : Scope) (tokens rest : List Token)
    → is_some (qualifier_of (next_body rest)) ≡ false → Takes tokens (spell_qualifiers all) rest
    → Each (λ s o. is_some (qualifier_of o)) (λ (s : Scope). qualifier) (λ s word. s) all scope tokens rest
unfolding qualifier
each_qualifier [] scope tokens rest ends all = (all, ends)
each_qualifier (word ∷ more) scope tokens rest ends all =
    let f = front tokens rest (spell_qualifiers (word ∷ more)) all in
    let e : qualifier_of (next_body tokens) ≡ Some word = ap qualifier_of f.0 ∙ word_again word in (
      tail tokens,
      ap is_some e,
      ap (λ o. qualifier_by o tokens) e,
      tail_shorter tokens _ f.0,
      each_qualifier more scope (tail tokens) rest ends f.2,
    )

-- ---- forms

pointer_form : (shape : DeclaratorForm) (scope : Scope) (qualifiers : List Qualifier) (inner : Declarator)
    → HasForm shape scope (tree.PointerTo qualifiers inner) → HasForm shape scope inner
pointer_form form.Named scope qualifiers inner has = has
pointer_form form.Abstract scope qualifiers inner has = has
pointer_form form.Parameter scope qualifiers inner has = has

module _ (k : ℕ) (low : Parsers) (full : AllFull k low) where
  pub pointer_again : (shape : DeclaratorForm) (scope : Scope) (words : List Qualifier) (inner : Declarator)
      (tokens rest : List Token) → IsDeclarator inner scope → HasForm shape scope (tree.PointerTo words inner)
      → suc (declarator_height inner) ≤ suc k → EndsDeclarator rest
      → Takes tokens (spell_declarator (tree.PointerTo words inner)) rest
      → declarator_at k low shape scope tokens ≡ Found (tree.PointerTo words inner) rest
  unfolding declarator_at pointer qualifiers
  pointer_again shape scope words inner tokens rest is has high ends all =
      let f = front tokens rest (spell_declarator (tree.PointerTo words inner)) all in
      let both = takes_parted (tail tokens) rest (spell_qualifiers words) (spell_declarator inner) f.2 in
      let form_of = pointer_form shape scope words inner has in
      let no_word =
      declarator_front shape scope inner both.mid rest (λ o. is_some (qualifier_of o) ≡ false)
      (λ o begins. begins.2) form_of (ends_qualifiers rest ends) both.two in
      let reads : pointer k low shape scope (tail tokens) ≡ Found (tree.PointerTo words inner) rest =
      then_read _ _ words both.mid _
      (many_again _ _ _ words scope (tail tokens) both.mid
      (each_qualifier words scope (tail tokens) both.mid no_word both.one))
      (then_read _ _ inner rest _ (full.declarator shape scope inner both.mid rest is form_of (omega arith) ends
      both.two) refl) in
      peek_at (declarator_by k low shape scope (place tokens)) tokens _ _ f.0 (by shape has reads)
    where
      by : (shape : DeclaratorForm) → HasForm shape scope (tree.PointerTo words inner)
          → pointer k low shape scope (tail tokens) ≡ Found (tree.PointerTo words inner) rest
          → declarator_by k low shape scope (place tokens) (Some (lexeme.Mark p.Star)) tokens
          ≡ Found (tree.PointerTo words inner) rest
      by form.Named has reads = let some : 0 < k = let h = declarator_high inner (named_has inner has) in
          omega arith in deeper_again k _ tokens _ some reads
      by form.Abstract has reads = reads
      by form.Parameter has reads = reads

  -- ---- a declarator in parentheses

  -- behind the opening parenthesis
  nested_declarator_again : (shape : DeclaratorForm) (scope : Scope) (inner : Declarator) (tokens rest : List Token)
      → IsDeclarator inner scope → HasForm shape scope inner → declarator_height inner ≤ k
      → Takes tokens (spell_declarator inner ++ mark p.CloseParen ∷ []) rest
      → nested_declarator k low shape scope tokens ≡ suffixes k low scope (tree.DParen inner) rest
  unfolding nested_declarator
  nested_declarator_again shape scope inner tokens rest is has high all =
      let both = takes_parted tokens rest (spell_declarator inner) (mark p.CloseParen ∷ []) all in
      let g = front both.mid rest (mark p.CloseParen ∷ []) both.two in
      let ends = ends_at both.mid _ g.0 (refl, refl) in
      then_read _ _ inner both.mid _ (full.declarator shape scope inner tokens both.mid is has high ends.0 both.one)
      (expect_again (is_mark p.CloseParen) _ both.mid _ _ refl g.0
      (ap (λ ts. suffixes k low scope (tree.DParen inner) ts) g.2))

  behind_paren_again : (shape : DeclaratorForm) (scope : Scope) (inner : Declarator) (tokens rest : List Token)
      → HasToken inner → NamesNoType shape scope inner → IsDeclarator inner scope → HasForm shape scope inner
      → declarator_height inner ≤ k → Takes tokens (spell_declarator inner ++ mark p.CloseParen ∷ []) rest
      → behind_paren k low shape scope tokens ≡ suffixes k low scope (tree.DParen inner) rest
  unfolding behind_paren
  behind_paren_again shape scope inner tokens rest token no_type is has high all =
      let both = takes_parted tokens rest (spell_declarator inner) (mark p.CloseParen ∷ []) all in
      let begins = opening inner tokens both.mid token both.one in
      let some : 0 < k = let h = declarator_high inner token in omega arith in
      chosen_second (is_mark p.CloseParen (next_body tokens)) _ _ tokens _
      (opening_no_mark p.CloseParen inner (next_body tokens) refl refl refl begins)
      (chosen_second (begins_type scope (next_body tokens)) _ _ tokens _
      (opening_no_type shape scope inner (next_body tokens) no_type begins)
      (chosen_first (begins_declarator shape (next_body tokens)) _ _ tokens _
      (declarator_begins shape scope inner tokens both.mid token has both.one).0
      (deeper_again k _ tokens _ some (nested_declarator_again shape scope inner tokens rest is has high all))))

  -- ---- a parameter list of an omitted identifier

  opened_list : (shape : DeclaratorForm) (scope : Scope) (all : Parameters) (variadic : Bool) (tokens mid end rest
      : List Token) → AreParameters all scope → MayEnd all variadic → parameters_height all ≤ k
      → Takes tokens (commas (spelled_parameters all)) mid → Takes mid (ellipsis_if variadic) end
      → Takes end (mark p.CloseParen ∷ []) rest → behind_paren k low shape scope tokens
      ≡ suffixes k low scope (tree.FunctionOf tree.Omitted all variadic) rest
  unfolding behind_paren omitted_list
  opened_list shape scope tree.NoParameter true tokens mid end rest are may high all dots close = absurd may
  opened_list shape scope tree.NoParameter false tokens mid end rest are may high all dots close =
      let g = front end rest (mark p.CloseParen ∷ []) close in
      chosen_first (is_mark p.CloseParen (next_body tokens)) _ _ tokens _
      (ap (is_mark p.CloseParen) (ap next_body (all ∙ dots) ∙ g.0))
      (ap (λ ts. suffixes k low scope (tree.FunctionOf tree.Omitted tree.NoParameter false) (tail ts)) (all ∙ dots)
      ∙ ap (λ ts. suffixes k low scope (tree.FunctionOf tree.Omitted tree.NoParameter false) ts) g.2)
  opened_list shape scope (tree.MoreParameters first more) variadic tokens mid end rest are may high all dots close =
      let g = front end rest (mark p.CloseParen ∷ []) close in
      let begins = list_begins k low full first more scope tokens mid are all in
      let some : 0 < k = parameters_high first more high in
      chosen_second (is_mark p.CloseParen (next_body tokens)) _ _ tokens _
      (type_no_mark p.CloseParen scope (next_body tokens) begins)
      (chosen_first (begins_type scope (next_body tokens)) _ _ tokens _ begins
      (deeper_again k _ tokens _ some
      (then_read _ _ _ end _ (list_again k low full first more variadic scope tokens mid end are high g.0 all dots)
      (expect_again (is_mark p.CloseParen) _ end _ _ refl g.0
      (ap (λ more. suffixes k low scope (tree.FunctionOf tree.Omitted (tree.MoreParameters first more) variadic)
      (tail end)) (parameters_again more)
      ∙ ap (λ ts. suffixes k low scope (tree.FunctionOf tree.Omitted (tree.MoreParameters first more) variadic) ts)
      g.2)))))
    where
      parameters_high : (first : _) (more : Parameters) → parameters_height (tree.MoreParameters first more) ≤ k → 0 < k
      parameters_high (tree.Param specifiers declarator) more high = omega arith

  -- ---- an array of an omitted identifier

  bracket_again : (shape : DeclaratorForm) (scope : Scope) (length : Maybe) (tokens mid rest : List Token)
      → HasForm shape scope (tree.ArrayOf tree.Omitted length) → IsAbsentOrConditional length (scope ++ [])
      → maybe_height length ≤ k
      → Takes tokens (mark p.OpenBracket ∷ spell_maybe length) mid → Takes mid (mark p.CloseBracket ∷ []) rest
      → bracket_by k low shape scope tokens ≡ suffixes k low scope (tree.ArrayOf tree.Omitted length) rest
  bracket_again form.Named scope length tokens mid rest has is high all close = absurd (cc)
  bracket_again form.Abstract scope length tokens mid rest has is high all close =
      then_read _ _ (tree.ArrayOf tree.Omitted length) rest _
      (array_again k low full scope tree.Omitted length tokens mid rest is high all close) refl
  bracket_again form.Parameter scope length tokens mid rest has is high all close =
      then_read _ _ (tree.ArrayOf tree.Omitted length) rest _
      (array_again k low full scope tree.Omitted length tokens mid rest is high all close) refl

  -- ---- what stands innermost

  paren_by : (shape : DeclaratorForm) (scope : Scope) (inner : Declarator) (tokens rest : List Token)
      → HasToken inner → IsDeclarator inner scope → HasForm shape scope (tree.DParen inner)
      → declarator_height inner ≤ k → Takes (tail tokens) (spell_declarator inner ++ mark p.CloseParen ∷ []) rest
      → declarator_by k low shape scope (place tokens) (Some (lexeme.Mark p.OpenParen)) tokens
      ≡ suffixes k low scope (tree.DParen inner) rest
  paren_by form.Named scope inner tokens rest token is has high all =
      let some : 0 < k = let h = declarator_high inner token in omega arith in
      deeper_again k _ tokens _ some (nested_declarator_again form.Named scope inner (tail tokens) rest is has high all)
  paren_by form.Abstract scope inner tokens rest token is has high all =
      behind_paren_again form.Abstract scope inner (tail tokens) rest token has is has high all
  paren_by form.Parameter scope inner tokens rest token is has high all =
      behind_paren_again form.Parameter scope inner (tail tokens) rest token has.0 is has.1 high all

  list_by : (shape : DeclaratorForm) (scope : Scope) (all : Parameters) (variadic : Bool) (tokens : List Token)
      (rest : List Token) → HasForm shape scope (tree.FunctionOf tree.Omitted all variadic)
      → behind_paren k low shape scope (tail tokens)
      ≡ suffixes k low scope (tree.FunctionOf tree.Omitted all variadic) rest
      → declarator_by k low shape scope (place tokens) (Some (lexeme.Mark p.OpenParen)) tokens
      ≡ suffixes k low scope (tree.FunctionOf tree.Omitted all variadic) rest
  list_by form.Named scope all variadic tokens rest has reads = absurd (cc)
  list_by form.Abstract scope all variadic tokens rest has reads = reads
  list_by form.Parameter scope all variadic tokens rest has reads = reads

  name_by_form : (shape : DeclaratorForm) (scope : Scope) (pos : _) (x : List ℕ) (tokens rest : List Token)
      → HasForm shape scope (tree.Name pos x) → tail tokens ≡ rest
      → declarator_by k low shape scope pos (Some (lexeme.Name x)) tokens ≡ suffixes k low scope (tree.Name pos x) rest
  name_by_form form.Named scope pos x tokens rest has e = ap (λ ts. suffixes k low scope (tree.Name pos x) ts) e
  name_by_form form.Abstract scope pos x tokens rest has e = absurd (cc)
  name_by_form form.Parameter scope pos x tokens rest has e = ap (λ ts. suffixes k low scope (tree.Name pos x) ts) e

  pub innermost_again : (first : Declarator) (shape : DeclaratorForm) (scope : Scope) (tokens rest : List Token)
      → IsInnermost first → IsDeclarator first scope → HasForm shape scope first → declarator_height first ≤ suc k
      → Takes tokens (spell_declarator first) rest
      → declarator_at k low shape scope tokens ≡ suffixes k low scope first rest
  unfolding declarator_at
  innermost_again tree.Omitted shape scope tokens rest innermost is has high all = absurd innermost
  innermost_again (tree.PointerTo qualifiers inner) shape scope tokens rest innermost is has high all = absurd innermost
  innermost_again (tree.Name pos x) shape scope tokens rest innermost is has high all =
      let f = front tokens rest (spell_declarator (tree.Name pos x)) all in
      read_at (declarator_by k low shape scope) tokens pos _ _ f.1 f.0
      (name_by_form shape scope pos x tokens rest has f.2)
  innermost_again (tree.DParen inner) shape scope tokens rest innermost is has high all =
      let f = front tokens rest (spell_declarator (tree.DParen inner)) all in
      peek_at (declarator_by k low shape scope (place tokens)) tokens _ _ f.0
      (paren_by shape scope inner tokens rest is.0 is.1 has (omega arith) f.2)
  innermost_again (tree.ArrayOf tree.Omitted length) shape scope tokens rest innermost is has high all =
      let both = takes_parted tokens rest (mark p.OpenBracket ∷ spell_maybe length) (mark p.CloseBracket ∷ []) all in
      let f = front tokens both.mid (mark p.OpenBracket ∷ spell_maybe length) both.one in
      peek_at (declarator_by k low shape scope (place tokens)) tokens _ _ f.0
      (bracket_again shape scope length tokens both.mid rest has is.2 (omega arith) both.one both.two)
  innermost_again (tree.ArrayOf inner length) shape scope tokens rest innermost is has high all = absurd innermost
  innermost_again (tree.FunctionOf tree.Omitted parameters variadic) shape scope tokens rest innermost is has high all =
      let list = mark p.OpenParen ∷ commas (spelled_parameters parameters) in
      let close = takes_parted tokens rest (list ++ ellipsis_if variadic) (mark p.CloseParen ∷ []) all in
      let both = takes_parted tokens close.mid list (ellipsis_if variadic) close.one in
      let f = front tokens both.mid list both.one in
      let are = subst (λ scope. AreParameters parameters scope) (append-nil scope) is.2 in
      peek_at (declarator_by k low shape scope (place tokens)) tokens _ _ f.0
      (list_by shape scope parameters variadic tokens rest has
      (opened_list shape scope parameters variadic (tail tokens) both.mid close.mid rest are is.3 (omega arith)
      f.2 both.two close.two))
  innermost_again (tree.FunctionOf inner parameters variadic) shape scope tokens rest innermost is has high all =
      absurd innermost
