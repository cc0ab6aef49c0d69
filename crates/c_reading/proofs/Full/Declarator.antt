-- The spelling of a well-formed declarator, parameter, member, type name or of specifiers is read as it; and all
-- parsers of every height are full.
use Rattle.std.proofs.Common.{◌≡◌, ℕ, zero, suc, ◌≤◌, true, false, List, [], ◌∷◌, ◌++◌, Option, Some, refl, sym, ◌∙◌}
use Rattle.std.proofs.Common.{ap, subst, arith}
use Rattle.c_lexer.specs.declared.punct.Punct.TheVariants as p
use Rattle.c_lexer.specs.declared.token.Token.{Token}
use Rattle.c_lexer.specs.declared.token.Body.{Body}
use Rattle.c_lexer.specs.declared.token.Body.TheVariants as lexeme
use Rattle.c_reading.specs.declared.declarator_form.DeclaratorForm.{DeclaratorForm}
use Rattle.c_reading.specs.declared.declarator_form.DeclaratorForm.TheVariants as form
use Rattle.c_syntax.specs.Height.{type_name_height, specifiers_height, declarator_height, declarators_height}
use Rattle.c_syntax.specs.Height.{parameter_height, member_height}
use Rattle.c_reading.specs.Parser.{Found, ◌>>=◌, pure, expect, next_body, tail}
use Rattle.c_reading.specs.ReadExpr.{Parsers}
use Rattle.c_reading.specs.ReadToken.{is_mark}
use Rattle.c_reading.specs.ReadDeclarator.{begins_declarator, no_declarator, omission, declarator_by, declarator_at}
use Rattle.c_reading.specs.ReadDeclarator.{type_name_at, parameter_at, listed_declarators, member_by, member_on}
use Rattle.c_reading.specs.ReadDeclarator.{member_at}
use Rattle.c_reading.specs.ReadSpecifier.{low_specifier, specifier_at, specifiers_by, parsers}
use Rattle.c_syntax.specs.Scopes.{Scope, specifiers_add, declarator_adds}
use Rattle.c_syntax.specs.Spelling.{spell_type_name, spell_specifiers, spell_declarator, spelled_declarators}
use Rattle.c_syntax.specs.Spelling.{spell_parameter, spell_member}
use Rattle.c_syntax.specs.Tokens.{mark, commas}
use Rattle.c_syntax.specs.Tree as tree
use Rattle.c_syntax.specs.Tree.{TypeName, Specifiers, MemberDeclaration, Declarators, Declarator, Parameter}
use Rattle.c_syntax.specs.View.{declarators}
use Rattle.c_syntax.specs.WellFormed.{SpecifyOneType, IsDirect, HasToken, IsTypeName, AreSpecifiers, AreDeclarators}
use Rattle.c_syntax.specs.WellFormed.{IsDeclarator, IsParameter, IsMember}
use Rattle.c_reading.proofs.Full.Steps.{front, then_read, peek_at, chosen_second, expect_again, Behind, listed_again}
use Rattle.c_reading.proofs.Full.Steps.{behind_commas}
use Rattle.c_reading.proofs.Full.DeclaratorEnds.{ends_begins, ends_form, ends_at, ends_behind, opening}
use Rattle.c_reading.proofs.Full.DeclaratorEnds.{opening_no_mark, declarator_begins}
use Rattle.c_reading.proofs.Full.Innermost.{named_has, innermost_again, pointer_again, declarator_front}
use Rattle.c_reading.proofs.Full.Expr.{paren_expr_full, expr_full}
use Rattle.c_reading.proofs.Full.Specifier.{specifier_full}
use Rattle.c_reading.proofs.Full.Specifiers.{low_full, all_full}
use Rattle.c_reading.proofs.Full.Suffix.{chain, chain_over}
use Rattle.c_syntax.proofs.HeightLaws.{expr_high, type_name_high}
use Rattle.c_reading.proofs.Sound.Law.{HasForm}
use Rattle.c_reading.proofs.Takes.{Takes, takes_parted}
use Rattle.c_reading.proofs.Full.Law.{EndsDeclarator, ends_specifiers, AllFull}

omission_again : (shape : DeclaratorForm) (scope : Scope) (rest : List Token) → HasForm shape scope tree.Omitted
    → omission shape rest ≡ Found tree.Omitted rest
omission_again form.Named scope rest has = absurd (cc)
omission_again form.Abstract scope rest has = refl
omission_again form.Parameter scope rest has = refl

pub no_declarator_full : (shape : DeclaratorForm) (scope : Scope) (one : Declarator) (tokens rest : List Token)
    → IsDeclarator one scope → HasForm shape scope one → declarator_height one ≤ 0 → EndsDeclarator rest
    → Takes tokens (spell_declarator one) rest
    → no_declarator shape tokens ≡ Found one rest
unfolding no_declarator
no_declarator_full shape scope tree.Omitted tokens rest fits has low_height ends all =
    chosen_second (begins_declarator shape (next_body tokens)) _ _ tokens _
    (ap (λ ts. begins_declarator shape (next_body ts)) all
    ∙ ends_form shape (next_body rest) (ends_begins rest ends))
    (ap (λ ts. omission shape ts) all ∙ omission_again shape scope rest has)
no_declarator_full shape scope (tree.Name pos x) tokens rest fits has low_height ends all = absurd (omega arith)
no_declarator_full shape scope (tree.DParen inner) tokens rest fits has low_height ends all = absurd (omega arith)
no_declarator_full shape scope (tree.PointerTo qualifiers inner) tokens rest fits has low_height ends all =
    absurd (omega arith)
no_declarator_full shape scope (tree.ArrayOf inner length) tokens rest fits has low_height ends all =
    absurd (omega arith)
no_declarator_full shape scope (tree.FunctionOf inner parameters variadic) tokens rest fits has low_height ends all
    = absurd (omega arith)

pub low_specifiers_full : (scope : Scope) (all : Specifiers) (tokens rest : List Token) → SpecifyOneType all
    → AreSpecifiers all scope → specifiers_height all ≤ 0 → ends_specifiers (next_body rest) ≡ true
    → Takes tokens (spell_specifiers all) rest
    → specifiers_by low_specifier scope tokens ≡ Found all rest
low_specifiers_full scope all tokens rest one fits low_height ends takes =
    all_full 0 low_specifier low_full scope all tokens rest one fits low_height ends takes

-- ---- lists of declarators

abbrev listed : Declarators → List Declarator
listed tree.NoDeclarator = []
listed (tree.MoreDeclarators first rest) = first ∷ listed rest

declarators_again : (all : Declarators) → declarators (listed all) ≡ all
declarators_again tree.NoDeclarator = refl
declarators_again (tree.MoreDeclarators first rest) = ap (tree.MoreDeclarators first) (declarators_again rest)

module _ (k : ℕ) (low : Parsers) (full : AllFull k low) where
  omission_by : (shape : DeclaratorForm) (scope : Scope) (pos : _) (o : Option Body) (tokens : List Token)
      → begins_declarator form.Parameter o ≡ false → declarator_by k low shape scope pos o tokens
      ≡ omission shape tokens
  omission_by shape scope pos (Some (lexeme.Mark p.Star)) tokens over = absurd (cc)
  omission_by shape scope pos (Some (lexeme.Mark p.OpenParen)) tokens over = absurd (cc)
  omission_by shape scope pos (Some (lexeme.Mark p.OpenBracket)) tokens over = absurd (cc)
  omission_by shape scope pos (Some (lexeme.Name x)) tokens over = absurd (cc)
  omission_by shape scope pos o tokens over = refl

  -- what is no pointer
  direct_full : (shape : DeclaratorForm) (scope : Scope) (one : Declarator) (tokens rest : List Token)
      → IsDirect one → HasToken one → IsDeclarator one scope → HasForm shape scope one
      → declarator_height one ≤ suc k → EndsDeclarator rest → Takes tokens (spell_declarator one) rest
      → declarator_at k low shape scope tokens ≡ Found one rest
  direct_full shape scope one tokens rest direct token fits has low_height ends all =
      let x = chain k low full one shape scope tokens rest direct token fits has low_height all in
      innermost_again k low full x.first shape scope tokens x.mid x.innermost x.fits x.has x.within x.takes
      ∙ chain_over k low full shape scope one tokens rest token low_height (ends_begins rest ends) x

  pub declarator_full : (shape : DeclaratorForm) (scope : Scope) (one : Declarator) (tokens rest : List Token)
      → IsDeclarator one scope → HasForm shape scope one → declarator_height one ≤ suc k → EndsDeclarator rest
      → Takes tokens (spell_declarator one) rest
      → declarator_at k low shape scope tokens ≡ Found one rest
  unfolding declarator_at
  declarator_full shape scope tree.Omitted tokens rest fits has low_height ends all =
      subst (λ ts. declarator_at k low shape scope ts ≡ Found tree.Omitted rest) (sym all)
      (omission_by shape scope _ (next_body rest) rest (ends_begins rest ends)
      ∙ omission_again shape scope rest has)
  declarator_full shape scope (tree.PointerTo qualifiers inner) tokens rest fits has low_height ends all =
      pointer_again k low full shape scope qualifiers inner tokens rest fits has low_height ends all
  declarator_full shape scope (tree.Name pos x) tokens rest fits has low_height ends all =
      direct_full shape scope (tree.Name pos x) tokens rest tt tt fits has low_height ends all
  declarator_full shape scope (tree.DParen inner) tokens rest fits has low_height ends all =
      direct_full shape scope (tree.DParen inner) tokens rest tt tt fits has low_height ends all
  declarator_full shape scope (tree.ArrayOf inner length) tokens rest fits has low_height ends all =
      direct_full shape scope (tree.ArrayOf inner length) tokens rest tt tt fits has low_height ends all
  declarator_full shape scope (tree.FunctionOf inner parameters variadic) tokens rest fits has low_height ends all =
      direct_full shape scope (tree.FunctionOf inner parameters variadic) tokens rest tt tt fits has low_height ends all

  pub specifiers_full : (scope : Scope) (all : Specifiers) (tokens rest : List Token) → SpecifyOneType all
      → AreSpecifiers all scope → specifiers_height all ≤ suc k → ends_specifiers (next_body rest) ≡ true
      → Takes tokens (spell_specifiers all) rest
      → specifiers_by (specifier_at k low) scope tokens ≡ Found all rest
  specifiers_full scope all tokens rest one fits low_height ends takes =
      all_full (suc k) (specifier_at k low) (specifier_full k low full) scope all tokens rest one fits low_height
      ends takes

  pub type_name_full : (scope : Scope) (type : TypeName) (tokens rest : List Token) → IsTypeName type scope
      → type_name_height type ≤ suc k → EndsDeclarator rest → ends_specifiers (next_body rest) ≡ true
      → Takes tokens (spell_type_name type) rest
      → type_name_at k low scope tokens ≡ Found type rest
  unfolding type_name_at
  type_name_full scope (tree.NamedType specifiers one) tokens rest fits low_height ends also all =
      let within = scope ++ specifiers_add specifiers in
      let both = takes_parted tokens rest (spell_specifiers specifiers) (spell_declarator one) all in
      let over = declarator_front form.Abstract within one both.mid rest (λ o. ends_specifiers o ≡ true)
      (λ o begins. begins.1) fits.3 also both.two in
      then_read _ _ specifiers both.mid _
      (full.specifiers scope specifiers tokens both.mid fits.0 fits.1 (omega arith) over both.one)
      (then_read _ _ one rest _ (full.declarator form.Abstract within one both.mid rest fits.2 fits.3 (omega arith)
      ends both.two) refl)

  pub parameter_full : (scope : Scope) (one : Parameter) (tokens rest : List Token) → IsParameter one scope
      → parameter_height one ≤ suc k → EndsDeclarator rest → ends_specifiers (next_body rest) ≡ true
      → Takes tokens (spell_parameter one) rest
      → parameter_at k low scope tokens ≡ Found one rest
  unfolding parameter_at
  parameter_full scope (tree.Param specifiers one) tokens rest fits low_height ends also all =
      let within = scope ++ specifiers_add specifiers in
      let both = takes_parted tokens rest (spell_specifiers specifiers) (spell_declarator one) all in
      let over = declarator_front form.Parameter within one both.mid rest (λ o. ends_specifiers o ≡ true)
      (λ o begins. begins.1) fits.3 also both.two in
      then_read _ _ specifiers both.mid _
      (full.specifiers scope specifiers tokens both.mid fits.0 fits.1 (omega arith) over both.one)
      (then_read _ _ one rest _ (full.declarator form.Parameter within one both.mid rest fits.2 fits.3 (omega arith)
      ends both.two) refl)

  behind_declarators : (all : Declarators) (scope : Scope) (tokens rest : List Token) → AreDeclarators all scope
      → declarators_height all ≤ k → next_body rest ≡ Some (lexeme.Mark p.Semicolon)
      → Takes tokens (behind_commas (spelled_declarators all)) rest
      → Behind (is_mark p.Comma) (λ o. false) (pure tt) (low.declarator form.Named)
      (λ s one. s ++ declarator_adds one) (listed all) false scope tokens rest
  behind_declarators tree.NoDeclarator scope tokens rest are high close all = (all, ap (is_mark p.Comma) close)
  behind_declarators (tree.MoreDeclarators first more) scope tokens rest are high close all =
      let both = takes_parted tokens rest (mark p.Comma ∷ spell_declarator first)
      (behind_commas (spelled_declarators more)) all in
      let f = front tokens both.mid (mark p.Comma ∷ spell_declarator first) both.one in
      let ends = ends_behind (spelled_declarators more) both.mid rest (ends_at rest _ close (refl, refl)) both.two in (
        both.mid,
        ap (is_mark p.Comma) f.0,
        refl,
        full.declarator form.Named scope first (tail tokens) both.mid are.0 are.1 (omega arith) ends.0 f.2,
        f.3,
        behind_declarators more (scope ++ declarator_adds first) both.mid rest are.2 (omega arith) close both.two,
      )

  member_open : (scope : Scope) (all : Specifiers) (o : Option Body) (tokens : List Token)
      → is_mark p.Semicolon o ≡ false
      → member_by k low scope all o tokens
      ≡ (listed_declarators k low (scope ++ specifiers_add all) >>= λ found. expect (is_mark p.Semicolon)
      >>= λ _. pure (tree.Declares all (declarators found.0))) tokens
  member_open scope all (Some (lexeme.Mark p.Semicolon)) tokens other = absurd (cc)
  member_open scope all o tokens other = refl

  -- the declarators and the semicolon behind them
  rest_full : (scope : Scope) (specifiers : Specifiers) (all : Declarators) (tokens mid rest : List Token)
      → AreDeclarators all (scope ++ specifiers_add specifiers) → declarators_height all ≤ k
      → Takes tokens (commas (spelled_declarators all)) mid → Takes mid (mark p.Semicolon ∷ []) rest
      → (ends_specifiers (next_body tokens) ≡ true)
      × (member_on k low scope specifiers tokens ≡ Found (tree.Declares specifiers all) rest)
  unfolding member_on listed_declarators
  rest_full scope specifiers tree.NoDeclarator tokens mid rest are high all close =
      let g = front mid rest (mark p.Semicolon ∷ []) close in
      let e = ap next_body all ∙ g.0 in (
        ap ends_specifiers e,
        peek_at (member_by k low scope specifiers) tokens _ _ e
            (ap (λ ts. Found (tree.Declares specifiers tree.NoDeclarator) (tail ts)) all
            ∙ ap (λ ts. Found (tree.Declares specifiers tree.NoDeclarator) ts) g.2),
      )
  rest_full scope specifiers (tree.MoreDeclarators first more) tokens mid rest are high all close =
      let within = scope ++ specifiers_add specifiers in
      let g = front mid rest (mark p.Semicolon ∷ []) close in
      let both = takes_parted tokens mid (spell_declarator first) (behind_commas (spelled_declarators more)) all in
      let token = named_has first are.1 in
      let ends = ends_behind (spelled_declarators more) both.mid mid (ends_at mid _ g.0 (refl, refl)) both.two in
      let one = full.declarator form.Named within first tokens both.mid are.0 are.1 (omega arith) ends.0 both.one in
      let behind = behind_declarators more (within ++ declarator_adds first) both.mid mid are.2 (omega arith) g.0
      both.two in
      let other = opening_no_mark p.Semicolon first (next_body tokens) refl refl refl
      (opening first tokens both.mid token both.one) in (
        (declarator_begins form.Named within first tokens both.mid token are.1 both.one).1,
        member_open scope specifiers (next_body tokens) tokens other
            ∙ then_read _ _ _ mid _ (listed_again _ _ _ _ _ first (listed more) false within tokens both.mid mid one
            behind)
            (expect_again (is_mark p.Semicolon) _ mid _ _ refl g.0
            (ap (λ more. Found (tree.Declares specifiers (tree.MoreDeclarators first more)) (tail mid))
            (declarators_again more)
            ∙ ap (λ ts. Found (tree.Declares specifiers (tree.MoreDeclarators first more)) ts) g.2)),
      )

  pub member_full : (scope : Scope) (one : MemberDeclaration) (tokens rest : List Token) → IsMember one scope
      → member_height one ≤ suc k → Takes tokens (spell_member one) rest
      → member_at k low scope tokens ≡ Found one rest
  unfolding member_at
  member_full scope (tree.Declares specifiers all_of) tokens rest fits low_height all =
      let close = takes_parted tokens rest (spell_specifiers specifiers ++ commas (spelled_declarators all_of))
      (mark p.Semicolon ∷ []) all in
      let both = takes_parted tokens close.mid (spell_specifiers specifiers) (commas (spelled_declarators all_of))
      close.one in
      let more = rest_full scope specifiers all_of both.mid close.mid rest fits.2 (omega arith) both.two close.two in
      then_read _ _ specifiers both.mid _
      (full.specifiers scope specifiers tokens both.mid fits.0 fits.1 (omega arith) more.0 both.one) more.1

pub parsers_full : (k : ℕ) → AllFull k (parsers k)
parsers_full zero = record {
  expr = λ scope level e tokens rest below fits high. absurd (let h = expr_high e in omega arith);
  paren_expr = λ scope e open_token tokens rest g fits high. absurd (let h = expr_high e in omega arith);
  type_name = λ scope type tokens rest fits high. absurd (let h = type_name_high type in omega arith);
  specifiers = low_specifiers_full;
  declarator = no_declarator_full;
  parameter = λ scope one tokens rest fits high. absurd (no_parameter one high);
  member = λ scope one tokens rest fits high. absurd (no_member one high);
}
  where
    no_parameter : (one : Parameter) → parameter_height one ≤ 0 → ⊥
    no_parameter (tree.Param specifiers declarator) high = omega arith

    no_member : (one : MemberDeclaration) → member_height one ≤ 0 → ⊥
    no_member (tree.Declares specifiers declarators) high = omega arith
parsers_full (suc k) =
    let full = parsers_full k in
    record {
      expr = expr_full k (parsers k) full;
      paren_expr = paren_expr_full k (parsers k) full;
      type_name = type_name_full k (parsers k) full;
      specifiers = specifiers_full k (parsers k) full;
      declarator = declarator_full k (parsers k) full;
      parameter = parameter_full k (parsers k) full;
      member = member_full k (parsers k) full;
    }
