-- What follows the identifier of a declarator is read again: the climb from what stands innermost comes by each
-- declarator on the left.
use Rattle.std.proofs.Common.{◌≡◌, ◌≤◌, ◌<◌, ◌+◌, ◌-◌, ℕ, suc, nat_le, Bool, true, false, List, [], ◌∷◌, ◌++◌, Option}
use Rattle.std.proofs.Common.{Some, refl, sym, ◌∙◌, ap, subst, arith}
use borrow.Author.Tests.{le-leb}
use Rattle.c_lexer.specs.declared.punct.Punct.{Punct}
use Rattle.c_lexer.specs.declared.punct.Punct.TheVariants as p
use Rattle.c_lexer.specs.declared.token.Token.{Token}
use Rattle.c_lexer.specs.declared.token.Body.{Body}
use Rattle.c_lexer.specs.declared.token.Body.TheVariants as lexeme
use Rattle.c_reading.specs.declared.declarator_form.DeclaratorForm.{DeclaratorForm}
use Rattle.c_reading.specs.declared.declarator_form.DeclaratorForm.TheVariants as form
use Rattle.c_syntax.specs.Height.{maybe_height, declarator_height, parameters_height}
use Rattle.c_syntax.specs.Levels.{conditional}
use Rattle.c_reading.specs.Parser.{Found, Parser, ◌>>=◌, pure, skip, next_body, tail, expect, climb}
use Rattle.c_reading.specs.ReadExpr.{Parsers, begins_expr, expr_lower}
use Rattle.c_reading.specs.ReadDeclarator.{begins_declarator, listed_parameters, parameters_by, parameters_at}
use Rattle.c_reading.specs.ReadDeclarator.{goes_suffix, length_by, array_on, function_on, suffix_by, suffix_on}
use Rattle.c_reading.specs.ReadDeclarator.{suffixes}
use Rattle.c_reading.specs.ReadToken.{is_mark, begins_type}
use Rattle.c_syntax.specs.Scopes.{Scope, declarator_adds, parameter_adds}
use Rattle.c_syntax.specs.Spelling.{spell, spell_maybe, spell_declarator, spell_parameter, spelled_parameters}
use Rattle.c_syntax.specs.Tokens.{mark, commas, ellipsis_if}
use Rattle.c_syntax.specs.Tree as tree
use Rattle.c_syntax.specs.Tree.{Maybe, Declarator, Parameter, Parameters}
use Rattle.c_syntax.specs.View.{parameters}
use Rattle.c_syntax.specs.WellFormed.{IsDirect, HasToken, MayEnd, IsAbsentOrConditional, IsDeclarator, AreParameters}
use Rattle.c_reading.proofs.Full.Steps.{front, then_read, peek_at, expect_again, expr_lower_again, climb_over}
use Rattle.c_reading.proofs.Full.Steps.{climb_step, Behind, listed_again, behind_commas}
use Rattle.c_reading.proofs.Full.DeclaratorEnds.{ends_ellipsis, ends_behind}
use Rattle.c_reading.proofs.Full.Ends.{ends_closed}
use Rattle.c_syntax.proofs.FirstLaws.{first_parameter}
use Rattle.c_reading.proofs.FirstTokens.{first_seen, expr_begins}
use Rattle.c_reading.proofs.Full.Law.{AllFull}
use Rattle.c_syntax.proofs.HeightLaws.{expr_high}
use Rattle.c_reading.proofs.Sound.Law.{HasForm}
use Rattle.c_reading.proofs.Takes.{Takes, takes_parted}

-- ---- parameter lists

abbrev pub listed : Parameters → List Parameter
listed tree.NoParameter = []
listed (tree.MoreParameters first rest) = first ∷ listed rest

pub parameters_again : (all : Parameters) → parameters (listed all) ≡ all
parameters_again tree.NoParameter = refl
parameters_again (tree.MoreParameters first rest) = ap (tree.MoreParameters first) (parameters_again rest)

-- a token that begins a type is no mark
pub type_no_mark : (mark : Punct) (scope : Scope) (o : Option Body) → begins_type scope o ≡ true
    → is_mark mark o ≡ false
type_no_mark mark scope (Some (lexeme.Mark next)) begins = absurd (cc)
type_no_mark mark scope o begins = refl

-- ---- the declarators on the left

-- how many of them, but for an omitted identifier
abbrev pub turns : Declarator → ℕ
turns (tree.ArrayOf tree.Omitted length) = 0
turns (tree.ArrayOf inner length) = suc (turns inner)
turns (tree.FunctionOf tree.Omitted parameters variadic) = 0
turns (tree.FunctionOf inner parameters variadic) = suc (turns inner)
turns _ = 0

turns_low : (one : Declarator) → HasToken one → turns one < declarator_height one
turns_low tree.Omitted has = absurd has
turns_low (tree.Name pos x) has = omega arith
turns_low (tree.DParen inner) has = omega arith
turns_low (tree.PointerTo qualifiers inner) has = omega arith
turns_low (tree.ArrayOf tree.Omitted length) has = omega arith
turns_low (tree.ArrayOf inner length) has = let h = turns_low inner tt in omega arith
turns_low (tree.FunctionOf tree.Omitted parameters variadic) has = omega arith
turns_low (tree.FunctionOf inner parameters variadic) has = let h = turns_low inner tt in omega arith

-- what a chain of suffixes begins with
abbrev pub IsInnermost : Declarator → Type 0
IsInnermost (tree.Name pos x) = Unit {0}
IsInnermost (tree.DParen inner) = Unit {0}
IsInnermost (tree.ArrayOf tree.Omitted length) = Unit {0}
IsInnermost (tree.FunctionOf tree.Omitted parameters variadic) = Unit {0}
IsInnermost _ = ⊥

array_form : (shape : DeclaratorForm) (scope : Scope) (inner : Declarator) (length : Maybe)
    → HasForm shape scope (tree.ArrayOf inner length) → HasForm shape scope inner
array_form form.Named scope inner length has = has
array_form form.Abstract scope inner length has = has
array_form form.Parameter scope inner length has = has

function_form : (shape : DeclaratorForm) (scope : Scope) (inner : Declarator) (all : Parameters) (variadic : Bool)
    → HasForm shape scope (tree.FunctionOf inner all variadic) → HasForm shape scope inner
function_form form.Named scope inner all variadic has = has
function_form form.Abstract scope inner all variadic has = has
function_form form.Parameter scope inner all variadic has = has

module _ (k : ℕ) (low : Parsers) (full : AllFull k low) where
  behind_parameters : (all : Parameters) (variadic : Bool) (scope : Scope) (tokens mid rest : List Token)
      → AreParameters all scope → parameters_height all ≤ k → next_body rest ≡ Some (lexeme.Mark p.CloseParen)
      → Takes tokens (behind_commas (spelled_parameters all)) mid → Takes mid (ellipsis_if variadic) rest
      → Behind (is_mark p.Comma) (is_mark p.Ellipsis) (skip (pure tt)) low.parameter
      (λ s parameter. s ++ parameter_adds parameter) (listed all) variadic scope tokens rest
  behind_parameters tree.NoParameter false scope tokens mid rest are high close all end =
      (all ∙ end, ap (is_mark p.Comma) close)
  behind_parameters tree.NoParameter true scope tokens mid rest are high close all end =
      let dots = mark p.Comma ∷ mark p.Ellipsis ∷ [] in
      let f = front tokens rest dots (subst (λ ts. Takes ts dots rest) (sym all) end) in
      let g = front (tail tokens) rest (mark p.Ellipsis ∷ []) f.2 in
      (ap (is_mark p.Comma) f.0, ap (is_mark p.Ellipsis) g.0, ap (λ ts. Found tt ts) g.2, f.3)
  behind_parameters (tree.MoreParameters first more) variadic scope tokens mid rest are high close all end =
      let both = takes_parted tokens mid (mark p.Comma ∷ spell_parameter first)
      (behind_commas (spelled_parameters more)) all in
      let f = front tokens both.mid (mark p.Comma ∷ spell_parameter first) both.one in
      let ends = ends_behind (spelled_parameters more) both.mid mid (ends_ellipsis variadic mid rest close end)
      both.two in
      let begins = first_seen true scope (tail tokens) both.mid (spell_parameter first)
      (first_parameter first scope are.0) f.2 in (
        both.mid,
        ap (is_mark p.Comma) f.0,
        type_no_mark p.Ellipsis scope (next_body (tail tokens)) begins,
        full.parameter scope first (tail tokens) both.mid are.0 (omega arith) ends.0 ends.1 f.2,
        f.3,
        behind_parameters more variadic (scope ++ parameter_adds first) both.mid mid rest are.1 (omega arith) close
            both.two end,
      )

  -- a list that is not empty
  pub list_again : (first : Parameter) (more : Parameters) (variadic : Bool) (scope : Scope) (tokens mid rest
      : List Token) → AreParameters (tree.MoreParameters first more) scope
      → parameters_height (tree.MoreParameters first more) ≤ k
      → next_body rest ≡ Some (lexeme.Mark p.CloseParen)
      → Takes tokens (commas (spelled_parameters (tree.MoreParameters first more))) mid
      → Takes mid (ellipsis_if variadic) rest
      → listed_parameters k low scope tokens ≡ Found (first ∷ listed more, variadic) rest
  unfolding listed_parameters
  list_again first more variadic scope tokens mid rest are high close all end =
      let both = takes_parted tokens mid (spell_parameter first) (behind_commas (spelled_parameters more)) all in
      let ends = ends_behind (spelled_parameters more) both.mid mid (ends_ellipsis variadic mid rest close end)
      both.two in
      let one = full.parameter scope first tokens both.mid are.0 (omega arith) ends.0 ends.1 both.one in
      listed_again _ _ _ _ _ first (listed more) variadic scope tokens both.mid rest one
      (behind_parameters more variadic (scope ++ parameter_adds first) both.mid mid rest are.1 (omega arith) close
      both.two end)

  pub list_begins : (first : Parameter) (more : Parameters) (scope : Scope) (tokens mid : List Token)
      → AreParameters (tree.MoreParameters first more) scope
      → Takes tokens (commas (spelled_parameters (tree.MoreParameters first more))) mid
      → begins_type scope (next_body tokens) ≡ true
  list_begins first more scope tokens mid are all =
      let both = takes_parted tokens mid (spell_parameter first) (behind_commas (spelled_parameters more)) all in
      first_seen true scope tokens both.mid (spell_parameter first) (first_parameter first scope are.0) both.one

  parameters_open : (scope at : Scope) (o : Option Body) (tokens : List Token) → begins_type at o ≡ true
      → parameters_by k low scope o tokens
      ≡ (listed_parameters k low scope >>= λ all. expect (is_mark p.CloseParen)
      >>= λ _. pure (parameters all.0, all.1)) tokens
  parameters_open scope at (Some (lexeme.Mark p.CloseParen)) tokens begins = absurd (cc)
  parameters_open scope at o tokens begins = refl

  all_again : (all : Parameters) (variadic : Bool) (scope : Scope) (tokens mid rest : List Token)
      → AreParameters all scope → MayEnd all variadic → parameters_height all ≤ k
      → next_body rest ≡ Some (lexeme.Mark p.CloseParen)
      → Takes tokens (commas (spelled_parameters all)) mid → Takes mid (ellipsis_if variadic) rest
      → parameters_at k low scope tokens ≡ Found (all, variadic) (tail rest)
  unfolding parameters_at
  all_again tree.NoParameter true scope tokens mid rest are may high close all end = absurd may
  all_again tree.NoParameter false scope tokens mid rest are may high close all end =
      peek_at (parameters_by k low scope) tokens _ _ (ap next_body (all ∙ end)
      ∙ close) (ap (λ ts. Found (tree.NoParameter, false) (tail ts)) (all ∙ end))
  all_again (tree.MoreParameters first more) variadic scope tokens mid rest are may high close all end =
      parameters_open scope scope (next_body tokens) tokens (list_begins first more scope tokens mid are all)
      ∙ then_read _ _ _ rest _ (list_again first more variadic scope tokens mid rest are high close all end)
      (expect_again (is_mark p.CloseParen) _ rest _ _ refl close
      (ap (λ more. Found (tree.MoreParameters first more, variadic) (tail rest)) (parameters_again more)))

  -- ---- suffixes

  length_open : (scope at : Scope) (left : Declarator) (o : Option Body) (tokens : List Token) → begins_expr at o ≡ true
      → length_by k low scope left o tokens
      ≡ (expr_lower (scope ++ declarator_adds left) k (low.expr (scope ++ declarator_adds left) conditional)
      >>= λ length. expect (is_mark p.CloseBracket) >>= λ _. pure (tree.ArrayOf left (tree.With length))) tokens
  length_open scope at left (Some (lexeme.Mark p.CloseBracket)) tokens begins = absurd (cc)
  length_open scope at left o tokens begins = refl

  pub array_again : (scope : Scope) (inner : Declarator) (length : Maybe) (tokens mid rest : List Token)
      → IsAbsentOrConditional length (scope ++ declarator_adds inner) → maybe_height length ≤ k
      → Takes tokens (mark p.OpenBracket ∷ spell_maybe length) mid → Takes mid (mark p.CloseBracket ∷ []) rest
      → suffix_on k low scope inner tokens ≡ Found (tree.ArrayOf inner length) rest
  unfolding suffix_on array_on
  array_again scope inner tree.Without tokens mid rest is high all close =
      let f = front tokens mid (mark p.OpenBracket ∷ []) all in
      let g = front mid rest (mark p.CloseBracket ∷ []) close in
      peek_at (suffix_by k low scope inner) tokens _ _ f.0
      (peek_at (length_by k low scope inner) (tail tokens) _ _ (ap next_body f.2
      ∙ g.0) (ap (λ ts. Found (tree.ArrayOf inner tree.Without) (tail ts)) f.2
      ∙ ap (λ ts. Found (tree.ArrayOf inner tree.Without) ts) g.2))
  array_again scope inner (tree.With length) tokens mid rest is high all close =
      let within = scope ++ declarator_adds inner in
      let f = front tokens mid (mark p.OpenBracket ∷ spell length) all in
      let g = front mid rest (mark p.CloseBracket ∷ []) close in
      let some : 0 < k = let h = expr_high length in omega arith in
      let begins = expr_begins length within conditional (tail tokens) mid is f.2 in
      let closed = ends_closed conditional mid p.CloseBracket g.0 (λ k low left. refl) refl refl in
      peek_at (suffix_by k low scope inner) tokens _ _ f.0
      (length_open scope within inner (next_body (tail tokens)) (tail tokens) begins
      ∙ then_read _ _ length mid _ (expr_lower_again within k (low.expr within conditional) (tail tokens) _ begins
      some (full.expr within conditional length (tail tokens) mid (omega arith) is high closed f.2))
      (expect_again (is_mark p.CloseBracket) _ mid _ _ refl g.0
      (ap (λ ts. Found (tree.ArrayOf inner (tree.With length)) ts) g.2)))

  function_again : (scope : Scope) (inner : Declarator) (all : Parameters) (variadic : Bool) (tokens mid end rest
      : List Token) → AreParameters all (scope ++ declarator_adds inner) → MayEnd all variadic
      → parameters_height all ≤ k
      → Takes tokens (mark p.OpenParen ∷ commas (spelled_parameters all)) mid → Takes mid (ellipsis_if variadic) end
      → Takes end (mark p.CloseParen ∷ []) rest → suffix_on k low scope inner tokens
      ≡ Found (tree.FunctionOf inner all variadic) rest
  unfolding suffix_on function_on
  function_again scope inner all variadic tokens mid end rest are may high takes dots close =
      let f = front tokens mid (mark p.OpenParen ∷ commas (spelled_parameters all)) takes in
      let g = front end rest (mark p.CloseParen ∷ []) close in
      peek_at (suffix_by k low scope inner) tokens _ _ f.0
      (then_read _ _ (all, variadic) (tail end) _
      (all_again all variadic (scope ++ declarator_adds inner) (tail tokens) mid end are may high g.0 f.2 dots)
      (ap (λ ts. Found (tree.FunctionOf inner all variadic) ts) g.2))

  -- ---- the climb from what stands innermost

  pub climbing : Scope → ℕ → Declarator → Parser Declarator
  climbing scope = climb goes_suffix (λ d. nat_le (declarator_height d) k) (suffix_on k low scope)

  pub record Chain (shape : DeclaratorForm) (scope : Scope) (one : Declarator) (tokens rest : List Token) : Type 0 where
    pub first : Declarator
    pub mid : List Token
    pub innermost : IsInnermost first
    pub fits : IsDeclarator first scope
    pub has : HasForm shape scope first
    pub within : declarator_height first ≤ suc k
    pub takes : Takes tokens (spell_declarator first) mid
    pub climbs : (n : ℕ) → climbing scope (n + turns one) first mid ≡ climbing scope n one rest

  start : (shape : DeclaratorForm) (scope : Scope) (one : Declarator) (tokens rest : List Token) → turns one ≡ 0
      → IsInnermost one → IsDeclarator one scope → HasForm shape scope one → declarator_height one ≤ suc k
      → Takes tokens (spell_declarator one) rest → Chain shape scope one tokens rest
  start shape scope one tokens rest none innermost is has high all = record {
    first = one;
    mid = rest;
    innermost = innermost;
    fits = is;
    has = has;
    within = high;
    takes = all;
    climbs = λ n. let same : n + turns one ≡ n = omega arith in ap (λ n. climbing scope n one rest) same;
  }

  extend : (shape : DeclaratorForm) (scope : Scope) (one left : Declarator) (tokens mid rest : List Token)
      → turns one ≡ suc (turns left) → declarator_height left ≤ k → goes_suffix left (next_body mid) ≡ true
      → suffix_on k low scope left mid ≡ Found one rest → Chain shape scope left tokens mid
      → Chain shape scope one tokens rest
  unfolding climbing
  extend shape scope one left tokens mid rest more high goes reads x = record {
    first = x.first;
    mid = x.mid;
    innermost = x.innermost;
    fits = x.fits;
    has = x.has;
    within = x.within;
    takes = x.takes;
    climbs = λ n.
        let same : n + turns one ≡ suc n + turns left = omega arith in
        ap (λ n. climbing scope n x.first x.mid) same ∙ x.climbs (suc n)
        ∙ climb_step goes_suffix (λ d. nat_le (declarator_height d) k) (suffix_on k low scope) n left one mid rest
        goes (le-leb (declarator_height left) k high) reads;
  }

  pub chain : (one : Declarator) (shape : DeclaratorForm) (scope : Scope) (tokens rest : List Token) → IsDirect one
      → HasToken one → IsDeclarator one scope → HasForm shape scope one → declarator_height one ≤ suc k
      → Takes tokens (spell_declarator one) rest → Chain shape scope one tokens rest
  chain tree.Omitted shape scope tokens rest direct token is has high all = absurd token
  chain (tree.Name pos x) shape scope tokens rest direct token is has high all =
      start shape scope (tree.Name pos x) tokens rest refl tt is has high all
  chain (tree.DParen inner) shape scope tokens rest direct token is has high all =
      start shape scope (tree.DParen inner) tokens rest refl tt is has high all
  chain (tree.PointerTo qualifiers inner) shape scope tokens rest direct token is has high all = absurd direct
  chain (tree.ArrayOf tree.Omitted length) shape scope tokens rest direct token is has high all =
      start shape scope (tree.ArrayOf tree.Omitted length) tokens rest refl tt is has high all
  chain (tree.ArrayOf inner length) shape scope tokens rest direct token is has high all =
      let length_of = mark p.OpenBracket ∷ spell_maybe length in
      let both = takes_parted tokens rest (spell_declarator inner ++ length_of) (mark p.CloseBracket ∷ []) all in
      let x = takes_parted tokens both.mid (spell_declarator inner) length_of both.one in
      let f = front x.mid both.mid length_of x.two in
      extend shape scope (tree.ArrayOf inner length) inner tokens x.mid rest refl (omega arith)
      (ap (goes_suffix inner) f.0)
      (array_again scope inner length x.mid both.mid rest is.2 (omega arith) x.two both.two)
      (chain inner shape scope tokens x.mid is.0 tt is.1 (array_form shape scope inner length has) (omega arith) x.one)
  chain (tree.FunctionOf tree.Omitted parameters variadic) shape scope tokens rest direct token is has high all =
      start shape scope (tree.FunctionOf tree.Omitted parameters variadic) tokens rest refl tt is has high all
  chain (tree.FunctionOf inner parameters variadic) shape scope tokens rest direct token is has high all =
      let list = mark p.OpenParen ∷ commas (spelled_parameters parameters) in
      let close = takes_parted tokens rest (spell_declarator inner ++ list ++ ellipsis_if variadic)
      (mark p.CloseParen ∷ []) all in
      let both = takes_parted tokens close.mid (spell_declarator inner ++ list) (ellipsis_if variadic) close.one in
      let x = takes_parted tokens both.mid (spell_declarator inner) list both.one in
      let f = front x.mid both.mid list x.two in
      extend shape scope (tree.FunctionOf inner parameters variadic) inner tokens x.mid rest refl (omega arith)
      (ap (goes_suffix inner) f.0)
      (function_again scope inner parameters variadic x.mid both.mid close.mid rest is.2 is.3 (omega arith) x.two
      both.two close.two)
      (chain inner shape scope tokens x.mid is.0 tt is.1 (function_form shape scope inner parameters variadic has)
      (omega arith) x.one)

  suffix_over : (left : Declarator) (o : Option Body) → begins_declarator form.Parameter o ≡ false
      → goes_suffix left o ≡ false
  suffix_over left (Some (lexeme.Mark p.OpenBracket)) h = absurd (cc)
  suffix_over left (Some (lexeme.Mark p.OpenParen)) h = absurd (cc)
  suffix_over left o h = refl

  pub chain_over : (shape : DeclaratorForm) (scope : Scope) (one : Declarator) (tokens rest : List Token)
      → HasToken one → declarator_height one ≤ suc k → begins_declarator form.Parameter (next_body rest) ≡ false
      → (x : Chain shape scope one tokens rest) → suffixes k low scope x.first x.mid ≡ Found one rest
  unfolding suffixes climbing
  chain_over shape scope one tokens rest has high over x =
      let same : k ≡ (k - turns one) + turns one = let h = turns_low one has in omega arith in
      ap (λ n. climbing scope n x.first x.mid) same ∙ x.climbs (k - turns one)
      ∙ climb_over goes_suffix (λ d. nat_le (declarator_height d) k) (suffix_on k low scope) (k - turns one) one
      rest (suffix_over one (next_body rest) over)
