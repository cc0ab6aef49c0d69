-- Primary expressions and postfix operators are read again: the climb from the first operand comes by each operand on
-- the left.
use Rattle.std.proofs.Common.{◌≡◌, ◌≤◌, ◌<◌, ◌+◌, ◌-◌, ℕ, suc, nat_le, ℤ, Bool, true, false, List, [], ◌∷◌, ◌++◌, map}
use Rattle.std.proofs.Common.{Option, Some, inl, inr, refl, sym, ◌∙◌, ap, subst, arith}
use borrow.Author.Tests.{le-leb}
use Rattle.critical_table.specs.declared.pos.Pos.{Pos}
use Rattle.c_lexer.specs.declared.punct.Punct.TheVariants as p
use Rattle.c_lexer.specs.declared.token.Token.{Token}
use Rattle.c_lexer.specs.declared.token.Body.{Body}
use Rattle.c_lexer.specs.declared.token.Body.TheVariants as lexeme
use Rattle.c_syntax.specs.declared.expression.Constant.TheVariants as constant
use Rattle.c_syntax.specs.declared.operator.Access.{Access}
use Rattle.c_syntax.specs.declared.operator.Access.TheVariants as access
use Rattle.c_syntax.specs.declared.operator.Postfix.{Postfix}
use Rattle.c_syntax.specs.declared.operator.Postfix.TheVariants as postfix
use Rattle.c_syntax.specs.Height.{height, exprs_height}
use Rattle.c_syntax.specs.Levels.{expression, assignment, unary, postfix as postfix_level}
use Rattle.c_syntax.specs.Operators.{access_token, postfix_token}
use Rattle.c_reading.specs.Parser.{Found, Parser, ◌>>=◌, pure, next_body, place, tail, expect, climb}
use Rattle.c_reading.specs.ReadExpr.{Parsers, begins_expr, with_name, piece_by, piece, pieces, goes_postfix}
use Rattle.c_reading.specs.ReadExpr.{listed_arguments, arguments_by, arguments, index, call, access_name, step_by_one}
use Rattle.c_reading.specs.ReadExpr.{postfix_by, postfix_on, postfixes, paren_expr, inside, text, unary_by, unary_at}
use Rattle.c_reading.specs.ReadToken.{is_mark, name_of, begins_type, is_literal}
use Rattle.c_syntax.specs.Scopes.{Scope, expr_adds}
use Rattle.c_syntax.specs.Spelling.{spell, spelled_arguments}
use Rattle.c_syntax.specs.Tokens.{bare, mark, mark_at, name, commas, spell_pieces}
use Rattle.c_syntax.specs.Tree as tree
use Rattle.c_syntax.specs.Tree.{Expr, Exprs}
use Rattle.c_syntax.specs.View.{exprs}
use Rattle.c_syntax.specs.WellFormed.{IsExpr, AreArguments}
use Rattle.c_reading.proofs.Full.Steps.{front, tail_shorter, then_read, peek_at, read_at, chosen_second, deeper_again}
use Rattle.c_reading.proofs.Full.Steps.{expect_again, expr_lower_again, Each, many_again, climb_over, climb_step}
use Rattle.c_reading.proofs.Full.Steps.{Behind, listed_again, behind_commas, behind_seen}
use Rattle.c_reading.proofs.Full.Ends.{ends_closed, ends_infix}
use Rattle.c_syntax.specs.declared.operator.Infix.TheVariants as between
use Rattle.c_reading.proofs.FirstTokens.{expr_begins, begins_no_type}
use Rattle.c_reading.proofs.Full.Law.{EndsExpr, IsGrouped, AllFull}
use Rattle.c_syntax.proofs.HeightLaws.{expr_high}
use Rattle.c_reading.proofs.LevelLaws.{infix_low}
use Rattle.c_reading.proofs.Takes.{Takes, takes_parted}

-- ---- adjacent literals

each_piece : (wide : Bool) (all : List (List ℤ)) (tokens rest : List Token)
    → is_literal wide (next_body rest) ≡ false → Takes tokens (map (λ more. bare (lexeme.Literal more wide)) all) rest
    → Each (λ s o. is_literal wide o) (λ (s : Bool). piece) (λ s units. s) all wide tokens rest
unfolding piece
each_piece wide [] tokens rest ends all = (all, ends)
each_piece wide (units ∷ more) tokens rest ends all =
    let f = front tokens rest (map (λ more. bare (lexeme.Literal more wide)) (units ∷ more)) all in (
      tail tokens,
      ap (is_literal wide) f.0 ∙ own wide,
      peek_at piece_by tokens _ _ f.0 refl,
      tail_shorter tokens _ f.0,
      each_piece wide more (tail tokens) rest ends f.2,
    )
  where
    own : (wide : Bool) → is_literal wide (Some (lexeme.Literal units wide)) ≡ true
    own true = refl
    own false = refl

-- ---- one part behind another

-- a part that a comma follows, or what the list is followed by
pub ends_listed : (level : ℕ) (parts : List _) (tokens rest : List Token) → 0 < level → EndsExpr level rest
    → Takes tokens (behind_commas parts) rest → EndsExpr level tokens
ends_listed level parts tokens rest high ends all = elim (behind_seen parts tokens rest all) [
  | inl e ↦ ends_infix level tokens between.Comma e high
  | inr e ↦ subst (EndsExpr level) (sym e) ends
]

pub ends_paren : (level : ℕ) (tokens : List Token) → next_body tokens ≡ Some (lexeme.Mark p.CloseParen)
    → EndsExpr level tokens
ends_paren level tokens e = ends_closed level tokens p.CloseParen e (λ k low left. refl) refl refl

abbrev listed_exprs : Exprs → List Expr
listed_exprs tree.NoExpr = []
listed_exprs (tree.MoreExprs first rest) = first ∷ listed_exprs rest

exprs_again : (all : Exprs) → exprs (listed_exprs all) ≡ all
exprs_again tree.NoExpr = refl
exprs_again (tree.MoreExprs first rest) = ap (tree.MoreExprs first) (exprs_again rest)

-- how many operators stand on the left side
abbrev pub turns : Expr → ℕ
turns (tree.Index pos array index) = suc (turns array)
turns (tree.Call pos function arguments) = suc (turns function)
turns (tree.Member pos access whole x) = suc (turns whole)
turns (tree.PostfixOp pos operator operand) = suc (turns operand)
turns _ = 0

turns_low : (e : Expr) → turns e < height e
turns_low (tree.Const pos constant) = omega arith
turns_low (tree.Id pos x) = omega arith
turns_low (tree.Text pos text) = omega arith
turns_low (tree.Paren inner) = omega arith
turns_low (tree.Index pos array index) = omega (arith, turns_low array)
turns_low (tree.Call pos function arguments) = omega (arith, turns_low function)
turns_low (tree.Member pos access whole x) = omega (arith, turns_low whole)
turns_low (tree.PostfixOp pos operator operand) = omega (arith, turns_low operand)
turns_low (tree.PrefixOp pos operator operand) = omega arith
turns_low (tree.MeasureOp pos operator type) = omega arith
turns_low (tree.Cast pos type operand) = omega arith
turns_low (tree.InfixOp pos operator left right) = omega arith
turns_low (tree.Cond pos test then else) = omega arith

-- 6.5.1
abbrev pub IsPrimary : Expr → Type 0
IsPrimary (tree.Const pos constant) = Unit {0}
IsPrimary (tree.Id pos x) = Unit {0}
IsPrimary (tree.Text pos text) = Unit {0}
IsPrimary (tree.Paren inner) = Unit {0}
IsPrimary _ = ⊥

module _ (k : ℕ) (low : Parsers) (full : AllFull k low) where
  behind_arguments : (all : Exprs) (scope : Scope) (tokens rest : List Token) → AreArguments all scope
      → exprs_height all ≤ k → next_body rest ≡ Some (lexeme.Mark p.CloseParen)
      → Takes tokens (behind_commas (spelled_arguments all)) rest
      → Behind (is_mark p.Comma) (λ o. false) (pure tt) (λ s. low.expr s assignment) (λ s e. s ++ expr_adds e)
      (listed_exprs all) false scope tokens rest
  behind_arguments tree.NoExpr scope tokens rest are high close all = (all, ap (is_mark p.Comma) close)
  behind_arguments (tree.MoreExprs first more) scope tokens rest are high close all =
      let both = takes_parted tokens rest (mark p.Comma ∷ spell first) (behind_commas (spelled_arguments more)) all in
      let f = front tokens both.mid (mark p.Comma ∷ spell first) both.one in
      let ends = ends_listed assignment (spelled_arguments more) both.mid rest (omega arith)
      (ends_paren assignment rest close) both.two in (
        both.mid,
        ap (is_mark p.Comma) f.0,
        refl,
        full.expr scope assignment first (tail tokens) both.mid (omega arith) are.0 (omega arith) ends f.2,
        f.3,
        behind_arguments more (scope ++ expr_adds first) both.mid rest are.1 (omega arith) close both.two,
      )

  arguments_open : (scope at : Scope) (o : Option Body) (tokens : List Token) → begins_expr at o ≡ true
      → arguments_by k low scope o tokens
      ≡ (listed_arguments k low scope >>= λ all. expect (is_mark p.CloseParen) >>= λ _. pure (exprs all.0)) tokens
  arguments_open scope at (Some (lexeme.Mark p.CloseParen)) tokens begins = absurd (cc)
  arguments_open scope at o tokens begins = refl

  arguments_again : (all : Exprs) (scope : Scope) (tokens rest : List Token) → AreArguments all scope
      → exprs_height all ≤ k → next_body rest ≡ Some (lexeme.Mark p.CloseParen)
      → Takes tokens (commas (spelled_arguments all)) rest
      → arguments k low scope tokens ≡ Found all (tail rest)
  unfolding arguments listed_arguments
  arguments_again tree.NoExpr scope tokens rest are high close all =
      peek_at (arguments_by k low scope) tokens _ _ (ap next_body all
      ∙ close) (ap (λ ts. Found tree.NoExpr (tail ts)) all)
  arguments_again (tree.MoreExprs first more) scope tokens rest are high close all =
      let both = takes_parted tokens rest (spell first) (behind_commas (spelled_arguments more)) all in
      let ends = ends_listed assignment (spelled_arguments more) both.mid rest (omega arith)
      (ends_paren assignment rest close) both.two in
      let one = full.expr scope assignment first tokens both.mid (omega arith) are.0 (omega arith) ends both.one in
      let behind = behind_arguments more (scope ++ expr_adds first) both.mid rest are.1 (omega arith) close both.two in
      arguments_open scope scope (next_body tokens) tokens
      (expr_begins first scope assignment tokens both.mid are.0 both.one)
      ∙ then_read _ _ _ rest _ (listed_again _ _ _ _ _ first (listed_exprs more) false scope tokens both.mid rest
      one behind)
      (expect_again (is_mark p.CloseParen) _ rest _ _ refl close
      (ap (λ more. Found (tree.MoreExprs first more) (tail rest)) (exprs_again more)))

  -- ---- postfix operators

  index_again : (scope : Scope) (pos : Pos) (array inside : Expr) (tokens mid rest : List Token)
      → IsExpr inside (scope ++ expr_adds array) expression → height inside ≤ k
      → Takes tokens (mark_at pos p.OpenBracket ∷ spell inside) mid → Takes mid (mark p.CloseBracket ∷ []) rest
      → postfix_on k low scope array tokens ≡ Found (tree.Index pos array inside) rest
  unfolding postfix_on index
  index_again scope pos array inside tokens mid rest is high all close =
      let f = front tokens mid (mark_at pos p.OpenBracket ∷ spell inside) all in
      let g = front mid rest (mark p.CloseBracket ∷ []) close in
      let ends = ends_closed expression mid p.CloseBracket g.0 (λ k low left. refl) refl refl in
      peek_at (postfix_by k low scope array) tokens _ _ f.0
      (then_read _ _ inside mid _ (full.expr (scope ++ expr_adds array) expression inside (tail tokens) mid
      (omega arith) is high ends f.2)
      (expect_again (is_mark p.CloseBracket) _ mid _ _ refl g.0
      (ap (λ pos. Found (tree.Index pos array inside) (tail mid)) f.1
      ∙ ap (λ ts. Found (tree.Index pos array inside) ts) g.2)))

  call_again : (scope : Scope) (pos : Pos) (function : Expr) (all : Exprs) (tokens mid rest : List Token)
      → AreArguments all (scope ++ expr_adds function) → exprs_height all ≤ k
      → Takes tokens (mark_at pos p.OpenParen ∷ commas (spelled_arguments all)) mid
      → Takes mid (mark p.CloseParen ∷ []) rest
      → postfix_on k low scope function tokens ≡ Found (tree.Call pos function all) rest
  unfolding postfix_on call
  call_again scope pos function arguments tokens mid rest are high all close =
      let f = front tokens mid (mark_at pos p.OpenParen ∷ commas (spelled_arguments arguments)) all in
      let g = front mid rest (mark p.CloseParen ∷ []) close in
      peek_at (postfix_by k low scope function) tokens _ _ f.0
      (then_read _ _ arguments (tail mid) _
      (arguments_again arguments (scope ++ expr_adds function) (tail tokens) mid are high g.0 f.2)
      (ap (λ pos. Found (tree.Call pos function arguments) (tail mid)) f.1
      ∙ ap (λ ts. Found (tree.Call pos function arguments) ts) g.2))

  member_by : (scope : Scope) (operator : Access) (whole : Expr) (tokens : List Token)
      → postfix_by k low scope whole (Some (lexeme.Mark (access_token operator))) tokens
      ≡ access_name operator whole tokens
  member_by scope access.Dot whole tokens = refl
  member_by scope access.Arrow whole tokens = refl

  member_goes : (operator : Access) (whole : Expr) → goes_postfix whole (Some (lexeme.Mark (access_token operator)))
      ≡ true
  member_goes access.Dot whole = refl
  member_goes access.Arrow whole = refl

  member_again : (scope : Scope) (pos : Pos) (operator : Access) (whole : Expr) (x : List ℕ) (tokens rest
      : List Token) → Takes tokens (mark_at pos (access_token operator) ∷ name x ∷ []) rest
      → postfix_on k low scope whole tokens ≡ Found (tree.Member pos operator whole x) rest
  unfolding postfix_on access_name
  member_again scope pos operator whole x tokens rest all =
      let f = front tokens rest (mark_at pos (access_token operator) ∷ name x ∷ []) all in
      let g = front (tail tokens) rest (name x ∷ []) f.2 in
      peek_at (postfix_by k low scope whole) tokens _ _ f.0
      (member_by scope operator whole tokens
      ∙ ap (λ o. with_name (name_of o) (λ x. pure (tree.Member (place tokens) operator whole x)) (tail tokens)) g.0
      ∙ ap (λ pos. Found (tree.Member pos operator whole x) (tail (tail tokens))) f.1
      ∙ ap (λ ts. Found (tree.Member pos operator whole x) ts) g.2)

  step_by : (scope : Scope) (operator : Postfix) (operand : Expr) (tokens : List Token)
      → postfix_by k low scope operand (Some (lexeme.Mark (postfix_token operator))) tokens
      ≡ step_by_one operator operand tokens
  step_by scope postfix.PostInc operand tokens = refl
  step_by scope postfix.PostDec operand tokens = refl

  step_goes : (operator : Postfix) (operand : Expr)
      → goes_postfix operand (Some (lexeme.Mark (postfix_token operator))) ≡ true
  step_goes postfix.PostInc operand = refl
  step_goes postfix.PostDec operand = refl

  step_again : (scope : Scope) (pos : Pos) (operator : Postfix) (operand : Expr) (tokens rest : List Token)
      → Takes tokens (mark_at pos (postfix_token operator) ∷ []) rest
      → postfix_on k low scope operand tokens ≡ Found (tree.PostfixOp pos operator operand) rest
  unfolding postfix_on step_by_one
  step_again scope pos operator operand tokens rest all =
      let f = front tokens rest (mark_at pos (postfix_token operator) ∷ []) all in
      peek_at (postfix_by k low scope operand) tokens _ _ f.0
      (step_by scope operator operand tokens
      ∙ ap (λ pos. Found (tree.PostfixOp pos operator operand) (tail tokens)) f.1
      ∙ ap (λ ts. Found (tree.PostfixOp pos operator operand) ts) f.2)

  -- ---- the climb from the primary expression

  pub climbing : Scope → ℕ → Expr → Parser Expr
  climbing scope = climb goes_postfix (λ e. nat_le (height e) k) (postfix_on k low scope)

  -- it comes by the expression
  pub record Chain (scope : Scope) (e : Expr) (tokens rest : List Token) : Type 0 where
    pub first : Expr
    pub mid : List Token
    pub primary : IsPrimary first
    pub fits : IsExpr first scope postfix_level
    pub within : height first ≤ suc k
    pub takes : Takes tokens (spell first) mid
    pub no_literal : (wide : Bool) → is_literal wide (next_body mid) ≡ false
    pub climbs : (n : ℕ) → climbing scope (n + turns e) first mid ≡ climbing scope n e rest
    pub group : IsGrouped e → IsGrouped first

  start : (scope : Scope) (e : Expr) (tokens rest : List Token) → turns e ≡ 0 → IsPrimary e
      → IsExpr e scope postfix_level → height e ≤ suc k → ((wide : Bool) → is_literal wide (next_body rest) ≡ false)
      → Takes tokens (spell e) rest → Chain scope e tokens rest
  start scope e tokens rest none primary is high ends all = record {
    first = e;
    mid = rest;
    primary = primary;
    fits = is;
    within = high;
    takes = all;
    no_literal = ends;
    climbs = λ n. let same : n + turns e ≡ n = omega arith in ap (λ n. climbing scope n e rest) same;
    group = λ g. g;
  }

  extend : (scope : Scope) (e left : Expr) (tokens mid rest : List Token) → turns e ≡ suc (turns left)
      → height left ≤ k → goes_postfix left (next_body mid) ≡ true → postfix_on k low scope left mid ≡ Found e rest
      → (IsGrouped e → IsGrouped left) → Chain scope left tokens mid
      → Chain scope e tokens rest
  unfolding climbing
  extend scope e left tokens mid rest one high goes reads group x = record {
    first = x.first;
    mid = x.mid;
    primary = x.primary;
    fits = x.fits;
    within = x.within;
    takes = x.takes;
    no_literal = x.no_literal;
    climbs = λ n.
        let same : n + turns e ≡ suc n + turns left = omega arith in
        ap (λ n. climbing scope n x.first x.mid) same ∙ x.climbs (suc n)
        ∙ climb_step goes_postfix (λ e. nat_le (height e) k) (postfix_on k low scope) n left e mid rest goes
        (le-leb (height left) k high) reads;
    group = λ g. x.group (group g);
  }

  mark_ends : (mark : _) (tokens : List Token) → next_body tokens ≡ Some (lexeme.Mark mark) → (wide : Bool)
      → is_literal wide (next_body tokens) ≡ false
  mark_ends mark tokens e true = ap (is_literal true) e
  mark_ends mark tokens e false = ap (is_literal false) e

  pub chain : (e : Expr) (scope : Scope) (tokens rest : List Token) → IsExpr e scope postfix_level
      → height e ≤ suc k → ((wide : Bool) → is_literal wide (next_body rest) ≡ false) → Takes tokens (spell e) rest
      → Chain scope e tokens rest
  chain (tree.Const pos constant) scope tokens rest is high ends all =
      start scope (tree.Const pos constant) tokens rest refl tt is high ends all
  chain (tree.Id pos x) scope tokens rest is high ends all =
      start scope (tree.Id pos x) tokens rest refl tt is high ends all
  chain (tree.Text pos text) scope tokens rest is high ends all =
      start scope (tree.Text pos text) tokens rest refl tt is high ends all
  chain (tree.Paren inner) scope tokens rest is high ends all =
      start scope (tree.Paren inner) tokens rest refl tt is high ends all
  chain (tree.Index pos array inside) scope tokens rest is high ends all =
      let both = takes_parted tokens rest (spell array ++ mark_at pos p.OpenBracket ∷ spell inside)
      (mark p.CloseBracket ∷ []) all in
      let x = takes_parted tokens both.mid (spell array) (mark_at pos p.OpenBracket ∷ spell inside) both.one in
      let f = front x.mid both.mid (mark_at pos p.OpenBracket ∷ spell inside) x.two in
      extend scope (tree.Index pos array inside) array tokens x.mid rest refl (omega arith)
      (ap (goes_postfix array) f.0)
      (index_again scope pos array inside x.mid both.mid rest is.2 (omega arith) x.two both.two) (λ g. g)
      (chain array scope tokens x.mid is.1 (omega arith) (mark_ends _ x.mid f.0) x.one)
  chain (tree.Call pos function arguments) scope tokens rest is high ends all =
      let open_all = mark_at pos p.OpenParen ∷ commas (spelled_arguments arguments) in
      let both = takes_parted tokens rest (spell function ++ open_all) (mark p.CloseParen ∷ []) all in
      let x = takes_parted tokens both.mid (spell function) open_all both.one in
      let f = front x.mid both.mid open_all x.two in
      extend scope (tree.Call pos function arguments) function tokens x.mid rest refl (omega arith)
      (ap (goes_postfix function) f.0)
      (call_again scope pos function arguments x.mid both.mid rest is.2 (omega arith) x.two both.two) (λ g. g)
      (chain function scope tokens x.mid is.1 (omega arith) (mark_ends _ x.mid f.0) x.one)
  chain (tree.Member pos operator whole x) scope tokens rest is high ends all =
      let behind = mark_at pos (access_token operator) ∷ name x ∷ [] in
      let both = takes_parted tokens rest (spell whole) behind all in
      let f = front both.mid rest behind both.two in
      extend scope (tree.Member pos operator whole x) whole tokens both.mid rest refl (omega arith)
      (ap (goes_postfix whole) f.0 ∙ member_goes operator whole)
      (member_again scope pos operator whole x both.mid rest both.two) (λ g. g)
      (chain whole scope tokens both.mid is.1 (omega arith) (mark_ends _ both.mid f.0) both.one)
  chain (tree.PostfixOp pos operator operand) scope tokens rest is high ends all =
      let behind = mark_at pos (postfix_token operator) ∷ [] in
      let both = takes_parted tokens rest (spell operand) behind all in
      let f = front both.mid rest behind both.two in
      extend scope (tree.PostfixOp pos operator operand) operand tokens both.mid rest refl (omega arith)
      (ap (goes_postfix operand) f.0 ∙ step_goes operator operand)
      (step_again scope pos operator operand both.mid rest both.two) (λ g. g)
      (chain operand scope tokens both.mid is.1 (omega arith) (mark_ends _ both.mid f.0) both.one)
  chain (tree.PrefixOp pos operator operand) scope tokens rest is high ends all = absurd (omega (arith, is.0))
  chain (tree.MeasureOp pos operator type) scope tokens rest is high ends all = absurd (omega (arith, is.0))
  chain (tree.Cast pos type operand) scope tokens rest is high ends all = absurd (omega (arith, is.0))
  chain (tree.InfixOp pos operator left right) scope tokens rest is high ends all =
      absurd (let h = infix_low operator in omega (arith, is.0))
  chain (tree.Cond pos test then else) scope tokens rest is high ends all = absurd (omega (arith, is.0))

  -- where no postfix operator follows, it is over
  pub chain_over : (scope : Scope) (e : Expr) (tokens rest : List Token) → height e ≤ suc k
      → goes_postfix e (next_body rest) ≡ false → (x : Chain scope e tokens rest)
      → postfixes k low scope x.first x.mid ≡ Found e rest
  unfolding postfixes climbing
  chain_over scope e tokens rest high over x =
      let same : k ≡ (k - turns e) + turns e = let h = turns_low e in omega arith in
      ap (λ n. climbing scope n x.first x.mid) same ∙ x.climbs (k - turns e)
      ∙ climb_over goes_postfix (λ e. nat_le (height e) k) (postfix_on k low scope) (k - turns e) e rest over

  -- ---- primary expressions

  pub group_again : (scope : Scope) (inner : Expr) (tokens rest : List Token) → IsExpr inner scope expression
      → suc (height inner) ≤ suc k → Takes tokens (spell inner ++ mark p.CloseParen ∷ []) rest
      → paren_expr k low scope tokens ≡ postfixes k low scope (tree.Paren inner) rest
  unfolding paren_expr
  group_again scope inner tokens rest is high all =
      let both = takes_parted tokens rest (spell inner) (mark p.CloseParen ∷ []) all in
      let g = front both.mid rest (mark p.CloseParen ∷ []) both.two in
      let some : 0 < k = let h = expr_high inner in omega arith in
      let reads = full.expr scope expression inner tokens both.mid (omega arith) is (omega arith)
      (ends_paren expression both.mid g.0) both.one in
      then_read _ _ inner both.mid _
      (expr_lower_again scope k (low.expr scope expression) tokens _
      (expr_begins inner scope expression tokens both.mid is both.one) some reads)
      (expect_again (is_mark p.CloseParen) _ both.mid _ _ refl g.0
      (ap (λ ts. postfixes k low scope (tree.Paren inner) ts) g.2))

  text_again : (scope : Scope) (level : ℕ) (pos : Pos) (wide : Bool) (all : List (List ℤ)) (tokens rest
      : List Token) → (all ≡ [] → ⊥) → is_literal wide (next_body rest) ≡ false
      → Takes tokens (spell_pieces (Some pos) wide all) rest
      → unary_at k low scope level tokens
      ≡ postfixes k low scope (tree.Text pos (record { pieces = all; wide = wide })) rest
  unfolding unary_at text pieces
  text_again scope level pos wide [] tokens rest some ends all = absurd (some refl)
  text_again scope level pos wide (units ∷ more) tokens rest some ends all =
      let f = front tokens rest (spell_pieces (Some pos) wide (units ∷ more)) all in
      read_at (unary_by k low scope level) tokens pos _ _ f.1 f.0
      (then_read _ _ more rest _
      (many_again _ _ _ more wide (tail tokens) rest (each_piece wide more (tail tokens) rest ends f.2)) refl)

  pub primary_again : (e : Expr) (scope : Scope) (level : ℕ) (tokens rest : List Token) → IsPrimary e
      → IsExpr e scope postfix_level → height e ≤ suc k → ((wide : Bool) → is_literal wide (next_body rest) ≡ false)
      → Takes tokens (spell e) rest
      → unary_at k low scope level tokens ≡ postfixes k low scope e rest
  unfolding unary_at inside
  primary_again (tree.Const pos (constant.Number number)) scope level tokens rest primary is high ends all =
      let f = front tokens rest (spell (tree.Const pos (constant.Number number))) all in
      read_at (unary_by k low scope level) tokens pos _ _ f.1 f.0
      (ap (λ ts. postfixes k low scope (tree.Const pos (constant.Number number)) ts) f.2)
  primary_again (tree.Const pos (constant.Character value wide)) scope level tokens rest primary is high ends all =
      let f = front tokens rest (spell (tree.Const pos (constant.Character value wide))) all in
      read_at (unary_by k low scope level) tokens pos _ _ f.1 f.0
      (ap (λ ts. postfixes k low scope (tree.Const pos (constant.Character value wide)) ts) f.2)
  primary_again (tree.Id pos x) scope level tokens rest primary is high ends all =
      let f = front tokens rest (spell (tree.Id pos x)) all in
      read_at (unary_by k low scope level) tokens pos _ _ f.1 f.0
      (chosen_second _ _ _ tokens _ is (ap (λ ts. postfixes k low scope (tree.Id pos x) ts) f.2))
  primary_again (tree.Text pos text) scope level tokens rest primary is high ends all =
      text_again scope level pos text.wide text.pieces tokens rest is (ends text.wide) all
  primary_again (tree.Paren inner) scope level tokens rest primary is high ends all =
      let f = front tokens rest (spell (tree.Paren inner)) all in
      let some : 0 < k = let h = expr_high inner in omega arith in
      let both = takes_parted (tail tokens) rest (spell inner) (mark p.CloseParen ∷ []) f.2 in
      let no_type = begins_no_type inner scope expression (tail tokens) both.mid is both.one in
      peek_at (unary_by k low scope level (place tokens)) tokens _ _ f.0
      (deeper_again k _ tokens _ some (chosen_second (begins_type scope (next_body (tail tokens))) _ _ (tail tokens)
      _ no_type (group_again scope inner (tail tokens) rest is high f.2)))
  primary_again (tree.Index pos array inside) scope level tokens rest primary is high ends all = absurd primary
  primary_again (tree.Call pos function arguments) scope level tokens rest primary is high ends all = absurd primary
  primary_again (tree.Member pos operator whole x) scope level tokens rest primary is high ends all = absurd primary
  primary_again (tree.PostfixOp pos operator operand) scope level tokens rest primary is high ends all = absurd primary
  primary_again (tree.PrefixOp pos operator operand) scope level tokens rest primary is high ends all = absurd primary
  primary_again (tree.MeasureOp pos operator type) scope level tokens rest primary is high ends all = absurd primary
  primary_again (tree.Cast pos type operand) scope level tokens rest primary is high ends all = absurd primary
  primary_again (tree.InfixOp pos operator left right) scope level tokens rest primary is high ends all = absurd primary
  primary_again (tree.Cond pos test then else) scope level tokens rest primary is high ends all = absurd primary

  pub postfix_full : (scope : Scope) (level : ℕ) (e : Expr) (tokens rest : List Token)
      → IsExpr e scope postfix_level → height e ≤ suc k → EndsExpr unary rest → Takes tokens (spell e) rest
      → unary_at k low scope level tokens ≡ Found e rest
  postfix_full scope level e tokens rest is high ends all =
      let x = chain e scope tokens rest is high ends.no_literal all in
      primary_again x.first scope level tokens x.mid x.primary x.fits x.within x.no_literal x.takes
      ∙ chain_over scope e tokens rest high (ends.no_postfix k low e) x
