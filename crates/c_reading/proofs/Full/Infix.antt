-- Operators between operands and the conditional are read again: the climb from the leftmost operand comes by each
-- expression on the left.
use Rattle.std.proofs.Common.{◌≡◌, ◌≤◌, ◌<◌, ◌+◌, ◌-◌, ℕ, suc, nat_le, Bool, true, false, ◌&&◌, List, ◌∷◌, ◌++◌, Some}
use Rattle.std.proofs.Common.{refl, ◌∙◌, ap, arith}
use borrow.Author.Tests.{le-leb}
use Rattle.critical_table.specs.declared.pos.Pos.{Pos}
use Rattle.c_lexer.specs.declared.punct.Punct.TheVariants as p
use Rattle.c_lexer.specs.declared.token.Token.{Token}
use Rattle.c_lexer.specs.declared.token.Body.TheVariants as lexeme
use Rattle.c_syntax.specs.declared.operator.Infix.{Infix}
use Rattle.c_syntax.specs.Height.{height}
use Rattle.c_syntax.specs.Levels.{expression, conditional, logical_or, unary, infix_level, left_level, right_level}
use Rattle.c_syntax.specs.Operators.{infix_token}
use Rattle.c_reading.specs.Parser.{Found, Parser, next_body, tail, climb}
use Rattle.c_reading.specs.ReadExpr.{Parsers, own_level, goes_between, goes_infix, between_on, cond_on, infix_by}
use Rattle.c_reading.specs.ReadExpr.{infix_on, infixes, unary_at, expr_at}
use Rattle.c_reading.specs.ReadToken.{is_mark, infix_of}
use Rattle.c_syntax.specs.Scopes.{Scope, expr_adds}
use Rattle.c_syntax.specs.Spelling.{spell}
use Rattle.c_syntax.specs.Tokens.{mark, mark_at}
use Rattle.c_syntax.specs.Tree as tree
use Rattle.c_syntax.specs.Tree.{Expr}
use Rattle.c_syntax.specs.WellFormed.{IsExpr}
use Rattle.c_reading.proofs.Full.Steps.{front, then_read, read_at, expect_again, climb_over, climb_step}
use Rattle.c_reading.proofs.Full.Ends.{infix_again, ends_closed, ends_infix, ends_question, ends_up}
use Rattle.c_reading.proofs.Full.Law.{EndsExpr, AllFull}
use Rattle.c_reading.proofs.Full.Unary.{IsOperand, unary_full}
use Rattle.c_reading.proofs.LevelLaws.{infix_low, infix_below_left, infix_below_right, left_low, right_low}
use Rattle.c_reading.proofs.LevelLaws.{lowest_left, follows, is_down, own_above}
use Rattle.c_reading.proofs.Takes.{Takes, takes_parted}

both_true : (b c : Bool) → b ≡ true → c ≡ true → (b && c) ≡ true
both_true true c one two = two
both_true false c one two = absurd (cc)

-- ---- the right side of an expression

abbrev right_side : Expr → ℕ
right_side (tree.InfixOp pos operator left right) = right_level operator
right_side (tree.Cond pos test then else) = conditional
right_side _ = unary

-- an operator that takes the expression on its left does not belong to its right side
below_side : (e : Expr) (scope : Scope) (next : Infix) → IsExpr e scope (left_level next)
    → infix_level next < right_side e
below_side (tree.Const pos constant) scope next is = let h = infix_low next in omega arith
below_side (tree.Id pos x) scope next is = let h = infix_low next in omega arith
below_side (tree.Text pos text) scope next is = let h = infix_low next in omega arith
below_side (tree.Paren inner) scope next is = let h = infix_low next in omega arith
below_side (tree.Index pos array index) scope next is = let h = infix_low next in omega arith
below_side (tree.Call pos function arguments) scope next is = let h = infix_low next in omega arith
below_side (tree.Member pos access whole x) scope next is = let h = infix_low next in omega arith
below_side (tree.PostfixOp pos operator operand) scope next is = let h = infix_low next in omega arith
below_side (tree.PrefixOp pos operator operand) scope next is = let h = infix_low next in omega arith
below_side (tree.MeasureOp pos operator type) scope next is = let h = infix_low next in omega arith
below_side (tree.Cast pos type operand) scope next is = let h = infix_low next in omega arith
below_side (tree.InfixOp pos inner left right) scope next is = follows inner next is.0
below_side (tree.Cond pos test then else) scope next is = let h = lowest_left next is.0 in omega arith

below_question : (e : Expr) (scope : Scope) → IsExpr e scope logical_or → conditional < right_side e
below_question (tree.Const pos constant) scope is = omega arith
below_question (tree.Id pos x) scope is = omega arith
below_question (tree.Text pos text) scope is = omega arith
below_question (tree.Paren inner) scope is = omega arith
below_question (tree.Index pos array index) scope is = omega arith
below_question (tree.Call pos function arguments) scope is = omega arith
below_question (tree.Member pos access whole x) scope is = omega arith
below_question (tree.PostfixOp pos operator operand) scope is = omega arith
below_question (tree.PrefixOp pos operator operand) scope is = omega arith
below_question (tree.MeasureOp pos operator type) scope is = omega arith
below_question (tree.Cast pos type operand) scope is = omega arith
below_question (tree.InfixOp pos operator left right) scope is = let h = infix_below_right operator in
    omega (arith, is.0)
below_question (tree.Cond pos test then else) scope is = absurd (omega (arith, is.0))

above_side : (e : Expr) (scope : Scope) (level : ℕ) → level ≤ unary → IsExpr e scope level → level ≤ right_side e
above_side (tree.Const pos constant) scope level low is = low
above_side (tree.Id pos x) scope level low is = low
above_side (tree.Text pos text) scope level low is = low
above_side (tree.Paren inner) scope level low is = low
above_side (tree.Index pos array index) scope level low is = low
above_side (tree.Call pos function arguments) scope level low is = low
above_side (tree.Member pos access whole x) scope level low is = low
above_side (tree.PostfixOp pos operator operand) scope level low is = low
above_side (tree.PrefixOp pos operator operand) scope level low is = low
above_side (tree.MeasureOp pos operator type) scope level low is = low
above_side (tree.Cast pos type operand) scope level low is = low
above_side (tree.InfixOp pos operator left right) scope level low is = let h = infix_below_right operator in
    omega (arith, is.0)
above_side (tree.Cond pos test then else) scope level low is = is.0

-- how many operators stand on the left side
abbrev turns : Expr → ℕ
turns (tree.InfixOp pos operator left right) = suc (turns left)
turns (tree.Cond pos test then else) = suc (turns test)
turns _ = 0

turns_low : (e : Expr) → turns e < height e
turns_low (tree.Const pos constant) = omega arith
turns_low (tree.Id pos x) = omega arith
turns_low (tree.Text pos text) = omega arith
turns_low (tree.Paren inner) = omega arith
turns_low (tree.Index pos array index) = omega arith
turns_low (tree.Call pos function arguments) = omega arith
turns_low (tree.Member pos access whole x) = omega arith
turns_low (tree.PostfixOp pos operator operand) = omega arith
turns_low (tree.PrefixOp pos operator operand) = omega arith
turns_low (tree.MeasureOp pos operator type) = omega arith
turns_low (tree.Cast pos type operand) = omega arith
turns_low (tree.InfixOp pos operator left right) = omega (arith, turns_low left)
turns_low (tree.Cond pos test then else) = omega (arith, turns_low test)

module _ (k : ℕ) (low : Parsers) (full : AllFull k low) where
  climbing : Scope → ℕ → ℕ → Expr → Parser Expr
  climbing scope level = climb (goes_infix level) (λ e. nat_le (height e) k) (infix_on k low scope)

  -- the climb from the leftmost operand comes by the expression
  record Comes (scope : Scope) (level : ℕ) (e : Expr) (tokens rest : List Token) : Type 0 where
    first : Expr
    mid : List Token
    reads : unary_at k low scope level tokens ≡ Found first mid
    climbs : (n : ℕ) → climbing scope level (n + turns e) first mid ≡ climbing scope level n e rest

  alone : (scope : Scope) (level : ℕ) (e : Expr) (tokens rest : List Token) → turns e ≡ 0 → IsOperand e
      → level ≤ unary → IsExpr e scope level → height e ≤ suc k → EndsExpr unary rest → Takes tokens (spell e) rest
      → Comes scope level e tokens rest
  alone scope level e tokens rest none one below is high ends all = record {
    first = e;
    mid = rest;
    reads = unary_full k low full e scope level tokens rest one below is high ends all;
    climbs = λ n. let same : n + turns e ≡ n = omega arith in ap (λ n. climbing scope level n e rest) same;
  }

  extend : (scope : Scope) (level : ℕ) (e left : Expr) (tokens mid rest : List Token) → turns e ≡ suc (turns left)
      → height left ≤ k → goes_infix level left (next_body mid) ≡ true
      → infix_on k low scope left mid ≡ Found e rest → Comes scope level left tokens mid
      → Comes scope level e tokens rest
  unfolding climbing
  extend scope level e left tokens mid rest one high goes reads x = record {
    first = x.first;
    mid = x.mid;
    reads = x.reads;
    climbs = λ n.
        let same : n + turns e ≡ suc n + turns left = omega arith in
        ap (λ n. climbing scope level n x.first x.mid) same ∙ x.climbs (suc n)
        ∙ climb_step (goes_infix level) (λ e. nat_le (height e) k) (infix_on k low scope) n left e mid rest goes
        (le-leb (height left) k high) reads;
  }

  infix_goes : (scope : Scope) (level : ℕ) (operator : Infix) (left : Expr) (tokens : List Token)
      → next_body tokens ≡ Some (lexeme.Mark (infix_token operator)) → level ≤ infix_level operator
      → IsExpr left scope (left_level operator)
      → goes_infix level left (next_body tokens) ≡ true
  infix_goes scope level operator left tokens e below is =
      ap (goes_infix level left) e
      ∙ ap (λ m. goes_between level left m (is_mark p.Question (Some (lexeme.Mark (infix_token operator)))))
      (infix_again operator)
      ∙ both_true _ _ (le-leb level (infix_level operator) below)
      (le-leb (left_level operator) (own_level left)
      (own_above left scope (left_level operator) (left_low operator) is))

  infix_step : (scope : Scope) (pos : Pos) (operator : Infix) (left right : Expr) (tokens rest : List Token)
      → IsExpr right (scope ++ expr_adds left) (right_level operator) → height right ≤ k
      → EndsExpr (right_level operator) rest
      → Takes tokens (mark_at pos (infix_token operator) ∷ spell right) rest
      → infix_on k low scope left tokens ≡ Found (tree.InfixOp pos operator left right) rest
  unfolding infix_on between_on
  infix_step scope pos operator left right tokens rest is high ends all =
      let f = front tokens rest (mark_at pos (infix_token operator) ∷ spell right) all in
      read_at (λ pos o. infix_by k low scope left pos (infix_of o)) tokens pos _ _ f.1 f.0
      (ap (λ m. infix_by k low scope left pos m tokens) (infix_again operator)
      ∙ then_read _ _ right rest _ (full.expr (scope ++ expr_adds left) (right_level operator) right (tail tokens)
      rest (right_low operator) is high ends f.2) refl)

  cond_goes : (scope : Scope) (level : ℕ) (test : Expr) (tokens : List Token)
      → next_body tokens ≡ Some (lexeme.Mark p.Question) → level ≤ conditional → IsExpr test scope logical_or
      → goes_infix level test (next_body tokens) ≡ true
  cond_goes scope level test tokens e below is =
      ap (goes_infix level test) e
      ∙ both_true _ _ (le-leb level conditional below)
      (le-leb logical_or (own_level test) (own_above test scope logical_or (omega arith) is))

  cond_step : (scope : Scope) (pos : Pos) (test then else : Expr) (tokens mid rest : List Token) → IsExpr
      then (scope ++ expr_adds test) expression → IsExpr
      else (scope ++ expr_adds test ++ expr_adds then) conditional → height then ≤ k → height else ≤ k
      → EndsExpr conditional rest
      → Takes tokens (mark_at pos p.Question ∷ spell then) mid → Takes mid (mark p.Colon ∷ spell else) rest
      → infix_on k low scope test tokens ≡ Found (tree.Cond pos test then else) rest
  unfolding infix_on cond_on
  cond_step scope pos test then else tokens mid rest is also high low_else ends all more =
      let f = front tokens mid (mark_at pos p.Question ∷ spell then) all in
      let g = front mid rest (mark p.Colon ∷ spell else) more in
      let closed = ends_closed expression mid p.Colon g.0 (λ k low left. refl) refl refl in
      read_at (λ pos o. infix_by k low scope test pos (infix_of o)) tokens pos _ _ f.1 f.0
      (then_read _ _
      then mid _ (full.expr (scope ++ expr_adds test) expression
      then (tail tokens) mid (omega arith) is high closed f.2)
      (expect_again (is_mark p.Colon) _ mid _ _ refl g.0
      (then_read _ _ else rest _ (full.expr (scope ++ expr_adds test ++ expr_adds then) conditional
      else (tail mid) rest (omega arith) also low_else ends g.2) refl)))

  types_seen : (e : Expr) (scope : Scope) (level : ℕ) (tokens rest : List Token) → level ≤ unary
      → IsExpr e scope level → height e ≤ suc k → EndsExpr (right_side e) rest → Takes tokens (spell e) rest
      → Comes scope level e tokens rest
  types_seen (tree.Const pos constant) scope level tokens rest below is high ends all =
      alone scope level (tree.Const pos constant) tokens rest refl tt below is high ends all
  types_seen (tree.Id pos x) scope level tokens rest below is high ends all =
      alone scope level (tree.Id pos x) tokens rest refl tt below is high ends all
  types_seen (tree.Text pos text) scope level tokens rest below is high ends all =
      alone scope level (tree.Text pos text) tokens rest refl tt below is high ends all
  types_seen (tree.Paren inner) scope level tokens rest below is high ends all =
      alone scope level (tree.Paren inner) tokens rest refl tt below is high ends all
  types_seen (tree.Index pos array index) scope level tokens rest below is high ends all =
      alone scope level (tree.Index pos array index) tokens rest refl tt below is high ends all
  types_seen (tree.Call pos function arguments) scope level tokens rest below is high ends all =
      alone scope level (tree.Call pos function arguments) tokens rest refl tt below is high ends all
  types_seen (tree.Member pos access whole x) scope level tokens rest below is high ends all =
      alone scope level (tree.Member pos access whole x) tokens rest refl tt below is high ends all
  types_seen (tree.PostfixOp pos operator operand) scope level tokens rest below is high ends all =
      alone scope level (tree.PostfixOp pos operator operand) tokens rest refl tt below is high ends all
  types_seen (tree.PrefixOp pos operator operand) scope level tokens rest below is high ends all =
      alone scope level (tree.PrefixOp pos operator operand) tokens rest refl tt below is high ends all
  types_seen (tree.MeasureOp pos operator type) scope level tokens rest below is high ends all =
      alone scope level (tree.MeasureOp pos operator type) tokens rest refl tt below is high ends all
  types_seen (tree.Cast pos type operand) scope level tokens rest below is high ends all =
      alone scope level (tree.Cast pos type operand) tokens rest refl tt below is high ends all
  types_seen (tree.InfixOp pos operator left right) scope level tokens rest below is high ends all =
      let behind = mark_at pos (infix_token operator) ∷ spell right in
      let both = takes_parted tokens rest (spell left) behind all in
      let f = front both.mid rest behind both.two in
      let down : level ≤ left_level operator = let h = infix_below_left operator in omega (arith, is.0) in
      let x = types_seen left scope level tokens both.mid below
      (is_down left scope level (left_level operator) down is.1) (omega arith)
      (ends_infix (right_side left) both.mid operator f.0 (below_side left scope operator is.1)) both.one in
      extend scope level (tree.InfixOp pos operator left right) left tokens both.mid rest refl (omega arith)
      (infix_goes scope level operator left both.mid f.0 is.0 is.1)
      (infix_step scope pos operator left right both.mid rest is.2 (omega arith) ends both.two) x
  types_seen (tree.Cond pos test then else) scope level tokens rest below is high ends all =
      let middle = mark_at pos p.Question ∷ spell then in
      let both = takes_parted tokens rest (spell test ++ middle) (mark p.Colon ∷ spell else) all in
      let front_of = takes_parted tokens both.mid (spell test) middle both.one in
      let f = front front_of.mid both.mid middle front_of.two in
      let x = types_seen test scope level tokens front_of.mid below
      (is_down test scope level logical_or (omega (arith, is.0)) is.1) (omega arith)
      (ends_question (right_side test) front_of.mid f.0 (below_question test scope is.1)) front_of.one in
      extend scope level (tree.Cond pos test then else) test tokens front_of.mid rest refl (omega arith)
      (cond_goes scope level test front_of.mid f.0 is.0 is.1)
      (cond_step scope pos test then
      else front_of.mid both.mid rest is.2 is.3 (omega arith) (omega arith) ends front_of.two both.two) x

  pub infix_full : (scope : Scope) (level : ℕ) (e : Expr) (tokens rest : List Token) → level ≤ unary
      → IsExpr e scope level → height e ≤ suc k → EndsExpr level rest → Takes tokens (spell e) rest
      → expr_at k low scope level tokens ≡ Found e rest
  unfolding expr_at infixes climbing
  infix_full scope level e tokens rest below is high ends all =
      let x = types_seen e scope level tokens rest below is high
      (ends_up level (right_side e) rest (above_side e scope level below is) ends) all in
      let same : k ≡ (k - turns e) + turns e = let h = turns_low e in omega arith in
      then_read _ _ x.first x.mid _ x.reads
      (ap (λ n. climbing scope level n x.first x.mid) same ∙ x.climbs (k - turns e)
      ∙ climb_over (goes_infix level) (λ e. nat_le (height e) k) (infix_on k low scope) (k - turns e) e rest
      (ends.no_infix k low e))
