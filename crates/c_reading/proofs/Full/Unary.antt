-- Unary expressions and casts are read again.
use Rattle.std.proofs.Common.{◌≡◌, ◌⊎◌, inl, inr, ◌≤◌, ◌<◌, ℕ, suc, nat_le, true, false, List, [], ◌∷◌, ◌++◌, Some}
use Rattle.std.proofs.Common.{◌||◌, is_some, refl, ◌∙◌, ap, arith}
use borrow.Author.Tests.{le-leb}
use Rattle.critical_table.specs.declared.pos.Pos.{Pos}
use Rattle.c_lexer.specs.declared.punct.Punct.TheVariants as p
use Rattle.c_lexer.specs.declared.word.Word.TheVariants as w
use Rattle.c_lexer.specs.declared.token.Token.{Token}
use Rattle.c_lexer.specs.declared.token.Body.TheVariants as lexeme
use Rattle.c_syntax.specs.declared.expression.Constant.TheVariants as constant
use Rattle.c_syntax.specs.declared.operator.Measure.{Measure}
use Rattle.c_syntax.specs.declared.operator.Measure.TheVariants as measure
use Rattle.c_syntax.specs.declared.operator.Prefix.{Prefix}
use Rattle.c_syntax.specs.declared.operator.Prefix.TheVariants as prefix
use Rattle.c_reading.specs.declared.declarator_form.DeclaratorForm.TheVariants as form
use Rattle.c_syntax.specs.Height.{height, type_name_height}
use Rattle.c_syntax.specs.Levels.{expression, cast, unary, postfix, operand_level}
use Rattle.c_syntax.specs.Operators.{prefix_token, measure_word}
use Rattle.c_reading.specs.Parser.{Found, next_body, tail}
use Rattle.c_reading.specs.ReadExpr.{Parsers, cast_on, inside, type_measure, size_behind_paren, size, alignment}
use Rattle.c_reading.specs.ReadExpr.{prefix_expr, unary_by, unary_at}
use Rattle.c_reading.specs.ReadToken.{is_mark, begins_type, qualifier_of}
use Rattle.c_reading.specs.ReadDeclarator.{begins_declarator}
use Rattle.c_syntax.specs.Scopes.{Scope, type_name_adds}
use Rattle.c_syntax.specs.Spelling.{spell, spell_type_name}
use Rattle.c_syntax.specs.Tokens.{mark, word_at, token_at, spell_pieces}
use Rattle.c_syntax.specs.Tree as tree
use Rattle.c_syntax.specs.Tree.{Expr, TypeName}
use Rattle.c_syntax.specs.WellFormed.{IsExpr, IsTypeName}
use Rattle.c_reading.proofs.Full.Steps.{front, then_read, read_at, chosen_first, chosen_second, deeper_again}
use Rattle.c_reading.proofs.Full.Steps.{expect_again}
use Rattle.c_reading.proofs.Full.Ends.{ends_high}
use Rattle.c_syntax.proofs.FirstLaws.{first_type_name}
use Rattle.c_reading.proofs.FirstTokens.{first_seen, begins_no_type}
use Rattle.c_reading.proofs.Full.Law.{EndsExpr, EndsDeclarator, ends_specifiers, IsGrouped, AllFull}
use Rattle.c_reading.proofs.Full.Postfix.{postfix_full}
use Rattle.c_syntax.proofs.HeightLaws.{expr_high, type_name_high}
use Rattle.c_reading.proofs.LevelLaws.{infix_low, is_down}
use Rattle.c_reading.proofs.Takes.{Takes, takes_parted}

postfix_is_unary : (e : Expr) (scope : Scope) → IsExpr e scope postfix → IsExpr e scope unary
postfix_is_unary e scope is = is_down e scope unary postfix (omega arith) is

-- ---- whether an operand begins with a parenthesis

-- behind its parenthesis stands no type
pub record Opened (e : Expr) (tokens : List Token) (scope : Scope) : Type 0 where
  pub group : IsGrouped e
  pub paren : next_body tokens ≡ Some (lexeme.Mark p.OpenParen)
  pub no_type : begins_type scope (next_body (tail tokens)) ≡ false

abbrev Opens : Expr → List Token → Scope → Type 0
Opens e tokens scope = Opened e tokens scope ⊎ (is_mark p.OpenParen (next_body tokens) ≡ false)

opens_with : (whole part : Expr) (tokens : List Token) (scope : Scope) → (IsGrouped part → IsGrouped whole)
    → Opens part tokens scope → Opens whole tokens scope
opens_with whole part tokens scope group (inl o) =
    inl (record { group = group o.group; paren = o.paren; no_type = o.no_type })
opens_with whole part tokens scope group (inr e) = inr e

prefix_no_paren : (operator : Prefix) → is_mark p.OpenParen (Some (prefix_token operator)) ≡ false
prefix_no_paren prefix.PreInc = refl
prefix_no_paren prefix.PreDec = refl
prefix_no_paren prefix.AddressOf = refl
prefix_no_paren prefix.Deref = refl
prefix_no_paren prefix.Plus = refl
prefix_no_paren prefix.Minus = refl
prefix_no_paren prefix.Flip = refl
prefix_no_paren prefix.Not = refl
prefix_no_paren prefix.SizeExpr = refl

opens : (e : Expr) (scope : Scope) (tokens rest : List Token) → IsExpr e scope unary → Takes tokens (spell e) rest
    → Opens e tokens scope
opens (tree.Const pos (constant.Number number)) scope tokens rest is all =
    inr (ap (is_mark p.OpenParen) (front tokens rest (spell (tree.Const pos (constant.Number number))) all).0)
opens (tree.Const pos (constant.Character value wide)) scope tokens rest is all =
    inr (ap (is_mark p.OpenParen) (front tokens rest (spell (tree.Const pos (constant.Character value wide))) all).0)
opens (tree.Id pos x) scope tokens rest is all =
    inr (ap (is_mark p.OpenParen) (front tokens rest (spell (tree.Id pos x)) all).0)
opens (tree.Text pos text) scope tokens rest is all = by text.pieces is all
  where
    by : (pieces : List _) → (pieces ≡ [] → ⊥) → Takes tokens (spell_pieces (Some pos) text.wide pieces) rest
        → Opens (tree.Text pos text) tokens scope
    by [] some all = absurd (some refl)
    by (units ∷ more) some all =
        inr (ap (is_mark p.OpenParen) (front tokens rest (spell_pieces (Some pos) text.wide (units ∷ more)) all).0)
opens (tree.Paren inner) scope tokens rest is all =
    let f = front tokens rest (spell (tree.Paren inner)) all in
    let both = takes_parted (tail tokens) rest (spell inner) (mark p.CloseParen ∷ []) f.2 in
    inl (record {
      group = tt;
      paren = f.0;
      no_type =
          begins_no_type inner scope expression (tail tokens) both.mid is both.one;
    })
opens (tree.Index pos array index) scope tokens rest is all =
    let both = takes_parted tokens rest (spell array ++ _) _ all in
    let front = takes_parted tokens both.mid (spell array) _ both.one in
    opens_with (tree.Index pos array index) array tokens scope (λ g. g)
    (opens array scope tokens front.mid (postfix_is_unary array scope is.1) front.one)
opens (tree.Call pos function arguments) scope tokens rest is all =
    let both = takes_parted tokens rest (spell function ++ _) _ all in
    let front = takes_parted tokens both.mid (spell function) _ both.one in
    opens_with (tree.Call pos function arguments) function tokens scope (λ g. g)
    (opens function scope tokens front.mid (postfix_is_unary function scope is.1) front.one)
opens (tree.Member pos access whole x) scope tokens rest is all =
    let front = takes_parted tokens rest (spell whole) _ all in
    opens_with (tree.Member pos access whole x) whole tokens scope (λ g. g)
    (opens whole scope tokens front.mid (postfix_is_unary whole scope is.1) front.one)
opens (tree.PostfixOp pos operator operand) scope tokens rest is all =
    let front = takes_parted tokens rest (spell operand) _ all in
    opens_with (tree.PostfixOp pos operator operand) operand tokens scope (λ g. g)
    (opens operand scope tokens front.mid (postfix_is_unary operand scope is.1) front.one)
opens (tree.PrefixOp pos operator operand) scope tokens rest is all =
    inr (ap (is_mark p.OpenParen) (front tokens rest (spell (tree.PrefixOp pos operator operand)) all).0
    ∙ prefix_no_paren operator)
opens (tree.MeasureOp pos operator type) scope tokens rest is all =
    inr (ap (is_mark p.OpenParen) (front tokens rest (spell (tree.MeasureOp pos operator type)) all).0)
opens (tree.Cast pos type operand) scope tokens rest is all = absurd (omega (arith, is.0))
opens (tree.InfixOp pos operator left right) scope tokens rest is all =
    absurd (let h = infix_low operator in omega (arith, is.0))
opens (tree.Cond pos test then else) scope tokens rest is all = absurd (omega (arith, is.0))

paren_expr_is : (e : Expr) (scope : Scope) → IsGrouped e → IsExpr e scope unary → IsExpr e scope postfix
paren_expr_is (tree.Paren inner) scope g is = is
paren_expr_is (tree.Index pos array index) scope g is = (omega arith, is.1, is.2)
paren_expr_is (tree.Call pos function arguments) scope g is = (omega arith, is.1, is.2)
paren_expr_is (tree.Member pos access whole x) scope g is = (omega arith, is.1)
paren_expr_is (tree.PostfixOp pos operator operand) scope g is = (omega arith, is.1)
paren_expr_is e scope g is = absurd g

-- ---- what follows a type name in parentheses

ends_type : (tokens : List Token) → next_body tokens ≡ Some (lexeme.Mark p.CloseParen) → EndsDeclarator tokens
    × (ends_specifiers (next_body tokens) ≡ true)
ends_type tokens e = (ap (λ o. begins_declarator form.Parameter o || is_some (qualifier_of o)) e, ap ends_specifiers e)

-- an operand of operators between operands
abbrev pub IsOperand : Expr → Type 0
IsOperand (tree.InfixOp pos operator left right) = ⊥
IsOperand (tree.Cond pos test then else) = ⊥
IsOperand _ = Unit {0}

module _ (k : ℕ) (low : Parsers) (full : AllFull k low) where
  -- behind the opening parenthesis
  type_measure_again : (scope : Scope) (pos : Pos) (operator : Measure) (type : TypeName) (tokens rest : List Token)
      → IsTypeName type scope → type_name_height type ≤ k
      → Takes tokens (spell_type_name type ++ mark p.CloseParen ∷ []) rest
      → type_measure k low scope operator pos tokens ≡ Found (tree.MeasureOp pos operator type) rest
  unfolding type_measure
  type_measure_again scope pos operator type tokens rest is high all =
      let both = takes_parted tokens rest (spell_type_name type) (mark p.CloseParen ∷ []) all in
      let g = front both.mid rest (mark p.CloseParen ∷ []) both.two in
      let ends = ends_type both.mid g.0 in
      then_read _ _ type both.mid _ (full.type_name scope type tokens both.mid is high ends.0 ends.1 both.one)
      (expect_again (is_mark p.CloseParen) _ both.mid _ _ refl g.0
      (ap (λ ts. Found (tree.MeasureOp pos operator type) ts) g.2))

  cast_again : (scope : Scope) (pos : Pos) (type : TypeName) (operand : Expr) (tokens rest : List Token)
      → IsTypeName type scope → IsExpr operand (scope ++ type_name_adds type) cast → type_name_height type ≤ k
      → height operand ≤ k → EndsExpr cast rest
      → Takes tokens (spell_type_name type ++ mark p.CloseParen ∷ spell operand) rest
      → cast_on k low scope pos tokens ≡ Found (tree.Cast pos type operand) rest
  unfolding cast_on
  cast_again scope pos type operand tokens rest is fits high also ends all =
      let both = takes_parted tokens rest (spell_type_name type) (mark p.CloseParen ∷ spell operand) all in
      let g = front both.mid rest (mark p.CloseParen ∷ spell operand) both.two in
      let closed = ends_type both.mid g.0 in
      then_read _ _ type both.mid _ (full.type_name scope type tokens both.mid is high closed.0 closed.1 both.one)
      (expect_again (is_mark p.CloseParen) _ both.mid _ _ refl g.0
      (then_read _ _ operand rest _ (full.expr (scope ++ type_name_adds type) cast operand (tail both.mid) rest
      (omega arith) fits also ends g.2) refl))

  size_again : (scope : Scope) (pos : Pos) (operand : Expr) (tokens rest : List Token) → IsExpr operand scope unary
      → height operand ≤ k → EndsExpr unary rest → Takes tokens (spell operand) rest
      → size k low scope pos tokens ≡ Found (tree.PrefixOp pos prefix.SizeExpr operand) rest
  unfolding size size_behind_paren
  size_again scope pos operand [] rest is high ends all = by (opens operand scope [] rest is all)
    where
      by : Opens operand [] scope → size k low scope pos [] ≡ Found (tree.PrefixOp pos prefix.SizeExpr operand) rest
      by (inl o) = absurd (let e = o.paren in cc)
      by (inr e) = then_read _ _ operand rest _
          (full.expr scope unary operand [] rest (omega arith) is high ends all) refl
  size_again scope pos operand (open_token ∷ tokens) rest is high ends all =
      by (opens operand scope (open_token ∷ tokens) rest is all)
    where
      by : Opens operand (open_token ∷ tokens) scope → size k low scope pos (open_token ∷ tokens)
          ≡ Found (tree.PrefixOp pos prefix.SizeExpr operand) rest
      by (inl o) = chosen_first (is_mark p.OpenParen (Some open_token.body)) _ _ (open_token ∷ tokens) _
          (ap (is_mark p.OpenParen) o.paren)
          (chosen_second (begins_type scope (next_body tokens)) _ _ tokens _ o.no_type
          (then_read _ _ operand rest _
          (full.paren_expr scope operand open_token tokens rest o.group (paren_expr_is operand scope o.group is)
          high ends all) refl))
      by (inr e) = chosen_second (is_mark p.OpenParen (Some open_token.body)) _ _ (open_token ∷ tokens) _ e
          (then_read _ _ operand rest _ (full.expr scope unary operand (open_token ∷ tokens) rest (omega arith) is
          high ends all) refl)

  -- ---- operators before an operand

  measure_again : (operator : Measure) (scope : Scope) (level : ℕ) (pos : Pos) (type : TypeName)
      (tokens rest : List Token) → IsTypeName type scope → type_name_height type ≤ k
      → Takes tokens (word_at pos (measure_word operator) ∷ mark p.OpenParen ∷ spell_type_name type
      ++ mark p.CloseParen ∷ []) rest → unary_at k low scope level tokens
      ≡ Found (tree.MeasureOp pos operator type) rest
  unfolding unary_at size size_behind_paren alignment
  measure_again measure.SizeType scope level pos type tokens rest is high all =
      let behind = spell_type_name type ++ mark p.CloseParen ∷ [] in
      let f = front tokens rest (word_at pos w.Sizeof ∷ mark p.OpenParen ∷ behind) all in
      let g = front (tail tokens) rest (mark p.OpenParen ∷ behind) f.2 in
      let some : 0 < k = let h = type_name_high type in omega arith in
      let both = takes_parted (tail (tail tokens)) rest (spell_type_name type) (mark p.CloseParen ∷ []) g.2 in
      let begins = first_seen true scope (tail (tail tokens)) both.mid (spell_type_name type)
      (first_type_name type scope is) both.one in
      read_at (unary_by k low scope level) tokens pos _ _ f.1 f.0
      (deeper_again k _ tokens _ some
      (chosen_first (is_mark p.OpenParen (next_body (tail tokens))) _ _ (tail tokens) _ (ap (is_mark p.OpenParen) g.0)
      (chosen_first (begins_type scope (next_body (tail (tail tokens)))) _ _ (tail (tail tokens)) _ begins
      (type_measure_again scope pos measure.SizeType type (tail (tail tokens)) rest is high g.2))))
  measure_again measure.AlignType scope level pos type tokens rest is high all =
      let behind = spell_type_name type ++ mark p.CloseParen ∷ [] in
      let f = front tokens rest (word_at pos w.Alignof ∷ mark p.OpenParen ∷ behind) all in
      let g = front (tail tokens) rest (mark p.OpenParen ∷ behind) f.2 in
      let some : 0 < k = let h = type_name_high type in omega arith in
      read_at (unary_by k low scope level) tokens pos _ _ f.1 f.0
      (deeper_again k _ tokens _ some
      (expect_again (is_mark p.OpenParen) _ (tail tokens) _ _ refl g.0
      (type_measure_again scope pos measure.AlignType type (tail (tail tokens)) rest is high g.2)))

  -- every operator but `sizeof` is read in one way
  IsPlain : Prefix → Type 0
  IsPlain operator = (scope : Scope) (level : ℕ) (pos : Pos) (tokens : List Token)
      → unary_by k low scope level pos (Some (prefix_token operator)) tokens
      ≡ prefix_expr k low scope pos (Some operator) tokens

  plain_again : (operator : Prefix) (scope : Scope) (level : ℕ) (pos : Pos) (operand : Expr) (tokens rest
      : List Token) → IsPlain operator → IsExpr operand scope (operand_level operator)
      → operand_level operator ≤ unary → height operand ≤ k → EndsExpr (operand_level operator) rest
      → Takes tokens (token_at pos (prefix_token operator) ∷ spell operand) rest
      → unary_at k low scope level tokens ≡ Found (tree.PrefixOp pos operator operand) rest
  unfolding unary_at prefix_expr IsPlain
  plain_again operator scope level pos operand tokens rest plain is low_level high ends all =
      let f = front tokens rest (token_at pos (prefix_token operator) ∷ spell operand) all in
      let some : 0 < k = let h = expr_high operand in omega arith in
      read_at (unary_by k low scope level) tokens pos _ _ f.1 f.0
      (plain scope level pos tokens
      ∙ deeper_again k _ tokens _ some
      (then_read _ _ operand rest _ (full.expr scope (operand_level operator) operand (tail tokens) rest
      low_level is high ends f.2) refl))

  prefix_again : (operator : Prefix) (scope : Scope) (level : ℕ) (pos : Pos) (operand : Expr) (tokens rest
      : List Token) → IsExpr operand scope (operand_level operator) → height operand ≤ k → EndsExpr unary rest
      → Takes tokens (token_at pos (prefix_token operator) ∷ spell operand) rest
      → unary_at k low scope level tokens ≡ Found (tree.PrefixOp pos operator operand) rest
  unfolding unary_at IsPlain
  prefix_again prefix.SizeExpr scope level pos operand tokens rest is high ends all =
      let f = front tokens rest (token_at pos (prefix_token prefix.SizeExpr) ∷ spell operand) all in
      let some : 0 < k = let h = expr_high operand in omega arith in
      read_at (unary_by k low scope level) tokens pos _ _ f.1 f.0
      (deeper_again k _ tokens _ some (size_again scope pos operand (tail tokens) rest is high ends f.2))
  prefix_again prefix.PreInc scope level pos operand tokens rest is high ends all =
      plain_again prefix.PreInc scope level pos operand tokens rest (λ scope level pos tokens. refl) is
      (omega arith) high ends all
  prefix_again prefix.PreDec scope level pos operand tokens rest is high ends all =
      plain_again prefix.PreDec scope level pos operand tokens rest (λ scope level pos tokens. refl) is
      (omega arith) high ends all
  prefix_again prefix.AddressOf scope level pos operand tokens rest is high ends all =
      plain_again prefix.AddressOf scope level pos operand tokens rest (λ scope level pos tokens. refl) is
      (omega arith) high (ends_high unary cast rest (omega arith) ends) all
  prefix_again prefix.Deref scope level pos operand tokens rest is high ends all =
      plain_again prefix.Deref scope level pos operand tokens rest (λ scope level pos tokens. refl) is (omega arith)
      high (ends_high unary cast rest (omega arith) ends) all
  prefix_again prefix.Plus scope level pos operand tokens rest is high ends all =
      plain_again prefix.Plus scope level pos operand tokens rest (λ scope level pos tokens. refl) is (omega arith)
      high (ends_high unary cast rest (omega arith) ends) all
  prefix_again prefix.Minus scope level pos operand tokens rest is high ends all =
      plain_again prefix.Minus scope level pos operand tokens rest (λ scope level pos tokens. refl) is (omega arith)
      high (ends_high unary cast rest (omega arith) ends) all
  prefix_again prefix.Flip scope level pos operand tokens rest is high ends all =
      plain_again prefix.Flip scope level pos operand tokens rest (λ scope level pos tokens. refl) is (omega arith)
      high (ends_high unary cast rest (omega arith) ends) all
  prefix_again prefix.Not scope level pos operand tokens rest is high ends all =
      plain_again prefix.Not scope level pos operand tokens rest (λ scope level pos tokens. refl) is (omega arith)
      high (ends_high unary cast rest (omega arith) ends) all

  -- ---- all of them

  pub unary_full : (e : Expr) (scope : Scope) (level : ℕ) (tokens rest : List Token) → IsOperand e → level ≤ unary
      → IsExpr e scope level → height e ≤ suc k → EndsExpr unary rest → Takes tokens (spell e) rest
      → unary_at k low scope level tokens ≡ Found e rest
  unfolding unary_at inside
  unary_full (tree.PrefixOp pos operator operand) scope level tokens rest one below is high ends all =
      prefix_again operator scope level pos operand tokens rest is.1 (omega arith) ends all
  unary_full (tree.MeasureOp pos operator type) scope level tokens rest one below is high ends all =
      measure_again operator scope level pos type tokens rest is.1 (omega arith) all
  unary_full (tree.Cast pos type operand) scope level tokens rest one below is high ends all =
      let f = front tokens rest (spell (tree.Cast pos type operand)) all in
      let some : 0 < k = let h = expr_high operand in omega arith in
      let both = takes_parted (tail tokens) rest (spell_type_name type) (mark p.CloseParen ∷ spell operand) f.2 in
      let begins = first_seen true scope (tail tokens) both.mid (spell_type_name type)
      (first_type_name type scope is.1) both.one in
      read_at (unary_by k low scope level) tokens pos _ _ f.1 f.0
      (deeper_again k _ tokens _ some
      (chosen_first (begins_type scope (next_body (tail tokens))) _ _ (tail tokens) _ begins
      (chosen_first (nat_le level cast) _ _ (tail tokens) _ (le-leb level cast is.0)
      (cast_again scope pos type operand (tail tokens) rest is.1 is.2 (omega arith) (omega arith)
      (ends_high unary cast rest (omega arith) ends) f.2))))
  unary_full (tree.InfixOp pos operator left right) scope level tokens rest one below is high ends all = absurd one
  unary_full (tree.Cond pos test then else) scope level tokens rest one below is high ends all = absurd one
  unary_full (tree.Const pos constant) scope level tokens rest one below is high ends all =
      postfix_full k low full scope level (tree.Const pos constant) tokens rest is high ends all
  unary_full (tree.Id pos x) scope level tokens rest one below is high ends all =
      postfix_full k low full scope level (tree.Id pos x) tokens rest is high ends all
  unary_full (tree.Text pos text) scope level tokens rest one below is high ends all =
      postfix_full k low full scope level (tree.Text pos text) tokens rest is high ends all
  unary_full (tree.Paren inner) scope level tokens rest one below is high ends all =
      postfix_full k low full scope level (tree.Paren inner) tokens rest is high ends all
  unary_full (tree.Index pos array index) scope level tokens rest one below is high ends all =
      postfix_full k low full scope level (tree.Index pos array index) tokens rest (
        omega arith,
        is.1,
        is.2,
      ) high ends all
  unary_full (tree.Call pos function arguments) scope level tokens rest one below is high ends all =
      postfix_full k low full scope level (tree.Call pos function arguments) tokens rest (
        omega arith,
        is.1,
        is.2,
      ) high ends all
  unary_full (tree.Member pos access whole x) scope level tokens rest one below is high ends all =
      postfix_full k low full scope level (tree.Member pos access whole x) tokens rest (omega arith, is.1) high ends all
  unary_full (tree.PostfixOp pos operator operand) scope level tokens rest one below is high ends all =
      postfix_full k low full scope level (tree.PostfixOp pos operator operand) tokens rest (
        omega arith,
        is.1,
      ) high ends all
