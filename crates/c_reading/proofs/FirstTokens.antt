-- The first token of an expression begins one, and no type; it closes nothing.
use Rattle.std.proofs.Common.{◌≡◌, ◌<◌, ℕ, length, Bool, true, false, not, List, [], ◌∷◌, ◌++◌, Option, Some, refl}
use Rattle.std.proofs.Common.{◌∙◌, ap}
use Rattle.critical_table.specs.declared.pos.Pos.{Pos}
use Rattle.c_lexer.specs.declared.token.Token.{Token}
use Rattle.c_lexer.specs.declared.token.Body.TheVariants as lexeme
use Rattle.c_syntax.specs.declared.expression.Constant.TheVariants as constant
use Rattle.c_syntax.specs.declared.operator.Measure.{Measure}
use Rattle.c_syntax.specs.declared.operator.Measure.TheVariants as measure
use Rattle.c_syntax.specs.declared.operator.Prefix.{Prefix}
use Rattle.c_syntax.specs.declared.operator.Prefix.TheVariants as prefix
use Rattle.c_syntax.specs.declared.spelled.Spelled.{Spelled}
use Rattle.c_syntax.specs.First.{IsFirst}
use Rattle.c_syntax.specs.Operators.{prefix_token, measure_word}
use Rattle.c_reading.specs.ReadExpr.{begins_expr}
use Rattle.c_reading.specs.ReadToken.{begins_type}
use Rattle.c_reading.specs.Parser.{next_body}
use Rattle.c_syntax.specs.Scopes.{Scope}
use Rattle.c_syntax.specs.Spelling.{spell}
use Rattle.c_syntax.specs.Tokens.{spell_pieces}
use Rattle.c_syntax.specs.Tree as tree
use Rattle.c_syntax.specs.Tree.{Expr}
use Rattle.c_syntax.specs.WellFormed.{IsExpr}
use Rattle.c_reading.proofs.Full.Steps.{front}
use Rattle.c_syntax.proofs.FirstLaws.{first_expr}
use Rattle.c_reading.proofs.Takes.{Takes, takes_parted}

-- what the spelling begins with, the tokens do
pub first_seen : (begins : Bool) (scope : Scope) (tokens rest : List Token) (all : List Spelled)
    → IsFirst begins scope all → Takes tokens all rest → begins_type scope (next_body tokens) ≡ begins
first_seen begins scope tokens rest [] is all = absurd is
first_seen begins scope tokens rest (s ∷ more) is all = ap (begins_type scope) (front tokens rest (s ∷ more) all).0 ∙ is

-- and there are fewer tokens behind it
pub first_shorter : (begins : Bool) (scope : Scope) (tokens rest : List Token) (all : List Spelled)
    → IsFirst begins scope all → Takes tokens all rest → length rest < length tokens
first_shorter begins scope tokens rest [] is all = absurd is
first_shorter begins scope tokens rest (s ∷ more) is all = (front tokens rest (s ∷ more) all).3

-- the first token of an expression begins no declaration, and begins an expression
pub begins_no_type : (e : Expr) (scope : Scope) (level : ℕ) (tokens rest : List Token) → IsExpr e scope level
    → Takes tokens (spell e) rest → begins_type scope (next_body tokens) ≡ false
begins_no_type e scope level tokens rest is all =
    first_seen false scope tokens rest (spell e) (first_expr e scope level is) all

begins_prefix : (scope : Scope) (operator : Prefix) → begins_expr scope (Some (prefix_token operator)) ≡ true
begins_prefix scope prefix.PreInc = refl
begins_prefix scope prefix.PreDec = refl
begins_prefix scope prefix.AddressOf = refl
begins_prefix scope prefix.Deref = refl
begins_prefix scope prefix.Plus = refl
begins_prefix scope prefix.Minus = refl
begins_prefix scope prefix.Flip = refl
begins_prefix scope prefix.Not = refl
begins_prefix scope prefix.SizeExpr = refl

begins_measure : (scope : Scope) (operator : Measure)
    → begins_expr scope (Some (lexeme.Word (measure_word operator))) ≡ true
begins_measure scope measure.SizeType = refl
begins_measure scope measure.AlignType = refl

begins_pieces : (scope : Scope) (place : Option Pos) (wide : Bool) (pieces : List _) (tokens rest : List Token)
    → (pieces ≡ [] → ⊥) → Takes tokens (spell_pieces place wide pieces) rest
    → begins_expr scope (next_body tokens) ≡ true
begins_pieces scope place wide [] tokens rest some all = absurd (some refl)
begins_pieces scope place wide (units ∷ more) tokens rest some all =
    ap (begins_expr scope) (front tokens rest (spell_pieces place wide (units ∷ more)) all).0

pub expr_begins : (e : Expr) (scope : Scope) (level : ℕ) (tokens rest : List Token) → IsExpr e scope level
    → Takes tokens (spell e) rest → begins_expr scope (next_body tokens) ≡ true
expr_begins (tree.Const pos (constant.Number number)) scope level tokens rest is all =
    ap (begins_expr scope) (front tokens rest (spell (tree.Const pos (constant.Number number))) all).0
expr_begins (tree.Const pos (constant.Character value wide)) scope level tokens rest is all =
    ap (begins_expr scope) (front tokens rest (spell (tree.Const pos (constant.Character value wide))) all).0
expr_begins (tree.Id pos x) scope level tokens rest is all =
    ap (begins_expr scope) (front tokens rest (spell (tree.Id pos x)) all).0 ∙ ap not is
expr_begins (tree.Text pos text) scope level tokens rest is all =
    begins_pieces scope (Some pos) text.wide text.pieces tokens rest is all
expr_begins (tree.Paren inner) scope level tokens rest is all =
    ap (begins_expr scope) (front tokens rest (spell (tree.Paren inner)) all).0
expr_begins (tree.Index pos array index) scope level tokens rest is all =
    let both = takes_parted tokens rest (spell array ++ _) _ all in
    let front = takes_parted tokens both.mid (spell array) _ both.one in
    expr_begins array scope _ tokens front.mid is.1 front.one
expr_begins (tree.Call pos function arguments) scope level tokens rest is all =
    let both = takes_parted tokens rest (spell function ++ _) _ all in
    let front = takes_parted tokens both.mid (spell function) _ both.one in
    expr_begins function scope _ tokens front.mid is.1 front.one
expr_begins (tree.Member pos access whole x) scope level tokens rest is all =
    let front = takes_parted tokens rest (spell whole) _ all in
    expr_begins whole scope _ tokens front.mid is.1 front.one
expr_begins (tree.PostfixOp pos operator operand) scope level tokens rest is all =
    let front = takes_parted tokens rest (spell operand) _ all in
    expr_begins operand scope _ tokens front.mid is.1 front.one
expr_begins (tree.PrefixOp pos operator operand) scope level tokens rest is all =
    ap (begins_expr scope) (front tokens rest (spell (tree.PrefixOp pos operator operand)) all).0
    ∙ begins_prefix scope operator
expr_begins (tree.MeasureOp pos operator type) scope level tokens rest is all =
    ap (begins_expr scope) (front tokens rest (spell (tree.MeasureOp pos operator type)) all).0
    ∙ begins_measure scope operator
expr_begins (tree.Cast pos type operand) scope level tokens rest is all =
    ap (begins_expr scope) (front tokens rest (spell (tree.Cast pos type operand)) all).0
expr_begins (tree.InfixOp pos operator left right) scope level tokens rest is all =
    let front = takes_parted tokens rest (spell left) _ all in expr_begins left scope _ tokens front.mid is.1 front.one
expr_begins (tree.Cond pos test then else) scope level tokens rest is all =
    let both = takes_parted tokens rest (spell test ++ _) _ all in
    let front = takes_parted tokens both.mid (spell test) _ both.one in
    expr_begins test scope _ tokens front.mid is.1 front.one
