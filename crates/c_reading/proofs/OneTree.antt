-- No two trees have one spelling.
use Rattle.std.proofs.Common.{◌≡◌, ℕ, max, Bool, true, false, None, List, [], refl, ◌∙◌, ap, arith}
use Rattle.critical_table.specs.declared.pos.Pos.{Pos}
use Rattle.c_lexer.specs.declared.token.Token.{Token}
use Rattle.c_syntax.specs.Height.{height, type_name_height}
use Rattle.c_syntax.specs.HeightUnit.{externals_height}
use Rattle.c_syntax.specs.Levels.{expression}
use Rattle.c_reading.specs.Parser.{Outcome, Found}
use Rattle.c_reading.specs.ReadToken.{is_literal}
use Rattle.c_reading.specs.ReadSpecifier.{parsers}
use Rattle.c_reading.specs.ReadBody.{externals}
use Rattle.c_syntax.specs.Scopes.{Scope}
use Rattle.c_syntax.specs.Spelling.{spell, spell_type_name}
use Rattle.c_syntax.specs.SpellingUnit.{spell_tree}
use Rattle.c_syntax.specs.Tokens.{Match}
use Rattle.c_syntax.specs.Tree.{Expr, TypeName}
use Rattle.c_syntax.specs.TreeUnit.{Tree}
use Rattle.c_syntax.specs.WellFormed.{IsExpr, IsTypeName}
use Rattle.c_syntax.specs.WellFormedUnit.{IsTree}
use Rattle.c_reading.proofs.Takes.{match_takes}
use Rattle.c_reading.proofs.Full.Law.{EndsExpr}
use Rattle.c_reading.proofs.Full.Declarator.{parsers_full}
use Rattle.c_reading.proofs.Full.Unit.{externals_full}

-- nothing goes on where nothing comes
ends : (level : ℕ) → EndsExpr level []
ends level = record { no_literal = no_literal; no_postfix = λ k low left. refl; no_infix = λ k low left. refl }
  where
    no_literal : (wide : Bool) → is_literal wide None ≡ false
    no_literal true = refl
    no_literal false = refl

same_found : {A : Type 0} (g : Outcome A) (a b : A) (rest : List Token) → g ≡ Found a rest → g ≡ Found b rest → a ≡ b
same_found g a b rest one two = cc

-- both are what the tokens are read as, with nothing behind them, at a height that suffices for both
pub one_expr : (scope : Scope) (a b : Expr) (tokens : List Token) → IsExpr a scope expression
    → IsExpr b scope expression → Match tokens (spell a) → Match tokens (spell b) → a ≡ b
one_expr scope a b tokens one two spelled also =
    let k = max (height a) (height b) in
    let read = (parsers_full k).expr scope expression in
    same_found ((parsers k).expr scope expression tokens) a b []
    (read a tokens [] (omega arith) one (omega arith) (ends expression) (match_takes tokens (spell a) spelled))
    (read b tokens [] (omega arith) two (omega arith) (ends expression) (match_takes tokens (spell b) also))

pub one_type_name : (scope : Scope) (a b : TypeName) (tokens : List Token) → IsTypeName a scope → IsTypeName b scope
    → Match tokens (spell_type_name a) → Match tokens (spell_type_name b) → a ≡ b
one_type_name scope a b tokens one two spelled also =
    let k = max (type_name_height a) (type_name_height b) in
    let read = (parsers_full k).type_name scope in
    same_found ((parsers k).type_name scope tokens) a b []
    (read a tokens [] one (omega arith) refl refl (match_takes tokens (spell_type_name a) spelled))
    (read b tokens [] two (omega arith) refl refl (match_takes tokens (spell_type_name b) also))

same_tree : (a b : Tree) → a.externals ≡ b.externals → a.end ≡ b.end → a ≡ b
same_tree a b one two = ap (λ all. record { externals = all; end = a.end }) one
    ∙ ap (λ (pos : Pos). record { externals = b.externals; end = pos }) two

pub one_tree : (a b : Tree) (tokens : List Token) → IsTree a → IsTree b → Match tokens (spell_tree a)
    → Match tokens (spell_tree b) → a.end ≡ b.end → a ≡ b
one_tree a b tokens one two spelled also end =
    let k = max (externals_height a.externals) (externals_height b.externals) in
    same_tree a b (same_found (externals k tokens) a.externals b.externals []
    (externals_full k a.externals tokens one.0 one.1 (omega arith) (match_takes tokens (spell_tree a) spelled))
    (externals_full k b.externals tokens two.0 two.1 (omega arith) (match_takes tokens (spell_tree b) also))) end
