-- What stands around each part of a statement.
use Rattle.std.proofs.Common.{◌≡◌, ℕ, suc, max, List, [], ◌∷◌, ◌++◌, Option, Some, None, refl, sym, ap, append_assoc}
use Rattle.std.proofs.Common.{append-nil, arith}
use Rattle.critical_table.specs.declared.pos.Pos.{Pos}
use Rattle.c_lexer.specs.declared.punct.Punct.{Punct}
use Rattle.c_lexer.specs.declared.punct.Punct.TheVariants as p
use Rattle.c_lexer.specs.declared.word.Word.TheVariants as w
use Rattle.c_syntax.specs.declared.spelled.Spelled.{Spelled}
use Rattle.c_syntax.specs.Height.{height}
use Rattle.c_syntax.specs.HeightUnit.{optional_height, for_init_height, statement_height, block_items_height}
use Rattle.c_syntax.specs.HeightUnit.{switch_items_height}
use Rattle.c_syntax.specs.Levels.{expression}
use Rattle.c_syntax.specs.Scopes.{Scope, expr_adds}
use Rattle.c_syntax.specs.ScopesUnit.{optional_adds, for_init_adds}
use Rattle.c_syntax.specs.Spelling.{spell}
use Rattle.c_syntax.specs.SpellingUnit.{spell_optional, spell_for_init, spell_controlling, spell_statement}
use Rattle.c_syntax.specs.SpellingUnit.{spell_block_items, spell_switch_items}
use Rattle.c_syntax.specs.Tokens.{mark, word, word_at}
use Rattle.c_syntax.specs.Tree.{Expr}
use Rattle.c_syntax.specs.TreeUnit as unit
use Rattle.c_syntax.specs.TreeUnit.{ForInit, Statement}
use Rattle.c_syntax.specs.WellFormed.{IsExpr}
use Rattle.c_syntax.specs.WellFormedUnit.{IsOptional, IsForInit, IsClosed, IsStatement, AreBlockItems, AreSwitchItems}
use Rattle.c_reading.proofs.Viable.Contexts.{Completed, Context}
use Rattle.c_reading.proofs.Viable.Started.{least_expr}

-- the statement that completes what wants one
abbrev pub empty : Statement
empty = unit.ExprStmt None

-- the empty statement is one of the least height
pub no_statement : (scope : Scope) (k : ℕ)
    → Completed (λ one. IsStatement one scope) statement_height spell_statement (suc k) []
no_statement scope k = record {
  node = empty;
  more = mark p.Semicolon ∷ [];
  fits = tt;
  within = omega arith;
  parts =
      refl;
}

abbrev pub InStatement : {A : Type 0} → (A → Type 0) → (A → ℕ) → (A → List Spelled) → Scope → ℕ → List Spelled → Type 0
InStatement Fits tall spelled scope =
    Context Fits tall spelled (λ one. IsStatement one scope) statement_height spell_statement (λ j. suc j)

-- ---- the parts of a spelling, grouped otherwise

last_part : (a b : List Spelled) → a ++ b ≡ a ++ (b ++ [])
last_part a b = ap (λ z. a ++ z) (sym (append-nil b))

split_at : (a : List Spelled) (x : Spelled) (b c : List Spelled) → a ++ x ∷ b ++ c ≡ a ++ x ∷ [] ++ (b ++ c)
split_at a x b c = simp append_assoc

split_last : (a : List Spelled) (x : Spelled) (b : List Spelled) → a ++ x ∷ b ≡ a ++ x ∷ [] ++ (b ++ [])
split_last a x b = simp (append_assoc, append-nil)

step_parts : (a b c d : List Spelled) (x y : Spelled)
    → a ++ b ++ x ∷ c ++ y ∷ [] ++ d ≡ a ++ (b ++ x ∷ []) ++ (c ++ y ∷ [] ++ d)
step_parts a b c d x y = simp append_assoc

body_parts : (a b c d : List Spelled) (x y : Spelled)
    → a ++ b ++ x ∷ c ++ y ∷ [] ++ d ≡ a ++ (b ++ x ∷ []) ++ (c ++ y ∷ []) ++ (d ++ [])
body_parts a b c d x y = simp (append_assoc, append-nil)

-- ---- an expression or none and a mark, and an expression in parentheses

-- an expression or none, up to its mark
abbrev pub spell_up_to : Punct → Option Expr → List Spelled
spell_up_to m e = spell_optional e ++ mark m ∷ []

abbrev InOptional : Punct → Scope → List Spelled → ℕ → Type 0
InOptional m scope front least = InStatement (λ e. IsOptional e scope) optional_height (spell_up_to m) scope least front

-- each statement around a part that stops: what completes it, by the part
pub expression_statement : (scope : Scope) → InOptional p.Semicolon scope [] 0
expression_statement scope = record {
  make = λ e. unit.ExprStmt e;
  behind = [];
  fits = λ e fits. fits;
  within =
      λ e j others low. omega arith;
  spells = λ e. sym (append-nil (spell_up_to p.Semicolon e));
}

pub some_statement : (scope : Scope) → InStatement (λ e. IsExpr e scope expression) height spell scope 0 []
some_statement scope = record {
  make = λ e. unit.ExprStmt (Some e);
  behind = mark p.Semicolon ∷ [];
  fits =
      λ e fits. fits;
  within = λ e j others low. omega arith;
  spells = λ e. refl;
}

pub returned : (scope : Scope) (pos : Pos) → InOptional p.Semicolon scope (word_at pos w.Return ∷ []) 0
returned scope pos = record {
  make = λ e. unit.Return pos e;
  behind = [];
  fits = λ e fits. fits;
  within =
      λ e j others low. omega arith;
  spells = λ e. simp append-nil;
}

abbrev InTest : Scope → List Spelled → ℕ → Type 0
InTest scope front least = InStatement (λ e. IsExpr e scope expression) height spell_controlling scope least front

pub if_test : (scope : Scope) (pos : Pos) → InTest scope (word_at pos w.If ∷ []) 1
if_test scope pos = record {
  make = λ e. unit.If pos e empty;
  behind = spell_statement empty;
  fits =
      λ e fits. (fits, tt);
  within = λ e j others low. omega arith;
  spells = λ e. refl;
}

pub switch_test : (scope : Scope) (pos : Pos) → InTest scope (word_at pos w.Switch ∷ []) 0
switch_test scope pos =
    record {
      make = λ e. unit.Switch pos e unit.NoSwitchItem;
      behind =
          mark p.OpenBrace ∷ mark p.CloseBrace ∷ [];
      fits = λ e fits. (fits, tt);
      within =
          λ e j others low. omega arith;
      spells =
          λ e. append_assoc (word_at pos w.Switch ∷ spell_controlling e) (mark p.OpenBrace ∷ [])
          (mark p.CloseBrace ∷ []);
    }

pub while_test : (scope : Scope) (pos : Pos) → InTest scope (word_at pos w.While ∷ []) 1
while_test scope pos = record {
  make = λ e. unit.While pos e empty;
  behind = spell_statement empty;
  fits =
      λ e fits. (fits, tt);
  within = λ e j others low. omega arith;
  spells = λ e. refl;
}

pub do_test : (scope : Scope) (pos : Pos) (body : Statement) → IsStatement body scope
    → InTest scope (word_at pos w.Do ∷ spell_statement body ++ word w.While ∷ []) (statement_height body)
do_test scope pos body is = record {
  make = λ e. unit.Do pos body e;
  behind = mark p.Semicolon ∷ [];
  fits =
      λ e fits. (is, fits);
  within = λ e j others low. omega arith;
  spells =
      λ e. split_at (word_at pos w.Do ∷ spell_statement body) (word w.While) (spell_controlling e)
      (mark p.Semicolon ∷ []);
}

-- ---- statements in statements

abbrev InBody : Scope → Scope → List Spelled → ℕ → Type 0
InBody inner scope front least =
    InStatement (λ one. IsStatement one inner) statement_height spell_statement scope least front

pub if_then : (scope : Scope) (pos : Pos) (test : Expr) → IsExpr test scope expression
    → InBody (scope ++ expr_adds test) scope (word_at pos w.If ∷ spell_controlling test) (height test)
if_then scope pos test is =
    record {
      make = λ then. unit.If pos test then;
      behind = [];
      fits = λ then fits. (is, fits);
      within =
          λ then j others low. omega arith;
      spells =
          λ then. last_part (word_at pos w.If ∷ spell_controlling test) (spell_statement then);
    }

pub if_else : (scope : Scope) (pos : Pos) (test : Expr) (then : Statement) → IsExpr test scope expression
    → IsStatement then (scope ++ expr_adds test) → IsClosed then
    → InBody (scope ++ expr_adds test) scope ((word_at pos w.If ∷ spell_controlling test ++ spell_statement then)
    ++ word w.Else ∷ []) (max (height test) (statement_height then))
if_else scope pos test then is one closed = record {
  make = λ else. unit.IfElse pos test then else;
  behind = [];
  fits = λ else fits. (is, one, closed, fits);
  within = λ else j others low. omega arith;
  spells = λ else. split_last (word_at pos w.If ∷ spell_controlling test ++ spell_statement then) (word w.Else)
      (spell_statement else);
}

pub while_body : (scope : Scope) (pos : Pos) (test : Expr) → IsExpr test scope expression
    → InBody (scope ++ expr_adds test) scope (word_at pos w.While ∷ spell_controlling test) (height test)
while_body scope pos test is = record {
  make = λ body. unit.While pos test body;
  behind = [];
  fits =
      λ body fits. (is, fits);
  within = λ body j others low. omega arith;
  spells =
      λ body. last_part (word_at pos w.While ∷ spell_controlling test) (spell_statement body);
}

pub do_body : (scope : Scope) (pos : Pos) → InBody scope scope (word_at pos w.Do ∷ []) 1
do_body scope pos = record {
  make = λ body. unit.Do pos body least_expr;
  behind = word w.While ∷ spell_controlling least_expr ++ mark p.Semicolon ∷ [];
  fits = λ body fits. (fits, tt);
  within = λ body j others low. omega arith;
  spells = λ body. simp append_assoc;
}

-- ---- items in braces

pub block_items_of : (scope : Scope)
    → InStatement (λ all. AreBlockItems all scope) block_items_height spell_block_items scope 0 (mark p.OpenBrace ∷ [])
block_items_of scope = record {
  make = λ all. unit.Block all;
  behind = mark p.CloseBrace ∷ [];
  fits =
      λ all fits. fits;
  within = λ all j others low. omega arith;
  spells = λ all. refl;
}

pub switch_body : (scope : Scope) (pos : Pos) (test : Expr) → IsExpr test scope expression
    → InStatement (λ all. AreSwitchItems all (scope ++ expr_adds test)) switch_items_height spell_switch_items scope
    (height test) ((word_at pos w.Switch ∷ spell_controlling test) ++ mark p.OpenBrace ∷ [])
switch_body scope pos test is = record {
  make = λ all. unit.Switch pos test all;
  behind = mark p.CloseBrace ∷ [];
  fits = λ all fits. (is, fits);
  within = λ all j others low. omega arith;
  spells = λ all. simp append_assoc;
}

-- ---- parts of a for

abbrev for_front : Pos → List Spelled
for_front pos = word_at pos w.For ∷ mark p.OpenParen ∷ []

pub for_init_of : (scope : Scope) (pos : Pos)
    → InStatement (λ one. IsForInit one scope) for_init_height spell_for_init scope 1 (for_front pos)
for_init_of scope pos = record {
  make = λ init. unit.For pos init None None empty;
  behind = mark p.Semicolon ∷ mark p.CloseParen ∷ mark p.Semicolon ∷ [];
  fits = λ init fits. (fits, tt, tt, tt);
  within = λ init j others low. omega arith;
  spells = λ init. simp append_assoc;
}

module _ (scope : Scope) (pos : Pos) (init : ForInit) (is : IsForInit init scope) where
  abbrev tested : Scope
  tested = scope ++ for_init_adds init

  pub for_test : InStatement (λ e. IsOptional e tested) optional_height (spell_up_to p.Semicolon) scope
      (max (for_init_height init) 1) (for_front pos ++ spell_for_init init)
  for_test = record {
    make = λ e. unit.For pos init e None empty;
    behind = mark p.CloseParen ∷ mark p.Semicolon ∷ [];
    fits = λ e fits. (is, fits, tt, tt);
    within = λ e j others low. omega arith;
    spells = λ e. simp append_assoc;
  }

  module _ (test : Option Expr) (is_test : IsOptional test tested) where
    pub for_step : InStatement (λ e. IsOptional e (tested ++ optional_adds test)) optional_height
        (spell_up_to p.CloseParen) scope (max (max (for_init_height init) (optional_height test)) 1)
        ((for_front pos ++ spell_for_init init) ++ spell_up_to p.Semicolon test)
    for_step = record {
      make = λ e. unit.For pos init test e empty;
      behind = mark p.Semicolon ∷ [];
      fits = λ e fits. (is, is_test, fits, tt);
      within = λ e j others low. omega arith;
      spells = λ e. step_parts (for_front pos ++ spell_for_init init) (spell_optional test) (spell_optional e)
          (spell_statement empty) (mark p.Semicolon) (mark p.CloseParen);
    }

    pub for_body : (step : Option Expr) → IsOptional step (tested ++ optional_adds test)
        → InBody (tested ++ optional_adds test ++ optional_adds step) scope
        (((for_front pos ++ spell_for_init init) ++ spell_up_to p.Semicolon test) ++ spell_up_to p.CloseParen step)
        (max (max (for_init_height init) (optional_height test)) (optional_height step))
    for_body step is_step = record {
      make = λ body. unit.For pos init test step body;
      behind = [];
      fits = λ body fits. (is, is_test, is_step, fits);
      within = λ body j others low. omega arith;
      spells = λ body. body_parts (for_front pos ++ spell_for_init init) (spell_optional test) (spell_optional step)
          (spell_statement body) (mark p.Semicolon) (mark p.CloseParen);
    }
