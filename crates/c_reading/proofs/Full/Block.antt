-- A block is read as it where its items are, and the expressions that stand in statements are read.
use Rattle.std.proofs.Common.{◌≡◌, ◌⊎◌, inr, ℕ, ◌≤◌, ◌<◌, List, [], ◌∷◌, ◌++◌, Bool, true, false, Option, Some, None}
use Rattle.std.proofs.Common.{refl, sym, ◌∙◌, ap, subst, arith}
use Rattle.c_lexer.specs.declared.punct.Punct.{Punct}
use Rattle.c_lexer.specs.declared.punct.Punct.TheVariants as p
use Rattle.c_lexer.specs.declared.token.Token.{Token}
use Rattle.c_lexer.specs.declared.token.Body.{Body}
use Rattle.c_lexer.specs.declared.token.Body.TheVariants as lexeme
use Rattle.c_lexer.specs.declared.word.Word.TheVariants as w
use Rattle.c_syntax.specs.declared.spelled.Spelled.{Spelled}
use Rattle.c_syntax.specs.Height.{height}
use Rattle.c_syntax.specs.HeightUnit.{optional_height, statement_height, block_item_height, block_items_height}
use Rattle.c_syntax.specs.HeightUnit.{switch_item_height, switch_items_height}
use Rattle.c_syntax.specs.Levels.{expression}
use Rattle.c_reading.specs.Parser.{Parser, Found, next_body, tail}
use Rattle.c_reading.specs.ReadBody.{begins_block_item, begins_switch_item, goes_item, items_with, Statements}
use Rattle.c_reading.specs.ReadBody.{block_with, switch_with, an_expr, optional, controlling}
use Rattle.c_reading.specs.ReadExpr.{begins_expr}
use Rattle.c_reading.specs.ReadSpecifier.{parsers}
use Rattle.c_reading.specs.ReadToken.{is_mark, is_word, begins_type}
use Rattle.c_syntax.specs.Scopes.{Scope}
use Rattle.c_syntax.specs.Spelling.{spell}
use Rattle.c_syntax.specs.SpellingUnit.{spell_optional, spell_controlling, spell_statement, spell_block_item}
use Rattle.c_syntax.specs.SpellingUnit.{spell_block_items, spell_switch_item, spell_switch_items}
use Rattle.c_syntax.specs.Tokens.{mark}
use Rattle.c_syntax.specs.Tree.{Expr}
use Rattle.c_syntax.specs.TreeUnit as unit
use Rattle.c_syntax.specs.TreeUnit.{Statement, BlockItem, BlockItems, SwitchItem, SwitchItems}
use Rattle.c_syntax.specs.WellFormed.{IsExpr}
use Rattle.c_syntax.specs.WellFormedUnit.{IsOptional, IsClosed, IsStatement, IsBlockItem, AreBlockItems, IsSwitchItem}
use Rattle.c_syntax.specs.WellFormedUnit.{AreSwitchItems}
use Rattle.c_reading.proofs.Full.Steps.{front, then_read, chosen_first, chosen_second, expect_again, expr_lower_again}
use Rattle.c_reading.proofs.Full.Steps.{Each, many_again}
use Rattle.c_reading.proofs.BodyTokens.{no_mark, no_else, takes_some, block_item_begins, switch_item_begins, item_goes}
use Rattle.c_syntax.proofs.EmptyLaws.{some_block_item, some_switch_item}
use Rattle.c_reading.proofs.Full.Ends.{ends_closed}
use Rattle.c_reading.proofs.FirstTokens.{expr_begins, begins_no_type}
use Rattle.c_reading.proofs.Full.Law.{EndsExpr}
use Rattle.c_reading.proofs.Full.Declarator.{parsers_full}
use Rattle.c_syntax.proofs.HeightLaws.{expr_high}
use Rattle.c_reading.proofs.NodeLists.{NodeList, block_list, switch_list}
use Rattle.c_reading.proofs.Takes.{Takes, takes_parted}

-- no `else` comes that the statement could take
abbrev pub MayFollow : Statement → List Token → Type 0
MayFollow one rest = IsClosed one ⊎ (is_word w.Else (next_body rest) ≡ false)

-- likewise of the statement that an item ends with, if it does
abbrev pub MayFollowItem : BlockItem → List Token → Type 0
MayFollowItem (unit.Declared declaration) rest = Unit {0}
MayFollowItem (unit.Asserted assert) rest = Unit {0}
MayFollowItem (unit.Executes statement) rest = MayFollow statement rest

abbrev pub MayFollowSwitch : SwitchItem → List Token → Type 0
MayFollowSwitch (unit.Case pos value) rest = Unit {0}
MayFollowSwitch (unit.Default pos) rest = Unit {0}
MayFollowSwitch (unit.InBlock item) rest = MayFollowItem item rest

pub record FullStatements (k : ℕ) (r : Statements) : Type 0 where
  pub statement : (scope : Scope) (one : Statement) (tokens rest : List Token) → IsStatement one scope
      → statement_height one ≤ k → MayFollow one rest → Takes tokens (spell_statement one) rest
      → r.statement scope tokens ≡ Found one rest
  pub block_item : (scope : Scope) (one : BlockItem) (tokens rest : List Token) → IsBlockItem one scope
      → block_item_height one ≤ k → MayFollowItem one rest → Takes tokens (spell_block_item one) rest
      → r.block_item scope tokens ≡ Found one rest
  pub switch_item : (scope : Scope) (one : SwitchItem) (tokens rest : List Token) → IsSwitchItem one scope
      → switch_item_height one ≤ k → MayFollowSwitch one rest → Takes tokens (spell_switch_item one) rest
      → r.switch_item scope tokens ≡ Found one rest

-- ---- marks behind an expression

pub record Closes (mark : Punct) : Type 0 where
  pub itself : is_mark mark (Some (lexeme.Mark mark)) ≡ true
  pub begins_none : (scope : Scope) → begins_expr scope (Some (lexeme.Mark mark)) ≡ false
  pub ends : (level : ℕ) (tokens : List Token) → next_body tokens ≡ Some (lexeme.Mark mark) → EndsExpr level tokens

-- what ends the expressions of statements
pub semicolon : Closes p.Semicolon
semicolon = record {
  itself = refl;
  begins_none = λ scope. refl;
  ends = λ level tokens e. ends_closed level tokens p.Semicolon e (λ k low left. refl) refl refl;
}

pub paren : Closes p.CloseParen
paren = record {
  itself = refl;
  begins_none = λ scope. refl;
  ends = λ level tokens e. ends_closed level tokens p.CloseParen e (λ k low left. refl) refl refl;
}

-- an expression or none, before its semicolon, is told from a declaration by its first token
pub optional_no_type : (e : Option Expr) (scope : Scope) (tokens mid : List Token) → IsOptional e scope
    → next_body mid ≡ Some (lexeme.Mark p.Semicolon) → Takes tokens (spell_optional e) mid
    → begins_type scope (next_body tokens) ≡ false
optional_no_type None scope tokens mid is close all = ap (λ ts. begins_type scope (next_body ts)) all
    ∙ ap (begins_type scope) close
optional_no_type (Some e) scope tokens mid is close all = begins_no_type e scope expression tokens mid is all

-- ---- the items of a block or of a switch

may_follow : (one : BlockItem) (rest : List Token) → is_word w.Else (next_body rest) ≡ false → MayFollowItem one rest
may_follow (unit.Declared one) rest none = tt
may_follow (unit.Asserted one) rest none = tt
may_follow (unit.Executes one) rest none = inr none

may_follow_switch : (one : SwitchItem) (rest : List Token) → is_word w.Else (next_body rest) ≡ false
    → MayFollowSwitch one rest
may_follow_switch (unit.Case pos value) rest none = tt
may_follow_switch (unit.Default pos) rest none = tt
may_follow_switch (unit.InBlock one) rest none = may_follow one rest none

-- how an item begins, that it has a token, and that what is no `else` may stand behind it
record ItemStarts {A : Type 0} (Fits : A → Scope → Type 0) (spelled : A → List Spelled) (begins : Scope → Option Body
    → Bool) (MayStand : A → List Token → Type 0) : Type 0 where
  pub starts : (one : A) (scope : Scope) (tokens rest : List Token) → Fits one scope → Takes tokens (spelled one) rest
      → begins scope (next_body tokens) ≡ true
  pub starts_none : (scope : Scope) → begins scope None ≡ false
  pub starts_brace : (scope : Scope) → begins scope (Some (lexeme.Mark p.CloseBrace)) ≡ false
  pub starts_else : (scope : Scope) → begins scope (Some (lexeme.Word w.Else)) ≡ false
  pub some : (one : A) (scope : Scope) → Fits one scope → spelled one ≡ [] → ⊥
  pub follows : (one : A) (rest : List Token) → is_word w.Else (next_body rest) ≡ false → MayStand one rest

block_starts : ItemStarts IsBlockItem spell_block_item begins_block_item MayFollowItem
block_starts = record {
  starts = block_item_begins;
  starts_none = λ scope. refl;
  starts_brace = λ scope. refl;
  starts_else = λ scope. refl;
  some = some_block_item;
  follows = may_follow;
}

switch_starts : ItemStarts IsSwitchItem spell_switch_item begins_switch_item MayFollowSwitch
switch_starts = record {
  starts = switch_item_begins;
  starts_none = λ scope. refl;
  starts_brace = λ scope. refl;
  starts_else = λ scope. refl;
  some = some_switch_item;
  follows = may_follow_switch;
}

module _ {A L : Type 0} {Fits : A → Scope → Type 0} {tall : A → ℕ} {spelled : A → List Spelled} {adds : A
    → Scope} {AllFit : L → Scope → Type 0} {tallest : L → ℕ} {all_spelled : L → List Spelled} {make : List A → L}
    {begins : Scope → Option Body → Bool} {MayStand : A → List Token → Type 0}
    (list : NodeList Fits tall spelled adds AllFit tallest all_spelled make)
    (item_starts : ItemStarts Fits spelled begins MayStand) where
  -- what stands in a block begins with no `else`
  items_no_else : (all : List A) (scope : Scope) (tokens rest : List Token) → AllFit (make all) scope
      → next_body rest ≡ Some (lexeme.Mark p.CloseBrace) → Takes tokens (all_spelled (make all)) rest
      → is_word w.Else (next_body tokens) ≡ false
  items_no_else [] scope tokens rest are close all =
      let same : tokens ≡ rest = subst (λ spelled. Takes tokens spelled rest) list.none_spelled all in
      ap (λ ts. is_word w.Else (next_body ts)) same ∙ ap (is_word w.Else) close
  items_no_else (first ∷ more) scope tokens rest are close all =
      let x = takes_parted tokens rest (spelled first) (all_spelled (make more))
      (subst (λ spelled. Takes tokens spelled rest) (list.more_spelled first more) all) in
      no_else (begins scope) (next_body tokens) (item_starts.starts_else scope)
      (item_starts.starts first scope tokens x.mid (list.parts_fit first more scope are).0 x.one)

  module _ (k : ℕ) (item : Scope → Parser A)
      (full : (scope : Scope) (one : A) (tokens rest : List Token) → Fits one scope → tall one ≤ k
      → MayStand one rest → Takes tokens (spelled one) rest → item scope tokens ≡ Found one rest) where
    each_item : (all : List A) (scope : Scope) (tokens rest : List Token) → AllFit (make all) scope
        → tallest (make all) ≤ k → next_body rest ≡ Some (lexeme.Mark p.CloseBrace)
        → Takes tokens (all_spelled (make all)) rest
        → Each goes_item item (λ s one. s ++ adds one) all scope tokens rest
    each_item [] scope tokens rest are high close all =
        (subst (λ spelled. Takes tokens spelled rest) list.none_spelled all, ap (goes_item scope) close)
    each_item (first ∷ more) scope tokens rest are high close all =
        let fit = list.parts_fit first more scope are in
        let x = takes_parted tokens rest (spelled first) (all_spelled (make more))
        (subst (λ spelled. Takes tokens spelled rest) (list.more_spelled first more) all) in
        let starts = item_starts.starts first scope tokens x.mid fit.0 x.one in
        let follows = item_starts.follows first x.mid
        (items_no_else more (scope ++ adds first) x.mid rest fit.1 close x.two) in (
          x.mid,
          item_goes scope (begins scope) (next_body tokens) (item_starts.starts_none scope)
              (item_starts.starts_brace scope) starts,
          full scope first tokens x.mid fit.0 (omega (arith, high, list.more_high first more)) follows x.one,
          (takes_some tokens x.mid (spelled first) (item_starts.some first scope fit.0) x.one).1,
          each_item more (scope ++ adds first) x.mid rest fit.1 (omega (arith, high, list.more_high first more)) close
              x.two,
        )

    items_again : (all : L) (scope : Scope) (tokens rest : List Token) → AllFit all scope → tallest all ≤ k
        → Takes tokens (all_spelled all ++ mark p.CloseBrace ∷ []) rest
        → items_with adds make item scope tokens ≡ Found all rest
    items_again all scope tokens rest are high takes =
        let made = sym (list.made all) in
        let x = takes_parted tokens rest (all_spelled all) (mark p.CloseBrace ∷ []) takes in
        let g = front x.mid rest (mark p.CloseBrace ∷ []) x.two in
        then_read _ _ (list.parts all) x.mid _
        (many_again goes_item item (λ s one. s ++ adds one) (list.parts all) scope tokens x.mid
        (each_item (list.parts all) scope tokens x.mid (subst (λ all. AllFit all scope) made are)
        (subst (λ all. tallest all ≤ k) made high) g.0
        (subst (λ all. Takes tokens (all_spelled all) x.mid) made x.one)))
        (expect_again (is_mark p.CloseBrace) _ x.mid _ _ refl g.0
        (ap (λ all. Found all (tail x.mid)) (list.made all) ∙ ap (λ ts. Found all ts) g.2))

module _ (k : ℕ) (low : Statements) (full : FullStatements k low) where
  pub block_again : (all : BlockItems) (scope : Scope) (tokens rest : List Token) → AreBlockItems all scope
      → block_items_height all ≤ k → Takes tokens (spell_block_items all ++ mark p.CloseBrace ∷ []) rest
      → block_with low.block_item scope tokens ≡ Found all rest
  unfolding block_with
  block_again = items_again block_list block_starts k low.block_item full.block_item

  pub switch_again : (all : SwitchItems) (scope : Scope) (tokens rest : List Token) → AreSwitchItems all scope
      → switch_items_height all ≤ k → Takes tokens (spell_switch_items all ++ mark p.CloseBrace ∷ []) rest
      → switch_with low.switch_item scope tokens ≡ Found all rest
  unfolding switch_with
  switch_again = items_again switch_list switch_starts k low.switch_item full.switch_item

  -- ---- parts of statements

  -- an expression or none before its mark, and one in parentheses, are read as that
  pub optional_again : (mark : Punct) → Closes mark → (e : Option Expr) (scope : Scope) (tokens mid : List Token)
      → IsOptional e scope → optional_height e ≤ k → next_body mid ≡ Some (lexeme.Mark mark)
      → Takes tokens (spell_optional e) mid
      → optional k low (is_mark mark) scope tokens ≡ Found e (tail mid)
  unfolding optional an_expr
  optional_again mark closes None scope tokens mid is high close all =
      chosen_first (is_mark mark (next_body tokens)) _ _ tokens _ (ap (λ ts. is_mark mark (next_body ts)) all
      ∙ ap (is_mark mark) close ∙ closes.itself) (ap (λ ts. Found None (tail ts)) all)
  optional_again mark closes (Some e) scope tokens mid is high close all =
      let begins = expr_begins e scope expression tokens mid is all in
      let some : 0 < k = let h = expr_high e in omega arith in
      let reads = (parsers_full k).expr scope expression e tokens mid (omega arith) is high
      (closes.ends expression mid close) all in
      chosen_second (is_mark mark (next_body tokens)) _ _ tokens _
      (no_mark mark (begins_expr scope) (next_body tokens) (closes.begins_none scope) begins)
      (then_read _ _ e mid _ (expr_lower_again scope k ((parsers k).expr scope expression) tokens _ begins some
      reads) (expect_again (is_mark mark) _ mid _ _ closes.itself close refl))

  pub controlling_again : (test : Expr) (scope : Scope) (tokens rest : List Token) → IsExpr test scope expression
      → height test ≤ k → Takes tokens (spell_controlling test) rest → controlling k low scope tokens ≡ Found test rest
  unfolding controlling
  controlling_again test scope tokens rest is high all =
      let x = takes_parted tokens rest (mark p.OpenParen ∷ spell test) (mark p.CloseParen ∷ []) all in
      let f = front tokens x.mid (mark p.OpenParen ∷ spell test) x.one in
      let g = front x.mid rest (mark p.CloseParen ∷ []) x.two in
      expect_again (is_mark p.OpenParen) _ tokens _ _ refl f.0
      (then_read _ _ test x.mid _ ((parsers_full k).expr scope expression test (tail tokens) x.mid (omega arith) is
      high (paren.ends expression x.mid g.0) f.2)
      (expect_again (is_mark p.CloseParen) _ x.mid _ _ refl g.0 (ap (λ ts. Found test ts) g.2)))
