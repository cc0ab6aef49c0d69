-- What is read between the braces of a block or of a switch are its items.
use Rattle.std.proofs.Common.{◌≡◌, ◌⊎◌, inl, inr, ℕ, List, [], ◌∷◌, true, false}
use Rattle.c_lexer.specs.declared.punct.Punct.TheVariants as p
use Rattle.c_lexer.specs.declared.token.Token.{Token}
use Rattle.c_lexer.specs.declared.word.Word.TheVariants as w
use Rattle.c_syntax.specs.declared.spelled.Spelled.{Spelled}
use Rattle.c_syntax.specs.HeightUnit.{statement_height, block_item_height, block_items_height, switch_item_height}
use Rattle.c_syntax.specs.HeightUnit.{switch_items_height}
use Rattle.c_reading.specs.Parser.{Parser, Found, ◌>>=◌, pure, expect, next_body}
use Rattle.c_reading.specs.ReadBody.{goes_item, item_run, items_with, Statements, block_with, switch_with}
use Rattle.c_reading.specs.ReadToken.{is_mark, is_word}
use Rattle.c_syntax.specs.Scopes.{Scope}
use Rattle.c_syntax.specs.SpellingUnit.{spell_statement, spell_block_item, spell_block_items, spell_switch_item}
use Rattle.c_syntax.specs.SpellingUnit.{spell_switch_items}
use Rattle.c_syntax.specs.Tokens.{mark}
use Rattle.c_syntax.specs.TreeUnit.{Statement, BlockItem, BlockItems, SwitchItem, SwitchItems}
use Rattle.c_syntax.specs.WellFormedUnit.{IsClosed, IsStatement, IsBlockItem, AreBlockItems, IsSwitchItem}
use Rattle.c_syntax.specs.WellFormedUnit.{AreSwitchItems}
use Rattle.c_reading.proofs.Sound.Steps.{moved, bind_found, mark_then}
use Rattle.c_reading.proofs.NodeLists.{NodeList, block_list, switch_list}
use Rattle.c_reading.proofs.Sound.Nodes.{nodes_sound}
use Rattle.c_reading.proofs.Sound.Law.{Listed, Sound, spelt}

-- no `else` that the statement could take follows it
abbrev pub TakesNoElse : Statement → List Token → Type 0
TakesNoElse one rest = IsClosed one ⊎ (is_word w.Else (next_body rest) ≡ false)

pub closed_then : (then : Statement) (behind : List Token) → is_word w.Else (next_body behind) ≡ true → TakesNoElse
    then behind → IsClosed then
closed_then then behind is (inl closed) = closed
closed_then then behind is (inr none) = absurd (cc (is, none))

pub record SoundStatements (k : ℕ) (r : Statements) : Type 0 where
  pub statement : (scope : Scope)
      → Sound (λ one. IsStatement one scope) statement_height spell_statement k (r.statement scope)
  pub no_else : (scope : Scope) (tokens rest : List Token) (one : Statement)
      → r.statement scope tokens ≡ Found one rest → TakesNoElse one rest
  pub block_item : (scope : Scope)
      → Sound (λ one. IsBlockItem one scope) block_item_height spell_block_item k (r.block_item scope)
  pub switch_item : (scope : Scope)
      → Sound (λ one. IsSwitchItem one scope) switch_item_height spell_switch_item k (r.switch_item scope)

-- ---- the items between the braces of a block and of a switch

module _ {A L : Type 0} {Fits : A → Scope → Type 0} {tall : A → ℕ} {spelled : A → List Spelled} {adds : A
    → Scope} {AllFit : L → Scope → Type 0} {tallest : L → ℕ} {all_spelled : L → List Spelled} {make : List A → L}
    (list : NodeList Fits tall spelled adds AllFit tallest all_spelled make) (k : ℕ) (item : Scope → Parser A)
    (sound : (scope : Scope) → Sound (λ one. Fits one scope) tall spelled k (item scope)) where
  items_with_sound : (scope : Scope) (tokens rest : List Token) (all : L)
      → items_with adds make item scope tokens ≡ Found all rest
      → Listed (AllFit all scope) (tallest all) k (all_spelled all) (mark p.CloseBrace ∷ []) tokens rest
  items_with_sound scope tokens rest all h =
      let x = bind_found (item_run adds item scope tokens)
      (λ all. expect (is_mark p.CloseBrace) >>= λ _. pure (make all)) all rest h in
      let c = mark_then p.CloseBrace (pure (make x.value)) x.mid rest all x.two in
      let y = nodes_sound list k goes_item item sound scope tokens x.mid x.value x.one in
      moved
      (λ all rest. Listed (AllFit all scope) (tallest all) k (all_spelled all) (mark p.CloseBrace ∷ []) tokens rest)
      {a = make x.value} {tokens = c.mid} c.two
      (record { mid = x.mid; spells = spelt y; ends = c.spelt; fits = y.fits; within = y.within })

pub block_with_sound : (k : ℕ) (item : Scope → Parser BlockItem)
    → ((scope : Scope) → Sound (λ one. IsBlockItem one scope) block_item_height spell_block_item k (item scope))
    → (scope : Scope) (tokens rest : List Token) (all : BlockItems) → block_with item scope tokens ≡ Found all rest
    → Listed (AreBlockItems all scope) (block_items_height all) k (spell_block_items all) (mark p.CloseBrace ∷ [])
    tokens rest
unfolding block_with
block_with_sound = items_with_sound block_list

pub switch_with_sound : (k : ℕ) (item : Scope → Parser SwitchItem)
    → ((scope : Scope) → Sound (λ one. IsSwitchItem one scope) switch_item_height spell_switch_item k (item scope))
    → (scope : Scope) (tokens rest : List Token) (all : SwitchItems) → switch_with item scope tokens ≡ Found all rest
    → Listed (AreSwitchItems all scope) (switch_items_height all) k (spell_switch_items all)
    (mark p.CloseBrace ∷ []) tokens rest
unfolding switch_with
switch_with_sound = items_with_sound switch_list
