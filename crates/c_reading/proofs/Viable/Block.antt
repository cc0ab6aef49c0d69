-- Where the reading of the items between the braces of a block or of a switch stops, some begin with what was read.
use Rattle.std.proofs.Common.{◌≡◌, inl, inr, ℕ, ◌<◌, List, arith}
use Rattle.c_lexer.specs.declared.punct.Punct.TheVariants as p
use Rattle.c_lexer.specs.declared.token.Token.{Token}
use Rattle.c_syntax.specs.declared.spelled.Spelled.{Spelled}
use Rattle.c_syntax.specs.Begin.{Begins, BeginsStatement, BeginsBlockItem, BeginsSwitchItem}
use Rattle.c_syntax.specs.HeightUnit.{block_item_height, block_items_height, switch_item_height, switch_items_height}
use Rattle.c_reading.specs.Parser.{Why, Unfit, Parser, Stopped, ◌>>=◌, pure, expect}
use Rattle.c_reading.specs.ReadBody.{goes_item, item_run, items_with, Statements, block_with, switch_with}
use Rattle.c_reading.specs.ReadToken.{is_mark}
use Rattle.c_syntax.specs.Scopes.{Scope}
use Rattle.c_syntax.specs.SpellingUnit.{spell_block_item, spell_block_items, spell_switch_item, spell_switch_items}
use Rattle.c_syntax.specs.TreeUnit.{BlockItem, BlockItems, SwitchItem, SwitchItems}
use Rattle.c_syntax.specs.WellFormedUnit.{IsBlockItem, AreBlockItems, IsSwitchItem, AreSwitchItems}
use Rattle.c_reading.proofs.Viable.Contexts.{bind_stopped, close_stopped, into}
use Rattle.c_reading.proofs.Viable.Nodes.{first_node, begun_nodes_viable}
use Rattle.c_reading.proofs.Sound.Steps.{nothing_spelt}
use Rattle.c_reading.proofs.Sound.Law.{Read, Sound}
use Rattle.c_reading.proofs.Sound.Nodes.{nodes_sound}
use Rattle.c_reading.proofs.NodeLists.{NodeList, block_list, switch_list}
use Rattle.c_reading.proofs.Viable.Law.{Holds}

pub record ViableStatements (k : ℕ) (r : Statements) : Type 0 where
  pub statement : (scope : Scope) (tokens rest : List Token) (why : Why) → 0 < k
      → r.statement scope tokens ≡ Stopped why rest → Holds (BeginsStatement scope) k tokens why rest
  pub block_item : (scope : Scope) (tokens rest : List Token) (why : Why) → 0 < k
      → r.block_item scope tokens ≡ Stopped why rest → Holds (BeginsBlockItem scope) k tokens why rest
  pub switch_item : (scope : Scope) (tokens rest : List Token) (why : Why) → 0 < k
      → r.switch_item scope tokens ≡ Stopped why rest → Holds (BeginsSwitchItem scope) k tokens why rest

-- ---- the items of a block or of a switch

module _ {A L : Type 0} {Fits : A → Scope → Type 0} {tall : A → ℕ} {spelled : A → List Spelled} {adds : A
    → Scope} {AllFit : L → Scope → Type 0} {tallest : L → ℕ} {all_spelled : L → List Spelled} {make : List A → L}
    (list : NodeList Fits tall spelled adds AllFit tallest all_spelled make) where
  module _ (k : ℕ) (item : Scope → Parser A)
      (sound : (scope : Scope) → Sound (λ one. Fits one scope) tall spelled k (item scope))
      (viable : (scope : Scope) (tokens rest : List Token) (why : Why) → item scope tokens ≡ Stopped why rest
      → Holds (Begins (λ all. AllFit all scope) tallest all_spelled) k tokens why rest) where
    -- one of the items stopped, or no brace closes them
    items_with_stopped : (P : Why → List Token → Type 0) (scope : Scope) (tokens rest : List Token) (why : Why)
        → items_with adds make item scope tokens ≡ Stopped why rest
        → (Holds (Begins (λ all. AllFit all scope) tallest all_spelled) k tokens why rest → P why rest)
        → ((all : L) (mid : List Token)
        → Read (λ all. AllFit all scope) tallest all_spelled k tokens all mid → P Unfit mid)
        → P why rest
    items_with_stopped P scope tokens rest why h first closes =
        elim (bind_stopped (item_run adds item scope tokens)
        (λ all. expect (is_mark p.CloseBrace) >>= λ _. pure (make all)) why rest h) [
          | inl x ↦ first (begun_nodes_viable list k goes_item item sound viable scope tokens rest why x)
          | inr x ↦ close_stopped p.CloseBrace (make x.value) P x.mid why rest x.two
              (closes (make x.value) x.mid (nodes_sound list k goes_item item sound scope tokens x.mid x.value x.one))
        ]

abbrev pub BeginsBlockItems : Scope → ℕ → List Token → Type 0
BeginsBlockItems scope = Begins (λ all. AreBlockItems all scope) block_items_height spell_block_items

pub block_with_stopped : (k : ℕ) (item : Scope → Parser BlockItem)
    → ((scope : Scope) → Sound (λ one. IsBlockItem one scope) block_item_height spell_block_item k (item scope))
    → ((scope : Scope) (tokens rest : List Token) (why : Why) → item scope tokens ≡ Stopped why rest
    → Holds (BeginsBlockItems scope) k tokens why rest)
    → (P : Why → List Token → Type 0) (scope : Scope) (tokens rest : List Token) (why : Why)
    → block_with item scope tokens ≡ Stopped why rest
    → (Holds (BeginsBlockItems scope) k tokens why rest → P why rest)
    → ((all : BlockItems) (mid : List Token)
    → Read (λ all. AreBlockItems all scope) block_items_height spell_block_items k tokens all mid → P Unfit mid)
    → P why rest
unfolding block_with
block_with_stopped = items_with_stopped block_list

abbrev pub BeginsSwitchItems : Scope → ℕ → List Token → Type 0
BeginsSwitchItems scope = Begins (λ all. AreSwitchItems all scope) switch_items_height spell_switch_items

pub switch_with_stopped : (k : ℕ) (item : Scope → Parser SwitchItem)
    → ((scope : Scope) → Sound (λ one. IsSwitchItem one scope) switch_item_height spell_switch_item k (item scope))
    → ((scope : Scope) (tokens rest : List Token) (why : Why) → item scope tokens ≡ Stopped why rest
    → Holds (BeginsSwitchItem scope) k tokens why rest)
    → (P : Why → List Token → Type 0) (scope : Scope) (tokens rest : List Token) (why : Why)
    → switch_with item scope tokens ≡ Stopped why rest
    → (Holds (BeginsSwitchItems scope) k tokens why rest → P why rest)
    → ((all : SwitchItems) (mid : List Token)
    → Read (λ all. AreSwitchItems all scope) switch_items_height spell_switch_items k tokens all mid → P Unfit mid)
    → P why rest
unfolding switch_with
switch_with_stopped k item sound viable =
    items_with_stopped switch_list k item sound
    (λ s tokens rest why h. into (first_node switch_list s) (omega arith) (nothing_spelt tokens)
    (viable s tokens rest why h))
