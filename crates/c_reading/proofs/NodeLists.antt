-- The lists of nodes one behind another: the members of a structure, the items of a block and of a switch, and the
-- external declarations of a unit. What the laws ask of each list stands here, so that a law is proved of all at once.
use Rattle.std.proofs.Common.{◌≡◌, ℕ, max, List, [], ◌∷◌, ◌++◌, refl, ap}
use Rattle.std.specs.List.{flat_map}
use Rattle.c_syntax.specs.declared.spelled.Spelled.{Spelled}
use Rattle.c_syntax.specs.Height.{member_height, members_height}
use Rattle.c_syntax.specs.HeightUnit.{block_item_height, block_items_height, switch_item_height, switch_items_height}
use Rattle.c_syntax.specs.HeightUnit.{external_height, externals_height}
use Rattle.c_syntax.specs.Scopes.{Scope, member_adds}
use Rattle.c_syntax.specs.ScopesUnit.{block_item_adds, switch_item_adds, external_adds}
use Rattle.c_syntax.specs.Spelling.{spell_member, spell_members}
use Rattle.c_syntax.specs.SpellingUnit.{spell_block_item, spell_block_items, spell_switch_item, spell_switch_items}
use Rattle.c_syntax.specs.SpellingUnit.{spell_external}
use Rattle.c_syntax.specs.Tree as tree
use Rattle.c_syntax.specs.Tree.{MemberDeclaration, Members}
use Rattle.c_syntax.specs.TreeUnit as unit
use Rattle.c_syntax.specs.TreeUnit.{BlockItem, BlockItems, SwitchItem, SwitchItems, External}
use Rattle.c_syntax.specs.View.{members}
use Rattle.c_syntax.specs.ViewUnit.{block_items, switch_items}
use Rattle.c_syntax.specs.WellFormed.{IsMember, AreMembers}
use Rattle.c_syntax.specs.WellFormedUnit.{IsBlockItem, AreBlockItems, IsSwitchItem, AreSwitchItems, IsExternal}
use Rattle.c_syntax.specs.WellFormedUnit.{AreExternals}

-- A list that is made of its nodes: each fits in the scope that the ones before it left, the list is as high as the
-- highest, and its spelling is theirs, one behind the other.
pub record NodeList {A L : Type 0} (Fits : A → Scope → Type 0) (tall : A → ℕ) (spelled : A → List Spelled) (adds : A
    → Scope) (AllFit : L → Scope → Type 0) (tallest : L → ℕ) (all_spelled : L → List Spelled) (make : List A → L)
    : Type 0 where
  pub parts : L → List A
  pub made : (all : L) → make (parts all) ≡ all
  pub none_fits : (scope : Scope) → AllFit (make []) scope
  pub more_fit : (one : A) (more : List A) (scope : Scope) → Fits one scope → AllFit (make more) (scope ++ adds one)
      → AllFit (make (one ∷ more)) scope
  pub parts_fit : (one : A) (more : List A) (scope : Scope) → AllFit (make (one ∷ more)) scope
      → Fits one scope × AllFit (make more) (scope ++ adds one)
  pub none_high : tallest (make []) ≡ 0
  pub more_high : (one : A) (more : List A) → tallest (make (one ∷ more)) ≡ max (tall one) (tallest (make more))
  pub none_spelled : all_spelled (make []) ≡ []
  pub more_spelled : (one : A) (more : List A)
      → all_spelled (make (one ∷ more)) ≡ spelled one ++ all_spelled (make more)

abbrev block_parts : BlockItems → List BlockItem
block_parts unit.NoBlockItem = []
block_parts (unit.MoreBlockItems first rest) = first ∷ block_parts rest

block_made : (all : BlockItems) → block_items (block_parts all) ≡ all
block_made unit.NoBlockItem = refl
block_made (unit.MoreBlockItems first rest) = ap (unit.MoreBlockItems first) (block_made rest)

-- the items of a block are such a list; the other three likewise
pub block_list : NodeList IsBlockItem block_item_height spell_block_item block_item_adds AreBlockItems
    block_items_height spell_block_items block_items
block_list = record {
  parts = block_parts;
  made = block_made;
  none_fits = λ scope. tt;
  more_fit = λ one more scope first rest. (first, rest);
  parts_fit = λ one more scope are. (are.0, are.1);
  none_high = refl;
  more_high = λ one more. refl;
  none_spelled = refl;
  more_spelled = λ one more. refl;
}

abbrev switch_parts : SwitchItems → List SwitchItem
switch_parts unit.NoSwitchItem = []
switch_parts (unit.MoreSwitchItems first rest) = first ∷ switch_parts rest

switch_made : (all : SwitchItems) → switch_items (switch_parts all) ≡ all
switch_made unit.NoSwitchItem = refl
switch_made (unit.MoreSwitchItems first rest) = ap (unit.MoreSwitchItems first) (switch_made rest)

pub switch_list : NodeList IsSwitchItem switch_item_height spell_switch_item switch_item_adds AreSwitchItems
    switch_items_height spell_switch_items switch_items
switch_list = record {
  parts = switch_parts;
  made = switch_made;
  none_fits = λ scope. tt;
  more_fit = λ one more scope first rest. (first, rest);
  parts_fit = λ one more scope are. (are.0, are.1);
  none_high = refl;
  more_high = λ one more. refl;
  none_spelled = refl;
  more_spelled = λ one more. refl;
}

abbrev member_parts : Members → List MemberDeclaration
member_parts tree.NoMember = []
member_parts (tree.MoreMembers first rest) = first ∷ member_parts rest

member_made : (all : Members) → members (member_parts all) ≡ all
member_made tree.NoMember = refl
member_made (tree.MoreMembers first rest) = ap (tree.MoreMembers first) (member_made rest)

pub member_list : NodeList IsMember member_height spell_member member_adds AreMembers members_height spell_members
    members
member_list = record {
  parts = member_parts;
  made = member_made;
  none_fits = λ scope. tt;
  more_fit = λ one more scope first rest. (first, rest);
  parts_fit = λ one more scope are. (are.0, are.1);
  none_high = refl;
  more_high = λ one more. refl;
  none_spelled = refl;
  more_spelled = λ one more. refl;
}

abbrev pub spell_externals : List External → List Spelled
spell_externals all = flat_map spell_external all

pub external_list : NodeList IsExternal external_height spell_external external_adds AreExternals externals_height
    spell_externals (λ all. all)
external_list = record {
  parts = λ all. all;
  made = λ all. refl;
  none_fits = λ scope. tt;
  more_fit = λ one more scope first rest. (first, rest);
  parts_fit = λ one more scope are. (are.0, are.1);
  none_high = refl;
  more_high = λ one more. refl;
  none_spelled = refl;
  more_spelled = λ one more. refl;
}
