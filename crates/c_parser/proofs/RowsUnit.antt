-- The items of a statement as the program holds them, a row, and as a list.
use Rattle.std.proofs.Common.{◌≡◌, map, refl, ◌∙◌, ap, Vec, Global}
use Rattle.critical_table.specs.declared.pos.Pos.{Pos}
use Rattle.c_syntax.specs.declared.expression.Expr as e
use Rattle.c_syntax.specs.declared.statement.Statement as s
use Rattle.c_syntax.specs.declared.statement.BlockItem as b
use Rattle.c_syntax.specs.declared.statement.SwitchItem as w
use Rattle.c_syntax.specs.ViewUnit.{switch_items}
use Rattle.c_syntax.specs.TreeUnit.{Block, MoreBlockItems, Switch, MoreSwitchItems}
use Rattle.c_syntax.specs.View.{expr_of}
use Rattle.c_syntax.specs.ViewUnit.{statement_of, block_item_of, block_row, block_items, switch_item_of, switch_row}

block_listed : (count : _) (row : s.Row_of-BlockItem count)
    → block_row row ≡ block_items (map block_item_of (s.items-the_row-BlockItem count row))
block_listed count s.end_of-BlockItem = refl
block_listed count (s.more_of-BlockItem first rest) = ap (MoreBlockItems (block_item_of first)) (block_listed _ rest)

switch_listed : (count : _) (row : s.Row_of-SwitchItem count)
    → switch_row row ≡ switch_items (map switch_item_of (s.items-the_row-SwitchItem count row))
switch_listed count s.end_of-SwitchItem = refl
switch_listed count (s.more_of-SwitchItem first rest) =
    ap (MoreSwitchItems (switch_item_of first)) (switch_listed _ rest)

row_of_block : s.Statement → (count : _) × s.Row_of-BlockItem count
row_of_block (s.Block' _ row) = (_, row)
row_of_block _ = (_, s.end_of-BlockItem)

pub block_tree : (all : Vec b.BlockItem Global)
    → statement_of (s.Block all) ≡ Block (block_items (map block_item_of all.items))
unfolding row_of_block
block_tree all =
    let row = row_of_block (s.Block all) in
    ap Block (block_listed row.0 row.1
    ∙ ap (λ list. block_items (map block_item_of list)) (s.items_hidden-the_row-BlockItem-0 all))

row_of_switch : s.Statement → (count : _) × s.Row_of-SwitchItem count
row_of_switch (s.Switch' _ _ _ row) = (_, row)
row_of_switch _ = (_, s.end_of-SwitchItem)

pub switch_tree : (pos : Pos) (test : e.Expr) (all : Vec w.SwitchItem Global)
    → statement_of (s.Switch pos test all) ≡ Switch pos (expr_of test) (switch_items (map switch_item_of all.items))
unfolding row_of_switch
switch_tree pos test all =
    let row = row_of_switch (s.Switch pos test all) in
    ap (Switch pos (expr_of test))
    (switch_listed row.0 row.1
    ∙ ap (λ list. switch_items (map switch_item_of list)) (s.items_hidden-the_row-SwitchItem-1 all))
