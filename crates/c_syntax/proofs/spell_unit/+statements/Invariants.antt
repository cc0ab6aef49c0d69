-- What the loops of the functions that spell statements keep.
use Rattle.std.proofs.Common.{◌≡◌, ◌++◌, take}
use Rattle.std.specs.List.{flat_map}
use Rattle.c_syntax.specs.SpellingUnit.{spell_block_item, spell_switch_item}
use Rattle.c_syntax.specs.ViewUnit.{block_item_of, switch_item_of}
use Rattle.c_syntax.proofs.spell_unit.+statements.Given as goal

abbrev pub invariant-block_items-loop-each : goal.invariant-block_items-loop-each
invariant-block_items-loop-each l =
    l.out.items ≡ l.initial.out.items ++ flat_map (λ x. spell_block_item (block_item_of x)) (take l.each-index l.list)

abbrev pub invariant-switch_items-loop-each : goal.invariant-switch_items-loop-each
invariant-switch_items-loop-each l =
    l.out.items ≡ l.initial.out.items ++ flat_map (λ x. spell_switch_item (switch_item_of x)) (take l.each-index l.list)
