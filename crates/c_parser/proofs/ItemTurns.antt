-- The loops over the items of a block, and over those of the block of a `switch`.
use Rattle.std.proofs.Common.{ℕ, ◌++◌, refl}
use Rattle.c_reading.specs.ReadBody.{block_run, switch_run, goes_item, statements}
use Rattle.c_syntax.specs.ScopesUnit.{block_item_adds, switch_item_adds}
use Rattle.c_reading.proofs.Online.Statement.{statements_online}
use Rattle.c_parser.proofs.ManyTurns.{Runs}

pub block_items_run : (k : ℕ)
    → Runs (block_run (statements k).block_item) goes_item (statements k).block_item (λ s one. s ++ block_item_adds one)
block_items_run k = record {
  is = λ s tokens. refl;
  on = (statements_online k).block_item;
  ends = λ s. refl;
  takes = (statements_online k).block_item_takes;
}

pub switch_items_run : (k : ℕ)
    → Runs (switch_run (statements k).switch_item) goes_item (statements k).switch_item
    (λ s one. s ++ switch_item_adds one)
switch_items_run k = record {
  is = λ s tokens. refl;
  on = (statements_online k).switch_item;
  ends = λ s. refl;
  takes = (statements_online k).switch_item_takes;
}
