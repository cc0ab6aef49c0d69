-- Each call ends by what is left of the height, and within one height by who calls whom.
--
-- What decreases is 64 * (height left) + rank. A call with one height less takes 64 off, whatever its rank; at one
-- height a function has a higher rank than each that it calls:
--   40       switch_item_at      30  block_item_at      20  statement_at
--   10       the statements behind their words: if_on, switch_on, while_on, do_on, for_on;  9  for_begun, within for_on
--   3, 2, 1  compound; the braces: block, switch_block; the items between them: block_run, switch_run
-- `statement`, `block_item` and `switch_item` have rank 0: at height h they go to a function at h - 1. A loop over
-- items decreases by the tokens left.
use Rattle.std.proofs.Common.{◌≡◌, length, map, take, ◌+◌, ◌*◌, ◌≤◌, ◌++◌}
use Rattle.c_reading.specs.Parser.{and_then, pure}
use Rattle.c_reading.specs.ReadBody.{block_run, switch_run, statements}
use Rattle.c_syntax.specs.ViewUnit.{block_item_of, switch_item_of}
use Rattle.c_parser.proofs.body.+executing.Given as goal

abbrev pub decreases-statement::statement : goal.decreases-statement::statement
decreases-statement::statement l = 64 * l.h

abbrev pub decreases-statement::statement_at : goal.decreases-statement::statement_at
decreases-statement::statement_at l = 64 * l.k + 20

abbrev pub decreases-statement::compound : goal.decreases-statement::compound
decreases-statement::compound l = 64 * l.k + 3

abbrev pub decreases-statement::block : goal.decreases-statement::block
decreases-statement::block l = 64 * l.k + 2

abbrev pub decreases-selection::if_on : goal.decreases-selection::if_on
decreases-selection::if_on l = 64 * l.k + 10

abbrev pub decreases-selection::switch_on : goal.decreases-selection::switch_on
decreases-selection::switch_on l = 64 * l.k + 10

abbrev pub decreases-selection::switch_block : goal.decreases-selection::switch_block
decreases-selection::switch_block l = 64 * l.k + 2

abbrev pub decreases-iteration::while_on : goal.decreases-iteration::while_on
decreases-iteration::while_on l = 64 * l.k + 10

abbrev pub decreases-iteration::do_on : goal.decreases-iteration::do_on
decreases-iteration::do_on l = 64 * l.k + 10

abbrev pub decreases-iteration::for_on : goal.decreases-iteration::for_on
decreases-iteration::for_on l = 64 * l.k + 10

abbrev pub decreases-iteration::for_begun : goal.decreases-iteration::for_begun
decreases-iteration::for_begun l = 64 * l.k + 9

abbrev pub decreases-block::block_item : goal.decreases-block::block_item
decreases-block::block_item l = 64 * l.h

abbrev pub decreases-block::block_item_at : goal.decreases-block::block_item_at
decreases-block::block_item_at l = 64 * l.k + 30

abbrev pub decreases-block::switch_item : goal.decreases-block::switch_item
decreases-block::switch_item l = 64 * l.h

abbrev pub decreases-block::switch_item_at : goal.decreases-block::switch_item_at
decreases-block::switch_item_at l = 64 * l.k + 40

-- ---- the items of a block

abbrev pub decreases-block::block_run : goal.decreases-block::block_run
decreases-block::block_run l = 64 * l.k + 1

abbrev pub invariant-block::block_run-each : goal.invariant-block::block_run-each
invariant-block::block_run-each l = record {
  reads : block_run (statements l.k).block_item l.fn.scope l.tokens
      ≡ and_then (block_run (statements l.k).block_item l.scope l.rest)
      (λ more. pure (map block_item_of l.items.items ++ more));
  longer : length l.fn.scope ≤ length l.scope;
  kept : take (length l.fn.scope) l.scope ≡ l.fn.scope;
}

abbrev pub decreases-block::block_run-each : goal.decreases-block::block_run-each
decreases-block::block_run-each l = length l.rest

abbrev pub decreases-block::switch_run : goal.decreases-block::switch_run
decreases-block::switch_run l = 64 * l.k + 1

abbrev pub invariant-block::switch_run-each : goal.invariant-block::switch_run-each
invariant-block::switch_run-each l = record {
  reads : switch_run (statements l.k).switch_item l.fn.scope l.tokens
      ≡ and_then (switch_run (statements l.k).switch_item l.scope l.rest)
      (λ more. pure (map switch_item_of l.items.items ++ more));
  longer : length l.fn.scope ≤ length l.scope;
  kept : take (length l.fn.scope) l.scope ≡ l.fn.scope;
}

abbrev pub decreases-block::switch_run-each : goal.decreases-block::switch_run-each
decreases-block::switch_run-each l = length l.rest
