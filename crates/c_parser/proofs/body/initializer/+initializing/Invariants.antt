-- Each call ends by what is left of the height, and within one height by who calls whom.
--
-- What decreases is 64 * (height left) + rank. A call with one height less takes 64 off, whatever its rank; at one
-- height a function has a higher rank than each that it calls:
--   3  initializer_at, item_at      2  braces      1  what stands in them: listed_items, member_item, index_item
-- `initializer` and `item` have rank 0: at height h they go to a function at h - 1. The loop over items decreases by
-- the tokens left.
use Rattle.std.proofs.Common.{◌≡◌, List, Bool, length, map, ◌+◌, ◌*◌, ◌++◌}
use Rattle.c_reading.specs.Parser.{and_then, pure}
use Rattle.c_reading.specs.ReadBody.{initializers, listed_items}
use Rattle.c_syntax.specs.ViewUnit.{items}
use Rattle.c_syntax.specs.ScopesUnit.{items_add}
use Rattle.c_syntax.specs.TreeUnit.{Item}
use Rattle.c_syntax.specs.ViewUnit.{item_of}
use Rattle.c_parser.proofs.body.initializer.+initializing.Given as goal

abbrev pub decreases-initializer : goal.decreases-initializer
decreases-initializer l = 64 * l.h

abbrev pub decreases-initializer_at : goal.decreases-initializer_at
decreases-initializer_at l = 64 * l.k + 3

abbrev pub decreases-braces : goal.decreases-braces
decreases-braces l = 64 * l.k + 2

abbrev pub decreases-listed_items : goal.decreases-listed_items
decreases-listed_items l = 64 * l.k + 1

abbrev pub invariant-listed_items-each : goal.invariant-listed_items-each
invariant-listed_items-each l = record {
  reads : listed_items l.k (initializers l.k) l.fn.scope l.tokens
      ≡ and_then (listed_items l.k (initializers l.k) l.scope l.rest)
      (λ more. pure {A = List Item × Bool} (map item_of l.items.items ++ more.0, more.1));
  scope : l.scope ≡ l.fn.scope ++ items_add (items (map item_of l.items.items));
}

abbrev pub decreases-listed_items-each : goal.decreases-listed_items-each
decreases-listed_items-each l = length l.rest

abbrev pub decreases-item : goal.decreases-item
decreases-item l = 64 * l.h

abbrev pub decreases-item_at : goal.decreases-item_at
decreases-item_at l = 64 * l.k + 3

abbrev pub decreases-member_item : goal.decreases-member_item
decreases-member_item l = 64 * l.k + 1

abbrev pub decreases-index_item : goal.decreases-index_item
decreases-index_item l = 64 * l.k + 1
