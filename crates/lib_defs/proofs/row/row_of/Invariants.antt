-- The names that are left are numbered on.
use Rattle.std.proofs.Common.{◌≡◌, ◌+◌, length}
use Rattle.lib_defs.specs.RowNumbers.{named_from, row_named}
use Rattle.lib_defs.proofs.row.row_of.Given as goal

abbrev pub invariant-loop-rows : goal.invariant-loop-rows
invariant-loop-rows l = record {
  room : l.number + length l.rows ≡ 53;
  named : named_from l.number l.rows l.name ≡ row_named l.name;
}

abbrev pub decreases-loop-rows : goal.decreases-loop-rows
decreases-loop-rows l = length l.rows
