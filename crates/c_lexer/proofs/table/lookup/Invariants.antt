-- What the rest of the table has is what the table has.
use Rattle.std.proofs.Common.{◌≡◌, length}
use Rattle.std.specs.Prelude.{map}
use Rattle.c_lexer.specs.Lookup.{lookup}
use Rattle.c_lexer.proofs.table.lookup.Given as goal

abbrev pub invariant-loop-table : goal.invariant-loop-table
invariant-loop-table g l = lookup (map (λ row. (row.0.now, row.1)) l.table) l.text
    ≡ lookup (map (λ row. (row.0.now, row.1)) l.initial.table) l.text

abbrev pub decreases-loop-table : goal.decreases-loop-table
decreases-loop-table g l = length l.table
