-- What was read is a front of the file, not too long, and the shelf has the rest.
use Rattle.std.proofs.Common.{◌≤◌, ◌-◌}
use Rattle.std.specs.Prelude.{vec_len}
use Rattle.acc_io.specs.Held.{Reads}
use Rattle.acc_run.specs.Loading.{most_read}
use Rattle.acc_run.proofs.load.read_selected.Given as goal

abbrev pub invariant-loop-shelf : goal.invariant-loop-shelf
invariant-loop-shelf g l = record {
  so_far : Reads (g.S.Shelf.contents l.fn.shelf) (g.S.Shelf.contents l.shelf) l.bytes.items;
  short : vec_len l.bytes ≤ most_read;
  counts : g.S.Shelf.faults l.fn.shelf ≤ g.S.Shelf.faults l.shelf;
  sound : g.S.Shelf.sound l.fn.shelf → g.S.Shelf.sound l.shelf;
}

-- what is still to be read at the most
abbrev pub decreases-loop-shelf : goal.decreases-loop-shelf
decreases-loop-shelf g l = most_read - vec_len l.bytes
