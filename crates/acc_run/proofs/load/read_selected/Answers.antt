-- The file is read to its end, or as much of it as may be.
use Rattle.std.proofs.Common.{◌≤◌, length, ◌∙◌, arith}
use Rattle.acc_run.specs.Loading.{most_read}
use Rattle.acc_run.proofs.ReadSoFar.{read_nothing, read_to_end, read_to_limit, reads_more}
use Rattle.acc_run.proofs.load.read_selected.Goals as goal

pub loop-shelf-init : goal.loop-shelf-init
loop-shelf-init g c = record {
  so_far = rw c.new-bytes.ensures.items (read_nothing (g.S.Shelf.contents c.args.shelf.now));
  short = omega arith;
  counts = omega arith;
  sound = λ h. h;
}

pub returns-then-branch-eq0-clause-read : goal.returns-then-branch-eq0-clause-read
returns-then-branch-eq0-clause-read g c =
    let gained = c.in_ok-read_piece.ensures.gained in
    read_to_end (g.S.Shelf.contents c.args.shelf.now) (g.S.Shelf.contents c.loop-shelf.shelf)
    c.loop-shelf.bytes.items gained.0 c.read_piece.new.bytes.items
    c.loop-shelf.invariant.so_far (c.in_ok-read_piece.ensures.end c.if-branch-eq0.true) (gained.1
    ∙ c.if-branch-eq0.true) gained.2

pub returns-clause-read : goal.returns-clause-read
returns-clause-read g c =
    let full : most_read ≤ length c.loop-shelf.bytes.items = omega arith in
    read_to_limit (g.S.Shelf.contents c.args.shelf.now) (g.S.Shelf.contents c.loop-shelf.shelf)
    c.loop-shelf.bytes.items c.loop-shelf.invariant.so_far full

pub returns-in_err-read_piece-clause-within : goal.returns-in_err-read_piece-clause-within
returns-in_err-read_piece-clause-within g c =
    reads_more most_read (g.S.Shelf.contents c.args.shelf.now) (g.S.Shelf.contents c.loop-shelf.shelf)
    (g.S.Shelf.contents c.read_piece.new.shelf) c.loop-shelf.bytes.items _ (omega arith) c.loop-shelf.invariant.short
    c.loop-shelf.invariant.so_far c.in_err-read_piece.ensures.within
