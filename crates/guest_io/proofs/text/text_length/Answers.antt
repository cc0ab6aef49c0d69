-- The text is read character by character, to its null or to the first that is not read.
use Rattle.std.proofs.Common.{◌+◌, arith}
use Rattle.lib_defs.specs.Units.{rsize_max}
use Rattle.guest_io.proofs.Reading.{none_yet, one_more, ended_at, ended_there, stopped_at}
use Rattle.guest_io.proofs.text.text_length.Goals as goal

pub loop-n-init : goal.loop-n-init
loop-n-init c = record { so_far = none_yet c.args.store.now c.args.place (rsize_max + 1); fits = omega arith }

pub returns-in-Err-clause-stopped : goal.returns-in-Err-clause-stopped
returns-in-Err-clause-stopped c =
    stopped_at c.args.store.now c.args.place c.loop-n.n c.loop-n-test.true c.place_behind.result
    c.place_behind.ensures _ c.in-Err.ensures.stuck c.loop-n.invariant.so_far

pub returns-then-c-eq0-clause-ended : goal.returns-then-c-eq0-clause-ended
returns-then-c-eq0-clause-ended c =
    (ended_at c.args.store.now c.args.place c.loop-n.n c.loop-n-test.true
    (rw (c.place_behind.ensures, c.if-c-eq0.true) at c.in-Ok.ensures.seen) c.loop-n.invariant.so_far).0

pub returns-then-c-eq0-clause-length : goal.returns-then-c-eq0-clause-length
returns-then-c-eq0-clause-length c =
    (ended_at c.args.store.now c.args.place c.loop-n.n c.loop-n-test.true
    (rw (c.place_behind.ensures, c.if-c-eq0.true) at c.in-Ok.ensures.seen) c.loop-n.invariant.so_far).1

pub loop-n-preserved : goal.loop-n-preserved
loop-n-preserved c =
    let within = rw c.place_behind.ensures at c.in-Ok.ensures.within in
    record {
      so_far = one_more c.args.store.now c.args.place (rsize_max + 1) c.loop-n.n c.in-Ok.c c.loop-n-test.true
          (rw c.place_behind.ensures at c.in-Ok.ensures.seen) (omega (arith, c.if-c-eq0.false))
          c.loop-n.invariant.so_far;
      fits = omega (arith, within);
    }

pub returns-clause-ended : goal.returns-clause-ended
returns-clause-ended c =
    (ended_there c.args.store.now c.args.place c.loop-n.n c.loop-n-test.false c.loop-n.invariant.so_far).0

pub returns-clause-length : goal.returns-clause-length
returns-clause-length c =
    (ended_there c.args.store.now c.args.place c.loop-n.n c.loop-n-test.false c.loop-n.invariant.so_far).1
