-- Each call of `write` adds a piece to the front that is written.
use Rattle.std.proofs.Common.{ℕ, ◌+◌, ◌-◌, ◌<◌, ◌≤◌, length, refl, ◌∙◌, subst, arith, take_all}
use Rattle.std.proofs.lemmas.Result.{err_from_is_err_and}
use Rattle.acc_io.specs.Cause.{FaultCounted}
use Rattle.acc_io.proofs.GainsLemmas.{Gains-front, Gains-nothing, length-rest}
use Rattle.acc_io.proofs.writing.write_all.Goals as goal

pub loop-done-init : goal.loop-done-init
loop-done-init g c = record {
  within = omega arith;
  faults = refl;
  written = Gains-nothing (g.O.Sink.written c.args.sink.now) c.args.bytes.now;
  room = λ room has. subst (λ (k : ℕ). g.O.Sink.has_room c.args.sink.now k) (omega arith) has;
}

pub returns-in_err-done-clause-cause : goal.returns-in_err-done-clause-cause
returns-in_err-done-clause-cause g c =
    let p = err_from_is_err_and c.from_residual.result c.from_residual.ensures.1 in
    rw p.1
    (record {
      never_falls = subst (λ (k : ℕ). k ≤ g.O.Sink.faults c.write.new.self) c.loop-done.invariant.faults
          c.in_err-done.ensures.cause.never_falls;
      cause = subst (λ (k : ℕ). FaultCounted k (g.O.Sink.faults c.write.new.self)) c.loop-done.invariant.faults
          c.in_err-done.ensures.cause.cause;
    })

pub returns-in_err-done-clause-part : goal.returns-in_err-done-clause-part
returns-in_err-done-clause-part g c =
    let p = err_from_is_err_and c.from_residual.result c.from_residual.ensures.1 in
    let written = c.in_err-done.ensures.failed ∙ c.loop-done.invariant.written in
    rw p.1 (c.loop-done.done, c.loop-done.invariant.within, written)

pub returns-in_err-done-clause-room : goal.returns-in_err-done-clause-room
returns-in_err-done-clause-room g c = λ room has.
    let left = length c.args.bytes.now - c.loop-done.done + room in
    let some : 0 < left = omega arith in
    absurd (let ok = c.in_err-done.ensures.succeeds left some (c.loop-done.invariant.room room has) in cc)

pub loop-done-preserved : goal.loop-done-preserved
loop-done-preserved g c =
    let within : c.in_ok-done.field-0 ≤ length c.args.bytes.now - c.loop-done.done
    = rw (length-rest c.args.bytes.now c.loop-done.done) at c.in_ok-done.ensures.within in
    record {
      within = omega arith;
      faults = c.in_ok-done.ensures.cause.cause ∙ c.loop-done.invariant.faults;
      written = Gains-front _ _ _ _ _ _ c.loop-done.invariant.written c.in_ok-done.ensures.written;
      room = λ room has. c.in_ok-done.ensures.room _
          (subst (λ (k : ℕ). g.O.Sink.has_room c.loop-done.sink k) (omega arith) (c.loop-done.invariant.room room has));
    }

pub returns-clause-cause : goal.returns-clause-cause
returns-clause-cause g c = record {
  never_falls = omega (arith, c.loop-done.invariant.faults);
  cause = c.loop-done.invariant.faults;
}

pub returns-clause-written : goal.returns-clause-written
returns-clause-written g c =
    let all : length c.args.bytes.now ≤ c.loop-done.done = omega arith in
    rw (take_all c.loop-done.done c.args.bytes.now all) at c.loop-done.invariant.written

pub returns-clause-room : goal.returns-clause-room
returns-clause-room g c = λ room has.
    (refl, subst (λ (k : ℕ). g.O.Sink.has_room c.loop-done.sink k) (omega arith) (c.loop-done.invariant.room room has))
