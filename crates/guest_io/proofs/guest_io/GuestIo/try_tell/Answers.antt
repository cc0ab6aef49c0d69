-- The output is written, and then the text is told; or one of them fails.
use Rattle.std.proofs.Common.{[], true, refl}
use Rattle.guest_io.specs.Views.{shape}
use Rattle.guest_io.specs.Sights.{written_of}
use Rattle.guest_io.specs.Texts.{abort_text}
use Rattle.guest_io.proofs.Adding.{same_cuts, adds_cuts, on_any_ok, on_any_error}
use Rattle.guest_io.proofs.Counted.{output_failed, err_counted}
use Rattle.guest_io.proofs.guest_io.GuestIo.try_tell.Goals as goal

pub returns-in-Err-clause-err_cut : goal.returns-in-Err-clause-err_cut
returns-in-Err-clause-err_cut g c =
    rw (← c.self.view_is) (same_cuts (written_of g.E.Sink.written c.self.inside.err) (abort_text c.args.store.now
    c.args.text))

pub returns-in-Err-clause-sinks : goal.returns-in-Err-clause-sinks
returns-in-Err-clause-sinks g c =
    rw (← c.self.view_is)
    (output_failed g.O.Sink.faults g.E.Sink.faults (shape c.self.inside.input c.self.inside.out c.self.inside.err
    c.self.inside.cut) (shape c.self.inside.input c.hand_on.new.self c.self.inside.err c.self.inside.cut) true refl
    c.in-Err.ensures.cause.never_falls c.in-Err.ensures.cause.cause refl)

pub returns-in-Ok-clause-out : goal.returns-in-Ok-clause-out
returns-in-Ok-clause-out g c =
    rw (← c.self.view_is) (on_any_ok c.put_message.result c.in-Ok.ensures.added)

pub returns-in-Ok-clause-err : goal.returns-in-Ok-clause-err
returns-in-Ok-clause-err g c =
    rw (← c.self.view_is) c.put_message.ensures.added

pub returns-in-Ok-clause-out_cut : goal.returns-in-Ok-clause-out_cut
returns-in-Ok-clause-out_cut g c =
    rw (← c.self.view_is)
    (on_any_error c.put_message.result
    (adds_cuts (written_of g.O.Sink.written c.self.inside.out) (written_of g.O.Sink.written c.hand_on.new.self)
    (written_of g.O.Sink.written c.hand_on.new.self) [] [] c.in-Ok.ensures.added
    (same_cuts (written_of g.O.Sink.written c.hand_on.new.self) [])))

pub returns-in-Ok-clause-err_cut : goal.returns-in-Ok-clause-err_cut
returns-in-Ok-clause-err_cut g c =
    rw (← c.self.view_is) c.put_message.ensures.cut

pub returns-in-Ok-clause-sinks : goal.returns-in-Ok-clause-sinks
returns-in-Ok-clause-sinks g c =
    rw (← c.self.view_is)
    (err_counted g.O.Sink.faults g.E.Sink.faults (shape c.self.inside.input c.self.inside.out c.self.inside.err
    c.self.inside.cut) (shape c.self.inside.input c.hand_on.new.self c.put_message.new.self c.self.inside.cut)
    c.put_message.result c.in-Ok.ensures.cause.cause c.put_message.ensures.cause)
