-- The output is written, and then the source is read.
use Rattle.std.proofs.Common.{[], true, false, refl}
use Rattle.lib_defs.specs.Answers.{is_write_fault}
use Rattle.guest_io.specs.Views.{shape}
use Rattle.guest_io.specs.Sights.{written_of}
use Rattle.guest_io.proofs.Adding.{same_adds, same_cuts}
use Rattle.guest_io.proofs.Printing.{got_done, got_cut, adds_stay, cuts_stay}
use Rattle.guest_io.proofs.Counted.{source_kept, sinks_kept, output_failed}
use Rattle.guest_io.proofs.guest_io.GuestIo.read_on.Goals as goal

pub returns-in-Ok-clause-answer : goal.returns-in-Ok-clause-answer
returns-in-Ok-clause-answer g c = λ store handler.
    rw (← c.self.view_is)
    (got_done g.I.Source.left g.O.Sink.written g.E.Sink.written store (shape c.self.inside.input c.self.inside.out
    c.self.inside.err c.self.inside.cut) (shape c.step_behind.new.self c.hand_on.new.self c.self.inside.err
    c.self.inside.cut) c.step_behind.result c.step_behind.ensures.no_write_fault
    c.step_behind.ensures.answer c.in-Ok.ensures.added (same_adds (written_of g.E.Sink.written c.self.inside.err))
    handler)

pub returns-in-Err-clause-answer : goal.returns-in-Err-clause-answer
returns-in-Err-clause-answer g c = λ store handler.
    rw (← c.self.view_is, c.fail.ensures.answer, c.fail.ensures.cut)
    (got_cut g.I.Source.left g.O.Sink.written g.E.Sink.written store (shape c.self.inside.input c.self.inside.out
    c.self.inside.err c.self.inside.cut) (shape c.self.inside.input c.hand_on.new.self c.self.inside.err true) refl
    c.in-Err.ensures.cut refl handler)

pub returns-in-Ok-clause-handed : goal.returns-in-Ok-clause-handed
returns-in-Ok-clause-handed g c =
    rw (← c.self.view_is)
    (adds_stay g.I.Source.left g.O.Sink.written g.E.Sink.written (shape c.self.inside.input c.self.inside.out
    c.self.inside.err c.self.inside.cut) (shape c.step_behind.new.self c.hand_on.new.self c.self.inside.err
    c.self.inside.cut) [] [] c.in-Ok.ensures.added (same_adds (written_of g.E.Sink.written c.self.inside.err)))

pub returns-in-Err-clause-handed : goal.returns-in-Err-clause-handed
returns-in-Err-clause-handed g c =
    rw (← c.self.view_is, c.fail.ensures.cut)
    (cuts_stay g.I.Source.left g.O.Sink.written g.E.Sink.written (shape c.self.inside.input c.self.inside.out
    c.self.inside.err c.self.inside.cut) (shape c.self.inside.input c.hand_on.new.self c.self.inside.err true) [] []
    c.in-Err.ensures.cut (same_cuts (written_of g.E.Sink.written c.self.inside.err) []))

pub returns-in-Ok-clause-source : goal.returns-in-Ok-clause-source
returns-in-Ok-clause-source g c = rw (← c.self.view_is) c.step_behind.ensures.source

pub returns-in-Err-clause-source : goal.returns-in-Err-clause-source
returns-in-Err-clause-source g c =
    rw (← c.self.view_is, c.fail.ensures.answer, c.fail.ensures.cut)
    (source_kept false (g.I.Source.faults c.self.inside.input.source) refl)

pub returns-in-Ok-clause-sinks : goal.returns-in-Ok-clause-sinks
returns-in-Ok-clause-sinks g c =
    rw (← c.self.view_is)
    (sinks_kept g.O.Sink.faults g.E.Sink.faults (shape c.self.inside.input c.self.inside.out c.self.inside.err
    c.self.inside.cut) (shape c.step_behind.new.self c.hand_on.new.self c.self.inside.err c.self.inside.cut)
    (is_write_fault c.step_behind.result) c.step_behind.ensures.no_write_fault
    c.in-Ok.ensures.cause.cause refl)

pub returns-in-Err-clause-sinks : goal.returns-in-Err-clause-sinks
returns-in-Err-clause-sinks g c =
    rw (← c.self.view_is, c.fail.ensures.answer, c.fail.ensures.cut)
    (output_failed g.O.Sink.faults g.E.Sink.faults (shape c.self.inside.input c.self.inside.out c.self.inside.err
    c.self.inside.cut) (shape c.self.inside.input c.hand_on.new.self c.self.inside.err true) true refl
    c.in-Err.ensures.cause.never_falls c.in-Err.ensures.cause.cause refl)
