-- What was read ahead, or what a read gives.
use Rattle.std.proofs.Common.{[], refl, ap, ◌∙◌}
use Rattle.lib_defs.specs.Answers.{is_read_fault, is_write_fault}
use Rattle.guest_io.specs.Views.{shape}
use Rattle.guest_io.specs.Sights.{written_of}
use Rattle.guest_io.proofs.Adding.{same_adds}
use Rattle.guest_io.proofs.Printing.{got_done, adds_stay}
use Rattle.guest_io.proofs.Counted.{source_kept, sinks_kept}
use Rattle.guest_io.proofs.guest_io.GuestIo.getchar.Goals as goal

pub returns-in-Some-clause-answer : goal.returns-in-Some-clause-answer
returns-in-Some-clause-answer g c = λ store handler.
    rw (← c.self.view_is)
    (got_done g.I.Source.left g.O.Sink.written g.E.Sink.written store (shape c.self.inside.input c.self.inside.out
    c.self.inside.err c.self.inside.cut) (shape c.step_ahead.new.self c.self.inside.out c.self.inside.err
    c.self.inside.cut) c.in-Some.step c.in-Some.ensures.no_write_fault
    (rw c.in-Some.ensures.no_read_fault c.in-Some.ensures.answer)
    (same_adds (written_of g.O.Sink.written c.self.inside.out)) (same_adds (written_of g.E.Sink.written
    c.self.inside.err)) handler)

pub returns-in-Some-clause-handed : goal.returns-in-Some-clause-handed
returns-in-Some-clause-handed g c =
    rw (← c.self.view_is)
    (adds_stay g.I.Source.left g.O.Sink.written g.E.Sink.written (shape c.self.inside.input c.self.inside.out
    c.self.inside.err c.self.inside.cut) (shape c.step_ahead.new.self c.self.inside.out c.self.inside.err
    c.self.inside.cut) [] [] (same_adds (written_of g.O.Sink.written c.self.inside.out)) (same_adds (written_of
    g.E.Sink.written c.self.inside.err)))

pub returns-in-Some-clause-source : goal.returns-in-Some-clause-source
returns-in-Some-clause-source g c =
    rw (← c.self.view_is, c.step_ahead.ensures.source)
    (source_kept (is_read_fault c.in-Some.step) (g.I.Source.faults c.self.inside.input.source)
    c.in-Some.ensures.no_read_fault)

pub returns-in-Some-clause-sinks : goal.returns-in-Some-clause-sinks
returns-in-Some-clause-sinks g c =
    rw (← c.self.view_is)
    (sinks_kept g.O.Sink.faults g.E.Sink.faults (shape c.self.inside.input c.self.inside.out c.self.inside.err
    c.self.inside.cut) (shape c.step_ahead.new.self c.self.inside.out c.self.inside.err c.self.inside.cut)
    (is_write_fault c.in-Some.step) c.in-Some.ensures.no_write_fault refl refl)

pub returns-in-None-clause-answer : goal.returns-in-None-clause-answer
returns-in-None-clause-answer g c =
    rw (← c.self.view_is) (rw (c.step_ahead.ensures.same c.in-None.is) at c.read_on.ensures.answer)

pub returns-in-None-clause-handed : goal.returns-in-None-clause-handed
returns-in-None-clause-handed g c =
    rw (← c.self.view_is) (rw (c.step_ahead.ensures.same c.in-None.is) at c.read_on.ensures.handed)

pub returns-in-None-clause-source : goal.returns-in-None-clause-source
returns-in-None-clause-source g c =
    rw (← c.self.view_is) (rw (c.step_ahead.ensures.same c.in-None.is) at c.read_on.ensures.source)

pub returns-in-None-clause-sinks : goal.returns-in-None-clause-sinks
returns-in-None-clause-sinks g c =
    rw (← c.self.view_is) c.read_on.ensures.sinks

pub returns-in-Some-clause-flushed : goal.returns-in-Some-clause-flushed
returns-in-Some-clause-flushed g c = λ none more.
    let spent = c.step_ahead.ensures.spent (ap (λ v. v.input.ahead) c.self.view_is ∙ none)
    (ap (λ v. v.input.ended) c.self.view_is ∙ more) in
    absurd (let is = c.in-Some.is in cc)
