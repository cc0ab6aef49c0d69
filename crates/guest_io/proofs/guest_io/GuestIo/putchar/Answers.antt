-- The byte is written, or the write fails.
use Rattle.std.proofs.Common.{◌≡◌, [], ◌∷◌, true, false, refl, rules}
use Rattle.lib_defs.specs.RowTable.{modulo_byte}
use Rattle.guest_io.specs.Views.{shape}
use Rattle.guest_io.specs.Sights.{written_of}
use Rattle.guest_io.proofs.Adding.{same_adds, same_cuts}
use Rattle.guest_io.proofs.Printing.{put_done, put_cut, adds_stay, cuts_stay}
use Rattle.guest_io.proofs.Counted.{source_kept, sinks_kept, output_failed}
use Rattle.guest_io.proofs.guest_io.GuestIo.putchar.Goals as goal

pub returns-in-Ok-clause-answer : goal.returns-in-Ok-clause-answer
returns-in-Ok-clause-answer g c = λ store handler.
    let is : c.modulo_byte-byte.result ≡ modulo_byte c.args.c = search rules in
    rw (← c.self.view_is, c.byte_step.ensures, is)
    (put_done g.I.Source.left g.O.Sink.written g.E.Sink.written c.args.c store (shape c.self.inside.input
    c.self.inside.out c.self.inside.err c.self.inside.cut) (shape c.self.inside.input c.put.new.self c.self.inside.err
    c.self.inside.cut) refl refl
    (rw is at c.in-Ok.ensures.added) handler)

pub returns-in-Err-clause-answer : goal.returns-in-Err-clause-answer
returns-in-Err-clause-answer g c = λ store handler.
    let is : c.modulo_byte-byte.result ≡ modulo_byte c.args.c = search rules in
    rw (← c.self.view_is, c.fail.ensures.answer, c.fail.ensures.cut)
    (put_cut g.I.Source.left g.O.Sink.written g.E.Sink.written c.args.c store (shape c.self.inside.input
    c.self.inside.out c.self.inside.err c.self.inside.cut) (shape c.self.inside.input c.put.new.self c.self.inside.err
    true) refl refl
    (rw is at c.in-Err.ensures.cut) handler)

pub returns-in-Ok-clause-handed : goal.returns-in-Ok-clause-handed
returns-in-Ok-clause-handed g c =
    rw (← c.self.view_is)
    (adds_stay g.I.Source.left g.O.Sink.written g.E.Sink.written (shape c.self.inside.input c.self.inside.out
    c.self.inside.err c.self.inside.cut) (shape c.self.inside.input c.put.new.self c.self.inside.err c.self.inside.cut)
    (c.modulo_byte-byte.result ∷ []) []
    c.in-Ok.ensures.added (same_adds (written_of g.E.Sink.written c.self.inside.err)))

pub returns-in-Err-clause-handed : goal.returns-in-Err-clause-handed
returns-in-Err-clause-handed g c =
    rw (← c.self.view_is, c.fail.ensures.cut)
    (cuts_stay g.I.Source.left g.O.Sink.written g.E.Sink.written (shape c.self.inside.input c.self.inside.out
    c.self.inside.err c.self.inside.cut) (shape c.self.inside.input c.put.new.self c.self.inside.err true)
    (c.modulo_byte-byte.result ∷ []) []
    c.in-Err.ensures.cut (same_cuts (written_of g.E.Sink.written c.self.inside.err) []))

pub returns-in-Ok-clause-source : goal.returns-in-Ok-clause-source
returns-in-Ok-clause-source g c =
    rw (← c.self.view_is, c.byte_step.ensures) (source_kept false (g.I.Source.faults c.self.inside.input.source) refl)

pub returns-in-Err-clause-source : goal.returns-in-Err-clause-source
returns-in-Err-clause-source g c =
    rw (← c.self.view_is, c.fail.ensures.answer, c.fail.ensures.cut)
    (source_kept false (g.I.Source.faults c.self.inside.input.source) refl)

pub returns-in-Ok-clause-sinks : goal.returns-in-Ok-clause-sinks
returns-in-Ok-clause-sinks g c =
    rw (← c.self.view_is, c.byte_step.ensures)
    (sinks_kept g.O.Sink.faults g.E.Sink.faults (shape c.self.inside.input c.self.inside.out c.self.inside.err
    c.self.inside.cut) (shape c.self.inside.input c.put.new.self c.self.inside.err c.self.inside.cut) false refl
    c.in-Ok.ensures.cause.cause refl)

pub returns-in-Err-clause-sinks : goal.returns-in-Err-clause-sinks
returns-in-Err-clause-sinks g c =
    rw (← c.self.view_is, c.fail.ensures.answer, c.fail.ensures.cut)
    (output_failed g.O.Sink.faults g.E.Sink.faults (shape c.self.inside.input c.self.inside.out c.self.inside.err
    c.self.inside.cut) (shape c.self.inside.input c.put.new.self c.self.inside.err true) true refl
    c.in-Err.ensures.cause.never_falls c.in-Err.ensures.cause.cause refl)
