-- The text and the newline are written, or a write fails.
use Rattle.std.proofs.Common.{[], ◌∷◌, ◌++◌, true, false, refl}
use Rattle.std.specs.Prelude.{pos}
use Rattle.critical_table.specs.declared.ended.Ended.TheVariants.{WriteFault}
use Rattle.lib_defs.specs.declared.step.LibStep.TheVariants.{Done, End}
use Rattle.lib_defs.specs.declared.value.Value.TheVariants.{Num}
use Rattle.lib_defs.specs.StreamRows.{puts_reply}
use Rattle.guest_io.specs.Views.{shape}
use Rattle.guest_io.specs.Sights.{written_of}
use Rattle.guest_io.specs.Texts.{text_of}
use Rattle.guest_io.proofs.Adding.{same_adds, same_cuts}
use Rattle.guest_io.proofs.Printing.{from_view, to_fault, puts_done, puts_cut, adds_stay, cuts_stay}
use Rattle.guest_io.proofs.Counted.{source_kept, sinks_kept, output_failed}
use Rattle.guest_io.proofs.guest_io.GuestIo.put_line.Goals as goal

pub returns-in-Ok-clause-answer : goal.returns-in-Ok-clause-answer
returns-in-Ok-clause-answer g c =
    from_view g.I.Source.left g.O.Sink.written g.E.Sink.written (λ w. puts_reply w c.args.text) c.args.store.now
    (shape c.self.inside.input c.self.inside.out c.self.inside.err c.self.inside.cut) c.args.self.now (shape
    c.self.inside.input c.put_line.new.self c.self.inside.err c.self.inside.cut)
    (Done (Num (pos 0))) c.self.view_is
    (puts_done g.I.Source.left g.O.Sink.written g.E.Sink.written c.args.store.now c.args.text (shape c.self.inside.input
    c.self.inside.out c.self.inside.err c.self.inside.cut) (shape c.self.inside.input c.put_line.new.self
    c.self.inside.err c.self.inside.cut) c.requires.ended refl refl
    c.in-Ok.ensures.added)

pub returns-in-Err-clause-answer : goal.returns-in-Err-clause-answer
returns-in-Err-clause-answer g c =
    to_fault g.I.Source.left g.O.Sink.written g.E.Sink.written (λ w. puts_reply w c.args.text) c.args.store.now
    c.args.self.now
    (shape c.self.inside.input c.put_line.new.self c.self.inside.err true) c.fail.new.self c.fail.result
    c.fail.ensures.answer c.fail.ensures.cut
    (from_view g.I.Source.left g.O.Sink.written g.E.Sink.written (λ w. puts_reply w c.args.text) c.args.store.now
    (shape c.self.inside.input c.self.inside.out c.self.inside.err c.self.inside.cut) c.args.self.now (shape
    c.self.inside.input c.put_line.new.self c.self.inside.err true) (End WriteFault) c.self.view_is
    (puts_cut g.I.Source.left g.O.Sink.written g.E.Sink.written c.args.store.now c.args.text (shape c.self.inside.input
    c.self.inside.out c.self.inside.err c.self.inside.cut) (shape c.self.inside.input c.put_line.new.self
    c.self.inside.err true) c.requires.ended refl refl
    c.in-Err.ensures.cut))

pub returns-in-Ok-clause-handed : goal.returns-in-Ok-clause-handed
returns-in-Ok-clause-handed g c =
    rw (← c.self.view_is)
    (adds_stay g.I.Source.left g.O.Sink.written g.E.Sink.written (shape c.self.inside.input c.self.inside.out
    c.self.inside.err c.self.inside.cut) (shape c.self.inside.input c.put_line.new.self c.self.inside.err
    c.self.inside.cut) (text_of c.args.store.now c.args.text ++ 10 ∷ []) [] c.in-Ok.ensures.added (same_adds (written_of
    g.E.Sink.written c.self.inside.err)))

pub returns-in-Err-clause-handed : goal.returns-in-Err-clause-handed
returns-in-Err-clause-handed g c =
    rw (← c.self.view_is, c.fail.ensures.cut)
    (cuts_stay g.I.Source.left g.O.Sink.written g.E.Sink.written (shape c.self.inside.input c.self.inside.out
    c.self.inside.err c.self.inside.cut) (shape c.self.inside.input c.put_line.new.self c.self.inside.err true) (text_of
    c.args.store.now c.args.text ++ 10 ∷ []) [] c.in-Err.ensures.cut (same_cuts (written_of g.E.Sink.written
    c.self.inside.err) []))

pub returns-in-Ok-clause-source : goal.returns-in-Ok-clause-source
returns-in-Ok-clause-source g c =
    rw (← c.self.view_is) (source_kept false (g.I.Source.faults c.self.inside.input.source) refl)

pub returns-in-Err-clause-source : goal.returns-in-Err-clause-source
returns-in-Err-clause-source g c =
    rw (← c.self.view_is, c.fail.ensures.answer, c.fail.ensures.cut)
    (source_kept false (g.I.Source.faults c.self.inside.input.source) refl)

pub returns-in-Ok-clause-sinks : goal.returns-in-Ok-clause-sinks
returns-in-Ok-clause-sinks g c =
    rw (← c.self.view_is)
    (sinks_kept g.O.Sink.faults g.E.Sink.faults (shape c.self.inside.input c.self.inside.out c.self.inside.err
    c.self.inside.cut) (shape c.self.inside.input c.put_line.new.self c.self.inside.err c.self.inside.cut) false refl
    c.in-Ok.ensures.cause.cause refl)

pub returns-in-Err-clause-sinks : goal.returns-in-Err-clause-sinks
returns-in-Err-clause-sinks g c =
    rw (← c.self.view_is, c.fail.ensures.answer, c.fail.ensures.cut)
    (output_failed g.O.Sink.faults g.E.Sink.faults (shape c.self.inside.input c.self.inside.out c.self.inside.err
    c.self.inside.cut) (shape c.self.inside.input c.put_line.new.self c.self.inside.err true) true refl
    c.in-Err.ensures.cause.never_falls c.in-Err.ensures.cause.cause refl)
