-- The text is told, or a write fails.
use Rattle.std.proofs.Common.{[], true}
use Rattle.lib_defs.specs.StreamRows.{abort_reply}
use Rattle.guest_io.specs.Texts.{abort_text}
use Rattle.guest_io.proofs.Printing.{to_fault, abort_done, abort_cut, adds_stay, cuts_stay}
use Rattle.guest_io.proofs.guest_io.GuestIo.tell.Goals as goal

pub returns-in-Ok-clause-answer : goal.returns-in-Ok-clause-answer
returns-in-Ok-clause-answer g c =
    abort_done g.I.Source.left g.O.Sink.written g.E.Sink.written c.args.store.now c.args.text c.args.self.now
    c.try_tell.new.self c.requires.ended c.try_tell.ensures.input
    c.in-Ok.ensures.out c.in-Ok.ensures.err

pub returns-in-Err-clause-answer : goal.returns-in-Err-clause-answer
returns-in-Err-clause-answer g c =
    to_fault g.I.Source.left g.O.Sink.written g.E.Sink.written (λ w. abort_reply w c.args.text) c.args.store.now
    c.args.self.now (record c.try_tell.new.self { cut = true })
    c.fail.new.self c.fail.result c.fail.ensures.answer c.fail.ensures.cut
    (abort_cut g.I.Source.left g.O.Sink.written g.E.Sink.written c.args.store.now c.args.text c.args.self.now (record
    c.try_tell.new.self { cut = true }) c.requires.ended c.try_tell.ensures.input
    c.in-Err.ensures.out_cut c.in-Err.ensures.err_cut)

pub returns-in-Ok-clause-handed : goal.returns-in-Ok-clause-handed
returns-in-Ok-clause-handed g c =
    adds_stay g.I.Source.left g.O.Sink.written g.E.Sink.written c.args.self.now c.try_tell.new.self [] (abort_text
    c.args.store.now c.args.text) c.in-Ok.ensures.out c.in-Ok.ensures.err

pub returns-in-Err-clause-handed : goal.returns-in-Err-clause-handed
returns-in-Err-clause-handed g c =
    rw c.fail.ensures.cut
    (cuts_stay g.I.Source.left g.O.Sink.written g.E.Sink.written c.args.self.now (record c.try_tell.new.self
    { cut = true }) [] (abort_text c.args.store.now c.args.text) c.in-Err.ensures.out_cut
    c.in-Err.ensures.err_cut)
