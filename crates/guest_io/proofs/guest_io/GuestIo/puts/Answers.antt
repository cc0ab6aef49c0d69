-- The text is not read, and nothing is written; or it is read and written.
use Rattle.std.proofs.Common.{[], refl}
use Rattle.lib_defs.specs.Answers.{is_read_fault, is_write_fault}
use Rattle.guest_io.specs.Sights.{written_of}
use Rattle.guest_io.proofs.Adding.{same_adds}
use Rattle.guest_io.proofs.Printing.{puts_stopped, adds_stay}
use Rattle.guest_io.proofs.Counted.{source_kept, sinks_kept}
use Rattle.guest_io.proofs.guest_io.GuestIo.puts.Goals as goal

pub returns-in-Ok-clause-answer : goal.returns-in-Ok-clause-answer
returns-in-Ok-clause-answer g c = c.put_line.ensures.answer

pub returns-in-Ok-clause-handed : goal.returns-in-Ok-clause-handed
returns-in-Ok-clause-handed g c = c.put_line.ensures.handed

pub returns-in-Ok-clause-writable : goal.returns-in-Ok-clause-writable
returns-in-Ok-clause-writable g c = c.put_line.ensures.writable

pub returns-in-Ok-clause-source : goal.returns-in-Ok-clause-source
returns-in-Ok-clause-source g c = c.put_line.ensures.source

pub returns-in-Ok-clause-sinks : goal.returns-in-Ok-clause-sinks
returns-in-Ok-clause-sinks g c = c.put_line.ensures.sinks

pub returns-in-Err-clause-answer : goal.returns-in-Err-clause-answer
returns-in-Err-clause-answer g c =
    puts_stopped g.I.Source.left g.O.Sink.written g.E.Sink.written c.args.store.now c.args.s c.args.self.now
    c.in-Err.step c.in-Err.ensures.stopped
    c.in-Err.ensures.quiet.write

pub returns-in-Err-clause-handed : goal.returns-in-Err-clause-handed
returns-in-Err-clause-handed g c =
    adds_stay g.I.Source.left g.O.Sink.written g.E.Sink.written c.args.self.now c.args.self.now [] []
    (same_adds (written_of g.O.Sink.written c.args.self.now.out))
    (same_adds (written_of g.E.Sink.written c.args.self.now.err))

pub returns-in-Err-clause-writable : goal.returns-in-Err-clause-writable
returns-in-Err-clause-writable g c = λ quiet. c.requires.writable

pub returns-in-Err-clause-source : goal.returns-in-Err-clause-source
returns-in-Err-clause-source g c =
    source_kept (is_read_fault c.in-Err.step) (g.I.Source.faults c.args.self.now.input.source)
    c.in-Err.ensures.quiet.read

pub returns-in-Err-clause-sinks : goal.returns-in-Err-clause-sinks
returns-in-Err-clause-sinks g c =
    sinks_kept g.O.Sink.faults g.E.Sink.faults c.args.self.now c.args.self.now (is_write_fault c.in-Err.step)
    c.in-Err.ensures.quiet.write refl refl
