-- Where a write fails, a front of the bytes is written.
use Rattle.guest_io.specs.Sights.{written_of}
use Rattle.guest_io.proofs.Adding.{next_cuts, on_any_error}
use Rattle.guest_io.proofs.output.Output.put_all.Goals as goal

pub returns-in_err-put-clause-cut : goal.returns-in_err-put-clause-cut
returns-in_err-put-clause-cut g c =
    on_any_error c.from_residual.result
    (next_cuts (written_of g.O.Sink.written c.args.self.now) (written_of g.O.Sink.written c.loop-byte.self)
    (written_of g.O.Sink.written c.put.new.self) c.args.bytes.now c.loop-byte.byte-index c.loop-byte-test.true
    c.loop-byte.invariant.added c.in_err-put.ensures.cut)
