-- Where the write fails, a front of what was held back is written.
use Rattle.guest_io.proofs.Adding.{none_cuts, on_error}
use Rattle.guest_io.proofs.output.Output.hand_on.Goals as goal

pub returns-clause-cut : goal.returns-clause-cut
returns-clause-cut g c =
    rw (← c.self.view_is, c.write_held.ensures.none)
    (on_error c.write_held.result
    (none_cuts (g.O.Sink.written c.self.inside.sink) (g.O.Sink.written c.write_held.new.sink) c.self.inside.held)
    c.write_held.ensures.part)
