-- Where the write fails, a front of what was held back with the byte is written.
use Rattle.std.proofs.Common.{[], ◌∷◌}
use Rattle.guest_io.proofs.Adding.{part_cuts, on_error}
use Rattle.guest_io.proofs.output.Output.put.Goals as goal

pub returns-then-is_full-clause-cut : goal.returns-then-is_full-clause-cut
returns-then-is_full-clause-cut g c =
    rw (← c.self.view_is, c.write_held.ensures.none)
    (on_error c.write_held.result
    (part_cuts (g.O.Sink.written c.self.inside.sink) (g.O.Sink.written c.write_held.new.sink) c.self.inside.held
    (c.args.byte ∷ []))
    (rw c.push.ensures at c.write_held.ensures.part))
