-- What was held back is written, and then the bytes; or a front of them.
use Rattle.std.proofs.Common.{[]}
use Rattle.guest_io.specs.Sights.{written_by}
use Rattle.guest_io.proofs.Adding.{none_cuts, cuts_more, gains_adds, part_cuts, gains_both, part_behind, on_ok}
use Rattle.guest_io.proofs.Adding.{on_error, on_any_error}
use Rattle.guest_io.proofs.output.Output.write_through.Goals as goal

pub returns-in_err-write_held-clause-cut : goal.returns-in_err-write_held-clause-cut
returns-in_err-write_held-clause-cut g c =
    rw (← c.self.view_is, c.write_held.ensures.none)
    (on_any_error c.from_residual.result
    (cuts_more (written_by (g.O.Sink.written c.self.inside.sink) c.self.inside.held)
    (written_by (g.O.Sink.written c.write_held.new.sink) []) [] c.args.bytes.now
    (none_cuts (g.O.Sink.written c.self.inside.sink) (g.O.Sink.written c.write_held.new.sink) c.self.inside.held
    c.in_err-write_held.ensures.part)))

pub returns-clause-added : goal.returns-clause-added
returns-clause-added g c =
    rw (← c.self.view_is, c.write_held.ensures.none)
    (on_ok c.write_all.result
    (λ h. gains_adds (g.O.Sink.written c.self.inside.sink) (g.O.Sink.written c.write_all.new.sink)
    c.self.inside.held c.args.bytes.now
    (gains_both (g.O.Sink.written c.self.inside.sink) (g.O.Sink.written c.write_held.new.sink)
    (g.O.Sink.written c.write_all.new.sink) c.self.inside.held c.args.bytes.now
    c.in_ok-write_held.ensures.written h))
    c.write_all.ensures.written)

pub returns-clause-cut : goal.returns-clause-cut
returns-clause-cut g c =
    rw (← c.self.view_is, c.write_held.ensures.none)
    (on_error c.write_all.result
    (λ h. part_cuts (g.O.Sink.written c.self.inside.sink) (g.O.Sink.written c.write_all.new.sink)
    c.self.inside.held c.args.bytes.now
    (part_behind (g.O.Sink.written c.self.inside.sink) (g.O.Sink.written c.write_held.new.sink)
    (g.O.Sink.written c.write_all.new.sink) c.self.inside.held c.args.bytes.now
    c.in_ok-write_held.ensures.written h))
    c.write_all.ensures.part)
