-- The sink that hands on has been handed the same.
use Rattle.std.proofs.Common.{◌∙◌}
use Rattle.guest_io.specs.Sights.{written_of}
use Rattle.guest_io.proofs.Adding.{flushed_adds, adds_is_cut, on_any_ok, on_any_error}
use Rattle.guest_io.proofs.output.Output.write_out.Goals as goal

pub returns-in-Ok-clause-cause : goal.returns-in-Ok-clause-cause
returns-in-Ok-clause-cause g c = rw c.in-Ok.ensures.cause.cause at c.flush.ensures.cause

pub returns-in-Ok-clause-added : goal.returns-in-Ok-clause-added
returns-in-Ok-clause-added g c =
    on_any_ok c.flush.result
    (flushed_adds g.O.Sink.written (written_of g.O.Sink.written c.args.self.now) c.write_through.new.self
    c.flush.new.self c.args.bytes.now c.flush.ensures.written c.flush.ensures.held c.in-Ok.ensures.added)

pub returns-in-Ok-clause-cut : goal.returns-in-Ok-clause-cut
returns-in-Ok-clause-cut g c =
    on_any_error c.flush.result
    (adds_is_cut (written_of g.O.Sink.written c.args.self.now) (written_of g.O.Sink.written c.flush.new.self)
    c.args.bytes.now
    (flushed_adds g.O.Sink.written (written_of g.O.Sink.written c.args.self.now) c.write_through.new.self
    c.flush.new.self c.args.bytes.now c.flush.ensures.written c.flush.ensures.held c.in-Ok.ensures.added))

pub returns-in-Ok-clause-none : goal.returns-in-Ok-clause-none
returns-in-Ok-clause-none g c = on_any_ok c.flush.result (c.flush.ensures.held ∙ c.in-Ok.ensures.none)
