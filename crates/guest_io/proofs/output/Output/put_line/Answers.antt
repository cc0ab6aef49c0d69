-- The text, and the newline behind it.
use Rattle.std.proofs.Common.{[], ◌∷◌}
use Rattle.guest_io.specs.Sights.{written_of}
use Rattle.guest_io.specs.Texts.{text_of}
use Rattle.guest_io.proofs.Adding.{adds_adds, adds_cuts, cuts_more, on_ok, on_error, on_any_error}
use Rattle.guest_io.proofs.output.Output.put_line.Goals as goal

pub returns-in_err-put_text-clause-cut : goal.returns-in_err-put_text-clause-cut
returns-in_err-put_text-clause-cut g c =
    on_any_error c.from_residual.result
    (cuts_more (written_of g.O.Sink.written c.args.self.now) (written_of g.O.Sink.written c.put_text.new.self)
    (text_of c.args.store.now c.args.place) (10 ∷ []) c.in_err-put_text.ensures.cut)

pub returns-clause-added : goal.returns-clause-added
returns-clause-added g c =
    on_ok c.put.result
    (adds_adds (written_of g.O.Sink.written c.args.self.now) (written_of g.O.Sink.written c.put_text.new.self)
    (written_of g.O.Sink.written c.put.new.self) (text_of c.args.store.now c.args.place) (10 ∷ [])
    c.in_ok-put_text.ensures.added)
    c.put.ensures.added

pub returns-clause-cut : goal.returns-clause-cut
returns-clause-cut g c =
    on_error c.put.result
    (adds_cuts (written_of g.O.Sink.written c.args.self.now) (written_of g.O.Sink.written c.put_text.new.self)
    (written_of g.O.Sink.written c.put.new.self) (text_of c.args.store.now c.args.place) (10 ∷ [])
    c.in_ok-put_text.ensures.added)
    c.put.ensures.cut
