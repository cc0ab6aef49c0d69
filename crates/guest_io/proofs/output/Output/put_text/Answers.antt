-- Each character is the next of the text. Where a write fails, a front of the text is written.
use Rattle.std.proofs.Common.{◌<◌, length, ◌∙◌, arith}
use Rattle.guest_io.specs.Sights.{written_of}
use Rattle.guest_io.specs.Texts.{text_of}
use Rattle.guest_io.proofs.Adding.{next_adds, next_cuts, on_any_error}
use Rattle.guest_io.proofs.output.Output.put_text.Goals as goal

pub returns-in_err-put-clause-cut : goal.returns-in_err-put-clause-cut
returns-in_err-put-clause-cut g c =
    let less : c.loop-k.k < length (text_of c.args.store.now c.args.place) =
    omega (arith, c.loop-k-test.true, c.requires.len) in
    on_any_error c.from_residual.result
    (next_cuts (written_of g.O.Sink.written c.args.self.now) (written_of g.O.Sink.written c.loop-k.self)
    (written_of g.O.Sink.written c.put.new.self) (text_of c.args.store.now c.args.place) c.loop-k.k less
    c.loop-k.invariant.added (rw c.known_character.ensures at c.in_err-put.ensures.cut))

pub loop-k-preserved : goal.loop-k-preserved
loop-k-preserved g c =
    let less : c.loop-k.k < length (text_of c.args.store.now c.args.place) =
    omega (arith, c.loop-k-test.true, c.requires.len) in
    record {
      faults = c.in_ok-put.ensures.cause.cause ∙ c.loop-k.invariant.faults;
      added = next_adds (written_of g.O.Sink.written c.args.self.now) (written_of g.O.Sink.written c.loop-k.self)
          (written_of g.O.Sink.written c.put.new.self) (text_of c.args.store.now c.args.place) c.loop-k.k less
          c.loop-k.invariant.added (rw c.known_character.ensures at c.in_ok-put.ensures.added);
    }
