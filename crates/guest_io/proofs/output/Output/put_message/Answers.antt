-- The front, the line behind it, and nothing more is held back.
use Rattle.std.proofs.Common.{[], ◌∷◌, ◌++◌, List, ℕ, subst}
use Rattle.guest_io.specs.Sights.{written_of}
use Rattle.guest_io.specs.Streams.{Adds, Cuts}
use Rattle.guest_io.specs.Texts.{text_of}
use Rattle.guest_io.proofs.Adding.{nothing_more, adds_adds, adds_cuts, cuts_more, on_ok, on_error, on_any_ok}
use Rattle.guest_io.proofs.Adding.{on_any_error}
use Rattle.guest_io.proofs.output.Output.put_message.Goals as goal

pub returns-in_err-put_all-clause-cut : goal.returns-in_err-put_all-clause-cut
returns-in_err-put_all-clause-cut g c =
    on_any_error c.from_residual.result
    (cuts_more (written_of g.O.Sink.written c.args.self.now) (written_of g.O.Sink.written c.put_all.new.self)
    c.args.front.now (text_of c.args.store.now c.args.place ++ 10 ∷ []) c.in_err-put_all.ensures.cut)

pub returns-in_err-put_line-clause-cut : goal.returns-in_err-put_line-clause-cut
returns-in_err-put_line-clause-cut g c =
    on_any_error c.from_residual-in_err-put_line.result
    (adds_cuts (written_of g.O.Sink.written c.args.self.now) (written_of g.O.Sink.written c.put_all.new.self)
    (written_of g.O.Sink.written c.put_line.new.self) c.args.front.now
    (text_of c.args.store.now c.args.place ++ 10 ∷ []) c.in_ok-put_all.ensures.added c.in_err-put_line.ensures.cut)

pub returns-clause-added : goal.returns-clause-added
returns-clause-added g c =
    let a = written_of g.O.Sink.written c.args.self.now in
    let d = written_of g.O.Sink.written c.hand_on.new.self in
    let rest = text_of c.args.store.now c.args.place ++ 10 ∷ [] in
    let both = adds_adds a (written_of g.O.Sink.written c.put_all.new.self)
    (written_of g.O.Sink.written c.put_line.new.self) c.args.front.now rest c.in_ok-put_all.ensures.added
    c.in_ok-put_line.ensures.added in
    on_ok c.hand_on.result
    (λ h. subst (λ (l : List ℕ). Adds a d l) (nothing_more (c.args.front.now ++ rest))
    (adds_adds a (written_of g.O.Sink.written c.put_line.new.self) d (c.args.front.now ++ rest) [] both h))
    c.hand_on.ensures.added

pub returns-clause-cut : goal.returns-clause-cut
returns-clause-cut g c =
    let a = written_of g.O.Sink.written c.args.self.now in
    let d = written_of g.O.Sink.written c.hand_on.new.self in
    let rest = text_of c.args.store.now c.args.place ++ 10 ∷ [] in
    let both = adds_adds a (written_of g.O.Sink.written c.put_all.new.self)
    (written_of g.O.Sink.written c.put_line.new.self) c.args.front.now rest c.in_ok-put_all.ensures.added
    c.in_ok-put_line.ensures.added in
    on_error c.hand_on.result
    (λ h. subst (λ (l : List ℕ). Cuts a d l) (nothing_more (c.args.front.now ++ rest))
    (adds_cuts a (written_of g.O.Sink.written c.put_line.new.self) d (c.args.front.now ++ rest) [] both h))
    c.hand_on.ensures.cut

pub returns-clause-none : goal.returns-clause-none
returns-clause-none g c = on_any_ok c.hand_on.result c.hand_on.ensures.none
