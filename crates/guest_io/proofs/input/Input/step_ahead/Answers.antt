-- The first of the bytes that were read ahead, or the end that was found.
use Rattle.guest_io.proofs.Taking.{takes_ahead, takes_end}
use Rattle.guest_io.proofs.input.Input.step_ahead.Goals as goal

pub returns-in-Some-clause-answer : goal.returns-in-Some-clause-answer
returns-in-Some-clause-answer g c =
    rw (← c.self.view_is, c.byte_step.ensures, c.in-Some.ensures.some)
    (takes_ahead c.self.inside.ended (g.I.Source.left c.self.inside.source) c.in-Some.byte c.take.new.self)

pub returns-then-self-clause-answer : goal.returns-then-self-clause-answer
returns-then-self-clause-answer g c =
    let none = c.take.ensures.none c.in_default.is in
    rw (← c.self.view_is, c.end_step.ensures, none.0, none.1, c.if-self.true)
    (takes_end (g.I.Source.left c.self.inside.source))
