-- A read fails, or gives bytes, or finds the end.
use Rattle.std.proofs.Common.{ap, ◌∙◌}
use Rattle.guest_io.proofs.Taking.{fails_from, byte_from, end_from}
use Rattle.guest_io.proofs.input.Input.step_behind.Goals as goal

pub returns-in-Err-clause-answer : goal.returns-in-Err-clause-answer
returns-in-Err-clause-answer g c =
    fails_from g.I.Source.left c.args.self.now c.requires.none_ahead c.requires.goes_on

pub returns-in-Some-clause-answer : goal.returns-in-Some-clause-answer
returns-in-Some-clause-answer g c =
    let source = ap (λ v. v.source) c.self.view_is in
    let over = ap (λ v. v.ended) c.self.view_is ∙ c.requires.goes_on in
    rw c.byte_step.ensures
    (byte_from g.I.Source.left c.args.self.now c.requires.none_ahead c.requires.goes_on c.fill.new.source
    c.take.new.self c.self.inside.ended over c.in-Some.byte
    (rw (source, c.in-Some.ensures.some) at c.in-Ok.ensures.given))

pub returns-in-None-clause-answer : goal.returns-in-None-clause-answer
returns-in-None-clause-answer g c =
    let source = ap (λ v. v.source) c.self.view_is in
    let none = c.take.ensures.none c.in-None.is in
    rw c.end_step.ensures
    (end_from g.I.Source.left c.args.self.now c.requires.none_ahead c.requires.goes_on c.fill.new.source
    c.take.new.self none.1
    (rw source at c.in-Ok.ensures.end none.0))
