-- Each job is the one that the words ask for.
use Rattle.std.proofs.Common.{◌≡◌, sym, ◌∙◌, ap}
use Rattle.std.specs.Prelude.{Some}
use Rattle.acc_run.specs.JobView.{job_view}
use Rattle.acc_run.specs.Job.{Table, job_of}
use Rattle.acc_run.specs.Answer.{observe}
use Rattle.acc_run.proofs.AnswerSteps.{performs_table}
use Rattle.acc_run.proofs.top.perform.Goals as goal

pub returns-in-Some-Table-clause-performs : goal.returns-in-Some-Table-clause-performs
returns-in-Some-Table-clause-performs g c =
    let job : job_of c.args.words.now ≡ Some Table = sym c.in-Some-Table.ensures
    ∙ ap (λ j. Some (job_view j)) c.in-Some-Table.field-0-is in
    performs_table c.args.words.now (observe g.S.Shelf.faults g.S.Shelf.contents c.args.shelf.now c.args.shelf.now)
    (observe g.O.Sink.faults g.O.Sink.written c.args.out.now c.table.new.out) c.table.result job
    c.table.ensures.performs
