-- The command and its report, put together.
use Rattle.acc_run.specs.Answer.{observe}
use Rattle.acc_run.proofs.AnswerSteps.{answers}
use Rattle.acc_run.proofs.top.acc_main.Goals as goal

pub returns-clause-answer : goal.returns-clause-answer
returns-clause-answer g c =
    answers c.args.words.now (observe g.S.Shelf.faults g.S.Shelf.contents c.args.shelf.now c.perform-ended.new.shelf)
    (record {
      out_0 = g.O.Sink.faults c.args.streams.out;
      out_1 = g.O.Sink.faults c.perform-ended.new.out;
      out_2 = g.O.Sink.faults c.report-ended.new.out;
      err_0 = g.E.Sink.faults c.args.streams.err;
      err_1 = g.E.Sink.faults c.report-ended.new.err;
      output_0 = g.O.Sink.written c.args.streams.out;
      output_1 = g.O.Sink.written c.perform-ended.new.out;
      output_2 = g.O.Sink.written c.report-ended.new.out;
      text_0 = g.E.Sink.written c.args.streams.err;
      text_1 = g.E.Sink.written c.report-ended.new.err;
    })
    c.perform-ended.result c.report-ended.result c.report-ended.ensures.out_never_falls
    c.perform-ended.ensures.performs c.report-ended.ensures.reports
