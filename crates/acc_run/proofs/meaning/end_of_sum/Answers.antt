-- One summand more.
use Rattle.std.proofs.Common.{get_or, arith}
use Rattle.acc_run.specs.Program.{plus_term}
use Rattle.acc_run.proofs.Lengths.{length_term, length_front}
use Rattle.acc_run.proofs.meaning.end_of_sum.Goals as goal

pub overflow_add-column : goal.overflow_add-column
overflow_add-column c =
    omega (
      arith,
      length_term (get_or c.args.rest.now c.loop-summand.summand-index 0),
      length_front plus_term c.args.rest.now c.loop-summand.summand-index c.loop-summand-test.true,
    )

pub overflow_add-column-in-loop-summand : goal.overflow_add-column-in-loop-summand
overflow_add-column-in-loop-summand c =
    omega (
      arith,
      length_term (get_or c.args.rest.now c.loop-summand.summand-index 0),
      length_front plus_term c.args.rest.now c.loop-summand.summand-index c.loop-summand-test.true,
    )
