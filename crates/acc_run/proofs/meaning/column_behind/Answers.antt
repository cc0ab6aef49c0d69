-- One call more.
use Rattle.std.proofs.Common.{get_or, arith}
use Rattle.acc_run.specs.Program.{putchar_call}
use Rattle.acc_run.proofs.Lengths.{length_call, length_front}
use Rattle.acc_run.proofs.meaning.column_behind.Goals as goal

pub overflow_add-column : goal.overflow_add-column
overflow_add-column c =
    omega (
      arith,
      length_call (get_or c.args.outputs.now c.loop-argument.argument-index 0),
      length_front putchar_call c.args.outputs.now c.loop-argument.argument-index c.loop-argument-test.true,
    )

pub overflow_add-column-in-loop-argument : goal.overflow_add-column-in-loop-argument
overflow_add-column-in-loop-argument c =
    omega (
      arith,
      length_call (get_or c.args.outputs.now c.loop-argument.argument-index 0),
      length_front putchar_call c.args.outputs.now c.loop-argument.argument-index c.loop-argument-test.true,
    )
