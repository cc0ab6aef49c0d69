-- No function, and one more.
use Rattle.c_predeclared.specs.Prototypes.{prototyped}
use Rattle.c_predeclared.proofs.AddingUp.{binds_none, binds_more}
use Rattle.c_predeclared.proofs.functions.bind_functions.Goals as goal

pub loop-function-init : goal.loop-function-init
loop-function-init c = binds_none _ _ c.requires

pub loop-function-preserved : goal.loop-function-preserved
loop-function-preserved c =
    binds_more (λ row. prototyped row.0 row.1 row.2 row.3.now) c.args.functions.now c.loop-function.function-index _
    c.loop-function-test.true c.loop-function.invariant c.in_ok-bind_function.ensures
