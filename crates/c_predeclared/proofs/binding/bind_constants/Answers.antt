-- No name, and one more.
use Rattle.std.proofs.Common.{rules}
use Rattle.c_predeclared.specs.Predeclared as spec
use Rattle.c_predeclared.proofs.AddingUp.{binds_none, binds_more, binds_constant}
use Rattle.c_predeclared.proofs.binding.bind_constants.Goals as goal

pub loop-entry-init : goal.loop-entry-init
loop-entry-init c = binds_none _ _ c.requires

pub loop-entry-preserved : goal.loop-entry-preserved
loop-entry-preserved c =
    binds_more (λ row. spec.constant row.0.now row.1 row.2) c.args.names.now c.loop-entry.entry-index _
    c.loop-entry-test.true
    c.loop-entry.invariant
    (binds_constant c.basic.ensures.stands_for (search rules) c.in_ok-bind_one.ensures)
