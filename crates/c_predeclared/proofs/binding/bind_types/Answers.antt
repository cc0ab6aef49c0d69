-- No name, and one more.
use Rattle.std.proofs.Common.{ap}
use Rattle.c_types.specs.CType.{CType}
use Rattle.c_scopes.specs.Named.{TypedefOf}
use Rattle.c_predeclared.specs.Predeclared as spec
use Rattle.c_predeclared.proofs.AddingUp.{binds_none, binds_more, binds_as}
use Rattle.c_predeclared.proofs.binding.bind_types.Goals as goal

pub loop-entry-init : goal.loop-entry-init
loop-entry-init c = binds_none _ _ c.requires

pub loop-entry-preserved : goal.loop-entry-preserved
loop-entry-preserved c =
    binds_more (λ row. spec.type row.0.now row.1) c.args.names.now c.loop-entry.entry-index _ c.loop-entry-test.true
    c.loop-entry.invariant
    (binds_as (ap (λ (t : CType). TypedefOf t) c.basic.ensures.stands_for) c.in_ok-bind_one.ensures)
