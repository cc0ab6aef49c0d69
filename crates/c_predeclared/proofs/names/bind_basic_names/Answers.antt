-- Types, constants and limits, one behind the other.
use Rattle.c_predeclared.proofs.AddingUp.{binds_then}
use Rattle.c_predeclared.proofs.names.bind_basic_names.Goals as goal

pub returns : goal.returns
returns c = binds_then c.in_ok-bind_type_names.ensures
    (binds_then c.in_ok-bind_constant_names.ensures c.in_ok-bind_limits.ensures)
