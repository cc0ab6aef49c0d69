-- Pointers and functions, one behind the other.
use Rattle.c_predeclared.proofs.AddingUp.{binds_then}
use Rattle.c_predeclared.proofs.predeclared_scope.bind_derived_names.Goals as goal

pub returns : goal.returns
returns c = binds_then c.in_ok-bind_null.ensures
    (binds_then c.in_ok-bind_handler.ensures c.in_ok-bind_library.ensures)
