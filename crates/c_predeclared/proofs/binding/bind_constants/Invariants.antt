-- The names so far are bound.
use Rattle.std.proofs.Common.{take, map}
use Rattle.c_predeclared.specs.Binds.{Binds}
use Rattle.c_predeclared.specs.Predeclared as spec
use Rattle.c_predeclared.proofs.binding.bind_constants.Given as goal

abbrev pub invariant-loop-entry : goal.invariant-loop-entry
invariant-loop-entry l =
    Binds (map (λ row. spec.constant row.0.now row.1 row.2) (take l.entry-index l.names)) l.initial.scopes l.types
    l.scopes l.types
