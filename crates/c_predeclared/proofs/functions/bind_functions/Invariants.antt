-- The functions so far are bound.
use Rattle.std.proofs.Common.{take, map}
use Rattle.c_predeclared.specs.Binds.{Binds}
use Rattle.c_predeclared.specs.Prototypes.{prototyped}
use Rattle.c_predeclared.proofs.functions.bind_functions.Given as goal

abbrev pub invariant-loop-function : goal.invariant-loop-function
invariant-loop-function l =
    Binds (map (λ row. prototyped row.0 row.1 row.2 row.3.now) (take l.function-index l.functions)) l.initial.scopes
    l.initial.types l.scopes l.types
