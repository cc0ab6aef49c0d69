-- What the loop of `declare_parameters` keeps.
use Rattle.std.proofs.Common.{◌≡◌, ◌++◌, take}
use Rattle.std.specs.List.{flat_map}
use Rattle.c_syntax.specs.Scopes.{parameter_adds}
use Rattle.c_syntax.specs.View.{parameter_of}
use Rattle.c_parser.proofs.declares.declare_parameters.Given as goal

abbrev pub invariant-loop-each : goal.invariant-loop-each
invariant-loop-each l =
    l.scope ≡ l.initial.scope ++ flat_map (λ x. parameter_adds (parameter_of x)) (take l.each-index l.list)
