-- What the loop of `declare_types` keeps.
use Rattle.std.proofs.Common.{◌≡◌, ◌++◌, map, take, true}
use Rattle.c_parser.proofs.scope.Scope.declare_types.Given as goal

abbrev pub invariant-loop-bytes : goal.invariant-loop-bytes
invariant-loop-bytes l =
    l.self ≡ l.initial.self ++ map (λ x. record { name = x.now; names_type = true }) (take l.bytes-index l.names)
