-- The members so far, and the rest.
use Rattle.std.proofs.Common.{◌≡◌, ◌++◌, drop}
use Rattle.c_types.specs.Compounds.{members_with}
use Rattle.c_types.proofs.placing.members_with.Given as goal

abbrev pub invariant-loop-i : goal.invariant-loop-i
invariant-loop-i l = l.members.items ++ members_with (drop l.i l.names) (drop l.i l.types) (drop l.i l.places)
    ≡ members_with l.names l.types l.places
