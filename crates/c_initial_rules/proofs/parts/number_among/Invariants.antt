-- No member so far has the name.
use Rattle.std.proofs.Common.{◌≡◌, map, drop}
use Rattle.c_initial_rules.specs.Parts.{number_among}
use Rattle.c_initial_rules.proofs.PartTargets.{counted, name_of}
use Rattle.c_initial_rules.proofs.parts.number_among.Given as goal

abbrev pub invariant-loop-number : goal.invariant-loop-number
invariant-loop-number l = number_among (map name_of l.members) l.name
    ≡ counted l.number (number_among (map name_of (drop l.number l.members)) l.name)
