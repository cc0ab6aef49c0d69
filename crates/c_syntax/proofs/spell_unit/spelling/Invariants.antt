-- What the loop of `spelling` keeps.
use Rattle.std.proofs.Common.{◌≡◌, map, take}
use Rattle.std.specs.List.{flat_map}
use Rattle.c_syntax.specs.SpellingUnit.{spell_external}
use Rattle.c_syntax.specs.ViewUnit.{external_of}
use Rattle.c_syntax.proofs.spell_unit.spelling.Given as goal

abbrev pub invariant-loop-each : goal.invariant-loop-each
invariant-loop-each l =
    l.out.items ≡ flat_map spell_external (map external_of (take l.each-index l.tree.externals.items))
