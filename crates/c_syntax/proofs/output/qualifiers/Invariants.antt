-- What the loop of `qualifiers` keeps.
use Rattle.std.proofs.Common.{◌≡◌, ◌++◌, take}
use Rattle.c_syntax.specs.Spelling.{spell_qualifiers}
use Rattle.c_syntax.proofs.output.qualifiers.Given as goal

abbrev pub invariant-loop-qualifier : goal.invariant-loop-qualifier
invariant-loop-qualifier l =
    l.out.items ≡ l.initial.out.items ++ spell_qualifiers (take l.qualifier-index l.qualifiers)
