-- The types so far are made.
use Rattle.std.proofs.Common.{take}
use Rattle.c_predeclared.specs.Prototypes.{MakesParts}
use Rattle.c_predeclared.proofs.prototypes.part_types.Given as goal

abbrev pub invariant-loop-part : goal.invariant-loop-part
invariant-loop-part l = MakesParts (take l.part-index l.parts) l.initial.types l.types l.made.items
