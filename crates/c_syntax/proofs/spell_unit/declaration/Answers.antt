-- The goals of `declaration` that are answered by hand.
use Rattle.std.proofs.Common.{rules, append_assoc}
use Rattle.std.proofs.lemmas.Result.{IfOk-equal}
use Rattle.c_syntax.proofs.SpelledListsUnit.{spells_declaration}
use Rattle.c_syntax.proofs.spell_unit.declaration.Goals as goal

pub returns : goal.returns
returns c = rw (spells_declaration c.args.of.now) (search (rules, IfOk-equal, append_assoc))
