-- The goals of `function` that are answered by hand.
use Rattle.std.proofs.Common.{rules, append_assoc}
use Rattle.std.proofs.lemmas.Result.{IfOk-equal}
use Rattle.c_syntax.proofs.SpelledListsUnit.{spells_function}
use Rattle.c_syntax.proofs.spell_unit.function.Goals as goal

pub returns : goal.returns
returns c = rw (spells_function c.args.of.now) (search (rules, IfOk-equal, append_assoc))
