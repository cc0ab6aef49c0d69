-- The goals of the functions that spell initializers that are answered by hand.
use Rattle.std.proofs.Common.{rules, ◌∙◌, ap, append_assoc}
use Rattle.std.proofs.lemmas.Result.{IfOk-equal}
use Rattle.c_syntax.specs.SpellingUnit.{spell_initializer}
use Rattle.c_syntax.specs.ViewUnit.{initializer_of}
use Rattle.c_syntax.proofs.SpelledListsUnit.{spells_braces}
use Rattle.c_syntax.proofs.spell_unit.+initializers.Goals as goal

pub initializer-returns-in_ok-comma_if-in-Braces : goal.initializer-returns-in_ok-comma_if-in-Braces
initializer-returns-in_ok-comma_if-in-Braces t c =
    let e = ap (λ x. spell_initializer (initializer_of x)) c.in-Braces.is
    ∙ spells_braces c.in-Braces.pos c.in-Braces.list c.in-Braces.comma in
    rw e (search (rules, IfOk-equal, append_assoc))
