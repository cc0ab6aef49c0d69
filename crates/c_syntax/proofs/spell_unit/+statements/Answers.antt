-- The goals of the functions that spell statements that are answered by hand.
use Rattle.std.proofs.Common.{rules, ◌∙◌, ap, append_assoc}
use Rattle.std.proofs.lemmas.Result.{IfOk-equal}
use Rattle.c_syntax.specs.SpellingUnit.{spell_statement}
use Rattle.c_syntax.specs.ViewUnit.{statement_of}
use Rattle.c_syntax.proofs.SpelledListsUnit.{spells_block, spells_switch}
use Rattle.c_syntax.proofs.spell_unit.+statements.Goals as goal

pub statement-returns-in-Block : goal.statement-returns-in-Block
statement-returns-in-Block t c =
    let e = ap (λ x. spell_statement (statement_of x)) c.in-Block.is ∙ spells_block c.in-Block.list in
    rw e (search (rules, IfOk-equal, append_assoc))

pub statement-returns-in_ok-head-in-Switch : goal.statement-returns-in_ok-head-in-Switch
statement-returns-in_ok-head-in-Switch t c =
    let e = ap (λ x. spell_statement (statement_of x)) c.in-Switch.is
    ∙ spells_switch c.in-Switch.pos c.in-Switch.test c.in-Switch.list in
    rw e (search (rules, IfOk-equal, append_assoc))
