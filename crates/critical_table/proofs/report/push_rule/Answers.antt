-- The word and the number are appended one after the other.
use Rattle.std.specs.Prelude.{codes}
use Rattle.std.specs.Fmt.{decimal}
use Rattle.std.proofs.Common.{append_assoc}
use Rattle.critical_table.proofs.report.push_rule.Goals as goal

pub returns-clause-text : goal.returns-clause-text
returns-clause-text c =
    rw (c.push_number.ensures.text, c.push.ensures, c.from.ensures)
    (append_assoc c.args.line.now (codes "Constraint ") (decimal c.args.rule))
