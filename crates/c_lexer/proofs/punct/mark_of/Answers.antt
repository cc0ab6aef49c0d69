-- By the table of marks.
use Rattle.c_lexer.proofs.MarkLaws.{mark_found, mark_none}
use Rattle.c_lexer.proofs.punct.mark_of.Goals as goal

pub returns-clause-found : goal.returns-clause-found
returns-clause-found c = mark_found c.args.text.now c.read_mark.result c.read_mark.ensures

pub returns-clause-none : goal.returns-clause-none
returns-clause-none c = mark_none c.args.text.now c.read_mark.result c.read_mark.ensures
