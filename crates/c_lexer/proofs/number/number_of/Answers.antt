-- By how a number is read.
use Rattle.c_lexer.proofs.NumberLaws.{number_found, number_none}
use Rattle.c_lexer.proofs.number.number_of.Goals as goal

pub returns-clause-found : goal.returns-clause-found
returns-clause-found c = number_found c.args.text.now c.read_number.result c.read_number.ensures

pub returns-clause-none : goal.returns-clause-none
returns-clause-none c = number_none c.args.text.now c.read_number.result c.read_number.ensures
