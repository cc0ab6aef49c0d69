-- By the table of words.
use Rattle.c_lexer.specs.Words.{word_of}
use Rattle.c_lexer.proofs.WordLaws.{word_found, word_none}
use Rattle.c_lexer.proofs.word.word_of.Goals as goal

pub returns-clause-found : goal.returns-clause-found
unfolding word_of
returns-clause-found c = word_found c.args.text.now c.lookup.result c.lookup.ensures

pub returns-clause-none : goal.returns-clause-none
unfolding word_of
returns-clause-none c = word_none c.args.text.now c.lookup.result c.lookup.ensures
