-- By how a string literal is read.
use Rattle.c_lexer.proofs.CharacterLaws.{literal_read, literal_not_read}
use Rattle.c_lexer.proofs.characters.literal_of.Goals as goal

pub returns-clause-found : goal.returns-clause-found
returns-clause-found c = literal_read (λ v. v.items) c.args.text.now c.read_literal.result c.read_literal.ensures

pub returns-clause-none : goal.returns-clause-none
returns-clause-none c = literal_not_read (λ v. v.items) c.args.text.now c.read_literal.result c.read_literal.ensures
