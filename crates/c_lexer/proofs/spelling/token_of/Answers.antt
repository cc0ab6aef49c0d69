-- A text spells at most one token.
use Rattle.c_lexer.proofs.TokenLaws.{only_one}
use Rattle.c_lexer.proofs.spelling.token_of.Goals as goal

pub returns-clause-only : goal.returns-clause-only
returns-clause-only c = only_one c.args.text.now c.read_token.result c.read_token.ensures.found
