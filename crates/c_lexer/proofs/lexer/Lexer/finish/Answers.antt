-- What the reader gives of the bytes that were fed is the only answer.
use Rattle.std.proofs.Common.{sym, ap}
use Rattle.c_lexer.specs.Feeding.{Progress}
use Rattle.c_lexer.specs.ReaderState.{state_of}
use Rattle.c_lexer.proofs.AnswerLaws.{fed_tokens, fed_fault}
use Rattle.c_lexer.proofs.lexer.Lexer.finish.Goals as goal

pub returns-in-None-clause-tokens : goal.returns-in-None-clause-tokens
returns-in-None-clause-tokens c =
    fed_tokens c.into_tokens.result c.args.self (state_of c.self.inside.reader)
    (ap (λ (p : Progress). p.reader) (sym c.self.view_is)) c.into_tokens.ensures.tokens

pub returns-in-None-clause-refused : goal.returns-in-None-clause-refused
returns-in-None-clause-refused c =
    fed_fault c.into_tokens.result c.args.self (state_of c.self.inside.reader)
    (ap (λ (p : Progress). p.reader) (sym c.self.view_is)) c.into_tokens.ensures.refused
