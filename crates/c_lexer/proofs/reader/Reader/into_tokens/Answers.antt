-- The tokens at the end, or the refusal.
use Rattle.std.proofs.Common.{◌≡◌, refl, subst}
use Rattle.c_lexer.specs.Lexing.{AreTokens}
use Rattle.c_lexer.specs.ReaderState.{state_of}
use Rattle.c_lexer.specs.Stream.{Stream}
use Rattle.c_lexer.proofs.ReaderLaws.{tokens_at_end, refused_end}
use Rattle.c_lexer.proofs.reader.Reader.into_tokens.Goals as goal

pub returns-in-Some-clause-refused : goal.returns-in-Some-clause-refused
returns-in-Some-clause-refused c =
    λ bytes read. refused_end (state_of c.finish.new.self) (c.in-Some.why, c.in-Some.pos) bytes c.in-Some.is
    (c.in_ok-finish.ensures.read bytes read)

pub returns-in-None-clause-tokens : goal.returns-in-None-clause-tokens
returns-in-None-clause-tokens c = λ bytes read.
    let last = state_of c.finish.new.self in
    let stream : Stream = record { tokens = last.tokens; end = last.place.pos } in
    let same : stream ≡ c.new.result =
    (let tokens = c.new.ensures.tokens in let end = c.new.ensures.end in rw (tokens, end) refl) in
    subst (AreTokens bytes) same (tokens_at_end last bytes c.in-None.is (c.in_ok-finish.ensures.whole c.in-None.is)
    (c.in_ok-finish.ensures.read bytes read))
