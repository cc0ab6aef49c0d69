-- The byte goes on with the open part, or ends it and begins the next.
use Rattle.std.proofs.Common.{◌≡◌, [], ◌∷◌, ◌++◌, refl, sym, ◌∙◌, subst}
use Rattle.std.proofs.lemmas.Result.{on_ok_weaker}
use Rattle.c_lexer.specs.ReaderState.{state_of, after_byte, BeginsOr}
use Rattle.c_lexer.specs.ReadSoFar.{IsRead, Anything}
use Rattle.c_lexer.proofs.TakeLaws.{byte_ends_part, byte_goes_on}
use Rattle.c_lexer.proofs.reader.Reader.follow.Goals as goal

pub returns-in-Some-clause-read : goal.returns-in-Some-clause-read
returns-in-Some-clause-read c =
    let before = state_of c.args.self.now in
    on_ok_weaker c.go_on.result
    (λ (is : state_of c.go_on.new.self ≡ after_byte before c.in-Some.mode c.args.byte) bytes none point read.
    subst (λ r. IsRead Anything r (bytes ++ (c.args.byte ∷ []))) (sym is)
    (byte_goes_on before.mode before c.in-Some.mode c.args.byte bytes refl none (sym c.next.ensures
    ∙ c.in-Some.is) read))
    c.go_on.ensures.ok

pub returns-in_ok-close-in-None-clause-read : goal.returns-in_ok-close-in-None-clause-read
returns-in_ok-close-in-None-clause-read c =
    let before = state_of c.args.self.now in
    let mid = state_of c.close.new.self in
    on_ok_weaker c.begin.result
    (λ (begins : BeginsOr mid.refused mid c.args.byte (state_of c.begin.new.self)) bytes none point read.
    byte_ends_part before mid (state_of c.begin.new.self) c.args.byte bytes none point (sym c.next.ensures
    ∙ c.in-None.is) c.in_ok-close-in-None.ensures.ok begins read)
    c.begin.ensures.ok
