-- What is answered is the only answer; spans stand in order, and there are no more tokens than bytes.
use Rattle.std.proofs.Common.{◌≡◌, inr, ℕ, ◌+◌, ◌≤◌, List, [], ◌∷◌, length, sym, ◌∙◌, ap, subst, arith, length-append}
use Rattle.std.specs.Prelude.{Result, Ok, Err, IfOk, IfErr}
use Rattle.c_lexer.specs.declared.fault.LexFault.{LexFault}
use Rattle.c_lexer.specs.declared.fault.LexFault.TheVariants.{Refused, Memory}
use Rattle.c_lexer.specs.declared.place.Place.{Place}
use Rattle.c_lexer.specs.declared.token.Token.{Token}
use Rattle.c_lexer.specs.Feeding.{AreInOrder, AreOnlyTokens, IsReadFault, IsFault, Progress, IsFed}
use Rattle.c_lexer.specs.Lexing.{start, greatest_size, tokens_of, place_behind, Splits, AreTokens}
use Rattle.c_lexer.specs.LexicalParts.{Part, White, Spelled}
use Rattle.c_lexer.specs.ReaderState.{ReaderState}
use Rattle.c_lexer.specs.ReadSoFar.{Anything, IsRead}
use Rattle.c_lexer.specs.Stream.{Stream}
use Rattle.c_lexer.proofs.SplitLaws.{same_tokens, tokens_or_refused, same_refusal, spelled_some}

-- spans in order stand in order from an earlier place too
earlier : (at from end : ℕ) (tokens : List Token) → at ≤ from → AreInOrder from tokens end → AreInOrder at tokens end
earlier at from end [] le order = omega (arith, le, order)
earlier at from end (token ∷ tokens) le order = (omega (arith, le, order.0), order.1, order.2)

-- the spans of the tokens of a split stand in order
spans : (place : Place) (parts : List Part) (bytes rest : List ℕ) → Splits place.at_line_start bytes parts rest
    → AreInOrder place.at (tokens_of place parts) (place.at + length bytes)
spans place [] bytes rest split = omega arith
spans place (White text ∷ parts) bytes rest split =
    let then = place_behind place (White text) in
    let len : length bytes ≡ length text + length split.0 = ap length split.1.parts ∙ length-append text split.0 in
    subst (AreInOrder place.at (tokens_of then parts)) (omega (arith, len))
    (earlier place.at then.at (then.at + length split.0) (tokens_of then parts) (omega arith) (spans
    then parts split.0 rest split.2))
spans place (Spelled text token ∷ parts) bytes rest split =
    let then = place_behind place (Spelled text token) in
    let len : length bytes ≡ length text + length split.0 = ap length split.1.parts ∙ length-append text split.0 in
    let some = spelled_some text token split.1.is in (
      omega arith,
      omega (arith, some),
      subst (AreInOrder then.at (tokens_of then parts)) (omega (arith, len)) (spans
          then parts split.0 rest split.2),
    )

-- spans in order, none of them empty, are no more than their bytes
count_in_order : (at end : ℕ) (tokens : List Token) → AreInOrder at tokens end → at + length tokens ≤ end
count_in_order at end [] order = omega (arith, order)
count_in_order at end (token ∷ tokens) order =
    omega (arith, order.0, order.1, count_in_order token.to end tokens order.2)

-- tokens of the bytes are the only ones
only_tokens : (bytes : List ℕ) (stream : Stream) → length bytes ≤ greatest_size → AreTokens bytes stream
    → AreOnlyTokens bytes stream
only_tokens bytes stream few tokens =
    let order : AreInOrder 0 stream.tokens (length bytes) =
    subst (λ ts. AreInOrder 0 ts (length bytes)) (sym tokens.tokens)
    (subst (AreInOrder 0 (tokens_of start tokens.parts)) (omega arith)
    (spans start tokens.parts bytes [] tokens.split)) in
    record {
      few = few;
      tokens = tokens;
      only = λ other also. same_tokens bytes other stream also tokens;
      in_order = order;
      no_more = omega (arith, count_in_order 0 (length bytes) stream.tokens order);
    }

-- a refusal of the bytes is the only one
only_fault : (bytes : List ℕ) (fault : LexFault) → length bytes ≤ greatest_size → IsReadFault bytes fault
    → IsFault bytes fault
only_fault bytes (Memory cause) few memory = tt
only_fault bytes (Refused why pos) few refused = inr (record {
  few = few;
  refused = refused;
  only = λ other place one. same_refusal bytes other why place pos one refused;
  no_tokens = λ stream tokens. tokens_or_refused bytes stream why pos tokens refused;
})

-- what a reader gives of the bytes that were fed, as `finish` says it: tokens
pub fed_tokens : (r : Result Stream LexFault) (progress : Progress) (last : ReaderState) → progress.reader ≡ last
    → IfOk r (λ stream. (bytes : List ℕ) → IsRead Anything last bytes → AreTokens bytes stream)
    → IfOk r (λ stream. (bytes : List ℕ) → IsFed progress bytes → AreOnlyTokens bytes stream)
fed_tokens (Err fault) progress last is tokens = tt
fed_tokens (Ok stream) progress last is tokens =
    λ bytes fed. only_tokens bytes stream fed.few (tokens bytes (subst (λ r. IsRead Anything r bytes) is fed.read))

-- and a fault
pub fed_fault : (r : Result Stream LexFault) (progress : Progress) (last : ReaderState) → progress.reader ≡ last
    → IfErr r (λ fault. (bytes : List ℕ) → IsRead Anything last bytes → IsReadFault bytes fault)
    → IfErr r (λ fault. (bytes : List ℕ) → IsFed progress bytes → IsFault bytes fault)
fed_fault (Ok stream) progress last is refused = tt
fed_fault (Err fault) progress last is refused =
    λ bytes fed. only_fault bytes fault fed.few (refused bytes (subst (λ r. IsRead Anything r bytes) is fed.read))
