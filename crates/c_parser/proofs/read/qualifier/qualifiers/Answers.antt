-- The goals of `qualifiers` that are answered by hand.
use Rattle.std.proofs.Common.{◌≡◌, false, List, Some, None, Option, is_some, refl, sym, ◌∙◌, ap}
use Rattle.c_lexer.specs.declared.token.Token.{Token}
use Rattle.c_syntax.specs.declared.specifier.Qualifier.{Qualifier}
use Rattle.c_reading.specs.Parser.{Found, next_body, tail}
use Rattle.c_reading.specs.ReadToken.{qualifier_of}
use Rattle.c_reading.specs.ReadDeclarator.{qualifier_by, qualifier, qualifiers}
use Rattle.c_reading.proofs.Online.Declarator.{qualifier_online, qualifier_takes}
use Rattle.c_parser.proofs.Turns.{all_over, all_turn}
use Rattle.c_parser.proofs.read.qualifier.qualifiers.Goals as goal

read_one : (tokens rest : List Token) (word : Qualifier) → Some word ≡ qualifier_of (next_body tokens)
    → rest ≡ tail tokens → qualifier tokens ≡ Found word rest
unfolding qualifier
read_one tokens rest word e past = ap (λ o. qualifier_by o tokens) (sym e) ∙ ap (λ ts. Found word ts) (sym past)

none_left : (r o : Option Qualifier) → r ≡ o → ((word : Qualifier) → r ≡ Some word → ⊥) → is_some o ≡ false
none_left None o e none = ap is_some (sym e)
none_left (Some word) o e none = absurd (none word refl)

pub words-preserved : goal.words-preserved
unfolding qualifiers
words-preserved c = λ scope.
    all_turn (λ s o. is_some (qualifier_of o)) (λ s. qualifier) (λ s word. s) (λ s. qualifier_online) (λ s. refl)
    (λ s. qualifier_takes) _ c.words.all.items scope c.words.rest.now (c.words.invariant scope)
    c.tail-rest.result.now c.in-Some.word _ scope c.in_ok-push.ensures.items refl
    (sym (ap is_some c.in-Some.ensures))
    (read_one c.words.rest.now c.tail-rest.result.now c.in-Some.word c.in-Some.ensures c.tail-rest.ensures)

pub returns : goal.returns
unfolding qualifiers
returns c = λ scope.
    all_over (λ s o. is_some (qualifier_of o)) (λ s. qualifier) (λ s word. s) (λ s. qualifier_online) (λ s. refl)
    (λ s. qualifier_takes) _ c.words.all.items scope c.words.rest.now (c.words.invariant scope)
    (none_left c.qualifier_of.result _ c.qualifier_of.ensures c.in_default.not-Some)
