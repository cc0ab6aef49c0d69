-- The goals of `is_word` that are answered by hand.
use Rattle.std.proofs.Common.{◌≡◌, Some, option_copied, ◌∙◌, ap, sym}
use Rattle.c_lexer.specs.declared.token.Body.TheVariants as lexeme
use Rattle.c_reading.specs.Parser.{next_body}
use Rattle.c_reading.specs.ReadToken.{is_word}
use Rattle.c_parser.proofs.NextToken.{word_tested}
use Rattle.c_parser.proofs.next.is_word.Goals as goal

pub returns-in-Some-Word : goal.returns-in-Some-Word
returns-in-Some-Word c =
    let here : Some (lexeme.Word c.in-Some-Word.next) ≡ next_body c.args.tokens.now =
    sym (ap Some c.in-Some-Word.field-0-is) ∙ sym (ap option_copied c.in-Some-Word.is) ∙ c.next_body.ensures in
    c.eq.ensures ∙ word_tested c.in-Some-Word.next c.args.word ∙ ap (is_word c.args.word) here
