-- The goals of `is_mark` that are answered by hand.
use Rattle.std.proofs.Common.{◌≡◌, Some, option_copied, ◌∙◌, ap, sym}
use Rattle.c_lexer.specs.declared.token.Body.TheVariants as lexeme
use Rattle.c_reading.specs.Parser.{next_body}
use Rattle.c_reading.specs.ReadToken.{is_mark}
use Rattle.c_parser.proofs.NextToken.{mark_tested}
use Rattle.c_parser.proofs.next.is_mark.Goals as goal

pub returns-in-Some-Mark : goal.returns-in-Some-Mark
returns-in-Some-Mark c =
    let here : Some (lexeme.Mark c.in-Some-Mark.next) ≡ next_body c.args.tokens.now =
    sym (ap Some c.in-Some-Mark.field-0-is) ∙ sym (ap option_copied c.in-Some-Mark.is) ∙ c.next_body.ensures in
    c.eq.ensures ∙ mark_tested c.in-Some-Mark.next c.args.mark ∙ ap (is_mark c.args.mark) here
