-- No mark has more than three bytes.
use Rattle.std.proofs.Common.{◌++◌, [], ◌∷◌, sym, arith, length-append}
use Rattle.c_lexer.specs.ReadPart.{extends}
use Rattle.c_lexer.proofs.MarkLaws.{mark_short}
use Rattle.c_lexer.proofs.punct.extends.Goals as goal

pub returns-in_default : goal.returns-in_default
unfolding extends
returns-in_default c =
    sym (mark_short (c.args.text.now ++ (c.args.byte ∷ []))
    (omega (arith, length-append c.args.text.now (c.args.byte ∷ []), c.in_default.len_at_least)))
