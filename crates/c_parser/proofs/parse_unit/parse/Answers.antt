-- The goals of `parse` that are answered by hand.
use Rattle.std.proofs.Common.{◌≡◌, map, sym, ◌∙◌, ap, subst}
use Rattle.c_syntax.specs.Parsing.{SpelledBy, RefusedAt}
use Rattle.c_reading.specs.Parser.{Found, Stopped, Unfit, TooDeep}
use Rattle.c_reading.specs.ReadBody.{externals}
use Rattle.c_syntax.specs.ViewUnit.{external_of}
use Rattle.c_reading.proofs.ParseLaws.{spelled_by}
use Rattle.c_reading.proofs.RefusalLaws.{refused_at, reason_of}
use Rattle.c_parser.proofs.parse_unit.parse.Goals as goal

pub returns-in-Ok-clause-tree : goal.returns-in-Ok-clause-tree
returns-in-Ok-clause-tree c =
    let all = map external_of c.in-Ok.externals.items in
    let read : externals 254 c.args.tokens.now.tokens ≡ Found all c.in-Ok.field-0-1.now =
    ap (externals 254) (sym c.as_slice.ensures) ∙ c.in-Ok.ensures in
    subst (λ pos. SpelledBy c.args.tokens.now (record { externals = all; end = pos })) (sym c.end.ensures)
    (spelled_by c.args.tokens.now all c.in-Ok.field-0-1.now read)

pub returns-in-Err-Unfit-clause-refused : goal.returns-in-Err-Unfit-clause-refused
returns-in-Err-Unfit-clause-refused c =
    let rest = c.in-Err-Unfit.rest.now in
    let read : externals 254 c.args.tokens.now.tokens ≡ Stopped Unfit rest =
    ap (externals 254) (sym c.as_slice.ensures) ∙ (rw c.in-Err-Unfit.field-0-is at c.in-Err-Unfit.ensures) in
    subst (RefusedAt c.args.tokens.now (reason_of Unfit)) (sym c.stopped_at.ensures)
    (refused_at c.args.tokens.now Unfit rest read)

pub returns-in-Err-TooDeep-clause-refused : goal.returns-in-Err-TooDeep-clause-refused
returns-in-Err-TooDeep-clause-refused c =
    let rest = c.in-Err-TooDeep.rest.now in
    let read : externals 254 c.args.tokens.now.tokens ≡ Stopped TooDeep rest =
    ap (externals 254) (sym c.as_slice.ensures) ∙ (rw c.in-Err-TooDeep.field-0-is at c.in-Err-TooDeep.ensures) in
    subst (RefusedAt c.args.tokens.now (reason_of TooDeep)) (sym c.stopped_at-in-Err-TooDeep.ensures)
    (refused_at c.args.tokens.now TooDeep rest read)
