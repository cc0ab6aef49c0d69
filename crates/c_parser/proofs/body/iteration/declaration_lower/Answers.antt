-- The goals of `declaration_lower` that are answered by hand.
use Rattle.std.proofs.Common.{sym, subst}
use Rattle.c_parser.specs.Agree.{Gives}
use Rattle.c_syntax.specs.ViewUnit.{declaration_of}
use Rattle.c_parser.proofs.LowerStatements.{declaration_below}
use Rattle.c_parser.proofs.body.iteration.declaration_lower.Goals as goal

pub returns-clause-reads : goal.returns-clause-reads
returns-clause-reads c =
    subst (λ r. Gives (λ x. declaration_of x) (r c.args.tokens.now) c.declaration_at.result)
    (sym (declaration_below c.args.h c.args.scope.now c.if-h-eq0.false)) c.declaration_at.ensures.reads
