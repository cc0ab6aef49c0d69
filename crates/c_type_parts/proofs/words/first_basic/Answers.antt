-- The rule of the words fits, or it is refused.
use Rattle.std.proofs.Common.{subst, List}
use Rattle.c_types.specs.CType.{type_of}
use Rattle.c_core.specs.Ids.{IdIn}
use Rattle.c_syntax.specs.declared.specifier.BasicWord.{BasicWord}
use Rattle.c_scopes.specs.Clauses.{BreaksAt, Follows}
use Rattle.c_type_rules.specs.Words.{basic_rule}
use Rattle.c_type_parts.proofs.Stands.{stands_refused, basic_given}
use Rattle.c_type_parts.proofs.words.first_basic.Goals as goal

pub returns-in-Err : goal.returns-in-Err
returns-in-Err c = λ scopes here.
    stands_refused (basic_rule c.args.site.outline.now.words.items) c.args.pos scopes c.args.types.now _ c.in-Err.fault
    (subst (λ (words : List BasicWord). BreaksAt (basic_rule words) c.args.pos c.in-Err.fault)
    c.as_slice.ensures.value c.in-Err.ensures)

pub returns-in-Ok : goal.returns-in-Ok
returns-in-Ok c = λ scopes here.
    basic_given (basic_rule c.args.site.outline.now.words.items) c.args.pos scopes c.args.types.now
    c.args.site.before.storage c.in-Ok.of here
    (subst (λ (words : List BasicWord). Follows (basic_rule words) (type_of c.args.types.now c.in-Ok.of)
    (λ t. IdIn t c.in-Ok.of) c.args.types.now c.args.types.now) c.as_slice.ensures.value c.in-Ok.ensures)
