-- The type is refused, or all before it stays.
use Rattle.std.proofs.Common.{subst}
use Rattle.std.specs.Prelude.{Result}
use Rattle.c_types.specs.declared.shape.TypeId.{TypeId}
use Rattle.c_core.specs.declared.fault.TypeFault.{TypeFault}
use Rattle.c_type_parts.specs.Clauses.{AnswersType}
use Rattle.c_type_parts.proofs.Stands.{type_refused, type_given}
use Rattle.c_type_parts.proofs.words.type_seen.Goals as goal

pub returns-in-Err : goal.returns-in-Err
returns-in-Err c = λ answer old now types scopes answers.
    type_refused _ answer c.in-Err.fault
    (subst (λ (of : Result TypeId TypeFault). AnswersType answer old scopes types of) c.in-Err.is answers)

pub returns-in-Ok : goal.returns-in-Ok
returns-in-Ok c = λ answer old now types scopes answers.
    type_given now old types c.args.before c.in-Ok.of answer scopes
    (subst (λ (of : Result TypeId TypeFault). AnswersType answer old scopes types of) c.in-Ok.is answers)
