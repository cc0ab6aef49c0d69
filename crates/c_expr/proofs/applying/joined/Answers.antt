-- Of each operator its rule.
use Rattle.std.proofs.Common.{ap, subst}
use Rattle.c_types.specs.Structures.{structures_of}
use Rattle.c_core.specs.declared.operator.Comparison.{Comparison}
use Rattle.c_core.specs.declared.operator.Operator.{Operator}
use Rattle.c_scopes.specs.Clauses.{Rules}
use Rattle.c_scopes.specs.Env.{env_of}
use Rattle.c_conversions.specs.Parts.{part_of, PartIn}
use Rattle.c_operator_rules.specs.Assignment.{compound_rule}
use Rattle.c_operator_rules.specs.Binary.{binary_rule}
use Rattle.c_operator_rules.specs.Comparisons.{comparison_rule}
use Rattle.c_expr.specs.Uses.{joined}
use Rattle.c_type_parts.proofs.Steps.{answers_as, settled}
use Rattle.c_expr.proofs.applying.joined.Goals as goal

pub returns-in-Arithmetic : goal.returns-in-Arithmetic
unfolding joined
returns-in-Arithmetic c = λ scopes here.
    let types = c.args.types.now in
    let l = part_of types c.args.operands.left in
    let r = part_of types c.args.operands.right in
    answers_as part_of PartIn _ _ _ _ _ _
    (ap (λ operator. joined c.args.places.at c.args.places.right operator l r (env_of scopes types)) c.in-Arithmetic.is)
    (settled part_of PartIn _ _ scopes _ _ _ here
    (subst (λ (operator : Operator). Rules part_of PartIn (binary_rule (structures_of types) c.args.places.at operator
    l r) c.args.places.at types types c.binary.result) c.operator_of.ensures c.binary.ensures))

pub returns-in-Comparison : goal.returns-in-Comparison
unfolding joined
returns-in-Comparison c = λ scopes here.
    let types = c.args.types.now in
    let l = part_of types c.args.operands.left in
    let r = part_of types c.args.operands.right in
    answers_as part_of PartIn _ _ _ _ _ _
    (ap (λ operator. joined c.args.places.at c.args.places.right operator l r (env_of scopes types)) c.in-Comparison.is)
    (settled part_of PartIn _ _ scopes _ _ _ here
    (subst (λ (relation : Comparison). Rules part_of PartIn (comparison_rule c.args.places.at relation l r)
    c.args.places.at types types c.comparison.result) c.comparison_of.ensures c.comparison.ensures))

pub returns-in-AndAlso : goal.returns-in-AndAlso
unfolding joined
returns-in-AndAlso c = λ scopes here.
    let types = c.args.types.now in
    let l = part_of types c.args.operands.left in
    let r = part_of types c.args.operands.right in
    answers_as part_of PartIn _ _ _ _ _ _
    (ap (λ operator. joined c.args.places.at c.args.places.right operator l r (env_of scopes types)) c.in-AndAlso.is)
    (settled part_of PartIn _ _ scopes _ _ _ here c.and_also.ensures)

pub returns-in-OrElse : goal.returns-in-OrElse
unfolding joined
returns-in-OrElse c = λ scopes here.
    let types = c.args.types.now in
    let l = part_of types c.args.operands.left in
    let r = part_of types c.args.operands.right in
    answers_as part_of PartIn _ _ _ _ _ _
    (ap (λ operator. joined c.args.places.at c.args.places.right operator l r (env_of scopes types)) c.in-OrElse.is)
    (settled part_of PartIn _ _ scopes _ _ _ here c.or_else.ensures)

pub returns-in-Assign : goal.returns-in-Assign
unfolding joined
returns-in-Assign c = λ scopes here.
    let types = c.args.types.now in
    let l = part_of types c.args.operands.left in
    let r = part_of types c.args.operands.right in
    answers_as part_of PartIn _ _ _ _ _ _
    (ap (λ operator. joined c.args.places.at c.args.places.right operator l r (env_of scopes types)) c.in-Assign.is)
    (c.assigned.ensures scopes here)

pub returns-in-AssignOp : goal.returns-in-AssignOp
unfolding joined
returns-in-AssignOp c = λ scopes here.
    let types = c.args.types.now in
    let l = part_of types c.args.operands.left in
    let r = part_of types c.args.operands.right in
    answers_as part_of PartIn _ _ _ _ _ _
    (ap (λ operator. joined c.args.places.at c.args.places.right operator l r (env_of scopes types)) c.in-AssignOp.is)
    (settled part_of PartIn _ _ scopes _ _ _ here
    (subst (λ (operator : Operator). Rules part_of PartIn (compound_rule (structures_of types) c.args.places.at operator
    l r) c.args.places.at types c.compound.new.types c.compound.result) c.operator_of-in-AssignOp.ensures
    c.compound.ensures))

pub returns-in-Comma : goal.returns-in-Comma
unfolding joined
returns-in-Comma c = λ scopes here.
    let types = c.args.types.now in
    let l = part_of types c.args.operands.left in
    let r = part_of types c.args.operands.right in
    answers_as part_of PartIn _ _ _ _ _ _
    (ap (λ operator. joined c.args.places.at c.args.places.right operator l r (env_of scopes types)) c.in-Comma.is)
    (c.sequenced.ensures scopes here)
