-- The goals of `declare_own_parameters` that are answered by hand.
use Rattle.std.proofs.Common.{◌≡◌, true, rules, ◌∙◌, ap, append_assoc}
use Rattle.std.proofs.lemmas.Result.{IfOk-equal}
use Rattle.c_syntax.specs.ScopesUnit.{is_identifier, own_parameters, own_parameters_add}
use Rattle.c_syntax.specs.View.{declarator_of}
use Rattle.c_parser.proofs.Adding.{own_parameters_listed}
use Rattle.c_parser.proofs.declares.+declare_own_parameters.Goals as goal

pub returns-then-is_identifier : goal.returns-then-is_identifier
returns-then-is_identifier t c =
    let named : is_identifier (declarator_of c.in-FunctionOf.inner.value) ≡ true = cc in
    let e = ap (λ x. own_parameters_add (own_parameters (declarator_of x))) c.in-FunctionOf.is
    ∙ own_parameters_listed c.in-FunctionOf.inner c.in-FunctionOf.list c.in-FunctionOf.field-2 named in
    rw e (search (rules, IfOk-equal, append_assoc))
