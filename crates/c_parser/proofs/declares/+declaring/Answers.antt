-- The goals of the functions that declare the names of a node that are answered by hand.
use Rattle.std.proofs.Common.{rules, ◌∙◌, ap, append_assoc}
use Rattle.std.proofs.lemmas.Result.{IfOk-equal}
use Rattle.c_syntax.specs.Scopes.{expr_adds, specifier_adds}
use Rattle.c_syntax.specs.View.{expr_of, specifier_of}
use Rattle.c_parser.proofs.Adding.{call_adds, measure_adds, cast_adds, compound_adds, enum_adds}
use Rattle.c_parser.proofs.Adding.{specifiers_listed_add, member_listed_adds}
use Rattle.c_parser.proofs.declares.+declaring.Goals as goal

pub declare_expr-returns-in_ok-declare_expr-in-Call : goal.declare_expr-returns-in_ok-declare_expr-in-Call
declare_expr-returns-in_ok-declare_expr-in-Call t c =
    let e = ap (λ x. expr_adds (expr_of x)) c.in-Call.is
    ∙ call_adds c.in-Call.field-0 c.in-Call.function c.in-Call.list in
    rw e (search (rules, IfOk-equal, append_assoc))

pub declare_expr-returns-in-Measure : goal.declare_expr-returns-in-Measure
declare_expr-returns-in-Measure t c =
    let e = ap (λ x. expr_adds (expr_of x)) c.in-Measure.is
    ∙ measure_adds c.in-Measure.field-0 c.in-Measure.field-1 c.in-Measure.of in
    rw e (search (rules, IfOk-equal, append_assoc))

pub declare_expr-returns-in_ok-declare_type_name-in-Cast : goal.declare_expr-returns-in_ok-declare_type_name-in-Cast
declare_expr-returns-in_ok-declare_type_name-in-Cast t c =
    let e = ap (λ x. expr_adds (expr_of x)) c.in-Cast.is ∙ cast_adds c.in-Cast.field-0 c.in-Cast.to c.in-Cast.operand in
    rw e (search (rules, IfOk-equal, append_assoc))

pub declare_type_name-returns : goal.declare_type_name-returns
declare_type_name-returns t c =
    rw (specifiers_listed_add c.args.of.now.specifiers.items) (search (rules, IfOk-equal, append_assoc))

pub declare_member-returns : goal.declare_member-returns
declare_member-returns t c = rw (member_listed_adds c.args.each.now) (search (rules, IfOk-equal, append_assoc))

pub declare_specifier-returns-in-Compound : goal.declare_specifier-returns-in-Compound
declare_specifier-returns-in-Compound t c =
    let e = ap (λ x. specifier_adds (specifier_of x)) c.in-Compound.is
    ∙ compound_adds c.in-Compound.field-0 c.in-Compound.field-1 c.in-Compound.field-2 c.in-Compound.list in
    rw e (search (rules, IfOk-equal, append_assoc))

pub declare_specifier-returns-in-Enum : goal.declare_specifier-returns-in-Enum
declare_specifier-returns-in-Enum t c =
    let e = ap (λ x. specifier_adds (specifier_of x)) c.in-Enum.is
    ∙ enum_adds c.in-Enum.field-0 c.in-Enum.field-1 c.in-Enum.list c.in-Enum.field-3 in
    rw e (search (rules, IfOk-equal, append_assoc))
