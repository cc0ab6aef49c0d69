-- The goals of the functions that spell expressions, specifiers and declarators that are answered by hand.
use Rattle.std.proofs.Common.{rules, ◌∙◌, ap, append_assoc}
use Rattle.std.proofs.lemmas.Result.{IfOk-equal}
use Rattle.c_syntax.specs.Spelling.{spell, spell_specifier, spell_declarator}
use Rattle.c_syntax.specs.View.{expr_of, specifier_of, declarator_of}
use Rattle.c_syntax.proofs.SpelledLists.{spells_call, spells_measure, spells_cast, spells_specifiers, spells_compound}
use Rattle.c_syntax.proofs.SpelledLists.{spells_enum, spells_function, spells_member}
use Rattle.c_syntax.proofs.spell_expression.+spelling.Goals as goal

pub expression-returns-in_ok-arguments-in-Call : goal.expression-returns-in_ok-arguments-in-Call
expression-returns-in_ok-arguments-in-Call t c =
    let e = ap (λ x. spell (expr_of x)) c.in-Call.is ∙ spells_call c.in-Call.pos c.in-Call.function c.in-Call.list in
    rw e (search (rules, IfOk-equal, append_assoc))

pub expression-returns-in-Measure : goal.expression-returns-in-Measure
expression-returns-in-Measure t c =
    let e = ap (λ x. spell (expr_of x)) c.in-Measure.is
    ∙ spells_measure c.in-Measure.pos c.in-Measure.operator c.in-Measure.of in
    rw e (search (rules, IfOk-equal, append_assoc))

pub expression-returns-in_ok-cast_to-in-Cast : goal.expression-returns-in_ok-cast_to-in-Cast
expression-returns-in_ok-cast_to-in-Cast t c =
    let e = ap (λ x. spell (expr_of x)) c.in-Cast.is ∙ spells_cast c.in-Cast.pos c.in-Cast.to c.in-Cast.operand in
    rw e (search (rules, IfOk-equal, append_assoc))

pub type_name-returns : goal.type_name-returns
type_name-returns t c =
    rw (spells_specifiers c.args.of.now.specifiers.items) (search (rules, IfOk-equal, append_assoc))

pub parameter-returns : goal.parameter-returns
parameter-returns t c =
    rw (spells_specifiers c.args.each.now.specifiers.items) (search (rules, IfOk-equal, append_assoc))

pub member-returns : goal.member-returns
member-returns t c = rw (spells_member c.args.each.now) (search (rules, IfOk-equal, append_assoc))

pub specifier-returns-in_ok-members-in-Compound : goal.specifier-returns-in_ok-members-in-Compound
specifier-returns-in_ok-members-in-Compound t c =
    let e = ap (λ x. spell_specifier (specifier_of x)) c.in-Compound.is
    ∙ spells_compound c.in-Compound.pos c.in-Compound.compound c.in-Compound.named c.in-Compound.list in
    rw e (search (rules, IfOk-equal, append_assoc))

pub specifier-returns-in_ok-comma_if-in-Enum : goal.specifier-returns-in_ok-comma_if-in-Enum
specifier-returns-in_ok-comma_if-in-Enum t c =
    let e = ap (λ x. spell_specifier (specifier_of x)) c.in-Enum.is
    ∙ spells_enum c.in-Enum.pos c.in-Enum.named c.in-Enum.list c.in-Enum.comma in
    rw e (search (rules, IfOk-equal, append_assoc))

pub declarator-returns-in_ok-ellipsis_if-in-FunctionOf : goal.declarator-returns-in_ok-ellipsis_if-in-FunctionOf
declarator-returns-in_ok-ellipsis_if-in-FunctionOf t c =
    let e = ap (λ x. spell_declarator (declarator_of x)) c.in-FunctionOf.is
    ∙ spells_function c.in-FunctionOf.inner c.in-FunctionOf.list c.in-FunctionOf.variadic in
    rw e (search (rules, IfOk-equal, append_assoc))
