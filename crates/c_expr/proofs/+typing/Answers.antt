-- The goals of the walk: the parts of a node in order, and then the node by its rule.
use Rattle.std.proofs.Common.{◌≡◌, ◌∙◌, ◌<◌, ap, sym, subst, map, length, arith, rules, ◌≤◌, List, [], refl, ◌==◌}
use Rattle.std.specs.Prelude.{Option, Ok, ◌&&◌, None, Vec, Bool}
use Rattle.std.proofs.lemmas.Result.{err_from_is_err_and}
use Rattle.c_types.specs.CType.{CType, type_of}
use Rattle.c_types.specs.Structures.{structures_of}
use Rattle.c_core.specs.Ids.{CoreIn}
use Rattle.c_core.specs.Tree.{Core}
use Rattle.c_core.specs.View.{core_of}
use Rattle.c_core.proofs.Kept.{core_kept, core_in_kept, type_kept, id_in_kept}
use Rattle.c_syntax.specs.View.{expr_of, exprs, type_name_of, declarator_of, parameter_of, parameters, specifiers_of}
use Rattle.c_syntax.specs.View.{value_of, enumerator_of, enumerators, member_of, members, specifier_of}
use Rattle.c_syntax.proofs.SpelledLists.{call_of, type_measure, casts, function_seen, compound_tree, enum_tree}
use Rattle.c_scopes.specs.Clauses.{Rules, Settles}
use Rattle.c_scopes.specs.Env.{env_of, ScopesIn}
use Rattle.c_scopes.proofs.Growth.{scopes_stay_in}
use Rattle.c_conversions.specs.Parts.{Part, part_of, PartIn}
use Rattle.c_expr_rules.specs.Calls.{call_rule}
use Rattle.c_operator_rules.specs.Conditional.{conditional_rule}
use Rattle.c_operator_rules.specs.Assignment.{postfix_rule}
use Rattle.c_type_parts.specs.Clauses.{Answers, AnswersType, Given, Refused}
use Rattle.c_expr.specs.Clauses.{cores_of}
use Rattle.c_type_parts.specs.Answers.{settle}
use Rattle.c_expr.specs.Operands.{argument_rule, argument_value_rule, callee_parameters, callee_varies, cast_to_rule}
use Rattle.c_expr.specs.Operands.{first_of, types_behind}
use Rattle.c_type_parts.specs.Shapes.{place_of, first_place, names_something}
use Rattle.c_expr.specs.Typing.{typed, side_of, array_length, derived, parameters_typed, declared, enumerated}
use Rattle.c_expr.specs.Typing.{members_typed, one_specified, specified}
use Rattle.c_expr.specs.Uses.{as_argument, as_test, as_unused, as_used, as_value, both, joined, side_as}
use Rattle.c_expr.proofs.Parts.{part_kept, part_in_kept, option_kept, option_in_kept, both_given, side_named}
use Rattle.c_expr.proofs.Parts.{both_named}
use Rattle.c_expr.proofs.Passing.{passing_items, passing_none, passing_next, passing_stopped, passing_end}
use Rattle.c_expr.proofs.Size.{size, exprs_size, type_name_size, declarator_size, parameter_size, parameters_size}
use Rattle.c_expr.proofs.Size.{enumerators_size, members_size, specifier_size, specifiers_size}
use Rattle.c_type_parts.proofs.Steps.{answers_as, breaks_refused_at, given_as, refused_as, refused_later}
use Rattle.c_type_parts.proofs.Steps.{refused_then, settled, settled_at, then_given, then_part}
use Rattle.c_expr.proofs.Within.{size_within}
use Rattle.std.specs.Global.{Global}
use Rattle.c_types.specs.declared.shape.TypeId.{TypeId}
use Rattle.c_types.proofs.Kept.{grows_own}
use Rattle.c_scopes.specs.Scopes.{Scope}
use Rattle.c_type_rules.specs.Qualified.{quals_of_words}
use Rattle.c_type_parts.specs.Declaring.{is_alone, is_first, no_members}
use Rattle.c_type_parts.specs.Seen.{derived_list, AnswersMore, BeforeIn, before_of, members_of, outline_of}
use Rattle.c_expr.specs.Derivations.{DerivationsIn, derivations_of, left_behind, without_names}
use Rattle.c_expr.proofs.Declared.{declared_answers, declared_refused, declarator_refused, name_answers, name_refused}
use Rattle.c_expr.proofs.Declared.{parameter_answers, parameter_refused}
use Rattle.c_expr.proofs.Derivations.{array_given, array_next, array_refused, array_seen, array_step, function_given}
use Rattle.c_expr.proofs.Derivations.{function_next, function_refused, function_step, inner_refused, none_given}
use Rattle.c_expr.proofs.Derivations.{pointer_given, pointer_next, pointer_step}
use Rattle.c_expr.proofs.Lengths.{length_broken, length_given, length_refused}
use Rattle.c_expr.proofs.TypedParameters.{as_many, left_given, left_refused, next_refused, next_some, next_void}
use Rattle.c_expr.proofs.TypedParameters.{parameter_within, typed_end, typed_none}
use Rattle.c_expr.proofs.+typing.Goals.{parameter_lists::parameters_typed-in-Some+in_ok-push}
use Rattle.c_expr.proofs.+typing.Goals.{parameter_lists::parameters_typed-in_default-of}
use Rattle.c_syntax.specs.Tree as tree
use mir.Syntax.{w128}
use mir.Val.{of_z, to_z}
use Rattle.std.proofs.lemmas.Int.{to_z-of_z}
use Rattle.critical_table.specs.declared.pos.Pos.{Pos}
use Rattle.c_syntax.specs.declared.declarator.Declarator as d
use Rattle.c_syntax.specs.declared.specifier.Enumerator as n
use Rattle.c_syntax.specs.declared.specifier.MemberDeclaration as m
use Rattle.c_syntax.specs.declared.specifier.Specifier as s
use Rattle.c_syntax.specs.Tree.{With}
use Rattle.c_type_rules.specs.Enumerators.{first_value}
use Rattle.c_type_rules.specs.Members.{no_member_rule}
use Rattle.c_type_parts.specs.declared.derivations.Around.{Around}
use Rattle.c_type_parts.specs.Tagging.{body_ended, compound_with, enumeration_with, is_union, tagged_compound}
use Rattle.c_expr.proofs.EnumeratorValues.{bound_is_int, next_fits}
use Rattle.c_expr.proofs.EnumeratorWalk.{enumerated_all, enumerated_next, enumerator_refused, value_refused}
use Rattle.c_expr.proofs.GivenValues.{expression_refused, value_answers, value_next}
use Rattle.c_expr.proofs.MemberDeclarations.{base_refused, declarators_answer, no_member_answers, rule_answers}
use Rattle.c_expr.proofs.MemberDeclarations.{type_refused}
use Rattle.c_expr.proofs.MemberWalk.{each_all, each_left, each_next, each_stopped, gathering_all, gathering_next}
use Rattle.c_expr.proofs.MemberWalk.{gathering_stopped}
use Rattle.c_expr.proofs.Smaller.{declarator_smaller, enumerator_smaller, member_smaller, specifier_smaller}
use Rattle.c_expr.proofs.SpecifierWalk.{specifying_all, specifying_next, specifying_stopped}
use Rattle.c_expr.proofs.TypeBodies.{begin_refused, body_refused, compound_given, enumeration_given, list_refused}
use Rattle.c_expr.proofs.TypeBodies.{members_refused, tag_refused}
use Rattle.c_expr.proofs.+typing.Goals as goal

pub expression::used_operand-returns : goal.expression::used_operand-returns
unfolding as_used
expression::used_operand-returns t c =
    then_part part_of PartIn _ _ _ _ _ _ _ _ _ _ c.in_ok-made.ensures
    (settled_at part_of PartIn _ _ _ _ _ _ _ c.place_of.ensures c.in_ok-made.ensures.here c.used.ensures)

pub expression::used_operand-returns-in_err-made : goal.expression::used_operand-returns-in_err-made
unfolding as_used
expression::used_operand-returns-in_err-made t c =
    let p = err_from_is_err_and c.from_residual.result c.from_residual.ensures.1 in
    rw (p.1, p.2) (refused_then _ _ _ c.in_err-made.ensures)

pub expression::value_operand-returns : goal.expression::value_operand-returns
unfolding as_value
expression::value_operand-returns t c =
    then_part part_of PartIn _ _ _ _ _ _ _ _ _ _ c.in_ok-made.ensures
    (settled_at part_of PartIn _ _ _ _ _ _ _ c.place_of.ensures c.in_ok-made.ensures.here c.value.ensures)

pub expression::value_operand-returns-in_err-made : goal.expression::value_operand-returns-in_err-made
unfolding as_value
expression::value_operand-returns-in_err-made t c =
    let p = err_from_is_err_and c.from_residual.result c.from_residual.ensures.1 in
    rw (p.1, p.2) (refused_then _ _ _ c.in_err-made.ensures)

pub expression::unused_core-returns : goal.expression::unused_core-returns
unfolding as_unused
expression::unused_core-returns t c =
    then_part core_of CoreIn _ _ _ _ _ _ _ _ _ _ c.in_ok-made.ensures
    (settled_at core_of CoreIn _ _ _ _ _ _ _ c.place_of.ensures c.in_ok-made.ensures.here c.discard.ensures)

pub expression::unused_core-returns-in_err-made : goal.expression::unused_core-returns-in_err-made
unfolding as_unused
expression::unused_core-returns-in_err-made t c =
    let p = err_from_is_err_and c.from_residual.result c.from_residual.ensures.1 in
    rw (p.1, p.2) (refused_then _ _ _ c.in_err-made.ensures)

pub expression::test_core-returns : goal.expression::test_core-returns
unfolding as_test
expression::test_core-returns t c =
    then_part core_of CoreIn _ _ _ _ _ _ _ _ _ _ c.in_ok-made.ensures
    (settled_at core_of CoreIn _ _ _ _ _ _ _ c.place_of.ensures c.in_ok-made.ensures.here c.test.ensures)

pub expression::test_core-returns-in_err-made : goal.expression::test_core-returns-in_err-made
unfolding as_test
expression::test_core-returns-in_err-made t c =
    let p = err_from_is_err_and c.from_residual.result c.from_residual.ensures.1 in
    rw (p.1, p.2) (refused_then _ _ _ c.in_err-made.ensures)

pub expression::unused_operand-returns : goal.expression::unused_operand-returns
unfolding side_as
expression::unused_operand-returns t c =
    let given = c.in_ok-core.ensures in
    record {
      is = then_given _ _ _ _ given.is;
      is_in = given.is_in;
      here = given.here;
      grown = given.grown;
    }

pub expression::unused_operand-returns-in_err-core : goal.expression::unused_operand-returns-in_err-core
unfolding side_as
expression::unused_operand-returns-in_err-core t c =
    let p = err_from_is_err_and c.from_residual.result c.from_residual.ensures.1 in
    rw (p.1, p.2) (refused_then _ _ _ c.in_err-core.ensures)

pub expression::side_operand-returns-in-Value : goal.expression::side_operand-returns-in-Value
unfolding side_as
expression::side_operand-returns-in-Value t c =
    answers_as part_of PartIn _ _ _ _ _ _
    (ap (λ usage. side_as usage (side_of (expr_of c.args.expr.now)) (env_of c.args.scopes.now c.args.types.now))
    c.in-Value.is) c.value_operand.ensures

pub expression::side_operand-returns-in-Used : goal.expression::side_operand-returns-in-Used
unfolding side_as
expression::side_operand-returns-in-Used t c =
    answers_as part_of PartIn _ _ _ _ _ _
    (ap (λ usage. side_as usage (side_of (expr_of c.args.expr.now)) (env_of c.args.scopes.now c.args.types.now))
    c.in-Used.is) c.used_operand.ensures

pub expression::side_operand-returns-in-Target : goal.expression::side_operand-returns-in-Target
unfolding side_as
expression::side_operand-returns-in-Target t c =
    answers_as part_of PartIn _ _ _ _ _ _
    (ap (λ usage. side_as usage (side_of (expr_of c.args.expr.now)) (env_of c.args.scopes.now c.args.types.now))
    c.in-Target.is) c.operand.ensures

pub expression::side_operand-returns-in-Unused : goal.expression::side_operand-returns-in-Unused
unfolding side_as
expression::side_operand-returns-in-Unused t c =
    answers_as part_of PartIn _ _ _ _ _ _
    (ap (λ usage. side_as usage (side_of (expr_of c.args.expr.now)) (env_of c.args.scopes.now c.args.types.now))
    c.in-Unused.is) c.unused_operand.ensures

pub expression::operand-returns-in-Const : goal.expression::operand-returns-in-Const
unfolding typed
expression::operand-returns-in-Const t c =
    answers_as part_of PartIn _ _ _ _ _ _
    (ap (λ x. typed c.args.used (expr_of x) (env_of c.args.scopes.now c.args.types.now)) c.in-Const.is)
    (settled part_of PartIn _ _ _ _ _ _ c.requires c.constant.ensures)

pub expression::operand-returns-in-Id : goal.expression::operand-returns-in-Id
unfolding typed
expression::operand-returns-in-Id t c =
    answers_as part_of PartIn _ _ _ _ _ _
    (ap (λ x. typed c.args.used (expr_of x) (env_of c.args.scopes.now c.args.types.now)) c.in-Id.is)
    (settled part_of PartIn _ _ _ _ _ _ c.requires c.identifier.ensures)

pub expression::operand-returns-in-Text : goal.expression::operand-returns-in-Text
unfolding typed
expression::operand-returns-in-Text t c =
    answers_as part_of PartIn _ _ _ _ _ _
    (ap (λ x. typed c.args.used (expr_of x) (env_of c.args.scopes.now c.args.types.now)) c.in-Text.is)
    (settled part_of PartIn _ _ _ _ _ _ c.requires c.string_literal.ensures)

pub expression::operand-returns-in-Call : goal.expression::operand-returns-in-Call
unfolding typed
expression::operand-returns-in-Call t c =
    let e = c.in-Call.is in
    let tree = ap expr_of c.in-Call.is ∙ call_of c.in-Call.at c.in-Call.function c.in-Call.arguments in
    rw tree (search rules)

pub expression::operand-returns-in-Measure : goal.expression::operand-returns-in-Measure
unfolding typed
expression::operand-returns-in-Measure t c =
    let e = c.in-Measure.is in
    let tree = ap expr_of c.in-Measure.is ∙ type_measure c.in-Measure.at c.in-Measure.operator c.in-Measure.name in
    rw tree (search rules)

pub expression::operand-returns-in-Cast : goal.expression::operand-returns-in-Cast
unfolding typed
expression::operand-returns-in-Cast t c =
    let e = c.in-Cast.is in
    let tree = ap expr_of c.in-Cast.is ∙ casts c.in-Cast.at c.in-Cast.name c.in-Cast.inner in
    rw tree (search rules)

pub node::two_operands-returns : goal.node::two_operands-returns
unfolding both
node::two_operands-returns t c =
    both_given _ _ c.in_ok-left.left c.in_ok-right.right _ _ _ _ _ c.in_ok-left.ensures c.in_ok-right.ensures

pub node::two_operands-returns-in_err-left : goal.node::two_operands-returns-in_err-left
unfolding both
node::two_operands-returns-in_err-left t c =
    let p = err_from_is_err_and c.from_residual.result c.from_residual.ensures.1 in
    rw (p.1, p.2) (refused_then _ _ _ c.in_err-left.ensures)

pub node::two_operands-returns-in_err-right : goal.node::two_operands-returns-in_err-right
unfolding both
node::two_operands-returns-in_err-right t c =
    let p = err_from_is_err_and c.from_residual-in_err-right.result c.from_residual-in_err-right.ensures.1 in
    rw (p.1, p.2) (refused_later _ _ _ _ _ _ _ _ c.in_ok-left.ensures (refused_then _ _ _ c.in_err-right.ensures))

pub node::index_operand-returns : goal.node::index_operand-returns
unfolding typed
node::index_operand-returns t c =
    then_part part_of PartIn _ _ _ _ _ _ _ _ _ _
    (given_as _ _ _ _ _ _ _ (both_named _ _ _ _ _ c.two_values.ensures) c.in_ok-both.ensures)
    (settled part_of PartIn _ _ _ _ _ _ c.in_ok-both.ensures.here c.index.ensures)

pub node::index_operand-returns-in_err-both : goal.node::index_operand-returns-in_err-both
unfolding typed
node::index_operand-returns-in_err-both t c =
    let p = err_from_is_err_and c.from_residual.result c.from_residual.ensures.1 in
    rw (p.1, p.2) (refused_then _ _ _
    (refused_as _ _ _ (both_named _ _ _ _ _ c.two_values.ensures) c.in_err-both.ensures))

pub node::member_operand-returns : goal.node::member_operand-returns
unfolding typed
node::member_operand-returns t c =
    then_part part_of PartIn _ _ _ _ _ _ _ _ _ _
    (given_as _ _ _ _ _ _ _ (side_named _ _ _ _ c.whole_usage.ensures) c.in_ok-whole.ensures)
    (settled part_of PartIn _ _ _ _ _ _ c.in_ok-whole.ensures.here c.select.ensures)

pub node::member_operand-returns-in_err-whole : goal.node::member_operand-returns-in_err-whole
unfolding typed
node::member_operand-returns-in_err-whole t c =
    let p = err_from_is_err_and c.from_residual.result c.from_residual.ensures.1 in
    rw (p.1, p.2) (refused_then _ _ _
    (refused_as _ _ _ (side_named _ _ _ _ c.whole_usage.ensures) c.in_err-whole.ensures))

pub node::prefix_operand-returns : goal.node::prefix_operand-returns
unfolding typed
node::prefix_operand-returns t c =
    then_part part_of PartIn _ _ _ _ _ _ _ _ _ _
    (given_as _ _ _ _ _ _ _ (side_named _ _ _ _ c.prefix_usage.ensures) c.in_ok-made.ensures)
    (settled part_of PartIn _ _ _ _ _ _ c.in_ok-made.ensures.here c.prefixed.ensures)

pub node::prefix_operand-returns-in_err-made : goal.node::prefix_operand-returns-in_err-made
unfolding typed
node::prefix_operand-returns-in_err-made t c =
    let p = err_from_is_err_and c.from_residual.result c.from_residual.ensures.1 in
    rw (p.1, p.2) (refused_then _ _ _
    (refused_as _ _ _ (side_named _ _ _ _ c.prefix_usage.ensures) c.in_err-made.ensures))

pub node::infix_operand-returns : goal.node::infix_operand-returns
unfolding typed
node::infix_operand-returns t c =
    then_part part_of PartIn _ _ _ _ _ _ _ _ _ _
    (given_as _ _ _ _ _ _ _ (both_named _ _ _ _ _ c.infix_usages-usages.ensures) c.in_ok-both.ensures)
    (subst (λ right. Answers part_of PartIn (joined c.args.node.1 right c.args.node.2
    (part_of c.two_operands.new.types c.in_ok-both.both.left) (part_of c.two_operands.new.types c.in_ok-both.both.right)
    (env_of c.two_operands.new.scopes c.two_operands.new.types)) c.two_operands.new.types c.two_operands.new.scopes
    c.joined.new.types c.joined.result) c.place_of.ensures
    (c.joined.ensures c.two_operands.new.scopes c.in_ok-both.ensures.here))

pub node::infix_operand-returns-in_err-both : goal.node::infix_operand-returns-in_err-both
unfolding typed
node::infix_operand-returns-in_err-both t c =
    let p = err_from_is_err_and c.from_residual.result c.from_residual.ensures.1 in
    rw (p.1, p.2) (refused_then _ _ _
    (refused_as _ _ _ (both_named _ _ _ _ _ c.infix_usages-usages.ensures) c.in_err-both.ensures))

pub node::postfix_operand-returns : goal.node::postfix_operand-returns
unfolding typed
node::postfix_operand-returns t c =
    then_part part_of PartIn _ _ _ _ _ _ _ _ _ _ c.in_ok-made.ensures
    (settled part_of PartIn _ _ _ _ _ _ c.in_ok-made.ensures.here
    (subst (λ back. Rules part_of PartIn (postfix_rule (structures_of c.operand.new.types) c.args.node.0 back
    (part_of c.operand.new.types c.in_ok-made.made)) c.args.node.0 c.operand.new.types c.postfix.new.types
    c.postfix.result) c.is_decrement.ensures c.postfix.ensures))

pub node::postfix_operand-returns-in_err-made : goal.node::postfix_operand-returns-in_err-made
unfolding typed
node::postfix_operand-returns-in_err-made t c =
    let p = err_from_is_err_and c.from_residual.result c.from_residual.ensures.1 in
    rw (p.1, p.2) (refused_then _ _ _ c.in_err-made.ensures)

pub node::measure_operand-returns : goal.node::measure_operand-returns
unfolding typed
node::measure_operand-returns t c =
    then_part part_of PartIn _ _ _ _ _ _ _ _ _ _ c.in_ok-of.ensures
    (settled part_of PartIn _ _ _ _ _ _ c.in_ok-of.ensures.here c.measure.ensures)

pub node::measure_operand-returns-in_err-of : goal.node::measure_operand-returns-in_err-of
unfolding typed
node::measure_operand-returns-in_err-of t c =
    let p = err_from_is_err_and c.from_residual.result c.from_residual.ensures.1 in
    rw (p.1, p.2) (refused_then _ _ _ c.in_err-of.ensures)

pub node::cast_operand-returns : goal.node::cast_operand-returns
unfolding typed
node::cast_operand-returns t c =
    let to = c.in_ok-to.ensures in
    let made = c.in_ok-made.ensures in
    then_part part_of PartIn _ _ _ _ _ _ _ _ _ _ to
    (then_part part_of PartIn _ _ _ _ _ _ _ _ _ _
    (given_as _ _ _ _ _ _ _ (side_named _ _ _ _ c.cast_usage.ensures) made)
    (settled part_of PartIn _ _ _ _ _ _ made.here
    (subst (λ (type : CType). Rules part_of PartIn (cast_to_rule c.args.node.0 type
    (part_of c.side_operand.new.types c.in_ok-made.made)) c.args.node.0 c.side_operand.new.types c.cast_to.new.types
    c.cast_to.result)
    (type_kept c.named.new.types c.side_operand.new.types made.grown c.in_ok-to.to to.is_in) c.cast_to.ensures)))

pub node::cast_operand-returns-in_err-to : goal.node::cast_operand-returns-in_err-to
unfolding typed
node::cast_operand-returns-in_err-to t c =
    let p = err_from_is_err_and c.from_residual.result c.from_residual.ensures.1 in
    rw (p.1, p.2) (refused_then _ _ _ c.in_err-to.ensures)

pub node::cast_operand-returns-in_err-made : goal.node::cast_operand-returns-in_err-made
unfolding typed
node::cast_operand-returns-in_err-made t c =
    let p = err_from_is_err_and c.from_residual-in_err-made.result c.from_residual-in_err-made.ensures.1 in
    rw (p.1, p.2) (refused_later _ _ _ _ _ _ _ _ c.in_ok-to.ensures
    (refused_then _ _ _ (refused_as _ _ _ (side_named _ _ _ _ c.cast_usage.ensures) c.in_err-made.ensures)))

pub node::conditional_operand-returns : goal.node::conditional_operand-returns
unfolding typed
node::conditional_operand-returns t c =
    let test = c.in_ok-test.ensures in
    let both = c.in_ok-both.ensures in
    then_part part_of PartIn _ _ _ _ _ _ _ _ _ _ test
    (then_part part_of PartIn _ _ _ _ _ _ _ _ _ _
    (given_as _ _ _ _ _ _ _ (both_named _ _ _ _ _ c.choice_usages.ensures) both)
    (settled part_of PartIn _ _ _ _ _ _ both.here
    (subst (λ (core : Core). Rules part_of PartIn (conditional_rule c.args.node.1 core
    (part_of c.two_operands.new.types c.in_ok-both.both.left)
    (part_of c.two_operands.new.types c.in_ok-both.both.right)) c.args.node.1 c.two_operands.new.types
    c.conditional.new.types c.conditional.result)
    (core_kept c.test_core.new.types c.two_operands.new.types both.grown c.in_ok-test.test test.is_in)
    c.conditional.ensures)))

pub node::conditional_operand-returns-in_err-test : goal.node::conditional_operand-returns-in_err-test
unfolding typed
node::conditional_operand-returns-in_err-test t c =
    let p = err_from_is_err_and c.from_residual.result c.from_residual.ensures.1 in
    rw (p.1, p.2) (refused_then _ _ _ c.in_err-test.ensures)

pub node::conditional_operand-returns-in_err-both : goal.node::conditional_operand-returns-in_err-both
unfolding typed
node::conditional_operand-returns-in_err-both t c =
    let p = err_from_is_err_and c.from_residual-in_err-both.result c.from_residual-in_err-both.ensures.1 in
    rw (p.1, p.2) (refused_later _ _ _ _ _ _ _ _ c.in_ok-test.ensures
    (refused_then _ _ _ (refused_as _ _ _ (both_named _ _ _ _ _ c.choice_usages.ensures) c.in_err-both.ensures)))

pub call::argument-returns : goal.call::argument-returns
unfolding as_argument
call::argument-returns t c =
    let made = c.in_ok-made.ensures in
    let value = c.in_ok-value.ensures in
    let place = c.place_of-at.ensures in
    let old = c.args.types.now in
    let mid = c.operand.new.types in
    let mid2 = c.argument_value.new.types in
    let parameter = c.args.place.parameter in
    let first = option_kept old mid made.grown parameter c.requires.parameter in
    then_part core_of CoreIn _ _ _ _ _ _ _ _ _ _ made
    (then_part core_of CoreIn _ _ _ _ mid mid2 _ _ _ _
    (settled_at part_of PartIn _ _ _ _ mid mid2 (Ok c.in_ok-value.value) place made.here
    (subst (λ (p : Option CType). Rules part_of PartIn (argument_value_rule (structures_of mid) p
    (part_of mid c.in_ok-made.made)) c.place_of-at.result mid mid2 (Ok c.in_ok-value.value)) first value))
    (settled_at core_of CoreIn _ _ _ _ _ _ _ place
    (scopes_stay_in mid mid2 value.kept.grows c.operand.new.scopes made.here)
    (subst (λ (p : Option CType). Rules core_of CoreIn (argument_rule (structures_of mid2) p c.args.place.variadic
    (part_of mid2 c.in_ok-value.value)) c.place_of-at.result mid2 c.argument_core.new.types c.argument_core.result)
    (option_kept mid mid2 value.kept.grows parameter
    (option_in_kept old mid made.grown parameter c.requires.parameter) ∙ first) c.argument_core.ensures)))

pub call::argument-returns-in_err-made : goal.call::argument-returns-in_err-made
unfolding as_argument
call::argument-returns-in_err-made t c =
    let p = err_from_is_err_and c.from_residual.result c.from_residual.ensures.1 in
    rw (p.1, p.2) (refused_then _ _ _ c.in_err-made.ensures)

pub call::argument-returns-in_err-value : goal.call::argument-returns-in_err-value
unfolding as_argument
call::argument-returns-in_err-value t c =
    let p = err_from_is_err_and c.from_residual-in_err-value.result c.from_residual-in_err-value.ensures.1 in
    let made = c.in_ok-made.ensures in
    let mid = c.operand.new.types in
    let first = option_kept c.args.types.now mid made.grown c.args.place.parameter c.requires.parameter in
    rw (p.1, p.2) (refused_later _ _ _ _ _ _ _ _ made
    (refused_then _ _ _ (refused_as _ _ _ (ap (λ (p : Option CType). settle (place_of (expr_of c.args.expr.now))
    (env_of c.operand.new.scopes mid) (argument_value_rule (structures_of mid) p (part_of mid c.in_ok-made.made)))
    (sym first)) (breaks_refused_at _ _ _ _ _ c.place_of-at.ensures c.in_err-value.ensures))))

pub call::arguments-loop-index-init : goal.call::arguments-loop-index-init
call::arguments-loop-index-init t c =
    passing_none _ _ _ _ _ c.requires.here _ c.new-made.ensures.items

pub call::call_operand-returns : goal.call::call_operand-returns
unfolding typed
call::call_operand-returns t c =
    let function = c.in_ok-function.ensures in
    let all = c.in_ok-arguments.ensures in
    then_part part_of PartIn _ _ _ _ _ _ _ _ _ _ function
    (then_part part_of PartIn _ _ _ _ _ _ _ _ _ _ all
    (settled part_of PartIn _ _ _ _ _ _ all.here
    (subst (λ (f : Part). Rules part_of PartIn (call_rule (structures_of c.arguments.new.types) c.args.node.1
    c.args.node.0 f (cores_of c.arguments.new.types c.in_ok-arguments.arguments)) c.args.node.1
    c.arguments.new.types c.arguments.new.types c.call.result)
    (part_kept c.used_operand.new.types c.arguments.new.types all.grown c.in_ok-function.function function.is_in)
    c.call.ensures)))

pub call::call_operand-returns-in_err-function : goal.call::call_operand-returns-in_err-function
unfolding typed
call::call_operand-returns-in_err-function t c =
    let p = err_from_is_err_and c.from_residual.result c.from_residual.ensures.1 in
    rw (p.1, p.2) (refused_then _ _ _ c.in_err-function.ensures)

pub call::call_operand-returns-in_err-arguments : goal.call::call_operand-returns-in_err-arguments
unfolding typed
call::call_operand-returns-in_err-arguments t c =
    let p = err_from_is_err_and c.from_residual-in_err-arguments.result c.from_residual-in_err-arguments.ensures.1 in
    rw (p.1, p.2) (refused_later _ _ _ _ _ _ _ _ c.in_ok-function.ensures
    (refused_then _ _ _ c.in_err-arguments.ensures))

pub call::arguments-expected_at-place-requires : goal.call::arguments-expected_at-place-requires
call::arguments-expected_at-place-requires t c =
    part_in_kept c.args.types.now c.loop-index.types c.loop-index.invariant.grown c.args.function.now
    c.requires.function

pub call::arguments-argument-requires : goal.call::arguments-argument-requires
call::arguments-argument-requires t c =
    let x = c.index-list-index.result in
    let all = c.args.list.now in
    let within : c.loop-index.index < length all = omega arith in
    let less : size (expr_of x) < exprs_size (exprs (map expr_of all)) =
    subst (λ y. size (expr_of y) < exprs_size (exprs (map expr_of all))) (sym c.index-list-index.is)
    (size_within all c.loop-index.index x within) in
    (omega (arith, c.decreases, less), (c.loop-index.invariant.here, c.expected_at-place.ensures.is_in))

pub call::arguments-loop-index-preserved : goal.call::arguments-loop-index-preserved
call::arguments-loop-index-preserved t c =
    let old = c.args.types.now in
    let mid = c.loop-index.types in
    let function = c.args.function.now in
    let before = c.loop-index.invariant in
    let kept = part_kept old mid before.grown function c.requires.function in
    let place = c.expected_at-place.ensures in
    let within : c.loop-index.index < length c.args.list.now = omega arith in
    passing_items _ _ _ _ _ _ _ _ _ _ c.in_ok-push.ensures.items
    (passing_next _ _ _ c.args.list.now c.loop-index.index c.index-list-index.result old mid c.loop-index.scopes _
    _ _ within c.index-list-index.is before
    (place.parameter
    ∙ ap (λ (p : Part). first_of (types_behind c.loop-index.index (callee_parameters p))) kept)
    (place.variadic ∙ ap callee_varies kept) c.argument.new.types c.argument.new.scopes c.in_ok-core.core
    c.in_ok-core.ensures)

pub call::arguments-returns-in_err-core : goal.call::arguments-returns-in_err-core
call::arguments-returns-in_err-core t c =
    let p = err_from_is_err_and c.from_residual.result c.from_residual.ensures.1 in
    let old = c.args.types.now in
    let mid = c.loop-index.types in
    let function = c.args.function.now in
    let before = c.loop-index.invariant in
    let kept = part_kept old mid before.grown function c.requires.function in
    let place = c.expected_at-place.ensures in
    let within : c.loop-index.index < length c.args.list.now = omega arith in
    rw (p.1, p.2)
    (passing_stopped _ _ _ c.args.list.now c.loop-index.index c.index-list-index.result old mid c.loop-index.scopes _
    _ _ within c.index-list-index.is before
    (place.parameter
    ∙ ap (λ (p : Part). first_of (types_behind c.loop-index.index (callee_parameters p))) kept)
    (place.variadic ∙ ap callee_varies kept) _ c.in_err-core.ensures)

pub call::arguments-returns : goal.call::arguments-returns
call::arguments-returns t c =
    passing_end _ _ _ c.args.list.now c.loop-index.index _ _ _ _ (omega arith) c.loop-index.invariant

pub call::call_operand-call-requires-clause-function : goal.call::call_operand-call-requires-clause-function
call::call_operand-call-requires-clause-function t c =
    part_in_kept c.used_operand.new.types c.arguments.new.types c.in_ok-arguments.ensures.grown
    c.in_ok-function.function c.in_ok-function.ensures.is_in

pub node::conditional_operand-conditional-requires-clause-test :
    goal.node::conditional_operand-conditional-requires-clause-test
node::conditional_operand-conditional-requires-clause-test t c =
    core_in_kept c.test_core.new.types c.two_operands.new.types c.in_ok-both.ensures.grown c.in_ok-test.test
    c.in_ok-test.ensures.is_in

pub expression::operand-call_operand-requires : goal.expression::operand-call_operand-requires
expression::operand-call_operand-requires t c =
    let e = ap (λ x. size (expr_of x)) c.in-Call.is
    ∙ ap size (call_of c.in-Call.at c.in-Call.function c.in-Call.arguments) in
    let f : size (expr_of c.deref-in-Call.result.now) ≡ size (expr_of c.in-Call.function.value) = cc in
    let a : exprs_size (exprs (map expr_of c.as_slice.result.now))
    ≡ exprs_size (exprs (map expr_of c.in-Call.arguments.items)) = cc in
    (omega (arith, c.decreases, e, f, a), c.requires)

pub expression::operand-measure_operand-requires : goal.expression::operand-measure_operand-requires
expression::operand-measure_operand-requires t c =
    let e = ap (λ x. size (expr_of x)) c.in-Measure.is
    ∙ ap size (type_measure c.in-Measure.at c.in-Measure.operator c.in-Measure.name) in
    let f : type_name_size (type_name_of c.deref-in-Measure.result.now)
    ≡ type_name_size (type_name_of c.in-Measure.name.value) = cc in
    (omega (arith, c.decreases, e, f), c.requires)

pub expression::operand-cast_operand-requires : goal.expression::operand-cast_operand-requires
expression::operand-cast_operand-requires t c =
    let e = ap (λ x. size (expr_of x)) c.in-Cast.is
    ∙ ap size (casts c.in-Cast.at c.in-Cast.name c.in-Cast.inner) in
    let f : type_name_size (type_name_of c.deref-in-Cast.result.now)
    ≡ type_name_size (type_name_of c.in-Cast.name.value) = cc in
    let g : size (expr_of c.deref-in-Cast-2.result.now) ≡ size (expr_of c.in-Cast.inner.value) = cc in
    (omega (arith, c.decreases, e, f, g), c.requires)

-- ---- lengths of arrays

pub declarators::array_length-returns-in_default : goal.declarators::array_length-returns-in_default
unfolding array_length
declarators::array_length-returns-in_default t c = record {
  is = ap (λ x. array_length (value_of x) (env_of c.args.scopes.now c.args.types.now)) c.in_default.is;
  is_in = tt;
  here = c.requires;
  grown = grows_own c.args.types.now;
}

pub declarators::array_length-returns-in_err-operand : goal.declarators::array_length-returns-in_err-operand
declarators::array_length-returns-in_err-operand t c =
    let p = err_from_is_err_and c.from_residual.result c.from_residual.ensures.1 in
    let env = env_of c.args.scopes.now c.args.types.now in
    let d : c.in-Some.expr.value ≡ c.deref.result.now = cc in
    rw (p.1, p.2) (refused_as _ _ _
    (ap (λ x. array_length (value_of x) env) c.in-Some.is ∙ ap (λ x. array_length (tree.With (expr_of x)) env) d)
    (length_refused (expr_of c.deref.result.now) env _ c.in_err-operand.ensures))

pub declarators::array_length-returns-in_err-n : goal.declarators::array_length-returns-in_err-n
declarators::array_length-returns-in_err-n t c =
    let p = err_from_is_err_and c.from_residual-in_err-n.result c.from_residual-in_err-n.ensures.1 in
    let env = env_of c.args.scopes.now c.args.types.now in
    let d : c.in-Some.expr.value ≡ c.deref.result.now = cc in
    let again : c.deref-2.result.now ≡ c.deref.result.now = cc in
    rw (p.1, p.2) (refused_as _ _ _
    (ap (λ x. array_length (value_of x) env) c.in-Some.is ∙ ap (λ x. array_length (tree.With (expr_of x)) env) d)
    (length_broken (expr_of c.deref.result.now) env c.in_ok-operand.operand c.args.types.now c.used_operand.new.types
    c.used_operand.new.scopes c.constant.result c.in_ok-operand.ensures c.constant.ensures c.place_of.result _
    (c.place_of.ensures ∙ ap (λ x. place_of (expr_of x)) again) c.in_err-n.ensures))

pub declarators::array_length-returns : goal.declarators::array_length-returns
declarators::array_length-returns t c =
    let env = env_of c.args.scopes.now c.args.types.now in
    let d : c.in-Some.expr.value ≡ c.deref.result.now = cc in
    given_as _ _ _ _ _ _ _
    (ap (λ x. array_length (value_of x) env) c.in-Some.is ∙ ap (λ x. array_length (tree.With (expr_of x)) env) d)
    (length_given (expr_of c.deref.result.now) env c.in_ok-operand.operand c.args.types.now c.used_operand.new.types
    c.used_operand.new.scopes c.constant.result c.in_ok-operand.ensures c.constant.ensures c.in_ok-n.n
    c.in_ok-n.ensures)

-- ---- declarators

pub declarators::declared_type-returns-in_err-all : goal.declarators::declared_type-returns-in_err-all
declarators::declared_type-returns-in_err-all t c =
    let p = err_from_is_err_and c.from_residual.result c.from_residual.ensures.1 in
    rw (p.1, p.2) (declared_refused (declarator_of c.args.declarator.now) c.args.base.around c.own_around-around.result
    c.args.base.of c.args.types.now c.args.scopes.now c.own_around-around.ensures _ c.in_err-all.ensures)

pub declarators::declared_type-returns : goal.declarators::declared_type-returns
declarators::declared_type-returns t c =
    declared_answers (declarator_of c.args.declarator.now) c.args.base.around c.own_around-around.result
    c.args.base.of c.args.types.now c.args.scopes.now c.own_around-around.ensures c.name_place.result
    c.in_ok-all.all.items c.as_slice.result.now c.derived.new.types c.derived_type.new.types c.derived.new.scopes
    c.derived_type.result c.name_place.ensures c.as_slice.ensures.value c.requires.base c.in_ok-all.ensures
    (c.derived_type.ensures c.derived.new.scopes c.in_ok-all.ensures.here)

pub declarators::derived-returns-in-Omitted : goal.declarators::derived-returns-in-Omitted
unfolding derived
declarators::derived-returns-in-Omitted t c =
    none_given _ c.args.scopes.now c.args.types.now c.new.result.items
    (ap (λ x. without_names (derived c.args.around (declarator_of x) (env_of c.args.scopes.now c.args.types.now)))
    c.in-Omitted.is) c.new.ensures.items c.requires

pub declarators::derived-returns-in-Name : goal.declarators::derived-returns-in-Name
unfolding derived
declarators::derived-returns-in-Name t c =
    none_given _ c.args.scopes.now c.args.types.now c.new-in-Name.result.items
    (ap (λ x. without_names (derived c.args.around (declarator_of x) (env_of c.args.scopes.now c.args.types.now)))
    c.in-Name.is) c.new-in-Name.ensures.items c.requires

pub declarators::derived-returns-in-DParen : goal.declarators::derived-returns-in-DParen
unfolding derived
declarators::derived-returns-in-DParen t c =
    let env = env_of c.args.scopes.now c.args.types.now in
    let d : c.in-DParen.inner.value ≡ c.deref.result.now = cc in
    answers_as derivations_of DerivationsIn _ _ _ _ _ _
    (ap (λ x. without_names (derived c.args.around (declarator_of x) env)) c.in-DParen.is
    ∙ ap (λ x. without_names (derived c.args.around (declarator_of x) env)) d) c.derived.ensures

pub declarators::derived-returns-in_err-all-in-PointerTo : goal.declarators::derived-returns-in_err-all-in-PointerTo
declarators::derived-returns-in_err-all-in-PointerTo t c =
    let p = err_from_is_err_and c.from_residual.result c.from_residual.ensures.1 in
    let env = env_of c.args.scopes.now c.args.types.now in
    let inner = declarator_of c.deref-in-PointerTo.result.now in
    let words = c.in-PointerTo.words.items in
    let d : c.in-PointerTo.inner.value ≡ c.deref-in-PointerTo.result.now = cc in
    rw (p.1, p.2) (inner_refused _ c.args.around inner env (pointer_next words) _
    (ap (λ x. without_names (derived c.args.around (declarator_of x) env)) c.in-PointerTo.is
    ∙ ap (λ x. without_names (derived c.args.around (tree.PointerTo words (declarator_of x)) env)) d
    ∙ pointer_step c.args.around words inner env) c.in_err-all-in-PointerTo.ensures)

pub declarators::derived-returns-in_ok-more-in-PointerTo : goal.declarators::derived-returns-in_ok-more-in-PointerTo
declarators::derived-returns-in_ok-more-in-PointerTo t c =
    let env = env_of c.args.scopes.now c.args.types.now in
    let words = c.in-PointerTo.words.items in
    let d : c.in-PointerTo.inner.value ≡ c.deref-in-PointerTo.result.now = cc in
    pointer_given _ c.args.around (declarator_of c.deref-in-PointerTo.result.now) env c.args.types.now
    c.derived-in-PointerTo.new.types c.derived-in-PointerTo.new.scopes c.in_ok-all-in-PointerTo.all.items
    c.in_ok-more-in-PointerTo.more.items c.in_ok-all-in-PointerTo.ensures words c.qualifiers.result
    (ap (λ x. without_names (derived c.args.around (declarator_of x) env)) c.in-PointerTo.is
    ∙ ap (λ x. without_names (derived c.args.around (tree.PointerTo words (declarator_of x)) env)) d)
    (c.qualifiers.ensures ∙ ap quals_of_words c.as_slice.ensures.value) c.in_ok-more-in-PointerTo.ensures

pub declarators::derived-returns-in_err-all-in-ArrayOf : goal.declarators::derived-returns-in_err-all-in-ArrayOf
declarators::derived-returns-in_err-all-in-ArrayOf t c =
    let p = err_from_is_err_and c.from_residual-in_err-all-in-ArrayOf.result
    c.from_residual-in_err-all-in-ArrayOf.ensures.1 in
    let env = env_of c.args.scopes.now c.args.types.now in
    let inner = declarator_of c.deref-in-ArrayOf.result.now in
    let len = value_of c.in-ArrayOf.length in
    let d : c.in-ArrayOf.inner.value ≡ c.deref-in-ArrayOf.result.now = cc in
    rw (p.1, p.2) (inner_refused _ c.args.around inner env (array_next len) _
    (ap (λ x. without_names (derived c.args.around (declarator_of x) env)) c.in-ArrayOf.is
    ∙ ap (λ x. without_names (derived c.args.around x env)) (array_seen c.in-ArrayOf.inner c.in-ArrayOf.length)
    ∙ ap (λ x. without_names (derived c.args.around (tree.ArrayOf (declarator_of x) len) env)) d
    ∙ array_step c.args.around inner len env) c.in_err-all-in-ArrayOf.ensures)

pub declarators::derived-returns-in_err-n-in-ArrayOf : goal.declarators::derived-returns-in_err-n-in-ArrayOf
declarators::derived-returns-in_err-n-in-ArrayOf t c =
    let p = err_from_is_err_and c.from_residual-in_err-n-in-ArrayOf.result
    c.from_residual-in_err-n-in-ArrayOf.ensures.1 in
    let env = env_of c.args.scopes.now c.args.types.now in
    let len = value_of c.in-ArrayOf.length in
    let d : c.in-ArrayOf.inner.value ≡ c.deref-in-ArrayOf.result.now = cc in
    rw (p.1, p.2) (array_refused _ c.args.around (declarator_of c.deref-in-ArrayOf.result.now) env c.args.types.now
    c.derived-in-ArrayOf.new.types c.derived-in-ArrayOf.new.scopes c.in_ok-all-in-ArrayOf.all.items []
    c.in_ok-all-in-ArrayOf.ensures len _
    (ap (λ x. without_names (derived c.args.around (declarator_of x) env)) c.in-ArrayOf.is
    ∙ ap (λ x. without_names (derived c.args.around x env)) (array_seen c.in-ArrayOf.inner c.in-ArrayOf.length)
    ∙ ap (λ x. without_names (derived c.args.around (tree.ArrayOf (declarator_of x) len) env)) d)
    c.in_err-n-in-ArrayOf.ensures)

pub declarators::derived-returns-in_ok-more-in-ArrayOf : goal.declarators::derived-returns-in_ok-more-in-ArrayOf
declarators::derived-returns-in_ok-more-in-ArrayOf t c =
    let env = env_of c.args.scopes.now c.args.types.now in
    let len = value_of c.in-ArrayOf.length in
    let d : c.in-ArrayOf.inner.value ≡ c.deref-in-ArrayOf.result.now = cc in
    array_given _ c.args.around (declarator_of c.deref-in-ArrayOf.result.now) env c.args.types.now
    c.derived-in-ArrayOf.new.types c.derived-in-ArrayOf.new.scopes c.in_ok-all-in-ArrayOf.all.items
    c.in_ok-more-in-ArrayOf.more.items c.in_ok-all-in-ArrayOf.ensures len c.in_ok-n-in-ArrayOf.n c.length_place.result
    c.array_length.new.types c.array_length.new.scopes
    (ap (λ x. without_names (derived c.args.around (declarator_of x) env)) c.in-ArrayOf.is
    ∙ ap (λ x. without_names (derived c.args.around x env)) (array_seen c.in-ArrayOf.inner c.in-ArrayOf.length)
    ∙ ap (λ x. without_names (derived c.args.around (tree.ArrayOf (declarator_of x) len) env)) d)
    c.length_place.ensures c.in_ok-n-in-ArrayOf.ensures c.in_ok-more-in-ArrayOf.ensures

pub declarators::derived-returns-in_err-all-in-FunctionOf : goal.declarators::derived-returns-in_err-all-in-FunctionOf
declarators::derived-returns-in_err-all-in-FunctionOf t c =
    let p = err_from_is_err_and c.from_residual-in_err-all-in-FunctionOf.result
    c.from_residual-in_err-all-in-FunctionOf.ensures.1 in
    let env = env_of c.args.scopes.now c.args.types.now in
    let inner = declarator_of c.deref-in-FunctionOf.result.now in
    let f = c.in-FunctionOf in
    let list = parameters (map parameter_of f.list.items) in
    let d : f.inner.value ≡ c.deref-in-FunctionOf.result.now = cc in
    rw (p.1, p.2) (inner_refused _ c.args.around inner env (function_next c.args.around list f.variadic) _
    (ap (λ x. without_names (derived c.args.around (declarator_of x) env)) f.is
    ∙ ap (λ x. without_names (derived c.args.around x env)) (function_seen f.inner f.list f.variadic)
    ∙ ap (λ x. without_names (derived c.args.around (tree.FunctionOf (declarator_of x) list f.variadic) env)) d
    ∙ function_step c.args.around inner list f.variadic env) c.in_err-all-in-FunctionOf.ensures)

pub declarators::derived-parameters_typed-requires : goal.declarators::derived-parameters_typed-requires
declarators::derived-parameters_typed-requires t c =
    let f = c.in-FunctionOf in
    let e = ap (λ x. declarator_size (declarator_of x)) f.is
    ∙ ap declarator_size (function_seen f.inner f.list f.variadic) in
    let a = ap (λ all. parameters_size (parameters (map parameter_of all))) c.as_slice-in-FunctionOf-2.ensures.value in
    (omega (arith, c.decreases, e, a), c.in_ok-all-in-FunctionOf.ensures.here)

pub declarators::derived-returns-in_err-types_of-in-FunctionOf :
    goal.declarators::derived-returns-in_err-types_of-in-FunctionOf
declarators::derived-returns-in_err-types_of-in-FunctionOf t c =
    let p = err_from_is_err_and c.from_residual-in_err-types_of-in-FunctionOf.result
    c.from_residual-in_err-types_of-in-FunctionOf.ensures.1 in
    let env = env_of c.args.scopes.now c.args.types.now in
    let f = c.in-FunctionOf in
    let seen = c.as_slice-in-FunctionOf-2 in
    let list = parameters (map parameter_of seen.result.now) in
    let d : f.inner.value ≡ c.deref-in-FunctionOf.result.now = cc in
    rw (p.1, p.2) (function_refused _ c.args.around (declarator_of c.deref-in-FunctionOf.result.now) env
    c.args.types.now c.derived-in-FunctionOf.new.types c.derived-in-FunctionOf.new.scopes
    c.in_ok-all-in-FunctionOf.all.items [] c.in_ok-all-in-FunctionOf.ensures list f.variadic c.is_alone.result
    (ap (λ x. without_names (derived c.args.around (declarator_of x) env)) f.is
    ∙ ap (λ x. without_names (derived c.args.around x env)) (function_seen f.inner f.list f.variadic)
    ∙ (λ i. without_names (derived c.args.around
    (tree.FunctionOf (declarator_of (d i)) (parameters (map parameter_of (sym seen.ensures.value i))) f.variadic) env)))
    (c.is_alone.ensures
    ∙ ap (λ all. is_alone (parameters (map parameter_of all)) f.variadic)
    (c.as_slice-in-FunctionOf.ensures.value ∙ sym seen.ensures.value)) _
    c.in_err-types_of-in-FunctionOf.ensures)

pub declarators::derived-returns-in_ok-more-in-FunctionOf : goal.declarators::derived-returns-in_ok-more-in-FunctionOf
declarators::derived-returns-in_ok-more-in-FunctionOf t c =
    let env = env_of c.args.scopes.now c.args.types.now in
    let mid = c.derived-in-FunctionOf.new.types in
    let f = c.in-FunctionOf in
    let seen = c.as_slice-in-FunctionOf-2 in
    let list = parameters (map parameter_of seen.result.now) in
    let d : f.inner.value ≡ c.deref-in-FunctionOf.result.now = cc in
    function_given _ c.args.around (declarator_of c.deref-in-FunctionOf.result.now) env c.args.types.now mid
    c.derived-in-FunctionOf.new.scopes c.in_ok-all-in-FunctionOf.all.items c.in_ok-more-in-FunctionOf.more.items
    c.in_ok-all-in-FunctionOf.ensures list f.variadic c.is_alone.result
    (ap (λ x. without_names (derived c.args.around (declarator_of x) env)) f.is
    ∙ ap (λ x. without_names (derived c.args.around x env)) (function_seen f.inner f.list f.variadic)
    ∙ (λ i. without_names (derived c.args.around
    (tree.FunctionOf (declarator_of (d i)) (parameters (map parameter_of (sym seen.ensures.value i))) f.variadic) env)))
    (c.is_alone.ensures
    ∙ ap (λ all. is_alone (parameters (map parameter_of all)) f.variadic)
    (c.as_slice-in-FunctionOf.ensures.value ∙ sym seen.ensures.value))
    (record {
      types = c.in_ok-types_of-in-FunctionOf.types_of;
      variadic = f.variadic;
      may_vary = c.may_vary.result;
    }) c.parameters_typed.new.types c.parameters_typed.new.scopes c.in_ok-types_of-in-FunctionOf.ensures refl
    (c.may_vary.ensures mid
    ∙ ap (λ all. c.args.around.may_vary && is_first (derived_list mid all)) c.as_slice-in-FunctionOf-3.ensures.value)
    c.in_ok-more-in-FunctionOf.ensures

-- ---- parameters

pub parameter_lists::parameter_typed-returns-in_err-of : goal.parameter_lists::parameter_typed-returns-in_err-of
parameter_lists::parameter_typed-returns-in_err-of t c =
    let p = err_from_is_err_and c.from_residual.result c.from_residual.ensures.1 in
    rw (p.1, p.2) (parameter_refused c.args.site.function.around (specifiers_of c.args.parameter.now.specifiers.items)
    (specifiers_of c.as_slice.result.now) (declarator_of c.args.parameter.now.declarator) c.bare_context-context.result
    _ (env_of c.args.scopes.now c.args.types.now) (ap specifiers_of c.as_slice.ensures.value) refl
    c.args.site.function.alone c.args.site.number c.bare_context-context.ensures _ c.in_err-of.ensures)

pub parameter_lists::parameter_typed-returns-in_err-declared :
    goal.parameter_lists::parameter_typed-returns-in_err-declared
parameter_lists::parameter_typed-returns-in_err-declared t c =
    let p = err_from_is_err_and c.from_residual-in_err-declared.result c.from_residual-in_err-declared.ensures.1 in
    rw (p.1, p.2) (declarator_refused c.args.site.function.around
    (specifiers_of c.args.parameter.now.specifiers.items) (specifiers_of c.as_slice.result.now)
    (declarator_of c.args.parameter.now.declarator) c.bare_context-context.result c.no_ellipsis.result
    (env_of c.args.scopes.now c.args.types.now) (ap specifiers_of c.as_slice.ensures.value) c.no_ellipsis.ensures
    c.args.site.function.alone c.args.site.number c.bare_context-context.ensures c.in_ok-of.of c.args.types.now
    c.specified.new.types c.specified.new.scopes c.in_ok-of.ensures _ c.in_err-declared.ensures)

pub parameter_lists::parameter_typed-returns : goal.parameter_lists::parameter_typed-returns
parameter_lists::parameter_typed-returns t c =
    parameter_answers c.args.site.function.around
    (specifiers_of c.args.parameter.now.specifiers.items) (specifiers_of c.as_slice.result.now)
    (declarator_of c.args.parameter.now.declarator) c.bare_context-context.result c.no_ellipsis.result
    (env_of c.args.scopes.now c.args.types.now) (ap specifiers_of c.as_slice.ensures.value) c.no_ellipsis.ensures
    c.args.site.function.alone c.args.site.number c.bare_context-context.ensures c.in_ok-of.of c.args.types.now
    c.specified.new.types c.specified.new.scopes c.in_ok-of.ensures c.in_ok-declared.declared c.declared_type.new.types
    c.declared_parameter.new.types c.declared_type.new.scopes c.declared_parameter.new.scopes
    c.declared_parameter.result c.in_ok-declared.ensures c.declared_parameter.ensures

pub parameter_lists::parameters_typed-loop-index-init : goal.parameter_lists::parameters_typed-loop-index-init
parameter_lists::parameters_typed-loop-index-init t c =
    typed_none _ _ _ c.enter.new.self c.args.types.now c.new-all.result.items
    (subst (λ (scopes : List Scope). ScopesIn c.args.types.now scopes) (sym c.in_ok-enter.ensures.opens)
    (tt, tt, c.requires)) c.new-all.ensures.items

pub parameter_lists::parameters_typed-parameter_typed-requires :
    goal.parameter_lists::parameters_typed-parameter_typed-requires
parameter_lists::parameters_typed-parameter_typed-requires t c =
    let x = c.index-list-index.result in
    let all = c.args.list.now in
    let within : c.loop-index.index < length all = omega arith in
    let less : parameter_size (parameter_of x) < parameters_size (parameters (map parameter_of all)) =
    subst (λ y. parameter_size (parameter_of y) < parameters_size (parameters (map parameter_of all)))
    (sym c.index-list-index.is) (parameter_within all c.loop-index.index x within) in
    (omega (arith, c.decreases, less), c.loop-index.invariant.here)

pub parameter_lists::parameters_typed-returns-in_err-of : goal.parameter_lists::parameters_typed-returns-in_err-of
parameter_lists::parameters_typed-returns-in_err-of t c =
    let p = err_from_is_err_and c.from_residual-in_err-of.result c.from_residual-in_err-of.ensures.1 in
    let all = c.args.list.now in
    let site = c.args.site in
    let within : c.loop-index.index < length all = omega arith in
    rw (p.1, p.2) (refused_as _ _ _
    (ap (λ scopes. left_behind (parameters_typed site.around site.alone (parameters (map parameter_of all)) 0
    (env_of scopes c.args.types.now))) (sym c.in_ok-enter.ensures.opens))
    (left_refused _ _ (next_refused site.around site.alone _ all c.loop-index.index c.index-list-index.result
    c.args.types.now c.loop-index.types c.loop-index.scopes _ within c.index-list-index.is c.loop-index.invariant
    c.in-Ok.number c.in-Ok.ensures.1 _ c.in_err-of.ensures)))

pub parameter_lists::parameters_typed-loop-index-preserved : goal.parameter_lists::parameters_typed-loop-index-preserved
parameter_lists::parameters_typed-loop-index-preserved t c =
    let all = c.args.list.now in
    let site = c.args.site in
    let within : c.loop-index.index < length all = omega arith in
    elim c.match-of.branch [
      | parameter_lists::parameters_typed-in-Some+in_ok-push w ↦
          next_some site.around site.alone _ all c.loop-index.index c.index-list-index.result c.args.types.now
          c.loop-index.types c.loop-index.scopes c.loop-index.all.items within c.index-list-index.is
          c.loop-index.invariant c.in-Ok.number c.in-Ok.ensures.1 c.parameter_typed.new.scopes
          c.parameter_typed.new.types c.in_ok-of.of c.match-of.all.items c.in_ok-of.ensures w.in-Some.of w.in-Some.is
          (ap (λ (v : Vec TypeId Global). v.items) w.all-is ∙ w.in_ok-push.ensures.items)
      | parameter_lists::parameters_typed-in_default-of w ↦
          next_void site.around site.alone _ all c.loop-index.index c.index-list-index.result c.args.types.now
          c.loop-index.types c.loop-index.scopes c.loop-index.all.items within c.index-list-index.is
          c.loop-index.invariant c.in-Ok.number c.in-Ok.ensures.1 c.parameter_typed.new.scopes
          c.parameter_typed.new.types c.in_ok-of.of c.match-of.all.items c.in_ok-of.ensures w.in_default-of.is
          (ap (λ (v : Vec TypeId Global). v.items) w.all-is)
    ]

pub parameter_lists::parameters_typed-leave-requires : goal.parameter_lists::parameters_typed-leave-requires
parameter_lists::parameters_typed-leave-requires t c =
    let all = c.args.list.now in
    let site = c.args.site in
    let past : length all ≤ c.loop-index.index = omega arith in
    let gives = typed_end site.around site.alone _ all c.loop-index.index _ _ _ _ past c.loop-index.invariant in
    let many = as_many site.around site.alone (parameters (map parameter_of all)) c.enter.new.self c.args.types.now _
    c.loop-index.scopes c.loop-index.types gives in
    omega (arith, many, c.in_ok-enter.ensures.inner)

pub parameter_lists::parameters_typed-returns : goal.parameter_lists::parameters_typed-returns
parameter_lists::parameters_typed-returns t c =
    let all = c.args.list.now in
    let site = c.args.site in
    let past : length all ≤ c.loop-index.index = omega arith in
    let gives = typed_end site.around site.alone _ all c.loop-index.index _ _ _ _ past c.loop-index.invariant in
    given_as _ _ _ _ _ _ _
    (ap (λ scopes. left_behind (parameters_typed site.around site.alone (parameters (map parameter_of all)) 0
    (env_of scopes c.args.types.now))) (sym c.in_ok-enter.ensures.opens))
    (left_given _ c.loop-index.all.items c.args.types.now c.loop-index.types c.loop-index.scopes c.leave.new.self gives
    c.leave.ensures c.loop-index.invariant.here c.loop-index.invariant.grown c.loop-index.invariant.is_in)

-- ---- type names

pub type_names::named-returns-in_err-of : goal.type_names::named-returns-in_err-of
type_names::named-returns-in_err-of t c =
    let p = err_from_is_err_and c.from_residual.result c.from_residual.ensures.1 in
    rw (p.1, p.2) (name_refused c.args.around (specifiers_of c.args.name.now.specifiers.items)
    (specifiers_of c.as_slice.result.now) (declarator_of c.args.name.now.declarator) c.bare_context-context.result _
    (env_of c.args.scopes.now c.args.types.now) (ap specifiers_of c.as_slice.ensures.value) refl
    c.bare_context-context.ensures _ c.in_err-of.ensures)

pub type_names::named-returns : goal.type_names::named-returns
type_names::named-returns t c =
    name_answers c.args.around (specifiers_of c.args.name.now.specifiers.items) (specifiers_of c.as_slice.result.now)
    (declarator_of c.args.name.now.declarator) c.bare_context-context.result c.no_ellipsis.result
    (env_of c.args.scopes.now c.args.types.now) (ap specifiers_of c.as_slice.ensures.value) c.no_ellipsis.ensures
    c.bare_context-context.ensures c.in_ok-of.of c.args.types.now c.specified.new.types c.declared_type.new.types
    c.specified.new.scopes c.declared_type.new.scopes c.declared_type.result c.in_ok-of.ensures c.declared_type.ensures

-- ---- enumerators

pub enumerators::enumerated-enumerator_value-requires : goal.enumerators::enumerated-enumerator_value-requires
enumerators::enumerated-enumerator_value-requires t c =
    let less = enumerator_smaller c.args.list.now c.loop-each.each-index c.each-item.result (omega arith)
    c.each-item.is in
    (omega (arith, c.decreases, less), c.loop-each.invariant.here)

pub enumerators::enumerated-returns-in-Err : goal.enumerators::enumerated-returns-in-Err
enumerators::enumerated-returns-in-Err t c =
    value_refused _ c.args.list.now c.loop-each.each-index c.each-item.result (omega arith) c.each-item.is _
    c.loop-each.types c.loop-each.scopes _ c.loop-each.invariant c.in-Err.fault c.in-Err.ensures

pub enumerators::enumerated-returns-in-Err-bind_enumerator :
    goal.enumerators::enumerated-returns-in-Err-bind_enumerator
enumerators::enumerated-returns-in-Err-bind_enumerator t c =
    enumerator_refused _ c.args.list.now c.loop-each.each-index c.each-item.result (omega arith) c.each-item.is _
    c.loop-each.types c.loop-each.scopes _ c.loop-each.invariant c.in-Ok.value
    c.enumerator_value.new.types c.enumerator_value.new.scopes c.in-Ok.ensures c.in-Err-bind_enumerator.fault
    c.in-Err-bind_enumerator.ensures

pub enumerators::enumerated-overflow_add-next : goal.enumerators::enumerated-overflow_add-next
enumerators::enumerated-overflow_add-next t c =
    let same : to_z w128 (of_z w128 c.in-Ok-bind_enumerator.n) ≡ c.in-Ok-bind_enumerator.n = search rules in
    rw same
    (next_fits c.in-Ok-bind_enumerator.n (bound_is_int c.each-item.result.pos c.each-item.result.name c.in-Ok.value
    c.in-Ok-bind_enumerator.n (env_of c.enumerator_value.new.scopes c.enumerator_value.new.types)
    (env_of c.bind_enumerator.new.scopes c.enumerator_value.new.types) c.in-Ok-bind_enumerator.ensures.is))

pub enumerators::enumerated-loop-each-preserved : goal.enumerators::enumerated-loop-each-preserved
enumerators::enumerated-loop-each-preserved t c =
    let n = c.in-Ok-bind_enumerator.n in
    let fits = next_fits n (bound_is_int c.each-item.result.pos c.each-item.result.name c.in-Ok.value
    c.in-Ok-bind_enumerator.n (env_of c.enumerator_value.new.scopes c.enumerator_value.new.types)
    (env_of c.bind_enumerator.new.scopes c.enumerator_value.new.types) c.in-Ok-bind_enumerator.ensures.is) in
    let same : to_z w128 (of_z w128 n) ≡ n = search rules in
    rw (same, to_z-of_z w128 _ fits)
    (enumerated_next _ c.args.list.now c.loop-each.each-index c.each-item.result (omega arith) c.each-item.is _
    c.loop-each.types c.loop-each.scopes _ c.loop-each.invariant c.in-Ok.value
    c.enumerator_value.new.types c.enumerator_value.new.scopes c.in-Ok.ensures n c.bind_enumerator.new.scopes
    c.in-Ok-bind_enumerator.ensures)

pub enumerators::enumerated-returns : goal.enumerators::enumerated-returns
enumerators::enumerated-returns t c =
    enumerated_all _ c.args.list.now c.loop-each.each-index (omega arith) _ _ c.loop-each.types
    c.loop-each.scopes c.loop-each.invariant

pub enumerators::enumerator_value-returns-in-None : goal.enumerators::enumerator_value-returns-in-None
enumerators::enumerator_value-returns-in-None t c =
    let same : to_z w128 (of_z w128 c.args.next) ≡ c.args.next = search rules in
    rw same (value_next _ c.args.next c.args.scopes.now c.args.types.now (ap value_of c.in-None.is) c.requires)

pub enumerators::enumerator_value-returns-in-Ok : goal.enumerators::enumerator_value-returns-in-Ok
enumerators::enumerator_value-returns-in-Ok t c =
    let expr = expr_of c.deref.result.now in
    let same : With (expr_of c.in-Some.expr.value) ≡ With expr = cc in
    let place : place_of (expr_of c.deref-in-Ok.result.now) ≡ place_of expr = cc in
    value_answers (value_of c.args.given.now) expr c.args.next c.args.types.now c.args.scopes.now
    (ap value_of c.in-Some.is ∙ same) c.in-Ok.operand c.value_operand.new.types c.value_operand.new.scopes
    c.place_of.result (c.place_of.ensures ∙ place) c.in-Ok.ensures c.stated_value.result c.stated_value.ensures

pub enumerators::enumerator_value-returns-in-Err : goal.enumerators::enumerator_value-returns-in-Err
enumerators::enumerator_value-returns-in-Err t c =
    let expr = expr_of c.deref.result.now in
    let same : With (expr_of c.in-Some.expr.value) ≡ With expr = cc in
    expression_refused (value_of c.args.given.now) expr c.args.next c.args.types.now c.args.scopes.now
    (ap value_of c.in-Some.is ∙ same) c.in-Err.fault c.in-Err.ensures

-- ---- members

pub members::member_declared-returns-in-Ok : goal.members::member_declared-returns-in-Ok
members::member_declared-returns-in-Ok t c =
    let declarator = declarator_of c.args.member.declarator.now in
    let base = type_of c.args.types.now c.args.member.of in
    rule_answers declarator base c.args.all.now c.args.scopes.now c.args.types.now c.requires.here c.in-Ok.of
    c.add_member.new.all c.declared_type.new.types c.declared_type.new.scopes c.add_member.result c.requires.all
    (given_as _ _ _ _ _ _ _ (ap (λ (around : Around). declared around declarator base
    (env_of c.args.scopes.now c.args.types.now)) (sym c.no_ellipsis.ensures)) c.in-Ok.ensures) c.add_member.ensures

pub members::member_declared-returns-in-Err : goal.members::member_declared-returns-in-Err
members::member_declared-returns-in-Err t c =
    let declarator = declarator_of c.args.member.declarator.now in
    let base = type_of c.args.types.now c.args.member.of in
    type_refused declarator base c.args.all.now c.args.scopes.now c.args.types.now c.requires.here c.in-Err.fault
    (refused_as _ _ _ (ap (λ (around : Around). declared around declarator base
    (env_of c.args.scopes.now c.args.types.now)) (sym c.no_ellipsis.ensures)) c.in-Err.ensures)

pub members::member_typed-returns-then-is_empty : goal.members::member_typed-returns-then-is_empty
members::member_typed-returns-then-is_empty t c =
    let words = c.as_slice-specifiers.ensures.value in
    let none = c.as_slice-declarators.ensures.value in
    no_member_answers (specifiers_of c.args.each.now.specifiers.items) c.args.each.now.declarators.items
    c.args.all.now c.args.scopes.now c.args.types.now c.requires.here c.no_member.result
    (c.if-is_empty.ensures ∙ ap (λ (all : List d.Declarator). length all == 0) none) c.requires.all
    (subst (λ (declares : Bool). Settles (no_member_rule declares)
    (first_place (specifiers_of c.args.each.now.specifiers.items)) c.no_member.result)
    (c.names_something.ensures ∙ ap (λ (all : List s.Specifier). names_something (specifiers_of all)) words)
    (subst (λ (place : Pos). Settles (no_member_rule c.names_something.result) place c.no_member.result)
    (c.first_place.ensures ∙ ap (λ (all : List s.Specifier). first_place (specifiers_of all)) words)
    c.no_member.ensures))

pub members::member_typed-returns-in-Ok : goal.members::member_typed-returns-in-Ok
members::member_typed-returns-in-Ok t c =
    let old = c.args.types.now in
    let all = c.as_slice-declarators.ensures.value in
    let base = c.in-Ok.base in
    let mid = c.specified.new.types in
    let inner = c.specified.new.scopes in
    let new = c.members_declared.new.types in
    let after = c.members_declared.new.scopes in
    let more = c.members_declared.new.all in
    declarators_answer (specifiers_of c.args.each.now.specifiers.items) c.args.each.now.declarators.items
    c.args.all.now c.args.scopes.now old c.requires.here base more mid new inner after c.members_declared.result
    (c.if-is_empty.ensures ∙ ap (λ (list : List d.Declarator). length list == 0) all) c.requires.all
    (given_as _ _ _ _ _ _ _ (λ i. specified (sym c.bare_context.ensures i)
    (specifiers_of (sym c.as_slice-specifiers.ensures.value i)) (env_of c.args.scopes.now old)) c.in-Ok.ensures)
    (subst (λ (list : List d.Declarator). AnswersMore (each_left list (type_of mid base) (members_of mid c.args.all.now)
    (env_of inner mid)) more mid after new c.members_declared.result) all c.members_declared.ensures)

pub members::member_typed-returns-in-Err : goal.members::member_typed-returns-in-Err
members::member_typed-returns-in-Err t c =
    let all = c.as_slice-declarators.ensures.value in
    base_refused (specifiers_of c.args.each.now.specifiers.items) c.args.each.now.declarators.items
    c.args.all.now c.args.scopes.now c.args.types.now c.requires.here c.in-Err.fault
    (c.if-is_empty.ensures ∙ ap (λ (list : List d.Declarator). length list == 0) all)
    (refused_as _ _ _ (λ i. specified (sym c.bare_context.ensures i)
    (specifiers_of (sym c.as_slice-specifiers.ensures.value i)) (env_of c.args.scopes.now c.args.types.now))
    c.in-Err.ensures)

pub members::members_declared-member_declared-requires : goal.members::members_declared-member_declared-requires
members::members_declared-member_declared-requires t c =
    let before = c.loop-declarator.invariant in
    let less = declarator_smaller c.args.list.declarators.now c.loop-declarator.declarator-index
    c.declarator-item.result (omega arith) c.declarator-item.is in (
      omega (arith, c.decreases, less),
      (
        before.on.here,
        (
          before.is_in,
          id_in_kept c.args.types.now c.loop-declarator.types before.on.grown c.args.list.base c.requires.base,
        ),
      ),
    )

pub members::members_declared-returns-in-Err : goal.members::members_declared-returns-in-Err
members::members_declared-returns-in-Err t c =
    each_stopped _ c.args.list.declarators.now c.loop-declarator.declarator-index c.declarator-item.result
    (omega arith) c.declarator-item.is c.args.types.now c.loop-declarator.types c.loop-declarator.scopes
    c.loop-declarator.all c.args.list.base c.requires.base c.loop-declarator.invariant c.in-Err.fault c.in-Err.ensures

pub members::members_declared-loop-declarator-preserved : goal.members::members_declared-loop-declarator-preserved
members::members_declared-loop-declarator-preserved t c =
    each_next _ c.args.list.declarators.now c.loop-declarator.declarator-index c.declarator-item.result
    (omega arith) c.declarator-item.is c.args.types.now c.loop-declarator.types c.loop-declarator.scopes
    c.loop-declarator.all c.args.list.base c.requires.base c.loop-declarator.invariant c.member_declared.new.types
    c.member_declared.new.scopes c.member_declared.new.all c.in-Ok.ensures

pub members::members_declared-returns : goal.members::members_declared-returns
members::members_declared-returns t c =
    each_all _ c.args.list.declarators.now _ c.loop-declarator.declarator-index (omega arith) c.args.types.now
    c.loop-declarator.types c.loop-declarator.scopes c.loop-declarator.all c.loop-declarator.invariant

pub members::members_typed-member_typed-requires : goal.members::members_typed-member_typed-requires
members::members_typed-member_typed-requires t c =
    let less = member_smaller c.args.list.now c.loop-each.each-index c.each-item.result (omega arith) c.each-item.is in
    (omega (arith, c.decreases, less), (c.loop-each.invariant.on.here, c.loop-each.invariant.is_in))

pub members::members_typed-returns-in-Err : goal.members::members_typed-returns-in-Err
members::members_typed-returns-in-Err t c =
    gathering_stopped _ c.args.list.now c.loop-each.each-index c.each-item.result (omega arith) c.each-item.is
    c.args.types.now c.loop-each.types c.loop-each.scopes c.loop-each.all c.loop-each.invariant c.in-Err.fault
    c.in-Err.ensures

pub members::members_typed-loop-each-preserved : goal.members::members_typed-loop-each-preserved
members::members_typed-loop-each-preserved t c =
    gathering_next _ c.args.list.now c.loop-each.each-index c.each-item.result (omega arith) c.each-item.is
    c.args.types.now c.loop-each.types c.loop-each.scopes c.loop-each.all c.loop-each.invariant
    c.member_typed.new.types c.member_typed.new.scopes c.member_typed.new.all c.in-Ok.ensures

pub members::members_typed-returns : goal.members::members_typed-returns
members::members_typed-returns t c =
    gathering_all _ c.args.list.now c.loop-each.each-index (omega arith) c.args.types.now c.loop-each.types
    c.loop-each.scopes c.loop-each.all c.loop-each.invariant

-- ---- structures, unions and enumerations

pub specifiers::compound-returns-in-Err : goal.specifiers::compound-returns-in-Err
specifiers::compound-returns-in-Err t c =
    begin_refused c.args.head.is_union c.args.head.pos c.args.head.tag.now
    (λ env. members_typed (members (map member_of c.args.list.now)) no_members env) c.args.types.now c.args.scopes.now
    c.requires c.in-Err.fault c.in-Err.ensures

pub specifiers::compound-returns-in-Err-members_typed : goal.specifiers::compound-returns-in-Err-members_typed
specifiers::compound-returns-in-Err-members_typed t c =
    members_refused c.args.head.is_union c.args.head.pos c.args.head.tag.now
    (λ env. members_typed (members (map member_of c.args.list.now)) no_members env) c.args.types.now c.args.scopes.now
    c.requires c.in-Ok.of c.begun_compound.new.types c.begun_compound.new.scopes c.in-Ok.ensures
    c.in-Err-members_typed.fault c.in-Err-members_typed.ensures

pub specifiers::compound-returns-in-Err-end_body : goal.specifiers::compound-returns-in-Err-end_body
specifiers::compound-returns-in-Err-end_body t c =
    let of = c.in-Ok.of in
    let all = c.in-Ok-members_typed.all in
    let mid = c.members_typed.new.types in
    let inner = c.members_typed.new.scopes in
    body_refused c.args.head.is_union c.args.head.pos c.args.head.tag.now
    (λ env. members_typed (members (map member_of c.args.list.now)) no_members env) c.args.types.now c.args.scopes.now
    c.requires of c.begun_compound.new.types c.begun_compound.new.scopes c.in-Ok.ensures all mid inner
    c.in-Ok-members_typed.ensures c.in-Err-end_body.fault
    (subst (λ (place : Pos). Refused (body_ended c.args.head.is_union place (type_of mid of) (members_of mid all)
    (env_of inner mid)) c.in-Err-end_body.fault) c.compound_place.ensures c.in-Err-end_body.ensures)

pub specifiers::compound-returns-in-Ok-end_tag : goal.specifiers::compound-returns-in-Ok-end_tag
specifiers::compound-returns-in-Ok-end_tag t c =
    let of = c.in-Ok.of in
    let all = c.in-Ok-members_typed.all in
    let mid = c.members_typed.new.types in
    let inner = c.members_typed.new.scopes in
    let new = c.end_body.new.types in
    compound_given c.args.head.is_union c.args.head.pos c.args.head.tag.now
    (λ env. members_typed (members (map member_of c.args.list.now)) no_members env) c.args.types.now c.args.scopes.now
    c.requires of c.begun_compound.new.types c.begun_compound.new.scopes c.in-Ok.ensures all mid inner
    c.in-Ok-members_typed.ensures new c.end_tag.new.scopes
    (subst (λ (place : Pos). Given (body_ended c.args.head.is_union place (type_of mid of) (members_of mid all)
    (env_of inner mid)) tt (λ t. Unit {0}) mid inner new) c.compound_place.ensures c.in-Ok-end_body.ensures)
    c.in-Ok-end_tag.ensures

pub specifiers::enumeration-returns-in-Err : goal.specifiers::enumeration-returns-in-Err
specifiers::enumeration-returns-in-Err t c =
    tag_refused c.args.tag.now (λ env. enumerated (enumerators (map enumerator_of c.args.list.now)) first_value env)
    c.args.types.now c.args.scopes.now c.requires c.in-Err.fault c.in-Err.ensures

pub specifiers::enumeration-returns-in-Err-enumerated : goal.specifiers::enumeration-returns-in-Err-enumerated
specifiers::enumeration-returns-in-Err-enumerated t c =
    list_refused c.args.tag.now (λ env. enumerated (enumerators (map enumerator_of c.args.list.now)) first_value env)
    c.args.types.now c.args.scopes.now c.requires c.in-Ok.of c.begun_enumeration.new.types
    c.begun_enumeration.new.scopes c.in-Ok.ensures c.in-Err-enumerated.fault c.in-Err-enumerated.ensures

pub specifiers::enumeration-returns-in-Ok-end_tag : goal.specifiers::enumeration-returns-in-Ok-end_tag
specifiers::enumeration-returns-in-Ok-end_tag t c =
    enumeration_given c.args.tag.now
    (λ env. enumerated (enumerators (map enumerator_of c.args.list.now)) first_value env) c.args.types.now
    c.args.scopes.now c.requires c.in-Ok.of c.begun_enumeration.new.types c.begun_enumeration.new.scopes
    c.in-Ok.ensures c.enumerated.new.types c.enumerated.new.scopes c.end_tag.new.scopes c.in-Ok-enumerated.ensures
    c.in-Ok-end_tag.ensures

-- ---- specifiers

pub specifiers::specified-one_specified-requires : goal.specifiers::specified-one_specified-requires
specifiers::specified-one_specified-requires t c =
    let before = c.loop-specifier.invariant in
    let less = specifier_smaller c.args.specifiers.now c.loop-specifier.specifier-index c.specifier-item.result
    (omega arith) c.specifier-item.is in (
      omega (arith, c.decreases, less),
      (
        before.on.here,
        (
          option_in_kept c.args.types.now c.loop-specifier.types before.on.grown c.in-Ok.outline.typedef
              c.in-Ok.ensures.is_in,
          before.is_in,
        ),
      ),
    )

pub specifiers::specified-returns-in-Err-one_specified : goal.specifiers::specified-returns-in-Err-one_specified
specifiers::specified-returns-in-Err-one_specified t c =
    specifying_stopped c.args.context c.args.specifiers.now (env_of c.args.scopes.now c.args.types.now)
    c.args.types.now c.loop-specifier.types c.loop-specifier.scopes c.loop-specifier.before c.in-Ok.outline
    c.in-Ok.ensures.is c.in-Ok.ensures.is_in c.loop-specifier.specifier-index c.specifier-item.result (omega arith)
    c.specifier-item.is c.loop-specifier.invariant c.in-Err-one_specified.fault c.in-Err-one_specified.ensures

pub specifiers::specified-loop-specifier-preserved : goal.specifiers::specified-loop-specifier-preserved
specifiers::specified-loop-specifier-preserved t c =
    specifying_next c.args.context c.args.specifiers.now (env_of c.args.scopes.now c.args.types.now)
    c.args.types.now c.loop-specifier.types c.loop-specifier.scopes c.loop-specifier.before c.in-Ok.outline
    c.in-Ok.ensures.is c.in-Ok.ensures.is_in c.loop-specifier.specifier-index c.specifier-item.result (omega arith)
    c.specifier-item.is c.loop-specifier.invariant c.one_specified.new.types c.one_specified.new.scopes
    c.in-Ok-one_specified.next c.in-Ok-one_specified.ensures

pub specifiers::specified-returns-in-Ok-qualified_type : goal.specifiers::specified-returns-in-Ok-qualified_type
specifiers::specified-returns-in-Ok-qualified_type t c =
    specifying_all c.args.context c.args.specifiers.now (env_of c.args.scopes.now c.args.types.now) c.args.types.now
    c.loop-specifier.types c.qualified_type.new.types c.loop-specifier.scopes c.loop-specifier.before
    c.loop-specifier.specifier-index c.in-Ok-qualified_type.of (omega arith) c.loop-specifier.invariant
    c.in-Ok-qualified_type.ensures

pub specifiers::one_specified-compound-requires : goal.specifiers::one_specified-compound-requires
specifiers::one_specified-compound-requires t c =
    let e = ap (λ x. specifier_size (specifier_of x)) c.in-Compound.is
    ∙ ap specifier_size (compound_tree c.in-Compound.pos c.in-Compound.word c.in-Compound.tag c.in-Compound.list) in
    let a : members_size (members (map member_of c.as_slice.result.now))
    ≡ members_size (members (map member_of c.in-Compound.list.items)) = cc in
    (omega (arith, c.decreases, e, a), c.requires.here)

pub specifiers::one_specified-enumeration-requires : goal.specifiers::one_specified-enumeration-requires
specifiers::one_specified-enumeration-requires t c =
    let e = ap (λ x. specifier_size (specifier_of x)) c.in-Enum.is
    ∙ ap specifier_size (enum_tree c.in-Enum.field-0 c.in-Enum.tag c.in-Enum.list c.in-Enum.field-3) in
    let a : enumerators_size (enumerators (map enumerator_of c.as_slice-in-Enum.result.now))
    ≡ enumerators_size (enumerators (map enumerator_of c.in-Enum.list.items)) = cc in
    (omega (arith, c.decreases, e, a), c.requires.here)

pub specifiers::one_specified-returns-in-Storage : goal.specifiers::one_specified-returns-in-Storage
unfolding one_specified
specifiers::one_specified-returns-in-Storage t c =
    answers_as before_of BeforeIn _ _ _ _ _ _
    (ap (λ x. one_specified c.args.site.context (outline_of c.args.types.now c.args.site.outline.now) (specifier_of x)
    (before_of c.args.types.now c.args.site.before) (env_of c.args.scopes.now c.args.types.now)) c.in-Storage.is)
    (c.storage_seen.ensures c.args.scopes.now c.args.types.now c.requires.here c.requires.before)

pub specifiers::one_specified-returns-in-Qualifier : goal.specifiers::one_specified-returns-in-Qualifier
unfolding one_specified
specifiers::one_specified-returns-in-Qualifier t c =
    answers_as before_of BeforeIn _ _ _ _ _ _
    (ap (λ x. one_specified c.args.site.context (outline_of c.args.types.now c.args.site.outline.now) (specifier_of x)
    (before_of c.args.types.now c.args.site.before) (env_of c.args.scopes.now c.args.types.now)) c.in-Qualifier.is)
    (c.qualifier_seen.ensures c.args.scopes.now c.requires.here)

pub specifiers::one_specified-returns-in-Inline : goal.specifiers::one_specified-returns-in-Inline
unfolding one_specified
specifiers::one_specified-returns-in-Inline t c =
    answers_as before_of BeforeIn _ _ _ _ _ _
    (ap (λ x. one_specified c.args.site.context (outline_of c.args.types.now c.args.site.outline.now) (specifier_of x)
    (before_of c.args.types.now c.args.site.before) (env_of c.args.scopes.now c.args.types.now)) c.in-Inline.is)
    (c.inline_seen.ensures c.args.scopes.now c.args.types.now c.requires.here c.requires.before)

pub specifiers::one_specified-returns-in-BasicWord : goal.specifiers::one_specified-returns-in-BasicWord
unfolding one_specified
specifiers::one_specified-returns-in-BasicWord t c =
    answers_as before_of BeforeIn _ _ _ _ _ _
    (ap (λ x. one_specified c.args.site.context (outline_of c.args.types.now c.args.site.outline.now) (specifier_of x)
    (before_of c.args.types.now c.args.site.before) (env_of c.args.scopes.now c.args.types.now)) c.in-BasicWord.is)
    (c.basic_seen.ensures c.args.scopes.now c.requires.here)

pub specifiers::one_specified-returns-in-TypedefName : goal.specifiers::one_specified-returns-in-TypedefName
unfolding one_specified
specifiers::one_specified-returns-in-TypedefName t c =
    let types = c.args.types.now in
    let scopes = c.args.scopes.now in
    answers_as before_of BeforeIn _ _ _ _ _ _
    (ap (λ x. one_specified c.args.site.context (outline_of c.args.types.now c.args.site.outline.now) (specifier_of x)
    (before_of c.args.types.now c.args.site.before) (env_of c.args.scopes.now c.args.types.now)) c.in-TypedefName.is)
    (c.type_seen.ensures _ types types types scopes (c.typedef_used.ensures scopes c.requires.here))

pub specifiers::one_specified-returns-in-CompoundTag : goal.specifiers::one_specified-returns-in-CompoundTag
unfolding one_specified
specifiers::one_specified-returns-in-CompoundTag t c =
    let old = c.args.types.now in
    let new = c.tagged_compound.new.types in
    let after = c.tagged_compound.new.scopes in
    answers_as before_of BeforeIn _ _ _ _ _ _
    (ap (λ x. one_specified c.args.site.context (outline_of c.args.types.now c.args.site.outline.now) (specifier_of x)
    (before_of c.args.types.now c.args.site.before) (env_of c.args.scopes.now c.args.types.now)) c.in-CompoundTag.is)
    (c.type_seen-in-CompoundTag.ensures _ old old new after
    (subst (λ (union : Bool). AnswersType (tagged_compound union c.in-CompoundTag.tag c.args.site.context.alone
    (env_of c.args.scopes.now old)) old after new c.tagged_compound.result) c.is_union.ensures
    c.tagged_compound.ensures))

pub specifiers::one_specified-returns-in-EnumTag : goal.specifiers::one_specified-returns-in-EnumTag
unfolding one_specified
specifiers::one_specified-returns-in-EnumTag t c =
    let types = c.args.types.now in
    let scopes = c.args.scopes.now in
    answers_as before_of BeforeIn _ _ _ _ _ _
    (ap (λ x. one_specified c.args.site.context (outline_of c.args.types.now c.args.site.outline.now) (specifier_of x)
    (before_of c.args.types.now c.args.site.before) (env_of c.args.scopes.now c.args.types.now)) c.in-EnumTag.is)
    (c.type_seen-in-EnumTag.ensures _ types types types scopes c.tagged_enumeration.ensures)

pub specifiers::one_specified-returns-in-Compound : goal.specifiers::one_specified-returns-in-Compound
unfolding one_specified
specifiers::one_specified-returns-in-Compound t c =
    let old = c.args.types.now in
    let new = c.compound.new.types in
    let after = c.compound.new.scopes in
    let pos = c.in-Compound.pos in
    let tag = c.in-Compound.tag in
    answers_as before_of BeforeIn _ _ _ _ _ _
    (ap (λ x. one_specified c.args.site.context (outline_of c.args.types.now c.args.site.outline.now) x
    (before_of c.args.types.now c.args.site.before) (env_of c.args.scopes.now c.args.types.now))
    (ap specifier_of c.in-Compound.is ∙ compound_tree pos c.in-Compound.word tag c.in-Compound.list))
    (c.type_seen-in-Compound.ensures _ old old new after
    (subst (λ (list : List m.MemberDeclaration). AnswersType (compound_with (is_union c.in-Compound.word) pos tag
    (λ env. members_typed (members (map member_of list)) no_members env) (env_of c.args.scopes.now old)) old after new
    c.compound.result) c.as_slice.ensures.value
    (subst (λ (union : Bool). AnswersType (compound_with union pos tag
    (λ env. members_typed (members (map member_of c.as_slice.result.now)) no_members env)
    (env_of c.args.scopes.now old)) old after new c.compound.result) c.is_union-in-Compound.ensures
    c.compound.ensures)))

pub specifiers::one_specified-returns-in-Enum : goal.specifiers::one_specified-returns-in-Enum
unfolding one_specified
specifiers::one_specified-returns-in-Enum t c =
    let old = c.args.types.now in
    let new = c.enumeration.new.types in
    let after = c.enumeration.new.scopes in
    let tag = c.in-Enum.tag in
    answers_as before_of BeforeIn _ _ _ _ _ _
    (ap (λ x. one_specified c.args.site.context (outline_of c.args.types.now c.args.site.outline.now) x
    (before_of c.args.types.now c.args.site.before) (env_of c.args.scopes.now c.args.types.now))
    (ap specifier_of c.in-Enum.is ∙ enum_tree c.in-Enum.field-0 tag c.in-Enum.list c.in-Enum.field-3))
    (c.type_seen-in-Enum.ensures _ old old new after
    (subst (λ (list : List n.Enumerator). AnswersType (enumeration_with tag
    (λ env. enumerated (enumerators (map enumerator_of list)) first_value env) (env_of c.args.scopes.now old)) old after
    new c.enumeration.result) c.as_slice-in-Enum.ensures.value c.enumeration.ensures))
