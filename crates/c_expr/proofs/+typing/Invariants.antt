-- What each call of the walk has left: sixteen for each node of its trees, and within one node its rank, by who calls
-- whom. What the loops over arguments, parameters, specifiers, members and enumerators keep.
use Rattle.std.proofs.Common.{◌+◌, ◌*◌, map, drop}
use Rattle.c_conversions.specs.Parts.{part_of}
use Rattle.c_scopes.specs.Env.{env_of}
use Rattle.c_syntax.specs.View.{expr_of, exprs, type_name_of, declarator_of, parameter_of, parameters, value_of}
use Rattle.c_syntax.specs.View.{declarators, enumerator_of, enumerators, member_of, members, specifier_of}
use Rattle.c_syntax.specs.View.{specifiers_of}
use Rattle.c_expr.specs.Operands.{callee_parameters, callee_varies}
use Rattle.c_expr.specs.Typing.{passed, parameters_typed, members_typed}
use Rattle.c_expr.proofs.Passing.{Passing}
use Rattle.c_expr.proofs.Size.{size, exprs_size, type_name_size, declarator_size, maybe_size, parameter_size}
use Rattle.c_expr.proofs.Size.{parameters_size, declarators_size, enumerators_size, member_size, members_size}
use Rattle.c_expr.proofs.Size.{specifier_size, specifiers_size}
use Rattle.c_expr.proofs.TypedParameters.{Typed}
use Rattle.c_types.specs.CType.{type_of}
use Rattle.c_type_rules.specs.Enumerators.{first_value}
use Rattle.c_type_parts.specs.Declaring.{no_members}
use Rattle.c_type_parts.specs.Seen.{members_of}
use Rattle.c_type_parts.proofs.Onward.{Onward}
use Rattle.c_expr.proofs.EnumeratorWalk.{enumerated_left}
use Rattle.c_expr.proofs.MemberWalk.{Gathering, each_left}
use Rattle.c_expr.proofs.SpecifierWalk.{Specifying}
use Rattle.c_expr.proofs.+typing.Given as goal

abbrev pub decreases-expression::operand : goal.decreases-expression::operand
decreases-expression::operand l = 16 * size (expr_of l.expr.now)

abbrev pub decreases-expression::used_operand : goal.decreases-expression::used_operand
decreases-expression::used_operand l = 16 * size (expr_of l.expr.now) + 1

abbrev pub decreases-expression::value_operand : goal.decreases-expression::value_operand
decreases-expression::value_operand l = 16 * size (expr_of l.expr.now) + 1

abbrev pub decreases-expression::unused_core : goal.decreases-expression::unused_core
decreases-expression::unused_core l = 16 * size (expr_of l.expr.now) + 1

abbrev pub decreases-expression::test_core : goal.decreases-expression::test_core
decreases-expression::test_core l = 16 * size (expr_of l.expr.now) + 1

abbrev pub decreases-expression::unused_operand : goal.decreases-expression::unused_operand
decreases-expression::unused_operand l = 16 * size (expr_of l.expr.now) + 2

abbrev pub decreases-expression::side_operand : goal.decreases-expression::side_operand
decreases-expression::side_operand l = 16 * size (expr_of l.expr.now) + 3

abbrev pub decreases-node::two_operands : goal.decreases-node::two_operands
decreases-node::two_operands l =
    16 * (size (expr_of l.sides.left.now) + size (expr_of l.sides.right.now)) + 4

abbrev pub decreases-node::index_operand : goal.decreases-node::index_operand
decreases-node::index_operand l =
    16 * (size (expr_of l.sides.left.now) + size (expr_of l.sides.right.now)) + 5

abbrev pub decreases-node::infix_operand : goal.decreases-node::infix_operand
decreases-node::infix_operand l =
    16 * (size (expr_of l.sides.left.now) + size (expr_of l.sides.right.now)) + 5

abbrev pub decreases-node::conditional_operand : goal.decreases-node::conditional_operand
decreases-node::conditional_operand l =
    16 * (size (expr_of l.node.2.now) + size (expr_of l.sides.left.now) + size (expr_of l.sides.right.now)) + 5

abbrev pub decreases-node::member_operand : goal.decreases-node::member_operand
decreases-node::member_operand l = 16 * size (expr_of l.whole.now) + 4

abbrev pub decreases-node::postfix_operand : goal.decreases-node::postfix_operand
decreases-node::postfix_operand l = 16 * size (expr_of l.inner.now) + 4

abbrev pub decreases-node::prefix_operand : goal.decreases-node::prefix_operand
decreases-node::prefix_operand l = 16 * size (expr_of l.inner.now) + 4

abbrev pub decreases-node::measure_operand : goal.decreases-node::measure_operand
decreases-node::measure_operand l = 16 * type_name_size (type_name_of l.name.now) + 8

abbrev pub decreases-node::cast_operand : goal.decreases-node::cast_operand
decreases-node::cast_operand l =
    16 * (type_name_size (type_name_of l.node.1.now) + size (expr_of l.inner.now)) + 8

abbrev pub decreases-call::call_operand : goal.decreases-call::call_operand
decreases-call::call_operand l =
    16 * (size (expr_of l.node.2.now) + exprs_size (exprs (map expr_of l.list.now))) + 4

abbrev pub decreases-call::arguments : goal.decreases-call::arguments
decreases-call::arguments l = 16 * exprs_size (exprs (map expr_of l.list.now)) + 3

abbrev pub decreases-call::argument : goal.decreases-call::argument
decreases-call::argument l = 16 * size (expr_of l.expr.now) + 1

abbrev pub decreases-type_names::named : goal.decreases-type_names::named
decreases-type_names::named l = 16 * type_name_size (type_name_of l.name.now)

abbrev pub decreases-declarators::declared_type : goal.decreases-declarators::declared_type
decreases-declarators::declared_type l = 16 * declarator_size (declarator_of l.declarator.now) + 1

abbrev pub decreases-declarators::derived : goal.decreases-declarators::derived
decreases-declarators::derived l = 16 * declarator_size (declarator_of l.declarator.now)

abbrev pub decreases-declarators::array_length : goal.decreases-declarators::array_length
decreases-declarators::array_length l = 16 * maybe_size (value_of l.expr.now)

abbrev pub decreases-parameter_lists::parameters_typed : goal.decreases-parameter_lists::parameters_typed
decreases-parameter_lists::parameters_typed l = 16 * parameters_size (parameters (map parameter_of l.list.now))

abbrev pub decreases-parameter_lists::parameter_typed : goal.decreases-parameter_lists::parameter_typed
decreases-parameter_lists::parameter_typed l = 16 * parameter_size (parameter_of l.parameter.now)

abbrev pub invariant-call::arguments-loop-index : goal.invariant-call::arguments-loop-index
invariant-call::arguments-loop-index l =
    Passing (passed (exprs (map expr_of l.list)) (callee_parameters (part_of l.initial.types l.function))
    (callee_varies (part_of l.initial.types l.function)) (env_of l.initial.scopes l.initial.types))
    (callee_parameters (part_of l.initial.types l.function)) (callee_varies (part_of l.initial.types l.function))
    (exprs (map expr_of (drop l.index l.list))) l.index l.initial.types l.scopes l.types l.made.items

abbrev pub invariant-parameter_lists::parameters_typed-loop-index :
    goal.invariant-parameter_lists::parameters_typed-loop-index
invariant-parameter_lists::parameters_typed-loop-index l =
    Typed (parameters_typed l.site.around l.site.alone (parameters (map parameter_of l.list)) 0
    (env_of l.initial.scopes l.initial.types)) l.site.around l.site.alone
    (parameters (map parameter_of (drop l.index l.list))) l.index l.initial.types l.scopes l.types l.all.items

abbrev pub decreases-specifiers::specified : goal.decreases-specifiers::specified
decreases-specifiers::specified l = 16 * specifiers_size (specifiers_of l.specifiers.now)

abbrev pub decreases-specifiers::one_specified : goal.decreases-specifiers::one_specified
decreases-specifiers::one_specified l = 16 * specifier_size (specifier_of l.specifier.now)

abbrev pub decreases-specifiers::compound : goal.decreases-specifiers::compound
decreases-specifiers::compound l = 16 * members_size (members (map member_of l.list.now)) + 1

abbrev pub decreases-specifiers::enumeration : goal.decreases-specifiers::enumeration
decreases-specifiers::enumeration l = 16 * enumerators_size (enumerators (map enumerator_of l.list.now)) + 1

abbrev pub decreases-members::members_typed : goal.decreases-members::members_typed
decreases-members::members_typed l = 16 * members_size (members (map member_of l.list.now))

abbrev pub decreases-members::member_typed : goal.decreases-members::member_typed
decreases-members::member_typed l = 16 * member_size (member_of l.each.now)

abbrev pub decreases-members::members_declared : goal.decreases-members::members_declared
decreases-members::members_declared l =
    16 * declarators_size (declarators (map declarator_of l.list.declarators.now))

abbrev pub decreases-members::member_declared : goal.decreases-members::member_declared
decreases-members::member_declared l = 16 * declarator_size (declarator_of l.member.declarator.now) + 15

abbrev pub decreases-enumerators::enumerated : goal.decreases-enumerators::enumerated
decreases-enumerators::enumerated l = 16 * enumerators_size (enumerators (map enumerator_of l.list.now))

abbrev pub decreases-enumerators::enumerator_value : goal.decreases-enumerators::enumerator_value
decreases-enumerators::enumerator_value l = 16 * maybe_size (value_of l.given.now)

abbrev pub invariant-specifiers::specified-loop-specifier : goal.invariant-specifiers::specified-loop-specifier
invariant-specifiers::specified-loop-specifier l =
    Specifying l.context (specifiers_of l.specifiers) (specifiers_of (drop l.specifier-index l.specifiers))
    (env_of l.initial.scopes l.initial.types) l.initial.types l.scopes l.types l.before

abbrev pub invariant-members::members_typed-loop-each : goal.invariant-members::members_typed-loop-each
invariant-members::members_typed-loop-each l =
    Gathering (members_typed (members (map member_of l.list)) no_members (env_of l.initial.scopes l.initial.types))
    (members_typed (members (map member_of (drop l.each-index l.list)))) l.initial.types l.scopes l.types l.all

abbrev pub invariant-members::members_declared-loop-declarator :
    goal.invariant-members::members_declared-loop-declarator
invariant-members::members_declared-loop-declarator l =
    Gathering (each_left l.list.declarators.now (type_of l.initial.types l.list.base)
    (members_of l.initial.types l.initial.all) (env_of l.initial.scopes l.initial.types))
    (each_left (drop l.declarator-index l.list.declarators.now) (type_of l.initial.types l.list.base)) l.initial.types
    l.scopes l.types l.all

abbrev pub invariant-enumerators::enumerated-loop-each : goal.invariant-enumerators::enumerated-loop-each
invariant-enumerators::enumerated-loop-each l =
    Onward (enumerated_left l.list first_value (env_of l.initial.scopes l.initial.types))
    (enumerated_left (drop l.each-index l.list) l.next (env_of l.scopes l.types)) l.initial.types l.scopes l.types
