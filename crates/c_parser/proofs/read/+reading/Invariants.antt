-- Each call ends by what is left of the height, and within one height by who calls whom.
--
-- What decreases is 64 * (height left) + rank. A call with one height less takes 64 off, whatever its rank; at one
-- height a function has a higher rank than each that it calls:
--   60        the whole of a class: expr_at, type_name_at, declarator_at, parameter_at, member_at, specifier_at
--   48 to 50  declarators by their first token; 30 to 50 structures, unions and enumerations, from the word inwards
--   37 to 40  what follows the identifier of a declarator
--   8 to 20   unary expressions by their first token, and what stands behind it
--   1 to 5    postfix operators, operators between operands, lists, and what ends without a further call at the height
-- The functions of `height` (and `specifier_within`) have rank 0: at height h they go to a function at h - 1. A loop
-- decreases by the tokens left, or by the height left above the node that it has made so far.
use Rattle.std.proofs.Common.{◌≡◌, length, map, ◌+◌, ◌-◌, ◌*◌, ◌≤◌, ◌++◌}
use Rattle.c_syntax.specs.Height.{height, exprs_height, declarator_height, enumerators_height, members_height}
use Rattle.c_syntax.specs.Height.{specifiers_height, declarators_height, parameters_height}
use Rattle.c_reading.specs.Parser.{and_then, pure, many}
use Rattle.c_reading.specs.ReadExpr.{goes_postfix, postfix_on, postfixes, listed_arguments, goes_infix, infix_on}
use Rattle.c_reading.specs.ReadExpr.{infixes}
use Rattle.c_reading.specs.ReadSpecifier.{parsers, listed_enumerators, all_members, more_members, goes_specifier}
use Rattle.c_reading.specs.ReadSpecifier.{specified_with, types_seen}
use Rattle.c_syntax.specs.Scopes.{expr_adds, exprs_add, declarator_adds, enumerators_add, members_add, specifiers_add}
use Rattle.c_syntax.specs.Scopes.{declarators_add, parameters_add}
use Rattle.c_syntax.specs.View.{expr_of, exprs, declarator_of, enumerator_of, enumerators, member_of, members}
use Rattle.c_syntax.specs.View.{specifier_of, specifiers_of, declarators, parameter_of, parameters}
use Rattle.c_parser.proofs.read.+reading.Given as goal
use Rattle.c_reading.specs.ReadDeclarator.{goes_suffix, suffix_on, suffixes, listed_declarators, listed_parameters}
use Rattle.c_reading.specs.declared.type_seen.TypeSeen.TheVariants.{Nothing}
use Rattle.c_parser.proofs.ClimbTurns.{Climbing}
use Rattle.c_parser.proofs.ListTurns.{Listing}
use Rattle.c_parser.proofs.SpecifierTurns.{step, start}

abbrev pub decreases-height::expr : goal.decreases-height::expr
decreases-height::expr l = 64 * l.h

abbrev pub decreases-height::paren_expr : goal.decreases-height::paren_expr
decreases-height::paren_expr l = 64 * l.h

abbrev pub decreases-height::type_name : goal.decreases-height::type_name
decreases-height::type_name l = 64 * l.h

abbrev pub decreases-height::declarator : goal.decreases-height::declarator
decreases-height::declarator l = 64 * l.h

abbrev pub decreases-height::parameter : goal.decreases-height::parameter
decreases-height::parameter l = 64 * l.h

abbrev pub decreases-height::member : goal.decreases-height::member
decreases-height::member l = 64 * l.h

abbrev pub decreases-infix::expr_at : goal.decreases-infix::expr_at
decreases-infix::expr_at l = 64 * l.k + 60

abbrev pub decreases-unary::paren_expr_at : goal.decreases-unary::paren_expr_at
decreases-unary::paren_expr_at l = 64 * l.k + 10

abbrev pub decreases-type_name::type_name_at : goal.decreases-type_name::type_name_at
decreases-type_name::type_name_at l = 64 * l.k + 60

abbrev pub decreases-declarator::declarator_at : goal.decreases-declarator::declarator_at
decreases-declarator::declarator_at l = 64 * l.k + 60

abbrev pub decreases-parameter::parameter_at : goal.decreases-parameter::parameter_at
decreases-parameter::parameter_at l = 64 * l.k + 60

abbrev pub decreases-member::member_at : goal.decreases-member::member_at
decreases-member::member_at l = 64 * l.k + 60

-- ---- postfix operators

abbrev pub decreases-postfix::postfixes : goal.decreases-postfix::postfixes
decreases-postfix::postfixes l = 64 * l.k + 5

abbrev pub decreases-postfix::postfix_on : goal.decreases-postfix::postfix_on
decreases-postfix::postfix_on l = 64 * l.k + 4

abbrev pub decreases-postfix::index : goal.decreases-postfix::index
decreases-postfix::index l = 64 * l.k + 1

abbrev pub invariant-postfix::postfixes-operators : goal.invariant-postfix::postfixes-operators
invariant-postfix::postfixes-operators l =
    Climbing l.k goes_postfix height expr_adds (postfix_on l.k (parsers l.k)) (λ outer. l.fn.scope
    ≡ outer ++ expr_adds (expr_of l.fn.left.node.value))
    (λ outer. postfixes l.k (parsers l.k) outer (expr_of l.fn.left.node.value) l.tokens)
    (expr_of l.left.node.value) l.left.height l.scope l.rest

abbrev pub decreases-postfix::postfixes-operators : goal.decreases-postfix::postfixes-operators
decreases-postfix::postfixes-operators l = l.k + 1 - l.left.height

abbrev pub decreases-postfix::listed_arguments : goal.decreases-postfix::listed_arguments
decreases-postfix::listed_arguments l = 64 * l.k + 1

abbrev pub invariant-postfix::listed_arguments-each : goal.invariant-postfix::listed_arguments-each
invariant-postfix::listed_arguments-each l =
    Listing (listed_arguments l.k (parsers l.k)) expr_of (λ all. exprs_height (exprs (map expr_of all)))
    (λ all. exprs_add (exprs (map expr_of all))) l.k l.fn.scope l.tokens
    l.all.nodes.items l.all.height l.scope l.rest

abbrev pub decreases-postfix::listed_arguments-each : goal.decreases-postfix::listed_arguments-each
decreases-postfix::listed_arguments-each l = length l.rest

abbrev pub decreases-unary::unary_at : goal.decreases-unary::unary_at
decreases-unary::unary_at l = 64 * l.k + 20

-- ---- operators

abbrev pub decreases-postfix::call : goal.decreases-postfix::call
decreases-postfix::call l = 64 * l.k + 3

abbrev pub decreases-postfix::arguments : goal.decreases-postfix::arguments
decreases-postfix::arguments l = 64 * l.k + 2

abbrev pub decreases-infix::infixes : goal.decreases-infix::infixes
decreases-infix::infixes l = 64 * l.k + 3

abbrev pub decreases-infix::infix_on : goal.decreases-infix::infix_on
decreases-infix::infix_on l = 64 * l.k + 2

abbrev pub decreases-infix::between_on : goal.decreases-infix::between_on
decreases-infix::between_on l = 64 * l.k + 1

abbrev pub decreases-infix::cond_on : goal.decreases-infix::cond_on
decreases-infix::cond_on l = 64 * l.k + 1

abbrev pub invariant-infix::infixes-operators : goal.invariant-infix::infixes-operators
invariant-infix::infixes-operators l =
    Climbing l.k (goes_infix l.level) height expr_adds (infix_on l.k (parsers l.k)) (λ outer. l.fn.scope
    ≡ outer ++ expr_adds (expr_of l.fn.left.node.value))
    (λ outer. infixes l.k (parsers l.k) outer l.level (expr_of l.fn.left.node.value) l.tokens)
    (expr_of l.left.node.value) l.left.height l.scope l.rest

abbrev pub decreases-infix::infixes-operators : goal.decreases-infix::infixes-operators
decreases-infix::infixes-operators l = l.k + 1 - l.left.height

-- ---- declarator

abbrev pub decreases-declarator::star_declarator : goal.decreases-declarator::star_declarator
decreases-declarator::star_declarator l = 64 * l.k + 50

abbrev pub decreases-declarator::pointer : goal.decreases-declarator::pointer
decreases-declarator::pointer l = 64 * l.k + 49

abbrev pub decreases-declarator::paren_declarator : goal.decreases-declarator::paren_declarator
decreases-declarator::paren_declarator l = 64 * l.k + 50

abbrev pub decreases-declarator::behind_paren : goal.decreases-declarator::behind_paren
decreases-declarator::behind_paren l = 64 * l.k + 49

abbrev pub decreases-declarator::omitted_list : goal.decreases-declarator::omitted_list
decreases-declarator::omitted_list l = 64 * l.k + 48

abbrev pub decreases-declarator::nested_declarator : goal.decreases-declarator::nested_declarator
decreases-declarator::nested_declarator l = 64 * l.k + 48

abbrev pub decreases-declarator::bracket_declarator : goal.decreases-declarator::bracket_declarator
decreases-declarator::bracket_declarator l = 64 * l.k + 50

abbrev pub decreases-declarator::unnamed_array : goal.decreases-declarator::unnamed_array
decreases-declarator::unnamed_array l = 64 * l.k + 49

abbrev pub decreases-declarator::name_declarator : goal.decreases-declarator::name_declarator
decreases-declarator::name_declarator l = 64 * l.k + 50

abbrev pub decreases-suffix::suffixes : goal.decreases-suffix::suffixes
decreases-suffix::suffixes l = 64 * l.k + 40

abbrev pub decreases-suffix::suffix_on : goal.decreases-suffix::suffix_on
decreases-suffix::suffix_on l = 64 * l.k + 39

abbrev pub decreases-suffix::array_on : goal.decreases-suffix::array_on
decreases-suffix::array_on l = 64 * l.k + 38

abbrev pub decreases-suffix::length : goal.decreases-suffix::length
decreases-suffix::length l = 64 * l.k + 37

abbrev pub decreases-suffix::function_on : goal.decreases-suffix::function_on
decreases-suffix::function_on l = 64 * l.k + 38

abbrev pub decreases-parameters::parameters_at : goal.decreases-parameters::parameters_at
decreases-parameters::parameters_at l = 64 * l.k + 5

abbrev pub decreases-parameters::listed_parameters : goal.decreases-parameters::listed_parameters
decreases-parameters::listed_parameters l = 64 * l.k + 4

abbrev pub invariant-suffix::suffixes-each : goal.invariant-suffix::suffixes-each
invariant-suffix::suffixes-each l =
    Climbing l.k goes_suffix declarator_height declarator_adds (suffix_on l.k (parsers l.k)) (λ outer. l.fn.scope
    ≡ outer ++ declarator_adds (declarator_of l.fn.left.node.value))
    (λ outer. suffixes l.k (parsers l.k) outer (declarator_of l.fn.left.node.value) l.tokens)
    (declarator_of l.left.node.value) l.left.height l.scope l.rest

abbrev pub decreases-suffix::suffixes-each : goal.decreases-suffix::suffixes-each
decreases-suffix::suffixes-each l = l.k + 1 - l.left.height

-- ---- unary

abbrev pub decreases-unary::inside : goal.decreases-unary::inside
decreases-unary::inside l = 64 * l.k + 15

abbrev pub decreases-unary::text : goal.decreases-unary::text
decreases-unary::text l = 64 * l.k + 8

abbrev pub decreases-unary::constant : goal.decreases-unary::constant
decreases-unary::constant l = 64 * l.k + 8

abbrev pub decreases-unary::name : goal.decreases-unary::name
decreases-unary::name l = 64 * l.k + 8

abbrev pub decreases-unary::size : goal.decreases-unary::size
decreases-unary::size l = 64 * l.k + 3

abbrev pub decreases-unary::alignment : goal.decreases-unary::alignment
decreases-unary::alignment l = 64 * l.k + 2

abbrev pub decreases-unary::size_behind_paren : goal.decreases-unary::size_behind_paren
decreases-unary::size_behind_paren l = 64 * l.k + 2

abbrev pub decreases-unary::type_measure : goal.decreases-unary::type_measure
decreases-unary::type_measure l = 64 * l.k + 1

abbrev pub decreases-unary::cast_on : goal.decreases-unary::cast_on
decreases-unary::cast_on l = 64 * l.k + 1

abbrev pub decreases-unary::prefix_expr : goal.decreases-unary::prefix_expr
decreases-unary::prefix_expr l = 64 * l.k + 1

abbrev pub decreases-specifier::specifiers : goal.decreases-specifier::specifiers
decreases-specifier::specifiers l = 64 * l.h + 1

-- ---- specifier

abbrev pub decreases-enumeration::enumeration : goal.decreases-enumeration::enumeration
decreases-enumeration::enumeration l = 64 * l.k + 50

abbrev pub decreases-enumeration::enum_tag : goal.decreases-enumeration::enum_tag
decreases-enumeration::enum_tag l = 64 * l.k + 40

abbrev pub decreases-enumeration::enum_body : goal.decreases-enumeration::enum_body
decreases-enumeration::enum_body l = 64 * l.k + 30

abbrev pub decreases-enumeration::listed_enumerators : goal.decreases-enumeration::listed_enumerators
decreases-enumeration::listed_enumerators l = 64 * l.k + 20

abbrev pub decreases-enumeration::enumerator : goal.decreases-enumeration::enumerator
decreases-enumeration::enumerator l = 64 * l.k + 10

abbrev pub decreases-enumeration::enumerator_on : goal.decreases-enumeration::enumerator_on
decreases-enumeration::enumerator_on l = 64 * l.k + 5

abbrev pub invariant-enumeration::listed_enumerators-each : goal.invariant-enumeration::listed_enumerators-each
invariant-enumeration::listed_enumerators-each l =
    Listing (listed_enumerators l.k (parsers l.k)) enumerator_of
    (λ all. enumerators_height (enumerators (map enumerator_of all)))
    (λ all. enumerators_add (enumerators (map enumerator_of all))) l.k l.fn.scope l.tokens
    l.all.nodes.items l.all.height l.scope l.rest

abbrev pub decreases-enumeration::listed_enumerators-each : goal.decreases-enumeration::listed_enumerators-each
decreases-enumeration::listed_enumerators-each l = length l.rest

abbrev pub decreases-compound::compound : goal.decreases-compound::compound
decreases-compound::compound l = 64 * l.k + 50

abbrev pub decreases-compound::compound_tag : goal.decreases-compound::compound_tag
decreases-compound::compound_tag l = 64 * l.k + 40

abbrev pub decreases-compound::compound_body : goal.decreases-compound::compound_body
decreases-compound::compound_body l = 64 * l.k + 30

abbrev pub decreases-compound::all_members : goal.decreases-compound::all_members
decreases-compound::all_members l = 64 * l.k + 20

abbrev pub invariant-compound::all_members-more : goal.invariant-compound::all_members-more
invariant-compound::all_members-more l = record {
  reads : all_members l.k (parsers l.k) l.fn.scope l.tokens
      ≡ and_then (more_members l.k (parsers l.k) l.scope l.rest)
      (λ more. pure (map member_of l.all.nodes.items ++ more));
  height : (l.all.height ≡ members_height (members (map member_of l.all.nodes.items))) × (l.all.height ≤ l.k);
  scope : l.scope ≡ l.fn.scope ++ members_add (members (map member_of l.all.nodes.items));
}

abbrev pub decreases-compound::all_members-more : goal.decreases-compound::all_members-more
decreases-compound::all_members-more l = length l.rest

abbrev pub decreases-specifier::specifier_within : goal.decreases-specifier::specifier_within
decreases-specifier::specifier_within l = 64 * l.h

abbrev pub decreases-specifier::specifier_at : goal.decreases-specifier::specifier_at
decreases-specifier::specifier_at l = 64 * l.k + 60

abbrev pub invariant-specifier::specifiers-each : goal.invariant-specifier::specifiers-each
invariant-specifier::specifiers-each l = record {
  reads : many goes_specifier (step l.h) specified_with (start l.fn.scope) l.tokens
      ≡ and_then (many goes_specifier (step l.h) specified_with (record {
        scope = l.scope;
        type_seen =
            l.type_seen;
      }) l.rest) (λ more. pure (map specifier_of l.all.nodes.items ++ more));
  type_seen : l.type_seen ≡ types_seen Nothing (map specifier_of l.all.nodes.items);
  height : (l.all.height ≡ specifiers_height (specifiers_of l.all.nodes.items)) × (l.all.height ≤ l.h);
  scope : l.scope ≡ l.fn.scope ++ specifiers_add (specifiers_of l.all.nodes.items);
}

abbrev pub decreases-specifier::specifiers-each : goal.decreases-specifier::specifiers-each
decreases-specifier::specifiers-each l = length l.rest

-- ---- parameter

abbrev pub decreases-member::member_on : goal.decreases-member::member_on
decreases-member::member_on l = 64 * l.k + 3

abbrev pub decreases-member::member_in : goal.decreases-member::member_in
decreases-member::member_in l = 64 * l.k + 2

abbrev pub decreases-member::listed_declarators : goal.decreases-member::listed_declarators
decreases-member::listed_declarators l = 64 * l.k + 1

abbrev pub invariant-member::listed_declarators-each : goal.invariant-member::listed_declarators-each
invariant-member::listed_declarators-each l =
    Listing (listed_declarators l.k (parsers l.k)) declarator_of
    (λ all. declarators_height (declarators (map declarator_of all)))
    (λ all. declarators_add (declarators (map declarator_of all))) l.k l.fn.scope l.tokens
    l.all.nodes.items l.all.height l.scope l.rest

abbrev pub decreases-member::listed_declarators-each : goal.decreases-member::listed_declarators-each
decreases-member::listed_declarators-each l = length l.rest

abbrev pub invariant-parameters::listed_parameters-each : goal.invariant-parameters::listed_parameters-each
invariant-parameters::listed_parameters-each l =
    Listing (listed_parameters l.k (parsers l.k)) parameter_of
    (λ all. parameters_height (parameters (map parameter_of all)))
    (λ all. parameters_add (parameters (map parameter_of all))) l.k l.fn.scope l.tokens
    l.all.nodes.items l.all.height l.scope l.rest

abbrev pub decreases-parameters::listed_parameters-each : goal.decreases-parameters::listed_parameters-each
decreases-parameters::listed_parameters-each l = length l.rest
