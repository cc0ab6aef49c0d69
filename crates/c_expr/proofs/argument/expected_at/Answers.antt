-- The parameter at a place, of a function and of what is none.
use Rattle.std.proofs.Common.{◌≡◌, ◌∙◌, ap, false, arith}
use Rattle.std.specs.Prelude.{option_map}
use Rattle.c_types.specs.CType.{CTypes, all_types, type_of}
use Rattle.c_types.specs.Functions.{parameters_of}
use Rattle.c_types.specs.Types.{count_of}
use Rattle.c_conversions.specs.Versions.{is_function}
use Rattle.c_expr_rules.specs.Targets.{target_of}
use Rattle.c_expr.specs.Operands.{first_of, types_behind}
use Rattle.c_expr.proofs.Expecting.{none_expected, parameter_at, parameter_below}
use Rattle.c_expr.proofs.argument.expected_at.Goals as goal

pub returns-then-not-is_function-clause-parameter : goal.returns-then-not-is_function-clause-parameter
returns-then-not-is_function-clause-parameter c =
    let none : is_function (target_of (type_of c.args.types.now c.args.function.now.core.of)) ≡ false = cc in
    none_expected (target_of (type_of c.args.types.now c.args.function.now.core.of)) c.args.index none

pub returns-clause-is_in : goal.returns-clause-is_in
returns-clause-is_in c =
    parameter_below c.parameters.result.now c.args.index c.target-of.result.0 (count_of c.args.types.now)
    c.nth-parameter.result c.nth-parameter.ensures c.parameters.ensures.below (omega arith)

pub returns-clause-parameter : goal.returns-clause-parameter
returns-clause-parameter c =
    let types = c.args.types.now in
    ap (option_map (type_of types)) c.nth-parameter.ensures
    ∙ parameter_at (all_types types) c.parameters.result.now c.args.index
    ∙ ap (λ (all : CTypes). first_of (types_behind c.args.index all))
    (c.parameters.ensures.types ∙ ap parameters_of c.target-of.ensures.stands_for)
