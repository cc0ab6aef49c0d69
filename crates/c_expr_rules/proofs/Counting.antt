-- How many parameters and arguments there are.
use Rattle.std.proofs.Common.{◌≡◌, List, [], ◌∷◌, map, length, refl, ◌∙◌, ap, sym, arith}
use Rattle.c_types.specs.declared.shape.TypeId.{TypeId}
use Rattle.c_types.specs.CType.{CType, CTypes, types_at}
use Rattle.c_core.specs.declared.expression.CoreExpr.{CoreExpr}
use Rattle.c_core.specs.Tree.{Core, cores}
use Rattle.c_expr_rules.specs.Calls.{count_of_types, count_of_cores}

count_of_ids : (all : List CType) (ids : List TypeId) → count_of_types (types_at all ids) ≡ length ids
count_of_ids all [] = refl
count_of_ids all (id ∷ ids) = omega (arith, count_of_ids all ids)

pub count_of_parameters : (all : List CType) (ids : List TypeId) (types : CTypes) → types_at all ids ≡ types
    → count_of_types types ≡ length ids
count_of_parameters all ids types same = ap count_of_types (sym same) ∙ count_of_ids all ids

pub count_of_arguments : (view : CoreExpr → Core) (arguments : List CoreExpr)
    → count_of_cores (cores (map view arguments)) ≡ length arguments
count_of_arguments view [] = refl
count_of_arguments view (argument ∷ arguments) = omega (arith, count_of_arguments view arguments)
