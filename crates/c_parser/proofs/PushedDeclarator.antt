-- Declarators and parameters with one more behind them: their height, and the names that they add.
use Rattle.std.proofs.Common.{◌≡◌, max, List, [], ◌∷◌, ◌++◌, map, sym, ◌∙◌, ap, append_assoc, arith}
use Rattle.std.proofs.lemmas.List.{append-nil}
use Rattle.c_syntax.specs.declared.declarator.Declarator.{Declarator}
use Rattle.c_syntax.specs.declared.declarator.Parameter.{Parameter}
use Rattle.c_syntax.specs.Height.{declarator_height, declarators_height, parameter_height, parameters_height}
use Rattle.c_syntax.specs.Scopes.{declarator_adds, declarators_add, parameter_adds, parameters_add}
use Rattle.c_syntax.specs.View.{declarator_of, declarators, parameter_of, parameters}
use Rattle.c_parser.proofs.Pushed.{Row}

declarators_higher : (all : List Declarator) (one : Declarator)
    → declarators_height (declarators (map declarator_of (all ++ one ∷ [])))
    ≡ max (declarators_height (declarators (map declarator_of all))) (declarator_height (declarator_of one))
declarators_higher [] one = omega arith
declarators_higher (first ∷ rest) one = let h = declarators_higher rest one in omega arith

declarators_add_more : (all : List Declarator) (one : Declarator)
    → declarators_add (declarators (map declarator_of (all ++ one ∷ [])))
    ≡ declarators_add (declarators (map declarator_of all)) ++ declarator_adds (declarator_of one)
declarators_add_more [] one = append-nil (declarator_adds (declarator_of one))
declarators_add_more (first ∷ rest) one =
    ap (λ more. declarator_adds (declarator_of first) ++ more) (declarators_add_more rest one)
    ∙ sym (append_assoc (declarator_adds (declarator_of first))
    (declarators_add (declarators (map declarator_of rest))) (declarator_adds (declarator_of one)))

pub declarator_row
    : Row declarator_of declarator_height declarator_adds
    (λ all. declarators_height (declarators (map declarator_of all)))
    (λ all. declarators_add (declarators (map declarator_of all)))
declarator_row = record { higher = declarators_higher; add_more = declarators_add_more }

parameters_higher : (all : List Parameter) (one : Parameter)
    → parameters_height (parameters (map parameter_of (all ++ one ∷ [])))
    ≡ max (parameters_height (parameters (map parameter_of all))) (parameter_height (parameter_of one))
parameters_higher [] one = omega arith
parameters_higher (first ∷ rest) one = let h = parameters_higher rest one in omega arith

parameters_add_more : (all : List Parameter) (one : Parameter)
    → parameters_add (parameters (map parameter_of (all ++ one ∷ [])))
    ≡ parameters_add (parameters (map parameter_of all)) ++ parameter_adds (parameter_of one)
parameters_add_more [] one = append-nil (parameter_adds (parameter_of one))
parameters_add_more (first ∷ rest) one =
    ap (λ more. parameter_adds (parameter_of first) ++ more) (parameters_add_more rest one)
    ∙ sym (append_assoc (parameter_adds (parameter_of first)) (parameters_add (parameters (map parameter_of rest)))
    (parameter_adds (parameter_of one)))

pub parameter_row
    : Row parameter_of parameter_height parameter_adds
    (λ all. parameters_height (parameters (map parameter_of all)))
    (λ all. parameters_add (parameters (map parameter_of all)))
parameter_row = record { higher = parameters_higher; add_more = parameters_add_more }
