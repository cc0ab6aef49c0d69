-- Functions and their parameters (6.7.6.3).
use Rattle.std.specs.Prelude.{Bool, not, ◌&&◌, ◌||◌, List, [], ◌∷◌}
use Rattle.c_types.specs.CType.{CType, CTypes, Plain, Array, Function, no_quals}
use Rattle.c_scopes.specs.Ruled.{Ruled, Demand, ruled}
use Rattle.c_conversions.specs.Kinds.{pointer_to}
use Rattle.c_conversions.specs.Versions.{is_array, is_function, is_void}

-- an array parameter is a pointer to the elements, a function a pointer to it (6.7.6.3p7, p8)
abbrev pub adjusted : CType → CType
adjusted (Array of len) = pointer_to of
adjusted (Plain (Function gives parameters variadic) quals) =
    pointer_to (Plain (Function gives parameters variadic) quals)
adjusted other = other

abbrev pub parameter_demands : CType → List Demand
parameter_demands type = (45, not (is_void type)) ∷ []

-- the type of a parameter that was declared with this one; `void` that stands alone is none (6.7.6.3p10)
abbrev pub parameter_rule : CType → Ruled CType
parameter_rule type = ruled (parameter_demands type) (adjusted type)

-- `may_vary` tells that the function is the one that may have `...`
abbrev pub function_demands : CType → Bool → Bool → List Demand
function_demands gives variadic may_vary = (10, not (is_array gives) && not (is_function gives))
    ∷ (43, not variadic || may_vary) ∷ []

-- a function of these parameters, each adjusted (6.7.6.3p1)
abbrev pub function_rule : CType → CTypes → Bool → Bool → Ruled CType
function_rule gives parameters variadic may_vary =
    ruled (function_demands gives variadic may_vary) (Plain (Function gives parameters variadic) no_quals)
