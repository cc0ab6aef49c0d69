-- Calls (6.5.2.2).
use Rattle.std.specs.Prelude.{ℕ, ◌+◌, ◌==◌, nat_lt, Bool, not, ◌&&◌, ◌||◌, List, [], ◌∷◌, Option, Some, None, is_some}
use Rattle.critical_table.specs.declared.pos.Pos.{Pos}
use Rattle.c_types.specs.CType.{CType, CTypes, Nil, Cons}
use Rattle.c_types.specs.Functions.{gives_of, parameters_of, variadic_of}
use Rattle.c_types.specs.Structures.{Structure}
use Rattle.c_core.specs.declared.form.Content.{Content}
use Rattle.c_core.specs.Tree.{Core, At, Cores, NoCore, MoreCores}
use Rattle.c_core.specs.Tree as tree
use Rattle.c_scopes.specs.Ruled.{Ruled, Demand, ruled}
use Rattle.c_conversions.specs.Versions.{is_pointer, is_compound, is_function}
use Rattle.c_conversions.specs.Contents.{given_in}
use Rattle.c_conversions.specs.Parts.{Part, value}
use Rattle.c_conversions.specs.Converting.{converts, passed, promoted_value}
use Rattle.c_expr_rules.specs.Targets.{type_of_part, target_of}

-- ---- arguments: each rule stands at the argument

-- an argument for a parameter of this type (6.5.2.2p2, p7)
abbrev pub pass_demands : CType → Part → List Demand
pass_demands type part = (30, converts type part) ∷ []

abbrev pub pass_rule : List Structure → CType → Part → Ruled Core
pass_rule structures type part = ruled (pass_demands type part) (passed structures type part)

-- An argument behind the parameters of a variadic function has the default argument promotions (6.5.2.2p6, p7). No
-- structure or union is passed so.
abbrev pub further_demands : Part → List Demand
further_demands part = (30, not (is_compound (type_of_part part))) ∷ []

abbrev pub further_rule : Part → Ruled Core
further_rule part = ruled (further_demands part) (promoted_value part.core)

-- ---- the call

-- a pointer to a function (6.5.2.2p1)
abbrev pub may_call : Part → Bool
may_call function = is_pointer (type_of_part function) && is_function (target_of (type_of_part function))

abbrev pub count_of_types : CTypes → ℕ
count_of_types Nil = 0
count_of_types (Cons type types) = count_of_types types + 1

abbrev pub count_of_cores : Cores → ℕ
count_of_cores NoCore = 0
count_of_cores (MoreCores first rest) = count_of_cores rest + 1

abbrev pub is_enough : Bool → ℕ → ℕ → Bool
is_enough variadic wanted given = wanted == given || (variadic && nat_lt wanted given)

-- as many arguments as parameters, or more where the function is variadic (6.5.2.2p2)
abbrev pub are_as_many : CTypes → Bool → Cores → Bool
are_as_many types variadic arguments = is_enough variadic (count_of_types types) (count_of_cores arguments)

abbrev pub result_in : Part → CType
result_in function = gives_of (target_of (type_of_part function))

-- The result is `void` or complete (6.5.2.2p1). What is no function gives nothing to ask for.
abbrev pub has_result : List Structure → Part → Bool
has_result structures function = not (may_call function) || is_some (given_in (result_in function) structures)

abbrev pub call_demands : List Structure → Part → Cores → List Demand
call_demands structures function arguments =
    (7, has_result structures function) ∷ (32, may_call function)
    ∷ (
      33,
      are_as_many (parameters_of (target_of (type_of_part function)))
          (variadic_of (target_of (type_of_part function))) arguments,
    ) ∷ []

abbrev pub or_nothing : Option (Option Content) → Option Content
or_nothing None = None
or_nothing (Some given) = given

-- Whether the value of the call is used is told by what stands around it; a call that gives nothing has no value.
abbrev pub call_part : List Structure → Pos → Bool → Part → Cores → Part
call_part structures at used function arguments =
    let given = or_nothing (given_in (result_in function) structures) in
    value (At (result_in function) at (tree.Call (used && is_some given) given function.core arguments))

abbrev pub call_rule : List Structure → Pos → Bool → Part → Cores → Ruled Part
call_rule structures at used function arguments =
    ruled (call_demands structures function arguments) (call_part structures at used function arguments)
