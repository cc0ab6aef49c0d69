-- Static assertions (6.7.10).
use Rattle.std.specs.Prelude.{ℤ, Bool, false, not, List, [], ◌∷◌, Option, Some, None}
use Rattle.acc_num.specs.Operations.{is_zero}
use Rattle.c_scopes.specs.Ruled.{Ruled, Demand, ruled}

-- an integer constant expression that is not 0
abbrev pub is_asserted : Option ℤ → Bool
is_asserted None = false
is_asserted (Some n) = not (is_zero n)

-- The rule stands at the assertion, behind its expression (6.7.10p2, p3).
abbrev pub assertion_demands : Option ℤ → List Demand
assertion_demands value = (15, is_asserted value) ∷ []

abbrev pub assertion_rule : Option ℤ → Ruled (Unit {0})
assertion_rule value = ruled (assertion_demands value) tt
