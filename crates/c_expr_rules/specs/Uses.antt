-- Expressions that are used as values, as conditions, or for nothing. Each rule stands at the expression itself, behind
-- its parts and before the node around it (6.3.2.1, 6.3.2.2, 6.8.4, 6.8.5).
use Rattle.std.specs.Prelude.{Bool, not, ◌||◌, List, [], ◌∷◌}
use Rattle.c_types.specs.Structures.{Structure}
use Rattle.c_core.specs.Tree.{Core}
use Rattle.c_scopes.specs.Ruled.{Ruled, Demand, ruled}
use Rattle.c_conversions.specs.Kinds.{is_integer}
use Rattle.c_conversions.specs.Versions.{is_compound, is_void, is_scalar}
use Rattle.c_conversions.specs.Parts.{Part, as_value}
use Rattle.c_conversions.specs.Converting.{promoted_value, truth_value, discarded}
use Rattle.c_expr_rules.specs.Targets.{type_of_part, is_complete}

-- a structure or union is complete where its value is used (6.3.2.1p2)
abbrev pub has_value : List Structure → Part → Bool
has_value structures part = not (is_compound (type_of_part part)) || is_complete (type_of_part part) structures

-- an expression that is converted as a value, and may be void
abbrev pub used_demands : List Structure → Part → List Demand
used_demands structures part = (7, has_value structures part) ∷ []

abbrev pub used_rule : List Structure → Part → Ruled Part
used_rule structures part = ruled (used_demands structures part) (as_value structures part)

-- a value (6.3.2.2)
abbrev pub value_demands : List Structure → Part → List Demand
value_demands structures part =
    (7, has_value structures part) ∷ (37, not (is_void (type_of_part part))) ∷ []

abbrev pub value_rule : List Structure → Part → Ruled Part
value_rule structures part = ruled (value_demands structures part) (as_value structures part)

-- the controlling expression of `if`, of a loop and of `?` (6.5.15p2, 6.8.4.1p1, 6.8.5p2)
abbrev pub test_demands : List Structure → Part → List Demand
test_demands structures part =
    (7, has_value structures part) ∷ (37, not (is_void (type_of_part part)))
    ∷ (38, is_scalar (type_of_part (as_value structures part))) ∷ []

abbrev pub test_rule : List Structure → Part → Ruled Core
test_rule structures part = ruled (test_demands structures part) (truth_value (as_value structures part).core)

-- the controlling expression of `switch` (6.8.4.2p1, p5)
abbrev pub switch_demands : List Structure → Part → List Demand
switch_demands structures part =
    (7, has_value structures part) ∷ (37, not (is_void (type_of_part part)))
    ∷ (38, is_integer (type_of_part (as_value structures part))) ∷ []

abbrev pub switch_rule : List Structure → Part → Ruled Core
switch_rule structures part =
    ruled (switch_demands structures part) (promoted_value (as_value structures part).core)

-- An expression whose value is not used: an expression statement, the first and the third part of a `for`, the left
-- operand of a comma, the operand of a cast to `void` (6.3.2.2, 6.5.17p2, 6.8.3p2).
abbrev pub discard_rule : List Structure → Part → Ruled Core
discard_rule structures part =
    ruled (used_demands structures part) (discarded (as_value structures part).core)
