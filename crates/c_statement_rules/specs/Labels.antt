-- The labels of a `switch` (6.8.4.2).
use Rattle.std.specs.Prelude.{◌≡◌, ℕ, ℤ, pos, Bool, false, not, ◌||◌, is_some, List, [], ◌∷◌, ◌++◌, Option, Some, None}
use Rattle.std.specs.Prelude.{Result, Ok, Err}
use Rattle.std.specs.BTreeSet.{BTreeSet, contains}
use Rattle.std.specs.Ordering.{int_cmp, int_eq}
use Rattle.acc_num.specs.Operations.{converted_to}
use Rattle.acc_num.specs.declared.kind.IntKind.{IntKind}
use Rattle.critical_table.specs.declared.pos.Pos.{Pos}
use Rattle.c_core.specs.declared.fault.TypeFault.{TypeFault}
use Rattle.c_core.specs.declared.statement.Case.{Case}
use Rattle.c_scopes.specs.Clauses.{BreaksAt}
use Rattle.c_scopes.specs.Ruled.{Ruled, Fits, Demand, ruled}

-- the labels so far: `case` labels in order, and before which item `default` stands
pub record Labels : Type 0 where
  pub cases : List Case
  pub default : Option ℕ

abbrev pub no_labels : Labels
no_labels = record { cases = []; default = None }

-- a label has the value
abbrev pub is_among : ℤ → List Case → Bool
is_among value [] = false
is_among value (first ∷ rest) = int_eq first.value value || is_among value rest

-- The value of a `case` is an integer constant expression. It is converted to the promoted type of the controlling
-- expression, whose kind this is, and then equals that of no earlier label (6.8.4.2p3, p5).
abbrev pub is_new_case : IntKind → List Case → Option ℤ → Bool
is_new_case kind earlier None = false
is_new_case kind earlier (Some n) = not (is_among (converted_to kind n) earlier)

abbrev pub case_demands : IntKind → List Case → Option ℤ → List Demand
case_demands kind earlier value = (39, is_new_case kind earlier value) ∷ []

abbrev pub case_value : IntKind → Option ℤ → ℤ
case_value kind None = pos 0
case_value kind (Some n) = converted_to kind n

abbrev pub with_case : Labels → ℤ → ℕ → Labels
with_case labels value at =
    record { cases = labels.cases ++ record { value = value; at = at } ∷ []; default = labels.default }

-- a `case` in front of the item of that number
abbrev pub case_rule : IntKind → Labels → Option ℤ → ℕ → Ruled Labels
case_rule kind labels value at =
    ruled (case_demands kind labels.cases value) (with_case labels (case_value kind value) at)

-- There is at most one `default` (6.8.4.2p3).
abbrev pub default_demands : Option ℕ → List Demand
default_demands earlier = (39, not (is_some earlier)) ∷ []

abbrev pub default_rule : Labels → ℕ → Ruled Labels
default_rule labels at =
    ruled (default_demands labels.default) (record { cases = labels.cases; default = Some at })

-- an ordered set beside the labels has the value of each
abbrev pub IsKept : List Case → BTreeSet ℤ → Type 0
IsKept cases set = (value : ℤ) → contains int_cmp set value ≡ is_among value cases

-- a call that adds a label to those that are there: these are the labels behind it
abbrev pub Adds : Ruled Labels → Pos → Labels → Result (Unit {0}) TypeFault → Type 0
Adds rule at labels (Ok done) = rule ≡ Fits labels
Adds rule at labels (Err fault) = BreaksAt rule at fault
