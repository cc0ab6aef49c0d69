-- The law of the rules: the numbers of their constraints rise, so the first that fails is the least.
use Rattle.std.specs.Prelude.{List}
use Rattle.c_types.specs.CType.{CType}
use Rattle.c_types.specs.Structures.{Structure}
use Rattle.c_core.specs.declared.operator.Operator.{Operator}
use Rattle.c_scopes.specs.Ruled.{Rises}
use Rattle.c_conversions.specs.Parts.{Part}
use Rattle.c_operator_rules.specs.Binary.{arithmetic_demands, add_demands, subtract_demands, logical_demands}
use Rattle.c_operator_rules.specs.Comparisons.{relational_demands, equality_demands}
use Rattle.c_operator_rules.specs.Conditional.{conditional_demands}
use Rattle.c_operator_rules.specs.Assignment.{convert_demands, assigned_demands, assign_demands, compound_demands}
use Rattle.c_operator_rules.specs.Assignment.{step_demands}

pub record ListsRise : Type 0 where
  pub arithmetic : (left right : Part) → Rises (arithmetic_demands left right)
  pub add : (structures : List Structure) (left right : Part) → Rises (add_demands structures left right)
  pub subtract : (structures : List Structure) (left right : Part) → Rises (subtract_demands structures left right)
  pub logical : (left right : Part) → Rises (logical_demands left right)
  pub relational : (left right : Part) → Rises (relational_demands left right)
  pub equality : (left right : Part) → Rises (equality_demands left right)
  pub conditional : (left right : Part) → Rises (conditional_demands left right)
  pub convert : (type : CType) (part : Part) → Rises (convert_demands type part)
  pub assigned : (structures : List Structure) (target part : Part) → Rises (assigned_demands structures target part)
  pub assign : (structures : List Structure) (target : Part) → Rises (assign_demands structures target)
  pub compound : (structures : List Structure) (operator : Operator) (target right : Part)
      → Rises (compound_demands structures operator target right)
  pub step : (structures : List Structure) (target : Part) → Rises (step_demands structures target)
