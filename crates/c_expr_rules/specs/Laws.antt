-- The law of the rules: the numbers of their constraints rise, so the first that fails is the least.
use Rattle.std.specs.Prelude.{ℕ, Bool, List}
use Rattle.c_types.specs.CType.{CType}
use Rattle.c_types.specs.Structures.{Structure}
use Rattle.c_core.specs.Tree.{Cores}
use Rattle.c_scopes.specs.Ruled.{Rises}
use Rattle.c_conversions.specs.Parts.{Part}
use Rattle.c_expr_rules.specs.Uses.{used_demands, value_demands, test_demands, switch_demands}
use Rattle.c_expr_rules.specs.Primary.{literal_demands}
use Rattle.c_expr_rules.specs.Unary.{sign_demands, not_demands, measure_demands, size_of_demands}
use Rattle.c_expr_rules.specs.Pointers.{address_demands, deref_demands, index_demands}
use Rattle.c_expr_rules.specs.Members.{dot_demands, arrow_demands}
use Rattle.c_expr_rules.specs.Casts.{cast_demands}
use Rattle.c_expr_rules.specs.Calls.{pass_demands, further_demands, call_demands}

pub record ListsRise : Type 0 where
  pub used : (structures : List Structure) (part : Part) → Rises (used_demands structures part)
  pub value : (structures : List Structure) (part : Part) → Rises (value_demands structures part)
  pub test : (structures : List Structure) (part : Part) → Rises (test_demands structures part)
  pub switch : (structures : List Structure) (part : Part) → Rises (switch_demands structures part)
  pub literal : (wide : Bool) (units : ℕ) → Rises (literal_demands wide units)
  pub sign : (part : Part) → Rises (sign_demands part)
  pub not : (part : Part) → Rises (not_demands part)
  pub measure : (structures : List Structure) (type : CType) → Rises (measure_demands structures type)
  pub size_of : (structures : List Structure) (part : Part) → Rises (size_of_demands structures part)
  pub address : (part : Part) → Rises (address_demands part)
  pub deref : (structures : List Structure) (part : Part) → Rises (deref_demands structures part)
  pub index : (structures : List Structure) (left right : Part) → Rises (index_demands structures left right)
  pub dot : (structures : List Structure) (name : List ℕ) (part : Part) → Rises (dot_demands structures name part)
  pub arrow : (structures : List Structure) (name : List ℕ) (part : Part) → Rises (arrow_demands structures name part)
  pub cast : (type : CType) (part : Part) → Rises (cast_demands type part)
  pub pass : (type : CType) (part : Part) → Rises (pass_demands type part)
  pub further : (part : Part) → Rises (further_demands part)
  pub call : (structures : List Structure) (function : Part) (arguments : Cores)
      → Rises (call_demands structures function arguments)
