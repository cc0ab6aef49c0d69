-- The numbers of each rule's constraints rise.
use Rattle.std.specs.Prelude.{ℕ, ℤ, Bool, List, Option}
use Rattle.c_types.specs.CType.{CType}
use Rattle.c_types.specs.Structures.{Structure}
use Rattle.c_scopes.specs.declared.binding.TagState.{TagState}
use Rattle.c_scopes.specs.Named.{Named}
use Rattle.c_scopes.specs.Ruled.{Rises}
use Rattle.c_type_rules.specs.Arrays.{array_demands}
use Rattle.c_type_rules.specs.Enumerators.{enumerator_demands}
use Rattle.c_type_rules.specs.Functions.{function_demands}
use Rattle.c_type_rules.specs.Members.{member_demands, no_member_demands, content_demands}
use Rattle.c_type_rules.specs.Settings.{storage_demands}
use Rattle.c_type_rules.specs.Tags.{enumerated_demands}

-- of each rule with more than one
pub record AllRise : Type 0 where
  pub array : (structures : List Structure) (of : CType) (length : Option ℕ)
      → Rises (array_demands structures of length)
  pub function : (gives : CType) (variadic may_vary : Bool) → Rises (function_demands gives variadic may_vary)
  pub storage : (parameter before stands : Bool) → Rises (storage_demands parameter before stands)
  pub enumerated : (type : CType) (state : TagState) → Rises (enumerated_demands type state)
  pub enumerator : (here : Option Named) (value : Option ℤ) → Rises (enumerator_demands here value)
  pub member : (structures : List Structure) (given : Bool) (type : CType)
      → Rises (member_demands structures given type)
  pub no_member : (declares : Bool) → Rises (no_member_demands declares)
  pub content : (is_union : Bool) (names : List (List ℕ)) (type : CType) (structures : List Structure)
      → Rises (content_demands is_union names type structures)
