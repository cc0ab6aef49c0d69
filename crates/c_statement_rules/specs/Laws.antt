-- The numbers of each rule's constraints rise.
use Rattle.std.specs.Prelude.{Bool, List, Option}
use Rattle.c_types.specs.CType.{CType}
use Rattle.c_types.specs.Structures.{Structure}
use Rattle.c_scopes.specs.declared.binding.Linkage.{Linkage}
use Rattle.c_scopes.specs.Named.{Named}
use Rattle.c_scopes.specs.Ruled.{Rises}
use Rattle.c_decl_rules.specs.DeclaredNames.{Seen}
use Rattle.c_statement_rules.specs.Definitions.{Defines, parameter_demands, name_demands, definition_demands}

-- of each rule with more than one
pub record AllRise : Type 0 where
  pub parameter : (is_named : Bool) (type : CType) → Rises (parameter_demands is_named type)
  pub name : (structures : List Structure) (here : Option Named) (adjusted : CType)
      → Rises (name_demands structures here adjusted)
  pub definition : (structures : List Structure) (definition : Defines) (seen : Seen) (linkage : Linkage)
      → Rises (definition_demands structures definition seen linkage)
