-- The numbers of each rule's constraints rise.
use Rattle.std.specs.Prelude.{List}
use Rattle.c_types.specs.Structures.{Structure}
use Rattle.c_scopes.specs.declared.binding.Linkage.{Linkage}
use Rattle.c_scopes.specs.Ruled.{Rises}
use Rattle.c_decl_rules.specs.DeclaredNames.{Declares, Seen, typedef_demands, function_demands}
use Rattle.c_decl_rules.specs.DeclaredNames.{object_demands}

-- of each rule
pub record AllRise : Type 0 where
  pub typedef : (name : Declares) (seen : Seen) → Rises (typedef_demands name seen)
  pub function : (name : Declares) (seen : Seen) (linkage : Linkage) → Rises (function_demands name seen linkage)
  pub object : (structures : List Structure) (name : Declares) (seen : Seen) (linkage : Linkage)
      → Rises (object_demands structures name seen linkage)
