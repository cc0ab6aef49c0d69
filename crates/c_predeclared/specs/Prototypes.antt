-- The types of library functions, by their prototypes.
use Rattle.std.specs.Prelude.{◌≡◌, ℕ, List, All, map}
use Rattle.c_types.specs.declared.shape.TypeId.{TypeId}
use Rattle.c_types.specs.CType.{CType, type_of, void}
use Rattle.c_types.specs.Types.{Types}
use Rattle.c_core.specs.Ids.{IdIn}
use Rattle.c_scopes.specs.Clauses.{KeepsTable}
use Rattle.c_scopes.specs.Named.{Named, FunctionOf}
use Rattle.lib_defs.specs.declared.row_name.RowName.{RowName}
use Rattle.lib_defs.specs.Names.{name_text}
use Rattle.library_types.specs.LibraryTypes.{const_char, int, to, function}
use Rattle.c_predeclared.specs.declared.prototypes.Part.{Part}
use Rattle.c_predeclared.specs.declared.prototypes.Part.TheVariants as part
use Rattle.c_predeclared.specs.Predeclared.{known_function}

abbrev pub part_type : Part → CType
part_type part.Void = void
part_type part.Int = int
part_type part.Text = to const_char
part_type part.Object = to void

abbrev pub prototype_type : Part → List Part → CType
prototype_type gives parameters = function (part_type gives) (map part_type parameters)

-- a library function, by its prototype
abbrev pub prototyped : RowName → ℕ → Part → List Part → List ℕ × Named
prototyped row number gives parameters =
    (name_text row, FunctionOf (prototype_type gives parameters) (known_function number))

-- The table has made the types of parameters, in order, and nothing but types.
pub record MakesParts (parts : List Part) (old new : Types) (made : List TypeId) : Type 0 where
  pub are : map (type_of new) made ≡ map part_type parts
  pub are_in : All (λ (id : TypeId). IdIn new id) made
  pub kept : KeepsTable old new
