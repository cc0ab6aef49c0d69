-- The functions of a program by their numbers (6.9.1, clause 7): which function a number is, and its type.
use Rattle.std.specs.Prelude.{ℕ, zero, suc, ◌-◌, nat_lt, List, length, Option, Some, None, slice_get, if◌then◌else◌}
use Rattle.std.specs.Option.{option_map}
use Rattle.object_store.specs.declared.pointer.Pointer.{Pointer}
use Rattle.c_types.specs.CType.{CType}
use Rattle.c_types.specs.Compatible.{compatible}
use Rattle.lib_defs.specs.declared.row.Row.{Row}
use Rattle.lib_defs.specs.declared.row_name.RowName.{RowName}
use Rattle.lib_defs.specs.RowNumbers.{name_at}
use Rattle.lib_defs.specs.Handlers.{first_function}
use Rattle.lib_defs.specs.Library.{Library}
use Rattle.run_defs.specs.Functions.{Function, OfLibrary, OfUnit, Environment, function_number}
use Rattle.c_core.specs.TreeUnit.{Definition, Program}
use Rattle.library_types.specs.LibraryTypes.{handler_type, comparing_type, row_type}

-- a function that the unit defines, or a library function with its name
pub data Named : Type 0 where
  UnitFunction : (definition : Definition) → Named
  LibraryFunction : (row : Row) (name : RowName) → Named

abbrev pub library_function : ℕ → Option Named
library_function number = option_map (LibraryFunction (record { 0 = number })) (name_at (record { 0 = number }))

-- The k-th function, from 0: those of the unit stand before those of the library.
abbrev pub unit_or_library : Option Definition → ℕ → Option Named
unit_or_library (Some definition) number = Some (UnitFunction definition)
unit_or_library None number = library_function number

abbrev pub named_at : List Definition → ℕ → Option Named
named_at functions k = unit_or_library (slice_get functions k) (k - length functions)

-- the function with this number, from 1
abbrev pub function_numbered : List Definition → ℕ → Option Named
function_numbered functions zero = None
function_numbered functions (suc k) = named_at functions k

-- the function that a pointer designates, if it does
abbrev pub designated_by : List Definition → Pointer → Option Named
designated_by functions p =
    if nat_lt p.object first_function then None else function_numbered functions (function_number p)

abbrev pub type_of_function : Named → CType
type_of_function (UnitFunction definition) = definition.type
type_of_function (LibraryFunction row name) = row_type name

-- what a library call knows of a function
abbrev pub seen : Named → Function
seen (UnitFunction definition) =
    OfUnit definition.name (compatible handler_type definition.type) (compatible comparing_type definition.type)
seen (LibraryFunction row name) = OfLibrary row

abbrev pub environment : Library → Program → Environment
environment library program = record {
  library = library;
  functions = λ f. option_map seen (function_numbered program.functions f);
}
