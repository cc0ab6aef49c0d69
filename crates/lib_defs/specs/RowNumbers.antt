-- Library functions by number.
use Rattle.std.specs.Prelude.{ℕ, ◌+◌, List, [], ◌∷◌, Option, Some, None, slice_get, IsSome, if◌then◌else◌}
use Rattle.std.specs.Str.{bytes_eq}
use Rattle.lib_defs.specs.declared.row.Row.{Row}
use Rattle.lib_defs.specs.declared.row_name.RowName.{RowName}
use Rattle.lib_defs.specs.Names.{name_text, row_names}

-- the function with this number, where there is one
abbrev pub name_at : Row → Option RowName
name_at row = slice_get row_names row.0

abbrev pub IsRow : Row → Type 0
IsRow row = IsSome (name_at row)

-- the function whose name these bytes are, among functions that are numbered from k
abbrev pub named_from : ℕ → List RowName → List ℕ → Option Row
named_from k [] text = None
named_from k (name ∷ names) text =
    if bytes_eq (name_text name) text then Some (record { 0 = k }) else named_from (k + 1) names text

abbrev pub row_named : List ℕ → Option Row
row_named text = named_from 0 row_names text
