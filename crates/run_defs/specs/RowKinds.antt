-- The library functions that a journal tells apart.
use Rattle.std.specs.Prelude.{Bool, true, false}
use Rattle.std.specs.Option.{option_map_or}
use Rattle.lib_defs.specs.declared.row.Row.{Row}
use Rattle.lib_defs.specs.declared.row_name.RowName.{RowName}
use Rattle.lib_defs.specs.declared.row_name.RowName.TheVariants as n
use Rattle.lib_defs.specs.RowNumbers.{name_at}

-- the one that sets the handler (K.3.6.1.1)
abbrev pub is_setter_name : RowName → Bool
is_setter_name n.SetConstraintHandlerS = true
is_setter_name _ = false

abbrev pub is_setter : Row → Bool
is_setter row = option_map_or is_setter_name (name_at row) false

-- the one that tells of its arguments by number (7.21.6.3)
abbrev pub is_printer_name : RowName → Bool
is_printer_name n.Printf = true
is_printer_name _ = false

abbrev pub is_printer : Row → Bool
is_printer row = option_map_or is_printer_name (name_at row) false

-- those that release space (7.22.3)
abbrev pub is_release_name : RowName → Bool
is_release_name n.Free = true
is_release_name n.Realloc = true
is_release_name _ = false

abbrev pub is_release : Row → Bool
is_release row = option_map_or is_release_name (name_at row) false
