-- The functions of code by number: those of the unit from 1 on, then the library functions.
use Rattle.std.specs.Prelude.{ℕ, zero, suc, ◌+◌, ◌-◌, ◌==◌, ◌&&◌, nat_lt, Bool, false, List, [], ◌∷◌, length}
use Rattle.std.specs.Prelude.{Option, Some, None, codes, if◌then◌else◌}
use Rattle.std.specs.List.{slice_get, list_any}
use Rattle.std.specs.Option.{option_map_or}
use Rattle.std.specs.Str.{bytes_eq}
use Rattle.object_store.specs.declared.pointer.Pointer.{Pointer}
use Rattle.lib_defs.specs.declared.row.Row.{Row}
use Rattle.lib_defs.specs.declared.row_name.RowName.{RowName}
use Rattle.lib_defs.specs.declared.row_name.RowName.TheVariants.{AbortHandlerS}
use Rattle.lib_defs.specs.Names.{name_text}
use Rattle.lib_defs.specs.RowNumbers.{name_at, row_named}
use Rattle.lib_defs.specs.Reply.{null}
use Rattle.lib_defs.specs.Handlers.{first_function}
use Rattle.lib_defs.specs.Library.{Library}
use Rattle.run_defs.specs.Functions.{Function, OfLibrary, OfUnit, Environment}
use Rattle.vm_code.specs.declared.parts.CodeFunction.{CodeFunction}
use Rattle.vm_code.specs.declared.parts.CodeCalled.{CodeCalled}
use Rattle.vm_code.specs.Contents.{Contents, function_at}

-- the functions of a called type have the function with this number
abbrev pub calls_function : ℕ → CodeCalled → Bool
calls_function f called = list_any (λ g. g == f) called.functions

-- the same of the called type with a number
abbrev pub is_called_by : Contents → ℕ → ℕ → Bool
is_called_by code type f = option_map_or (calls_function f) (slice_get code.types type) false

-- the called types of handlers, and of the functions that rows want
abbrev pub handler_type : ℕ
handler_type = 0

abbrev pub comparing_type : ℕ
comparing_type = 1

abbrev pub row_if : Option RowName → Row → Option Function
row_if (Some name) row = Some (OfLibrary row)
row_if None row = None

abbrev pub library_function : Row → Option Function
library_function row = row_if (name_at row) row

-- the function with the number f, which stands at this place among those of the unit, if it is one of these
abbrev pub function_of : Contents → ℕ → Option CodeFunction → Option Function
function_of code f (Some function) =
    Some (OfUnit function.name (is_called_by code handler_type f) (is_called_by code comparing_type f))
function_of code f None = library_function (record { 0 = f - 1 - length code.functions })

abbrev pub function_numbered : Contents → ℕ → Option Function
function_numbered code zero = None
function_numbered code (suc k) = function_of code (suc k) (function_at code.functions (suc k))

-- what a run of code is given
abbrev pub environment : Library → Contents → Environment
environment library code = record { library = library; functions = function_numbered code }

-- the pointer to the function with a number
abbrev pub function_pointer : ℕ → Pointer
function_pointer f = record null { object = first_function + f }

-- the number of a library function
abbrev pub row_function : Contents → Row → ℕ
row_function code row = length code.functions + 1 + row.0

-- abort_handler_s (K.3.6.1.2)
abbrev pub abort_handler : Contents → Pointer
abort_handler code =
    option_map_or (λ (row : Row). function_pointer (row_function code row)) (row_named (name_text AbortHandlerS)) null

-- the number of the first function of the unit with a name, among those from k on
abbrev pub numbered_from : ℕ → List ℕ → List CodeFunction → Option ℕ
numbered_from k name [] = None
numbered_from k name (f ∷ fs) = if bytes_eq f.name name then Some k else numbered_from (k + 1) name fs

abbrev pub main_function : Contents → Option ℕ
main_function code = numbered_from 1 (codes "main") code.functions

-- the place behind the last instruction of a function that starts here: the next start, or the end of the code
abbrev pub end_from : ℕ → List CodeFunction → ℕ → ℕ
end_from start [] end = end
end_from start (f ∷ fs) end =
    if nat_lt start f.start && nat_lt f.start end then end_from start fs f.start else end_from start fs end

abbrev pub end_of : Contents → CodeFunction → ℕ
end_of code function = end_from function.start code.functions (length code.instrs)

-- the least start
abbrev pub first_start : List CodeFunction → ℕ → ℕ
first_start [] end = end
first_start (f ∷ fs) end = first_start fs (if nat_lt f.start end then f.start else end)
