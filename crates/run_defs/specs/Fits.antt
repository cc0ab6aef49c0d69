-- Whether what a line shows fits the objects, the rows and the lines before it.
use Rattle.std.specs.Prelude.{ℕ, ◌==◌, nat_le, nat_lt, Bool, true, false, not, ◌&&◌, ◌||◌, Option, Some, None}
use Rattle.std.specs.Option.{option_map_or}
use Rattle.std.specs.List.{list_any}
use Rattle.std.specs.Ordering.{int_eq}
use Rattle.std.specs.Str.{bytes_eq}
use Rattle.critical_table.specs.declared.case.Case.{Case}
use Rattle.critical_table.specs.declared.case.Case.TheVariants.{L3, L6, L9}
use Rattle.critical_table.specs.declared.code.Code.{Code}
use Rattle.critical_table.specs.Texts.{case_row, code_row}
use Rattle.object_store.specs.declared.class.Class.{Class}
use Rattle.object_store.specs.declared.mark.Mark.{Mark}
use Rattle.object_store.specs.declared.mark.Mark.TheVariants.{Plain}
use Rattle.object_store.specs.declared.writes.Write.{Write}
use Rattle.object_store.specs.Object.{Object, object_of}
use Rattle.object_store.specs.Storage.{Storage}
use Rattle.object_store.specs.Steps.{next_number, range}
use Rattle.lib_defs.specs.declared.row.Row.{Row}
use Rattle.lib_defs.specs.declared.shown.Shown.{Shown}
use Rattle.lib_defs.specs.declared.shown.Shown.TheVariants.{Number, Function, Place, NoValue}
use Rattle.lib_defs.specs.declared.value.Value.{Value}
use Rattle.lib_defs.specs.Units.{rsize_max}
use Rattle.lib_defs.specs.Reply.{null}
use Rattle.lib_defs.specs.Shown.{argument_shown}
use Rattle.lib_defs.specs.Allocation.{release_case}
use Rattle.run_defs.specs.declared.outcome.End.{End}
use Rattle.run_defs.specs.declared.outcome.End.TheVariants.{Trapped, Undefined}
use Rattle.run_defs.specs.State.{has_range}
use Rattle.run_defs.specs.RowKinds.{is_setter, is_release}

-- Equality, as a program decides it.

abbrev pub same_case : Case → Case → Bool
same_case a b = (case_row a).number == (case_row b).number

abbrev pub same_code : Code → Code → Bool
same_code a b = bytes_eq (code_row a).name (code_row b).name

abbrev pub same_row : Row → Row → Bool
same_row a b = a.0 == b.0

abbrev pub same_write : Write → Write → Bool
same_write a b = (a.object == b.object) && ((a.at == b.at) && (a.len == b.len))

abbrev pub same_shown : Shown → Shown → Bool
same_shown (Number a) (Number b) = int_eq a b
same_shown (Function a) (Function b) = bytes_eq a b
same_shown (Place a b) (Place c d) = (a == c) && (b == d)
same_shown NoValue NoValue = true
same_shown _ _ = false

-- Ends.

-- neither a trap nor an undefined operation
abbrev pub is_quiet : End → Bool
is_quiet (Trapped case) = false
is_quiet (Undefined code) = false
is_quiet _ = true

-- the end is the trap, or the stop, that the line before it told
abbrev pub is_told : End → End → Bool
is_told (Trapped a) (Trapped b) = same_case a b
is_told (Undefined a) (Undefined b) = same_code a b
is_told _ _ = false

-- Objects.

-- the number is that of the next object, and a store makes objects of this size
abbrev pub is_made : Storage → ℕ → ℕ → Class → Bool
is_made store number size class =
    (number == next_number store class) && (nat_le 1 size && nat_le size rsize_max)

-- whether a byte with this mark is kept from stores
abbrev pub is_marked : Mark → Bool
is_marked Plain = false
is_marked _ = true

-- no byte of the range has a mark
abbrev pub is_plain : ℕ → ℕ → Object → Bool
is_plain at len o = not (list_any (λ c. is_marked c.mark) (range o.cells at len))

-- a store of at least one byte, to a range in a live object without a mark
abbrev pub is_store : Storage → Write → Bool
is_store store w = nat_lt 0 w.len && (has_range store w.object w.at w.len
    && option_map_or (is_plain w.at w.len) (object_of store.objects w.object) false)

-- Rows.

-- the value is the failure value, if there is one
abbrev pub is_failure : Option Value → Shown → Bool
is_failure None value = false
is_failure (Some failure) value = same_shown (argument_shown failure) value

-- Traps.

-- the case is the one that was found, if one was
abbrev pub is_case : Case → Option Case → Bool
is_case case None = false
is_case case (Some found) = same_case case found

abbrev pub is_function : Shown → Bool
is_function (Function name) = true
is_function _ = false

abbrev pub is_null : Shown → Bool
is_null (Place object offset) = object == 0
is_null _ = false

-- a call: of a function through a pointer of another type, or of no function
abbrev pub is_call_trap : Case → Shown → Bool
is_call_trap case value =
    (same_case case L3 && is_function value) || (same_case case L6 && not (is_function value))

-- the case of a release of this value, if it is one; a function's place is no object's, and nothing but a pointer is
-- released
abbrev pub release_trap : Storage → Shown → Option Case
release_trap store (Place object offset) = release_case store (record null { object = object; offset = offset })
release_trap store (Function name) = Some L9
release_trap store _ = None

-- what a row tests of its first argument: free and realloc a release; set_constraint_handler_s that it is a function
abbrev pub is_row_trap : Storage → Case → Shown → Row → Bool
is_row_trap store case value row =
    (is_release row && is_case case (release_trap store value))
    || (is_setter row && (same_case case L9 && (not (is_null value) && not (is_function value))))
