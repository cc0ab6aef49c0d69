-- The rows of Annex K by name, at the values of their arguments.
use Rattle.std.specs.Prelude.{ℕ, ◌-◌, ◌%◌, ◌==◌, ℤ, pos, negsuc, List, [], Option, Some, None, slice_get, if◌then◌else◌}
use Rattle.std.specs.Option.{option_and_then, option_map_or}
use Rattle.object_store.specs.declared.pointer.Pointer.{Pointer}
use Rattle.lib_defs.specs.declared.row.Row.{Row}
use Rattle.lib_defs.specs.declared.row_name.RowName.{RowName}
use Rattle.lib_defs.specs.declared.row_name.RowName.TheVariants as n
use Rattle.lib_defs.specs.declared.value.Value.{Value}
use Rattle.lib_defs.specs.declared.value.Value.TheVariants.{Num, Ptr}
use Rattle.lib_defs.specs.declared.violation.Violation.{Violation}
use Rattle.lib_defs.specs.RowNumbers.{name_at}
use Rattle.lib_defs.specs.Reply.{null}
use Rattle.lib_defs.specs.Constraints.{classes}
use Rattle.lib_defs.specs.Rules.{Rule}
use Rattle.lib_defs.specs.MemoryRows.{copy_row, move_row, fill_row}
use Rattle.lib_defs.specs.TextRows.{length_row, text_copy_row, part_copy_row, append_row, part_append_row}
use Rattle.lib_defs.specs.TokenRows.{token_row}
use Rattle.lib_defs.specs.OtherRows.{error_text_row, error_length_row, wide_char_row}

-- an argument as a pointer, as a size, as a number; arguments that fit the prototype are what is asked for
abbrev pub pointer_of : Option Value → Pointer
pointer_of (Some (Ptr p)) = p
pointer_of _ = null

abbrev pub size_of : Option Value → ℕ
size_of (Some (Num (pos n))) = n
size_of _ = 0

abbrev pub number_of : Option Value → ℤ
number_of (Some (Num n)) = n
number_of _ = pos 0

abbrev pub ptr : List Value → ℕ → Pointer
ptr values k = pointer_of (slice_get values k)

abbrev pub count : List Value → ℕ → ℕ
count values k = size_of (slice_get values k)

abbrev pub num : List Value → ℕ → ℤ
num values k = number_of (slice_get values k)

-- a number modulo 256
abbrev pub modulo_byte : ℤ → ℕ
modulo_byte (pos n) = n % 256
modulo_byte (negsuc n) = 255 - n % 256

-- A byte has one byte, a wide character four.
abbrev pub rule_of : RowName → List Value → Option Rule
rule_of n.MemcpyS v = Some (copy_row 1 (ptr v 0) (count v 1) (ptr v 2) (count v 3))
rule_of n.WmemcpyS v = Some (copy_row 4 (ptr v 0) (count v 1) (ptr v 2) (count v 3))
rule_of n.MemmoveS v = Some (move_row 1 (ptr v 0) (count v 1) (ptr v 2) (count v 3))
rule_of n.WmemmoveS v = Some (move_row 4 (ptr v 0) (count v 1) (ptr v 2) (count v 3))
rule_of n.MemsetS v = Some (fill_row (ptr v 0) (count v 1) (modulo_byte (num v 2)) (count v 3))
rule_of n.StrcpyS v = Some (text_copy_row 1 (ptr v 0) (count v 1) (ptr v 2))
rule_of n.WcscpyS v = Some (text_copy_row 4 (ptr v 0) (count v 1) (ptr v 2))
rule_of n.StrncpyS v = Some (part_copy_row 1 (ptr v 0) (count v 1) (ptr v 2) (count v 3))
rule_of n.WcsncpyS v = Some (part_copy_row 4 (ptr v 0) (count v 1) (ptr v 2) (count v 3))
rule_of n.StrcatS v = Some (append_row 1 (ptr v 0) (count v 1) (ptr v 2))
rule_of n.WcscatS v = Some (append_row 4 (ptr v 0) (count v 1) (ptr v 2))
rule_of n.StrncatS v = Some (part_append_row 1 (ptr v 0) (count v 1) (ptr v 2) (count v 3))
rule_of n.WcsncatS v = Some (part_append_row 4 (ptr v 0) (count v 1) (ptr v 2) (count v 3))
rule_of n.StrtokS v = Some (token_row 1 (ptr v 0) (ptr v 1) (ptr v 2) (ptr v 3))
rule_of n.WcstokS v = Some (token_row 4 (ptr v 0) (ptr v 1) (ptr v 2) (ptr v 3))
rule_of n.StrerrorS v = Some (error_text_row (ptr v 0) (count v 1) (num v 2))
rule_of n.WctombS v = Some (wide_char_row (ptr v 0) (ptr v 1) (count v 2) (num v 3))
rule_of n.StrnlenS v = Some (length_row 1 (ptr v 0) (count v 1))
rule_of n.WcsnlenS v = Some (length_row 4 (ptr v 0) (count v 1))
rule_of n.StrerrorlenS v = Some (error_length_row (num v 0))
rule_of _ v = None

-- the classes of a function's constraints in order: none where it has none
abbrev pub row_classes : RowName → List Violation
row_classes name = option_map_or (λ (r : Rule). classes r.constraints) (rule_of name []) []

-- the class of the constraint with this number, from 1
abbrev pub violation_at : Row → ℕ → Option Violation
violation_at row k =
    if k == 0 then None else
    option_and_then (λ (name : RowName). slice_get (row_classes name) (k - 1)) (name_at row)
