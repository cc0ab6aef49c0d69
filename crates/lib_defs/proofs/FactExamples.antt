-- The facts of rows at the values of a line, and names, numbers and classes.
use Rattle.std.proofs.Common.{◌≡◌, ℕ, true, false, [], ◌∷◌, Some, None, refl}
use Rattle.std.specs.Prelude.{pos, codes}
use Rattle.lib_defs.specs.declared.row.Row.{Row}
use Rattle.lib_defs.specs.declared.row_name.RowName.TheVariants as n
use Rattle.lib_defs.specs.declared.shown.Shown.TheVariants.{Number, Place}
use Rattle.lib_defs.specs.declared.value.Value.TheVariants.{Num, Ptr}
use Rattle.lib_defs.specs.declared.violation.Violation.TheVariants.{NullPointer, SizeNotZero, TokenNotEnded}
use Rattle.lib_defs.specs.RowNumbers.{name_at, row_named}
use Rattle.lib_defs.specs.Reply.{null}
use Rattle.lib_defs.specs.RowTable.{violation_at}
use Rattle.lib_defs.specs.Shown.{line_values, line_decisions, line_action, failure_at, none_fails, is_first_failing}
use Rattle.lib_defs.proofs.ExampleStore.{at}

abbrev row : ℕ → Row
row k = record { 0 = k }

-- the numbers of names: the first, the last, one of each list, and none
first_row : row_named (codes "memcpy_s") ≡ Some (row 0)
first_row = refl

last_row : row_named (codes "printf") ≡ Some (row 52)
last_row = refl

handler_row : row_named (codes "set_constraint_handler_s") ≡ Some (row 20)
handler_row = refl

plain_row : row_named (codes "memcpy") ≡ Some (row 23)
plain_row = refl

no_row : row_named (codes "memcpy_") ≡ None
no_row = refl

last_name : name_at (row 52) ≡ Some n.Printf
last_name = refl

no_name : name_at (row 53) ≡ None
no_name = refl

-- `lib memcpy_s 4:0 4 6:0 5`: the fifth constraint fails, and no other by the values
copy_decides : line_decisions (row 0) (Place 4 0 ∷ Number (pos 4) ∷ Place 6 0 ∷ Number (pos 5) ∷ [])
    ≡ Some true ∷ Some true ∷ Some true ∷ Some true ∷ Some false ∷ Some true ∷ []
copy_decides = refl

copy_first : is_first_failing
    (line_decisions (row 0) (Place 4 0 ∷ Number (pos 4) ∷ Place 6 0 ∷ Number (pos 5) ∷ [])) 5 ≡ true
copy_first = refl

copy_not_sixth
    : is_first_failing (line_decisions (row 0) (Place 4 0 ∷ Number (pos 4) ∷ Place 6 0 ∷ Number (pos 5) ∷ [])) 6 ≡ false
copy_not_sixth = refl

copy_clears : line_action (row 0) (Place 4 0 ∷ Number (pos 4) ∷ Place 6 0 ∷ Number (pos 5) ∷ [])
    ≡ Some (record { object = 4; at = 0; len = 4 })
copy_clears = refl

-- its overlap is decided by the values
copy_overlaps : line_decisions (row 0) (Place 4 1 ∷ Number (pos 3) ∷ Place 4 0 ∷ Number (pos 2) ∷ [])
    ≡ Some true ∷ Some true ∷ Some true ∷ Some true ∷ Some true ∷ Some false ∷ []
copy_overlaps = refl

-- no store where the size is 0, or where s1 is null
copy_nothing : line_action (row 0) (Place 4 0 ∷ Number (pos 0) ∷ Place 6 0 ∷ Number (pos 5) ∷ []) ≡ None
copy_nothing = refl

copy_to_null : line_action (row 0) (Place 0 0 ∷ Number (pos 4) ∷ Place 6 0 ∷ Number (pos 5) ∷ []) ≡ None
copy_to_null = refl

-- `lib strcpy_s 4:0 4 6:0`: what looks into the store is not decided
text_decides : line_decisions (row 5) (Place 4 0 ∷ Number (pos 4) ∷ Place 6 0 ∷ [])
    ≡ Some true ∷ Some true ∷ Some true ∷ Some true ∷ None ∷ None ∷ []
text_decides = refl

text_passes : none_fails (line_decisions (row 5) (Place 4 0 ∷ Number (pos 4) ∷ Place 6 0 ∷ [])) ≡ true
text_passes = refl

text_may_fail : is_first_failing (line_decisions (row 5) (Place 4 0 ∷ Number (pos 4) ∷ Place 6 0 ∷ [])) 6 ≡ true
text_may_fail = refl

-- the action of a wide row is a null of four bytes
wide_ends : line_action (row 6) (Place 4 0 ∷ Number (pos 4) ∷ Place 6 0 ∷ [])
    ≡ Some (record { object = 4; at = 0; len = 4 })
wide_ends = refl

-- strtok_s: the fourth and fifth are not decided, there is no action, and the failure value is null
token_decides : line_decisions (row 13) (Place 0 0 ∷ Place 4 0 ∷ Place 6 0 ∷ Place 8 0 ∷ [])
    ≡ Some true ∷ Some true ∷ Some true ∷ None ∷ None ∷ None ∷ []
token_decides = refl

token_acts : line_action (row 13) (Place 0 0 ∷ Place 4 0 ∷ Place 6 0 ∷ Place 8 0 ∷ []) ≡ None
token_acts = refl

token_fails : failure_at (row 13) 6 ≡ Some (Ptr null)
token_fails = refl

-- wctomb_s: all are decided
wide_char_decides : line_decisions (row 16) (Place 4 0 ∷ Place 0 0 ∷ Number (pos 1) ∷ Number (pos 65) ∷ [])
    ≡ Some true ∷ Some true ∷ Some false ∷ []
wide_char_decides = refl

-- the classes and failure values by number; a row has no constraint 0, and none beyond its last
class_first : violation_at (row 0) 1 ≡ Some NullPointer
class_first = refl

class_none : violation_at (row 0) 0 ≡ None
class_none = refl

class_last : violation_at (row 16) 3 ≡ Some SizeNotZero
class_last = refl

class_beyond : violation_at (row 16) 4 ≡ None
class_beyond = refl

class_token : violation_at (row 14) 6 ≡ Some TokenNotEnded
class_token = refl

failure_null : failure_at (row 0) 1 ≡ Some (Num (pos 22))
failure_null = refl

failure_size : failure_at (row 0) 3 ≡ Some (Num (pos 34))
failure_size = refl

-- no line of a row without constraints has values
line_shows : line_values (row 0) (Ptr (at 4 1 8) ∷ Num (pos 3) ∷ Ptr null ∷ [])
    ≡ Place 4 1 ∷ Number (pos 3) ∷ Place 0 0 ∷ []
line_shows = refl

line_shows_none : line_values (row 17) (Ptr (at 4 1 8) ∷ Num (pos 3) ∷ []) ≡ []
line_shows_none = refl

-- of the other rows too: all but what looks into the store
move_decides : line_decisions (row 2) (Place 4 1 ∷ Number (pos 3) ∷ Place 4 0 ∷ Number (pos 4) ∷ [])
    ≡ Some true ∷ Some true ∷ Some true ∷ Some true ∷ Some false ∷ []
move_decides = refl

set_decides : line_decisions (row 4) (Place 4 0 ∷ Number (pos 3) ∷ Number (pos 7) ∷ Number (pos 4) ∷ [])
    ≡ Some true ∷ Some true ∷ Some true ∷ Some false ∷ []
set_decides = refl

part_copy_decides : line_decisions (row 7) (Place 4 0 ∷ Number (pos 0) ∷ Place 6 0 ∷ Number (pos 1) ∷ [])
    ≡ Some true ∷ Some true ∷ Some true ∷ Some true ∷ Some false ∷ None ∷ None ∷ []
part_copy_decides = refl

append_decides : line_decisions (row 9) (Place 4 0 ∷ Number (pos 1) ∷ Place 6 0 ∷ [])
    ≡ Some true ∷ Some true ∷ Some true ∷ Some true ∷ None ∷ None ∷ None ∷ []
append_decides = refl

part_append_decides
    : line_decisions (row 11) (Place 4 0 ∷ Number (pos 1) ∷ Place 6 0 ∷ Number (pos 16777217) ∷ [])
    ≡ Some true ∷ Some true ∷ Some true ∷ Some false ∷ Some true ∷ None ∷ None ∷ None ∷ []
part_append_decides = refl

error_decides : line_decisions (row 15) (Place 4 0 ∷ Number (pos 0) ∷ Number (pos 22) ∷ [])
    ≡ Some true ∷ Some true ∷ Some false ∷ []
error_decides = refl
