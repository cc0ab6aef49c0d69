-- What a journal shows of a call of a row of Annex K, and what follows of it.
use Rattle.std.specs.Prelude.{ℕ, zero, suc, Bool, true, false, not, ◌&&◌, List, [], ◌∷◌, map, Option, Some}
use Rattle.std.specs.Prelude.{None, if◌then◌else◌}
use Rattle.std.specs.Option.{option_and_then, option_map_or}
use Rattle.object_store.specs.declared.writes.Write.{Write}
use Rattle.lib_defs.specs.declared.row.Row.{Row}
use Rattle.lib_defs.specs.declared.row_name.RowName.{RowName}
use Rattle.lib_defs.specs.declared.shown.Shown.{Shown}
use Rattle.lib_defs.specs.declared.shown.Shown.TheVariants.{Number, Function, Place, NoValue}
use Rattle.lib_defs.specs.declared.value.Value.{Value}
use Rattle.lib_defs.specs.declared.value.Value.TheVariants as value
use Rattle.lib_defs.specs.declared.violation.Violation.{Violation}
use Rattle.lib_defs.specs.RowNumbers.{name_at}
use Rattle.lib_defs.specs.Reply.{Fill, null}
use Rattle.lib_defs.specs.Constraints.{decisions}
use Rattle.lib_defs.specs.Columns.{is_null}
use Rattle.lib_defs.specs.Rules.{Rule}
use Rattle.lib_defs.specs.RowTable.{rule_of, row_classes, violation_at}

-- an argument on the line of a call: each pointer is an object and an offset, null is 0:0
abbrev pub argument_shown : Value → Shown
argument_shown (value.Num n) = Number n
argument_shown (value.Ptr p) = if is_null p then Place 0 0 else Place p.object p.offset
argument_shown value.Nothing = NoValue

-- the values on the line of a call: those of its arguments where the row has constraints
abbrev pub values_if : List Violation → List Value → List Shown
values_if [] values = []
values_if (c ∷ cs) values = map argument_shown values

abbrev pub line_values : Row → List Value → List Shown
line_values row values = option_map_or (λ (name : RowName). values_if (row_classes name) values) (name_at row) []

-- A value as far as a line shows it. No constraint, action or failure value depends on a pointer's bounds.
abbrev pub value_shown : Shown → Value
value_shown (Number n) = value.Num n
value_shown (Function name) = value.Nothing
value_shown (Place object offset) = value.Ptr (record null { object = object; offset = offset })
value_shown NoValue = value.Nothing

-- the row at the values of a line
abbrev pub line_rule : Row → List Shown → Option Rule
line_rule row shown = option_and_then (λ (name : RowName). rule_of name (map value_shown shown)) (name_at row)

-- The facts of a row, read off its own definition at the values of the call's line. What these decide of each
-- constraint, in order: that it holds, that it fails, or nothing
abbrev pub line_decisions : Row → List Shown → List (Option Bool)
line_decisions row shown = option_map_or (λ (r : Rule). decisions r.constraints) (line_rule row shown) []

-- the store of an action; one of no bytes is none
abbrev pub write_of_len : ℕ → Fill → Option Write
write_of_len zero f = None
write_of_len (suc n) f = Some (record { object = f.place.object; at = f.place.offset; len = suc n })

abbrev pub write_of : Option Fill → Option Write
write_of None = None
write_of (Some f) = write_of_len f.len f

-- the action's store, if the values demand one
abbrev pub line_action : Row → List Shown → Option Write
line_action row shown = option_and_then (λ (r : Rule). write_of r.action) (line_rule row shown)

-- the failure value where the constraint with this number, from 1, fails
abbrev pub failure_at : Row → ℕ → Option Value
failure_at row k = option_and_then (λ (class : Violation).
    option_and_then (λ (r : Rule). Some (r.failure class)) (line_rule row [])) (violation_at row k)

-- Of what is decided of the constraints: one that fails, one that holds.
abbrev pub fails : Option Bool → Bool
fails (Some false) = true
fails _ = false

abbrev pub holds : Option Bool → Bool
holds (Some true) = true
holds _ = false

-- none is decided to fail
abbrev pub none_fails : List (Option Bool) → Bool
none_fails [] = true
none_fails (d ∷ ds) = not (fails d) && none_fails ds

-- the k-th, from 0, is not decided to hold, and none before it to fail
abbrev pub may_fail : List (Option Bool) → ℕ → Bool
may_fail [] k = false
may_fail (d ∷ ds) zero = not (holds d)
may_fail (d ∷ ds) (suc k) = not (fails d) && may_fail ds k

-- the constraint with this number, from 1, may be the first that fails
abbrev pub is_first_failing : List (Option Bool) → ℕ → Bool
is_first_failing ds zero = false
is_first_failing ds (suc k) = may_fail ds k
