-- What is asked of an instruction by itself, whether a way comes to it or not.
use Rattle.std.specs.Prelude.{ℕ, zero, suc, ◌+◌, ◌==◌, nat_lt, nat_le, ◌&&◌, ◌||◌, Bool, true, false, not, List, []}
use Rattle.std.specs.Prelude.{◌∷◌, length, Option, Some, None}
use Rattle.std.specs.List.{slice_get, list_all}
use Rattle.std.specs.Option.{option_map_or}
use Rattle.acc_num.specs.Numbers.{in_range}
use Rattle.critical_table.specs.declared.pos.Pos.{Pos}
use Rattle.object_store.specs.Storage.{largest_size}
use Rattle.lib_defs.specs.declared.row_name.RowName.{RowName}
use Rattle.lib_defs.specs.declared.value.ArgKind.{ArgKind}
use Rattle.lib_defs.specs.Prototypes.{Gives, GivesNumber, GivesPointer, GivesNothing, given_by, Prototype, prototype}
use Rattle.lib_defs.specs.RowNumbers.{name_at}
use Rattle.run_defs.specs.Functions.{Function, OfLibrary}
use Rattle.c_core.specs.declared.form.Form.{Form}
use Rattle.c_core.specs.declared.form.Form.TheVariants as form
use Rattle.vm_code.specs.declared.instr.Instr.{Instr}
use Rattle.vm_code.specs.declared.instr.Instr.TheVariants as i
use Rattle.vm_code.specs.declared.parts.CodeCalled.{CodeCalled}
use Rattle.vm_code.specs.Contents.{Contents}
use Rattle.vm_code.specs.CodeFunctions.{function_numbered}
use Rattle.vm_code.specs.OperandKinds.{same_kind}

-- ---- where an instruction leads

-- a stretch of the code: that of a function, or the one before the first start; with the form of what the function
-- gives
pub record Stretch : Type 0 where
  pub from : ℕ
  pub to : ℕ
  pub gives : Option Form

abbrev pub is_entry : Option (Instr × Pos) → Bool
is_entry (Some (i.Pair value to, here)) = true
is_entry (Some (i.Default to, here)) = true
is_entry _ = false

abbrev pub is_tick : Option (Instr × Pos) → Bool
is_tick (Some (i.Tick, here)) = true
is_tick _ = false

-- an instruction of the stretch that may begin
abbrev pub is_place : Contents → Stretch → ℕ → Bool
is_place code stretch at =
    nat_le stretch.from at && nat_lt at stretch.to && not (is_entry (slice_get code.instrs at))

-- the places in the pairs and the default behind a `cases`, as far as they are there
abbrev pub default_places : Option (Instr × Pos) → List ℕ
default_places (Some (i.Default to, here)) = to ∷ []
default_places _ = []

abbrev pub pair_places : Option (Instr × Pos) → List ℕ → List ℕ
pair_places (Some (i.Pair value to, here)) others = to ∷ others
pair_places _ others = []

abbrev pub case_places : List (Instr × Pos) → (at count : ℕ) → List ℕ
case_places instrs at zero = default_places (slice_get instrs at)
case_places instrs at (suc count) = pair_places (slice_get instrs at) (case_places instrs (at + 1) count)

-- the places where an instruction leads: the step to the next one is a jump too
abbrev pub next_places : Contents → ℕ → Instr → List ℕ
next_places code at (i.Jump to) = to ∷ []
next_places code at (i.IfZero to) = (at + 1) ∷ to ∷ []
next_places code at (i.Cases count) = case_places code.instrs (at + 1) count
next_places code at i.Give = []
next_places code at i.Leave = []
next_places code at (i.Pair value to) = []
next_places code at (i.Default to) = []
next_places code at _ = (at + 1) ∷ []

-- it leads on within its stretch; back to a `tick` alone
abbrev pub leads : Contents → Stretch → (at to : ℕ) → Bool
leads code stretch at to = is_place code stretch to && (nat_lt at to || is_tick (slice_get code.instrs to))

-- ---- pairs and defaults

-- what is due at a place, by the instructions in order: so many pairs and a default, or an instruction that may begin
abbrev pub due_after : Option (Instr × Pos) → Option ℕ → Option ℕ
due_after (Some (i.Cases count, here)) None = Some count
due_after (Some (i.Pair value to, here)) (Some (suc count)) = Some count
due_after _ _ = None

abbrev pub due_at : List (Instr × Pos) → ℕ → Option ℕ
due_at instrs zero = None
due_at instrs (suc at) = due_after (slice_get instrs at) (due_at instrs at)

abbrev pub is_pair_due : Option ℕ → Bool
is_pair_due (Some (suc count)) = true
is_pair_due _ = false

abbrev pub is_default_due : Option ℕ → Bool
is_default_due (Some zero) = true
is_default_due _ = false

-- ---- called types

abbrev pub same_form : Form → Form → Bool
same_form (form.Number a) (form.Number b) = same_kind a b
same_form form.Pointer form.Pointer = true
same_form form.Place form.Place = true
same_form form.Nothing form.Nothing = true
same_form _ _ = false

abbrev pub is_scalar_form : Form → Bool
is_scalar_form (form.Number kind) = true
is_scalar_form form.Pointer = true
is_scalar_form _ = false

abbrev pub form_of : Gives → Form
form_of (GivesNumber kind) = form.Number kind
form_of GivesPointer = form.Pointer
form_of GivesNothing = form.Nothing

-- A prototype takes arguments of these forms; further ones, where it may have any, are numbers and pointers.
abbrev pub takes_forms : List ArgKind → Bool → List Form → Bool
takes_forms [] true forms = list_all is_scalar_form forms
takes_forms [] false [] = true
takes_forms (kind ∷ kinds) variadic (f ∷ fs) = same_form (form_of (given_by kind)) f && takes_forms kinds variadic fs
takes_forms _ _ _ = false

-- each argument has a kind of its form
abbrev pub kinds_of_forms : List ArgKind → List Form → Bool
kinds_of_forms [] [] = true
kinds_of_forms (kind ∷ kinds) (f ∷ fs) = same_form (form_of (given_by kind)) f && kinds_of_forms kinds fs
kinds_of_forms _ _ = false

abbrev pub prototype_fits : CodeCalled → Prototype → Bool
prototype_fits called p = same_form (form_of p.gives) called.form && takes_forms p.takes p.variadic called.arguments
    && kinds_of_forms called.kinds called.arguments

-- a library function has such a type; of the unit's own functions more is asked elsewhere
abbrev pub function_fits : CodeCalled → Option Function → Bool
function_fits called (Some (OfLibrary row)) =
    option_map_or (λ (name : RowName). prototype_fits called (prototype name)) (name_at row) true
function_fits called _ = true

abbrev pub library_fits : Contents → CodeCalled → Bool
library_fits code called = list_all (λ f. function_fits called (function_numbered code f)) called.functions

abbrev pub call_fits : Contents → ℕ → Option CodeCalled → Bool
call_fits code count None = false
call_fits code count (Some called) = (count == length called.arguments) && library_fits code called

-- ---- an instruction by itself

abbrev pub is_place_form : Option Form → Bool
is_place_form (Some form.Place) = true
is_place_form _ = false

-- its numbers are in their ranges, and what it names is there
abbrev pub is_plain : Contents → Stretch → ℕ → Instr → Bool
is_plain code stretch at (i.Number kind n) = in_range kind n
is_plain code stretch at i.Result = is_place_form stretch.gives
is_plain code stretch at (i.Reach len align by) = nat_lt 0 align
is_plain code stretch at (i.Pool text) = nat_lt text (length code.texts)
is_plain code stretch at (i.Make slot bytes) = nat_lt 0 bytes && nat_le bytes largest_size
is_plain code stretch at (i.Difference bytes) = nat_lt 0 bytes
is_plain code stretch at (i.Cases count) = length (case_places code.instrs (at + 1) count) == count + 1
is_plain code stretch at (i.Pair value to) = is_pair_due (due_at code.instrs at)
is_plain code stretch at (i.Default to) = is_default_due (due_at code.instrs at)
is_plain code stretch at (i.Call count type) = call_fits code count (slice_get code.types type)
is_plain code stretch at _ = true

abbrev pub is_sound : Contents → Stretch → ℕ → Instr → Bool
is_sound code stretch at instr =
    is_plain code stretch at instr && list_all (leads code stretch at) (next_places code at instr)
