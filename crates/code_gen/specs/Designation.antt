-- What names stand for: static objects and functions have numbers, by which pointers designate them.
use Rattle.std.specs.Prelude.{ℕ, ◌+◌, List, [], ◌∷◌, length}
use Rattle.std.specs.Prelude.{if◌then◌else◌}
use Rattle.std.specs.Option.{option_map_or}
use Rattle.critical_table.specs.declared.pos.Pos.{Pos}
use Rattle.object_store.specs.declared.class.Class.TheVariants.{Static as StaticClass}
use Rattle.object_store.specs.declared.pointer.Pointer.{Pointer}
use Rattle.object_store.specs.Object.{number_of}
use Rattle.lib_defs.specs.Reply.{null}
use Rattle.run_defs.specs.Evaluation.{whole}
use Rattle.c_core.specs.declared.named.ObjectName.{ObjectName}
use Rattle.c_core.specs.declared.named.ObjectName.TheVariants as object
use Rattle.c_core.specs.declared.named.FunctionName.{FunctionName}
use Rattle.c_core.specs.declared.named.FunctionName.TheVariants as name
use Rattle.c_core.specs.TreeUnit.{Definition, Static}
use Rattle.c_core.specs.Named.{same_place}
use Rattle.vm_code.specs.Slots.{Held, place_of, held_in}

-- the place of the object in a slot; a well-typed tree names slots that hold one
abbrev pub place_in : ℕ → List Held → Pointer
place_in slot held = option_map_or place_of (held_in slot held) null

-- The place of the static object with this token, where the next one is the k-th object that is made.
abbrev pub static_from : ℕ → Pos → List Static → Pointer
static_from k token [] = null
static_from k token (first ∷ rest) =
    if same_place first.token token then whole (number_of StaticClass k) first.size
    else static_from (k + 1) token rest

-- The message object is the first that is made, and the unit's static objects are the next, in order.
abbrev pub static_place : List Static → Pos → Pointer
static_place statics token = static_from 2 token statics

abbrev pub object_place : List Static → List Held → ObjectName → Pointer
object_place statics held (object.Slot slot) = place_in slot held
object_place statics held (object.Static token) = static_place statics token

-- Functions are numbered from 1: those of the unit in the order of their definitions, then those of the library.
abbrev pub number_from : ℕ → Pos → List Definition → ℕ
number_from f token [] = 0
number_from f token (first ∷ rest) = if same_place first.token token then f else number_from (f + 1) token rest

abbrev pub function_number : List Definition → FunctionName → ℕ
function_number functions (name.Unit token) = number_from 1 token functions
function_number functions (name.Library row) = length functions + 1 + row
