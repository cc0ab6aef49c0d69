-- What code holds, and what may be added to it.
use Rattle.std.specs.Prelude.{◌≡◌, ◌≢◌, ℕ, zero, suc, ◌+◌, ◌≤◌, List, [], length, Option, None, slice_get}
use Rattle.std.specs.Prelude.{slice_set}
use Rattle.std.specs.List.{All}
use Rattle.std.specs.Option.{option_map_or}
use Rattle.acc_num.specs.Kinds.{bytes_of}
use Rattle.critical_table.specs.declared.pos.Pos.{Pos}
use Rattle.c_core.specs.declared.form.Form.{Form}
use Rattle.c_core.specs.declared.form.Form.TheVariants as form
use Rattle.object_store.specs.Storage.{largest_size}
use Rattle.run_defs.specs.declared.seal.Seal.{Seal}
use Rattle.vm_code.specs.declared.instr.Instr.{Instr}
use Rattle.vm_code.specs.declared.parts.Parameter.{Parameter}
use Rattle.vm_code.specs.declared.parts.CodeFunction.{CodeFunction}
use Rattle.vm_code.specs.declared.parts.CodeObject.{CodeObject}
use Rattle.vm_code.specs.declared.parts.CodeCalled.{CodeCalled}

-- The instructions, each with its place in the unit; the functions of the unit, the static objects, the texts and the
-- called types.
pub record Contents : Type 0 where
  pub instrs : List (Instr × Pos)
  pub functions : List CodeFunction
  pub objects : List CodeObject
  pub texts : List (List ℕ)
  pub types : List CodeCalled

abbrev pub no_code : Contents
no_code = record { instrs = []; functions = []; objects = []; texts = []; types = [] }

-- another instruction stands in the place of one
abbrev pub with_instr : List (Instr × Pos) → ℕ → Instr → List (Instr × Pos)
with_instr instrs index instr =
    option_map_or (λ (x : Instr × Pos). slice_set instrs index (instr, x.1)) (slice_get instrs index) instrs

-- the function of the unit with this number, from 1
abbrev pub function_at : List CodeFunction → ℕ → Option CodeFunction
function_at functions zero = None
function_at functions (suc k) = slice_get functions k

-- there are at most so many functions and static objects, and so many texts and called types
abbrev pub function_room : ℕ
function_room = 4194304

abbrev pub type_room : ℕ
type_room = 4194306

-- no function starts there
abbrev pub IsFreeStart : List CodeFunction → ℕ → Type 0
IsFreeStart functions start = All (λ (f : CodeFunction). f.start ≢ start) functions

-- the size of an object
abbrev pub IsSize : ℕ → Type 0
IsSize size = (1 ≤ size) × (size ≤ largest_size)

-- an object of this size may be passed as this
abbrev pub SizeFits : Form → ℕ → Type 0
SizeFits (form.Number kind) size = size ≡ bytes_of kind
SizeFits form.Pointer size = size ≡ 16
SizeFits form.Place size = IsSize size
SizeFits form.Nothing size = ⊥

-- a function that gives this has such a room
abbrev pub RoomFits : Form → ℕ → Type 0
RoomFits form.Place room = IsSize room
RoomFits other room = Unit {0}

pub record FunctionFits (parameters : List Parameter) (gives : Form) (room : ℕ) : Type 0 where
  pub sizes : All (λ (p : Parameter). SizeFits p.form p.size) parameters
  pub room_fits : RoomFits gives room

-- a static object may have these contents and marks
pub record ObjectFits (bytes : List ℕ) (seals : List Seal) : Type 0 where
  pub size : IsSize (length bytes)
  pub within : All (λ (s : Seal). s.at + s.len ≤ length bytes) seals
