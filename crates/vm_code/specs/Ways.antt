-- The ways through the code of a function, with the kinds of the operands and the slots that are made.
use Rattle.std.specs.Prelude.{◌≡◌, ℕ, zero, suc, ◌+◌, ◌==◌, true, List, [], ◌∷◌, Contains, Option, Some, None}
use Rattle.std.specs.Prelude.{if◌then◌else◌}
use Rattle.std.specs.List.{slice_get}
use Rattle.critical_table.specs.declared.pos.Pos.{Pos}
use Rattle.vm_code.specs.declared.instr.Instr.{Instr}
use Rattle.vm_code.specs.declared.instr.Instr.TheVariants as i
use Rattle.vm_code.specs.declared.parts.Parameter.{Parameter}
use Rattle.vm_code.specs.declared.parts.CodeFunction.{CodeFunction}
use Rattle.vm_code.specs.Contents.{Contents}
use Rattle.vm_code.specs.CodeFunctions.{end_of}
use Rattle.vm_code.specs.OperandKinds.{Kinds, kinds_after}
use Rattle.vm_code.specs.Sound.{Stretch, is_place, next_places}

-- the slots that are made, with the sizes of their objects
abbrev pub Slots : Type 0
Slots = ℕ → Option ℕ

abbrev pub slot_made : ℕ → ℕ → Slots → Slots
slot_made slot bytes slots t = if t == slot then Some bytes else slots t

abbrev pub slot_killed : ℕ → Slots → Slots
slot_killed slot slots t = if t == slot then None else slots t

abbrev pub slots_after : Instr → Slots → Slots
slots_after (i.Make slot bytes) slots = slot_made slot bytes slots
slots_after (i.Kill slot) slots = slot_killed slot slots
slots_after _ slots = slots

-- at the start of a function its parameters stand in the slots 0, 1 and so on
abbrev pub parameter_slots : ℕ → List Parameter → Slots
parameter_slots slot [] t = None
parameter_slots slot (p ∷ ps) t = if t == slot then Some p.size else parameter_slots (slot + 1) ps t

-- the code of a function
abbrev pub stretch_of : Contents → CodeFunction → Stretch
stretch_of code f = record { from = f.start; to = end_of code f; gives = Some f.form }

-- The instruction at a place leads to another one of the function, and its kinds and slots to those there. It finds its
-- operands.
pub record Step (code : Contents) (f : CodeFunction) (at : ℕ) (kinds : Kinds) (slots : Slots) (to : ℕ)
    (kinds_there : Kinds) (slots_there : Slots) : Type 0 where
  pub instr : Instr
  pub pos : Pos
  pub stands : slice_get code.instrs at ≡ Some (instr, pos)
  pub operands : kinds_after code f.form instr kinds ≡ Some kinds_there
  pub objects : slots_there ≡ slots_after instr slots
  pub next : Contains (next_places code at instr) to
  pub within : is_place code (stretch_of code f) to ≡ true

-- a way of n steps from the start of a function comes to this instruction with these kinds and slots
abbrev pub Way : Contents → CodeFunction → ℕ → ℕ → Kinds → Slots → Type 0
Way code f zero at kinds slots =
    (at ≡ f.start) × (kinds ≡ []) × (slots ≡ parameter_slots 0 f.parameters)
Way code f (suc n) at kinds slots = (before : ℕ) × (kinds_before : Kinds) × (slots_before : Slots)
    × Way code f n before kinds_before slots_before × Step code f before kinds_before slots_before at kinds slots
