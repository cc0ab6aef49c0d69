-- The first instruction where code is not valid. A way goes on as long as its kinds are those that came first.
use Rattle.std.specs.Prelude.{◌≡◌, ◌≢◌, ℕ, zero, suc, ◌<◌, ◌≤◌, ◌↔◌, false, true, [], Contains, Some, None}
use Rattle.std.specs.List.{slice_get}
use Rattle.vm_code.specs.declared.instr.Instr.{Instr}
use Rattle.vm_code.specs.declared.instr.Instr.TheVariants as i
use Rattle.vm_code.specs.declared.parts.CodeFunction.{CodeFunction}
use Rattle.vm_code.specs.declared.parts.CodeCalled.{CodeCalled}
use Rattle.vm_code.specs.Contents.{Contents, function_at}
use Rattle.vm_code.specs.OperandKinds.{Kinds, kinds_after}
use Rattle.vm_code.specs.Sound.{Stretch, is_place, is_sound, next_places}
use Rattle.vm_code.specs.Ways.{Slots, Step, parameter_slots, stretch_of}
use Rattle.vm_code.specs.Valid.{StandsAt, LacksSlot, IsStretch, HasType, IsValid}
use Rattle.vm_code.specs.Passing.{IsKnown}

-- a way of n steps, on which only kinds come that came first, comes to an instruction with these slots
abbrev pub AgreeingWay : Contents → CodeFunction → ℕ → ℕ → Kinds → Slots → Type 0
AgreeingWay code f zero at kinds slots =
    (at ≡ f.start) × (kinds ≡ []) × (slots ≡ parameter_slots 0 f.parameters)
AgreeingWay code f (suc n) at kinds slots = (before : ℕ) × (kinds_before : Kinds) × (slots_before : Slots)
    × AgreeingWay code f n before kinds_before slots_before
    × Step code f before kinds_before slots_before at kinds slots × IsKnown code f at kinds

pub record Agrees (code : Contents) (f : CodeFunction) (at : ℕ) (slots : Slots) : Type 0 where
  pub steps : ℕ
  pub kinds : Kinds
  pub way : AgreeingWay code f steps at kinds slots

-- An instruction fails, as long as ways agree: by itself; with the kinds that come to it first; since others come to
-- it; or with the slots of agreeing ways.
pub data FailsFirst (code : Contents) (at : ℕ) : Type 0 where
  IsUnsound : (stretch : Stretch) (instr : Instr) → IsStretch code stretch → stretch.from ≤ at → at < stretch.to
      → StandsAt code at instr → is_sound code stretch at instr ≡ false → FailsFirst code at
  CannotStart : (f : CodeFunction) → Contains code.functions f → f.start ≡ at
      → is_place code (stretch_of code f) at ≡ false → FailsFirst code at
  LacksOperand : (f : CodeFunction) (kinds : Kinds) (instr : Instr) → Contains code.functions f
      → IsKnown code f at kinds → StandsAt code at instr → kinds_after code f.form instr kinds ≡ None
      → FailsFirst code at
  KindsDiffer : (f : CodeFunction) (from : ℕ) (kinds left others : Kinds) (instr : Instr) → Contains code.functions f
      → IsKnown code f from kinds → StandsAt code from instr → kinds_after code f.form instr kinds ≡ Some left
      → Contains (next_places code from instr) at → is_place code (stretch_of code f) at ≡ true
      → IsKnown code f at others → others ≢ left → FailsFirst code at
  LacksObject : (f : CodeFunction) (slots : Slots) (instr : Instr) → Contains code.functions f
      → Agrees code f at slots → StandsAt code at instr → LacksSlot slots instr → FailsFirst code at
  SizesDiffer : (f : CodeFunction) (slots more : Slots) (slot from len : ℕ) → Contains code.functions f
      → Agrees code f at slots → Agrees code f at more → StandsAt code at (i.Seal slot from len)
      → slots slot ≢ more slot → FailsFirst code at
  KillsNothing : (f : CodeFunction) (slots : Slots) (slot : ℕ) → Contains code.functions f
      → Agrees code f at slots → StandsAt code at (i.Kill slot)
      → ((more : Slots) → Agrees code f at more → more slot ≡ None) → FailsFirst code at

-- Last it is asked of the unit's own functions in called types that they have these types. A function's first
-- instruction is blamed for it.
pub record Misfits (code : Contents) (at : ℕ) : Type 0 where
  pub type : ℕ
  pub called : CodeCalled
  pub is : slice_get code.types type ≡ Some called
  pub number : ℕ
  pub f : CodeFunction
  pub listed : Contains called.functions number
  pub found : function_at code.functions number ≡ Some f
  pub starts : f.start ≡ at
  pub differs : HasType called f → ⊥

-- The instruction that is blamed: the first that fails, and where none does, the first that starts such a function.
pub data IsBlamed (code : Contents) (at : ℕ) : Type 0 where
  FirstFault : FailsFirst code at → ((before : ℕ) → before < at → FailsFirst code before → ⊥) → IsBlamed code at
  FirstMisfit : ((place : ℕ) → FailsFirst code place → ⊥) → Misfits code at
      → ((before : ℕ) → before < at → Misfits code before → ⊥) → IsBlamed code at

-- At most one instruction is blamed, and none exactly where the code is valid.
pub record IsFairlyBlamed (code : Contents) : Type 0 where
  pub one : (a b : ℕ) → IsBlamed code a → IsBlamed code b → a ≡ b
  pub none : ((at : ℕ) → IsBlamed code at → ⊥) ↔ IsValid code

abbrev pub BlameIsFair : Type 0
BlameIsFair = (code : Contents) → IsFairlyBlamed code
