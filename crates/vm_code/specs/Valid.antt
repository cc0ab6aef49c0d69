-- Valid code: no instruction fails, by itself or on a way that comes to it.
use Rattle.std.specs.Prelude.{◌≡◌, ◌≢◌, ℕ, ◌+◌, ◌<◌, ◌≤◌, false, Contains, length, map}
use Rattle.std.specs.Prelude.{Some, None}
use Rattle.std.specs.List.{slice_get}
use Rattle.critical_table.specs.declared.pos.Pos.{Pos}
use Rattle.vm_code.specs.declared.instr.Instr.{Instr}
use Rattle.vm_code.specs.declared.instr.Instr.TheVariants as i
use Rattle.vm_code.specs.declared.parts.Parameter.{Parameter}
use Rattle.vm_code.specs.declared.parts.CodeFunction.{CodeFunction}
use Rattle.vm_code.specs.declared.parts.CodeCalled.{CodeCalled}
use Rattle.vm_code.specs.Contents.{Contents, function_at}
use Rattle.vm_code.specs.CodeFunctions.{first_start}
use Rattle.vm_code.specs.OperandKinds.{Kinds, kinds_after}
use Rattle.vm_code.specs.Sound.{Stretch, is_place, is_sound}
use Rattle.vm_code.specs.Ways.{Slots, Way, stretch_of}

-- the instructions before the first start: a stretch that no way enters
abbrev pub first_stretch : Contents → Stretch
first_stretch code = record { from = 0; to = first_start code.functions (length code.instrs); gives = None }

-- an instruction stands there
abbrev pub StandsAt : Contents → ℕ → Instr → Type 0
StandsAt code at instr = (pos : Pos) × (slice_get code.instrs at ≡ Some (instr, pos))

-- some way of the function comes to the instruction with these kinds and slots
pub record Comes (code : Contents) (f : CodeFunction) (at : ℕ) (kinds : Kinds) (slots : Slots) : Type 0 where
  pub steps : ℕ
  pub way : Way code f steps at kinds slots

-- Of the slots that an instruction uses: one isn't made on a way, or a seal passes its object.
pub data LacksSlot (slots : Slots) : Instr → Type 0 where
  NoObject : (slot : ℕ) → slots slot ≡ None → LacksSlot slots (i.Slot slot)
  NothingToSeal : (slot at len : ℕ) → slots slot ≡ None → LacksSlot slots (i.Seal slot at len)
  SealsBeyond : (slot at len size : ℕ) → slots slot ≡ Some size → size < at + len → LacksSlot slots (i.Seal slot at len)

-- a stretch of the code: that of a function, or the first
pub data IsStretch (code : Contents) : Stretch → Type 0 where
  OfFunction : (f : CodeFunction) → Contains code.functions f → IsStretch code (stretch_of code f)
  BeforeAll : IsStretch code (first_stretch code)

-- The code is not valid at an instruction: by itself; since a function starts there and it may not begin; since a way
-- comes to it and it lacks an operand or a slot; or since two ways differ there in their kinds, or in the size of the
-- object that it seals. A `kill` may stand where some way makes its slot.
pub data Fails (code : Contents) (at : ℕ) : Type 0 where
  IsUnsound : (stretch : Stretch) (instr : Instr) → IsStretch code stretch → stretch.from ≤ at → at < stretch.to
      → StandsAt code at instr → is_sound code stretch at instr ≡ false → Fails code at
  CannotStart : (f : CodeFunction) → Contains code.functions f → f.start ≡ at
      → is_place code (stretch_of code f) at ≡ false → Fails code at
  LacksOperand : (f : CodeFunction) (kinds : Kinds) (slots : Slots) (instr : Instr) → Contains code.functions f
      → Comes code f at kinds slots → StandsAt code at instr → kinds_after code f.form instr kinds ≡ None
      → Fails code at
  LacksObject : (f : CodeFunction) (kinds : Kinds) (slots : Slots) (instr : Instr) → Contains code.functions f
      → Comes code f at kinds slots → StandsAt code at instr → LacksSlot slots instr → Fails code at
  KindsDiffer : (f : CodeFunction) (kinds others : Kinds) (slots more : Slots) → Contains code.functions f
      → Comes code f at kinds slots → Comes code f at others more → kinds ≢ others → Fails code at
  SizesDiffer : (f : CodeFunction) (kinds others : Kinds) (slots more : Slots) (slot from len : ℕ)
      → Contains code.functions f → Comes code f at kinds slots → Comes code f at others more
      → StandsAt code at (i.Seal slot from len) → slots slot ≢ more slot → Fails code at
  KillsNothing : (f : CodeFunction) (kinds : Kinds) (slots : Slots) (slot : ℕ) → Contains code.functions f
      → Comes code f at kinds slots → StandsAt code at (i.Kill slot)
      → ((others : Kinds) (more : Slots) → Comes code f at others more → more slot ≡ None) → Fails code at

-- A function of the unit has the type that it is called through.
pub record HasType (called : CodeCalled) (f : CodeFunction) : Type 0 where
  pub gives : f.form ≡ called.form
  pub takes : map (λ (p : Parameter). p.form) f.parameters ≡ called.arguments

-- Of a called type: the unit's own functions in its list have it.
abbrev pub OwnFit : Contents → CodeCalled → Type 0
OwnFit code called = (number : ℕ) (f : CodeFunction) → Contains called.functions number
    → function_at code.functions number ≡ Some f → HasType called f

-- Code is valid.
pub record IsValid (code : Contents) : Type 0 where
  pub holds : (at : ℕ) → Fails code at → ⊥
  pub own : (type : ℕ) (called : CodeCalled) → slice_get code.types type ≡ Some called → OwnFit code called
