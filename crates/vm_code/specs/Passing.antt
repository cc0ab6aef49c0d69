-- The kinds that are known at the instructions of a function: those that come there first.
use Rattle.std.specs.Prelude.{◌≡◌, ℕ, zero, suc, ◌==◌, List, [], ◌∷◌, ◌++◌}
use Rattle.std.specs.Prelude.{Option, Some, None, if◌then◌else◌}
use Rattle.std.specs.List.{slice_get}
use Rattle.critical_table.specs.declared.pos.Pos.{Pos}
use Rattle.vm_code.specs.declared.instr.Instr.{Instr}
use Rattle.vm_code.specs.declared.parts.CodeFunction.{CodeFunction}
use Rattle.vm_code.specs.Contents.{Contents}
use Rattle.vm_code.specs.OperandKinds.{Kinds, kinds_after}
use Rattle.vm_code.specs.Sound.{Stretch, is_place, next_places}
use Rattle.vm_code.specs.Ways.{stretch_of}

abbrev pub Known : Type 0
Known = ℕ → Option Kinds

-- what is known so far, and the instructions that are still to be passed, in order
pub record Passing : Type 0 where
  pub kinds : Known
  pub due : List ℕ

abbrev pub known_at : ℕ → Kinds → Known → Known
known_at at kinds known t = if t == at then Some kinds else known t

-- Kinds come to a place: the first that come stay, and it is passed in its turn.
abbrev pub arrive_new : Option Kinds → Kinds → ℕ → Passing → Passing
arrive_new None left to p = record { kinds = known_at to left p.kinds; due = p.due ++ to ∷ [] }
arrive_new (Some others) left to p = p

abbrev pub arrive : Contents → Stretch → Kinds → ℕ → Passing → Passing
arrive code stretch left to p = if is_place code stretch to then arrive_new (p.kinds to) left to p else p

abbrev pub arrive_all : Contents → Stretch → Kinds → List ℕ → Passing → Passing
arrive_all code stretch left [] p = p
arrive_all code stretch left (to ∷ rest) p = arrive_all code stretch left rest (arrive code stretch left to p)

-- The kinds that an instruction leaves come to each place where it leads, if it finds its operands.
abbrev pub arrive_left : Contents → Stretch → List ℕ → Option Kinds → Passing → Passing
arrive_left code stretch places None p = p
arrive_left code stretch places (Some left) p = arrive_all code stretch left places p

abbrev pub pass_instr : Contents → CodeFunction → ℕ → Option (Instr × Pos) → Option Kinds → Passing → Passing
pass_instr code f at (Some (instr, here)) (Some kinds) p =
    arrive_left code (stretch_of code f) (next_places code at instr) (kinds_after code f.form instr kinds) p
pass_instr code f at _ _ p = p

-- the next instruction that is due is passed
abbrev pub pass_due : Contents → CodeFunction → Known → List ℕ → Passing
pass_due code f known [] = record { kinds = known; due = [] }
pass_due code f known (at ∷ rest) =
    pass_instr code f at (slice_get code.instrs at) (known at) (record { kinds = known; due = rest })

-- so many instructions are passed, from the start of the function, which no operands come to
abbrev pub passing : Contents → CodeFunction → ℕ → Passing
passing code f zero = record { kinds = known_at f.start [] (λ t. None); due = f.start ∷ [] }
passing code f (suc n) = let p : Passing = passing code f n in pass_due code f p.kinds p.due

-- the kinds that come to an instruction first
pub record IsKnown (code : Contents) (f : CodeFunction) (at : ℕ) (kinds : Kinds) : Type 0 where
  pub passed : ℕ
  pub is : (passing code f passed).kinds at ≡ Some kinds
