-- The objects that a function's frame holds (6.2.4).
use Rattle.std.specs.Prelude.{ℕ, ◌==◌, List, [], ◌∷◌, map, Option, Some, None, if◌then◌else◌}
use Rattle.object_store.specs.declared.pointer.Pointer.{Pointer}
use Rattle.run_defs.specs.State.{State, died}
use Rattle.run_defs.specs.Evaluation.{whole}

-- an object in a slot
pub record Held : Type 0 where
  pub slot : ℕ
  pub number : ℕ
  pub size : ℕ

abbrev pub place_of : Held → Pointer
place_of held = whole held.number held.size

-- Of the objects that are held, the last made first, the one in a slot: the last that was made there.
abbrev pub held_in : ℕ → List Held → Option Held
held_in slot [] = None
held_in slot (held ∷ rest) = if held.slot == slot then Some held else held_in slot rest

-- the others
abbrev pub without : ℕ → List Held → List Held
without slot [] = []
without slot (held ∷ rest) = if held.slot == slot then rest else held ∷ without slot rest

-- the numbers of objects
abbrev pub numbers : List Held → List ℕ
numbers held = map (λ (h : Held). h.number) held

-- the lifetimes of objects end, in this order
abbrev pub all_died : List ℕ → State → State
all_died [] s = s
all_died (number ∷ rest) s = all_died rest (died number s)
