-- What contracts see of a source, a sink and a shelf in memory.
use Rattle.std.specs.Prelude.{◌≡◌, ℕ, ◌<◌, ◌≤◌, List, [], length, Bool, true, false, Option, Some, None, Vec}
use Rattle.std.specs.Prelude.{vec_capacity}
use Rattle.acc_io.specs.Plan.{Plan}
use Rattle.acc_io.specs.Held.{File, Held}

-- left: the bytes that were not read yet; piece: how many bytes one call moves at most
pub record SourceView : Type 0 where
  pub left : List ℕ
  pub piece : ℕ
  pub plan : Plan

-- the same of a source that never fails
pub record SoundSourceView : Type 0 where
  pub left : List ℕ
  pub piece : ℕ

-- written: the bytes that were written; room: how many it holds at most
pub record SinkView : Type 0 where
  pub written : List ℕ
  pub room : ℕ
  pub piece : ℕ
  pub plan : Plan

-- What is true of every sink in memory. All its room was reserved. A fault that is not in its plan comes only where
-- the room is used up.
pub record KeepsRoom {Z : Type 0} (bytes : Vec ℕ Z) (room piece : ℕ) (plan : Plan) : Type 0 where
  pub within : length bytes.items ≤ room
  pub reserved : room ≤ vec_capacity bytes
  pub moves : 0 < piece
  pub no_fault : plan.failing ≡ [] → length bytes.items < room → plan.faults ≡ 0

-- held: the files, and what is left of the selected one; selected: whether one is selected
pub record ShelfView : Type 0 where
  pub held : Held
  pub selected : Bool
  pub piece : ℕ
  pub plan : Plan

-- the same of a shelf without a plan of failing calls; faults: how many there were
pub record SoundShelfView : Type 0 where
  pub held : Held
  pub selected : Bool
  pub piece : ℕ
  pub faults : ℕ

-- held: the files, and what is left of the selected one; selected: whether one is selected
pub record Selection : Type 0 where
  pub held : Held
  pub selected : Bool

-- the files with the one that a look-up gave selected from its first byte, or none
abbrev pub selection : List File → Option (List ℕ) → Selection
selection files None = record { held = record { files = files; left = [] }; selected = false }
selection files (Some bytes) = record { held = record { files = files; left = bytes }; selected = true }

-- of a shelf of real files, whether one is selected, and how many faults there were
pub record FileShelfView : Type 0 where
  pub selected : Bool
  pub faults : ℕ
