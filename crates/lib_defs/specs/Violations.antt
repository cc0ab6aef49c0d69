-- The classes of runtime-constraints: text, value, and place in the message object (K.3.6.1.1).
use Rattle.std.specs.Prelude.{◌≡◌, ℕ, ◌+◌, ℤ, pos, List, [], ◌∷◌, ◌++◌, length, map, Some, codes}
use Rattle.object_store.specs.declared.pointer.Pointer.{Pointer}
use Rattle.object_store.specs.Steps.{bytes_at}
use Rattle.object_store.specs.Messages.{fresh_store}
use Rattle.lib_defs.specs.declared.violation.Violation.{Violation}
use Rattle.lib_defs.specs.declared.violation.Violation.TheVariants.{NullPointer, SizeAbove, SizeZero, DoesNotFit}
use Rattle.lib_defs.specs.declared.violation.Violation.TheVariants.{NotEnded, Overlap, TokenNotEnded, SizeNotZero}

-- the text, the value, and where the text begins
pub record ClassRow : Type 0 where
  pub text : List ℕ
  pub errno : ℤ
  pub at : ℕ

abbrev pub class_row : Violation → ClassRow
class_row NullPointer = record { text = codes "null pointer"; errno = pos 22; at = 0 }
class_row SizeAbove = record { text = codes "size above RSIZE_MAX"; errno = pos 34; at = 13 }
class_row SizeZero = record { text = codes "size is zero"; errno = pos 34; at = 34 }
class_row DoesNotFit = record { text = codes "does not fit"; errno = pos 34; at = 47 }
class_row NotEnded = record { text = codes "destination not ended"; errno = pos 34; at = 60 }
class_row Overlap = record { text = codes "objects overlap"; errno = pos 22; at = 82 }
class_row TokenNotEnded = record { text = codes "token not ended"; errno = pos 22; at = 98 }
class_row SizeNotZero = record { text = codes "size is not zero"; errno = pos 34; at = 114 }

abbrev pub errno_of : Violation → ℤ
errno_of violation = (class_row violation).errno

-- how many bytes the text has with its null
abbrev pub message_length : Violation → ℕ
message_length violation = length (class_row violation).text + 1

-- the handler's pointer: its bounds are the one text with its null
abbrev pub message_place : Violation → Pointer
message_place violation = record {
  object = 2;
  offset = (class_row violation).at;
  low = (class_row violation).at;
  high = (class_row violation).at + message_length violation;
}

-- there stands the text, in each store
abbrev pub StandsThere : Violation → Type 0
StandsThere violation = (budget : ℕ)
    → bytes_at (fresh_store budget) (message_place violation) (message_length violation)
    ≡ map Some ((class_row violation).text ++ 0 ∷ [])
