-- A small store for examples.
use Rattle.std.specs.Prelude.{ℕ, ◌++◌, List, [], ◌∷◌, map, replicate, Option, Some, None, true}
use Rattle.object_store.specs.declared.class.Class.TheVariants.{Automatic}
use Rattle.object_store.specs.declared.mark.Mark.{Mark}
use Rattle.object_store.specs.declared.pointer.Pointer.{Pointer}
use Rattle.object_store.specs.Object.{Object}
use Rattle.object_store.specs.Storage.{Storage}
use Rattle.object_store.specs.Messages.{message_object}

-- an object of bytes with a mark
abbrev pub object : Mark → List (Option ℕ) → Object
object mark bytes = record {
  class = Automatic;
  live = true;
  cells = map (λ (b : Option ℕ). record { byte = b; mark = mark }) bytes;
}

-- the message object, which has the number 2, and objects with the numbers 4, 6 and so on
abbrev pub store : List Object → Storage
store objects = record { objects = message_object ∷ objects; budget = 1000; open_calls = 0; writes = [] }

-- a pointer to a byte of an object of this size
abbrev pub at : (object offset size : ℕ) → Pointer
at object offset size = record { object = object; offset = offset; low = 0; high = size }

abbrev pub known : List ℕ → List (Option ℕ)
known bytes = map (λ (b : ℕ). Some b) bytes

-- the characters of a text and its null
abbrev pub text_bytes : List ℕ → List (Option ℕ)
text_bytes text = known (text ++ 0 ∷ [])

-- the same as wide characters
abbrev pub wide_bytes : List ℕ → List (Option ℕ)
wide_bytes [] = Some 0 ∷ Some 0 ∷ Some 0 ∷ Some 0 ∷ []
wide_bytes (c ∷ text) = Some c ∷ Some 0 ∷ Some 0 ∷ Some 0 ∷ wide_bytes text

abbrev pub unset : ℕ → List (Option ℕ)
unset n = replicate n None
