-- The message object: the texts that a handler of runtime-constraints is told (K.3.6.1.1).
use Rattle.std.specs.Prelude.{ℕ, List, [], ◌∷◌, ◌++◌, Some, true, codes, map}
use Rattle.object_store.specs.declared.class.Class.TheVariants.{Static}
use Rattle.object_store.specs.declared.mark.Mark.TheVariants.{Literal}
use Rattle.object_store.specs.declared.cell.Cell.{Cell}
use Rattle.object_store.specs.Object.{Object}
use Rattle.object_store.specs.Storage.{Storage}

-- the texts, each with its null
unfoldable pub message_bytes : List ℕ
message_bytes =
    codes "null pointer" ++ 0 ∷ []
    ++ codes "size above RSIZE_MAX" ++ 0 ∷ []
    ++ codes "size is zero" ++ 0 ∷ []
    ++ codes "does not fit" ++ 0 ∷ []
    ++ codes "destination not ended" ++ 0 ∷ []
    ++ codes "objects overlap" ++ 0 ∷ []
    ++ codes "token not ended" ++ 0 ∷ []
    ++ codes "size is not zero" ++ 0 ∷ []

-- a cell of a string literal
abbrev pub literal_cell : ℕ → Cell
literal_cell b = record { byte = Some b; mark = Literal }

-- a static object of these bytes, sealed as a string literal is
abbrev pub message_object : Object
message_object = record { class = Static; live = true; cells = map literal_cell message_bytes }

-- a store that holds the message object alone
abbrev pub fresh_store : ℕ → Storage
fresh_store budget = record { objects = message_object ∷ []; budget = budget; open_calls = 0; writes = [] }
