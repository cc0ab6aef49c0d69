-- How the end of a comment and of a text between quotes is found.
use Rattle.std.specs.Prelude.{ℕ, ◌==◌, ◌&&◌, Bool, true, false, List, [], ◌∷◌, drop, slice_index, Option, Some, None}
use Rattle.std.specs.Prelude.{if◌then◌else◌}

-- what follows the first `*/`
abbrev pub past_close : List ℕ → Option (List ℕ)
past_close [] = None
past_close (byte ∷ bytes) = if byte == 42 && slice_index bytes 0 == 47 then Some (drop 1 bytes) else past_close bytes

-- what follows the first quote that no backslash hides, on this line
abbrev pub past_quote : ℕ → Bool → List ℕ → Option (List ℕ)
past_quote quote hidden [] = None
past_quote quote true (byte ∷ bytes) = if byte == 10 then None else past_quote quote false bytes
past_quote quote false (byte ∷ bytes) =
    if byte == 10 then None
    else (if byte == quote then Some bytes else past_quote quote (byte == 92) bytes)
