-- How character constants and string literals are read.
use Rattle.std.specs.Prelude.{ℕ, zero, suc, ℤ, slice_index, ◌==◌, ◌||◌, ◌&&◌, not, Bool, true, false, List, [], ◌∷◌}
use Rattle.std.specs.Prelude.{length, take, drop, min, Option, Some, None, if◌then◌else◌, nat_le}
use Rattle.std.specs.List.{prefix_len}
use Rattle.std.specs.Option.{option_map}
use Rattle.std.specs.Str.{bytes_eq}
use Rattle.std.specs.Char.{is_ascii_hexdigit}
use Rattle.c_lexer.specs.Bytes.{is_octal}
use Rattle.c_lexer.specs.Characters.{escapes, value_at, greatest, unit_of}
use Rattle.c_lexer.specs.ReadNumber.{value_of}

-- a value that is not too great
abbrev pub in_range : Bool → Option ℕ → List ℕ → Option (ℕ × List ℕ)
in_range wide None after = None
in_range wide (Some value) after = if nat_le value (greatest wide) then Some (value, after) else None

-- so many digits
unfoldable pub digits_escape : Bool → ℕ → ℕ → List ℕ → Option (ℕ × List ℕ)
digits_escape wide radix count bytes =
    if count == 0 then None else in_range wide (value_of radix (take count bytes)) (drop count bytes)

-- behind a backslash
unfoldable pub escape_at : Bool → List ℕ → Option (ℕ × List ℕ)
escape_at wide [] = None
escape_at wide (byte ∷ bytes) =
    if is_octal byte then digits_escape wide 8 (min 3 (prefix_len is_octal (byte ∷ bytes))) (byte ∷ bytes)
    else (if byte == 120 then digits_escape wide 16 (prefix_len is_ascii_hexdigit bytes) bytes
    else option_map (λ value. (value, bytes)) (value_at escapes byte))

-- the byte stands for itself
abbrev pub is_plain : Bool → ℕ → ℕ → Bool
is_plain wide quote byte = not (byte == quote || byte == 10 || (wide && nat_le 128 byte))

-- the item at the front: its value, and what follows it
unfoldable pub item_at : Bool → ℕ → List ℕ → Option (ℕ × List ℕ)
item_at wide quote [] = None
item_at wide quote (byte ∷ bytes) =
    if byte == 92 then escape_at wide bytes else (if is_plain wide quote byte then Some (byte, bytes) else None)

-- the constant, where its item is followed by the quote and nothing else
abbrev pub close_character : Bool → Option (ℕ × List ℕ) → Option (ℤ × Bool)
close_character wide None = None
close_character wide (Some found) = if bytes_eq found.1 (39 ∷ []) then Some (unit_of wide found.0, wide) else None

-- the character constant that the whole text spells: 39 is the quote, 76 is L
unfoldable pub character_of : List ℕ → Option (ℤ × Bool)
character_of text =
    if slice_index text 0 == 39 then close_character false (item_at false 39 (drop 1 text))
    else (if slice_index text 0 == 76 && slice_index text 1 == 39
    then close_character true (item_at true 39 (drop 2 text)) else None)

-- the units at the front, as far as items go, and what follows them
abbrev pub units_more : (List ℕ → List ℤ × List ℕ) → Bool → List ℕ → Option (ℕ × List ℕ) → List ℤ × List ℕ
units_more go wide bytes None = ([], bytes)
units_more go wide bytes (Some found) = (unit_of wide found.0 ∷ (go found.1).0, (go found.1).1)

-- in so many turns, which are to be no fewer than the bytes
abbrev pub units_from : ℕ → Bool → List ℕ → List ℤ × List ℕ
units_from zero wide bytes = ([], bytes)
units_from (suc n) wide bytes = units_more (units_from n wide) wide bytes (item_at wide 34 bytes)

-- in as many turns as there are bytes
unfoldable pub units_at : Bool → List ℕ → List ℤ × List ℕ
units_at wide bytes = units_from (length bytes) wide bytes

-- the literal, where its units are followed by the quote and nothing else
abbrev pub close_literal : Bool → List ℤ × List ℕ → Option (List ℤ × Bool)
close_literal wide found = if bytes_eq found.1 (34 ∷ []) then Some (found.0, wide) else None

-- the string literal that the whole text spells
unfoldable pub literal_of : List ℕ → Option (List ℤ × Bool)
literal_of text =
    if slice_index text 0 == 34 then close_literal false (units_at false (drop 1 text))
    else (if slice_index text 0 == 76 && slice_index text 1 == 34
    then close_literal true (units_at true (drop 2 text)) else None)
