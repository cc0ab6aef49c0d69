-- What character constants and string literals are made of (6.4.4.4, 6.4.5).
use Rattle.std.specs.Prelude.{◌≡◌, ◌≢◌, ℕ, ℤ, pos, ◌-ℤ◌, ◌<◌, ◌≤◌, ◌==◌, ◌%◌, Bool, true, false, List, [], ◌∷◌, ◌++◌}
use Rattle.std.specs.Prelude.{length, map, codes, Option, Some, None, if◌then◌else◌, nat_lt}
use Rattle.std.specs.List.{list_all, flat_map, prefix_len}
use Rattle.std.specs.Str.Parse.{digits_value}
use Rattle.std.specs.Char.{is_ascii_hexdigit}
use Rattle.c_lexer.specs.Bytes.{is_octal}

-- a character that stands for itself, an escape of one letter, and escapes of octal and of hexadecimal digits
pub data Item : Type 0 where
  Plain : ℕ → Item
  Letter : ℕ → Item
  Octal : List ℕ → Item
  Hexadecimal : List ℕ → Item

-- a backslash is 92, an x is 120
abbrev pub item_text : Item → List ℕ
item_text (Plain byte) = byte ∷ []
item_text (Letter byte) = 92 ∷ byte ∷ []
item_text (Octal digits) = 92 ∷ digits
item_text (Hexadecimal digits) = 92 ∷ 120 ∷ digits

-- what stands behind the backslash, and the value: \' \" \? \\ \a \b \f \n \r \t \v
abbrev pub escapes : List (ℕ × ℕ)
escapes =
    (39, 39) ∷ (34, 34) ∷ (63, 63) ∷ (92, 92)
    ∷ (97, 7) ∷ (98, 8) ∷ (102, 12) ∷ (110, 10) ∷ (114, 13) ∷ (116, 9) ∷ (118, 11) ∷ []

-- the value that a table of bytes has for this one
abbrev pub value_at : List (ℕ × ℕ) → ℕ → Option ℕ
value_at [] byte = None
value_at (row ∷ rows) byte = if row.0 == byte then Some row.1 else value_at rows byte

-- the greatest value: of an unsigned char, and of a wide unit
abbrev pub greatest : Bool → ℕ
greatest false = 255
greatest true = 4294967295

-- an item of this value may stand between these quotes: 10 is a line feed
abbrev pub IsItem : Bool → ℕ → Item → ℕ → Type 0
IsItem wide quote (Plain byte) value =
    (byte ≢ quote) × (byte ≢ 92) × (byte ≢ 10) × (wide ≡ true → byte < 128) × (value ≡ byte)
IsItem wide quote (Letter byte) value = value_at escapes byte ≡ Some value
IsItem wide quote (Octal digits) value =
    (0 < length digits) × (length digits ≤ 3) × (list_all is_octal digits ≡ true)
    × (value ≡ digits_value 8 digits) × (value ≤ greatest wide)
IsItem wide quote (Hexadecimal digits) value =
    (0 < length digits) × (list_all is_ascii_hexdigit digits ≡ true)
    × (value ≡ digits_value 16 digits) × (value ≤ greatest wide)

-- an escape of digits is the longest one (6.4.4.4p7)
abbrev pub IsLongest : Item → List ℕ → Type 0
IsLongest (Plain byte) after = Unit {0}
IsLongest (Letter byte) after = Unit {0}
IsLongest (Octal digits) after = length digits < 3 → prefix_len is_octal after ≡ 0
IsLongest (Hexadecimal digits) after = prefix_len is_ascii_hexdigit after ≡ 0

-- the values of the items that the text is made of, up to what comes after it
abbrev pub AreItems : Bool → ℕ → List Item → List ℕ → List ℕ → Type 0
AreItems wide quote [] [] after = Unit {0}
AreItems wide quote (item ∷ items) (value ∷ values) after =
    IsItem wide quote item value × IsLongest item (flat_map item_text items ++ after)
    × AreItems wide quote items values after
AreItems wide quote [] (value ∷ values) after = ⊥
AreItems wide quote (item ∷ items) [] after = ⊥

-- a value as the type of the unit has it: modulo 2 ^ 8 as a char, modulo 2 ^ 32 as an int
abbrev pub unit_of : Bool → ℕ → ℤ
unit_of false value = if nat_lt (value % 256) 128 then pos (value % 256) else pos (value % 256) -ℤ pos 256
unit_of true value =
    if nat_lt (value % 4294967296) 2147483648 then pos (value % 4294967296)
    else pos (value % 4294967296) -ℤ pos 4294967296

-- what stands before the quote: nothing, or L
abbrev pub encoding_prefix : Bool → List ℕ
encoding_prefix false = []
encoding_prefix true = codes "L"

-- a character constant: its one item between quotes
pub record IsCharacter (text : List ℕ) (value : ℤ) (wide : Bool) : Type 0 where
  pub item : Item
  pub code : ℕ
  pub parts : text ≡ encoding_prefix wide ++ (39 ∷ (item_text item ++ (39 ∷ [])))
  pub fits : IsItem wide 39 item code
  pub same : value ≡ unit_of wide code

-- a string literal: its items between double quotes
pub record IsLiteral (text : List ℕ) (units : List ℤ) (wide : Bool) : Type 0 where
  pub items : List Item
  pub values : List ℕ
  pub parts : text ≡ encoding_prefix wide ++ (34 ∷ (flat_map item_text items ++ (34 ∷ [])))
  pub fit : AreItems wide 34 items values (34 ∷ [])
  pub same : units ≡ map (unit_of wide) values
