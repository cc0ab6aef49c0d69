-- String literals that initialize arrays (6.7.9p14, p15).
use Rattle.std.specs.Prelude.{ℕ, ◌^◌, ◌/◌, ◌%◌, ℤ, pos, unsigned_abs, Bool, true, false, nat_le, nat_lt, length}
use Rattle.std.specs.Prelude.{List, [], ◌∷◌, ◌++◌, Option, Some, None, if◌then◌else◌}
use Rattle.std.specs.Int.{int_rem_euclid}
use Rattle.c_types.specs.declared.basic.Basic.{Basic}
use Rattle.c_types.specs.declared.basic.Basic.TheVariants as b
use Rattle.c_types.specs.CType.{CType, Plain, Array, BasicType}
use Rattle.c_types.specs.Compatible.{agree}
use Rattle.c_scopes.specs.Ruled.{Ruled, Demand, ruled}
use Rattle.c_conversions.specs.Kinds.{basic_type}

-- ---- which arrays a literal may initialize

-- a character type (6.2.5p15)
abbrev pub is_character_basic : Basic → Bool
is_character_basic b.Char = true
is_character_basic b.SChar = true
is_character_basic b.UChar = true
is_character_basic other = false

abbrev pub is_character : CType → Bool
is_character (Plain (BasicType basic) quals) = is_character_basic basic
is_character other = false

-- elements of a character type for a narrow literal, and ones compatible with `wchar_t`, which is `int`, for a wide one
abbrev pub suits : (wide : Bool) → (element : CType) → Bool
suits false element = is_character element
suits true element = agree element (basic_type b.Int) false

abbrev pub suits_array : Bool → CType → Bool
suits_array wide (Array of len) = suits wide of
suits_array wide other = false

-- the length of an array, if it was not left out
abbrev pub length_in : CType → Option ℕ
length_in (Array of len) = len
length_in (Plain bare quals) = None

-- The units have room, though maybe not the null behind them.
abbrev pub have_room : Option ℕ → ℕ → Bool
have_room None units = true
have_room (Some n) units = nat_le units n

abbrev pub literal_demands : Option ℕ → ℕ → List Demand
literal_demands length units = (17, have_room length units) ∷ []

-- whether the null is stored too
abbrev pub null_fits : Option ℕ → ℕ → Bool
null_fits None units = true
null_fits (Some n) units = nat_lt units n

abbrev pub literal_fit_rule : Option ℕ → ℕ → Ruled Bool
literal_fit_rule length units = ruled (literal_demands length units) (null_fits length units)

-- ---- its bytes

-- a number of 32 bits, the low byte first
abbrev pub low_first : ℕ → List ℕ
low_first n = n % 256 ∷ (n / 256) % 256 ∷ (n / 65536) % 256 ∷ (n / 16777216) % 256 ∷ []

abbrev pub unit_bytes : (wide : Bool) → ℤ → List ℕ
unit_bytes false unit = unsigned_abs (int_rem_euclid unit (pos 256)) ∷ []
unit_bytes true unit = low_first (unsigned_abs (int_rem_euclid unit (pos (2 ^ 32))))

abbrev pub piece_bytes : Bool → List ℤ → List ℕ
piece_bytes wide [] = []
piece_bytes wide (unit ∷ rest) = unit_bytes wide unit ++ piece_bytes wide rest

abbrev pub bytes_of_pieces : Bool → List (List ℤ) → List ℕ
bytes_of_pieces wide [] = []
bytes_of_pieces wide (piece ∷ rest) = piece_bytes wide piece ++ bytes_of_pieces wide rest

-- adjacent literals are one (6.4.5p5); with a null behind the last unit or without
abbrev pub literal_bytes : Bool → List (List ℤ) → (null : Bool) → List ℕ
literal_bytes wide pieces null =
    bytes_of_pieces wide pieces ++ (if null then unit_bytes wide (pos 0) else [])
