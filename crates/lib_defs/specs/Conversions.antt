-- The conversion specifications of a format (7.21.6.1p3 to p8), in the profile of this project: no `#`, no space, no
-- `*`, a precision for strings alone, no length modifiers j and t, and the conversions d, i, u, x, X, o, c, s and %.
use Rattle.std.specs.Prelude.{ℕ, zero, suc, ◌==◌, ◌++◌, length, nat_lt, not, ◌&&◌, ◌||◌, Bool, true, false, List, []}
use Rattle.std.specs.Prelude.{◌∷◌, take, drop, Option, Some, None, is_some, codes, if◌then◌else◌}
use Rattle.std.specs.List.{list_any, prefix_len, flat_map}
use Rattle.std.specs.Option.{option_map_or}
use Rattle.std.specs.Str.Parse.{digits_value}

-- The length modifiers (p7).
pub data Modifier : Type 0 where
  Bare : Modifier
  Hh : Modifier
  H : Modifier
  L : Modifier
  Ll : Modifier
  Z : Modifier

-- A specification as it is written: flags, the digits of the width, those of the precision behind its `.`, the length
-- modifier, and the character that names the conversion.
pub record Specification : Type 0 where
  pub flags : List ℕ
  pub width : List ℕ
  pub precision : Option (List ℕ)
  pub modifier : Modifier
  pub letter : ℕ

-- `%`
abbrev pub percent : ℕ
percent = 37

-- the character is one of these
abbrev pub among : List ℕ → ℕ → Bool
among characters c = list_any (λ x. x == c) characters

abbrev pub is_flag : ℕ → Bool
is_flag c = among (codes "-0+") c

abbrev pub is_digit : ℕ → Bool
is_digit c = among (codes "0123456789") c

-- the longest front that passes a test, and what is behind it
abbrev pub front : (ℕ → Bool) → List ℕ → List ℕ
front test text = take (prefix_len test text) text

abbrev pub after : (ℕ → Bool) → List ℕ → List ℕ
after test text = drop (prefix_len test text) text

-- What is read, in order: the precision, the length modifier, the character.
abbrev pub begins_with : List ℕ → List ℕ → Bool
begins_with [] text = true
begins_with (x ∷ xs) [] = false
begins_with (x ∷ xs) (c ∷ text) = (x == c) && begins_with xs text

abbrev pub precision_of : List ℕ → Option (List ℕ)
precision_of text = if begins_with (codes ".") text then Some (front is_digit (drop 1 text)) else None

abbrev pub after_precision : List ℕ → List ℕ
after_precision text = if begins_with (codes ".") text then after is_digit (drop 1 text) else text

abbrev pub modifier_of : List ℕ → Modifier
modifier_of text =
    if begins_with (codes "hh") text then Hh else
    if begins_with (codes "h") text then H else
    if begins_with (codes "ll") text then Ll else
    if begins_with (codes "l") text then L else
    if begins_with (codes "z") text then Z else Bare

-- how it is spelled
abbrev pub modifier_text : Modifier → List ℕ
modifier_text Bare = []
modifier_text Hh = codes "hh"
modifier_text H = codes "h"
modifier_text L = codes "l"
modifier_text Ll = codes "ll"
modifier_text Z = codes "z"

abbrev pub after_modifier : List ℕ → List ℕ
after_modifier text = drop (length (modifier_text (modifier_of text))) text

-- a specification and the text behind it
pub record Read : Type 0 where
  pub specification : Specification
  pub rest : List ℕ

abbrev pub read_letter : (flags width : List ℕ) → Option (List ℕ) → Modifier → List ℕ → Option Read
read_letter flags width precision modifier [] = None
read_letter flags width precision modifier (letter ∷ rest) = Some (record {
  specification =
      record { flags = flags; width = width; precision = precision; modifier = modifier; letter = letter };
  rest = rest;
})

abbrev pub read_from_precision : (flags width : List ℕ) → List ℕ → Option Read
read_from_precision flags width text =
    read_letter flags width (precision_of text) (modifier_of (after_precision text))
    (after_modifier (after_precision text))

abbrev pub read_from_width : (flags : List ℕ) → List ℕ → Option Read
read_from_width flags text = read_from_precision flags (front is_digit text) (after is_digit text)

-- the specification that the text behind a `%` begins with; none where the text ends before
abbrev pub read_specification : List ℕ → Option Read
read_specification text = read_from_width (front is_flag text) (after is_flag text)

-- The forms that arguments take (p8): a number with a sign; one without, in a base, with letters of a case; a
-- character; a string.
pub data Form : Type 0 where
  Signed : Form
  Unsigned : (base : ℕ) (upper : Bool) → Form
  Character : Form
  String : Form

-- The conversions: `%%` takes no argument.
pub data Conversion : Type 0 where
  Percent : Conversion
  Takes : Form → Conversion

abbrev pub named_conversion : ℕ → Option Conversion
named_conversion letter =
    if letter == percent then Some Percent else
    if among (codes "di") letter then Some (Takes Signed) else
    if among (codes "u") letter then Some (Takes (Unsigned 10 false)) else
    if among (codes "x") letter then Some (Takes (Unsigned 16 false)) else
    if among (codes "X") letter then Some (Takes (Unsigned 16 true)) else
    if among (codes "o") letter then Some (Takes (Unsigned 8 false)) else
    if among (codes "c") letter then Some (Takes Character) else
    if among (codes "s") letter then Some (Takes String) else None

-- a flag stands twice
abbrev pub has_twice : List ℕ → Bool
has_twice [] = false
has_twice (f ∷ flags) = among flags f || has_twice flags

-- one of these flags stands
abbrev pub has_flag : List ℕ → Specification → Bool
has_flag wanted c = list_any (λ flag. among wanted flag) c.flags

abbrev pub has_modifier : Modifier → Bool
has_modifier Bare = false
has_modifier _ = true

-- a width or a precision has at most this value; without digits it is 0
abbrev pub most_columns : ℕ
most_columns = 4095

abbrev pub is_wide : List ℕ → Bool
is_wide digits = nat_lt most_columns (digits_value 10 digits)

abbrev pub is_empty : List ℕ → Bool
is_empty [] = true
is_empty _ = false

-- `%%` stands alone
abbrev pub is_alone : Specification → Bool
is_alone c = is_empty c.flags && (is_empty c.width && (not (is_some c.precision) && not (has_modifier c.modifier)))

-- what a specification of each form may have
abbrev pub may_have : Form → Specification → Bool
may_have Signed c = not (is_some c.precision)
may_have (Unsigned base upper) c = not (is_some c.precision)
may_have Character c = not (is_some c.precision) && (not (has_modifier c.modifier) && not (has_flag (codes "0") c))
may_have String c = not (has_modifier c.modifier) && not (has_flag (codes "0") c)

abbrev pub may_stand : Conversion → Specification → Bool
may_stand Percent c = is_alone c
may_stand (Takes form) c = may_have form c

-- and of each: no flag twice, no width or precision above the greatest
abbrev pub is_well_formed : Conversion → Specification → Bool
is_well_formed conversion c =
    not (has_twice c.flags)
    && (not (is_wide c.width) && (not (option_map_or is_wide c.precision false) && may_stand conversion c))

abbrev pub well_formed : Option Conversion → Specification → Option Conversion
well_formed None c = None
well_formed (Some conversion) c = if is_well_formed conversion c then Some conversion else None

-- the conversion that it specifies, if it is defined
abbrev pub conversion_of : Specification → Option Conversion
conversion_of c = well_formed (named_conversion c.letter) c

-- The pieces of a format: ordinary characters, specifications behind their `%`, and the text behind a last `%` that the
-- format ends within.
pub data Piece : Type 0 where
  Ordinary : (character : ℕ) → Piece
  Specified : Specification → Piece
  Unfinished : (text : List ℕ) → Piece

abbrev pub piece_then : Option Read → List ℕ → (List ℕ → List Piece) → List Piece
piece_then None text go = Unfinished text ∷ []
piece_then (Some read) text go = Specified read.specification ∷ go read.rest

-- at most so many pieces
abbrev pub pieces_within : ℕ → List ℕ → List Piece
pieces_within zero text = []
pieces_within (suc n) [] = []
pieces_within (suc n) (c ∷ text) =
    if c == percent then piece_then (read_specification text) text (λ rest. pieces_within n rest)
    else Ordinary c ∷ pieces_within n text

abbrev pub pieces_of : List ℕ → List Piece
pieces_of format = pieces_within (length format) format

-- How pieces are spelled: a format is its pieces, one behind the other.
abbrev pub precision_text : Option (List ℕ) → List ℕ
precision_text None = []
precision_text (Some digits) = codes "." ++ digits

abbrev pub specification_text : Specification → List ℕ
specification_text c = c.flags ++ c.width ++ precision_text c.precision ++ modifier_text c.modifier ++ c.letter ∷ []

abbrev pub piece_text : Piece → List ℕ
piece_text (Ordinary c) = c ∷ []
piece_text (Specified c) = percent ∷ specification_text c
piece_text (Unfinished text) = percent ∷ text

abbrev pub pieces_text : List Piece → List ℕ
pieces_text pieces = flat_map piece_text pieces
