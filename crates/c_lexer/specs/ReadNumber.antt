-- How an integer constant is read.
use Rattle.std.specs.Prelude.{ℕ, ◌==◌, ◌||◌, ◌^◌, Bool, List, take, drop, slice_index, Option, Some, None}
use Rattle.std.specs.Prelude.{if◌then◌else◌, nat_lt}
use Rattle.std.specs.List.{prefix_len}
use Rattle.std.specs.Str.Parse.{digits_value}
use Rattle.c_lexer.specs.declared.number.Base.{Base}
use Rattle.c_lexer.specs.declared.number.Base.TheVariants.{Decimal, Octal, Hexadecimal}
use Rattle.c_lexer.specs.declared.number.Number.{Number}
use Rattle.c_lexer.specs.Classes.{is_in}
use Rattle.c_lexer.specs.Lookup.{lookup}
use Rattle.c_lexer.specs.Numbers.{radix, digits_of, is_decimal, suffixes}

-- the value of the digits, if it is below 2 ^ 64
abbrev pub value_of : ℕ → List ℕ → Option ℕ
value_of base digits = if nat_lt (digits_value base digits) (2 ^ 64) then Some (digits_value base digits) else None

-- from the value and the suffix
abbrev pub with_suffix : Base → ℕ → Option (Bool × ℕ) → Option Number
with_suffix base value None = None
with_suffix base value (Some suffix) =
    Some (record { value = value; decimal = is_decimal base; unsigned = suffix.0; longs = suffix.1 })

-- from the value and the text of the suffix
abbrev pub with_value : Base → Option ℕ → List ℕ → Option Number
with_value base None suffix = None
with_value base (Some value) suffix = with_suffix base value (lookup suffixes suffix)

-- digits of the base, and a suffix
unfoldable pub constant : Base → List ℕ → Option Number
constant base text =
    let count = prefix_len (is_in (digits_of base)) text in
    if count == 0 then None else with_value base (value_of (radix base) (take count text)) (drop count text)

-- the number that the whole text spells
unfoldable pub number_of : List ℕ → Option Number
number_of text =
    if slice_index text 0 == 48
    then (if slice_index text 1 == 120 || slice_index text 1 == 88 then constant Hexadecimal (drop 2 text)
    else constant Octal text)
    else constant Decimal text
