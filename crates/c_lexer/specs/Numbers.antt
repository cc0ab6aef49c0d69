-- Integer constants (6.4.4.1).
use Rattle.std.specs.Prelude.{◌≡◌, ◌⊎◌, ◌≢◌, ℕ, ◌^◌, ◌<◌, Bool, true, false, List, [], ◌∷◌, ◌++◌, codes, length}
use Rattle.std.specs.Prelude.{slice_index, Some}
use Rattle.std.specs.List.{list_all}
use Rattle.std.specs.Str.Parse.{digits_value}
use Rattle.c_lexer.specs.declared.bytes.Class.{Class}
use Rattle.c_lexer.specs.declared.bytes.Class.TheVariants as class
use Rattle.c_lexer.specs.declared.number.Base.{Base}
use Rattle.c_lexer.specs.declared.number.Base.TheVariants.{Decimal, Octal, Hexadecimal}
use Rattle.c_lexer.specs.declared.number.Number.{Number}
use Rattle.c_lexer.specs.Classes.{is_in}
use Rattle.c_lexer.specs.Lookup.{lookup}

-- the base as a number
abbrev pub radix : Base → ℕ
radix Decimal = 10
radix Octal = 8
radix Hexadecimal = 16

-- the class of the digits
abbrev pub digits_of : Base → Class
digits_of Decimal = class.Decimal
digits_of Octal = class.Octal
digits_of Hexadecimal = class.Hexadecimal

-- the constant is written as a decimal one
abbrev pub is_decimal : Base → Bool
is_decimal Decimal = true
is_decimal Octal = false
is_decimal Hexadecimal = false

-- what stands before the digits
abbrev pub IsPrefix : Base → List ℕ → Type 0
IsPrefix Decimal text = text ≡ []
IsPrefix Octal text = text ≡ []
IsPrefix Hexadecimal text = (text ≡ codes "0x") ⊎ (text ≡ codes "0X")

-- the first digit: a decimal constant begins with no 0, an octal one with 0
abbrev pub IsFirst : Base → ℕ → Type 0
IsFirst Decimal digit = digit ≢ 48
IsFirst Octal digit = digit ≡ 48
IsFirst Hexadecimal digit = Unit {0}

-- each suffix: whether it has a u, and how many l
abbrev pub suffixes : List (List ℕ × (Bool × ℕ))
suffixes =
    (codes "", (false, 0))
    ∷ (codes "u", (true, 0)) ∷ (codes "U", (true, 0))
    ∷ (codes "l", (false, 1)) ∷ (codes "L", (false, 1)) ∷ (codes "ll", (false, 2)) ∷ (codes "LL", (false, 2))
    ∷ (codes "ul", (true, 1)) ∷ (codes "uL", (true, 1)) ∷ (codes "Ul", (true, 1)) ∷ (codes "UL", (true, 1))
    ∷ (codes "ull", (true, 2)) ∷ (codes "uLL", (true, 2)) ∷ (codes "Ull", (true, 2)) ∷ (codes "ULL", (true, 2))
    ∷ (codes "lu", (true, 1)) ∷ (codes "lU", (true, 1)) ∷ (codes "Lu", (true, 1)) ∷ (codes "LU", (true, 1))
    ∷ (codes "llu", (true, 2)) ∷ (codes "llU", (true, 2)) ∷ (codes "LLu", (true, 2)) ∷ (codes "LLU", (true, 2))
    ∷ []

-- the text is digits of the base and a suffix, and the number is what they say
pub record IsConstant (base : Base) (text : List ℕ) (number : Number) : Type 0 where
  pub digits : List ℕ
  pub suffix : List ℕ
  pub parts : text ≡ digits ++ suffix
  pub some : 0 < length digits
  pub each : list_all (is_in (digits_of base)) digits ≡ true
  pub ending : lookup suffixes suffix ≡ Some (number.unsigned, number.longs)
  pub value : number.value ≡ digits_value (radix base) digits
  pub fits : digits_value (radix base) digits < 2 ^ 64
  pub notation : number.decimal ≡ is_decimal base

-- the text spells the number
pub record IsNumber (text : List ℕ) (number : Number) : Type 0 where
  pub base : Base
  pub before : List ℕ
  pub after : List ℕ
  pub parts : text ≡ before ++ after
  pub prefix : IsPrefix base before
  pub first : IsFirst base (slice_index after 0)
  pub constant : IsConstant base after number
