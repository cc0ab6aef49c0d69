-- The classes of bytes that runs are made of.
use Rattle.std.specs.Prelude.{ℕ, Bool, not, ◌==◌, ◌||◌}
use Rattle.std.specs.Char.{is_ascii_digit, is_ascii_hexdigit}
use Rattle.c_lexer.specs.declared.bytes.Class.{Class}
use Rattle.c_lexer.specs.declared.bytes.Class.TheVariants.{Word, Decimal, Octal, Hexadecimal}
use Rattle.c_lexer.specs.declared.bytes.Class.TheVariants.{Blank, Solid, Spaced, Line}
use Rattle.c_lexer.specs.Bytes.{is_word_byte, is_octal, is_blank}

-- the byte is of the class
abbrev pub is_in : Class → ℕ → Bool
is_in Word byte = is_word_byte byte
is_in Decimal byte = is_ascii_digit byte
is_in Octal byte = is_octal byte
is_in Hexadecimal byte = is_ascii_hexdigit byte
is_in Blank byte = is_blank byte
is_in Solid byte = not (is_blank byte)
is_in Spaced byte = is_blank byte || is_ascii_digit byte
is_in Line byte = not (byte == 10)
