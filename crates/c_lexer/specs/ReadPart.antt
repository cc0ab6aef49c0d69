-- How the bytes of a part are followed: where inside it they end, and whether a byte goes on with it.
use Rattle.std.specs.Prelude.{ℕ, ◌==◌, ◌&&◌, Bool, true, false, List, [], ◌∷◌, ◌++◌, Option, Some, None}
use Rattle.std.specs.Prelude.{is_some, not, if◌then◌else◌}
use Rattle.std.specs.Char.{is_ascii_digit}
use Rattle.std.specs.Option.{option_map}
use Rattle.c_lexer.specs.declared.mode.Mode.{Mode}
use Rattle.c_lexer.specs.declared.mode.Mode.TheVariants as mode
use Rattle.c_lexer.specs.declared.mode.Quote.{Quote}
use Rattle.c_lexer.specs.declared.mode.Quote.TheVariants.{Single, Double}
use Rattle.c_lexer.specs.Bytes.{is_letter, is_word_byte, is_white}
use Rattle.c_lexer.specs.Lookup.{lookup}
use Rattle.c_lexer.specs.Marks.{marks}
use Rattle.c_lexer.specs.Refusals.{is_exponent, goes_on_number}

-- the byte of a quote
abbrev pub byte_of : Quote → ℕ
byte_of Single = 39
byte_of Double = 34

-- the quote that the byte is
abbrev pub quote_of : ℕ → Option Quote
quote_of byte = if byte == 34 then Some Double else (if byte == 39 then Some Single else None)

-- the text and the byte spell a mark
unfoldable pub extends : List ℕ → ℕ → Bool
extends text byte = is_some (lookup marks (text ++ (byte ∷ [])))

-- by the class of the first byte
unfoldable pub first_of_class : ℕ → Mode
first_of_class byte =
    if is_white byte then mode.Space
    else (if is_letter byte then mode.Word
    else (if is_ascii_digit byte then mode.Number false
    else (if extends [] byte then mode.Mark else mode.Alien)))

-- behind the first byte of a part; at_line_start says that only white space stands before it on its line
unfoldable pub first : Bool → ℕ → Mode
first at_line_start byte =
    if byte == 76 then mode.Wide
    else (if byte == 34 then mode.Quoted Double false
    else (if byte == 39 then mode.Quoted Single false
    else (if byte == 46 then mode.Dot
    else (if byte == 47 then mode.Slash
    else (if byte == 35 && at_line_start then mode.Directive else first_of_class byte)))))

-- behind an L
abbrev pub next_wide : ℕ → Option Mode
next_wide byte =
    if is_word_byte byte then Some mode.Word else option_map (λ quote. mode.Quoted quote false) (quote_of byte)

-- behind a point
abbrev pub next_dot : ℕ → Option Mode
next_dot byte = if is_ascii_digit byte then Some (mode.Number false) else (if byte == 46 then Some mode.Dots else None)

-- behind a slash
abbrev pub next_slash : ℕ → Option Mode
next_slash byte =
    if byte == 47 then Some mode.LineComment
    else (if byte == 42 then Some (mode.BlockComment false)
    else (if byte == 61 then Some mode.Mark else None))

-- between quotes; hidden says that a backslash comes before
abbrev pub next_quoted : Quote → Bool → ℕ → Option Mode
next_quoted quote hidden byte =
    if byte == 10 then None
    else (if hidden then Some (mode.Quoted quote false)
    else (if byte == byte_of quote then Some mode.Quotation else Some (mode.Quoted quote (byte == 92))))

-- in a comment; star says that a `*` comes before
abbrev pub next_comment : Bool → ℕ → Mode
next_comment star byte = if star && byte == 47 then mode.Space else mode.BlockComment (byte == 42)

-- this mode, where the byte goes on
abbrev pub mode_if : Bool → Mode → Option Mode
mode_if goes_on here = if goes_on then Some here else None

-- where the byte leads, if it goes on with the part
unfoldable pub next : Mode → List ℕ → ℕ → Option Mode
next mode.Word text byte = mode_if (is_word_byte byte) mode.Word
next mode.Wide text byte = next_wide byte
next (mode.Number sign) text byte = mode_if (goes_on_number sign byte) (mode.Number (is_exponent byte))
next mode.Dot text byte = next_dot byte
next mode.Dots text byte = mode_if (byte == 46) mode.Mark
next mode.Slash text byte = next_slash byte
next mode.Mark text byte = mode_if (extends text byte) mode.Mark
next (mode.Quoted quote hidden) text byte = next_quoted quote hidden byte
next mode.Quotation text byte = None
next mode.LineComment text byte = mode_if (not (byte == 10)) mode.LineComment
next (mode.BlockComment star) text byte = Some (next_comment star byte)
next mode.Space text byte = None
next mode.Directive text byte = mode_if (not (byte == 10)) mode.Directive
next mode.Alien text byte = None

-- two points are open
abbrev pub is_dots : Mode → Bool
is_dots mode.Dots = true
is_dots mode.Word = false
is_dots mode.Wide = false
is_dots (mode.Number sign) = false
is_dots mode.Dot = false
is_dots mode.Slash = false
is_dots mode.Mark = false
is_dots (mode.Quoted quote hidden) = false
is_dots mode.Quotation = false
is_dots mode.LineComment = false
is_dots (mode.BlockComment star) = false
is_dots mode.Space = false
is_dots mode.Directive = false
is_dots mode.Alien = false

-- no point comes next
abbrev pub is_other : Option ℕ → Bool
is_other None = true
is_other (Some byte) = not (byte == 46)
