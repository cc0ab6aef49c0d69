-- How a directive line is read.
use Rattle.std.specs.Prelude.{ℕ, zero, suc, slice_index, Result, Ok, Err, ◌==◌, ◌&&◌, ◌||◌, not, Bool, true, false}
use Rattle.std.specs.Prelude.{List, [], ◌∷◌, length, take, drop, codes, Option, Some, None, if◌then◌else◌, nat_eq}
use Rattle.std.specs.List.{list_all, prefix_len}
use Rattle.std.specs.Cmp.Lexicographic.{pointwise}
use Rattle.c_lexer.specs.declared.bytes.Class.TheVariants as class
use Rattle.c_lexer.specs.Classes.{is_in}
use Rattle.c_lexer.specs.Directives.{is_header}
use Rattle.c_lexer.specs.ReadComment.{past_close, past_quote}

-- what follows the word
abbrev pub strip : List ℕ → List ℕ → Option (List ℕ)
strip word text = if pointwise nat_eq (take (length word) text) word then Some (drop (length word) text) else None

-- what is said of what follows, if anything does
abbrev pub holds_on : Option (List ℕ) → (List ℕ → Bool) → Bool
holds_on None test = false
holds_on (Some text) test = test text

-- what follows spaces and tabs
abbrev pub skip_blanks : List ℕ → List ℕ
skip_blanks text = drop (prefix_len (is_in class.Blank) text) text

-- all is spaces and tabs
abbrev pub all_blank : List ℕ → Bool
all_blank = list_all (is_in class.Blank)

-- a space or a tab is at the front
abbrev pub begins_blank : List ℕ → Bool
begins_blank text = not (prefix_len (is_in class.Blank) text == 0)

-- a header, and blanks behind it
abbrev pub ends_include : List ℕ → Bool
ends_include rest =
    is_header (take (prefix_len (is_in class.Solid) rest) rest)
    && all_blank (drop (prefix_len (is_in class.Solid) rest) rest)

-- `include`, blanks and a header
unfoldable pub is_include : List ℕ → Bool
is_include text = holds_on (strip (codes "include") text) (λ after. ends_include (skip_blanks after))

-- blanks, `1` and blanks
abbrev pub ends_define : List ℕ → Bool
ends_define after = begins_blank after && holds_on (strip (codes "1") (skip_blanks after)) all_blank

-- blanks, the macro of K.3.1.1, and its value
abbrev pub names_extension : List ℕ → Bool
names_extension after =
    begins_blank after && holds_on (strip (codes "__STDC_WANT_LIB_EXT1__") (skip_blanks after)) ends_define

-- `define` and that macro
unfoldable pub is_define : List ℕ → Bool
is_define text = holds_on (strip (codes "define") text) names_extension

-- a file name up to its quote, and numbers
abbrev pub ends_marker : List ℕ → Bool
ends_marker after = holds_on (past_quote 34 false after) (list_all (is_in class.Spaced))

-- a number, blanks, a file name and numbers
unfoldable pub is_marker : List ℕ → Bool
is_marker text =
    not (prefix_len (is_in class.Decimal) text == 0)
    && holds_on (strip (codes "\"") (skip_blanks (drop (prefix_len (is_in class.Decimal) text) text))) ends_marker

-- behind the end of a comment, or the comment goes on
abbrev pub behind_close : Option (List ℕ) → Result (List ℕ) Bool
behind_close None = Err true
behind_close (Some after) = Ok after

-- behind the quote, or nothing goes on from what no quote ends
abbrev pub behind_quote : Option (List ℕ) → Result (List ℕ) Bool
behind_quote None = Err false
behind_quote (Some after) = Ok after

-- what follows the comment, the text between quotes or the byte at the front, or whether a comment goes on from here
unfoldable pub past_piece : ℕ → List ℕ → Result (List ℕ) Bool
past_piece byte after =
    if byte == 47 && slice_index after 0 == 47 then Err false
    else (if byte == 47 && slice_index after 0 == 42 then behind_close (past_close (drop 1 after))
    else (if byte == 34 || byte == 39 then behind_quote (past_quote byte false after)
    else Ok after))

-- with what follows the piece, or what the piece says
abbrev pub by_piece : (List ℕ → Bool) → Result (List ℕ) Bool → Bool
by_piece go (Ok after) = go after
by_piece go (Err open_end) = open_end

-- in so many turns, which are to be no fewer than the bytes
abbrev pub goes_on_from : ℕ → List ℕ → Bool
goes_on_from zero bytes = false
goes_on_from (suc n) [] = false
goes_on_from (suc n) (byte ∷ bytes) = by_piece (goes_on_from n) (past_piece byte bytes)

-- a comment begins in the bytes and goes on behind them
unfoldable pub goes_on : List ℕ → Bool
goes_on bytes = goes_on_from (length bytes) bytes

-- behind `pragma`: no word byte, and one line in which no comment goes on
abbrev pub ends_pragma : List ℕ → Bool
ends_pragma rest = prefix_len (is_in class.Word) rest == 0 && list_all (is_in class.Line) rest && not (goes_on rest)

-- `pragma` and that
unfoldable pub is_pragma : List ℕ → Bool
is_pragma text = holds_on (strip (codes "pragma") text) ends_pragma
