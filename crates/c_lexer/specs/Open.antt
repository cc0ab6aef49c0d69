-- What the bytes of an open part are, whatever comes behind them.
use Rattle.std.specs.Prelude.{◌≡◌, ◌≢◌, ◌⊎◌, ℕ, ◌+◌, ◌==◌, ◌&&◌, Bool, true, false, List, [], ◌∷◌, ◌++◌, codes}
use Rattle.std.specs.Prelude.{length, slice_index, drop, Option, Some, if◌then◌else◌}
use Rattle.std.specs.List.{list_all}
use Rattle.c_lexer.specs.declared.bytes.Class.TheVariants.{Line}
use Rattle.c_lexer.specs.declared.mode.Mode.{Mode}
use Rattle.c_lexer.specs.declared.mode.Mode.TheVariants as mode
use Rattle.c_lexer.specs.declared.mode.Quote.{Quote}
use Rattle.c_lexer.specs.declared.punct.Punct.{Punct}
use Rattle.c_lexer.specs.declared.punct.Punct.TheVariants as p
use Rattle.c_lexer.specs.Bytes.{is_letter, is_word_byte, is_white}
use Rattle.c_lexer.specs.Characters.{encoding_prefix}
use Rattle.c_lexer.specs.Classes.{is_in}
use Rattle.c_lexer.specs.Comments.{IsLineComment, IsBlockComment, IsInner}
use Rattle.c_lexer.specs.Marks.{mark_text}
use Rattle.c_lexer.specs.ReadComment.{past_close, past_quote}
use Rattle.c_lexer.specs.ReadPart.{byte_of, first}
use Rattle.c_lexer.specs.Refusals.{number_len, begins_number}

-- letters, digits and `_`, but not L alone
pub record IsOpenWord (text : List ℕ) : Type 0 where
  pub first : is_letter (slice_index text 0) ≡ true
  pub each : list_all is_word_byte text ≡ true
  pub not_wide : text ≡ codes "L" → ⊥

-- what begins as a number, and goes on as the flag says
pub record IsOpenNumber (sign : Bool) (text : List ℕ) : Type 0 where
  pub begins : (rest : List ℕ) → begins_number (text ++ rest) ≡ true
  pub goes_on : (rest : List ℕ) → number_len false (text ++ rest) ≡ length text + number_len sign rest

-- a mark, but no `.` and no `/`
pub record IsOpenMark (text : List ℕ) : Type 0 where
  pub mark : Punct
  pub spelled : text ≡ mark_text mark
  pub other : (mark ≢ p.Dot) × (mark ≢ p.Slash)

-- a quote, or L and a quote, and what the flag says of what comes
pub record IsOpenQuote (quote : Quote) (hidden : Bool) (text : List ℕ) : Type 0 where
  pub wide : Bool
  pub inner : List ℕ
  pub parts : text ≡ encoding_prefix wide ++ (byte_of quote ∷ inner)
  pub goes_on : (rest : List ℕ) → past_quote (byte_of quote) false (inner ++ rest)
      ≡ past_quote (byte_of quote) hidden rest

-- the same up to the quote that ends it
pub record IsClosedQuote (text : List ℕ) : Type 0 where
  pub wide : Bool
  pub quote : Quote
  pub inner : List ℕ
  pub parts : text ≡ encoding_prefix wide ++ (byte_of quote ∷ (inner ++ (byte_of quote ∷ [])))
  pub inside : IsInner (byte_of quote) false inner

-- what follows the first `*/`, where the flag says that a `*` comes before
abbrev pub past_star : Bool → List ℕ → Option (List ℕ)
past_star star bytes = if star && slice_index bytes 0 == 47 then Some (drop 1 bytes) else past_close bytes

-- `/*` and what follows it so far, with no `*/` in it
pub record IsOpenComment (star : Bool) (text : List ℕ) : Type 0 where
  pub body : List ℕ
  pub parts : text ≡ codes "/*" ++ body
  pub goes_on : (rest : List ℕ) → past_close (body ++ rest) ≡ past_star star rest

-- a line that begins with a `#` that is first on it
pub record IsOpenLine (at_line_start : Bool) (text : List ℕ) : Type 0 where
  pub is_first : at_line_start ≡ true
  pub body : List ℕ
  pub parts : text ≡ 35 ∷ body
  pub line : list_all (is_in Line) body ≡ true

-- white space that nothing goes on with
abbrev pub IsSpace : List ℕ → Type 0
IsSpace text = ((byte : ℕ) × (text ≡ byte ∷ []) × (is_white byte ≡ true)) ⊎ IsBlockComment text

-- one byte that begins nothing
abbrev pub IsAlone : Bool → List ℕ → Type 0
IsAlone at_line_start text = (byte : ℕ) × (text ≡ byte ∷ []) × (first at_line_start byte ≡ mode.Alien)

-- the text is what the mode says; at_line_start says that only white space stands before it on its line
abbrev pub IsOpen : Bool → Mode → List ℕ → Type 0
IsOpen at_line_start mode.Word text = IsOpenWord text
IsOpen at_line_start mode.Wide text = text ≡ codes "L"
IsOpen at_line_start (mode.Number sign) text = IsOpenNumber sign text
IsOpen at_line_start mode.Dot text = text ≡ codes "."
IsOpen at_line_start mode.Dots text = text ≡ codes ".."
IsOpen at_line_start mode.Slash text = text ≡ codes "/"
IsOpen at_line_start mode.Mark text = IsOpenMark text
IsOpen at_line_start (mode.Quoted quote hidden) text = IsOpenQuote quote hidden text
IsOpen at_line_start mode.Quotation text = IsClosedQuote text
IsOpen at_line_start mode.LineComment text = IsLineComment text
IsOpen at_line_start (mode.BlockComment star) text = IsOpenComment star text
IsOpen at_line_start mode.Space text = IsSpace text
IsOpen at_line_start mode.Directive text = IsOpenLine at_line_start text
IsOpen at_line_start mode.Alien text = IsAlone at_line_start text
