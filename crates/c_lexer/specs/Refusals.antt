-- The refusals: which of them fit at a place, whatever else might stand there, and which of these is the reason.
use Rattle.std.specs.Prelude.{◌≡◌, ◌⊎◌, ℕ, ℤ, ◌+◌, ◌==◌, ◌||◌, ◌&&◌, Bool, true, false, List, [], ◌∷◌, ◌++◌, take}
use Rattle.std.specs.Prelude.{codes, slice_index, if◌then◌else◌}
use Rattle.std.specs.List.{prefix_len}
use Rattle.std.specs.Char.{is_ascii_digit}
use Rattle.critical_table.specs.declared.refusal.Refusal.{Refusal}
use Rattle.critical_table.specs.declared.refusal.Refusal.TheVariants.{Size, Char, Unclosed, Literal, Directive}
use Rattle.critical_table.specs.declared.refusal.Refusal.TheVariants.{Profile, Syntax, Deep, Constraint}
use Rattle.c_lexer.specs.declared.bytes.Class.TheVariants.{Line}
use Rattle.c_lexer.specs.declared.number.Number.{Number}
use Rattle.c_lexer.specs.Bytes.{is_word_byte}
use Rattle.c_lexer.specs.Classes.{is_in}
use Rattle.c_lexer.specs.Words.{is_outside}
use Rattle.c_lexer.specs.Numbers.{IsNumber}
use Rattle.c_lexer.specs.Characters.{encoding_prefix, IsCharacter, IsLiteral}
use Rattle.c_lexer.specs.Comments.{NoClose, IsInner}
use Rattle.c_lexer.specs.Directives.{IsDirective}

-- a sign may follow: e, E, p or P
abbrev pub is_exponent : ℕ → Bool
is_exponent byte = byte == 101 || byte == 69 || byte == 112 || byte == 80

-- the byte goes on with a number: a letter, a digit, `_`, `.`, or a sign where one may follow (6.4.8)
abbrev pub goes_on_number : Bool → ℕ → Bool
goes_on_number sign byte = is_word_byte byte || byte == 46 || (sign && (byte == 43 || byte == 45))

-- how far a number goes on
abbrev pub number_len : Bool → List ℕ → ℕ
number_len sign [] = 0
number_len sign (byte ∷ bytes) = if goes_on_number sign byte then 1 + number_len (is_exponent byte) bytes else 0

-- a digit, or `.` and a digit
abbrev pub begins_number : List ℕ → Bool
begins_number bytes =
    is_ascii_digit (slice_index bytes 0) || (slice_index bytes 0 == 46 && is_ascii_digit (slice_index bytes 1))

-- what begins as a number is none
abbrev pub NoNumber : List ℕ → Type 0
NoNumber bytes =
    (begins_number bytes ≡ true) × ((number : Number) → IsNumber (take (number_len false bytes) bytes) number → ⊥)

-- what ends as a character constant or a literal does is none
pub record NoCharacter (bytes : List ℕ) : Type 0 where
  pub wide : Bool
  pub inner : List ℕ
  pub after : List ℕ
  pub parts : bytes ≡ encoding_prefix wide ++ (39 ∷ (inner ++ (39 ∷ after)))
  pub inside : IsInner 39 false inner
  pub none : (value : ℤ) → IsCharacter (encoding_prefix wide ++ (39 ∷ (inner ++ (39 ∷ [])))) value wide → ⊥

-- the same of a string literal
pub record NoLiteral (bytes : List ℕ) : Type 0 where
  pub wide : Bool
  pub inner : List ℕ
  pub after : List ℕ
  pub parts : bytes ≡ encoding_prefix wide ++ (34 ∷ (inner ++ (34 ∷ after)))
  pub inside : IsInner 34 false inner
  pub none : (units : List ℤ) → IsLiteral (encoding_prefix wide ++ (34 ∷ (inner ++ (34 ∷ [])))) units wide → ⊥

-- what begins with this quote doesn't end on its line
pub record NeverEnds (quote : ℕ) (bytes : List ℕ) : Type 0 where
  pub wide : Bool
  pub rest : List ℕ
  pub parts : bytes ≡ encoding_prefix wide ++ (quote ∷ rest)
  pub never : (inner after : List ℕ) → rest ≡ inner ++ (quote ∷ after) → IsInner quote false inner → ⊥

-- a comment that doesn't end
pub record OpenComment (bytes : List ℕ) : Type 0 where
  pub rest : List ℕ
  pub parts : bytes ≡ codes "/*" ++ rest
  pub never : NoClose rest

-- a directive line that is not taken
pub record OtherDirective (bytes : List ℕ) : Type 0 where
  pub rest : List ℕ
  pub parts : bytes ≡ codes "#" ++ rest
  pub none : IsDirective (take (prefix_len (is_in Line) bytes) bytes) → ⊥

-- the refusal fits at the front of these bytes; at_line_start says that only white space stands before them on their
-- line
abbrev pub Fits : Bool → List ℕ → Refusal → Type 0
Fits at_line_start bytes Profile = is_outside (take (prefix_len is_word_byte bytes) bytes) ≡ true
Fits at_line_start bytes Literal = NoNumber bytes ⊎ NoCharacter bytes ⊎ NoLiteral bytes
Fits at_line_start bytes Unclosed = OpenComment bytes ⊎ NeverEnds 39 bytes ⊎ NeverEnds 34 bytes
Fits at_line_start bytes Directive = (at_line_start ≡ true) × OtherDirective bytes
Fits at_line_start bytes Char = Unit {0}
Fits at_line_start bytes Size = ⊥
Fits at_line_start bytes Syntax = ⊥
Fits at_line_start bytes Deep = ⊥
Fits at_line_start bytes (Constraint number) = ⊥

-- the first refusal that fits, in the order Profile, Literal, Unclosed, Directive, Char
abbrev pub IsReason : Bool → List ℕ → Refusal → Type 0
IsReason at_line_start bytes Profile = Fits at_line_start bytes Profile
IsReason at_line_start bytes Literal = Fits at_line_start bytes Literal × (Fits at_line_start bytes Profile → ⊥)
IsReason at_line_start bytes Unclosed =
    Fits at_line_start bytes Unclosed
    × (Fits at_line_start bytes Profile → ⊥) × (Fits at_line_start bytes Literal → ⊥)
IsReason at_line_start bytes Directive =
    Fits at_line_start bytes Directive
    × (Fits at_line_start bytes Profile → ⊥) × (Fits at_line_start bytes Literal → ⊥)
    × (Fits at_line_start bytes Unclosed → ⊥)
IsReason at_line_start bytes Char =
    (Fits at_line_start bytes Profile → ⊥) × (Fits at_line_start bytes Literal → ⊥)
    × (Fits at_line_start bytes Unclosed → ⊥) × (Fits at_line_start bytes Directive → ⊥)
IsReason at_line_start bytes Size = ⊥
IsReason at_line_start bytes Syntax = ⊥
IsReason at_line_start bytes Deep = ⊥
IsReason at_line_start bytes (Constraint number) = ⊥
