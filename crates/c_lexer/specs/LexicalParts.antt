-- What a unit's bytes are split into: white spaces and tokens (6.4).
use Rattle.std.specs.Prelude.{◌≡◌, ◌⊎◌, ℕ, ℤ, Bool, true, false, List, [], ◌∷◌, slice_index}
use Rattle.std.specs.List.{list_all}
use Rattle.c_lexer.specs.declared.number.Number.{Number}
use Rattle.c_lexer.specs.declared.punct.Punct.{Punct}
use Rattle.c_lexer.specs.declared.word.Word.{Word}
use Rattle.c_lexer.specs.declared.token.Body.{Body}
use Rattle.c_lexer.specs.declared.token.Body.TheVariants as body
use Rattle.c_lexer.specs.Bytes.{is_letter, is_word_byte, is_white}
use Rattle.c_lexer.specs.Words.{word_text, is_outside}
use Rattle.c_lexer.specs.Marks.{mark_text}
use Rattle.c_lexer.specs.Numbers.{IsNumber}
use Rattle.c_lexer.specs.Characters.{IsCharacter, IsLiteral}
use Rattle.c_lexer.specs.Comments.{IsBlockComment, IsLineComment}
use Rattle.c_lexer.specs.Directives.{IsDirective}

-- an identifier that is no word of the language (6.4.2.1)
pub record IsName (text : List ℕ) : Type 0 where
  pub first : is_letter (slice_index text 0) ≡ true
  pub each : list_all is_word_byte text ≡ true
  pub no_word : (word : Word) → text ≡ word_text word → ⊥
  pub inside : is_outside text ≡ false

-- the text spells the token
abbrev pub IsToken : List ℕ → Body → Type 0
IsToken text (body.Word word) = text ≡ word_text word
IsToken text (body.Name name) = (name ≡ text) × IsName text
IsToken text (body.Number number) = IsNumber text number
IsToken text (body.Character value wide) = IsCharacter text value wide
IsToken text (body.Literal units wide) = IsLiteral text units wide
IsToken text (body.Mark mark) = text ≡ mark_text mark

-- the text spells no constant and no punctuator
pub record IsNoOther (text : List ℕ) : Type 0 where
  pub number : (number : Number) → IsNumber text number → ⊥
  pub character : (value : ℤ) (wide : Bool) → IsCharacter text value wide → ⊥
  pub literal : (units : List ℤ) (wide : Bool) → IsLiteral text units wide → ⊥
  pub mark : (mark : Punct) → text ≡ mark_text mark → ⊥

-- the line ends here: at a line feed, or with the bytes
abbrev pub EndsLine : List ℕ → Type 0
EndsLine [] = Unit {0}
EndsLine (byte ∷ bytes) = byte ≡ 10

-- one of the six bytes, a comment, or a directive line; that stands only where white space alone comes before it on
-- its line
abbrev pub IsWhite : Bool → List ℕ → List ℕ → Type 0
IsWhite at_line_start text after =
    ((byte : ℕ) × (text ≡ byte ∷ []) × (is_white byte ≡ true))
    ⊎ IsLineComment text
    ⊎ IsBlockComment text
    ⊎ ((at_line_start ≡ true) × IsDirective text × EndsLine after)

-- a white space, or the spelling of a token
pub data Part : Type 0 where
  White : List ℕ → Part
  Spelled : List ℕ → Body → Part

-- the bytes of the part
abbrev pub part_text : Part → List ℕ
part_text (White text) = text
part_text (Spelled text token) = text

-- the text may stand as this part, where these bytes come behind it
abbrev pub IsPart : Bool → Part → List ℕ → Type 0
IsPart at_line_start (White text) after = IsWhite at_line_start text after
IsPart at_line_start (Spelled text token) after = IsToken text token
