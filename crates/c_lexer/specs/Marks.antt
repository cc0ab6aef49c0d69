-- The spellings of the punctuators (6.4.6).
use Rattle.std.specs.Prelude.{ℕ, List, [], ◌∷◌, codes, map}
use Rattle.c_lexer.specs.declared.punct.Punct.{Punct}
use Rattle.c_lexer.specs.declared.punct.Punct.TheVariants as p

-- the spelling of a punctuator
abbrev pub mark_text : Punct → List ℕ
mark_text p.OpenBracket = codes "["
mark_text p.CloseBracket = codes "]"
mark_text p.OpenParen = codes "("
mark_text p.CloseParen = codes ")"
mark_text p.OpenBrace = codes "{"
mark_text p.CloseBrace = codes "}"
mark_text p.Dot = codes "."
mark_text p.Arrow = codes "->"
mark_text p.Increment = codes "++"
mark_text p.Decrement = codes "--"
mark_text p.Ampersand = codes "&"
mark_text p.Star = codes "*"
mark_text p.Plus = codes "+"
mark_text p.Minus = codes "-"
mark_text p.Tilde = codes "~"
mark_text p.Exclamation = codes "!"
mark_text p.Slash = codes "/"
mark_text p.Percent = codes "%"
mark_text p.ShiftLeft = codes "<<"
mark_text p.ShiftRight = codes ">>"
mark_text p.Less = codes "<"
mark_text p.Greater = codes ">"
mark_text p.LessEqual = codes "<="
mark_text p.GreaterEqual = codes ">="
mark_text p.Equal = codes "=="
mark_text p.NotEqual = codes "!="
mark_text p.Caret = codes "^"
mark_text p.Bar = codes "|"
mark_text p.AndAnd = codes "&&"
mark_text p.OrOr = codes "||"
mark_text p.Question = codes "?"
mark_text p.Colon = codes ":"
mark_text p.Semicolon = codes ";"
mark_text p.Ellipsis = codes "..."
mark_text p.Assign = codes "="
mark_text p.StarAssign = codes "*="
mark_text p.SlashAssign = codes "/="
mark_text p.PercentAssign = codes "%="
mark_text p.PlusAssign = codes "+="
mark_text p.MinusAssign = codes "-="
mark_text p.ShiftLeftAssign = codes "<<="
mark_text p.ShiftRightAssign = codes ">>="
mark_text p.AmpersandAssign = codes "&="
mark_text p.CaretAssign = codes "^="
mark_text p.BarAssign = codes "|="
mark_text p.Comma = codes ","

-- all of them, those of three bytes first and those of one byte last
abbrev pub all_marks : List Punct
all_marks =
    p.Ellipsis ∷ p.ShiftLeftAssign ∷ p.ShiftRightAssign ∷ p.Arrow ∷ p.Increment ∷ p.Decrement ∷ p.ShiftLeft
    ∷ p.ShiftRight ∷ p.LessEqual ∷ p.GreaterEqual ∷ p.Equal ∷ p.NotEqual ∷ p.AndAnd ∷ p.OrOr ∷ p.StarAssign
    ∷ p.SlashAssign ∷ p.PercentAssign ∷ p.PlusAssign ∷ p.MinusAssign ∷ p.AmpersandAssign ∷ p.CaretAssign
    ∷ p.BarAssign ∷ p.OpenBracket ∷ p.CloseBracket ∷ p.OpenParen ∷ p.CloseParen ∷ p.OpenBrace ∷ p.CloseBrace
    ∷ p.Dot ∷ p.Ampersand ∷ p.Star ∷ p.Plus ∷ p.Minus ∷ p.Tilde ∷ p.Exclamation ∷ p.Slash ∷ p.Percent ∷ p.Less
    ∷ p.Greater ∷ p.Caret ∷ p.Bar ∷ p.Question ∷ p.Colon ∷ p.Semicolon ∷ p.Assign ∷ p.Comma ∷ []

-- each of them behind its spelling
abbrev pub marks : List (List ℕ × Punct)
marks = map (λ mark. (mark_text mark, mark)) all_marks
