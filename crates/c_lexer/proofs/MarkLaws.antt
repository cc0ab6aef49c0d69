-- The table of marks has each mark that is taken, and nothing else.
use Rattle.std.proofs.Common.{◌≡◌, ℕ, ◌≤◌, List, false, length, refl, sym, ◌∙◌, ap, arith}
use Rattle.std.proofs.lemmas.Bool.{leb-true}
use Rattle.std.proofs.lemmas.Option.{none-some}
use Rattle.std.specs.Prelude.{Option, Some, None, is_some, IfSome, IfNone, nat_le}
use Rattle.c_lexer.specs.declared.punct.Punct.{Punct}
use Rattle.c_lexer.specs.declared.punct.Punct.TheVariants as p
use Rattle.c_lexer.specs.Lookup.{lookup}
use Rattle.c_lexer.specs.Marks.{mark_text, all_marks, marks}
use Rattle.c_lexer.proofs.Tables.{lookup_true, spelled_so}

-- the table has each mark
pub mark_full : (mark : Punct) → lookup marks (mark_text mark) ≡ Some mark
mark_full p.OpenBracket = refl
mark_full p.CloseBracket = refl
mark_full p.OpenParen = refl
mark_full p.CloseParen = refl
mark_full p.OpenBrace = refl
mark_full p.CloseBrace = refl
mark_full p.Dot = refl
mark_full p.Arrow = refl
mark_full p.Increment = refl
mark_full p.Decrement = refl
mark_full p.Ampersand = refl
mark_full p.Star = refl
mark_full p.Plus = refl
mark_full p.Minus = refl
mark_full p.Tilde = refl
mark_full p.Exclamation = refl
mark_full p.Slash = refl
mark_full p.Percent = refl
mark_full p.ShiftLeft = refl
mark_full p.ShiftRight = refl
mark_full p.Less = refl
mark_full p.Greater = refl
mark_full p.LessEqual = refl
mark_full p.GreaterEqual = refl
mark_full p.Equal = refl
mark_full p.NotEqual = refl
mark_full p.Caret = refl
mark_full p.Bar = refl
mark_full p.AndAnd = refl
mark_full p.OrOr = refl
mark_full p.Question = refl
mark_full p.Colon = refl
mark_full p.Semicolon = refl
mark_full p.Ellipsis = refl
mark_full p.Assign = refl
mark_full p.StarAssign = refl
mark_full p.SlashAssign = refl
mark_full p.PercentAssign = refl
mark_full p.PlusAssign = refl
mark_full p.MinusAssign = refl
mark_full p.ShiftLeftAssign = refl
mark_full p.ShiftRightAssign = refl
mark_full p.AmpersandAssign = refl
mark_full p.CaretAssign = refl
mark_full p.BarAssign = refl
mark_full p.Comma = refl

-- the clauses of `mark_of`: what is found is the mark that the text spells
pub mark_found : (text : List ℕ) (r : Option Punct) → r ≡ lookup marks text → IfSome r (λ mark. text ≡ mark_text mark)
mark_found text None h = tt
mark_found text (Some mark) h = spelled_so mark_text all_marks text mark (sym h)

-- and where none is found the text spells none
pub mark_none : (text : List ℕ) (r : Option Punct) → r ≡ lookup marks text
    → IfNone r ((mark : Punct) → text ≡ mark_text mark → ⊥)
mark_none text (Some mark) h = tt
mark_none text None h = λ mark is. none-some _ (h ∙ (ap (lookup marks) is ∙ mark_full mark))

-- what the table finds has at most three bytes
mark_short_at : (text : List ℕ) (found : Option Punct) → lookup marks text ≡ found → 4 ≤ length text
    → is_some found ≡ false
mark_short_at text None at long = refl
mark_short_at text (Some mark) at long =
    let short : length text ≤ 3 =
    leb-true (length text) 3 (lookup_true (λ t. nat_le (length t) 3) marks text mark refl at) in
    absurd (omega arith)

-- no mark is longer than three bytes
pub mark_short : (text : List ℕ) → 4 ≤ length text → is_some (lookup marks text) ≡ false
mark_short text long = mark_short_at text (lookup marks text) refl long
