-- What a reader knows of the bytes that it was fed: the parts that ended, and the one that is open.
use Rattle.std.specs.Prelude.{◌≡◌, ℕ, Bool, true, List, [], ◌∷◌, ◌++◌, Option, Some, None}
use Rattle.critical_table.specs.declared.pos.Pos.{Pos}
use Rattle.critical_table.specs.declared.refusal.Refusal.{Refusal}
use Rattle.c_lexer.specs.declared.mode.Mode.{Mode}
use Rattle.c_lexer.specs.Lexing.{start, tokens_of, place_after, Splits, IsRefused}
use Rattle.c_lexer.specs.LexicalParts.{Part}
use Rattle.c_lexer.specs.Open.{IsOpen}
use Rattle.c_lexer.specs.ReaderState.{ReaderState}

-- what comes behind the bytes so far: anything, this byte and anything, or nothing
pub data Ahead : Type 0 where
  Anything : Ahead
  Byte : ℕ → Ahead
  End : Ahead

-- the bytes that come are such
abbrev pub Follows : Ahead → List ℕ → Type 0
Follows Anything rest = Unit {0}
Follows (Byte byte) rest = (after : List ℕ) × (rest ≡ byte ∷ after)
Follows End rest = rest ≡ []

-- nothing is open, or a part is
abbrev pub IsOpenPart : Bool → Option Mode → List ℕ → Type 0
IsOpenPart at_line_start None text = text ≡ []
IsOpenPart at_line_start (Some here) text = IsOpen at_line_start here text

-- the bytes are parts that stand, whatever of this comes behind them, and the open part
pub record IsSplitSoFar (ahead : Ahead) (r : ReaderState) (bytes : List ℕ) : Type 0 where
  pub parts : List Part
  pub split : (rest : List ℕ) → Follows ahead rest → Splits true (bytes ++ rest) parts (r.text ++ rest)
  pub tokens : r.tokens ≡ tokens_of start parts
  pub place : r.place ≡ place_after start parts
  pub part : IsOpenPart r.place.at_line_start r.mode r.text

-- split so far, or refused
abbrev pub IsReadOr : Option (Refusal × Pos) → Ahead → ReaderState → List ℕ → Type 0
IsReadOr None ahead r bytes = IsSplitSoFar ahead r bytes
IsReadOr (Some found) ahead r bytes = (rest : List ℕ) → Follows ahead rest → IsRefused (bytes ++ rest) found.0 found.1

-- the bytes were read so far, or are refused, whatever of this comes behind them
abbrev pub IsRead : Ahead → ReaderState → List ℕ → Type 0
IsRead ahead r bytes = IsReadOr r.refused ahead r bytes

-- what comes behind the bytes, where this is the next one
abbrev pub ahead_of : Option ℕ → Ahead
ahead_of None = End
ahead_of (Some byte) = Byte byte
