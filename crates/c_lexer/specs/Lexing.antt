-- The relation between the bytes of a unit and its tokens, and the place and the reason of a refusal.
use Rattle.std.specs.Prelude.{◌≡◌, ◌≢◌, ℕ, ◌+◌, ◌<◌, ◌≤◌, ◌==◌, ◌||◌, Bool, true, false, List, [], ◌∷◌, ◌++◌, length}
use Rattle.std.specs.Prelude.{if◌then◌else◌}
use Rattle.std.specs.List.{list_any}
use Rattle.critical_table.specs.declared.pos.Pos.{Pos}
use Rattle.critical_table.specs.declared.refusal.Refusal.{Refusal}
use Rattle.critical_table.specs.declared.refusal.Refusal.TheVariants.{Char}
use Rattle.c_lexer.specs.declared.place.Place.{Place}
use Rattle.c_lexer.specs.declared.token.Token.{Token}
use Rattle.c_lexer.specs.Stream.{Stream}
use Rattle.c_lexer.specs.LexicalParts.{Part, White, Spelled, part_text, IsPart}
use Rattle.c_lexer.specs.Refusals.{Fits, IsReason}

-- lines end at a line feed, and columns count bytes from 1
abbrev pub behind_byte : Pos → ℕ → Pos
behind_byte pos byte =
    if byte == 10 then record { line = pos.line + 1; column = 1 }
    else record { line = pos.line; column = pos.column + 1 }

-- the place behind these bytes, the first of which stands at the given place
abbrev pub behind : Pos → List ℕ → Pos
behind pos [] = pos
behind pos (byte ∷ bytes) = behind (behind_byte pos byte) bytes

-- where a unit begins
abbrev pub start : Place
start = record { at = 0; pos = record { line = 1; column = 1 }; at_line_start = true }

-- whether only white space stands before the next part on its line: a token ends that, and a line feed begins it
abbrev pub is_line_start_behind : Bool → Part → Bool
is_line_start_behind at_line_start (White text) = at_line_start || list_any (λ byte. byte == 10) text
is_line_start_behind at_line_start (Spelled text token) = false

-- the place behind a part that begins here
abbrev pub place_behind : Place → Part → Place
place_behind place part = record {
  at = place.at + length (part_text part);
  pos = behind place.pos (part_text part);
  at_line_start = is_line_start_behind place.at_line_start part;
}

-- the part stands at the front: it is the longest that can, and no refusal but Char fits
pub record Stands (at_line_start : Bool) (bytes : List ℕ) (part : Part) (after : List ℕ) : Type 0 where
  pub parts : bytes ≡ part_text part ++ after
  pub is : IsPart at_line_start part after
  pub longest : (other : Part) (rest : List ℕ) → bytes ≡ part_text other ++ rest → IsPart at_line_start other rest
      → length (part_text other) ≤ length (part_text part)
  pub no_refusal : (why : Refusal) → why ≢ Char → Fits at_line_start bytes why → ⊥

-- the tokens of the parts in order, each with its span and place
abbrev pub tokens_of : Place → List Part → List Token
tokens_of place [] = []
tokens_of place (White text ∷ parts) = tokens_of (place_behind place (White text)) parts
tokens_of place (Spelled text token ∷ parts) =
    record { body = token; from = place.at; to = place.at + length text; pos = place.pos }
    ∷ tokens_of (place_behind place (Spelled text token)) parts

-- the place behind the parts
abbrev pub place_after : Place → List Part → Place
place_after place [] = place
place_after place (part ∷ parts) = place_after (place_behind place part) parts

-- the bytes are these parts, each standing at its place, and then what is left
abbrev pub Splits : Bool → List ℕ → List Part → List ℕ → Type 0
Splits at_line_start bytes [] after = bytes ≡ after
Splits at_line_start bytes (part ∷ parts) after =
    (rest : List ℕ) × Stands at_line_start bytes part rest
    × Splits (is_line_start_behind at_line_start part) rest parts after

-- the unit's bytes are these tokens
pub record AreTokens (bytes : List ℕ) (stream : Stream) : Type 0 where
  pub parts : List Part
  pub split : Splits true bytes parts []
  pub tokens : stream.tokens ≡ tokens_of start parts
  pub end : stream.end ≡ behind start.pos bytes

-- the first place where no part can stand, behind the longest parts from the front on, and the reason there
pub record IsRefused (bytes : List ℕ) (why : Refusal) (pos : Pos) : Type 0 where
  pub parts : List Part
  pub rest : List ℕ
  pub split : Splits true bytes parts rest
  pub more : 0 < length rest
  pub none : (part : Part) (after : List ℕ) → Stands (place_after start parts).at_line_start rest part after → ⊥
  pub is_reason : IsReason (place_after start parts).at_line_start rest why
  pub place : pos ≡ (place_after start parts).pos

-- how many bytes a unit may have
abbrev pub greatest_size : ℕ
greatest_size = 4194304
