-- One part more at the end of a list of parts.
use Rattle.std.proofs.Common.{◌≡◌, ℕ, ◌+◌, List, [], ◌∷◌, ◌++◌, length, refl, sym, ◌∙◌, ap, subst}
use Rattle.critical_table.specs.declared.pos.Pos.{Pos}
use Rattle.c_lexer.specs.declared.place.Place.{Place}
use Rattle.c_lexer.specs.declared.token.Token.{Token}
use Rattle.c_lexer.specs.declared.token.Body.{Body}
use Rattle.c_lexer.specs.Lexing.{behind, behind_byte, place_behind, tokens_of, place_after, Stands, Splits}
use Rattle.c_lexer.specs.LexicalParts.{Part, White, Spelled, part_text}

-- a part that stands behind the parts is one of them
pub splits_more : (place : Place) (parts : List Part) (part : Part) (bytes rest after : List ℕ)
    → Splits place.at_line_start bytes parts rest → Stands (place_after place parts).at_line_start rest part after
    → Splits place.at_line_start bytes (parts ++ (part ∷ [])) after
splits_more place [] part bytes rest after split stands =
    (after, subst (λ b. Stands place.at_line_start b part after) (sym split) stands, refl)
splits_more place (x ∷ parts) part bytes rest after split stands =
    (split.0, split.1, splits_more (place_behind place x) parts part split.0 rest after split.2 stands)

-- the place behind it
pub place_more : (place : Place) (parts : List Part) (part : Part) → place_after place (parts ++ (part ∷ []))
    ≡ place_behind (place_after place parts) part
place_more place [] part = refl
place_more place (x ∷ parts) part = place_more (place_behind place x) parts part

-- the token that the text spells here
abbrev pub token_at : Place → List ℕ → Body → Token
token_at place text body = record { body = body; from = place.at; to = place.at + length text; pos = place.pos }

-- white space adds no token
pub white_more : (place : Place) (parts : List Part) (text : List ℕ) → tokens_of place (parts ++ (White text ∷ []))
    ≡ tokens_of place parts
white_more place [] text = refl
white_more place (White t ∷ parts) text = white_more (place_behind place (White t)) parts text
white_more place (Spelled t b ∷ parts) text =
    ap (λ ts. token_at place t b ∷ ts) (white_more (place_behind place (Spelled t b)) parts text)

-- a token adds itself
pub token_more : (place : Place) (parts : List Part) (text : List ℕ) (body : Body)
    → tokens_of place (parts ++ (Spelled text body ∷ [])) ≡ tokens_of place parts
    ++ (token_at (place_after place parts) text body ∷ [])
token_more place [] text body = refl
token_more place (White t ∷ parts) text body = token_more (place_behind place (White t)) parts text body
token_more place (Spelled t b ∷ parts) text body =
    ap (λ ts. token_at place t b ∷ ts) (token_more (place_behind place (Spelled t b)) parts text body)

-- the place behind bytes and others
behind_append : (pos : Pos) (first rest : List ℕ) → behind pos (first ++ rest) ≡ behind (behind pos first) rest
behind_append pos [] rest = refl
behind_append pos (byte ∷ first) rest = behind_append (behind_byte pos byte) first rest

-- the place behind the parts is the place behind their bytes
pub pos_after : (place : Place) (parts : List Part) (bytes rest : List ℕ)
    → Splits place.at_line_start bytes parts rest → behind place.pos bytes ≡ behind (place_after place parts).pos rest
pos_after place [] bytes rest split = ap (behind place.pos) split
pos_after place (part ∷ parts) bytes rest split =
    ap (behind place.pos) split.1.parts
    ∙ (behind_append place.pos (part_text part) split.0
    ∙ pos_after (place_behind place part) parts split.0 rest split.2)
