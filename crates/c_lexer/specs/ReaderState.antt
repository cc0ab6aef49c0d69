-- What a reader holds: the tokens of the parts that ended, and the part that is open; and its steps.
use Rattle.std.specs.Prelude.{◌≡◌, ◌+◌, ◌≤◌, ◌&&◌, ℕ, Bool, true, false, List, [], ◌∷◌, ◌++◌, length}
use Rattle.std.specs.Prelude.{Option, Some, None}
use Rattle.critical_table.specs.declared.pos.Pos.{Pos}
use Rattle.critical_table.specs.declared.refusal.Refusal.{Refusal}
use Rattle.critical_table.specs.declared.refusal.Refusal.TheVariants.{Char, Unclosed, Literal, Directive, Profile}
use Rattle.c_lexer.specs.declared.ending.Ending.{Ending}
use Rattle.c_lexer.specs.declared.ending.Ending.TheVariants as ending
use Rattle.c_lexer.specs.declared.mode.Mode.{Mode}
use Rattle.c_lexer.specs.declared.mode.Mode.TheVariants as mode
use Rattle.c_lexer.specs.declared.place.Place.{Place}
use Rattle.c_lexer.specs.declared.punct.Punct.TheVariants as p
use Rattle.c_lexer.specs.declared.reader.Reader.{Reader}
use Rattle.c_lexer.specs.declared.token.Token.{Token}
use Rattle.c_lexer.specs.declared.token.Body.{Body}
use Rattle.c_lexer.specs.declared.token.Body.TheVariants as body
use Rattle.c_lexer.specs.Directives.{IsDirective}
use Rattle.c_lexer.specs.Lexing.{start, place_behind}
use Rattle.c_lexer.specs.ReadPart.{first, next, is_dots, is_other}
use Rattle.c_lexer.specs.Placed.{IsPlaced}
use Rattle.c_lexer.specs.LexicalParts.{White, Spelled, IsToken}

-- what a reader holds, as contracts see it: tokens, the text of the open part and what it is, the place where that
-- part begins, and a refusal
pub record ReaderState : Type 0 where
  pub tokens : List Token
  pub text : List ℕ
  pub mode : Option Mode
  pub place : Place
  pub refused : Option (Refusal × Pos)

-- what this reader holds
abbrev pub state_of : Reader → ReaderState
state_of r =
    record { tokens = r.tokens.items; text = r.text.items; mode = r.mode; place = r.place; refused = r.refused }

-- nothing was fed
abbrev pub start_state : ReaderState
start_state = record { tokens = []; text = []; mode = None; place = start; refused = None }

-- one more byte of the open part
abbrev pub after_byte : ReaderState → Mode → ℕ → ReaderState
after_byte r here byte = record r { text = r.text ++ (byte ∷ []); mode = Some here }

-- the open part is white space
abbrev pub after_white : ReaderState → ReaderState
after_white r = record r { text = []; mode = None; place = place_behind r.place (White r.text) }

-- the open part is this token
abbrev pub after_token : ReaderState → Body → ReaderState
after_token r body = record r {
  tokens =
      r.tokens
      ++ (record { body = body; from = r.place.at; to = r.place.at + length r.text; pos = r.place.pos } ∷ []);
  text = [];
  mode = None;
  place = place_behind r.place (Spelled r.text body);
}

-- no part stands at the place of the open part
abbrev pub after_refusal : ReaderState → Refusal → ReaderState
after_refusal r why = record r { refused = Some (why, r.place.pos) }

-- the open part is this
abbrev pub after_ending : ReaderState → Ending → ReaderState
after_ending r ending.White = after_white r
after_ending r (ending.Token body) = after_token r body
after_ending r (ending.Refused why) = after_refusal r why

-- a token is what the text spells, or it spells none and is refused
abbrev pub EndsTokenAs : Refusal → List ℕ → Ending → Type 0
EndsTokenAs why text ending.White = ⊥
EndsTokenAs why text (ending.Token body) = IsToken text body
EndsTokenAs why text (ending.Refused reason) = (reason ≡ why) × ((token : Body) → IsToken text token → ⊥)

-- a line from `#` on is white space, or it is no directive that is taken and is refused
abbrev pub EndsDirectiveAs : List ℕ → Ending → Type 0
EndsDirectiveAs text ending.White = IsDirective text
EndsDirectiveAs text (ending.Token body) = ⊥
EndsDirectiveAs text (ending.Refused why) = (why ≡ Directive) × (IsDirective text → ⊥)

-- what the open part is, if it ends behind this text
abbrev pub EndsAs : Mode → List ℕ → Ending → Type 0
EndsAs mode.Word text end = EndsTokenAs Profile text end
EndsAs mode.Wide text end = EndsTokenAs Char text end
EndsAs (mode.Number sign) text end = EndsTokenAs Literal text end
EndsAs mode.Dot text end = EndsTokenAs Char text end
EndsAs mode.Dots text end = EndsTokenAs Char text end
EndsAs mode.Slash text end = EndsTokenAs Char text end
EndsAs mode.Mark text end = EndsTokenAs Char text end
EndsAs (mode.Quoted quote hidden) text end = end ≡ ending.Refused Unclosed
EndsAs mode.Quotation text end = EndsTokenAs Literal text end
EndsAs mode.LineComment text end = end ≡ ending.White
EndsAs (mode.BlockComment star) text end = end ≡ ending.Refused Unclosed
EndsAs mode.Space text end = end ≡ ending.White
EndsAs mode.Directive text end = EndsDirectiveAs text end
EndsAs mode.Alien text end = end ≡ ending.Refused Char

-- the open part was ended, if one is open
abbrev pub Closes : Option Mode → ReaderState → ReaderState → Type 0
Closes None before after = after ≡ before
Closes (Some here) before after = (end : Ending) × EndsAs here before.text end × (after ≡ after_ending before end)

-- how far a reader has come, with the open part
abbrev pub reach : ReaderState → ℕ
reach r = r.place.at + length r.text

-- where the byte leads, if a part is open and it goes on with it
abbrev pub next_part : Option Mode → List ℕ → ℕ → Option Mode
next_part None text byte = None
next_part (Some here) text byte = next here text byte

-- the byte begins a part, unless the bytes are refused
abbrev pub BeginsOr : Option (Refusal × Pos) → ReaderState → ℕ → ReaderState → Type 0
BeginsOr None before byte after = after ≡ after_byte before (first before.place.at_line_start byte) byte
BeginsOr (Some found) before byte after = after ≡ before

-- two points that no third follows
abbrev pub is_pair : Option Mode → Option ℕ → Bool
is_pair None next = false
is_pair (Some here) next = is_dots here && is_other next

-- the last of two points is given back, and the first is a token
abbrev pub after_first_point : ReaderState → List ℕ → ℕ → ReaderState
after_first_point r text point = after_byte (after_token (record r { text = text }) (body.Mark p.Dot)) mode.Dot point

-- two points were parted, or nothing happened
abbrev pub IsParted : Bool → ReaderState → ReaderState → Type 0
IsParted false before after = after ≡ before
IsParted true before after =
    (text : List ℕ) (point : ℕ) → before.text ≡ text ++ (point ∷ []) → after ≡ after_first_point before text point

-- no further on than its bytes, of which there are so many
pub record IsWithin (r : ReaderState) (size : ℕ) : Type 0 where
  pub placed : IsPlaced r.place
  pub reach : reach r ≤ size
