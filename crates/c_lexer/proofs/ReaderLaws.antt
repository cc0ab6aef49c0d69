-- What a reader knows after each of its steps.
use Rattle.std.proofs.Common.{◌≡◌, ℕ, ◌<◌, List, [], ◌∷◌, ◌++◌, true, length, refl, sym, ◌∙◌, ap, subst, arith}
use Rattle.std.proofs.Common.{append_assoc, append-nil, length-append}
use Rattle.std.specs.Prelude.{Option, Some, None}
use Rattle.critical_table.specs.declared.refusal.Refusal.{Refusal}
use Rattle.critical_table.specs.declared.pos.Pos.{Pos}
use Rattle.c_lexer.specs.declared.ending.Ending.{Ending}
use Rattle.c_lexer.specs.declared.ending.Ending.TheVariants as ending
use Rattle.c_lexer.specs.declared.mode.Mode.{Mode}
use Rattle.c_lexer.specs.declared.mode.Mode.TheVariants as mode
use Rattle.c_lexer.specs.declared.place.Place.{Place}
use Rattle.c_lexer.specs.declared.punct.Punct.TheVariants as p
use Rattle.c_lexer.specs.declared.token.Body.{Body}
use Rattle.c_lexer.specs.declared.token.Body.TheVariants as body
use Rattle.c_lexer.specs.Lexing.{start, place_behind, tokens_of, Stands, Splits, AreTokens, IsRefused}
use Rattle.c_lexer.specs.Open.{IsOpen}
use Rattle.c_lexer.specs.LexicalParts.{White, Spelled}
use Rattle.c_lexer.specs.ReadPart.{first, next}
use Rattle.c_lexer.specs.ReaderState.{ReaderState, EndsAs, Closes, after_byte, after_white, after_token}
use Rattle.c_lexer.specs.ReaderState.{after_refusal, after_ending, IsParted, after_first_point}
use Rattle.c_lexer.specs.ReadSoFar.{Ahead, Anything, Byte, End, Follows, IsSplitSoFar, IsOpenPart, IsRead, IsReadOr}
use Rattle.c_lexer.proofs.EndLaws.{ends, point_stands}
use Rattle.c_lexer.proofs.TokenEnds.{Stops, IsNone}
use Rattle.c_lexer.proofs.OpenLaws.{opens, goes_on, some_open}
use Rattle.c_lexer.proofs.SplitSteps.{token_at, splits_more, place_more, white_more, token_more, pos_after}

-- what is read and not refused is split so far
as_split : (ahead : Ahead) (r : ReaderState) (bytes : List ℕ) → r.refused ≡ None → IsRead ahead r bytes
    → IsSplitSoFar ahead r bytes
as_split ahead r bytes none read = subst (λ o. IsReadOr o ahead r bytes) none read

-- and the other way round
as_read : (ahead : Ahead) (r : ReaderState) (bytes : List ℕ) → r.refused ≡ None → IsSplitSoFar ahead r bytes
    → IsRead ahead r bytes
as_read ahead r bytes none stood = subst (λ o. IsReadOr o ahead r bytes) (sym none) stood

-- what is read whatever comes is read where something comes
pub narrows : (ahead : Ahead) (r : ReaderState) (found : Option (Refusal × Pos)) (bytes : List ℕ)
    → IsReadOr found Anything r bytes → IsReadOr found ahead r bytes
narrows ahead r None bytes s = record {
  parts = s.parts;
  split = λ rest follows. s.split rest tt;
  tokens =
      s.tokens;
  place = s.place;
  part = s.part;
}
narrows ahead r (Some found) bytes refused = λ rest follows. refused rest tt

-- white space is one part more
white_ends : (ahead : Ahead) (r : ReaderState) (bytes : List ℕ) → IsSplitSoFar ahead r bytes
    → ((rest : List ℕ) → Follows ahead rest → Stands r.place.at_line_start (r.text ++ rest) (White r.text) rest)
    → IsSplitSoFar ahead (after_white r) bytes
white_ends ahead r bytes s stands = record {
  parts = s.parts ++ (White r.text ∷ []);
  split = λ rest follows. splits_more start s.parts (White r.text) (bytes ++ rest) (r.text ++ rest) rest
      (s.split rest follows)
      (subst (λ (place : Place). Stands place.at_line_start (r.text ++ rest) (White r.text) rest) s.place
      (stands rest follows));
  tokens = s.tokens ∙ sym (white_more start s.parts r.text);
  place = ap (λ place. place_behind place (White r.text)) s.place ∙ sym (place_more start s.parts (White r.text));
  part = refl;
}

-- a token is added, and this comes behind it
token_ends : (ahead : Ahead) (r then : ReaderState) (bytes text : List ℕ) (token : Body)
    → IsSplitSoFar ahead r bytes → then.tokens ≡ r.tokens ++ (token_at r.place text token ∷ [])
    → then.place ≡ place_behind r.place (Spelled text token)
    → IsOpenPart then.place.at_line_start then.mode then.text
    → ((rest : List ℕ) → Follows ahead rest
    → Stands r.place.at_line_start (r.text ++ rest) (Spelled text token) (then.text ++ rest)) → IsSplitSoFar ahead
    then bytes
token_ends ahead r then bytes text token s tokens place part stands = record {
  parts = s.parts ++ (Spelled text token ∷ []);
  split = λ rest follows. splits_more start s.parts (Spelled text token) (bytes ++ rest) (r.text ++ rest)
      (then.text ++ rest) (s.split rest follows)
      (subst (λ (place : Place). Stands place.at_line_start (r.text ++ rest) (Spelled text token)
      (then.text ++ rest)) s.place (stands rest follows));
  tokens = tokens ∙ (ap (λ ts. ts ++ (token_at r.place text token ∷ [])) s.tokens
      ∙ (ap (λ place. tokens_of start s.parts ++ (token_at place text token ∷ [])) s.place
      ∙ sym (token_more start s.parts text token)));
  place = place
      ∙ (ap (λ place. place_behind place (Spelled text token)) s.place
      ∙ sym (place_more start s.parts (Spelled text token)));
  part = part;
}

-- where no part stands the bytes are refused
refusal_ends : (ahead : Ahead) (r : ReaderState) (bytes : List ℕ) (why : Refusal) → IsSplitSoFar ahead r bytes
    → 0 < length r.text → ((rest : List ℕ) → Follows ahead rest → IsNone r.place.at_line_start (r.text ++ rest) why)
    → IsRead ahead (after_refusal r why) bytes
refusal_ends ahead r bytes why s some none = λ rest follows. let n =
    subst (λ (place : Place). IsNone place.at_line_start (r.text ++ rest) why) s.place (none rest follows) in record {
      parts = s.parts;
      rest = r.text ++ rest;
      split = s.split rest follows;
      more = omega (arith, some, length-append r.text rest);
      none = n.none;
      is_reason = n.is_reason;
      place = ap (λ (place : Place). place.pos) s.place;
    }

-- the open part ends as what it is
closes_by : (ahead : Ahead) (here : Mode) (r : ReaderState) (bytes : List ℕ) (end : Ending) → r.refused ≡ None
    → (here ≡ mode.Dots → ⊥) → IsOpen r.place.at_line_start here r.text
    → ((rest : List ℕ) → Follows ahead rest → Stops here r.text rest)
    → IsSplitSoFar ahead r bytes → EndsAs here r.text end → IsRead ahead (after_ending r end) bytes
closes_by ahead here r bytes ending.White none other is stops s what =
    as_read ahead (after_white r) bytes none
    (white_ends ahead r bytes s (λ rest follows. ends r.place.at_line_start here r.text rest ending.White other
    is (stops rest follows) what))
closes_by ahead here r bytes (ending.Token token) none other is stops s what =
    as_read ahead (after_token r token) bytes none
    (token_ends ahead r (after_token r token) bytes r.text token s refl refl refl
    (λ rest follows. ends r.place.at_line_start here r.text rest (ending.Token token) other is
    (stops rest follows) what))
closes_by ahead here r bytes (ending.Refused why) none other is stops s what =
    refusal_ends ahead r bytes why s (some_open r.place.at_line_start here r.text is)
    (λ rest follows. ends r.place.at_line_start here r.text rest (ending.Refused why) other is
    (stops rest follows) what)

-- the part that is open ends
pub closes : (ahead : Ahead) (here : Mode) (before after : ReaderState) (bytes : List ℕ) → before.refused ≡ None
    → before.mode ≡ Some here → (here ≡ mode.Dots → ⊥)
    → ((rest : List ℕ) → Follows ahead rest → Stops here before.text rest)
    → IsRead ahead before bytes → Closes (Some here) before after → IsRead ahead after bytes
closes ahead here before after bytes none at other stops read c =
    let s = as_split ahead before bytes none read in
    subst (λ r. IsRead ahead r bytes) (sym c.2)
    (closes_by ahead here before bytes c.0 none other
    (subst (λ o. IsOpenPart before.place.at_line_start o before.text) at s.part) stops s c.1)

-- one byte more of an open part
longer : (r : ReaderState) (then : Mode) (byte : ℕ) (bytes : List ℕ) → r.refused ≡ None
    → IsOpen r.place.at_line_start then (r.text ++ (byte ∷ [])) → IsSplitSoFar (Byte byte) r bytes
    → IsRead Anything (after_byte r then byte) (bytes ++ (byte ∷ []))
longer r then byte bytes none is s = as_read Anything (after_byte r then byte) (bytes ++ (byte ∷ [])) none (record {
  parts = s.parts;
  split = λ rest follows.
      subst (λ b. Splits true b s.parts ((r.text ++ (byte ∷ [])) ++ rest)) (sym (append_assoc bytes (byte ∷ []) rest))
      (subst (Splits true (bytes ++ (byte ∷ rest)) s.parts) (sym (append_assoc r.text (byte ∷ []) rest))
      (s.split (byte ∷ rest) (rest, refl)));
  tokens = s.tokens;
  place = s.place;
  part = is;
})

-- the byte goes on with the open part
pub part_goes_on : (r : ReaderState) (here then : Mode) (byte : ℕ) (bytes : List ℕ) → r.refused ≡ None
    → r.mode ≡ Some here → next here r.text byte ≡ Some then → IsRead (Byte byte) r bytes
    → IsRead Anything (after_byte r then byte) (bytes ++ (byte ∷ []))
part_goes_on r here then byte bytes none at leads read =
    let s = as_split (Byte byte) r bytes none read in
    longer r then byte bytes none (goes_on r.place.at_line_start here
    then r.text byte (subst (λ o. IsOpenPart r.place.at_line_start o r.text) at s.part) leads) s

-- the byte begins a part
pub part_begins : (r : ReaderState) (byte : ℕ) (bytes : List ℕ) → r.refused ≡ None → r.mode ≡ None
    → IsRead (Byte byte) r bytes
    → IsRead Anything (after_byte r (first r.place.at_line_start byte) byte) (bytes ++ (byte ∷ []))
part_begins r byte bytes none at read =
    let s = as_split (Byte byte) r bytes none read in
    let nothing : r.text ≡ [] = subst (λ o. IsOpenPart r.place.at_line_start o r.text) at s.part in
    longer r (first r.place.at_line_start byte) byte bytes none
    (subst (λ t. IsOpen r.place.at_line_start (first r.place.at_line_start byte) (t ++ (byte ∷ [])))
    (sym nothing) (opens r.place.at_line_start byte)) s

-- what is refused stays so
pub stays : (r : ReaderState) (found : Refusal × Pos) (byte : ℕ) (bytes : List ℕ) → r.refused ≡ Some found
    → IsRead (Byte byte) r bytes → IsRead Anything r (bytes ++ (byte ∷ []))
stays r found byte bytes some read =
    let refused = subst (λ o. IsReadOr o (Byte byte) r bytes) some read in
    let more : IsReadOr (Some found) Anything r (bytes ++ (byte ∷ [])) =
    λ rest follows. subst (λ b. IsRefused b found.0 found.1) (sym (append_assoc bytes (byte ∷ []) rest))
    (refused (byte ∷ rest) (rest, refl)) in
    subst (λ o. IsReadOr o Anything r (bytes ++ (byte ∷ []))) (sym some) more

-- the first of two points is a part, and the last is open
pub gives_back : (ahead : Ahead) (r after : ReaderState) (bytes : List ℕ) → r.refused ≡ None
    → r.mode ≡ Some mode.Dots → ((rest : List ℕ) → Follows ahead rest → Stops mode.Dots (46 ∷ 46 ∷ []) rest)
    → IsRead ahead r bytes → IsParted true r after
    → IsRead ahead after bytes × (after.refused ≡ None) × (after.mode ≡ Some mode.Dot)
gives_back ahead r after bytes none at stops read parted =
    let s = as_split ahead r bytes none read in
    let points : r.text ≡ 46 ∷ 46 ∷ [] = subst (λ o. IsOpenPart r.place.at_line_start o r.text) at s.part in
    let is : after ≡ after_first_point r (46 ∷ []) 46 = parted (46 ∷ []) 46 points in
    let then = after_first_point r (46 ∷ []) 46 in
    let whole = as_read ahead
    then bytes none (token_ends ahead r then bytes (46 ∷ []) (body.Mark p.Dot) s refl refl refl
    (λ rest follows.
    subst (λ t. Stands r.place.at_line_start (t ++ rest) (Spelled (46 ∷ []) (body.Mark p.Dot)) (46 ∷ rest))
    (sym points) (point_stands r.place.at_line_start rest (stops rest follows)))) in (
      subst (λ x. IsRead ahead x bytes) (sym is) whole,
      ap (λ (x : ReaderState). x.refused) is
          ∙ none,
      ap (λ (x : ReaderState). x.mode) is,
    )

-- nothing is open at the end
pub tokens_at_end : (r : ReaderState) (bytes : List ℕ) → r.refused ≡ None → r.mode ≡ None → IsRead End r bytes
    → AreTokens bytes (record { tokens = r.tokens; end = r.place.pos })
tokens_at_end r bytes none at read =
    let s = as_split End r bytes none read in
    let nothing : r.text ≡ [] = subst (λ o. IsOpenPart r.place.at_line_start o r.text) at s.part in
    let split : Splits true bytes s.parts [] =
    subst (λ b. Splits true b s.parts []) (append-nil bytes)
    (subst (λ t. Splits true (bytes ++ []) s.parts (t ++ [])) nothing (s.split [] refl)) in
    record {
      parts = s.parts;
      split = split;
      tokens = s.tokens;
      end = ap (λ (place : Place). place.pos) s.place
          ∙ sym (pos_after start s.parts bytes [] split);
    }

-- what is refused when nothing comes is refused
pub refused_end : (r : ReaderState) (found : Refusal × Pos) (bytes : List ℕ) → r.refused ≡ Some found
    → IsRead End r bytes → IsRefused bytes found.0 found.1
refused_end r found bytes some read =
    let refused = subst (λ o. IsReadOr o End r bytes) some read in
    subst (λ b. IsRefused b found.0 found.1) (append-nil bytes) (refused [] refl)
