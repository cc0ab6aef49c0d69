-- What the front of a mark is, and where only a mark may begin.
use Rattle.std.proofs.Common.{◌≡◌, inl, inr, ℕ, zero, suc, ◌<◌, ◌≤◌, List, [], ◌∷◌, ◌++◌, Bool, true, false, ◌==◌}
use Rattle.std.proofs.Common.{◌||◌, ◌&&◌, cond, length, take, refl, sym, ◌∙◌, ap, arith}
use Rattle.std.proofs.lemmas.Bool.{and_parts, cases_lt, leb-true, eqb-true, eq-eqb, false≢true, ne_eqb, not-true}
use Rattle.std.proofs.lemmas.Bool.{or_cases}
use Rattle.std.specs.Prelude.{◌≢◌, is_some, not, nat_le, slice_index}
use Rattle.std.specs.List.{list_all}
use Rattle.std.specs.Char.{is_ascii_digit}
use Rattle.c_lexer.specs.declared.punct.Punct.{Punct}
use Rattle.c_lexer.specs.declared.punct.Punct.TheVariants as p
use Rattle.c_lexer.specs.Bytes.{is_letter, is_white, is_quote}
use Rattle.c_lexer.specs.Lookup.{lookup}
use Rattle.c_lexer.specs.Marks.{mark_text, marks}
use Rattle.c_lexer.proofs.Tables.{lookup_true}
use Rattle.c_lexer.proofs.MarkLaws.{mark_full, mark_short}
use Rattle.c_lexer.proofs.Leads.{Hash, Other, lead}

-- the text is a mark
abbrev is_mark : List ℕ → Bool
is_mark text = is_some (lookup marks text)

-- each mark passes the test
mark_is : (mark : Punct) → is_mark (mark_text mark) ≡ true
mark_is mark = ap is_some (mark_full mark)

-- two points are at the front, or all that is at the front is a mark
abbrev has_fronts : List ℕ → Bool
has_fronts text = (slice_index text 0 == 46 && slice_index text 1 == 46)
    || (is_mark (take 2 text) && is_mark (take 3 text))

-- each mark has such fronts
mark_fronts : (mark : Punct) → has_fronts (mark_text mark) ≡ true
mark_fronts mark = lookup_true has_fronts marks (mark_text mark) mark refl (mark_full mark)

-- no mark is longer than three bytes
mark_long : (mark : Punct) → length (mark_text mark) ≤ 3
mark_long mark =
    elim (cases_lt 3 (length (mark_text mark))) [
      | inl long ↦ absurd (false≢true (sym (mark_short (mark_text mark) (omega arith)) ∙ mark_is mark))
      | inr short ↦ short
    ]

-- a byte behind a mark that makes none with it makes no longer one
longer_one : (a byte x y : ℕ) (o : List ℕ) → (a ≡ 46 → ⊥) → is_mark (a ∷ byte ∷ []) ≡ false
    → has_fronts (x ∷ y ∷ o) ≡ true → a ≡ x → byte ≡ y → ⊥
longer_one a byte x y o other no_more fronts first second =
    elim (or_cases (x == 46 && y == 46) (is_mark (x ∷ y ∷ []) && is_mark (take 3 (x ∷ y ∷ o))) fronts) [
      | inl points ↦ other (first ∙ eqb-true x 46 (and_parts (x == 46) (y == 46) points).0)
      | inr mark ↦
          let both = and_parts (is_mark (x ∷ y ∷ [])) (is_mark (take 3 (x ∷ y ∷ o))) mark in
          false≢true (sym no_more
          ∙ (ap (λ n. is_mark (n ∷ byte ∷ [])) first ∙ (ap (λ n. is_mark (x ∷ n ∷ [])) second ∙ both.0)))
    ]

-- the same behind two bytes
longer_two : (a b byte x y z : ℕ) (o : List ℕ) → is_mark (a ∷ b ∷ []) ≡ true → is_mark (a ∷ b ∷ byte ∷ []) ≡ false
    → has_fronts (x ∷ y ∷ z ∷ o) ≡ true → a ∷ b ∷ byte ∷ [] ≡ x ∷ y ∷ z ∷ [] → ⊥
longer_two a b byte x y z o is no_more fronts same =
    elim (or_cases (x == 46 && y == 46) (is_mark (x ∷ y ∷ []) && is_mark (x ∷ y ∷ z ∷ [])) fronts) [
      | inl points ↦
          let both = and_parts (x == 46) (y == 46) points in
          let first : a ≡ 46 = (let e = eqb-true x 46 both.0 in cc) in
          let second : b ≡ 46 = (let e = eqb-true y 46 both.1 in cc) in
          false≢true (ap (λ n. is_mark (46 ∷ n ∷ [])) (sym second) ∙ (ap (λ n. is_mark (n ∷ b ∷ [])) (sym first) ∙ is))
      | inr mark ↦ false≢true (sym no_more
          ∙ (ap is_mark same ∙ (and_parts (is_mark (x ∷ y ∷ [])) (is_mark (x ∷ y ∷ z ∷ [])) mark).1))
    ]

-- a mark that the next byte makes no longer is the longest that stands there
longer : (text more other after : List ℕ) (byte : ℕ) → is_mark text ≡ true → (text ≡ 46 ∷ [] → ⊥)
    → is_mark (text ++ (byte ∷ [])) ≡ false → has_fronts other ≡ true → length other ≤ 3
    → text ++ (byte ∷ more) ≡ other ++ after → length other ≤ length text
longer [] more other after byte is no_point no_more fronts long same = absurd (false≢true is)
longer text more [] after byte is no_point no_more fronts long same = omega arith
longer (a ∷ text) more (x ∷ []) after byte is no_point no_more fronts long same = omega arith
longer (a ∷ []) more (x ∷ y ∷ o) after byte is no_point no_more fronts long same =
    absurd (longer_one a byte x y o (λ e. no_point (ap (λ n. n ∷ []) e)) no_more fronts (cc) (cc))
longer (a ∷ b ∷ text) more (x ∷ y ∷ []) after byte is no_point no_more fronts long same = omega arith
longer (a ∷ b ∷ []) more (x ∷ y ∷ z ∷ o) after byte is no_point no_more fronts long same =
    absurd (longer_two a b byte x y z o is no_more fronts (cc))
longer (a ∷ b ∷ c ∷ text) more (x ∷ y ∷ z ∷ o) after byte is no_point no_more fronts long same = omega arith

-- one byte of a mark is a mark
first_mark : (mark : Punct) → is_mark (take 1 (mark_text mark)) ≡ true
first_mark mark = lookup_true (λ text. is_mark (take 1 text)) marks (mark_text mark) mark refl (mark_full mark)

-- one point is the mark `.`
one_point : (mark : Punct) → mark_text mark ≡ 46 ∷ [] → mark ≡ p.Dot
one_point mark is = (let e = sym (mark_full mark) ∙ ap (lookup marks) is in cc)

-- nothing but a mark begins with the text of one, other than `.` and `/`
pub mark_lead : (mark : Punct) (rest : List ℕ) → mark ≢ p.Dot → mark ≢ p.Slash → lead (mark_text mark ++ rest) ≡ Other
unfolding lead
mark_lead p.Dot rest dot slash = absurd (dot refl)
mark_lead p.Slash rest dot slash = absurd (slash refl)
mark_lead mark rest dot slash = refl

-- the same of the marks themselves
pub no_longer : (mark : Punct) (byte : ℕ) (more : List ℕ) (other : Punct) (after : List ℕ) → mark ≢ p.Dot
    → is_some (lookup marks (mark_text mark ++ (byte ∷ []))) ≡ false
    → mark_text mark ++ (byte ∷ more) ≡ mark_text other ++ after → length (mark_text other) ≤ length (mark_text mark)
no_longer mark byte more other after dot no_more same =
    longer (mark_text mark) more (mark_text other) after byte (mark_is mark) (λ e. dot (one_point mark e)) no_more
    (mark_fronts other) (mark_long other) same

-- behind this first byte a mark ends, or has this byte at this place
abbrev goes_on_with : ℕ → ℕ → ℕ → List ℕ → Bool
goes_on_with first place byte text = not (slice_index text 0 == first) || nat_le (length text) 1
    || slice_index text place == byte

-- a byte inside a front is a byte of the whole
still_there : (text after : List ℕ) (place : ℕ) → 0 < slice_index text place
    → slice_index (text ++ after) place ≡ slice_index text place
still_there [] after place some = absurd (omega (arith, some))
still_there (x ∷ text) after zero some = refl
still_there (x ∷ text) after (suc place) some = still_there text after place some

-- a text that has to go on with a byte that is not there is one byte long
single : (first place byte : ℕ) (rest text after : List ℕ) → goes_on_with first place byte text ≡ true → 0 < byte
    → (slice_index (first ∷ rest) place == byte) ≡ false → first ∷ rest ≡ text ++ after → length text ≤ 1
single first place byte rest [] after goes some not_there same = omega arith
single first place byte rest (x ∷ text) after goes some not_there same =
    elim (or_cases (not (x == first) || nat_le (length (x ∷ text)) 1) (slice_index (x ∷ text) place == byte) goes) [
      | inl a ↦ elim (or_cases (not (x == first)) (nat_le (length (x ∷ text)) 1) a) [
        | inl other ↦ absurd (false≢true (sym (not-true (x == first) other) ∙ eq-eqb x first (cc)))
        | inr short ↦ leb-true (length (x ∷ text)) 1 short
      ]
      | inr there ↦
          let at = eqb-true (slice_index (x ∷ text) place) byte there in
          let still = still_there (x ∷ text) after place (omega (arith, at, some)) in
          absurd (false≢true (sym not_there
          ∙ (ap (λ t. slice_index t place == byte) same ∙ eq-eqb _ byte (still ∙ at))))
    ]

-- the same of a mark, where each mark has to
alone : (first place byte : ℕ) (rest : List ℕ) (other : Punct) (after : List ℕ)
    → list_all (λ row. goes_on_with first place byte row.0) marks ≡ true → 0 < byte
    → (slice_index (first ∷ rest) place == byte) ≡ false → first ∷ rest ≡ mark_text other ++ after
    → length (mark_text other) ≤ 1
alone first place byte rest other after all some not_there same =
    single first place byte rest (mark_text other) after
    (lookup_true (goes_on_with first place byte) marks (mark_text other) other all (mark_full other)) some
    not_there same

-- no longer mark begins with `.` where no other point is next, or no third one
pub point_alone : (rest : List ℕ) (other : Punct) (after : List ℕ) → (slice_index rest 0 == 46) ≡ false
    → 46 ∷ rest ≡ mark_text other ++ after → length (mark_text other) ≤ 1
point_alone rest other after none same = alone 46 1 46 rest other after refl (omega arith) none same

-- the same of two points
pub points_alone : (rest : List ℕ) (other : Punct) (after : List ℕ) → (slice_index rest 1 == 46) ≡ false
    → 46 ∷ rest ≡ mark_text other ++ after → length (mark_text other) ≤ 1
points_alone rest other after none same = alone 46 2 46 rest other after refl (omega arith) none same

-- and none with `/` where no `=` is next
pub slash_alone : (rest : List ℕ) (other : Punct) (after : List ℕ) → (slice_index rest 0 == 61) ≡ false
    → 47 ∷ rest ≡ mark_text other ++ after → length (mark_text other) ≤ 1
slash_alone rest other after none same = alone 47 1 61 rest other after refl (omega arith) none same

-- a point before no digit begins only a mark
pub point_lead : (rest : List ℕ) → is_ascii_digit (slice_index rest 0) ≡ false → lead (46 ∷ rest) ≡ Other
unfolding lead
point_lead rest digit = rw digit refl

-- a slash before no `/` and no `*` begins only a mark
pub slash_lead : (rest : List ℕ) → (slice_index rest 0 == 47) ≡ false → (slice_index rest 0 == 42) ≡ false
    → lead (47 ∷ rest) ≡ Other
unfolding lead
slash_lead rest slash star = rw (slash, star) refl

-- a byte that begins neither a word nor a number, a comment, a text between quotes or white space
pub plain_lead : (byte : ℕ) (rest : List ℕ) → is_quote byte ≡ false → (byte == 46) ≡ false → (byte == 47) ≡ false
    → is_white byte ≡ false → is_letter byte ≡ false → is_ascii_digit byte ≡ false
    → lead (byte ∷ rest) ≡ cond (byte == 35) Hash Other
unfolding lead
plain_lead byte rest quote point slash white letter digit =
    rw (quote, ne_eqb byte 76 (λ e. false≢true (sym letter ∙ ap is_letter e)), letter, digit, point, slash, white) refl

-- a byte that is no mark begins no text whose first byte is one
no_front : (byte : ℕ) (rest text after : List ℕ) → is_mark (byte ∷ []) ≡ false → is_mark (take 1 text) ≡ true
    → byte ∷ rest ≡ text ++ after → ⊥
no_front byte rest [] after none is same = false≢true is
no_front byte rest (x ∷ text) after none is same =
    (let first : byte ≡ x = cc in false≢true (sym none ∙ (ap (λ n. is_mark (n ∷ [])) first ∙ is)))

-- no mark begins with a byte that is none
pub no_mark_at : (byte : ℕ) (rest : List ℕ) (mark : Punct) (after : List ℕ)
    → is_some (lookup marks (byte ∷ [])) ≡ false → byte ∷ rest ≡ mark_text mark ++ after → ⊥
no_mark_at byte rest mark after none same = no_front byte rest (mark_text mark) after none (first_mark mark) same
