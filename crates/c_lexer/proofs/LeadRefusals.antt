-- Which refusals may fit at a place, by the two bytes at the front.
use Rattle.std.proofs.Common.{◌≡◌, inl, inr, ℕ, List, ◌∷◌, ◌++◌, Bool, true, false, ◌==◌, ◌||◌, ◌&&◌, refl, sym, ◌∙◌}
use Rattle.std.proofs.Common.{ap, [], take, zero, suc}
use Rattle.std.proofs.lemmas.Bool.{and_parts, and_left, or_parts, false≢true, not-true}
use Rattle.std.specs.Prelude.{slice_index, not, ◌≢◌}
use Rattle.std.specs.List.{prefix_len}
use Rattle.critical_table.specs.declared.refusal.Refusal.TheVariants.{Literal, Char, Unclosed, Directive, Profile}
use Rattle.c_lexer.specs.Bytes.{is_letter, is_word_byte}
use Rattle.c_lexer.specs.Refusals.{NoCharacter, NoLiteral, NeverEnds, Fits, IsReason}
use Rattle.critical_table.specs.declared.refusal.Refusal.{Refusal}
use Rattle.c_lexer.specs.Words.{outside_words, is_outside}
use Rattle.c_lexer.proofs.Tables.{listed_true}
use Rattle.c_lexer.proofs.Leads.{Lead, Quoted, Letter, Digit, Comment, Hash, lead, IsQuote, quoted_lead, letter_lead}
use Rattle.c_lexer.proofs.Leads.{number_lead, comment_lead, hash_lead}

-- a letter that is no L
abbrev is_other_letter : ℕ → Bool
is_other_letter byte = is_letter byte && not (byte == 76)

-- a run that begins with such a letter
taken_lead : (n : ℕ) (bytes : List ℕ) → is_other_letter (slice_index (take n bytes) 0) ≡ true → lead bytes ≡ Letter
taken_lead zero bytes other = absurd (false≢true other)
taken_lead (suc n) [] other = absurd (false≢true other)
taken_lead (suc n) (a ∷ bytes) other =
    let parts = and_parts (is_letter a) (not (a == 76)) other in
    letter_lead (a ∷ bytes) parts.0 (and_left _ _ (not-true (a == 76) parts.1))

-- a word that is not taken begins with a letter that is no L
outside_first : (text : List ℕ) → is_outside text ≡ true → is_other_letter (slice_index text 0) ≡ true
unfolding is_outside
outside_first text outside = listed_true (λ t. is_other_letter (slice_index t 0)) outside_words text refl outside

-- what ends as a character constant and is none begins with a quote
pub character_lead : (bytes : List ℕ) → NoCharacter bytes → lead bytes ≡ Quoted
character_lead bytes fault = quoted_lead fault.wide 39 bytes (fault.inner ++ (39 ∷ fault.after)) (inr refl) fault.parts

-- and so does what ends as a literal and is none
pub literal_lead : (bytes : List ℕ) → NoLiteral bytes → lead bytes ≡ Quoted
literal_lead bytes fault = quoted_lead fault.wide 34 bytes (fault.inner ++ (34 ∷ fault.after)) (inl refl) fault.parts

-- and what no quote ends
pub unended_lead : (quote : ℕ) (bytes : List ℕ) → IsQuote quote → NeverEnds quote bytes → lead bytes ≡ Quoted
unended_lead quote bytes is fault = quoted_lead fault.wide quote bytes fault.rest is fault.parts

-- where each refusal can fit
abbrev pub may_fit : Refusal → Lead → Bool
may_fit Profile Letter = true
may_fit Literal Quoted = true
may_fit Literal Digit = true
may_fit Unclosed Quoted = true
may_fit Unclosed Comment = true
may_fit Directive Hash = true
may_fit Char at = true
may_fit why at = false

-- each refusal fits only where its lead is
fits_there : (at_line_start : Bool) (bytes : List ℕ) (why : Refusal) → Fits at_line_start bytes why
    → may_fit why (lead bytes) ≡ true
fits_there at_line_start bytes Profile fits =
    ap (may_fit Profile)
    (taken_lead (prefix_len is_word_byte bytes) bytes (outside_first (take (prefix_len is_word_byte bytes) bytes) fits))
fits_there at_line_start bytes Literal (inl number) = ap (may_fit Literal) (number_lead bytes number.0)
fits_there at_line_start bytes Literal (inr (inl character)) = ap (may_fit Literal) (character_lead bytes character)
fits_there at_line_start bytes Literal (inr (inr literal)) = ap (may_fit Literal) (literal_lead bytes literal)
fits_there at_line_start bytes Unclosed (inl comment) = ap (may_fit Unclosed) (comment_lead bytes comment.parts refl)
fits_there at_line_start bytes Unclosed (inr (inl single)) =
    ap (may_fit Unclosed) (unended_lead 39 bytes (inr refl) single)
fits_there at_line_start bytes Unclosed (inr (inr double)) =
    ap (may_fit Unclosed) (unended_lead 34 bytes (inl refl) double)
fits_there at_line_start bytes Directive fits = ap (may_fit Directive) (hash_lead bytes fits.1.parts)
fits_there at_line_start bytes Char fits = refl
fits_there at_line_start bytes why fits = absurd fits

-- a refusal fits nowhere else
pub no_fit : {at : Lead} (at_line_start : Bool) (bytes : List ℕ) (why : Refusal) → lead bytes ≡ at
    → may_fit why at ≡ false → Fits at_line_start bytes why → ⊥
no_fit at_line_start bytes why at never fits =
    false≢true (sym never ∙ (ap (may_fit why) (sym at) ∙ fits_there at_line_start bytes why fits))

-- where no word, number, comment or quotation begins, and no directive, Char is the reason
pub char_first : {at : Lead} (at_line_start : Bool) (bytes : List ℕ) → lead bytes ≡ at
    → (may_fit Profile at || may_fit Literal at || may_fit Unclosed at) ≡ false
    → (Fits at_line_start bytes Directive → ⊥) → IsReason at_line_start bytes Char
char_first {at = l} at_line_start bytes at none directive =
    let most = or_parts (may_fit Profile l || may_fit Literal l) (may_fit Unclosed l) none in
    let two = or_parts (may_fit Profile l) (may_fit Literal l) most.0 in (
      no_fit at_line_start bytes Profile at two.0,
      no_fit at_line_start bytes Literal at two.1,
      no_fit at_line_start bytes Unclosed at most.1,
      directive,
    )

-- no other refusal fits where Char is the reason
pub no_refusal : (at_line_start : Bool) (bytes : List ℕ) → IsReason at_line_start bytes Char → (why : Refusal)
    → why ≢ Char → Fits at_line_start bytes why → ⊥
no_refusal at_line_start bytes none Profile other fits = none.0 fits
no_refusal at_line_start bytes none Literal other fits = none.1 fits
no_refusal at_line_start bytes none Unclosed other fits = none.2 fits
no_refusal at_line_start bytes none Directive other fits = none.3 fits
no_refusal at_line_start bytes none Char other fits = other refl
no_refusal at_line_start bytes none why other fits = fits
