-- The longest mark stands, and where nothing begins, the byte is refused.
use Rattle.std.proofs.Common.{◌≡◌, ◌⊎◌, inl, inr, ℕ, ◌≤◌, List, ◌++◌, Bool, true, false, length, refl, sym, ◌∙◌, ap}
use Rattle.std.proofs.Common.{subst, arith}
use Rattle.std.proofs.lemmas.Bool.{false≢true}
use Rattle.critical_table.specs.declared.refusal.Refusal.TheVariants.{Char, Directive}
use Rattle.c_lexer.specs.declared.punct.Punct.{Punct}
use Rattle.c_lexer.specs.declared.token.Body.TheVariants as body
use Rattle.c_lexer.specs.Marks.{mark_text}
use Rattle.c_lexer.specs.LexicalParts.{Part, White, Spelled, part_text, IsToken, IsWhite, IsPart}
use Rattle.c_lexer.specs.Refusals.{IsReason}
use Rattle.c_lexer.specs.Lexing.{Stands}
use Rattle.c_lexer.proofs.Leads.{Hash, Space, Other, lead, white_lead, comment_lead, admitted_at}
use Rattle.c_lexer.proofs.LeadRefusals.{no_fit, char_first, no_refusal}

-- what stands where nothing else begins is a mark
pub mark_at_other : (at_line_start : Bool) (bytes : List ℕ) (part : Part) (after : List ℕ) → lead bytes ≡ Other
    → bytes ≡ part_text part ++ after → IsPart at_line_start part after → (mark : Punct)
    × (part_text part ≡ mark_text mark)
mark_at_other at_line_start bytes (White text) after at parts is =
    absurd (admitted_at at_line_start bytes Other (White text) after at parts is)
mark_at_other at_line_start bytes (Spelled text token) after at parts is =
    let mark = admitted_at at_line_start bytes Other (Spelled text token) after at parts is in
    (mark.0, subst (IsToken text) mark.1 is)

-- a mark that is the longest stands
pub mark_stands : (at_line_start : Bool) (mark : Punct) (rest : List ℕ) → lead (mark_text mark ++ rest) ≡ Other
    → ((other : Punct) (after : List ℕ) → mark_text mark ++ rest ≡ mark_text other ++ after
    → length (mark_text other) ≤ length (mark_text mark))
    → Stands at_line_start (mark_text mark ++ rest) (Spelled (mark_text mark) (body.Mark mark)) rest
mark_stands at_line_start mark rest at longest = record {
  parts = refl;
  is = refl;
  longest = λ other after parts is.
      let found = mark_at_other at_line_start (mark_text mark ++ rest) other after at parts is in
      omega (arith, ap length found.1, longest found.0 after (parts ∙ ap (λ t. t ++ after) found.1));
  no_refusal = no_refusal at_line_start (mark_text mark ++ rest)
      (char_first at_line_start (mark_text mark ++ rest) at refl
      (no_fit at_line_start (mark_text mark ++ rest) Directive at refl));
}

-- nothing begins with this byte
pub record IsAlien (at_line_start : Bool) (bytes : List ℕ) : Type 0 where
  pub at : (lead bytes ≡ Other) ⊎ ((lead bytes ≡ Hash) × (at_line_start ≡ false))
  pub no_mark : (mark : Punct) (after : List ℕ) → bytes ≡ mark_text mark ++ after → ⊥

-- of white spaces only a directive begins with `#`
white_hash : (at_line_start : Bool) (text after : List ℕ) → lead (text ++ after) ≡ Hash
    → IsWhite at_line_start text after → at_line_start ≡ true
white_hash at_line_start text after at (inl white) =
    absurd (let space : lead (text ++ after) ≡ Space = ap (λ t. lead (t ++ after)) white.1
    ∙ white_lead white.0 after white.2 in cc)
white_hash at_line_start text after at (inr (inl line)) =
    absurd (let comment = comment_lead (text ++ after) (ap (λ t. t ++ after) line.parts) refl in cc)
white_hash at_line_start text after at (inr (inr (inl block))) =
    absurd (let comment = comment_lead (text ++ after) (ap (λ t. t ++ after) block.parts) refl in cc)
white_hash at_line_start text after at (inr (inr (inr directive))) = directive.0

-- behind a token no part begins with `#`
no_part_at_hash : (bytes : List ℕ) (part : Part) (after : List ℕ) → lead bytes ≡ Hash
    → Stands false bytes part after → ⊥
no_part_at_hash bytes (White text) after at stands =
    false≢true (white_hash false text after (sym (ap lead stands.parts) ∙ at) stands.is)
no_part_at_hash bytes (Spelled text token) after at stands =
    admitted_at false bytes Hash (Spelled text token) after at stands.parts stands.is

-- no part stands where nothing begins
pub alien_stands_not : (at_line_start : Bool) (bytes : List ℕ) → IsAlien at_line_start bytes
    → (part : Part) (after : List ℕ) → Stands at_line_start bytes part after → ⊥
alien_stands_not at_line_start bytes alien part after stands =
    elim alien.at [
      | inl other ↦
          let found = mark_at_other at_line_start bytes part after other stands.parts stands.is in
          alien.no_mark found.0 after (stands.parts ∙ ap (λ t. t ++ after) found.1)
      | inr hash ↦ no_part_at_hash bytes part after hash.0 (subst (λ f. Stands f bytes part after) hash.1 stands)
    ]

-- what begins nothing is refused as Char
pub alien_refused : (at_line_start : Bool) (bytes : List ℕ) → IsAlien at_line_start bytes
    → IsReason at_line_start bytes Char
alien_refused at_line_start bytes alien =
    elim alien.at [
      | inl other ↦ char_first at_line_start bytes other refl (no_fit at_line_start bytes Directive other refl)
      | inr hash ↦ char_first at_line_start bytes hash.0 refl (λ fits. false≢true (sym hash.1 ∙ fits.0))
    ]
