-- A comment stands up to its end, and is refused where it has none.
use Rattle.std.proofs.Common.{◌≡◌, ◌⊎◌, inl, inr, ℕ, ◌≤◌, List, ◌∷◌, ◌++◌, Bool, length, refl, sym, ◌∙◌, ap, arith}
use Rattle.std.proofs.Common.{append_assoc, length-append}
use Rattle.std.specs.Prelude.{Some, codes, slice_index}
use Rattle.std.specs.List.{prefix_len}
use Rattle.critical_table.specs.declared.refusal.Refusal.TheVariants.{Char, Unclosed, Literal, Directive, Profile}
use Rattle.c_lexer.specs.declared.bytes.Class.TheVariants.{Line}
use Rattle.c_lexer.specs.Classes.{is_in}
use Rattle.c_lexer.specs.Comments.{IsBlockComment, IsLineComment, NoClose}
use Rattle.c_lexer.specs.ReadComment.{past_close}
use Rattle.c_lexer.specs.LexicalParts.{Part, White, Spelled, part_text, IsPart, EndsLine}
use Rattle.c_lexer.specs.Refusals.{OpenComment, Fits, IsReason}
use Rattle.c_lexer.specs.Lexing.{Stands}
use Rattle.c_lexer.proofs.CommentLaws.{close_full}
use Rattle.c_lexer.proofs.Runs.{run_least, run_whole, line_ends}
use Rattle.c_lexer.proofs.Leads.{lead, Comment, comment_lead, Admits, admitted_at}
use Rattle.c_lexer.proofs.LeadRefusals.{unended_lead, no_fit, no_refusal}

-- a comment that its line ends, and what follows it, begin with `//`
line_front : (text rest : List ℕ) (c : IsLineComment text) → text ++ rest ≡ codes "//" ++ (c.body ++ rest)
line_front text rest c = ap (λ t. t ++ rest) c.parts

-- a comment up to `*/`, and what follows it, begin with `/*`
block_front : (text rest : List ℕ) (c : IsBlockComment text) → text ++ rest ≡ codes "/*" ++ (c.body ++ (42 ∷ 47 ∷ rest))
block_front text rest c = ap (λ t. t ++ rest) c.parts
    ∙ ap (λ t. codes "/*" ++ t) (append_assoc c.body (codes "*/") rest)

-- no comment is of both kinds
apart : (a b : List ℕ) → codes "//" ++ a ≡ codes "/*" ++ b → ⊥
apart a b h = omega (arith, ap (λ (t : List ℕ). slice_index t 1) h)

-- a comment up to the end of its line is the longest there
no_longer_line : (text rest other after : List ℕ) → IsLineComment text → EndsLine rest
    → text ++ rest ≡ other ++ after → IsLineComment other → length other ≤ length text
no_longer_line text rest other after c ends h o =
    let whole = sym (line_front text rest c) ∙ (h ∙ line_front other after o) in
    let same : c.body ++ rest ≡ o.body ++ after = cc in
    let least = run_least (is_in Line) o.body after o.line in
    let all = run_whole (is_in Line) c.body rest c.line (line_ends rest ends) in
    omega (arith, least, all, ap (prefix_len (is_in Line)) same, ap length c.parts, ap length o.parts)

-- a comment up to the first `*/` is the longest there
one_block : (text rest other after : List ℕ) → IsBlockComment text → text ++ rest ≡ other ++ after
    → IsBlockComment other → length other ≤ length text
one_block text rest other after c h o =
    let whole = sym (block_front text rest c) ∙ (h ∙ block_front other after o) in
    let same : c.body ++ (42 ∷ 47 ∷ rest) ≡ o.body ++ (42 ∷ 47 ∷ after) = cc in
    let past : Some rest ≡ Some after = sym (close_full c.body rest c.first)
    ∙ (ap past_close same ∙ close_full o.body after o.first) in
    let end : rest ≡ after = cc in
    omega (arith, ap length h, ap length end, length-append text rest, length-append other after)

-- where `//` or `/*` begins, only a comment or a single byte may stand
comment_or_byte : (part : Part) → Admits Comment part → IsLineComment (part_text part)
    ⊎ IsBlockComment (part_text part) ⊎ (length (part_text part) ≡ 1)
comment_or_byte (White text) (inl line) = inl line
comment_or_byte (White text) (inr block) = inr (inl block)
comment_or_byte (Spelled text token) one = inr (inr one)

-- where a comment begins, no part but a comment is longer than a byte
no_longer : (at_line_start : Bool) (text rest : List ℕ) (part : Part) (after : List ℕ) → 1 ≤ length text
    → lead (text ++ rest) ≡ Comment → text ++ rest ≡ part_text part ++ after → IsPart at_line_start part after
    → (IsLineComment (part_text part) → length (part_text part) ≤ length text)
    → (IsBlockComment (part_text part) → length (part_text part) ≤ length text) → length (part_text part) ≤ length text
no_longer at_line_start text rest part after some at h is line block =
    elim (comment_or_byte part (admitted_at at_line_start (text ++ rest) Comment part after at h is))
    [ inl c ↦ line c | inr other ↦ elim other [ inl c ↦ block c | inr one ↦ omega (arith, one, some) ] ]

-- what begins with `//` or `/*` and is no open comment is not unclosed
no_unclosed : (at_line_start : Bool) (bytes : List ℕ) → lead bytes ≡ Comment → (OpenComment bytes → ⊥)
    → Fits at_line_start bytes Unclosed → ⊥
no_unclosed at_line_start bytes at ends (inl unended) = ends unended
no_unclosed at_line_start bytes at ends (inr (inl single)) =
    (let quoted = unended_lead 39 bytes (inr refl) single in cc)
no_unclosed at_line_start bytes at ends (inr (inr double)) =
    (let quoted = unended_lead 34 bytes (inl refl) double in cc)

-- where a comment that ends begins, Char is the reason
only_char : (at_line_start : Bool) (bytes : List ℕ) → lead bytes ≡ Comment → (OpenComment bytes → ⊥)
    → IsReason at_line_start bytes Char
only_char at_line_start bytes at ends = (
  no_fit at_line_start bytes Profile at refl,
  no_fit at_line_start bytes Literal at refl,
  no_unclosed at_line_start bytes at ends,
  no_fit at_line_start bytes Directive at refl,
)

-- a comment up to the end of its line stands
pub line_comment_stands : (at_line_start : Bool) (text rest : List ℕ) → IsLineComment text → EndsLine rest
    → Stands at_line_start (text ++ rest) (White text) rest
line_comment_stands at_line_start text rest is ends =
    let at = comment_lead (text ++ rest) (line_front text rest is) refl in
    record {
      parts = refl;
      is = inr (inl is);
      longest = λ part after h stands. no_longer at_line_start text rest part after
          (omega (arith, ap length is.parts)) at h stands (no_longer_line text rest (part_text part) after is ends h)
          (λ c. absurd (apart _ _ (sym (line_front text rest is) ∙ (h ∙ block_front (part_text part) after c))));
      no_refusal = no_refusal at_line_start (text ++ rest)
          (only_char at_line_start (text ++ rest) at (λ unended. apart _ _ (sym (line_front text rest is)
          ∙ unended.parts)));
    }

-- a comment up to the first `*/` stands
pub block_comment_stands : (at_line_start : Bool) (text rest : List ℕ) → IsBlockComment text
    → Stands at_line_start (text ++ rest) (White text) rest
block_comment_stands at_line_start text rest is =
    let at = comment_lead (text ++ rest) (block_front text rest is) refl in
    record {
      parts = refl;
      is = inr (inr (inl is));
      longest = λ part after h stands. no_longer at_line_start text rest part after
          (omega (arith, ap length is.parts)) at h stands
          (λ c. absurd (apart _ _ (sym (line_front (part_text part) after c) ∙ (sym h ∙ block_front text rest is))))
          (one_block text rest (part_text part) after is h);
      no_refusal = no_refusal at_line_start (text ++ rest)
          (only_char at_line_start (text ++ rest) at (λ unended. unended.never is.body rest (let whole =
          sym unended.parts ∙ block_front text rest is in cc)));
    }

-- a comment without a `*/` is unclosed
pub open_comment_refused : (at_line_start : Bool) (body : List ℕ) → NoClose body
    → IsReason at_line_start (codes "/*" ++ body) Unclosed
open_comment_refused at_line_start body never =
    let at = comment_lead (codes "/*" ++ body) refl refl in (
      inl (record { rest = body; parts = refl; never = never }),
      no_fit at_line_start (codes "/*" ++ body) Profile at refl,
      no_fit at_line_start (codes "/*" ++ body) Literal at refl,
    )
