-- A white byte stands alone; a line that begins with `#` stands where it is a directive, and is refused where it is
-- none.
use Rattle.std.proofs.Common.{◌≡◌, inl, inr, ℕ, List, [], ◌∷◌, ◌++◌, Bool, true, false, ◌==◌, length, take, refl, sym}
use Rattle.std.proofs.Common.{◌∙◌, ap, subst, arith}
use Rattle.std.proofs.lemmas.Bool.{and_from, ne_eqb}
use Rattle.std.specs.Prelude.{not}
use Rattle.std.specs.List.{list_all, prefix_len}
use Rattle.std.specs.Char.{is_ascii_digit}
use Rattle.critical_table.specs.declared.refusal.Refusal.TheVariants.{Profile, Literal, Unclosed, Directive}
use Rattle.c_lexer.specs.declared.bytes.Class.TheVariants.{Line, Spaced}
use Rattle.c_lexer.specs.Bytes.{is_white, is_blank}
use Rattle.c_lexer.specs.Classes.{is_in}
use Rattle.c_lexer.specs.Comments.{IsInner}
use Rattle.c_lexer.specs.Directives.{headers, is_header, IsInclude, IsDefine, IsMarker, IsShape, IsDirective}
use Rattle.c_lexer.specs.LexicalParts.{Part, White, Spelled, part_text, EndsLine}
use Rattle.c_lexer.specs.Refusals.{IsReason}
use Rattle.c_lexer.specs.Lexing.{Stands}
use Rattle.c_lexer.proofs.Cases.{other_byte}
use Rattle.c_lexer.proofs.Runs.{all_weaker, all_joined, front_taken, run_whole, run_least, line_ends}
use Rattle.c_lexer.proofs.Tables.{listed_true}
use Rattle.c_lexer.proofs.Leads.{Hash, Space, white_lead, hash_lead, Admits, admitted_at}
use Rattle.c_lexer.proofs.LeadRefusals.{no_fit, char_first, no_refusal}

-- at a white byte only that byte may stand
length_at_space : (part : Part) → Admits Space part → length (part_text part) ≡ 1
length_at_space (White text) one = one
length_at_space (Spelled text token) none = absurd none

-- a white byte stands
pub white_stands : (at_line_start : Bool) (byte : ℕ) (rest : List ℕ) → is_white byte ≡ true
    → Stands at_line_start (byte ∷ rest) (White (byte ∷ [])) rest
white_stands at_line_start byte rest is =
    let at = white_lead byte rest is in
    record {
      parts = refl;
      is = inl (byte, refl, is);
      longest = λ other after parts part.
          omega (
            arith,
            length_at_space other (admitted_at at_line_start (byte ∷ rest) Space other after at parts part),
          );
      no_refusal = no_refusal at_line_start (byte ∷ rest)
          (char_first at_line_start (byte ∷ rest) at refl (no_fit at_line_start (byte ∷ rest) Directive at refl));
    }

-- bytes of a class that has no line feed
feedless : (class : ℕ → Bool) (bytes : List ℕ) → class 10 ≡ false → list_all class bytes ≡ true
    → list_all (is_in Line) bytes ≡ true
feedless class bytes outside all =
    all_weaker class (is_in Line) bytes (λ byte inside. ap not (other_byte class 10 byte outside inside)) all

-- what stands between quotes has no line feed
inner_line : (quote : ℕ) (hidden : Bool) (bytes : List ℕ) → IsInner quote hidden bytes
    → list_all (is_in Line) bytes ≡ true
inner_line quote hidden [] inside = refl
inner_line quote true (byte ∷ bytes) inside =
    and_from _ _ (ap not (ne_eqb byte 10 inside.0)) (inner_line quote false bytes inside.1)
inner_line quote false (byte ∷ bytes) inside =
    and_from _ _ (ap not (ne_eqb byte 10 inside.0)) (inner_line quote (byte == 92) bytes inside.2)

-- and a header has none
header_line : (header : List ℕ) → is_header header ≡ true → list_all (is_in Line) header ≡ true
unfolding is_header
header_line header known = listed_true (list_all (is_in Line)) headers header refl known

-- and blanks have none
blank_line : (text : List ℕ) → list_all is_blank text ≡ true → list_all (is_in Line) text ≡ true
blank_line text all = feedless is_blank text refl all

-- an include has no line feed
include_line : (text : List ℕ) → IsInclude text → list_all (is_in Line) text ≡ true
include_line text i =
    ap (list_all (is_in Line)) i.parts
    ∙ all_joined (is_in Line) i.before _ (blank_line i.before i.blanks.0)
    (all_joined (is_in Line) i.header i.last (header_line i.header i.known) (blank_line i.last i.blanks.1))

-- the define has none
define_line : (text : List ℕ) → IsDefine text → list_all (is_in Line) text ≡ true
define_line text d =
    ap (list_all (is_in Line)) d.parts
    ∙ all_joined (is_in Line) d.before _ (blank_line d.before d.blanks.0)
    (all_joined (is_in Line) d.between _ (blank_line d.between d.blanks.1) (blank_line d.last d.blanks.2))

-- a line marker has none
marker_line : (text : List ℕ) → IsMarker text → list_all (is_in Line) text ≡ true
marker_line text m =
    ap (list_all (is_in Line)) m.parts
    ∙ all_joined (is_in Line) m.number _ (feedless is_ascii_digit m.number refl m.digits)
    (all_joined (is_in Line) m.between _ (blank_line m.between m.blank)
    (all_joined (is_in Line) m.file _ (inner_line 34 false m.file m.name)
    (feedless (is_in Spaced) m.last refl m.numbers)))

-- none of the four shapes has one
shape_line : (text : List ℕ) → IsShape text → list_all (is_in Line) text ≡ true
shape_line text (inl i) = include_line text i
shape_line text (inr (inl d)) = define_line text d
shape_line text (inr (inr (inl m))) = marker_line text m
shape_line text (inr (inr (inr p))) = ap (list_all (is_in Line)) p.parts ∙ p.line_only

-- a directive has no line feed
one_line : (line : List ℕ) → IsDirective line → list_all (is_in Line) line ≡ true
one_line line d = ap (list_all (is_in Line)) d.parts
    ∙ all_joined (is_in Line) d.before d.text (blank_line d.before d.blank) (shape_line d.text d.shape)

-- at a `#` only what has no line feed may stand
line_at_hash : (part : Part) → Admits Hash part → list_all (is_in Line) (part_text part) ≡ true
line_at_hash (White text) directive = one_line text directive
line_at_hash (Spelled text token) none = absurd none

-- the line of a `#`
line_length : (body rest : List ℕ) → list_all (is_in Line) body ≡ true → EndsLine rest
    → prefix_len (is_in Line) ((35 ∷ body) ++ rest) ≡ length (35 ∷ body)
line_length body rest line ends = run_whole (is_in Line) (35 ∷ body) rest line (line_ends rest ends)

-- the line of a `#` is the text up to the line feed
line_front : (body rest : List ℕ) → list_all (is_in Line) body ≡ true → EndsLine rest
    → take (prefix_len (is_in Line) ((35 ∷ body) ++ rest)) ((35 ∷ body) ++ rest) ≡ 35 ∷ body
line_front body rest line ends = front_taken _ (35 ∷ body) rest (line_length body rest line ends)

-- a directive that is taken stands
pub directive_stands : (body rest : List ℕ) → list_all (is_in Line) body ≡ true → EndsLine rest
    → IsDirective (35 ∷ body) → Stands true ((35 ∷ body) ++ rest) (White (35 ∷ body)) rest
directive_stands body rest line ends is =
    let at = hash_lead ((35 ∷ body) ++ rest) refl in
    record {
      parts = refl;
      is = inr (inr (inr (refl, is, ends)));
      longest = λ other after parts part.
          let all = line_at_hash other (admitted_at true ((35 ∷ body) ++ rest) Hash other after at parts part) in
          omega (
            arith,
            run_least (is_in Line) (part_text other) after all,
            ap (prefix_len (is_in Line)) parts,
            line_length body rest line ends,
          );
      no_refusal = no_refusal true ((35 ∷ body) ++ rest)
          (char_first true ((35 ∷ body) ++ rest) at refl
          (λ fits. fits.1.none (subst IsDirective (sym (line_front body rest line ends)) is)));
    }

-- a line that is no directive that is taken is refused
pub directive_refused : (body rest : List ℕ) → list_all (is_in Line) body ≡ true → EndsLine rest
    → (IsDirective (35 ∷ body) → ⊥) → IsReason true ((35 ∷ body) ++ rest) Directive
directive_refused body rest line ends none =
    let at = hash_lead ((35 ∷ body) ++ rest) refl in (
      (
        refl,
        record {
          rest = body ++ rest;
          parts = refl;
          none =
              λ d. none (subst IsDirective (line_front body rest line ends) d);
        },
      ),
      no_fit true ((35 ∷ body) ++ rest) Profile at refl,
      no_fit true ((35 ∷ body) ++ rest) Literal at refl,
      no_fit true ((35 ∷ body) ++ rest) Unclosed at refl,
    )
