-- A directive line is `#`, blanks and a shape; no shape begins with a blank.
use Rattle.std.proofs.Common.{◌≡◌, inl, inr, ℕ, ◌≤◌, ◌<◌, List, [], ◌∷◌, ◌++◌, Bool, true, false, ◌==◌, ◌+◌, cond}
use Rattle.std.proofs.Common.{length, drop, get_or, refl, sym, ◌∙◌, ap, subst, arith}
use Rattle.std.proofs.lemmas.Bool.{and_parts, eqb-true, false≢true, or_cases}
use Rattle.std.specs.Prelude.{IsTrue, ◌↔◌}
use Rattle.std.specs.List.{prefix_len, list_all}
use Rattle.std.specs.Char.{is_ascii_digit}
use Rattle.c_lexer.specs.declared.bytes.Class.TheVariants as class
use Rattle.c_lexer.specs.Bytes.{is_blank}
use Rattle.c_lexer.specs.Classes.{is_in}
use Rattle.c_lexer.specs.Directives.{IsShape, IsDirective}
use Rattle.c_lexer.specs.ReadDirective.{skip_blanks}
use Rattle.c_lexer.proofs.DirectiveLaws.{blanks_of, skip_blanks_parts, blanks_blank, skip_blanks_full}

-- a digit is no blank
digit_apart : (b : ℕ) (t : Bool) → is_ascii_digit b ≡ true → is_blank b ≡ t → t ≡ false
digit_apart b false digit is = refl
digit_apart b true digit is =
    elim (or_cases (b == 32) (b == 9) is) [
      | inl e ↦ absurd (false≢true (subst (λ x. is_ascii_digit x ≡ true) (eqb-true b 32 e) digit))
      | inr e ↦ absurd (false≢true (subst (λ x. is_ascii_digit x ≡ true) (eqb-true b 9 e) digit))
    ]

-- a number begins with no blank
number_begins : (number rest : List ℕ) → 0 < length number → list_all is_ascii_digit number ≡ true
    → prefix_len (is_in class.Blank) (number ++ rest) ≡ 0
number_begins [] rest some digits = absurd (omega (arith, some))
number_begins (b ∷ number) rest some digits =
    ap (λ t. cond t (1 + prefix_len (is_in class.Blank) (number ++ rest)) 0)
    (digit_apart b (is_blank b) (and_parts (is_ascii_digit b) (list_all is_ascii_digit number) digits).0 refl)

-- no shape begins with a blank
shape_begins : (text : List ℕ) → IsShape text → prefix_len (is_in class.Blank) text ≡ 0
shape_begins text (inl i) = ap (prefix_len (is_in class.Blank)) i.parts
shape_begins text (inr (inl d)) = ap (prefix_len (is_in class.Blank)) d.parts
shape_begins text (inr (inr (inl m))) = ap (prefix_len (is_in class.Blank)) m.parts
    ∙ number_begins m.number _ m.some m.digits
shape_begins text (inr (inr (inr p))) = ap (prefix_len (is_in class.Blank)) p.parts

-- a shape behind `#` and blanks is a directive
to_line : (after : List ℕ) → IsShape (skip_blanks after) → IsDirective (35 ∷ after)
to_line after shape =
    record {
      before = blanks_of after;
      text = skip_blanks after;
      parts =
          ap (λ t. 35 ∷ t) (skip_blanks_parts after);
      blank = blanks_blank after;
      shape = shape;
    }

-- behind the `#` of a directive and blanks a shape stands
pub from_line : (byte : ℕ) (after : List ℕ) → IsDirective (byte ∷ after) → IsShape (skip_blanks after)
from_line byte after d =
    let rest : after ≡ d.before ++ d.text = (let e = d.parts in cc) in
    subst IsShape
    (sym (ap skip_blanks rest ∙ skip_blanks_full d.before d.text d.blank (shape_begins d.text d.shape))) d.shape

-- so a line that begins with `#` is a directive where a shape follows
pub directive_line : (line : List ℕ) (b : Bool) → 1 ≤ length line → get_or line 0 0 ≡ 35
    → (IsTrue b ↔ IsShape (skip_blanks (drop 1 line))) → IsTrue b ↔ IsDirective line
directive_line [] b some first h = absurd (omega (arith, some))
directive_line (byte ∷ after) b some first h =
    (λ t. subst (λ x. IsDirective (x ∷ after)) (sym first) (to_line after (h.0 t)), λ d. h.1 (from_line byte after d))
