-- A format is its pieces, one behind the other.
use Rattle.std.proofs.Common.{◌≡◌, ℕ, zero, suc, ◌+◌, ◌==◌, ◌≤◌, Bool, true, false, cond, List, [], ◌∷◌, ◌++◌}
use Rattle.std.proofs.Common.{length, drop, Option, Some, None, refl, sym, ap, subst, ◌∙◌, append-nil, arith}
use Rattle.std.specs.Prelude.{codes}
use Rattle.std.specs.List.{prefix_len}
use Rattle.std.proofs.lemmas.Bool.{and_parts}
use Rattle.std.proofs.lemmas.List.{append_assoc, length-append, take-append-drop}
use Rattle.std.proofs.lemmas.Option.{same_Some}
use Rattle.std.proofs.lemmas.Grind.{common_steps}
use Rattle.lib_defs.specs.Conversions.{Modifier, Bare, Hh, H, L, Ll, Z, front, after, is_flag, is_digit}
use Rattle.lib_defs.specs.Conversions.{begins_with, precision_of, after_precision, modifier_of, modifier_text}
use Rattle.lib_defs.specs.Conversions.{after_modifier, Read, read_letter, read_specification, Ordinary, piece_then}
use Rattle.lib_defs.specs.Conversions.{pieces_within, pieces_of, precision_text, specification_text, percent}
use Rattle.lib_defs.specs.Conversions.{pieces_text}

-- what is cut comes together again
cut : (test : ℕ → Bool) (text : List ℕ) → front test text ++ after test text ≡ text
cut test text = take-append-drop (prefix_len test text) text

begins : (xs text : List ℕ) → begins_with xs text ≡ true → xs ++ drop (length xs) text ≡ text
begins [] text e = refl
begins (x ∷ xs) [] e = cc
begins (x ∷ xs) (c ∷ text) e =
    let parts = and_parts (x == c) (begins_with xs text) e in
    let same : x ≡ c = grind (arith, common_steps, parts.0) in
    rw (same, begins xs text parts.1) refl

precision_is : (text : List ℕ) → precision_text (precision_of text) ++ after_precision text ≡ text
precision_is text = at_test (begins_with (codes ".") text) refl
  where
    at_test : (b : Bool) → begins_with (codes ".") text ≡ b
        → precision_text (cond b (Some (front is_digit (drop 1 text))) None)
        ++ cond b (after is_digit (drop 1 text)) text
        ≡ text
    at_test true e = ap (λ (xs : List ℕ). 46 ∷ xs) (cut is_digit (drop 1 text)) ∙ begins (codes ".") text e
    at_test false e = refl

abbrev Whole : List ℕ → Modifier → Type 0
Whole text m = modifier_text m ++ drop (length (modifier_text m)) text ≡ text

modifier_is : (text : List ℕ) → modifier_text (modifier_of text) ++ after_modifier text ≡ text
modifier_is text =
    at_tests (begins_with (codes "hh") text) (begins_with (codes "h") text) (begins_with (codes "ll") text)
    (begins_with (codes "l") text) (begins_with (codes "z") text) refl refl refl refl refl
  where
    at_tests : (hh h ll l z : Bool) → begins_with (codes "hh") text ≡ hh → begins_with (codes "h") text ≡ h
        → begins_with (codes "ll") text ≡ ll → begins_with (codes "l") text ≡ l → begins_with (codes "z") text ≡ z
        → Whole text (cond hh Hh (cond h H (cond ll Ll (cond l L (cond z Z Bare)))))
    at_tests true h ll l z e1 e2 e3 e4 e5 = begins (codes "hh") text e1
    at_tests false true ll l z e1 e2 e3 e4 e5 = begins (codes "h") text e2
    at_tests false false true l z e1 e2 e3 e4 e5 = begins (codes "ll") text e3
    at_tests false false false true z e1 e2 e3 e4 e5 = begins (codes "l") text e4
    at_tests false false false false true e1 e2 e3 e4 e5 = begins (codes "z") text e5
    at_tests false false false false false e1 e2 e3 e4 e5 = refl

-- a specification and what is behind it are what was read
glued : (front part rest whole : List ℕ) → part ++ rest ≡ whole → (front ++ part) ++ rest ≡ front ++ whole
glued front part rest whole e = append_assoc front part rest ∙ ap (λ (xs : List ℕ). front ++ xs) e

letter_is : (flags width : List ℕ) (precision : Option (List ℕ)) (modifier : Modifier) (text : List ℕ) (r : Read)
    → read_letter flags width precision modifier text ≡ Some r
    → specification_text r.specification ++ r.rest
    ≡ (((flags ++ width) ++ precision_text precision) ++ modifier_text modifier) ++ text
letter_is flags width precision modifier [] r e = cc
letter_is flags width precision modifier (letter ∷ rest) r e =
    subst (λ (r : Read). specification_text r.specification ++ r.rest
    ≡ (((flags ++ width) ++ precision_text precision) ++ modifier_text modifier) ++ letter ∷ rest) (same_Some _ r e)
    (glued (((flags ++ width) ++ precision_text precision) ++ modifier_text modifier) (letter ∷ []) rest (letter ∷ rest)
    refl)

specification_is : (text : List ℕ) (r : Read) → read_specification text ≡ Some r
    → specification_text r.specification ++ r.rest ≡ text
specification_is text r e =
    let behind_flags : List ℕ = after is_flag text in
    let behind_width : List ℕ = after is_digit behind_flags in
    let behind_precision : List ℕ = after_precision behind_width in
    let flags : List ℕ = front is_flag text in
    let width : List ℕ = front is_digit behind_flags in
    let precision : List ℕ = precision_text (precision_of behind_width) in
    letter_is flags width (precision_of behind_width) (modifier_of behind_precision) (after_modifier behind_precision)
    r e
    ∙ glued ((flags ++ width) ++ precision) (modifier_text (modifier_of behind_precision))
    (after_modifier behind_precision) behind_precision (modifier_is behind_precision)
    ∙ glued (flags ++ width) precision behind_precision behind_width (precision_is behind_width)
    ∙ glued flags width behind_width behind_flags (cut is_digit behind_flags)
    ∙ cut is_flag text

rest_short : (c rest text : List ℕ) (n : ℕ) → c ++ rest ≡ text → length text ≤ n → length rest ≤ n
rest_short c rest text n e le =
    let long : length (c ++ rest) ≡ length c + length rest = length-append c rest in
    let same : length (c ++ rest) ≡ length text = ap length e in
    omega (arith, long, same, le)

-- pieces that are cut from shorter texts
abbrev Cuts : ℕ → Type 0
Cuts n = (text : List ℕ) → length text ≤ n → pieces_text (pieces_within n text) ≡ text

read_is : (n : ℕ) → Cuts n → (text : List ℕ) → length text ≤ n → (o : Option Read) → read_specification text ≡ o
    → pieces_text (piece_then o text (λ rest. pieces_within n rest)) ≡ percent ∷ text
read_is n cuts text le None e = ap (λ (xs : List ℕ). percent ∷ xs) (append-nil text)
read_is n cuts text le (Some r) e =
    let whole : specification_text r.specification ++ r.rest ≡ text = specification_is text r e in
    let rest : pieces_text (pieces_within n r.rest) ≡ r.rest =
    cuts r.rest (rest_short (specification_text r.specification) r.rest text n whole le) in
    ap (λ (xs : List ℕ). percent ∷ specification_text r.specification ++ xs) rest
    ∙ ap (λ (xs : List ℕ). percent ∷ xs) whole

character_is : (n : ℕ) → Cuts n → (c : ℕ) (text : List ℕ) → length text ≤ n → (b : Bool) → (c == percent) ≡ b
    → pieces_text (cond b (piece_then (read_specification text) text (λ rest. pieces_within n rest))
    (Ordinary c ∷ pieces_within n text))
    ≡ c ∷ text
character_is n cuts c text le true e =
    let same : c ≡ percent = grind (arith, common_steps, e) in
    read_is n cuts text le (read_specification text) refl ∙ ap (λ (x : ℕ). x ∷ text) (sym same)
character_is n cuts c text le false e = ap (λ (xs : List ℕ). c ∷ xs) (cuts text le)

pieces_are : (n : ℕ) → Cuts n
pieces_are zero [] le = refl
pieces_are zero (c ∷ text) le = absurd (omega (arith, le))
pieces_are (suc n) [] le = refl
pieces_are (suc n) (c ∷ text) le = character_is n (pieces_are n) c text (omega (arith, le)) (c == percent) refl

pub format_is : (format : List ℕ) → pieces_text (pieces_of format) ≡ format
format_is format = pieces_are (length format) format (omega arith)
