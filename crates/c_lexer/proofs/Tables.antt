-- What a table has for a text, and what passes with each of its texts.
use Rattle.std.proofs.Common.{◌≡◌, ℕ, List, [], ◌∷◌, inl, inr, Bool, true, false, cond, refl, subst}
use Rattle.std.specs.Prelude.{Option, Some, map}
use Rattle.std.specs.List.{list_all, list_any}
use Rattle.std.specs.Str.{bytes_eq}
use Rattle.std.proofs.lemmas.Bool.{and_parts, false≢true, or_cases}
use Rattle.std.proofs.lemmas.Slice.Eq.{bytes_eq-Decides}
use Rattle.c_lexer.specs.Lookup.{lookup}

-- the first row, or a later one
found_row : {A : Type 0} (P : List ℕ → A → Type 0) (key text : List ℕ) (value a : A) (rest : Option A) (b : Bool)
    → bytes_eq key text ≡ b → P key value → (rest ≡ Some a → P text a) → cond b (Some value) rest ≡ Some a → P text a
found_row P key text value a rest true same p more h =
    let is : value ≡ a = cc in
    subst (λ x. P text x) is (subst (λ t. P t value) ((bytes_eq-Decides key text).0 same) p)
found_row P key text value a rest false same p more h = more h

-- a test that the text of each row passes, a text passes for which the table has something
pub lookup_true : {A : Type 0} (test : List ℕ → Bool) (rows : List (List ℕ × A)) (text : List ℕ) (a : A)
    → list_all (λ row. test row.0) rows ≡ true → lookup rows text ≡ Some a → test text ≡ true
lookup_true test [] text a all h = absurd (cc)
lookup_true test (row ∷ rows) text a all h =
    let parts = and_parts (test row.0) (list_all (λ row. test row.0) rows) all in
    found_row (λ t x. test t ≡ true) row.0 text row.1 a (lookup rows text) (bytes_eq row.0 text) refl parts.0
    (lookup_true test rows text a parts.1) h

-- what a table of things behind their spellings has for a text is spelled so
pub spelled_so : {A : Type 0} (spelling : A → List ℕ) (all : List A) (text : List ℕ) (a : A)
    → lookup (map (λ x. (spelling x, x)) all) text ≡ Some a → text ≡ spelling a
spelled_so spelling [] text a h = absurd (cc)
spelled_so spelling (x ∷ all) text a h =
    found_row (λ t y. t ≡ spelling y) (spelling x) text x a (lookup (map (λ y. (spelling y, y)) all) text)
    (bytes_eq (spelling x) text) refl refl (spelled_so spelling all text a) h

-- a test that each text of a list passes
pub listed_true : (test : List ℕ → Bool) (rows : List (List ℕ)) (text : List ℕ) → list_all test rows ≡ true
    → list_any (λ row. bytes_eq row text) rows ≡ true → test text ≡ true
listed_true test [] text all h = absurd (false≢true h)
listed_true test (row ∷ rows) text all h =
    let parts = and_parts (test row) (list_all test rows) all in
    elim (or_cases (bytes_eq row text) (list_any (λ row. bytes_eq row text) rows) h) [
      | inl same ↦ subst (λ t. test t ≡ true) ((bytes_eq-Decides row text).0 same) parts.0
      | inr later ↦ listed_true test rows text parts.1 later
    ]
