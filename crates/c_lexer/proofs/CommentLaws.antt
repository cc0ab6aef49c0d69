-- The end of a comment and of a text between quotes is the first there is.
use Rattle.std.proofs.Common.{◌≡◌, inl, inr, ℕ, List, [], ◌∷◌, ◌++◌, Bool, true, false, ◌==◌, ◌&&◌, cond, drop, refl}
use Rattle.std.proofs.Common.{sym, ◌∙◌, ap, subst, arith}
use Rattle.std.proofs.lemmas.Bool.{and_parts, eqb-true, eqb-false, eq-eqb, false≢true, false_from_ne_true, ne_eqb}
use Rattle.std.proofs.lemmas.Option.{none-some}
use Rattle.std.specs.Prelude.{Some, None, slice_index}
use Rattle.c_lexer.specs.Comments.{NoClose, IsInner}
use Rattle.c_lexer.specs.ReadComment.{past_close, past_quote}
use Rattle.c_lexer.proofs.Cases.{cond_cases}

-- the text up to the first `*/`
pub record Closed (bytes after : List ℕ) : Type 0 where
  pub body : List ℕ
  pub parts : bytes ≡ body ++ (42 ∷ 47 ∷ after)
  pub first : NoClose (body ++ (42 ∷ []))

-- a `*` alone closes no comment
star_alone : NoClose (42 ∷ [])
star_alone [] after h = (let e : [] ≡ 47 ∷ after = cc in cc)
star_alone (x ∷ []) after h = (let e : [] ≡ 42 ∷ 47 ∷ after = cc in cc)
star_alone (x ∷ y ∷ before) after h = (let e : [] ≡ y ∷ (before ++ (42 ∷ 47 ∷ after)) = cc in cc)

-- a `*/` at the front is the first
close_here : (byte : ℕ) (bytes after : List ℕ) → (byte == 42) ≡ true → (slice_index bytes 0 == 47) ≡ true
    → drop 1 bytes ≡ after → Closed (byte ∷ bytes) after
close_here byte [] after star slash rest = absurd (cc)
close_here byte (b ∷ bytes) after star slash rest = record {
  body = [];
  parts = (let e : byte ≡ 42 = eqb-true byte 42 star in let f : b ≡ 47 = eqb-true b 47 slash in cc);
  first = star_alone;
}

-- a byte that begins no `*/` before a body that has none
no_close_more : (byte : ℕ) (body : List ℕ) (bytes : List ℕ) → (byte == 42 && slice_index (body ++ bytes) 0 == 47)
    ≡ false → slice_index bytes 0 ≡ 42 → NoClose (body ++ (42 ∷ [])) → NoClose (byte ∷ (body ++ (42 ∷ [])))
no_close_more byte [] bytes test star first [] after h = omega (arith, ap (λ (t : List ℕ). slice_index t 1) h)
no_close_more byte (c ∷ body) bytes test star first [] after h =
    let one : byte ≡ 42 = cc in
    let two : c ≡ 47 = cc in
    false≢true (sym test ∙ (ap (λ x. x && c == 47) (eq-eqb byte 42 one) ∙ eq-eqb c 47 two))
no_close_more byte body bytes test star first (x ∷ before) after h =
    first before after (let e : body ++ (42 ∷ []) ≡ before ++ (42 ∷ 47 ∷ after) = cc in e)

-- a byte that begins no `*/` is part of the body
close_later : (byte : ℕ) (bytes after : List ℕ) → (byte == 42 && slice_index bytes 0 == 47) ≡ false
    → Closed bytes after → Closed (byte ∷ bytes) after
close_later byte bytes after test c = record {
  body = byte ∷ c.body;
  parts = ap (λ t. byte ∷ t) c.parts;
  first = no_close_more byte c.body (42 ∷ 47 ∷ after)
      (subst (λ t. (byte == 42 && slice_index t 0 == 47) ≡ false) c.parts test) refl c.first;
}

-- what is found behind a `*/` stands behind the first one
pub close_sound : (bytes after : List ℕ) → past_close bytes ≡ Some after → Closed bytes after
close_sound [] after h = absurd (none-some _ h)
close_sound (byte ∷ bytes) after h =
    elim (cond_cases (byte == 42 && slice_index bytes 0 == 47) (Some (drop 1 bytes)) (past_close bytes) (Some after)
    h) [
      | inl a ↦ (let both = and_parts (byte == 42) (slice_index bytes 0 == 47) a.0 in
          close_here byte bytes after both.0 both.1 (let e = a.1 in cc))
      | inr a ↦ close_later byte bytes after a.0 (close_sound bytes after a.1)
    ]

-- no `*/` begins in a body before the one that ends it
no_close_here : (byte : ℕ) (body after : List ℕ) → NoClose (byte ∷ (body ++ (42 ∷ [])))
    → (byte == 42 && slice_index (body ++ (42 ∷ 47 ∷ after)) 0 == 47) ≡ true → ⊥
no_close_here byte [] after first h = false≢true (and_parts (byte == 42) false h).1
no_close_here byte (c ∷ body) after first h =
    let both = and_parts (byte == 42) (c == 47) h in
    let one : byte ≡ 42 = eqb-true byte 42 both.0 in
    let two : c ≡ 47 = eqb-true c 47 both.1 in
    first [] (body ++ (42 ∷ [])) (cc)

-- what stands behind the first `*/` is found
pub close_full : (body after : List ℕ) → NoClose (body ++ (42 ∷ [])) → past_close (body ++ (42 ∷ 47 ∷ after))
    ≡ Some after
close_full [] after first = refl
close_full (byte ∷ body) after first =
    rw (false_from_ne_true _ (no_close_here byte body after first))
    (close_full body after (λ before rest e. first (byte ∷ before) rest (ap (λ t. byte ∷ t) e)))

-- where none is found there is none
pub close_none : (bytes : List ℕ) → past_close bytes ≡ None → NoClose bytes
close_none [] h [] after e = (let f : [] ≡ 42 ∷ 47 ∷ after = e in cc)
close_none [] h (x ∷ before) after e = (let f : [] ≡ x ∷ (before ++ (42 ∷ 47 ∷ after)) = e in cc)
close_none (byte ∷ bytes) h [] after e =
    let one : byte ≡ 42 = cc in
    let two : bytes ≡ 47 ∷ after = cc in
    let now : past_close (byte ∷ bytes) ≡ Some after = ap past_close e in
    none-some _ (sym h ∙ now)
close_none (byte ∷ bytes) h (x ∷ before) after e =
    elim (cond_cases (byte == 42 && slice_index bytes 0 == 47) (Some (drop 1 bytes)) (past_close bytes) None h) [
      | inl a ↦ none-some _ (sym a.1)
      | inr a ↦ close_none bytes a.1 before after (let f : bytes ≡ before ++ (42 ∷ 47 ∷ after) = cc in f)
    ]

-- the text up to the closing quote
pub record Ended (quote : ℕ) (hidden : Bool) (bytes after : List ℕ) : Type 0 where
  pub inner : List ℕ
  pub parts : bytes ≡ inner ++ (quote ∷ after)
  pub inside : IsInner quote hidden inner

-- what is found behind a quote stands behind the first one that no backslash hides
pub quote_sound : (quote : ℕ) (hidden : Bool) (bytes after : List ℕ) → past_quote quote hidden bytes ≡ Some after
    → Ended quote hidden bytes after
quote_sound quote hidden [] after h = absurd (none-some _ h)
quote_sound quote true (byte ∷ bytes) after h =
    elim (cond_cases (byte == 10) None (past_quote quote false bytes) (Some after) h) [
      | inl a ↦ absurd (none-some _ a.1)
      | inr a ↦
          let e = quote_sound quote false bytes after a.1 in
          record {
            inner = byte ∷ e.inner;
            parts = ap (λ t. byte ∷ t) e.parts;
            inside =
                (eqb-false byte 10 a.0, e.inside);
          }
    ]
quote_sound quote false (byte ∷ bytes) after h =
    elim (cond_cases (byte == 10) None (cond (byte == quote) (Some bytes) (past_quote quote (byte == 92) bytes))
    (Some after) h) [
      | inl a ↦ absurd (none-some _ a.1)
      | inr a ↦ elim (cond_cases (byte == quote) (Some bytes) (past_quote quote (byte == 92) bytes) (Some after) a.1) [
        | inl b ↦ record {
          inner = [];
          parts =
              (let e : byte ≡ quote = eqb-true byte quote b.0 in let f = b.1 in cc);
          inside = refl;
        }
        | inr b ↦
            let e = quote_sound quote (byte == 92) bytes after b.1 in
            record {
              inner = byte ∷ e.inner;
              parts = ap (λ t. byte ∷ t) e.parts;
              inside =
                  (eqb-false byte 10 a.0, eqb-false byte quote b.0, e.inside);
            }
      ]
    ]

-- what stands behind the first quote that no backslash hides is found
pub quote_full : (quote : ℕ) (hidden : Bool) (inner after : List ℕ) → (quote ≡ 10 → ⊥) → IsInner quote hidden inner
    → past_quote quote hidden (inner ++ (quote ∷ after)) ≡ Some after
quote_full quote true [] after not_feed inside = absurd (false≢true (sym inside))
quote_full quote false [] after not_feed inside = rw (ne_eqb quote 10 not_feed, eq-eqb quote quote refl) refl
quote_full quote true (byte ∷ inner) after not_feed inside =
    rw (ne_eqb byte 10 inside.0) (quote_full quote false inner after not_feed inside.1)
quote_full quote false (byte ∷ inner) after not_feed inside =
    rw (ne_eqb byte 10 inside.0, ne_eqb byte quote inside.1)
    (quote_full quote (byte == 92) inner after not_feed inside.2)
