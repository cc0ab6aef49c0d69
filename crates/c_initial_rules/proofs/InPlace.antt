-- Ranges in rising place: two lists in rising place are one where of each place they have the same ranges in the same
-- order. So what is put in place one by one is what a stable sort gives.
use Rattle.std.proofs.Common.{◌≡◌, ◌∙◌, ℕ, ◌≤◌, ◌<◌, Bool, true, false, cond, List, [], ◌∷◌, ◌++◌, filter, ap, sym, refl}
use Rattle.std.proofs.Common.{suc, length, get_or, arith, tests, append-nil, append_assoc, nat_lt, ◌==◌, if◌then◌else◌, not, ◌&&◌, nat_cmp, is_lt}
use Rattle.std.specs.List.Sorted.{IsStableByKey, IsNonDecreasingBy}
use Rattle.c_core.specs.declared.function.Range.{Range}
use Rattle.c_initial_rules.specs.Seals.{behind_earlier, put_in_place}

-- they begin at one byte
abbrev same : Range → Range → Bool
same one other = one.at == other.at

-- none begins before a byte
abbrev From : ℕ → List Range → Type 0
From at [] = Unit {0}
From at (first ∷ rest) = (at ≤ first.at) × From at rest

-- each begins no later than those behind it
abbrev pub Rises : List Range → Type 0
Rises [] = Unit {0}
Rises (first ∷ rest) = From first.at rest × Rises rest

from_less : (a b : ℕ) (all : List Range) → a ≤ b → From b all → From a all
from_less a b [] l h = tt
from_less a b (first ∷ rest) l h = (omega (arith, l, h.0), from_less a b rest l h.1)

differs : (a b : ℕ) → a < b → (a == b) ≡ false
differs a b l = grind (arith, tests, l)

agrees : (a : ℕ) → (a == a) ≡ true
agrees a = grind (arith, tests)

equal : (a b : ℕ) → (a == b) ≡ true → a ≡ b
equal a b e = grind (arith, tests, e)

below : (a b : ℕ) → nat_lt a b ≡ true → a < b
below a b e = grind (arith, tests, e)

not_below : (a b : ℕ) → nat_lt a b ≡ false → b ≤ a
not_below a b e = grind (arith, tests, e)

-- none of them begins where an earlier one does
none_same : (x : Range) (b : ℕ) (all : List Range) → x.at < b → From b all → filter (same x) all ≡ []
none_same x b [] l h = refl
none_same x b (first ∷ rest) l h =
    ap (λ t. cond t (first ∷ filter (same x) rest) (filter (same x) rest)) (differs x.at first.at (omega (arith, l, h.0)))
    ∙ none_same x b rest l h.1

-- ---- one range is put behind those that begin no later

module _ (x range first : Range) (rest : List Range) where
  abbrev others : List Range
  others = filter (same x) (first ∷ rest)

  in_front : (b : Bool) → same x range ≡ b → range.at < first.at → From first.at rest
      → cond b (range ∷ others) others ≡ others ++ cond b (range ∷ []) []
  in_front true e l up =
      let none : others ≡ [] = none_same x first.at (first ∷ rest) (omega (arith, l, equal x.at range.at e)) (omega arith, up) in
      ap (λ (xs : List Range). range ∷ xs) none ∙ ap (λ (xs : List Range). xs ++ range ∷ []) (sym none)
  in_front false e l up = sym (append-nil others)

  behind : (b : Bool) (ys zs : List Range) → ys ≡ filter (same x) rest ++ zs
      → cond b (first ∷ ys) ys ≡ cond b (first ∷ filter (same x) rest) (filter (same x) rest) ++ zs
  behind true ys zs e = ap (λ (xs : List Range). first ∷ xs) e
  behind false ys zs e = e

by_test : (x range first : Range) (rest : List Range) → Rises (first ∷ rest)
    → filter (same x) (behind_earlier range rest) ≡ filter (same x) rest ++ filter (same x) (range ∷ [])
    → (b : Bool) → nat_lt range.at first.at ≡ b
    → filter (same x) (if b then range ∷ first ∷ rest else first ∷ behind_earlier range rest)
    ≡ filter (same x) (first ∷ rest) ++ filter (same x) (range ∷ [])
by_test x range first rest up inner true e =
    in_front x range first rest (same x range) refl (below range.at first.at e) up.0
by_test x range first rest up inner false e =
    behind x range first rest (same x first) (filter (same x) (behind_earlier range rest)) (filter (same x) (range ∷ []))
    inner

behind_filter : (x range : Range) (all : List Range) → Rises all
    → filter (same x) (behind_earlier range all) ≡ filter (same x) all ++ filter (same x) (range ∷ [])
behind_filter x range [] up = refl
behind_filter x range (first ∷ rest) up =
    by_test x range first rest up (behind_filter x range rest up.1) (nat_lt range.at first.at) refl

from_test : (at : ℕ) (range first : Range) (rest : List Range) → From at (behind_earlier range rest) → (b : Bool)
    → at ≤ range.at → From at (first ∷ rest)
    → From at (if b then range ∷ first ∷ rest else first ∷ behind_earlier range rest)
from_test at range first rest inner true l h = (l, h)
from_test at range first rest inner false l h = (h.0, inner)

from_behind : (at : ℕ) (range : Range) (all : List Range) → at ≤ range.at → From at all
    → From at (behind_earlier range all)
from_behind at range [] l h = (l, tt)
from_behind at range (first ∷ rest) l h =
    from_test at range first rest (from_behind at range rest l h.1) (nat_lt range.at first.at) l h

rises_test : (range first : Range) (rest : List Range) → Rises (behind_earlier range rest) → (b : Bool)
    → nat_lt range.at first.at ≡ b → Rises (first ∷ rest)
    → Rises (if b then range ∷ first ∷ rest else first ∷ behind_earlier range rest)
rises_test range first rest inner true e up =
    let l = below range.at first.at e in
    ((omega (arith, l), from_less range.at first.at rest (omega (arith, l)) up.0), up)
rises_test range first rest inner false e up =
    (from_behind first.at range rest (not_below range.at first.at e) up.0, inner)

rises_behind : (range : Range) (all : List Range) → Rises all → Rises (behind_earlier range all)
rises_behind range [] up = (tt, tt)
rises_behind range (first ∷ rest) up =
    rises_test range first rest (rises_behind range rest up.1) (nat_lt range.at first.at) refl up

-- ---- all are put in place

one_more : (b : Bool) (range : Range) (xs : List Range) → cond b (range ∷ []) [] ++ xs ≡ cond b (range ∷ xs) xs
one_more true range xs = refl
one_more false range xs = refl

put_filter : (x : Range) (done all : List Range) → Rises done
    → filter (same x) (put_in_place done all) ≡ filter (same x) done ++ filter (same x) all
put_filter x done [] up = sym (append-nil (filter (same x) done))
put_filter x done (range ∷ rest) up =
    put_filter x (behind_earlier range done) rest (rises_behind range done up)
    ∙ ap (λ xs. xs ++ filter (same x) rest) (behind_filter x range done up)
    ∙ append_assoc (filter (same x) done) (filter (same x) (range ∷ [])) (filter (same x) rest)
    ∙ ap (λ xs. filter (same x) done ++ xs) (one_more (same x range) range (filter (same x) rest))

rises_put : (done all : List Range) → Rises done → Rises (put_in_place done all)
rises_put done [] up = up
rises_put done (range ∷ rest) up = rises_put (behind_earlier range done) rest (rises_behind range done up)

-- ---- there is one such order

abbrev head_or : Range → List Range → Range
head_or other [] = other
head_or other (first ∷ rest) = first

abbrev behind_head : List Range → List Range
behind_head [] = []
behind_head (first ∷ rest) = rest

-- of those that begin where a range does, one is the range itself
itself : (x : Range) (xs : List Range) → filter (same x) (x ∷ xs) ≡ x ∷ filter (same x) xs
itself x xs = ap (λ b. cond b (x ∷ filter (same x) xs) (filter (same x) xs)) (agrees x.at)

no_later : (x y : Range) (xs ys : List Range) (b : Bool) → nat_lt x.at y.at ≡ b → From y.at ys
    → filter (same x) (x ∷ xs) ≡ filter (same x) (y ∷ ys) → y.at ≤ x.at
no_later x y xs ys true e up same_ones =
    let l = below x.at y.at e in
    let none : x ∷ filter (same x) xs ≡ [] =
    sym (itself x xs) ∙ same_ones ∙ none_same x y.at (y ∷ ys) l (omega arith, up) in
    absurd (cc)
no_later x y xs ys false e up same_ones = not_below x.at y.at e

rest_alike : (b : Bool) (x y : Range) (xs ys : List Range) → cond b (x ∷ xs) xs ≡ cond b (y ∷ ys) ys → xs ≡ ys
rest_alike true x y xs ys e = ap behind_head e
rest_alike false x y xs ys e = e

pub one_order : (xs ys : List Range) → Rises xs → Rises ys
    → ((x : Range) → filter (same x) xs ≡ filter (same x) ys) → xs ≡ ys
one_order [] [] up vp e = refl
one_order [] (y ∷ ys) up vp e =
    let none : [] ≡ y ∷ filter (same y) ys = e y ∙ itself y ys in absurd (cc)
one_order (x ∷ xs) [] up vp e =
    let none : x ∷ filter (same x) xs ≡ [] = sym (itself x xs) ∙ e x in absurd (cc)
one_order (x ∷ xs) (y ∷ ys) up vp e =
    let low = no_later x y xs ys (nat_lt x.at y.at) refl vp.0 (e x) in
    let high = no_later y x ys xs (nat_lt y.at x.at) refl up.0 (sym (e y)) in
    let at : x.at ≡ y.at = omega (arith, low, high) in
    let here : filter (same x) (y ∷ ys) ≡ y ∷ filter (same x) ys =
    ap (λ (n : ℕ). cond (n == y.at) (y ∷ filter (same x) ys) (filter (same x) ys)) at
    ∙ ap (λ b. cond b (y ∷ filter (same x) ys) (filter (same x) ys)) (agrees y.at) in
    let first : x ≡ y = ap (head_or x) (sym (itself x xs) ∙ e x ∙ here) in
    let rest : xs ≡ ys = one_order xs ys up.1 vp.1 (λ z.
    rest_alike (same z x) x y (filter (same z) xs) (filter (same z) ys)
    (e z ∙ ap (λ (w : Range). cond (same z w) (y ∷ filter (same z) ys) (filter (same z) ys)) (sym first))) in
    λ i. first i ∷ rest i

-- ---- what a stable sort by places gives

rises_from : (first : Range) (rest : List Range) (n : ℕ)
    → ((j : ℕ) (d : Range) → j < length rest → n ≤ (get_or rest j d).at) → From n rest
rises_from first [] n h = tt
rises_from first (second ∷ rest) n h =
    (h 0 first (omega arith), rises_from second rest n (λ j d l. h (suc j) d (omega (arith, l))))

rises_sorted : (all : List Range) → IsNonDecreasingBy (λ (range : Range). range.at) all → Rises all
rises_sorted [] up = tt
rises_sorted (first ∷ rest) up = (
  rises_from first rest first.at (λ j d l. up 0 (suc j) d (omega arith) (omega (arith, l))),
  rises_sorted rest (λ i j d le l. up (suc i) (suc j) d (omega (arith, le)) (omega (arith, l))),
)

tied : (a b : ℕ) → not (is_lt (nat_cmp a b)) && not (is_lt (nat_cmp b a)) ≡ (a == b)
tied a b = grind (arith, tests)

pub sorted_in_place : (before after : List Range) → IsNonDecreasingBy (λ (range : Range). range.at) after
    → IsStableByKey (λ (range : Range). range.at) nat_cmp before after → after ≡ put_in_place [] before
sorted_in_place before after up stable =
    one_order after (put_in_place [] before) (rises_sorted after up) (rises_put [] before tt) (λ x.
    (λ i. filter (λ (y : Range). sym (tied x.at y.at) i) after)
    ∙ stable x
    ∙ (λ i. filter (λ (y : Range). tied x.at y.at i) before)
    ∙ sym (put_filter x [] before tt))
