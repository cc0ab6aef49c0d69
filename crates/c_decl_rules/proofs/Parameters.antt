-- Lists of parameters, compared from the front.
use Rattle.std.proofs.Common.{◌≡◌, ◌≢◌, ℕ, suc, ◌+◌, ◌<◌, ◌≤◌, List, [], ◌∷◌, length, drop, refl, ap, sym, ◌∙◌}
use Rattle.std.proofs.Common.{slice_index_or}
use Rattle.std.specs.Prelude.{Bool, true, false, ◌&&◌}
use Rattle.std.proofs.lemmas.List.{drop_more, drop_all}
use Rattle.c_types.specs.declared.shape.TypeId.{TypeId}
use Rattle.c_types.specs.CType.{CType, type_at, types_at}
use Rattle.c_decl_rules.specs.SameType.{same, all_same}

-- a condition that fails
and-false : (b : Bool) → (b && false) ≡ false
and-false true = refl
and-false false = refl

-- lists of different lengths are not the same
pub lengths_differ : (all : List CType) (xs ys : List TypeId) → length xs ≢ length ys
    → all_same (types_at all xs) (types_at all ys) ≡ false
unfolding all_same
lengths_differ all [] [] h = absurd (h refl)
lengths_differ all [] (y ∷ ys) h = refl
lengths_differ all (x ∷ xs) [] h = refl
lengths_differ all (x ∷ xs) (y ∷ ys) h =
    let rest = lengths_differ all xs ys (λ e. h (ap (λ n. suc n) e)) in
    rw rest (and-false _)

-- lists without parameters are the same
pub both_end : (all : List CType) → all_same (types_at all []) (types_at all []) ≡ true
unfolding all_same
both_end all = refl

-- parameters are the same where the first and the rest are
opened : (all : List CType) (x y : TypeId) (xs ys : List TypeId)
    → all_same (types_at all (x ∷ xs)) (types_at all (y ∷ ys))
    ≡ (same (type_at all x) (type_at all y) false && all_same (types_at all xs) (types_at all ys))
unfolding all_same
opened all x y xs ys = refl

-- the same from an index on
first_same : (all : List CType) (xs ys : List TypeId) (i : ℕ) (d e : TypeId) → i < length xs → i < length ys
    → all_same (types_at all (drop i xs)) (types_at all (drop i ys))
    ≡ (same (type_at all (slice_index_or xs i d)) (type_at all (slice_index_or ys i e)) false
    && all_same (types_at all (drop (i + 1) xs)) (types_at all (drop (i + 1) ys)))
first_same all xs ys i d e p q =
    let l = drop_more xs i d p in
    let r = drop_more ys i e q in
    rw (l, r) (opened all _ _ _ _)

-- the next parameters are the same, so the rest decides
pub next_same : (all : List CType) (xs ys : List TypeId) (i : ℕ) (d e : TypeId) (b : Bool) → i < length xs
    → i < length ys → b ≡ same (type_at all (slice_index_or xs i d)) (type_at all (slice_index_or ys i e)) false
    → b ≡ true → all_same (types_at all (drop i xs)) (types_at all (drop i ys))
    ≡ all_same (types_at all (drop (i + 1) xs)) (types_at all (drop (i + 1) ys))
next_same all xs ys i d e b p q given agrees =
    first_same all xs ys i d e p q
    ∙ ap (λ (x : Bool). x && all_same (types_at all (drop (i + 1) xs)) (types_at all (drop (i + 1) ys)))
    (sym given ∙ agrees)

-- the next parameters are not the same
pub next_differs : (all : List CType) (xs ys : List TypeId) (i : ℕ) (d e : TypeId) (b : Bool) → i < length xs
    → i < length ys → b ≡ same (type_at all (slice_index_or xs i d)) (type_at all (slice_index_or ys i e)) false
    → b ≡ false → all_same (types_at all (drop i xs)) (types_at all (drop i ys)) ≡ false
next_differs all xs ys i d e b p q given differs =
    first_same all xs ys i d e p q
    ∙ ap (λ (x : Bool). x && all_same (types_at all (drop (i + 1) xs)) (types_at all (drop (i + 1) ys)))
    (sym given ∙ differs)

-- no parameters are left
pub none_left : (all : List CType) (xs ys : List TypeId) (i : ℕ) → length xs ≤ i → length ys ≤ i
    → all_same (types_at all (drop i xs)) (types_at all (drop i ys)) ≡ true
none_left all xs ys i p q = rw (drop_all i xs p, drop_all i ys q) (both_end all)
