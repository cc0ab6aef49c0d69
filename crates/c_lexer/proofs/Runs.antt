-- Bytes of one class, and the run of them at the front.
use Rattle.std.proofs.Common.{◌≡◌, ℕ, zero, suc, ◌+◌, ◌≤◌, List, [], ◌∷◌, ◌++◌, Bool, true, false, ◌==◌, ◌&&◌, cond}
use Rattle.std.proofs.Common.{length, take, drop, refl, ◌∙◌, ap, arith}
use Rattle.std.proofs.Math.Numerals.{one-add}
use Rattle.std.proofs.Math.Seq.{take-append_seam, drop-append_seam}
use Rattle.std.proofs.lemmas.Bool.{and_parts, and_from, eqb-true, eqb-false, eq-eqb, ne_eqb}
use Rattle.std.proofs.lemmas.List.Folds.{list_all-append}
use Rattle.std.specs.List.{prefix_len, list_all}
use Rattle.c_lexer.specs.declared.bytes.Class.TheVariants.{Line}
use Rattle.c_lexer.specs.Classes.{is_in}
use Rattle.c_lexer.specs.LexicalParts.{EndsLine}

-- bytes of a class are of each class around it
pub all_weaker : (p q : ℕ → Bool) (xs : List ℕ) → ((x : ℕ) → p x ≡ true → q x ≡ true) → list_all p xs ≡ true
    → list_all q xs ≡ true
all_weaker p q [] weaker all = refl
all_weaker p q (x ∷ xs) weaker all =
    let parts = and_parts (p x) (list_all p xs) all in
    and_from _ _ (weaker x parts.0) (all_weaker p q xs weaker parts.1)

-- bytes of a class behind bytes of it
pub all_joined : (p : ℕ → Bool) (xs ys : List ℕ) → list_all p xs ≡ true → list_all p ys ≡ true
    → list_all p (xs ++ ys) ≡ true
all_joined p xs ys one other = list_all-append p xs ys ∙ and_from _ _ one other

-- what is as long as the front is the front
pub front_taken : (count : ℕ) (front rest : List ℕ) → count ≡ length front → take count (front ++ rest) ≡ front
front_taken count front rest is = ap (λ n. take n (front ++ rest)) is ∙ take-append_seam front rest

-- and what follows it is what follows
pub front_dropped : (count : ℕ) (front rest : List ℕ) → count ≡ length front → drop count (front ++ rest) ≡ rest
front_dropped count front rest is = ap (λ n. drop n (front ++ rest)) is ∙ drop-append_seam front rest

-- one byte more of the run, for `run_all`
run_step : (p : ℕ → Bool) (x : ℕ) (xs : List ℕ) (b : Bool) → p x ≡ b → list_all p (take (prefix_len p xs) xs) ≡ true
    → list_all p (take (cond b (1 + prefix_len p xs) 0) (x ∷ xs)) ≡ true
run_step p x xs true is more = rw one-add (and_from _ _ is more)
run_step p x xs false is more = refl

-- each byte of the run is of the class
pub run_all : (p : ℕ → Bool) (xs : List ℕ) → list_all p (take (prefix_len p xs) xs) ≡ true
run_all p [] = refl
run_all p (x ∷ xs) = run_step p x xs (p x) refl (run_all p xs)

-- a run that is followed by none of the class
pub run_whole : (p : ℕ → Bool) (ds rest : List ℕ) → list_all p ds ≡ true → prefix_len p rest ≡ 0
    → prefix_len p (ds ++ rest) ≡ length ds
run_whole p [] rest all ends = ends
run_whole p (d ∷ ds) rest all ends =
    let parts = and_parts (p d) (list_all p ds) all in
    rw (parts.0, run_whole p ds rest parts.1 ends, one-add) refl

-- and for `run_part`
part_step : (p : ℕ → Bool) (x : ℕ) (xs : List ℕ) (k : ℕ) (b : Bool) → p x ≡ b
    → suc k ≤ cond b (1 + prefix_len p xs) 0 → (k ≤ prefix_len p xs → list_all p (take k xs) ≡ true)
    → list_all p (take (suc k) (x ∷ xs)) ≡ true
part_step p x xs k true is le more = and_from _ _ is (more (omega arith))
part_step p x xs k false is le more = absurd (omega arith)

-- each part of the run is of the class
pub run_part : (p : ℕ → Bool) (xs : List ℕ) (k : ℕ) → k ≤ prefix_len p xs → list_all p (take k xs) ≡ true
run_part p xs zero le = refl
run_part p [] (suc k) le = refl
run_part p (x ∷ xs) (suc k) le = part_step p x xs k (p x) refl le (run_part p xs k)

-- and for `run_ends`
ends_step : (p : ℕ → Bool) (x : ℕ) (xs : List ℕ) (b : Bool) → p x ≡ b → prefix_len p (drop (prefix_len p xs) xs) ≡ 0
    → prefix_len p (drop (cond b (1 + prefix_len p xs) 0) (x ∷ xs)) ≡ 0
ends_step p x xs true is more = rw one-add more
ends_step p x xs false is more = rw is refl

-- none of the class follows the run
pub run_ends : (p : ℕ → Bool) (xs : List ℕ) → prefix_len p (drop (prefix_len p xs) xs) ≡ 0
run_ends p [] = refl
run_ends p (x ∷ xs) = ends_step p x xs (p x) refl (run_ends p xs)

-- a run is as long as what of it is known
pub run_least : (p : ℕ → Bool) (ds rest : List ℕ) → list_all p ds ≡ true → length ds ≤ prefix_len p (ds ++ rest)
run_least p [] rest all = omega arith
run_least p (d ∷ ds) rest all =
    let parts = and_parts (p d) (list_all p ds) all in
    let more = run_least p ds rest parts.1 in
    rw parts.0 (omega arith)

-- numbers are equal where the next ones are
eq_suc : (a b : ℕ) (t : Bool) → (a == b) ≡ t → (suc a == suc b) ≡ t
eq_suc a b true h = eq-eqb (suc a) (suc b) (ap suc (eqb-true a b h))
eq_suc a b false h = ne_eqb (suc a) (suc b) (λ (e : suc a ≡ suc b). eqb-false a b h (omega arith))

-- one byte more, for `run_is_all`
all_step : (p : ℕ → Bool) (x : ℕ) (xs : List ℕ) (b : Bool) → p x ≡ b
    → (prefix_len p xs == length xs) ≡ list_all p xs → (cond b (1 + prefix_len p xs) 0 == length (x ∷ xs))
    ≡ (b && list_all p xs)
all_step p x xs true is more = rw one-add (eq_suc (prefix_len p xs) (length xs) (list_all p xs) more)
all_step p x xs false is more = ne_eqb 0 (suc (length xs)) (λ (e : 0 ≡ suc (length xs)). omega arith)

-- all are of the class where the run is whole
pub run_is_all : (p : ℕ → Bool) (xs : List ℕ) → (prefix_len p xs == length xs) ≡ list_all p xs
run_is_all p [] = refl
run_is_all p (x ∷ xs) = all_step p x xs (p x) refl (run_is_all p xs)

-- a line goes no further than its end
pub line_ends : (rest : List ℕ) → EndsLine rest → prefix_len (is_in Line) rest ≡ 0
line_ends [] ends = refl
line_ends (byte ∷ rest) ends = ap (λ b. prefix_len (is_in Line) (b ∷ rest)) ends
