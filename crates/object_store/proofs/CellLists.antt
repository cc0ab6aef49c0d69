-- Loops that write the elements of a list over those of another, from a place on, upwards or downwards.
use Rattle.std.proofs.Common.{◌≡◌, ℕ, ◌+◌, ◌<◌, ◌≤◌, List, [], ◌∷◌, ◌++◌, length, get_or, set, take, drop, map, arith}
use Rattle.std.proofs.Common.{refl, sym, ◌∙◌, add-zero, append_assoc}
use Rattle.std.proofs.lemmas.List.{places, take_all, drop_more, set_at, take_more, length-map, get_or-map}
use Rattle.std.proofs.lemmas.List.{get_or-take, get_or-drop, length-take-le, length-drop}
use Rattle.std.proofs.lemmas.List.Edits.{paste_more}
use lib.Seq.{paste}
use Rattle.object_store.specs.declared.cell.Cell.{Cell}
use Rattle.object_store.specs.Steps.{with_cells, range}

-- the lowest are written first
pub paste_step : (d : List Cell) (at : ℕ) (s : List Cell) (cells : List Cell) (i : ℕ) (v : Cell)
    → cells ≡ paste d at s i
    → at + i < length d → i < length s → get_or s i v ≡ v → set cells (at + i) v ≡ paste d at s (i + 1)
paste_step d at s cells i v same room more is =
    rw same (rw (← is) (paste_more d at s i v room more))

-- the same where the list that is written is mapped
pub map_step : {X : Type 0} (f : X → Cell) (d : List Cell) (at : ℕ) (xs : List X) (cells : List Cell) (i : ℕ)
    (v : Cell) (x : X)
    → cells ≡ paste d at (map f xs) i → at + length xs ≤ length d → i < length xs → v ≡ f (get_or xs i x)
    → set cells (at + i) v ≡ paste d at (map f xs) (i + 1)
map_step f d at xs cells i v x same room more is =
    paste_step d at (map f xs) cells i v same (omega arith) (rw length-map more) (get_or-map f xs i x v more ∙ sym is)

pub get_or-range : (d : List Cell) (at len i : ℕ) (e : Cell) → i < len
    → get_or (range d at len) i e ≡ get_or d (at + i) e
get_or-range d at len i e more = rw get_or-take (get_or-drop at d i e)

pub length-range : (d : List Cell) (at len : ℕ) → at + len ≤ length d → length (range d at len) ≡ len
length-range d at len room = length-take-le len (drop at d) (rw (length-drop at d) (omega arith))

-- once all is written, the range is replaced
pub paste_is : (d : List Cell) (at : ℕ) (s : List Cell) (n : ℕ) → n ≡ length s → paste d at s n ≡ with_cells d at s
paste_is d at s n e = rw (e, take_all (length s) s (omega arith)) refl

-- what was not written yet is as it was
pub get_or-paste : (d : List Cell) (at : ℕ) (s : List Cell) (n k : ℕ) (e : Cell) → at + n ≤ k → k < length d
    → n ≤ length s
    → get_or (paste d at s n) k e ≡ get_or d k e
get_or-paste d at s n k e beyond within all = grind (arith, places)

-- the highest are written first
abbrev pub paste_back : List Cell → ℕ → List Cell → ℕ → List Cell
paste_back d at s n = take (at + n) d ++ (drop n s ++ drop (at + length s) d)

-- before the first step nothing is written
pub paste_back_none : (d : List Cell) (at : ℕ) (s : List Cell) (n : ℕ) → n ≡ length s → d ≡ paste_back d at s n
paste_back_none d at s n e = grind (arith, places)

-- once all is written, the range is replaced
pub paste_back_all : (d : List Cell) (at : ℕ) (s : List Cell) → paste_back d at s 0 ≡ with_cells d at s
paste_back_all d at s = rw add-zero (sym (append_assoc (take at d) s (drop (at + length s) d)))

-- one element more is written, before those that are
pub paste_back_step : (d : List Cell) (at : ℕ) (s : List Cell) (cells : List Cell) (n : ℕ) (v : Cell)
    → cells ≡ paste_back d at s (n + 1)
    → at + length s ≤ length d → n < length s → get_or s n v ≡ v → set cells (at + n) v ≡ paste_back d at s n
paste_back_step d at s cells n v same room more is =
    let p : List Cell = take (at + n) d in
    let q : List Cell = drop (n + 1) s ++ drop (at + length s) d in
    let up : at + (n + 1) ≡ at + n + 1 = omega arith in
    let split : take (at + (n + 1)) d ≡ p ++ get_or d (at + n) v ∷ [] = rw up (take_more d (at + n) v (omega arith)) in
    let rest : drop n s ≡ v ∷ drop (n + 1) s = rw is at (drop_more s n v more) in
    rw (same, split, append_assoc p (get_or d (at + n) v ∷ []) q, rest)
    (set_at p (get_or d (at + n) v) q v (at + n) (length-take-le (at + n) d (omega arith)))

-- what was not written yet is as it was
pub get_or-paste_back : (d : List Cell) (at : ℕ) (s : List Cell) (n k : ℕ) (e : Cell) → k < at + n → at + n ≤ length d
    → get_or (paste_back d at s n) k e ≡ get_or d k e
get_or-paste_back d at s n k e before within = grind (arith, places)

-- what a loop upwards reads next, while it writes, is as it was
pub read_paste : (d : List Cell) (at : ℕ) (s : List Cell) (n : ℕ) (cells : List Cell) → cells ≡ paste d at s n
    → (from len i : ℕ) (e : Cell) → i < len → from + len ≤ length d → at + n ≤ from + i → n ≤ length s
    → get_or cells (from + i) e ≡ get_or (range d from len) i e
read_paste d at s n cells same from len i e more room beyond all =
    rw same (get_or-paste d at s n (from + i) e beyond (omega arith) all ∙ sym (get_or-range d from len i e more))

-- what a loop downwards reads next, while it writes, is as it was
pub read_paste_back : (d : List Cell) (at : ℕ) (s : List Cell) (n : ℕ) (cells : List Cell) → cells ≡ paste_back d at s n
    → (from len i : ℕ) (e : Cell) → i < len → from + i < at + n → at + n ≤ length d
    → get_or cells (from + i) e ≡ get_or (range d from len) i e
read_paste_back d at s n cells same from len i e more before within =
    rw same (get_or-paste_back d at s n (from + i) e before within ∙ sym (get_or-range d from len i e more))

-- a step downwards where the list that is written is mapped
pub map_step_back : {X : Type 0} (f : X → Cell) (d : List Cell) (at : ℕ) (xs : List X) (cells : List Cell) (m n : ℕ)
    (v : Cell) (x : X)
    → m ≡ n + 1 → cells ≡ paste_back d at (map f xs) m → at + length xs ≤ length d → n < length xs
    → v ≡ f (get_or xs n x)
    → set cells (at + n) v ≡ paste_back d at (map f xs) n
map_step_back f d at xs cells m n v x up same room more is =
    paste_back_step d at (map f xs) cells n v (rw (← up) same) (rw length-map room) (rw length-map more)
    (get_or-map f xs n x v more ∙ sym is)
