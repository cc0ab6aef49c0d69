-- Objects without their bytes: what each change of the objects makes of them, and what they tell.
use Rattle.std.proofs.Common.{◌≡◌, ℕ, zero, suc, ◌+◌, ◌<◌, ◌==◌, ◌||◌, ◌&&◌, Bool, true, false, not, cond, List, []}
use Rattle.std.proofs.Common.{◌∷◌, ◌++◌, length, map, replicate, set, slice_get, Option, Some, None, refl, arith, ap}
use Rattle.std.proofs.Common.{sym, ◌∙◌}
use Rattle.std.specs.Prelude.{nat_le}
use Rattle.std.specs.Option.{option_map, option_map_or, option_and_then}
use Rattle.std.specs.List.{list_any, drop-map}
use Rattle.std.proofs.lemmas.List.{length-map, map-append, take-map, map-set}
use Rattle.std.proofs.lemmas.Bool.{le-leb, lt-ltb, and_from, not_from_false}
use Rattle.std.proofs.Math.Seq.{map-set_same}
use Rattle.std.proofs.lemmas.Option.{slice_get-map, get_or_from_slice_get}
use Rattle.object_store.specs.declared.class.Class.{Class}
use Rattle.object_store.specs.declared.class.Class.TheVariants.{Static}
use Rattle.object_store.specs.declared.mark.Mark.{Mark}
use Rattle.object_store.specs.declared.mark.Mark.TheVariants.{Plain}
use Rattle.object_store.specs.declared.cell.Cell.{Cell}
use Rattle.object_store.specs.declared.by.By.{By}
use Rattle.object_store.specs.declared.pointer.Pointer.{Pointer}
use Rattle.object_store.specs.Object.{Object, number_of, place_of, numbered, object_of}
use Rattle.object_store.specs.Storage.{Storage, is_live}
use Rattle.object_store.specs.Steps.{stored_cell, new_object, next_number, with_new, update, with_dead, with_cells}
use Rattle.object_store.specs.Steps.{range, mark_cell, with_mark, with_bytes}
use Rattle.object_store.specs.Ranges.{IsLiveRange}
use Rattle.object_store.specs.Reach.{reach, IsReachedToStore}
use Rattle.object_store.proofs.RangeLemmas.{in_range_to_store, with_bytes_at}
use Rattle.object_store.proofs.CellLists.{length-range}
use Rattle.object_store.proofs.SameReach.{marks, Alike, case_alike, marks-with_cells, marks-stored_cells, unmarked}
use Rattle.object_store.proofs.SameReach.{plain_range}
use Rattle.run_defs.specs.State.{static_object, has_range}
use Rattle.run_defs.specs.Fits.{is_marked, is_plain, is_store}
use Rattle.run_defs.specs.Kept.{outlined, outline, outlines, outlined_store}

-- Objects that are made.

new_cells : (n : ℕ) → map outlined (replicate n (stored_cell None)) ≡ replicate n (stored_cell None)
new_cells zero = refl
new_cells (suc n) = ap (λ cs. stored_cell None ∷ cs) (new_cells n)

static_cells : (bytes : List ℕ)
    → map outlined (map (λ (b : ℕ). stored_cell (Some b)) bytes) ≡ replicate (length bytes) (stored_cell None)
static_cells [] = refl
static_cells (b ∷ bytes) = ap (λ cs. stored_cell None ∷ cs) (static_cells bytes)

with_one : (objects : List Object) (o : Object) (size : ℕ) (class : Class) → outline o ≡ new_object size class
    → outlined_store (objects ++ o ∷ []) ≡ with_new (outlined_store objects) size class
with_one objects o size class is = rw (map-append, is) refl

pub outlines-new : (objects : List Object) (size : ℕ) (class : Class)
    → outlined_store (objects ++ new_object size class ∷ []) ≡ with_new (outlined_store objects) size class
outlines-new objects size class = with_one objects (new_object size class) size class (rw (new_cells size) refl)

pub outlines-static : (objects : List Object) (bytes : List ℕ)
    → outlined_store (objects ++ static_object bytes ∷ []) ≡ with_new (outlined_store objects) (length bytes) Static
outlines-static objects bytes =
    with_one objects (static_object bytes) (length bytes) Static (rw (static_cells bytes) refl)

pub next_number-outlines : (s : Storage) (class : Class)
    → next_number (outlined_store s.objects) class ≡ next_number s class
next_number-outlines s class = rw length-map refl

-- The object of a number.

numbered-outline : (b : Bool) (o : Object)
    → cond b (Some (outline o)) None ≡ option_map outline (cond b (Some o) None)
numbered-outline true o = refl
numbered-outline false o = refl

found-outline : (number : ℕ) (found : Option Object)
    → option_and_then (numbered number) (option_map outline found)
    ≡ option_map outline (option_and_then (numbered number) found)
found-outline number None = refl
found-outline number (Some o) = numbered-outline (number_of o.class (place_of number + 1) == number) o

pub object_of-outlines : (objects : List Object) (number : ℕ)
    → object_of (outlines objects) number ≡ option_map outline (object_of objects number)
object_of-outlines objects number = rw slice_get-map (found-outline number (slice_get objects (place_of number)))

-- a test of the object that tells the same without the bytes
pub test-outlines : (test : Object → Bool) → ((o : Object) → test (outline o) ≡ test o)
    → (objects : List Object) (number : ℕ)
    → option_map_or test (object_of (outlines objects) number) false
    ≡ option_map_or test (object_of objects number) false
test-outlines test same objects number = rw object_of-outlines (found (object_of objects number))
  where
    found : (x : Option Object) → option_map_or test (option_map outline x) false ≡ option_map_or test x false
    found None = refl
    found (Some o) = same o

pub is_live-outlines : (s : Storage) (number : ℕ) → is_live (outlined_store s.objects) number ≡ is_live s number
is_live-outlines s number = test-outlines (λ (o : Object). o.live) (λ o. refl) s.objects number

pub has_range-outlines : (s : Storage) (number at len : ℕ)
    → has_range (outlined_store s.objects) number at len ≡ has_range s number at len
has_range-outlines s number at len = test-outlines (λ (o : Object). o.live && nat_le (at + len) (length o.cells))
    (λ o. rw length-map refl) s.objects number

-- Objects that are changed.

module _ (f g : Object → Object) (same : (o : Object) → outline (f o) ≡ g (outline o)) where
  update_found : (objects : List Object) (i : ℕ) (found : Option Object)
      → outlines (option_map_or (λ (o : Object). set objects i (f o)) found objects)
      ≡ option_map_or (λ (o : Object). set (outlines objects) i (g o)) (option_map outline found) (outlines objects)
  update_found objects i None = refl
  update_found objects i (Some o) = rw (map-set, same o) refl

  outlines-update : (objects : List Object) (number : ℕ)
      → outlines (update objects number f) ≡ update (outlines objects) number g
  outlines-update objects number =
      rw slice_get-map (update_found objects (place_of number) (slice_get objects (place_of number)))

pub outlines-dead : (s : Storage) (number : ℕ)
    → outlined_store (with_dead s number).objects ≡ with_dead (outlined_store s.objects) number
outlines-dead s number = ap (λ os. record { objects = os; budget = 0; open_calls = 0; writes = [] })
    (outlines-update (λ o. record o { live = false }) (λ o. record o { live = false }) (λ o. refl) s.objects number)

range-outlined : (cs : List Cell) (at len : ℕ) → range (map outlined cs) at len ≡ map outlined (range cs at len)
range-outlined cs at len = rw (drop-map, take-map) refl

marked-outlined : (mark : Mark) (cs : List Cell)
    → map outlined (map (mark_cell mark) cs) ≡ map (mark_cell mark) (map outlined cs)
marked-outlined mark [] = refl
marked-outlined mark (c ∷ cs) = ap (λ x. record { byte = None; mark = mark } ∷ x) (marked-outlined mark cs)

with_cells-outlined : (cs : List Cell) (at : ℕ) (other : List Cell)
    → map outlined (with_cells cs at other) ≡ with_cells (map outlined cs) at (map outlined other)
with_cells-outlined cs at other = rw (map-append, map-append, take-map, drop-map, length-map) refl

abbrev remarked : ℕ → ℕ → Mark → Object → Object
remarked at len mark o = record o { cells = with_cells o.cells at (map (mark_cell mark) (range o.cells at len)) }

remarked-outline : (at len : ℕ) (mark : Mark) (o : Object)
    → outline (remarked at len mark o) ≡ remarked at len mark (outline o)
remarked-outline at len mark o = rw (
  with_cells-outlined o.cells at (map (mark_cell mark) (range o.cells at len)),
  marked-outlined mark (range o.cells at len),
  range-outlined o.cells at len,
) refl

pub outlines-mark : (s : Storage) (number at len : ℕ) (mark : Mark)
    → outlined_store (with_mark s number at len mark).objects ≡ with_mark (outlined_store s.objects) number at len mark
outlines-mark s number at len mark = ap (λ os. record { objects = os; budget = 0; open_calls = 0; writes = [] })
    (outlines-update (remarked at len mark) (remarked at len mark) (remarked-outline at len mark) s.objects number)

-- Accesses.

marks-outlined : (cs : List Cell) → marks (map outlined cs) ≡ marks cs
marks-outlined [] = refl
marks-outlined (c ∷ cs) = ap (λ ms. c.mark ∷ ms) (marks-outlined cs)

alike-outline : (x : Option Object) → Alike (option_map outline x) x
alike-outline None = tt
alike-outline (Some o) = (refl, marks-outlined o.cells)

pub reach-outlines : (s : Storage) (place : Pointer) (len align : ℕ) (by : By)
    → reach (outlined_store s.objects) place len align by ≡ reach s place len align by
reach-outlines s place len align by = rw object_of-outlines (case_alike
    (option_map outline (object_of s.objects place.object)) (object_of s.objects place.object)
    (alike-outline (object_of s.objects place.object)) place len align by)

-- Stores.

none_marked : (n : ℕ) → list_any is_marked (replicate n Plain) ≡ false
none_marked zero = refl
none_marked (suc n) = none_marked n

any_marked : (cs : List Cell) → list_any (λ c. is_marked c.mark) cs ≡ list_any is_marked (marks cs)
any_marked [] = refl
any_marked (c ∷ cs) = ap (λ b. is_marked c.mark || b) (any_marked cs)

abbrev of_mark : Mark → Cell
of_mark mark = record { byte = None; mark = mark }

by_marks : (cs : List Cell) → map outlined cs ≡ map of_mark (marks cs)
by_marks [] = refl
by_marks (c ∷ cs) = ap (λ x. of_mark c.mark ∷ x) (by_marks cs)

set_alike : (objects : List Object) (i : ℕ) (o new : Object) → slice_get objects i ≡ Some o → outline new ≡ outline o
    → outlines (set objects i new) ≡ outlines objects
set_alike objects i o new at same =
    map-set_same outline objects i new o (rw (get_or_from_slice_get objects i o o at) same)

module _ (s : Storage) (place : Pointer) (bytes : List (Option ℕ))
    (reached : IsReachedToStore s place (length bytes)) where
  its_range : IsLiveRange s.objects place (length bytes)
  its_range = in_range_to_store s place (length bytes) reached

  its_marks : marks (range its_range.object.cells place.offset (length bytes)) ≡ replicate (length bytes) Plain
  its_marks =
      let r : IsLiveRange s.objects place (length bytes) = its_range in
      let count : length (range r.object.cells place.offset (length bytes)) ≡ length bytes =
      length-range r.object.cells place.offset (length bytes) (omega (arith, r.high, r.within)) in
      rw count at (unmarked (range r.object.cells place.offset (length bytes))
      (plain_range s place (length bytes) reached r))

  -- a store leaves the objects as they are but for bytes
  pub outlines-stored : outlines (with_bytes s.objects place bytes) ≡ outlines s.objects
  outlines-stored =
      let r : IsLiveRange s.objects place (length bytes) = its_range in
      let o : Object = r.object in
      let new : Object = record o { cells = with_cells o.cells place.offset (map stored_cell bytes) } in
      let same_marks : marks new.cells ≡ marks o.cells =
      marks-with_cells o.cells place.offset (length bytes) (map stored_cell bytes) (length-map bytes stored_cell)
      (marks-stored_cells bytes ∙ sym its_marks) in
      let same_cells : map outlined new.cells ≡ map outlined o.cells =
      by_marks new.cells ∙ ap (map of_mark) same_marks ∙ sym (by_marks o.cells) in
      let same : outline new ≡ outline o = ap (λ cs. record o { cells = cs }) same_cells in
      rw (with_bytes_at s.objects place bytes o r.at) (set_alike s.objects (place_of place.object) o new r.at same)

  its_store : 0 < length bytes
      → is_store s (record { object = place.object; at = place.offset; len = length bytes }) ≡ true
  its_store some =
      let r : IsLiveRange s.objects place (length bytes) = its_range in
      let o : Object = r.object in
      let inside : nat_le (place.offset + length bytes) (length o.cells) ≡ true =
      le-leb (place.offset + length bytes) (length o.cells) (omega (arith, r.high, r.within)) in
      let plain : is_plain place.offset (length bytes) o ≡ true =
      not_from_false _ (rw (any_marked (range o.cells place.offset (length bytes)), its_marks)
      (none_marked (length bytes))) in
      and_from _ _ (lt-ltb 0 (length bytes) some) (rw r.own (and_from _ _ (and_from _ _ r.live inside) plain))

outlined-again : (cs : List Cell) (at len : ℕ) → marks (range (map outlined cs) at len) ≡ marks (range cs at len)
outlined-again cs at len = rw (range-outlined cs at len) (marks-outlined (range cs at len))

is_plain-outline : (at len : ℕ) (o : Object) → is_plain at len (outline o) ≡ is_plain at len o
is_plain-outline at len o = ap not (any_marked (range (map outlined o.cells) at len)
    ∙ ap (list_any is_marked) (outlined-again o.cells at len) ∙ sym (any_marked (range o.cells at len)))

pub is_store-outlines : (s : Storage) (place : Pointer) (bytes : List (Option ℕ))
    → IsReachedToStore s place (length bytes) → 0 < length bytes
    → is_store (outlined_store s.objects) (record { object = place.object; at = place.offset; len = length bytes })
    ≡ true
is_store-outlines s place bytes reached some = rw (
  has_range-outlines s place.object place.offset (length bytes),
  test-outlines (is_plain place.offset (length bytes)) (is_plain-outline place.offset (length bytes)) s.objects
      place.object,
) (its_store s place bytes reached some)
