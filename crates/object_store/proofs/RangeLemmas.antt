-- What is known of a range that was reached.
use Rattle.std.proofs.Common.{◌≡◌, ◌≢◌, ℕ, suc, zero, ◌++◌, map, set, get_or, ◌+◌, ◌%◌, ◌<◌, ◌≤◌, ◌==◌, Bool, true}
use Rattle.std.proofs.Common.{false, cond, not, ◌&&◌, List, [], ◌∷◌, length, drop, slice_get, Option, Some, None}
use Rattle.std.proofs.Common.{IsSome, refl, arith, ap, sym, ◌∙◌}
use Rattle.std.specs.Option.{option_and_then, option_or}
use Rattle.std.proofs.lemmas.Grind.{common_steps}
use Rattle.std.proofs.lemmas.Option.{same_Some, get_or_from_slice_get}
use Rattle.std.proofs.lemmas.List.{places, set-set, length-map, length-set}
use Rattle.std.proofs.lemmas.List.Elements.{All-set}
use Rattle.critical_table.specs.declared.case.Case.{Case}
use Rattle.critical_table.specs.declared.case.Case.TheVariants.{L1, L4, L6, L7, L9, L11, L12}
use Rattle.object_store.specs.declared.by.By.{By}
use Rattle.object_store.specs.declared.by.By.TheVariants.{Star, Arrow, Store, TextRead, TextWrite, OtherRead}
use Rattle.object_store.specs.declared.by.By.TheVariants.{OtherWrite}
use Rattle.object_store.specs.declared.pointer.Pointer.{Pointer}
use Rattle.object_store.specs.declared.cell.Cell.{Cell}
use Rattle.object_store.specs.declared.writes.Write.{Write}
use Rattle.object_store.specs.Object.{Object, place_of, numbered, object_of}
use Rattle.object_store.specs.Storage.{Storage, live_size, live_sum, largest_size, IsConsistent}
use Rattle.object_store.specs.Steps.{with_cells, stored_cell, cells_of, bytes_in, range, with_bytes, with_store}
use Rattle.object_store.specs.Reach.{Access, columns, first_case, reach_table, access, is_no_object, is_dead_even}
use Rattle.object_store.specs.Reach.{is_dead_odd, has_wrong_bounds, is_at_end, is_outside, is_misaligned, IsReached}
use Rattle.object_store.specs.Reach.{IsReachedToStore}
use Rattle.object_store.specs.Ranges.{IsLiveRange}
use Rattle.object_store.proofs.Found.{numbered_same}
use Rattle.object_store.proofs.CellLists.{length-range}
use Rattle.object_store.proofs.Counting.{live_sum-set_same, size_at}

-- a row that has a case in the column, and is passed, does not hold
row_passed : (b : Bool) (o rest : Option Case) → option_or (cond b o None) rest ≡ None → IsSome o
    → (b ≡ false) × (rest ≡ None)
row_passed true None rest h some = cc
row_passed true (Some c) rest h some = cc
row_passed false o rest h some = (refl, h)

-- these rows have a case in each column
columns-some : (c1 c2 c3 c4 c5 c6 c7 : Case) (by : By)
    → IsSome (columns (Some c1) (Some c2) (Some c3) (Some c4) (Some c5) (Some c6) (Some c7) by)
columns-some c1 c2 c3 c4 c5 c6 c7 Star = refl
columns-some c1 c2 c3 c4 c5 c6 c7 Arrow = refl
columns-some c1 c2 c3 c4 c5 c6 c7 Store = refl
columns-some c1 c2 c3 c4 c5 c6 c7 TextRead = refl
columns-some c1 c2 c3 c4 c5 c6 c7 TextWrite = refl
columns-some c1 c2 c3 c4 c5 c6 c7 OtherRead = refl
columns-some c1 c2 c3 c4 c5 c6 c7 OtherWrite = refl

-- the situations that do not hold of an access that reaches its range, and its marks
pub record Passed (a : Access) (by : By) : Type 0 where
  pub some : is_no_object a ≡ false
  pub even : is_dead_even a ≡ false
  pub odd : is_dead_odd a ≡ false
  pub bounds : has_wrong_bounds a ≡ false
  pub more : is_at_end a ≡ false
  pub inside : is_outside a ≡ false
  pub marks : first_case (drop 7 reach_table) a by ≡ None

-- an access that is no case passes each row
pub passed_rows : (a : Access) (by : By) → first_case reach_table a by ≡ None → Passed a by
unfolding reach_table
passed_rows a by h =
    let r1 = row_passed (is_no_object a)
    (columns (Some L6) (Some L4) (Some L6) (Some L9) (Some L9) (Some L9) (Some L9) by)
    (first_case (drop 1 reach_table) a by) h (columns-some L6 L4 L6 L9 L9 L9 L9 by) in
    let r2 = row_passed (is_dead_even a) (Some L1) (first_case (drop 2 reach_table) a by) r1.1 refl in
    let r3 = row_passed (is_dead_odd a) (Some L11) (first_case (drop 3 reach_table) a by) r2.1 refl in
    let r4 = row_passed (has_wrong_bounds a)
    (columns (Some L6) (Some L4) (Some L6) (Some L9) (Some L9) (Some L9) (Some L9) by)
    (first_case (drop 4 reach_table) a by) r3.1 (columns-some L6 L4 L6 L9 L9 L9 L9 by) in
    let r5 = row_passed (is_at_end a) (columns (Some L7) (Some L4) (Some L7) (Some L12) (Some L12) (Some L9)
    (Some L9) by) (first_case (drop 5 reach_table) a by) r4.1 (columns-some L7 L4 L7 L12 L12 L9 L9 by) in
    let r6 = row_passed (is_outside a)
    (columns (Some L6) (Some L4) (Some L6) (Some L12) (Some L12) (Some L9) (Some L9) by)
    (first_case (drop 6 reach_table) a by) r5.1 (columns-some L6 L4 L6 L12 L12 L9 L9 by) in
    let r7 = row_passed (is_misaligned a)
    (columns (Some L6) (Some L4) (Some L6) (Some L9) (Some L9) (Some L9) (Some L9) by)
    (first_case (drop 7 reach_table) a by) r6.1 (columns-some L6 L4 L6 L9 L9 L9 L9 by) in
    record { some = r1.0; even = r2.0; odd = r3.0; bounds = r4.0; more = r5.0; inside = r6.0; marks = r7.1 }

-- an object that is found stands at its place
at_place : (objects : List Object) (number : ℕ) (found : Option Object) (o : Object)
    → option_and_then (numbered number) found ≡ Some o
    → found ≡ Some o
at_place objects number None o h = cc
at_place objects number (Some p) o h = let same : o ≡ p = numbered_same number p o h in ap Some (sym same)

-- it is dead by an even number, or by an odd one
lives : (live : Bool) (n : ℕ) → (not live && (n % 2 == 0)) ≡ false → (not live && (n % 2 == 1)) ≡ false → live ≡ true
lives true n even odd = refl
lives false n even odd = absurd (grind (arith, common_steps))

-- a range that is reached lies in a live object
in_range_by : (s : Storage) (place : Pointer) (len align : ℕ) (by : By) (found : Option Object)
    → object_of s.objects place.object ≡ found
    → Passed (record { object = found; place = place; len = len; align = align }) by → IsLiveRange s.objects place len
in_range_by s place len align by None own p = let e : true ≡ false = p.some in cc
in_range_by s place len align by (Some o) own p = record {
  object = o;
  at = at_place s.objects place.object (slice_get s.objects (place_of place.object)) o own;
  own = own;
  live = lives o.live place.object p.even p.odd;
  high = grind (arith, common_steps, p.bounds);
  within = grind (arith, common_steps, p.inside);
}

pub in_range : (s : Storage) (place : Pointer) (len : ℕ) → IsReached s place len → IsLiveRange s.objects place len
in_range s place len r =
    in_range_by s place len r.align r.by (object_of s.objects place.object) refl
    (passed_rows (access s place len r.align) r.by r.reached)

pub in_range_to_store : (s : Storage) (place : Pointer) (len : ℕ) → IsReachedToStore s place len
    → IsLiveRange s.objects place len
in_range_to_store s place len r = in_range s place len (record { align = r.align; by = r.by; reached = r.reached })

-- an object of the list is replaced
pub slice_get-set_same : (objects : List Object) (i : ℕ) (o y : Object) → slice_get objects i ≡ Some o
    → slice_get (set objects i y) i ≡ Some y
slice_get-set_same [] i o y h = cc
slice_get-set_same (x ∷ xs) zero o y h = refl
slice_get-set_same (x ∷ xs) (suc i) o y h = slice_get-set_same xs i o y h

pub slice_get-set_other : (objects : List Object) (i j : ℕ) (y : Object) → i ≢ j
    → slice_get (set objects i y) j ≡ slice_get objects j
slice_get-set_other [] i j y ne = refl
slice_get-set_other (x ∷ xs) zero zero y ne = absurd (ne refl)
slice_get-set_other (x ∷ xs) zero (suc j) y ne = refl
slice_get-set_other (x ∷ xs) (suc i) zero y ne = refl
slice_get-set_other (x ∷ xs) (suc i) (suc j) y ne = slice_get-set_other xs i j y (λ e. ne (ap (λ n. suc n) e))

pub IsLiveRange-set_other : (objects : List Object) (i : ℕ) (y : Object) (place : Pointer) (len : ℕ)
    → i ≢ place_of place.object
    → IsLiveRange objects place len → IsLiveRange (set objects i y) place len
IsLiveRange-set_other objects i y place len ne r =
    let same : slice_get (set objects i y) (place_of place.object) ≡ slice_get objects (place_of place.object) =
    slice_get-set_other objects i (place_of place.object) y ne in
    record {
      object = r.object;
      at = same ∙ r.at;
      own = ap (option_and_then (numbered place.object)) same ∙ r.own;
      live = r.live;
      high = r.high;
      within = r.within;
    }

-- the cells of an object whose number is known
pub cells_of-found : (objects : List Object) (number : ℕ) (o : Object) → object_of objects number ≡ Some o
    → cells_of objects number ≡ o.cells
cells_of-found objects number o own = rw own refl

pub length-with_cells : (cells : List Cell) (at : ℕ) (other : List Cell) → at + length other ≤ length cells
    → length (with_cells cells at other) ≡ length cells
length-with_cells cells at other room = grind (arith, places)

-- a range is written
pub with_bytes_at : (objects : List Object) (place : Pointer) (bytes : List (Option ℕ)) (o : Object)
    → slice_get objects (place_of place.object) ≡ Some o
    → with_bytes objects place bytes
    ≡ set objects (place_of place.object) (record o { cells = with_cells o.cells place.offset (map stored_cell bytes) })
with_bytes_at objects place bytes o at = rw at refl

pub IsConsistent-with_bytes : (objects : List Object) (place : Pointer) (bytes : List (Option ℕ))
    (len budget live calls : ℕ)
    → IsLiveRange objects place len → len ≡ length bytes → IsConsistent objects budget live calls
    → IsConsistent (with_bytes objects place bytes) budget live calls
IsConsistent-with_bytes objects place bytes len budget live calls r e before =
    let o : Object = r.object in
    let i : ℕ = place_of place.object in
    let new : Object = record o { cells = with_cells o.cells place.offset (map stored_cell bytes) } in
    let size : length new.cells ≡ length o.cells =
    length-with_cells o.cells place.offset (map stored_cell bytes) (rw length-map (omega (arith, r.high, r.within))) in
    let same : live_size new ≡ live_size o = rw size refl in
    let sum : live_sum (set objects i new) calls ≡ live_sum objects calls =
    live_sum-set_same objects i o new calls r.at same in
    rw (with_bytes_at objects place bytes o r.at) (record {
      messages = omega (arith, before.messages, length-set {A = Object});
      few = omega (arith, before.few, length-set {A = Object});
      sizes = All-set (λ (x : Object). length x.cells ≤ largest_size) objects i new
          (rw size (size_at objects i o r.at before.sizes)) before.sizes;
      sum = before.sum ∙ sym sum;
      within = before.within;
    })

-- a store of some bytes, and of none
pub with_store_some : (s : Storage) (place : Pointer) (bytes : List (Option ℕ)) (objects : List Object)
    (writes : List Write) (n : ℕ)
    → 0 < n → n ≡ length bytes → objects ≡ with_bytes s.objects place bytes
    → writes ≡ s.writes ++ record { object = place.object; at = place.offset; len = n } ∷ []
    → record s { objects = objects; writes = writes } ≡ with_store s place bytes
unfolding with_store
with_store_some s place [] objects writes n some e is noted = absurd (omega arith)
with_store_some s place (b ∷ bytes) objects writes n some e is noted = rw (is, noted, e) refl

-- a store of no bytes changes nothing
pub with_store_none : (s : Storage) (place : Pointer) (bytes : List (Option ℕ)) → length bytes ≡ 0
    → s ≡ with_store s place bytes
unfolding with_store
with_store_none s place [] e = refl
with_store_none s place (b ∷ bytes) e = absurd (omega arith)

-- as many bytes are read as the range has
pub length-bytes_in : (objects : List Object) (place : Pointer) (len : ℕ) → IsLiveRange objects place len
    → len ≡ length (bytes_in objects place len)
length-bytes_in objects place len r =
    rw (length-map, cells_of-found objects place.object r.object r.own)
    (sym (length-range r.object.cells place.offset len (omega (arith, r.high, r.within))))

object_of-set_other : (objects : List Object) (i number : ℕ) (y : Object) → i ≢ place_of number
    → object_of (set objects i y) number ≡ object_of objects number
object_of-set_other objects i number y ne =
    ap (option_and_then (numbered number)) (slice_get-set_other objects i (place_of number) y ne)

-- the bytes of a range, where its object is known
pub bytes_in-found : (objects : List Object) (place : Pointer) (len : ℕ) (o : Object)
    → object_of objects place.object ≡ Some o
    → bytes_in objects place len ≡ map (λ c. c.byte) (range o.cells place.offset len)
bytes_in-found objects place len o own = rw (cells_of-found objects place.object o own) refl

-- bytes are moved within one object
pub shift_is_copy : (objects : List Object) (to from : Pointer) (len i : ℕ) (old new : Object)
    (t : IsLiveRange objects to len) (f : IsLiveRange objects from len)
    → place_of to.object ≡ place_of from.object → i ≡ place_of to.object → old ≡ get_or objects i old
    → new ≡ record old {
      cells =
          with_cells old.cells to.offset (map stored_cell (map (λ c. c.byte) (range old.cells from.offset len)));
    }
    → set objects i new ≡ with_bytes objects to (bytes_in objects from len)
shift_is_copy objects to from len i old new t f same at is moves =
    let o : Object = t.object in
    let here : slice_get objects i ≡ Some o = rw at t.at in
    let old_is : old ≡ o = is ∙ get_or_from_slice_get objects i o old here in
    let one : f.object ≡ o = same_Some f.object o (sym f.at ∙ rw (← same) t.at) in
    rw (
      with_bytes_at objects to (bytes_in objects from len) o t.at,
      bytes_in-found objects from len f.object f.own,
      one,
      moves,
      old_is,
      at,
    ) refl

-- bytes are copied between two objects, while the cells of the one that is stored to are out of the list
pub copy_is_store : (objects mid final : List Object) (to from : Pointer) (len i : ℕ) (source cells : List Cell)
    (t : IsLiveRange objects to len)
    (f : IsLiveRange objects from len) → i ≡ place_of to.object → i ≢ place_of from.object
    → mid ≡ set objects i (record t.object { cells = [] })
    → source ≡ range (cells_of mid from.object) from.offset len
    → cells ≡ with_cells t.object.cells to.offset (map stored_cell (map (λ c. c.byte) source))
    → final ≡ set mid i (record t.object { cells = cells })
    → final ≡ with_bytes objects to (bytes_in objects from len)
copy_is_store objects mid final to from len i source cells t f at ne out read moves back =
    let own : object_of mid from.object ≡ Some f.object =
    rw out (object_of-set_other objects i from.object (record t.object { cells = [] }) ne ∙ f.own) in
    let source_is : source ≡ range f.object.cells from.offset len =
    rw (cells_of-found mid from.object f.object own) at read in
    rw (
      back,
      out,
      set-set,
      moves,
      source_is,
      with_bytes_at objects to (bytes_in objects from len) t.object t.at,
      bytes_in-found objects from len f.object f.own,
      at,
    ) refl

-- how many cells of an object are read while another one is out of the list
pub length_read : (objects mid : List Object) (from : Pointer) (len i : ℕ) (y : Object) (source : List Cell)
    (f : IsLiveRange objects from len)
    → i ≢ place_of from.object → mid ≡ set objects i y → source ≡ range (cells_of mid from.object) from.offset len
    → length source ≡ len
length_read objects mid from len i y source f ne out read =
    let own : object_of mid from.object ≡ Some f.object =
    rw out (object_of-set_other objects i from.object y ne ∙ f.own) in
    rw (read, cells_of-found mid from.object f.object own)
    (length-range f.object.cells from.offset len (omega (arith, f.high, f.within)))
