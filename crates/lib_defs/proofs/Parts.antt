-- Parts of a range that is reached to be stored to, and how long a range that is reached may be.
use Rattle.std.proofs.Common.{◌≡◌, ℕ, ◌+◌, ◌*◌, ◌≤◌, nat_le, Bool, true, false, cond, List, length, slice_get}
use Rattle.std.proofs.Common.{Some, None, refl, subst, arith}
use Rattle.std.specs.List.{All}
use Rattle.std.proofs.lemmas.Option.{get_or_from_slice_get, slice_get_within}
use Rattle.object_store.specs.declared.by.By.{By}
use Rattle.object_store.specs.declared.pointer.Pointer.{Pointer}
use Rattle.object_store.specs.Object.{Object, place_of}
use Rattle.object_store.specs.Storage.{Storage}
use Rattle.object_store.specs.Ranges.{IsLiveRange}
use Rattle.object_store.specs.Reach.{reach, IsReachedToStore}
use Rattle.object_store.specs.Subranges.{move_by}
use Rattle.object_store.proofs.RangeLemmas.{in_range}
use Rattle.object_store.proofs.Subranges.{subranges_are_reached_to_store}
use Rattle.lib_defs.specs.Units.{rsize_max, size}
use Rattle.lib_defs.specs.Laws.{IsSized}

-- a part of a range that may be stored to may be stored to
pub part_reached : (s : Storage) (p : Pointer) (len at n : ℕ) → at + n ≤ len → IsReachedToStore s p len
    → IsReachedToStore s (move_by at p) n
part_reached s p len at n room r = subranges_are_reached_to_store s p len at n room r

pub front_reached : (s : Storage) (p : Pointer) (len n : ℕ) → n ≤ len → IsReachedToStore s p len
    → IsReachedToStore s p n
front_reached s p len n room r =
    let e : p.offset + 0 ≡ p.offset = omega arith in
    subst (λ (k : ℕ). IsReachedToStore s (record p { offset = k }) n) e (part_reached s p len 0 n (omega arith) r)

-- no object has more than RSIZE_MAX bytes, and so no range that is reached
object_sized : (objects : List Object) (i : ℕ) (o : Object) → All (λ (o : Object). length o.cells ≤ rsize_max) objects
    → slice_get objects i ≡ Some o → length o.cells ≤ rsize_max
object_sized objects i o sized at =
    subst (λ (x : Object). length x.cells ≤ rsize_max) (get_or_from_slice_get objects i o o at)
    (sized i o (slice_get_within objects i o at))

pub reach_end : (s : Storage) (p : Pointer) (len align : ℕ) (by : By) → IsSized s → reach s p len align by ≡ None
    → p.offset + len ≤ rsize_max
reach_end s p len align by sized reached =
    let r : IsLiveRange s.objects p len = in_range s p len (record { align = align; by = by; reached = reached }) in
    let o : length r.object.cells ≤ rsize_max = object_sized s.objects (place_of p.object) r.object sized r.at in
    omega (arith, r.high, r.within, o)

pub reach_sized : (s : Storage) (p : Pointer) (len align : ℕ) (by : By) → IsSized s → reach s p len align by ≡ None
    → len ≤ rsize_max
reach_sized s p len align by sized reached =
    let end : p.offset + len ≤ rsize_max = reach_end s p len align by sized reached in
    omega (arith, end)

-- so a size that is reached was not cut
pub size_exact : (s : Storage) (p : Pointer) (w n align : ℕ) (by : By) → IsSized s
    → reach s p (size w n) align by ≡ None → size w n ≡ w * n
size_exact s p w n align by sized reached =
    exact (w * n) (nat_le (w * n) rsize_max) (reach_sized s p (size w n) align by sized reached)
  where
    exact : (x : ℕ) (b : Bool) → cond b x (rsize_max + 1) ≤ rsize_max → cond b x (rsize_max + 1) ≡ x
    exact x true le = refl
    exact x false le = absurd (omega (arith, le))
