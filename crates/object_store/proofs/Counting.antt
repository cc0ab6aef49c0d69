-- How the count of live bytes changes with one object of the list.
use Rattle.std.proofs.Common.{◌≡◌, ℕ, suc, zero, ◌+◌, ◌<◌, ◌≤◌, List, [], ◌∷◌, length, set, get_or, slice_get, Some}
use Rattle.std.proofs.Common.{arith, sum_by, refl, ◌∙◌, false, ◌-◌}
use Rattle.std.proofs.lemmas.List.Sums.{sum_by-set}
use Rattle.std.specs.List.{All}
use Rattle.std.proofs.lemmas.List.{length-set}
use Rattle.std.proofs.lemmas.List.Elements.{All-set, All-get_or}
use Rattle.std.proofs.lemmas.Option.{slice_get_within, get_or_from_slice_get}
use Rattle.object_store.specs.Object.{Object, place_of}
use Rattle.object_store.specs.Storage.{live_size, live_sum, largest_size, IsConsistent}
use Rattle.object_store.proofs.Found.{LiveAt}

-- an object behind the first is replaced by another
pub live_sum-set : (objects : List Object) (i : ℕ) (x y : Object) (calls : ℕ) → 0 < i → slice_get objects i ≡ Some x
    → live_sum (set objects i y) calls + live_size x ≡ live_sum objects calls + live_size y
live_sum-set [] i x y calls behind found = absurd (omega (arith, slice_get_within [] i x found))
live_sum-set (o ∷ os) zero x y calls behind found = absurd (omega arith)
live_sum-set (o ∷ os) (suc i) x y calls behind found =
    let within : i < length os = slice_get_within os i x found in
    let is : get_or os i x ≡ x = get_or_from_slice_get os i x x found in
    let sum : sum_by live_size (set os i y) + live_size x ≡ sum_by live_size os + live_size y =
    rw is at (sum_by-set live_size os i y x within) in
    omega arith

-- the first object is replaced by another
pub live_sum-set_first : (objects : List Object) (y : Object) (calls : ℕ)
    → live_sum (set objects 0 y) calls ≡ live_sum objects calls
live_sum-set_first [] y calls = refl
live_sum-set_first (o ∷ os) y calls = refl

-- an object is replaced by one that uses as many bytes
pub live_sum-set_same : (objects : List Object) (i : ℕ) (x y : Object) (calls : ℕ) → slice_get objects i ≡ Some x
    → live_size y ≡ live_size x
    → live_sum (set objects i y) calls ≡ live_sum objects calls
live_sum-set_same objects zero x y calls found same = live_sum-set_first objects y calls
live_sum-set_same objects (suc i) x y calls found same =
    omega (arith, live_sum-set objects (suc i) x y calls (omega arith) found)

-- an object of the list is no larger than any may be
pub size_at : (objects : List Object) (i : ℕ) (o : Object) → slice_get objects i ≡ Some o
    → All (λ (x : Object). length x.cells ≤ largest_size) objects → length o.cells ≤ largest_size
size_at objects i o at sizes =
    rw (get_or_from_slice_get objects i o o at) at
    (All-get_or (λ (x : Object). length x.cells ≤ largest_size) objects i o (slice_get_within objects i o at) sizes)

-- an object behind the first dies
pub IsConsistent-dead : (objects : List Object) (number i size budget live calls : ℕ) (old new : Object)
    → LiveAt objects number
    → i ≡ place_of number → 0 < i → old ≡ get_or objects i old → new ≡ record old { live = false }
    → size ≡ length new.cells
    → IsConsistent objects budget live calls → (size ≤ live)
    × IsConsistent (set objects i new) budget (live - size) calls
IsConsistent-dead objects number i size budget live calls old new known e behind is dies sized before =
    let at : slice_get objects i ≡ Some known.object = rw e known.at in
    let same : old ≡ known.object = is ∙ get_or_from_slice_get objects i known.object old at in
    let was : live_size known.object ≡ length known.object.cells = rw known.live refl in
    let sum : live_sum (set objects i new) calls + live_size known.object ≡ live_sum objects calls + live_size new =
    live_sum-set objects i known.object new calls behind at in
    let none : live_size new ≡ 0 = rw dies refl in
    let small : length new.cells ≤ largest_size = rw (dies, same) (size_at objects i known.object at before.sizes) in
    let cells : size ≡ length known.object.cells = rw (sized, dies, same) refl in (
      omega (arith, before.sum),
      record {
        messages = omega (arith, before.messages, length-set {A = Object});
        few = omega (arith, before.few, length-set {A = Object});
        sizes = All-set (λ (o : Object). length o.cells ≤ largest_size) objects i new small before.sizes;
        sum = omega (arith, before.sum);
        within = omega (arith, before.within);
      },
    )
