-- What a range holds after a store.
use Rattle.std.proofs.Common.{◌≡◌, ℕ, ◌+◌, ◌≤◌, ◌==◌, true, false, cond, arith, refl, ap, sym, ◌∙◌}
use Rattle.std.proofs.Common.{List, [], ◌∷◌, ◌++◌, length, map, take, drop, set, Option, Some, None}
use Rattle.std.proofs.Common.{append_assoc}
use Rattle.std.proofs.Math.Seq.{drop-append_seam, take-append_seam}
use Rattle.std.proofs.lemmas.List.{length-take-le, length-map}
use Rattle.object_store.specs.declared.cell.Cell.{Cell}
use Rattle.object_store.specs.declared.pointer.Pointer.{Pointer}
use Rattle.object_store.specs.Object.{Object, number_of, place_of, numbered, object_of}
use Rattle.object_store.specs.Steps.{with_cells, range, stored_cell, bytes_in, with_bytes, with_store}
use Rattle.object_store.specs.Ranges.{IsLiveRange}
use Rattle.object_store.specs.Changes.{StoresAreThere}
use Rattle.object_store.proofs.RangeLemmas.{in_range_to_store, slice_get-set_same, with_bytes_at, bytes_in-found}

-- behind a front of n elements stands the rest
drop-front : (n : ℕ) (xs ys : List Cell) → length xs ≡ n → drop n (xs ++ ys) ≡ ys
drop-front n xs ys e = rw (← e) (drop-append_seam xs ys)

-- cells that replace others are in their range
range-with_cells : (cells : List Cell) (at : ℕ) (other : List Cell) → at + length other ≤ length cells
    → range (with_cells cells at other) at (length other) ≡ other
range-with_cells cells at other room =
    let rest : List Cell = drop (at + length other) cells in
    let behind : drop at (with_cells cells at other) ≡ other ++ rest =
    ap (drop at) (append_assoc (take at cells) other rest)
    ∙ drop-front at (take at cells) (other ++ rest) (length-take-le at cells (omega arith)) in
    ap (take (length other)) behind ∙ take-append_seam other rest

-- cells that were stored hold the bytes
bytes-stored_cells : (bytes : List (Option ℕ)) → map (λ (c : Cell). c.byte) (map stored_cell bytes) ≡ bytes
bytes-stored_cells [] = refl
bytes-stored_cells (b ∷ bytes) = ap (λ bs. b ∷ bs) (bytes-stored_cells bytes)

-- an object keeps its number while its cells change
numbered-change : (number : ℕ) (o : Object) (cells : List Cell) → numbered number o ≡ Some o
    → numbered number (record o { cells = cells }) ≡ Some (record o { cells = cells })
numbered-change number o cells own =
    elim (number_of o.class (place_of number + 1) == number)
    as (λ b. (cond b (Some o) None ≡ Some o)
    → cond b (Some (record o { cells = cells })) None ≡ Some (record o { cells = cells }))
    [ true ↦ λ e. refl | false ↦ λ e. cc ] own

-- a range that was written holds the bytes
bytes_in-with_bytes : (objects : List Object) (place : Pointer) (bytes : List (Option ℕ))
    → IsLiveRange objects place (length bytes) → bytes_in (with_bytes objects place bytes) place (length bytes) ≡ bytes
bytes_in-with_bytes objects place bytes r =
    let o : Object = r.object in
    let i : ℕ = place_of place.object in
    let cells : List Cell = map stored_cell bytes in
    let new : Object = record o { cells = with_cells o.cells place.offset cells } in
    let there : numbered place.object o ≡ Some o = rw r.at at r.own in
    let own : object_of (set objects i new) place.object ≡ Some new =
    rw (slice_get-set_same objects i o new r.at)
    (numbered-change place.object o (with_cells o.cells place.offset cells) there) in
    let count : length cells ≡ length bytes = length-map bytes stored_cell in
    let read : range new.cells place.offset (length bytes) ≡ cells =
    ap (λ n. range new.cells place.offset n) (sym count)
    ∙ range-with_cells o.cells place.offset cells (omega (arith, r.high, r.within)) in
    rw (with_bytes_at objects place bytes o r.at, bytes_in-found (set objects i new) place (length bytes) new own, read)
    (bytes-stored_cells bytes)

pub stores_are_there : StoresAreThere
unfolding with_store
stores_are_there s place [] reached = refl
stores_are_there s place (b ∷ bytes) reached =
    bytes_in-with_bytes s.objects place (b ∷ bytes) (in_range_to_store s place (length (b ∷ bytes)) reached)
