-- What a store leaves as it was.
use Rattle.std.proofs.Common.{◌≡◌, ◌≢◌, ℕ, ◌+◌, ◌<◌, ◌≤◌, ◌⊎◌, ◌==◌, inl, inr, Bool, true, false, cond, List, [], ◌∷◌}
use Rattle.std.proofs.Common.{length, map, get_or, set, slice_get, Option, Some, None, refl, arith, ap, subst, sym}
use Rattle.std.proofs.Common.{◌∙◌}
use Rattle.std.specs.Option.{option_map_or, option_and_then}
use Rattle.std.proofs.lemmas.Bool.{eqb-true, cases_eq}
use Rattle.std.proofs.lemmas.List.{places, length-map}
use Rattle.std.proofs.lemmas.Option.{slice_get_cases, slice_get-get_or, slice_get_past}
use Rattle.object_store.specs.declared.cell.Cell.{Cell}
use Rattle.object_store.specs.declared.pointer.Pointer.{Pointer}
use Rattle.object_store.specs.Object.{Object, number_of, place_of, numbered}
use Rattle.object_store.specs.Storage.{Storage}
use Rattle.object_store.specs.Steps.{with_cells, stored_cell, cells_of, with_bytes, with_store}
use Rattle.object_store.specs.Ranges.{IsLiveRange}
use Rattle.object_store.specs.Changes.{ChangesOnly}
use Rattle.object_store.proofs.RangeLemmas.{slice_get-set_same, slice_get-set_other, length-with_cells, with_bytes_at}

-- a cell outside of the range that is replaced is as it was
get_or-with_cells : (cells : List Cell) (at : ℕ) (other : List Cell) (k : ℕ) (e : Cell)
    → at + length other ≤ length cells → k < length cells
    → (k < at) ⊎ (at + length other ≤ k) → get_or (with_cells cells at other) k e ≡ get_or cells k e
get_or-with_cells cells at other k e room within (inl before) = grind (arith, places)
get_or-with_cells cells at other k e room within (inr behind) = grind (arith, places)

-- the same, and there is none where there was none
with_cells_outside : (cells : List Cell) (at : ℕ) (other : List Cell) (k : ℕ) → at + length other ≤ length cells
    → (k < at) ⊎ (at + length other ≤ k) → slice_get (with_cells cells at other) k ≡ slice_get cells k
with_cells_outside cells at other k room out =
    let same : length (with_cells cells at other) ≡ length cells = length-with_cells cells at other room in
    elim (slice_get_cases cells k).1 [
      | inl found ↦ slice_get-get_or (with_cells cells at other) k found.0 (omega (arith, found.1))
          ∙ ap Some (get_or-with_cells cells at other k found.0 room found.1 out ∙ found.3) ∙ sym found.2
      | inr past ↦ slice_get_past (with_cells cells at other) k (omega (arith, past.0)) ∙ sym past.1
    ]

-- an object's number is its own
numbered_own : (number : ℕ) (o p : Object) (b : Bool) → number_of o.class (place_of number + 1) == number ≡ b
    → cond b (Some o) None ≡ Some p
    → number_of p.class (place_of number + 1) ≡ number
numbered_own number o p true test is = let same : o ≡ p = cc in rw (← same) (eqb-true _ _ test)
numbered_own number o p false test is = cc

-- an object that is found has the number
own_in : (number : ℕ) (found : Option Object) (p : Object) → option_and_then (numbered number) found ≡ Some p
    → number_of p.class (place_of number + 1) ≡ number
own_in number None p h = cc
own_in number (Some o) p h = numbered_own number o p (number_of o.class (place_of number + 1) == number) refl h

-- the cells that are found by a number are as before, if those of the object are
pick : (b : Bool) (o new : Object) (k : ℕ) → (b ≡ true → slice_get new.cells k ≡ slice_get o.cells k)
    → slice_get (option_map_or (λ (x : Object). x.cells) (cond b (Some new) None) []) k
    ≡ slice_get (option_map_or (λ (x : Object). x.cells) (cond b (Some o) None) []) k
pick true o new k h = h refl
pick false o new k h = refl

-- the cells outside of a range that is written are as they were
with_bytes_outside : (objects : List Object) (place : Pointer) (bytes : List (Option ℕ)) (len : ℕ)
    → IsLiveRange objects place len → len ≡ length bytes
    → (number k : ℕ) → (number ≢ place.object) ⊎ ((k < place.offset) ⊎ (place.offset + len ≤ k))
    → slice_get (cells_of (with_bytes objects place bytes) number) k ≡ slice_get (cells_of objects number) k
with_bytes_outside objects place bytes len r e number k out =
    let o : Object = r.object in
    let i : ℕ = place_of place.object in
    let new : Object = record o { cells = with_cells o.cells place.offset (map stored_cell bytes) } in
    let own : number_of o.class (i + 1) ≡ place.object = own_in place.object (slice_get objects i) o r.own in
    let count : length (map stored_cell bytes) ≡ len = length-map bytes stored_cell ∙ sym e in
    let here : number ≡ place.object → slice_get new.cells k ≡ slice_get o.cells k = λ is. elim out [
      | inl other ↦ absurd (other is)
      | inr sides ↦ with_cells_outside o.cells place.offset (map stored_cell bytes) k
          (omega (arith, r.high, r.within)) (rw count sides)
    ] in
    rw (with_bytes_at objects place bytes o r.at) (elim (cases_eq i (place_of number)) [
      | inr ne ↦ ap
          (λ f. slice_get (option_map_or (λ (x : Object). x.cells) (option_and_then (numbered number) f) []) k)
          (slice_get-set_other objects i (place_of number) new ne)
      | inl same ↦
          let at : slice_get objects (place_of number) ≡ Some o = subst (λ j. slice_get objects j ≡ Some o) same r.at in
          let at_new : slice_get (set objects i new) (place_of number) ≡ Some new =
          subst (λ j. slice_get (set objects i new) j ≡ Some new) same (slice_get-set_same objects i o new r.at) in
          rw (at_new, at) (pick (number_of o.class (place_of number + 1) == number) o new k
          (λ test. here (sym (eqb-true (number_of o.class (place_of number + 1)) number test)
          ∙ ap (λ j. number_of o.class (j + 1)) (sym same) ∙ own)))
    ])

-- a store changes the cells of its range alone
pub with_store_outside : (s : Storage) (place : Pointer) (bytes : List (Option ℕ)) (len : ℕ)
    → IsLiveRange s.objects place len → len ≡ length bytes
    → ChangesOnly s (with_store s place bytes) place len
unfolding with_store
with_store_outside s place [] len r e = λ number k out. refl
with_store_outside s place (b ∷ bytes) len r e = with_bytes_outside s.objects place (b ∷ bytes) len r e

-- the same, as the operations of the store say it
pub with_store_alone : (s new : Storage) (place : Pointer) (bytes : List (Option ℕ)) (len : ℕ)
    → IsLiveRange s.objects place len → len ≡ length bytes
    → new ≡ with_store s place bytes → ChangesOnly s new place len
with_store_alone s new place bytes len r e is =
    subst (λ (x : Storage). ChangesOnly s x place len) (sym is) (with_store_outside s place bytes len r e)
