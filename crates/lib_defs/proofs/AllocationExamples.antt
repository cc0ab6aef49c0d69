-- Runs of the memory management functions, on either side of each rule.
use Rattle.std.proofs.Common.{◌≡◌, ℕ, List, [], ◌∷◌, Option, Some, None, refl}
use Rattle.std.specs.Prelude.{true, replicate}
use Rattle.critical_table.specs.declared.case.Case.{Case}
use Rattle.critical_table.specs.declared.case.Case.TheVariants.{L9, L11}
use Rattle.object_store.specs.declared.class.Class.TheVariants.{Allocated}
use Rattle.object_store.specs.declared.mark.Mark.TheVariants.{Plain}
use Rattle.object_store.specs.declared.pointer.Pointer.{Pointer}
use Rattle.object_store.specs.Messages.{message_object}
use Rattle.object_store.specs.Object.{Object}
use Rattle.object_store.specs.Storage.{Storage, live_bytes}
use Rattle.object_store.specs.Steps.{stored_cell, bytes_at, with_dead, with_store}
use Rattle.lib_defs.specs.declared.value.Value.TheVariants.{Ptr, Nothing}
use Rattle.lib_defs.specs.Reply.{Patch, no_change, Did, Done, Fails, FailsValue, null, with_change, store_after}
use Rattle.lib_defs.specs.Rules.{done_with}
use Rattle.lib_defs.specs.Allocation.{malloc_did, calloc_did, realloc_did, free_did}
use Rattle.lib_defs.proofs.ExampleStore.{object, at, unset}

-- an automatic object 4 of 4 bytes, and a call that is open: 260 bytes are live
abbrev within : ℕ → List Object → Storage
within budget objects = record {
  objects = message_object ∷ object Plain (unset 4) ∷ objects;
  budget = budget;
  open_calls = 1;
  writes = [];
}

-- beside it the allocated object 7, with three bytes of which the last is indeterminate
abbrev seven : Object
seven = record {
  class = Allocated;
  live = true;
  cells =
      stored_cell (Some 1) ∷ stored_cell (Some 2) ∷ stored_cell None ∷ [];
}

abbrev some : ℕ → Storage
some budget = within budget (seven ∷ [])

-- the object that is made has the number 7 in the one store, and 9 in the other
abbrev made : (object size : ℕ) → List Patch → Option ℕ → Did
made number size stores released =
    Done (record { made = Some size; stores = stores; released = released }) None (Ptr (at number 0 size))

abbrev zeros : (object size : ℕ) → List Patch
zeros number size = record { place = at number 0 size; bytes = replicate size (Some 0) } ∷ []

abbrev bytes : (object size : ℕ) → List (Option ℕ) → List Patch
bytes number size list = record { place = at number 0 size; bytes = list } ∷ []

abbrev none : Did
none = done_with [] (Ptr null)

abbrev refuses : Case → Pointer → Did
refuses case p = Fails (FailsValue case p)

-- malloc: up to the last byte of the budget, and one more; none of size 0
malloc_last : malloc_did (within 344 []) 84 ≡ made 7 84 [] None
unfolding live_bytes
malloc_last = refl

malloc_past : malloc_did (within 343 []) 84 ≡ none
unfolding live_bytes
malloc_past = refl

malloc_empty : malloc_did (within 344 []) 0 ≡ none
malloc_empty = refl

-- an object has at most RSIZE_MAX bytes, whatever the budget
malloc_great : malloc_did (within 268435456 []) 16777216 ≡ made 7 16777216 [] None
unfolding live_bytes
malloc_great = refl

malloc_greater : malloc_did (within 268435456 []) 16777217 ≡ none
malloc_greater = refl

-- of main alone 256 bytes are live: with a budget of 340, 84 more are the last; with 339 they are refused, and one byte
-- fits then
abbrev start : ℕ → Storage
start budget = record { objects = message_object ∷ []; budget = budget; open_calls = 1; writes = [] }

start_last : malloc_did (start 340) 84 ≡ made 5 84 [] None
unfolding live_bytes
start_last = refl

start_full : malloc_did (store_after (malloc_did (start 340) 84) (start 340)) 1 ≡ none
unfolding live_bytes
start_full = refl

start_past : malloc_did (start 339) 84 ≡ none
unfolding live_bytes
start_past = refl

start_fits : malloc_did (store_after (malloc_did (start 339) 84) (start 339)) 1 ≡ made 5 1 [] None
unfolding live_bytes
start_fits = refl

-- int *p = calloc(2, 4); p = realloc(p, 12);
start_grows : realloc_did (store_after (calloc_did (start 400) 2 4) (start 400)) (at 5 0 8) 12
    ≡ made 7 12 (bytes 7 12 (replicate 8 (Some 0))) (Some 5)
unfolding live_bytes with_store
start_grows = refl

-- calloc: the product, which is exact
calloc_some : calloc_did (within 400 []) 2 3 ≡ made 7 6 (zeros 7 6) None
unfolding live_bytes
calloc_some = refl

calloc_none : calloc_did (within 400 []) 0 3 ≡ none
calloc_none = refl

calloc_wraps : calloc_did (within 400 []) 9223372036854775808 2 ≡ none
calloc_wraps = refl

-- realloc: the old bytes, with the mark of one that is indeterminate; the rest is indeterminate; the old object ends
realloc_more : realloc_did (some 400) (at 7 0 3) 5 ≡ made 9 5 (bytes 9 5 (Some 1 ∷ Some 2 ∷ None ∷ [])) (Some 7)
unfolding live_bytes
realloc_more = refl

realloc_less : realloc_did (some 400) (at 7 0 3) 1 ≡ made 9 1 (bytes 9 1 (Some 1 ∷ [])) (Some 7)
unfolding live_bytes
realloc_less = refl

-- what the new object holds, and the old one that has ended
realloc_after : bytes_at
    (with_change
    (record { made = Some 5; stores = bytes 9 5 (Some 1 ∷ Some 2 ∷ None ∷ []); released = Some 7 }) (some 400))
    (at 9 0 5) 5
    ≡ Some 1 ∷ Some 2 ∷ None ∷ None ∷ None ∷ []
unfolding with_store
realloc_after = refl

-- the old bytes are given back already: 260 and 80 are within 340, 81 are not
realloc_last : realloc_did (some 340) (at 7 0 3) 80 ≡ made 9 80 (bytes 9 80 (Some 1 ∷ Some 2 ∷ None ∷ [])) (Some 7)
unfolding live_bytes
realloc_last = refl

realloc_past : realloc_did (some 340) (at 7 0 3) 81 ≡ none
unfolding live_bytes
realloc_past = refl

-- of null a malloc; of size 0 null, and the object stays
realloc_null : realloc_did (some 400) null 5 ≡ made 9 5 [] None
unfolding live_bytes
realloc_null = refl

realloc_empty : realloc_did (some 400) (at 7 0 3) 0 ≡ none
realloc_empty = refl

-- the pointer is tested before the size; its bounds are no matter
realloc_first : realloc_did (some 400) (at 7 1 3) 0 ≡ refuses L9 (at 7 1 3)
realloc_first = refl

-- free: an allocated object, with any bounds; nothing of null
free_some : free_did (some 400) (at 7 0 2) ≡ Done (record no_change { released = Some 7 }) None Nothing
free_some = refl

free_null : free_did (some 400) null ≡ done_with [] Nothing
free_null = refl

-- what is no allocated object's first byte; one that ended, wherever the pointer stands; no object; a function
free_inside : free_did (some 400) (at 7 1 3) ≡ refuses L9 (at 7 1 3)
free_inside = refl

free_automatic : free_did (some 400) (at 4 0 4) ≡ refuses L9 (at 4 0 4)
free_automatic = refl

free_twice : free_did (with_dead (some 400) 7) (at 7 0 3) ≡ refuses L11 (at 7 0 3)
free_twice = refl

free_inside_dead : free_did (with_dead (some 400) 7) (at 7 1 3) ≡ refuses L11 (at 7 1 3)
free_inside_dead = refl

free_never : free_did (some 400) (at 9 0 3) ≡ refuses L9 (at 9 0 3)
free_never = refl

free_function : free_did (some 400) (at 4200000001 0 0) ≡ refuses L9 (at 4200000001 0 0)
free_function = refl
