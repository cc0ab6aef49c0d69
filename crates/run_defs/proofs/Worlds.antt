-- The worlds of a run: objects keep the sizes that a store makes, and the input stays bytes.
use Rattle.std.proofs.Common.{◌≡◌, ℕ, ◌≤◌, ◌<◌, List, [], ◌∷◌, ◌++◌, length, map, set, slice_get, Option, Some, None}
use Rattle.std.proofs.Common.{refl, false, arith, subst, length-append, length-drop}
use Rattle.std.specs.Option.{option_map_or}
use Rattle.std.specs.List.{All}
use Rattle.std.proofs.lemmas.List.{length-map, length-take, length-replicate, length-set}
use Rattle.std.proofs.lemmas.List.Elements.{All-nil, All-cons, All-head, All-tail, All-push, All-set, All-map, All-same}
use Rattle.std.proofs.lemmas.Option.{slice_get_within, get_or_from_slice_get}
use Rattle.object_store.specs.declared.class.Class.{Class}
use Rattle.object_store.specs.declared.cell.Cell.{Cell}
use Rattle.object_store.specs.declared.mark.Mark.{Mark}
use Rattle.object_store.specs.declared.pointer.Pointer.{Pointer}
use Rattle.object_store.specs.Object.{Object, place_of}
use Rattle.object_store.specs.Storage.{Storage}
use Rattle.object_store.specs.Steps.{stored_cell, new_object, with_new, update, with_dead, with_cells, range, mark_cell}
use Rattle.object_store.specs.Steps.{with_mark, with_bytes}
use Rattle.object_store.specs.Reach.{IsReachedToStore}
use Rattle.lib_defs.specs.Units.{rsize_max}
use Rattle.lib_defs.specs.World.{Streams, Flows}
use Rattle.lib_defs.specs.Laws.{IsSized}
use Rattle.run_defs.specs.State.{static_object}
use Rattle.run_defs.specs.Kept.{outlined, outline, outlines}
use Rattle.run_defs.proofs.Outlines.{outlines-stored}

abbrev pub Sized : Object → Type 0
Sized o = length o.cells ≤ rsize_max

pub sized_new : (s : Storage) (size : ℕ) (class : Class) → size ≤ rsize_max → IsSized s
    → IsSized (with_new s size class)
sized_new s size class le sized =
    All-push Sized s.objects (new_object size class) sized (rw (length-replicate size (stored_cell None)) le)

pub sized_static : (s : Storage) (bytes : List ℕ) → length bytes ≤ rsize_max → IsSized s
    → All Sized (s.objects ++ static_object bytes ∷ [])
sized_static s bytes le sized = All-push Sized s.objects (static_object bytes) sized (rw length-map le)

-- an object that is changed and keeps its size
module _ (f : Object → Object) (keeps : (o : Object) → Sized o → Sized (f o)) where
  sized_found : (objects : List Object) (i : ℕ) → All Sized objects → (found : Option Object)
      → slice_get objects i ≡ found
      → All Sized (option_map_or (λ (o : Object). set objects i (f o)) found objects)
  sized_found objects i sized None is = sized
  sized_found objects i sized (Some o) is =
      let own : Sized o = subst Sized (get_or_from_slice_get objects i o o is)
      (sized i o (slice_get_within objects i o is)) in
      All-set Sized objects i (f o) (keeps o own) sized

  sized_update : (objects : List Object) (number : ℕ) → All Sized objects → All Sized (update objects number f)
  sized_update objects number sized =
      sized_found objects (place_of number) sized (slice_get objects (place_of number)) refl

-- no object comes or goes where one is changed
pub length-update : (objects : List Object) (number : ℕ) (f : Object → Object)
    → length (update objects number f) ≡ length objects
length-update objects number f = by_found (slice_get objects (place_of number))
  where
    by_found : (found : Option Object)
        → length (option_map_or (λ (o : Object). set objects (place_of number) (f o)) found objects) ≡ length objects
    by_found None = refl
    by_found (Some o) = length-set objects (place_of number) (f o)

pub sized_dead : (s : Storage) (number : ℕ) → IsSized s → IsSized (with_dead s number)
sized_dead s number sized = sized_update (λ o. record o { live = false }) (λ o le. le) s.objects number sized

length-remarked : (cs : List Cell) (at len : ℕ) (mark : Mark)
    → length (with_cells cs at (map (mark_cell mark) (range cs at len))) ≡ length cs
length-remarked cs at len mark =
    rw (length-append, length-append, length-map, length-take, length-take, length-drop, length-drop) (omega arith)

pub length-dead : (s : Storage) (number : ℕ) → length (with_dead s number).objects ≡ length s.objects
length-dead s number = length-update s.objects number (λ o. record o { live = false })

pub length-mark : (s : Storage) (number at len : ℕ) (mark : Mark)
    → length (with_mark s number at len mark).objects ≡ length s.objects
length-mark s number at len mark = length-update s.objects number
    (λ o. record o { cells = with_cells o.cells at (map (mark_cell mark) (range o.cells at len)) })

pub length-stored : (objects : List Object) (place : Pointer) (bytes : List (Option ℕ))
    → length (with_bytes objects place bytes) ≡ length objects
length-stored objects place bytes = length-update objects place.object
    (λ o. record o { cells = with_cells o.cells place.offset (map stored_cell bytes) })

pub sized_mark : (s : Storage) (number at len : ℕ) (mark : Mark) → IsSized s → IsSized (with_mark s number at len mark)
sized_mark s number at len mark sized = sized_update
    (λ o. record o { cells = with_cells o.cells at (map (mark_cell mark) (range o.cells at len)) })
    (λ o le. rw (length-remarked o.cells at len mark) le) s.objects number sized

-- sizes are seen without the bytes
sized_outlines : (objects : List Object) → All Sized objects → All Sized (outlines objects)
sized_outlines objects sized = All-map Sized outline objects (λ k o lt. rw length-map (sized k o lt))

from_outlines : (objects : List Object) → All Sized (outlines objects) → All Sized objects
from_outlines [] sized = All-nil Sized
from_outlines (o ∷ objects) sized = All-cons Sized o objects
    (subst (λ n. n ≤ rsize_max) (length-map o.cells outlined) (All-head Sized (outline o) (outlines objects) sized))
    (from_outlines objects (All-tail Sized (outline o) (outlines objects) sized))

pub sized_stored : (s : Storage) (place : Pointer) (bytes : List (Option ℕ)) → IsReachedToStore s place (length bytes)
    → IsSized s → All Sized (with_bytes s.objects place bytes)
sized_stored s place bytes reached sized = from_outlines (with_bytes s.objects place bytes)
    (All-same Sized _ _ (outlines-stored s place bytes reached) (sized_outlines s.objects sized))

-- Input is taken from its front.
abbrev IsByte : ℕ → Type 0
IsByte b = b < 256

bytes_behind : (taken rest : List ℕ) → All IsByte (taken ++ rest) → All IsByte rest
bytes_behind [] rest bytes = bytes
bytes_behind (b ∷ taken) rest bytes = bytes_behind taken rest (All-tail IsByte b (taken ++ rest) bytes)

pub bytes_left : (before after : Streams) → Flows before after → All IsByte before.input.bytes
    → All IsByte after.input.bytes
bytes_left before after flows bytes =
    bytes_behind flows.taken after.input.bytes (subst (All IsByte) flows.bytes bytes)
