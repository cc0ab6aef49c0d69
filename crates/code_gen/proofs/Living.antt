-- The automatic objects that live, and what each change of the objects makes of them.
use Rattle.std.proofs.Common.{◌≡◌, ℕ, suc, ◌≤◌, ◌+◌, ◌*◌, ◌%◌, ◌==◌, Bool, true, false, cond, List, []}
use Rattle.std.proofs.Common.{◌∷◌, ◌++◌, length, map, set, slice_get, Option, Some, None, refl, arith, ap, sym, ◌∙◌}
use Rattle.std.proofs.Common.{subst, append_assoc, length-append, length-drop, inl, inr}
use Rattle.std.specs.List.{Contains}
use Rattle.std.proofs.lemmas.List.Elements.{Contains-push_cases}
use Rattle.std.specs.Option.{option_map, option_map_or, option_and_then}
use Rattle.std.proofs.lemmas.List.{length-map, length-take, length-replicate, map-append, map-set}
use Rattle.std.proofs.lemmas.Bool.{eq-eqb, eqb-true, cond_both, cond-true, and_from, le-leb}
use Rattle.std.proofs.Math.Seq.{map-set_same}
use Rattle.std.proofs.lemmas.Option.{slice_get-map, get_or_from_slice_get}
use Rattle.object_store.specs.declared.class.Class.{Class}
use Rattle.object_store.specs.declared.class.Class.TheVariants.{Static, Automatic, Allocated}
use Rattle.object_store.specs.declared.cell.Cell.{Cell}
use Rattle.object_store.specs.declared.mark.Mark.{Mark}
use Rattle.object_store.specs.Object.{Object, number_of, place_of, numbered, object_of}
use Rattle.object_store.specs.Storage.{Storage, is_live}
use Rattle.object_store.specs.Steps.{next_number, update, with_dead, with_cells}
use Rattle.object_store.specs.Steps.{range, mark_cell, with_mark}
use Rattle.lib_defs.specs.Laws.{IsWorld}
use Rattle.run_defs.specs.Kept.{outlines, outlined}
use Rattle.run_defs.specs.State.{State, made, died, has_range}
use Rattle.run_defs.proofs.Worlds.{sized_dead}
use Rattle.vm_code.specs.Slots.{all_died}
use Rattle.code_gen.specs.Lifetimes.{Living, size_if, living_size, living_from, living, living_numbers, AllLive}

-- ---- lists

abbrev first_or : Living → List Living → Living
first_or d [] = d
first_or d (x ∷ xs) = x

abbrev behind : List Living → List Living
behind [] = []
behind (x ∷ xs) = xs

abbrev IsEmpty : List Living → Type 0
IsEmpty [] = Unit {0}
IsEmpty (x ∷ xs) = ⊥

abbrev pub some_or : Option ℕ → ℕ
some_or None = 0
some_or (Some n) = n

abbrev inner : Option (Option ℕ) → Option ℕ
inner None = None
inner (Some x) = x

abbrev pub IsNone : {A : Type 0} → Option A → Type 0
IsNone None = Unit {0}
IsNone (Some x) = ⊥

-- ---- an object is made

abbrev pub topped : ℕ → Option ℕ → List Living
topped k None = []
topped k (Some size) = record { number = number_of Automatic k; size = size } ∷ []

pub living_push : (k : ℕ) (sizes : List (Option ℕ)) (x : Option ℕ) (n : ℕ) → n ≡ k + length sizes
    → living_from k (sizes ++ x ∷ []) ≡ topped n x ++ living_from k sizes
living_push k [] None n is = refl
living_push k [] (Some size) n is =
    let same : k ≡ n = omega (arith, is) in
    ap (λ m. record { number = number_of Automatic m; size = size } ∷ []) same
living_push k (None ∷ sizes) x n is = living_push (k + 1) sizes x n (omega (arith, is))
living_push k (Some size ∷ sizes) x n is =
    ap (λ l. l ++ record { number = number_of Automatic k; size = size } ∷ [])
    (living_push (k + 1) sizes x n (omega (arith, is)))
    ∙ append_assoc (topped n x) (living_from (k + 1) sizes)
    (record { number = number_of Automatic k; size = size } ∷ [])

-- ---- the last one that lives

-- where an object that lives stands among all
record Stands (k : ℕ) (sizes : List (Option ℕ)) (x : Living) : Type 0 where
  index : ℕ
  number : x.number ≡ 2 * (k + index)
  at : slice_get sizes index ≡ Some (Some x.size)

record Top (k : ℕ) (sizes : List (Option ℕ)) (x : Living) (rest : List Living) : Type 0 where
  stands : Stands k sizes x
  gone : living_from k (set sizes stands.index None) ≡ rest

abbrev stands_first : (k size : ℕ) (sizes : List (Option ℕ)) (x : Living)
    → record { number = number_of Automatic k; size = size } ≡ x → Stands k (Some size ∷ sizes) x
stands_first k size sizes x same =
    let number : 2 * k ≡ x.number = ap (λ (y : Living). y.number) same in
    record { index = 0; number = omega (arith, number); at = ap (λ (y : Living). Some (Some y.size)) same }

abbrev stands_behind : (k : ℕ) (first : Option ℕ) (sizes : List (Option ℕ)) (x : Living) → Stands (k + 1) sizes x
    → Stands k (first ∷ sizes) x
stands_behind k first sizes x t = record { index = suc t.index; number = omega (arith, t.number); at = t.at }

among : (k : ℕ) (sizes : List (Option ℕ)) (x : Living) → Contains (living_from k sizes) x → Stands k sizes x
among k [] x c = absurd (omega (arith, c.1))
among k (None ∷ sizes) x c = stands_behind k None sizes x (among (k + 1) sizes x c)
among k (Some size ∷ sizes) x c =
    elim (Contains-push_cases (living_from (k + 1) sizes) (record { number = number_of Automatic k; size = size }) x
    c) [
      | inl other ↦ stands_behind k (Some size) sizes x (among (k + 1) sizes x other)
      | inr same ↦ stands_first k size sizes x same
    ]

abbrev own_living : ℕ → ℕ → Living
own_living k size = record { number = number_of Automatic k; size = size }

top_of : (k size : ℕ) (sizes : List (Option ℕ)) (x : Living) (rest others : List Living)
    → ((y : Living) (ys : List Living) → living_from (k + 1) sizes ≡ y ∷ ys → Top (k + 1) sizes y ys)
    → living_from (k + 1) sizes ≡ others
    → living_from (k + 1) sizes ++ own_living k size ∷ [] ≡ x ∷ rest → Top k (Some size ∷ sizes) x rest
top_of k size sizes x rest [] below none is =
    let own : Living = own_living k size in
    let all : own ∷ [] ≡ x ∷ rest = ap (λ l. l ++ own ∷ []) (sym none) ∙ is in
    let same : own ≡ x = ap (first_or own) all in
    record { stands = stands_first k size sizes x same; gone = none ∙ ap behind all }
top_of k size sizes x rest (y ∷ ys) below some is =
    let own : Living = own_living k size in
    let all : y ∷ (ys ++ own ∷ []) ≡ x ∷ rest = ap (λ l. l ++ own ∷ []) (sym some) ∙ is in
    let same : y ≡ x = ap (first_or y) all in
    let t : Top (k + 1) sizes y ys = below y ys some in
    record {
      stands = stands_behind k (Some size) sizes x (subst (Stands (k + 1) sizes) same t.stands);
      gone = ap (λ l. l ++ own ∷ []) t.gone ∙ ap behind all;
    }

top : (k : ℕ) (sizes : List (Option ℕ)) (x : Living) (rest : List Living) → living_from k sizes ≡ x ∷ rest
    → Top k sizes x rest
top k [] x rest is = absurd (subst IsEmpty is tt)
top k (None ∷ sizes) x rest is =
    let t : Top (k + 1) sizes x rest = top (k + 1) sizes x rest is in
    record { stands = stands_behind k None sizes x t.stands; gone = t.gone }
top k (Some size ∷ sizes) x rest is =
    top_of k size sizes x rest (living_from (k + 1) sizes) (λ y ys some. top (k + 1) sizes y ys some) refl is

-- ---- an object of a size lives, and is automatic

record IsLivingOf (o : Object) (size : ℕ) : Type 0 where
  live : o.live ≡ true
  class : o.class ≡ Automatic
  size_is : length o.cells ≡ size

living_of : (live : Bool) (class : Class) (cells : List Cell) (size : ℕ)
    → size_if live class (length cells) ≡ Some size
    → IsLivingOf (record { class = class; live = live; cells = cells }) size
living_of true Automatic cells size is = record { live = refl; class = refl; size_is = ap some_or is }
living_of true Static cells size is = absurd (subst IsNone is tt)
living_of true Allocated cells size is = absurd (subst IsNone is tt)
living_of false class cells size is = absurd (subst IsNone is tt)

found_living : (found : Option Object) (size : ℕ) → option_map living_size found ≡ Some (Some size)
    → (o : Object) × (found ≡ Some o) × IsLivingOf o size
found_living None size is = absurd (subst IsNone is tt)
found_living (Some o) size is = (o, refl, living_of o.live o.class o.cells size (ap inner is))

-- ---- it dies

abbrev dead : Object → Object
dead o = record o { live = false }

module _ (s : State) (x : Living) (t : Stands 1 (map living_size s.world.store.objects) x) where
  abbrev objects : List Object
  objects = s.world.store.objects

  at_index : place_of x.number ≡ t.index
  at_index = omega (arith, t.number)

  found : (o : Object) × (slice_get objects t.index ≡ Some o) × IsLivingOf o x.size
  found = found_living (slice_get objects t.index) x.size (sym (slice_get-map living_size objects t.index) ∙ t.at)

  own : numbered x.number found.0 ≡ Some found.0
  own = let number : number_of Automatic (place_of x.number + 1) ≡ x.number = omega (arith, t.number) in
      rw found.2.class (cond-true _ _ _ (eq-eqb _ _ number))

  found_at : object_of objects x.number ≡ Some found.0
  found_at = rw (at_index, found.1) own

  stands_alive : is_live s.world.store x.number ≡ true
  stands_alive = rw found_at found.2.live

  stands_in_range : (at len : ℕ) → at + len ≤ x.size → has_range s.world.store x.number at len ≡ true
  stands_in_range at len within =
      rw found_at (and_from _ _ found.2.live (le-leb (at + len) _ (omega (arith, within, found.2.size_is))))

  stands_then_dead : map living_size (with_dead s.world.store x.number).objects
      ≡ set (map living_size objects) t.index None
  stands_then_dead = rw (at_index, found.1) (map-set living_size objects t.index (dead found.0))

-- an object that lives has its range
pub in_range : (s : State) (x : Living) → Contains (living s) x → (at len : ℕ) → at + len ≤ x.size
    → has_range s.world.store x.number at len ≡ true
in_range s x c at len within = stands_in_range s x (among 1 (map living_size s.world.store.objects) x c) at len within

module _ (s : State) (x : Living) (rest : List Living) (is : living s ≡ x ∷ rest) where
  abbrev t : Top 1 (map living_size s.world.store.objects) x rest
  t = top 1 (map living_size s.world.store.objects) x rest is

  top_lives : is_live s.world.store x.number ≡ true
  top_lives = stands_alive s x t.stands

  top_dies : living (died x.number s) ≡ rest
  top_dies = rw top_lives (ap (living_from 1) (stands_then_dead s x t.stands) ∙ t.gone)

-- these die, the last made first
pub record Dies (numbers : List ℕ) (rest : List Living) (s : State) : Type 0 where
  pub lives : AllLive numbers s
  pub world : IsWorld (all_died numbers s).world
  pub left : living (all_died numbers s) ≡ rest

pub world_died : (s : State) (number : ℕ) → IsWorld s.world → IsWorld (died number s).world
world_died s number w = cond_both (is_live s.world.store number) _ _ (λ (s1 : State). IsWorld s1.world)
    (λ live. record { sized = sized_dead s.world.store number w.sized; bytes = w.bytes })
    (λ no. w)

pub tops_die : (new rest : List Living) (s : State) → IsWorld s.world → living s ≡ new ++ rest
    → Dies (living_numbers new) rest s
tops_die [] rest s w is = record { lives = tt; world = w; left = is }
tops_die (x ∷ new) rest s w is =
    let d : Dies (living_numbers new) rest (died x.number s) =
    tops_die new rest (died x.number s) (world_died s x.number w) (top_dies s x (new ++ rest) is) in
    record { lives = (top_lives s x (new ++ rest) is, d.lives); world = d.world; left = d.left }

-- ---- an object is changed, and lives as it did

module _ (f : Object → Object) (objects : List Object) (number : ℕ)
    (same : (o : Object) → slice_get objects (place_of number) ≡ Some o → living_size (f o) ≡ living_size o) where
  by_found : (found : Option Object) → slice_get objects (place_of number) ≡ found
      → map living_size (option_map_or (λ (o : Object). set objects (place_of number) (f o)) found objects)
      ≡ map living_size objects
  by_found None is = refl
  by_found (Some o) is = map-set_same living_size objects (place_of number) (f o) o
      (rw (get_or_from_slice_get objects (place_of number) o o is) (same o is))

  pub update_lives : map living_size (update objects number f) ≡ map living_size objects
  update_lives = by_found (slice_get objects (place_of number)) refl

pub length-remarked : (cs : List Cell) (at len : ℕ) (mark : Mark)
    → length (with_cells cs at (map (mark_cell mark) (range cs at len))) ≡ length cs
length-remarked cs at len mark =
    rw (length-append, length-append, length-map, length-take, length-take, length-drop, length-drop) (omega arith)

pub mark_lives : (s : Storage) (number at len : ℕ) (mark : Mark)
    → map living_size (with_mark s number at len mark).objects ≡ map living_size s.objects
mark_lives s number at len mark = update_lives
    (λ o. record o { cells = with_cells o.cells at (map (mark_cell mark) (range o.cells at len)) }) s.objects number
    (λ o is. ap (size_if o.live o.class) (length-remarked o.cells at len mark))

outline_lives : (objects : List Object) → map living_size (outlines objects) ≡ map living_size objects
outline_lives [] = refl
outline_lives (o ∷ objects) =
    ap (λ n. size_if o.live o.class n ∷ map living_size (outlines objects)) (length-map o.cells outlined)
    ∙ ap (λ l. living_size o ∷ l) (outline_lives objects)

pub same_outlines : (objects others : List Object) → outlines objects ≡ outlines others
    → map living_size objects ≡ map living_size others
same_outlines objects others same =
    sym (outline_lives objects) ∙ ap (map living_size) same ∙ outline_lives others

-- ---- an allocated object dies

allocated_by : (live : Bool) (class : Class) (cells : List Cell) (k number : ℕ) → number % 2 ≡ 1
    → number_of class k ≡ number → size_if live class (length cells) ≡ None
allocated_by live Static cells k number odd is = absurd (omega (arith, odd, is))
allocated_by live Automatic cells k number odd is = absurd (omega (arith, odd, is))
allocated_by true Allocated cells k number odd is = refl
allocated_by false Allocated cells k number odd is = refl

dead_none : (live : Bool) (class : Class) (cells : List Cell)
    → size_if live class (length cells) ≡ None → size_if false class (length cells) ≡ size_if live class (length cells)
dead_none live class cells none = sym none

numbered_own : (number : ℕ) (o : Object) → option_map_or (λ (x : Object). x.live) (numbered number o) false ≡ true
    → number_of o.class (place_of number + 1) ≡ number
numbered_own number o lives =
    eqb-true _ _ (by_test (number_of o.class (place_of number + 1) == number) lives)
  where
    by_test : (b : Bool) → option_map_or (λ (x : Object). x.live) (cond b (Some o) None) false ≡ true → b ≡ true
    by_test true is = refl
    by_test false is = is

live_at : (number : ℕ) (x : Option Object) (o : Object) → x ≡ Some o
    → option_map_or (λ (x : Object). x.live) (option_and_then (numbered number) x) false ≡ true
    → option_map_or (λ (x : Object). x.live) (numbered number o) false ≡ true
live_at number x o is lives =
    sym (ap (λ y. option_map_or (λ (z : Object). z.live) (option_and_then (numbered number) y) false) is) ∙ lives

pub released_lives : (s : State) (number : ℕ) → number % 2 ≡ 1 → living (died number s) ≡ living s
released_lives s number odd = cond_both (is_live s.world.store number) _ _ (λ (s1 : State). living s1 ≡ living s)
    (λ live. ap (living_from 1) (update_lives dead s.world.store.objects number (λ o is.
    dead_none o.live o.class o.cells (allocated_by o.live o.class o.cells (place_of number + 1) number odd
    (numbered_own number o (live_at number (slice_get s.world.store.objects (place_of number)) o is live))))))
    (λ no. refl)

-- ---- an object is made

pub made_automatic : (size : ℕ) (s : State)
    → living (made size Automatic s) ≡ record { number = next_number s.world.store Automatic; size = size } ∷ living s
made_automatic size s =
    let sizes : List (Option ℕ) = map living_size s.world.store.objects in
    let count : length s.world.store.objects + 1 ≡ 1 + length sizes = rw length-map (omega arith) in
    rw (map-append, length-replicate)
    (living_push 1 sizes (Some size) (length s.world.store.objects + 1) count)

pub made_allocated : (size : ℕ) (s : State) → living (made size Allocated s) ≡ living s
made_allocated size s =
    let sizes : List (Option ℕ) = map living_size s.world.store.objects in
    rw map-append (living_push 1 sizes None (1 + length sizes) refl)
