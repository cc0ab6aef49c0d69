-- What is known of a number that is a live object's.
use Rattle.std.proofs.Common.{◌≡◌, ℕ, ◌+◌, ◌==◌, true, false, List, [], ◌∷◌, ◌++◌, length, slice_get, Option, Some}
use Rattle.std.proofs.Common.{None, IsTrue, cond, refl, ap, ◌∙◌, arith, rules}
use Rattle.std.proofs.lemmas.Bool.{eq-eqb}
use Rattle.std.specs.Option.{option_map_or, option_and_then}
use Rattle.object_store.specs.declared.class.Class.{Class}
use Rattle.object_store.specs.declared.class.Class.TheVariants.{Static, Automatic, Allocated}
use Rattle.object_store.specs.Object.{Object, number_of, place_of, numbered, object_of}
use Rattle.object_store.specs.Storage.{Storage, is_live}

-- a live object has this number
pub record LiveAt (objects : List Object) (number : ℕ) : Type 0 where
  pub object : Object
  pub at : slice_get objects (place_of number) ≡ Some object
  pub own : object_of objects number ≡ Some object
  pub live : object.live ≡ true

-- an object that the number is told of is the one at its place
pub numbered_same : (number : ℕ) (o p : Object) → numbered number o ≡ Some p → p ≡ o
numbered_same number o p h =
    elim (number_of o.class (place_of number + 1) == number) as (λ b. (cond b (Some o) None ≡ Some p)
    → p ≡ o) [ true ↦ λ e. cc | false ↦ λ e. cc ] h

-- the same of the object at the number's place, then of what stands there, then of the store
live_numbered : (objects : List Object) (number : ℕ) (o : Object) (own : Option Object)
    → slice_get objects (place_of number) ≡ Some o
    → numbered number o ≡ own → IsTrue (option_map_or (λ o. o.live) own false) → LiveAt objects number
live_numbered objects number o None at is h = cc
live_numbered objects number o (Some p) at is h =
    let same : p ≡ o = numbered_same number o p is in
    record { object = o; at = at; own = rw at (is ∙ ap Some same); live = rw (← same) (search rules) }

live_in : (objects : List Object) (number : ℕ) (found : Option Object) → slice_get objects (place_of number) ≡ found
    → IsTrue (option_map_or (λ o. o.live) (option_and_then (numbered number) found) false) → LiveAt objects number
live_in objects number None at h = cc
live_in objects number (Some o) at h = live_numbered objects number o (numbered number o) at refl h

-- a number that is a live object's has that object
pub live_at : (s : Storage) (number : ℕ) → IsTrue (is_live s number) → LiveAt s.objects number
live_at s number h = live_in s.objects number (slice_get s.objects (place_of number)) refl h

place_of-number_of : (class : Class) (n : ℕ) → place_of (number_of class (n + 1)) ≡ n
place_of-number_of Static n = omega arith
place_of-number_of Automatic n = omega arith
place_of-number_of Allocated n = omega arith

slice_get_last : (objects : List Object) (o : Object) → slice_get (objects ++ o ∷ []) (length objects) ≡ Some o
slice_get_last [] o = refl
slice_get_last (x ∷ xs) o = slice_get_last xs o

-- an object that is made is found by the number that it gets
pub new_found : (objects : List Object) (o : Object)
    → object_of (objects ++ o ∷ []) (number_of o.class (length objects + 1)) ≡ Some o
new_found objects o =
    let place : place_of (number_of o.class (length objects + 1)) ≡ length objects =
    place_of-number_of o.class (length objects) in
    rw (
      place,
      slice_get_last objects o,
      place,
      eq-eqb (number_of o.class (length objects + 1)) (number_of o.class (length objects + 1)) refl,
    ) refl
