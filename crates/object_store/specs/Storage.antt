-- The store: all objects that were ever made, and what they use of the budget of bytes.
use Rattle.std.specs.Prelude.{◌≡◌, ℕ, ◌+◌, ◌-◌, ◌*◌, ◌<◌, ◌≤◌, Bool, false, List, nat_le, length, drop, sum_by}
use Rattle.std.specs.Prelude.{if◌then◌else◌}
use Rattle.std.specs.List.{All}
use Rattle.std.specs.Option.{option_map_or}
use Rattle.object_store.specs.declared.writes.Write.{Write}
use Rattle.object_store.specs.Object.{Object, object_of}

-- objects: all that were ever made, in the order in which they were made; the first is the message object
-- budget: how many bytes may be live
-- open_calls: the calls that were entered and not yet left
-- writes: the stores since they were last taken, in order
pub record Storage : Type 0 where
  pub objects : List Object
  pub budget : ℕ
  pub open_calls : ℕ
  pub writes : List Write

-- whether the number is that of an object whose lifetime goes on
abbrev pub is_live : Storage → ℕ → Bool
is_live s number = option_map_or (λ o. o.live) (object_of s.objects number) false

-- the bytes that an object uses of the budget
abbrev pub live_size : Object → ℕ
live_size object = if object.live then length object.cells else 0

-- the sizes of all live objects but the message object, and 256 for each open call
abbrev pub live_sum : List Object → ℕ → ℕ
live_sum objects open_calls = sum_by live_size (drop 1 objects) + 256 * open_calls

-- how many bytes are live in the store
unfoldable pub live_bytes : Storage → ℕ
live_bytes s = live_sum s.objects s.open_calls

-- whether so many bytes more stay within the budget, once so many are given back
abbrev pub fits : Storage → ℕ → ℕ → Bool
fits s released size = nat_le (live_bytes s - released + size) s.budget

-- no object has more bytes
abbrev pub largest_size : ℕ
largest_size = 16777216

-- what is true of a store: of its list of objects, of their sizes, and of the count of live bytes
pub record IsConsistent (objects : List Object) (budget live open_calls : ℕ) : Type 0 where
  pub messages : 0 < length objects
  pub few : length objects ≤ 2004194305
  pub sizes : All (λ (o : Object). length o.cells ≤ largest_size) objects
  pub sum : live ≡ live_sum objects open_calls
  pub within : live ≤ budget
