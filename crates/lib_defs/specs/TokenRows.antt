-- The row of tokens (K.3.7.3.1, K.3.9.2.3.1).
use Rattle.std.specs.Prelude.{ℕ, zero, suc, ◌+◌, ◌-◌, ◌*◌, ◌==◌, ◌&&◌, Bool, true, false, not, List, [], ◌∷◌, take}
use Rattle.std.specs.Prelude.{drop, map, Option, Some, None, Result, Ok, Err, if◌then◌else◌}
use Rattle.std.specs.List.{list_any}
use Rattle.acc_num.specs.declared.kind.IntKind.TheVariants.{U64}
use Rattle.critical_table.specs.declared.code.Code.{Code}
use Rattle.object_store.specs.declared.by.By.TheVariants.{TextRead, TextWrite}
use Rattle.object_store.specs.declared.pointer.Pointer.{Pointer}
use Rattle.object_store.specs.Storage.{Storage}
use Rattle.object_store.specs.Steps.{bytes_at}
use Rattle.object_store.specs.Load.{known_number, number_bytes, pointer_bytes, load_pointer, loaded_number}
use Rattle.lib_defs.specs.declared.value.Value.TheVariants.{Ptr}
use Rattle.lib_defs.specs.Units.{unit_place}
use Rattle.lib_defs.specs.Spans.{span}
use Rattle.lib_defs.specs.Reply.{Patch, IsUndefined, Did, null}
use Rattle.lib_defs.specs.Constraints.{Look, Saw, Stuck, look, length_seen, see_string, see_range, Sure, Looks, N, M, E}
use Rattle.lib_defs.specs.Columns.{is_null, above, null_unit}
use Rattle.lib_defs.specs.Rules.{Rule, done_with, look_then, reach_then}

abbrev pub see_load : {A : Type 0} → Result A Code → Look A
see_load (Ok a) = Saw a
see_load (Err code) = Stuck (IsUndefined code)

-- `*s1max` is a number of eight bytes, and `*ptr` a pointer of sixteen; both are aligned to eight
abbrev pub see_max : Storage → Pointer → Look ℕ
see_max s s1max = see_range s s1max 8 8 TextRead (see_load (loaded_number U64 (bytes_at s s1max 8)))

abbrev pub see_place : Storage → Pointer → Look Pointer
see_place s ptr = see_range s ptr 16 8 TextRead (see_load (load_pointer (bytes_at s ptr 16)))

-- p: where the units are read from
abbrev pub see_start : Storage → (s1 ptr : Pointer) → Look Pointer
see_start s s1 ptr = if is_null s1 then see_place s ptr else Saw s1

-- the numbers of so many units
abbrev pub unit_numbers : ℕ → ℕ → List (Option ℕ) → List (Option ℕ)
unit_numbers w zero bytes = []
unit_numbers w (suc k) bytes = known_number (take w bytes) ∷ unit_numbers w k (drop w bytes)

abbrev pub is_number : ℕ → Option ℕ → Bool
is_number n None = false
is_number n (Some x) = n == x

-- a separator: one of the k units of s2 before its null
abbrev pub is_separator : ℕ → Storage → Pointer → ℕ → ℕ → Bool
is_separator w s s2 k number = list_any (is_number number) (unit_numbers w k (bytes_at s s2 (w * k)))

-- a unit of a token: neither a null nor a separator
abbrev pub is_inside : ℕ → Storage → Pointer → ℕ → ℕ → Bool
is_inside w s s2 k number = not (number == 0) && not (is_separator w s s2 k number)

-- What the window of the first `window` units from p holds: a null at i behind separators alone; a token from t on,
-- which a null, or a separator, ends at j; or neither.
pub data Found : Type 0 where
  NoToken : (i : ℕ) → Found
  ByNull : (t j : ℕ) → Found
  BySeparator : (t j : ℕ) → Found
  NotEnded : Found

pub record Window : Type 0 where
  pub from : Pointer
  pub units : ℕ
  pub found : Found

-- the unit at j is a null
abbrev pub is_null_at : ℕ → Storage → Pointer → ℕ → Bool
is_null_at w s p j = is_number 0 (known_number (bytes_at s (unit_place w p j) w))

abbrev pub token : ℕ → Storage → Pointer → (window t j : ℕ) → Found
token w s p window t j =
    if j == window then NotEnded else
    if is_null_at w s p j then ByNull t j else BySeparator t j

-- behind t separators: a null, or a token, whose units are read one by one
abbrev pub behind : ℕ → Storage → Pointer → ℕ → Pointer → (window t : ℕ) → Look Found
behind w s s2 k p window t =
    if t == window then Saw NotEnded else
    if is_null_at w s p t then Saw (NoToken t) else
    look (length_seen w (span (is_inside w s s2 k) w s (unit_place w p t) (window - t))) (λ n.
    Saw (token w s p window t (t + n)))

-- s2 is read to its null, and then units from p, at most `window`
abbrev pub see_token : ℕ → Storage → (s2 p : Pointer) → ℕ → Look Found
see_token w s s2 p window =
    look (see_string w s s2) (λ k.
    look (length_seen w (span (is_separator w s s2 k) w s p window)) (λ t.
    behind w s s2 k p window t))

abbrev pub see_window : ℕ → Storage → (s1 s1max s2 ptr : Pointer) → Look Window
see_window w s s1 s1max s2 ptr =
    look (see_start s s1 ptr) (λ p.
    look (see_max s s1max) (λ window.
    look (see_token w s s2 p window) (λ found.
    Saw (record { from = p; units = window; found = found }))))

abbrev pub is_not_ended : Found → Bool
is_not_ended NotEnded = true
is_not_ended _ = false

-- what `*s1max` and `*ptr` become
abbrev pub both_patches : (s1max ptr : Pointer) → ℕ → Pointer → List Patch
both_patches s1max ptr units place =
    record { place = s1max; bytes = map Some (number_bytes 8 units) }
    ∷ record { place = ptr; bytes = map Some (pointer_bytes place) }
    ∷ []

abbrev pub reach_both_then : Storage → (s1max ptr : Pointer) → Did → Did
reach_both_then s s1max ptr go = reach_then s s1max 8 8 TextWrite (reach_then s ptr 16 8 TextWrite go)

-- the stores: the separator, `*s1max`, `*ptr`, all reached first
abbrev pub found_did : ℕ → Storage → (s1max ptr p : Pointer) → ℕ → Found → Did
found_did w s s1max ptr p window (NoToken i) =
    reach_both_then s s1max ptr (done_with (both_patches s1max ptr (window - i) (unit_place w p i)) (Ptr null))
found_did w s s1max ptr p window (ByNull t j) =
    reach_both_then s s1max ptr (done_with (both_patches s1max ptr (window - j) (unit_place w p j))
    (Ptr (unit_place w p t)))
found_did w s s1max ptr p window (BySeparator t j) =
    reach_then s (unit_place w p j) w w TextWrite
    (reach_both_then s s1max ptr
    (done_with
    (record { place = unit_place w p j; bytes = null_unit w }
    ∷ both_patches s1max ptr (window - j - 1) (unit_place w p (j + 1)))
    (Ptr (unit_place w p t))))
found_did w s s1max ptr p window NotEnded = done_with [] (Ptr null)

-- strtok_s, wcstok_s; that the token is not ended is the last constraint, so the row never does it
abbrev pub token_row : ℕ → (s1 s1max s2 ptr : Pointer) → Rule
token_row w s1 s1max s2 ptr = record {
  width = w;
  constraints =
      N (Sure (is_null s1max))
      ∷ N (Sure (is_null s2))
      ∷ N (Sure (is_null ptr))
      ∷ N (Looks (λ s. if is_null s1 then look (see_place s ptr) (λ p. Saw (is_null p)) else Saw false))
      ∷ M (Looks (λ s. look (see_max s s1max) (λ window. Saw (above window))))
      ∷ E (Looks (λ s. look (see_window w s s1 s1max s2 ptr) (λ window. Saw (is_not_ended window.found))))
      ∷ [];
  action = None;
  failure = λ class. Ptr null;
  success = λ s. look_then (see_window w s s1 s1max s2 ptr) (λ window.
      found_did w s s1max ptr window.from window.units window.found);
}
