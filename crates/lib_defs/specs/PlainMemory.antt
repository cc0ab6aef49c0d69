-- The memory functions (7.24.2.1, 7.24.2.2, 7.24.4.1, 7.24.5.1, 7.24.6.1, and 7.29.4.2.3, 7.29.4.6.2 for wide ones).
use Rattle.std.specs.Prelude.{ℕ, zero, suc, ◌*◌, ◌==◌, nat_lt, Bool, not, List, [], ◌∷◌, ◌++◌, Option, Some, None, ℤ}
use Rattle.std.specs.Prelude.{pos, negsuc, map, if◌then◌else◌}
use Rattle.critical_table.specs.declared.code.Code.TheVariants.{U05, U11}
use Rattle.object_store.specs.declared.by.By.TheVariants.{TextRead, TextWrite}
use Rattle.object_store.specs.declared.pointer.Pointer.{Pointer}
use Rattle.object_store.specs.Storage.{Storage}
use Rattle.object_store.specs.Load.{number_bytes}
use Rattle.lib_defs.specs.declared.value.Value.TheVariants.{Num, Ptr}
use Rattle.lib_defs.specs.Units.{size, unit_place}
use Rattle.lib_defs.specs.Spans.{span}
use Rattle.lib_defs.specs.Reply.{IsUndefined, Did, Fails, null}
use Rattle.lib_defs.specs.Constraints.{Look, Saw, Stuck, look, length_seen}
use Rattle.lib_defs.specs.Columns.{overlap, units}
use Rattle.lib_defs.specs.Rules.{done_with, look_then, reach_then}

-- A copy is undefined where the bytes read and the bytes written have one in common (7.24.2.1p2, and so on).
abbrev pub unless_overlap : Bool → Did → Did
unless_overlap overlaps go = if overlaps then Fails (IsUndefined U11) else go

-- memcpy, wmemcpy
abbrev pub copy_did : ℕ → Storage → (s1 s2 : Pointer) → (n : ℕ) → Did
copy_did w s s1 s2 n =
    reach_then s s2 (size w n) w TextRead
    (unless_overlap (overlap s1 (w * n) s2 (w * n))
    (reach_then s s1 (size w n) w TextWrite
    (done_with (record { place = s1; bytes = units w s s2 n } ∷ []) (Ptr s1))))

-- memmove: as if through a second copy
abbrev pub move_did : Storage → (s1 s2 : Pointer) → (n : ℕ) → Did
move_did s s1 s2 n =
    reach_then s s2 (size 1 n) 1 TextRead
    (reach_then s s1 (size 1 n) 1 TextWrite
    (done_with (record { place = s1; bytes = units 1 s s2 n } ∷ []) (Ptr s1)))

-- the bytes of n units with this number
abbrev pub equal_units : ℕ → ℕ → ℕ → List (Option ℕ)
equal_units w zero number = []
equal_units w (suc n) number = map Some (number_bytes w number) ++ equal_units w n number

-- memset, wmemset: the unit has this number
abbrev pub fill_did : ℕ → Storage → Pointer → (number n : ℕ) → Did
fill_did w s p number n =
    reach_then s p (size w n) w TextWrite
    (done_with (record { place = p; bytes = equal_units w n number } ∷ []) (Ptr p))

-- a number that is looked at is known
abbrev pub see_known : Option ℕ → Look ℕ
see_known (Some number) = Saw number
see_known None = Stuck (IsUndefined U05)

-- what a comparison answers of two numbers that are not equal
abbrev pub order : Bool → ℤ
order less = if less then negsuc 0 else pos 1

-- memcmp looks at bytes in turn, those of s1 before those of s2, up to the first two that differ
abbrev pub byte_order : (xs ys : List (Option ℕ)) → Look ℤ
byte_order (x ∷ xs) (y ∷ ys) =
    look (see_known x) (λ a.
    look (see_known y) (λ b.
    if a == b then byte_order xs ys else Saw (order (nat_lt a b))))
byte_order _ _ = Saw (pos 0)

-- memcmp: both are reached whole
abbrev pub memory_order_did : Storage → (s1 s2 : Pointer) → (n : ℕ) → Did
memory_order_did s s1 s2 n =
    reach_then s s1 (size 1 n) 1 TextRead
    (reach_then s s2 (size 1 n) 1 TextRead
    (look_then (byte_order (units 1 s s1 n) (units 1 s s2 n)) (λ answer. done_with [] (Num answer))))

-- memchr: bytes are read to the first that is c, at most n
abbrev pub memory_find_did : Storage → Pointer → (c n : ℕ) → Did
memory_find_did s p c n =
    look_then (length_seen 1 (span (λ b. not (b == c)) 1 s p n)) (λ k.
    done_with [] (Ptr (if k == n then null else unit_place 1 p k)))
