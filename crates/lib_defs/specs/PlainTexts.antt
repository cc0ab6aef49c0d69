-- The string functions (7.24.2.3 to 7.24.6.3, and 7.29.4 for wide strings).
use Rattle.std.specs.Prelude.{ℕ, zero, suc, ◌+◌, ◌-◌, ◌*◌, ◌==◌, List, [], ◌∷◌, replicate, Option, Some, None}
use Rattle.std.specs.Prelude.{ℤ, pos, int_lt, if◌then◌else◌}
use Rattle.std.specs.Option.{option_or}
use Rattle.object_store.specs.declared.by.By.TheVariants.{TextRead, TextWrite}
use Rattle.object_store.specs.declared.pointer.Pointer.{Pointer}
use Rattle.object_store.specs.Storage.{Storage}
use Rattle.object_store.specs.Steps.{bytes_at}
use Rattle.object_store.specs.Load.{known_number}
use Rattle.lib_defs.specs.declared.value.Value.TheVariants.{Num, Ptr}
use Rattle.lib_defs.specs.Units.{size, unit_place, rsize_max}
use Rattle.lib_defs.specs.Reply.{Did, null}
use Rattle.lib_defs.specs.Constraints.{Look, Saw, look, see_text, see_string, see_range}
use Rattle.lib_defs.specs.Columns.{overlap, units, ended_units, bytes_read}
use Rattle.lib_defs.specs.Rules.{done_with, look_then, reach_then}
use Rattle.lib_defs.specs.TokenRows.{is_number}
use Rattle.lib_defs.specs.PlainMemory.{unless_overlap, see_known, order}

-- strlen, wcslen
abbrev pub length_did : ℕ → Storage → Pointer → Did
length_did w s p = look_then (see_string w s p) (λ k. done_with [] (Num (pos k)))

-- strcpy, wcscpy
abbrev pub text_copy_did : ℕ → Storage → (s1 s2 : Pointer) → Did
text_copy_did w s s1 s2 =
    look_then (see_string w s s2) (λ k.
    unless_overlap (overlap s1 (w * (k + 1)) s2 (w * (k + 1)))
    (reach_then s s1 (size w (k + 1)) w TextWrite
    (done_with (record { place = s1; bytes = units w s s2 (k + 1) } ∷ []) (Ptr s1))))

-- strcat, wcscat: the copy begins at the null of s1, which is not among the bytes that it reads
abbrev pub append_did : ℕ → Storage → (s1 s2 : Pointer) → Did
append_did w s s1 s2 =
    look_then (see_string w s s1) (λ j.
    look_then (see_string w s s2) (λ k.
    unless_overlap (overlap (unit_place w s1 j) (w * (k + 1)) s2 (w * (k + 1)))
    (reach_then s (unit_place w s1 j) (size w (k + 1)) w TextWrite
    (done_with (record { place = unit_place w s1 j; bytes = units w s s2 (k + 1) } ∷ []) (Ptr s1)))))

-- strncpy: n bytes are written, those of s2 before its null and then nulls
abbrev pub part_copy_did : Storage → (s1 s2 : Pointer) → (n : ℕ) → Did
part_copy_did s s1 s2 n =
    look_then (see_text 1 s s2 n) (λ k.
    unless_overlap (overlap s1 n s2 (bytes_read 1 k n))
    (reach_then s s1 (size 1 n) 1 TextWrite
    (done_with
    (record { place = s1; bytes = bytes_at s s2 k }
    ∷ record { place = unit_place 1 s1 k; bytes = replicate (n - k) (Some 0) }
    ∷ [])
    (Ptr s1))))

-- strncat: at most n bytes of s2 and a null
abbrev pub part_append_did : Storage → (s1 s2 : Pointer) → (n : ℕ) → Did
part_append_did s s1 s2 n =
    look_then (see_string 1 s s1) (λ j.
    look_then (see_text 1 s s2 n) (λ k.
    unless_overlap (overlap (unit_place 1 s1 j) (k + 1) s2 (bytes_read 1 k n))
    (reach_then s (unit_place 1 s1 j) (size 1 (k + 1)) 1 TextWrite
    (done_with (ended_units 1 s (unit_place 1 s1 j) s2 k) (Ptr s1)))))

-- a unit that is read alone
abbrev pub see_unit : ℕ → Storage → Pointer → Look ℕ
see_unit w s p = see_range s p w w TextRead (see_known (known_number (bytes_at s p w)))

-- What two units decide of the order of their strings, where the k-th number stands for this value: nothing where they
-- are equal and no nulls.
abbrev pub unit_order : (ℕ → ℤ) → (a b : ℕ) → Option ℤ
unit_order value a b =
    if a == b then (if a == 0 then Some (pos 0) else None) else Some (order (int_lt (value a) (value b)))

abbrev pub or_later : Option ℤ → (Unit {0} → Look ℤ) → Look ℤ
or_later (Some answer) later = Saw answer
or_later None later = later tt

-- units are read in turn from the k-th on, those of p before those of q, at most so many of each
abbrev pub order_from : (ℕ → ℤ) → ℕ → Storage → (p q : Pointer) → (k most : ℕ) → Look ℤ
order_from value w s p q k zero = Saw (pos 0)
order_from value w s p q k (suc most) =
    look (see_unit w s (unit_place w p k)) (λ a.
    look (see_unit w s (unit_place w q k)) (λ b.
    or_later (unit_order value a b) (λ u. order_from value w s p q (suc k) most)))

abbrev pub text_order : (ℕ → ℤ) → ℕ → Storage → (p q : Pointer) → (most : ℕ) → Look ℤ
text_order value w s p q most = order_from value w s p q 0 most

-- strncmp
abbrev pub part_order_did : (ℕ → ℤ) → ℕ → Storage → (s1 s2 : Pointer) → (n : ℕ) → Did
part_order_did value w s s1 s2 n = look_then (text_order value w s s1 s2 n) (λ answer. done_with [] (Num answer))

-- strcmp, wcscmp: no object has more units
abbrev pub text_order_did : (ℕ → ℤ) → ℕ → Storage → (s1 s2 : Pointer) → Did
text_order_did value w s s1 s2 = part_order_did value w s s1 s2 (rsize_max + 1)

-- the first place of c among bytes that are counted from k, and the last one
abbrev pub first_place : ℕ → ℕ → List (Option ℕ) → Option ℕ
first_place c k [] = None
first_place c k (b ∷ bytes) = if is_number c b then Some k else first_place c (k + 1) bytes

abbrev pub last_place : ℕ → ℕ → List (Option ℕ) → Option ℕ
last_place c k [] = None
last_place c k (b ∷ bytes) = option_or (last_place c (k + 1) bytes) (if is_number c b then Some k else None)

abbrev pub found_did : Pointer → Option ℕ → Did
found_did p None = done_with [] (Ptr null)
found_did p (Some k) = done_with [] (Ptr (unit_place 1 p k))

-- strchr, strrchr: the string is read to its null, which may be what is looked for
abbrev pub text_find_did : Storage → Pointer → (List (Option ℕ) → Option ℕ) → Did
text_find_did s p find = look_then (see_string 1 s p) (λ k. found_did p (find (units 1 s p (k + 1))))
