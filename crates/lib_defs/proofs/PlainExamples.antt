-- Runs of the memory and string functions, on either side of each rule.
use Rattle.std.proofs.Common.{◌≡◌, ℕ, List, [], ◌∷◌, ◌++◌, Option, Some, None, refl}
use Rattle.std.specs.Prelude.{pos, negsuc, codes, replicate}
use Rattle.critical_table.specs.declared.case.Case.TheVariants.{L1, L5, L9, L12}
use Rattle.critical_table.specs.declared.code.Code.TheVariants.{U05, U11}
use Rattle.object_store.specs.declared.by.By.TheVariants.{TextRead, TextWrite}
use Rattle.object_store.specs.declared.mark.Mark.TheVariants.{Plain, Literal}
use Rattle.object_store.specs.declared.pointer.Pointer.{Pointer}
use Rattle.object_store.specs.Storage.{Storage}
use Rattle.object_store.specs.Steps.{with_dead}
use Rattle.object_store.specs.Reach.{reach_table}
use Rattle.lib_defs.specs.declared.value.Value.TheVariants.{Num, Ptr}
use Rattle.lib_defs.specs.Units.{byte_unit, wide_unit}
use Rattle.lib_defs.specs.Spans.{span}
use Rattle.lib_defs.specs.Reply.{Did, Fails, FailsReach, IsUndefined, Patch, null}
use Rattle.lib_defs.specs.Rules.{done_with}
use Rattle.lib_defs.specs.PlainMemory.{copy_did, move_did, fill_did, memory_order_did, memory_find_did}
use Rattle.lib_defs.specs.PlainTexts.{length_did, text_copy_did, append_did, part_copy_did, part_append_did}
use Rattle.lib_defs.specs.PlainTexts.{text_order_did, part_order_did, text_find_did, first_place, last_place}
use Rattle.lib_defs.proofs.ExampleStore.{object, store, at, known, text_bytes, wide_bytes, unset}

-- char d[8] = "ab"; with the rest indeterminate; "abca" as a literal; char c[3] = {'a', 'b', 'd'}; wchar_t v[4];
-- wchar_t w[] = L"ab";
abbrev five : Storage
five = store
    (object Plain (text_bytes (codes "ab") ++ unset 5)
    ∷ object Literal (text_bytes (codes "abca"))
    ∷ object Plain (known (codes "abd"))
    ∷ object Plain (unset 16)
    ∷ object Plain (wide_bytes (codes "ab"))
    ∷ [])

abbrev d : ℕ → Pointer
d n = at 4 n 8

abbrev l : ℕ → Pointer
l n = at 6 n 5

abbrev c : ℕ → Pointer
c n = at 8 n 3

abbrev v : Pointer
v = at 10 0 16

abbrev w : Pointer
w = at 12 0 12

abbrev to : Pointer → List (Option ℕ) → Patch
to place bytes = record { place = place; bytes = bytes }

abbrev one : Pointer → List (Option ℕ) → List Patch
one place bytes = to place bytes ∷ []

abbrev gives : ℕ → Did
gives n = done_with [] (Num (pos n))

abbrev less : Did
less = done_with [] (Num (negsuc 0))

abbrev found : Pointer → Did
found p = done_with [] (Ptr p)

-- memcpy moves indeterminate bytes too; what is read is reached before what is written
copy_some : copy_did 1 five (d 4) (d 1) 3 ≡ done_with (one (d 4) (Some 98 ∷ Some 0 ∷ None ∷ [])) (Ptr (d 4))
unfolding reach_table
copy_some = refl

copy_none : copy_did 1 five (d 0) (d 0) 0 ≡ done_with (one (d 0) []) (Ptr (d 0))
unfolding reach_table
copy_none = refl

copy_source : copy_did 1 five (l 0) (c 0) 4 ≡ Fails (FailsReach L12 (c 0) 4 1 TextRead)
unfolding reach_table
copy_source = refl

copy_literal : copy_did 1 five (l 0) (c 0) 3 ≡ Fails (FailsReach L5 (l 0) 3 1 TextWrite)
unfolding reach_table
copy_literal = refl

-- ranges that have a byte in common, and ranges that only touch
copy_overlap : copy_did 1 five (d 3) (d 0) 4 ≡ Fails (IsUndefined U11)
unfolding reach_table
copy_overlap = refl

copy_same : copy_did 1 five (d 0) (d 0) 1 ≡ Fails (IsUndefined U11)
unfolding reach_table
copy_same = refl

copy_touches : copy_did 1 five (d 2) (d 0) 2 ≡ done_with (one (d 2) (known (codes "ab"))) (Ptr (d 2))
unfolding reach_table
copy_touches = refl

-- the overlap is told before the destination is reached
copy_order : copy_did 1 five (l 1) (l 0) 2 ≡ Fails (IsUndefined U11)
unfolding reach_table
copy_order = refl

copy_wide : copy_did 4 five v w 2
    ≡ done_with (one v (known (97 ∷ 0 ∷ 0 ∷ 0 ∷ 98 ∷ 0 ∷ 0 ∷ 0 ∷ []))) (Ptr v)
unfolding reach_table
copy_wide = refl

-- a size whose bytes are no number of 32 bits
copy_huge : copy_did 4 five v w 4611686018427387904 ≡ Fails (FailsReach L12 w 16777217 4 TextRead)
unfolding reach_table
copy_huge = refl

-- memmove takes an overlap
move_overlap : move_did five (d 1) (d 0) 3 ≡ done_with (one (d 1) (known (97 ∷ 98 ∷ 0 ∷ []))) (Ptr (d 1))
unfolding reach_table
move_overlap = refl

-- memset, wmemset
fill_bytes : fill_did 1 five (d 0) 7 3 ≡ done_with (one (d 0) (known (7 ∷ 7 ∷ 7 ∷ []))) (Ptr (d 0))
unfolding reach_table
fill_bytes = refl

fill_wide : fill_did 4 five v 4294967295 1 ≡ done_with (one v (replicate 4 (Some 255))) (Ptr v)
unfolding reach_table
fill_wide = refl

fill_past : fill_did 1 five (c 1) 7 3 ≡ Fails (FailsReach L12 (c 1) 3 1 TextWrite)
unfolding reach_table
fill_past = refl

-- memcmp: both are reached whole, then bytes are looked at in turn; bytes are unsigned
compare_less : memory_order_did five (l 0) (c 0) 3 ≡ less
unfolding reach_table
compare_less = refl

compare_more : memory_order_did five (c 0) (l 0) 3 ≡ gives 1
unfolding reach_table
compare_more = refl

compare_equal : memory_order_did five (d 0) (c 0) 2 ≡ gives 0
unfolding reach_table
compare_equal = refl

compare_past : memory_order_did five (c 0) (l 2) 4 ≡ Fails (FailsReach L12 (c 0) 4 1 TextRead)
unfolding reach_table
compare_past = refl

-- a byte behind the first difference may be indeterminate, one before it may not
compare_unknown : memory_order_did five (d 2) (d 3) 2 ≡ Fails (IsUndefined U05)
unfolding reach_table
compare_unknown = refl

compare_early : memory_order_did five (d 2) (l 0) 2 ≡ less
unfolding reach_table
compare_early = refl

compare_high : memory_order_did (store (object Plain (known (200 ∷ 100 ∷ [])) ∷ [])) (at 4 0 2) (at 4 1 2) 1 ≡ gives 1
unfolding reach_table
compare_high = refl

-- memchr reads no further than the first match
find_first : memory_find_did five (l 0) 97 5 ≡ found (l 0)
unfolding reach_table span
find_first = refl

find_later : memory_find_did five (d 0) 98 8 ≡ found (d 1)
unfolding reach_table span
find_later = refl

find_none : memory_find_did five (c 0) 120 3 ≡ found null
unfolding reach_table span
find_none = refl

find_past : memory_find_did five (c 0) 120 4 ≡ Fails (FailsReach L12 (c 3) 1 1 TextRead)
unfolding reach_table span
find_past = refl

find_unknown : memory_find_did five (d 0) 120 8 ≡ Fails (IsUndefined U05)
unfolding reach_table span
find_unknown = refl

find_nothing : memory_find_did five null 120 0 ≡ found null
unfolding span
find_nothing = refl

-- strlen, wcslen
length_text : length_did 1 five (l 1) ≡ gives 3
unfolding reach_table span
length_text = refl

length_wide : length_did 4 five w ≡ gives 2
unfolding reach_table span
length_wide = refl

length_open : length_did 1 five (c 0) ≡ Fails (FailsReach L12 (c 3) 1 1 TextRead)
unfolding reach_table span
length_open = refl

length_null : length_did 1 five null ≡ Fails (FailsReach L9 null 1 1 TextRead)
unfolding reach_table span
length_null = refl

length_unknown : length_did 1 five (d 3) ≡ Fails (IsUndefined U05)
unfolding reach_table span
length_unknown = refl

length_dead : length_did 1 (with_dead five 4) (d 0) ≡ Fails (FailsReach L1 (d 0) 1 1 TextRead)
unfolding reach_table span
length_dead = refl

-- strcpy, wcscpy
copy_text : text_copy_did 1 five (d 3) (l 0) ≡ done_with (one (d 3) (text_bytes (codes "abca"))) (Ptr (d 3))
unfolding reach_table span
copy_text = refl

copy_text_past : text_copy_did 1 five (d 4) (l 0) ≡ Fails (FailsReach L12 (d 4) 5 1 TextWrite)
unfolding reach_table span
copy_text_past = refl

copy_text_overlap : text_copy_did 1 five (d 2) (d 0) ≡ Fails (IsUndefined U11)
unfolding reach_table span
copy_text_overlap = refl

copy_text_touches : text_copy_did 1 five (d 3) (d 0) ≡ done_with (one (d 3) (text_bytes (codes "ab"))) (Ptr (d 3))
unfolding reach_table span
copy_text_touches = refl

copy_wide_text : text_copy_did 4 five v w ≡ done_with (one v (wide_bytes (codes "ab"))) (Ptr v)
unfolding reach_table span
copy_wide_text = refl

-- strcat: from the null of s1 on
append_text : append_did 1 five (d 0) (l 0) ≡ done_with (one (d 2) (text_bytes (codes "abca"))) (Ptr (d 0))
unfolding reach_table span
append_text = refl

-- s1 is read before s2
append_order : append_did 1 five (c 0) null ≡ Fails (FailsReach L12 (c 3) 1 1 TextRead)
unfolding reach_table span
append_order = refl

append_overlap : append_did 1 five (d 0) (d 1) ≡ Fails (IsUndefined U11)
unfolding reach_table span
append_overlap = refl

-- strncpy: fewer than s2 has; its null too; and nulls behind it. n is what counts as written.
part_less : part_copy_did five (d 0) (l 0) 2 ≡ done_with (to (d 0) (known (codes "ab")) ∷ to (d 2) [] ∷ []) (Ptr (d 0))
unfolding reach_table span
part_less = refl

part_padded : part_copy_did five (d 0) (l 2) 4
    ≡ done_with (to (d 0) (known (codes "ca")) ∷ to (d 2) (known (0 ∷ 0 ∷ [])) ∷ []) (Ptr (d 0))
unfolding reach_table span
part_padded = refl

part_overlap : part_copy_did five (d 0) (d 1) 2 ≡ Fails (IsUndefined U11)
unfolding reach_table span
part_overlap = refl

part_padding : part_copy_did (store (object Plain (known (97 ∷ 98 ∷ 0 ∷ 0 ∷ [])) ∷ [])) (at 4 0 4) (at 4 3 4) 4
    ≡ Fails (IsUndefined U11)
unfolding reach_table span
part_padding = refl

part_nothing : part_copy_did five (d 0) null 0 ≡ done_with (to (d 0) [] ∷ to (d 0) [] ∷ []) (Ptr (d 0))
unfolding reach_table span
part_nothing = refl

part_past : part_copy_did five (c 0) (l 0) 4 ≡ Fails (FailsReach L12 (c 0) 4 1 TextWrite)
unfolding reach_table span
part_past = refl

-- strncat: at most n bytes, and always a null
part_append : part_append_did five (d 0) (c 0) 2
    ≡ done_with (to (d 2) (known (codes "ab")) ∷ to (d 4) (known (0 ∷ [])) ∷ []) (Ptr (d 0))
unfolding reach_table span
part_append = refl

part_append_open : part_append_did five (d 0) (c 0) 4 ≡ Fails (FailsReach L12 (c 3) 1 1 TextRead)
unfolding reach_table span
part_append_open = refl

-- strcmp, strncmp, wcscmp: in turn to the first difference, the common null, or n
text_less : text_order_did byte_unit 1 five (l 0) (c 0) ≡ less
unfolding reach_table
text_less = refl

text_more : text_order_did byte_unit 1 five (l 0) (d 0) ≡ gives 1
unfolding reach_table
text_more = refl

text_equal : text_order_did byte_unit 1 five (l 0) (l 0) ≡ gives 0
unfolding reach_table
text_equal = refl

text_open : text_order_did byte_unit 1 five (c 0) (c 0) ≡ Fails (FailsReach L12 (c 3) 1 1 TextRead)
unfolding reach_table
text_open = refl

-- the unit of s1 is read first
text_first : text_order_did byte_unit 1 five null null ≡ Fails (FailsReach L9 null 1 1 TextRead)
unfolding reach_table
text_first = refl

text_second : text_order_did byte_unit 1 five (l 0) null ≡ Fails (FailsReach L9 null 1 1 TextRead)
unfolding reach_table
text_second = refl

text_part : part_order_did byte_unit 1 five (l 0) (c 0) 2 ≡ gives 0
unfolding reach_table
text_part = refl

text_none : part_order_did byte_unit 1 five null null 0 ≡ gives 0
text_none = refl

text_unsigned : text_order_did byte_unit 1 (store (object Plain (known (200 ∷ 0 ∷ 100 ∷ 0 ∷ [])) ∷ []))
    (at 4 0 4) (at 4 2 4)
    ≡ gives 1
unfolding reach_table
text_unsigned = refl

-- a wide unit is an int: -1 is less than 0
text_wide : text_order_did wide_unit 4 (store (object Plain (known (255 ∷ 255 ∷ 255 ∷ 255 ∷ 0 ∷ 0 ∷ 0 ∷ 0 ∷ [])) ∷ []))
    (at 4 0 8) (at 4 4 8)
    ≡ less
unfolding reach_table
text_wide = refl

-- strchr, strrchr: the string is read to its null, which is found too; c is converted to a char
first_of : text_find_did five (l 0) (first_place 97 0) ≡ found (l 0)
unfolding reach_table span
first_of = refl

last_of : text_find_did five (l 0) (last_place 97 0) ≡ found (l 3)
unfolding reach_table span
last_of = refl

null_of : text_find_did five (l 0) (first_place 0 0) ≡ found (l 4)
unfolding reach_table span
null_of = refl

none_of : text_find_did five (l 0) (last_place 120 0) ≡ found null
unfolding reach_table span
none_of = refl

first_of_open : text_find_did five (c 0) (first_place 97 0) ≡ Fails (FailsReach L12 (c 3) 1 1 TextRead)
unfolding reach_table span
first_of_open = refl
