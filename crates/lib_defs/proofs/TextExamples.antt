-- Texts, and runs of the string rows, on either side of each constraint.
use Rattle.std.proofs.Common.{◌≡◌, ◌++◌, [], ◌∷◌, Some, None, refl}
use Rattle.std.specs.Prelude.{pos, codes}
use Rattle.critical_table.specs.declared.case.Case.TheVariants.{L1, L9, L12}
use Rattle.critical_table.specs.declared.code.Code.TheVariants.{U05}
use Rattle.object_store.specs.declared.by.By.TheVariants.{TextRead}
use Rattle.object_store.specs.declared.mark.Mark.TheVariants.{Plain}
use Rattle.object_store.specs.declared.pointer.Pointer.{Pointer}
use Rattle.object_store.specs.Storage.{Storage}
use Rattle.object_store.specs.Steps.{with_store, bytes_at, with_dead}
use Rattle.object_store.specs.Reach.{reach_table}
use Rattle.lib_defs.specs.declared.reading.Reading.TheVariants.{Length, Unreached, Unknown}
use Rattle.lib_defs.specs.declared.value.Value.TheVariants.{Num}
use Rattle.lib_defs.specs.declared.violation.Violation.TheVariants.{NullPointer, SizeAbove, SizeZero}
use Rattle.lib_defs.specs.declared.violation.Violation.TheVariants.{DoesNotFit, NotEnded, Overlap}
use Rattle.lib_defs.specs.Spans.{span}
use Rattle.lib_defs.specs.Text.{text}
use Rattle.lib_defs.specs.Reply.{Broken, Fails, FailsReach, IsUndefined, null, store_after}
use Rattle.lib_defs.specs.Rules.{done_with, run_rule}
use Rattle.lib_defs.specs.TextRows.{length_row, text_copy_row, part_copy_row, append_row, part_append_row}
use Rattle.lib_defs.proofs.ExampleStore.{object, store, at, known, text_bytes, wide_bytes, unset}

-- char d[4]; char s[] = "abcd"; char c[3] = {'a', 'b', 'c'}; wchar_t v[4]; wchar_t w[] = L"abc";
abbrev five : Storage
five = store
    (object Plain (unset 4)
    ∷ object Plain (text_bytes (codes "abcd"))
    ∷ object Plain (known (codes "abc"))
    ∷ object Plain (unset 16)
    ∷ object Plain (wide_bytes (codes "abc"))
    ∷ [])

abbrev d : Pointer
d = at 4 0 4

abbrev s : Pointer
s = at 6 0 5

abbrev c : Pointer
c = at 8 0 3

abbrev v : Pointer
v = at 10 0 16

abbrev w : Pointer
w = at 12 0 16

-- a text ends at its null, or where so many units were asked for
text_to_null : text 1 five s 9 ≡ Length 4
unfolding span reach_table
text_to_null = refl

text_to_size : text 1 five s 3 ≡ Length 3
unfolding span reach_table
text_to_size = refl

-- without a null it runs over the end of its object; it reads nothing where nothing is asked for
text_over : text 1 five c 4 ≡ Unreached L12 (at 8 3 3)
unfolding span reach_table
text_over = refl

text_all : text 1 five c 3 ≡ Length 3
unfolding span reach_table
text_all = refl

text_of_null : text 1 five null 1 ≡ Unreached L9 null
unfolding span reach_table
text_of_null = refl

text_of_none : text 1 five null 0 ≡ Length 0
unfolding span reach_table
text_of_none = refl

text_unset : text 1 five d 1 ≡ Unknown
unfolding span reach_table
text_unset = refl

text_wide : text 4 five w 9 ≡ Length 3
unfolding span reach_table
text_wide = refl

-- strnlen_s
length_of_text : run_rule (length_row 1 s 9) five ≡ done_with [] (Num (pos 4))
unfolding span reach_table
length_of_text = refl

length_of_null : run_rule (length_row 1 null 9) five ≡ done_with [] (Num (pos 0))
length_of_null = refl

length_over : run_rule (length_row 1 c 9) five ≡ Fails (FailsReach L12 (at 8 3 3) 1 1 TextRead)
unfolding span reach_table
length_over = refl

length_unset : run_rule (length_row 1 d 4) five ≡ Fails (IsUndefined U05)
unfolding span reach_table
length_unset = refl

-- strcpy_s(d, 4, s): four units and the null do not fit; strcpy_s(d, 4, s + 1) stores them
copy_long : run_rule (text_copy_row 1 d 4 s) five
    ≡ Broken 5 DoesNotFit (Some (record { place = d; len = 1; byte = 0 })) (Num (pos 34))
unfolding span reach_table
copy_long = refl

copy_short : run_rule (text_copy_row 1 d 4 (at 6 1 5)) five
    ≡ done_with (record { place = d; bytes = text_bytes (codes "bcd") } ∷ []) (Num (pos 0))
unfolding span reach_table
copy_short = refl

copy_no_size : run_rule (text_copy_row 1 d 0 s) five ≡ Broken 4 SizeZero None (Num (pos 34))
unfolding span reach_table
copy_no_size = refl

-- strcpy_s(s, 2, s + 3) overlaps in no byte, strcpy_s(s, 3, s + 2) in the byte at 2
copy_beside : run_rule (text_copy_row 1 s 2 (at 6 3 5)) five
    ≡ done_with (record { place = s; bytes = text_bytes (codes "d") } ∷ []) (Num (pos 0))
unfolding span reach_table
copy_beside = refl

copy_overlap : run_rule (text_copy_row 1 s 3 (at 6 2 5)) five
    ≡ Broken 6 Overlap (Some (record { place = s; len = 1; byte = 0 })) (Num (pos 22))
unfolding span reach_table
copy_overlap = refl

-- strncpy_s(d, 4, "abcd", 3) stores three units and a null, though the text is longer
part_copy : run_rule (part_copy_row 1 d 4 s 3) five
    ≡ done_with (record { place = d; bytes = known (codes "abc") } ∷ record {
      place = at 4 3 4;
      bytes =
          Some 0 ∷ [];
    } ∷ []) (Num (pos 0))
unfolding span reach_table
part_copy = refl

part_copy_stored : bytes_at (store_after (run_rule (part_copy_row 1 d 4 s 3) five) five) d 4 ≡ text_bytes (codes "abc")
unfolding span reach_table with_store
part_copy_stored = refl

-- strncpy_s(d, 4, "abcd", 4) does not fit
part_copy_long : run_rule (part_copy_row 1 d 4 s 4) five
    ≡ Broken 6 DoesNotFit (Some (record { place = d; len = 1; byte = 0 })) (Num (pos 34))
unfolding span reach_table
part_copy_long = refl

-- n may be larger where the text is short
part_copy_ended : run_rule (part_copy_row 1 d 4 (at 6 2 5) 9) five
    ≡ done_with (record { place = d; bytes = known (codes "cd") } ∷ record {
      place = at 4 2 4;
      bytes =
          Some 0 ∷ [];
    } ∷ []) (Num (pos 0))
unfolding span reach_table
part_copy_ended = refl

-- with n = 0 a dead source is not read
part_copy_none : run_rule (part_copy_row 1 d 4 s 0) (with_dead five 6)
    ≡ done_with (record { place = d; bytes = [] } ∷ record { place = d; bytes = Some 0 ∷ [] } ∷ []) (Num (pos 0))
unfolding span reach_table
part_copy_none = refl

part_copy_dead : run_rule (part_copy_row 1 d 4 s 1) (with_dead five 6) ≡ Fails (FailsReach L1 s 1 1 TextRead)
unfolding span reach_table
part_copy_dead = refl

-- wcscpy_s(v, 4, L"abc"), and into three units
wide_copy : run_rule (text_copy_row 4 v 4 w) five
    ≡ done_with (record { place = v; bytes = wide_bytes (codes "abc") } ∷ []) (Num (pos 0))
unfolding span reach_table
wide_copy = refl

wide_copy_long : run_rule (text_copy_row 4 v 3 w) five
    ≡ Broken 5 DoesNotFit (Some (record { place = v; len = 4; byte = 0 })) (Num (pos 34))
unfolding span reach_table
wide_copy_long = refl

-- char d[4] = "a"; char e[2] = {'b', 'c'}; char f[] = "bc";
abbrev three : Storage
three = store
    (object Plain (known (codes "a" ++ 0 ∷ 0 ∷ 0 ∷ []))
    ∷ object Plain (known (codes "bc"))
    ∷ object Plain (text_bytes (codes "bc"))
    ∷ [])

-- strcat_s(d, 4, f) fits, and into three it does not
append : run_rule (append_row 1 d 4 (at 8 0 3)) three
    ≡ done_with (record { place = at 4 1 4; bytes = text_bytes (codes "bc") } ∷ []) (Num (pos 0))
unfolding span reach_table
append = refl

append_long : run_rule (append_row 1 d 3 (at 8 0 3)) three
    ≡ Broken 6 DoesNotFit (Some (record { place = d; len = 1; byte = 0 })) (Num (pos 34))
unfolding span reach_table
append_long = refl

-- strcat_s(e, 2, f): e is not ended
append_not_ended : run_rule (append_row 1 (at 6 0 2) 2 (at 8 0 3)) three
    ≡ Broken 5 NotEnded (Some (record { place = at 6 0 2; len = 1; byte = 0 })) (Num (pos 34))
unfolding span reach_table
append_not_ended = refl

-- strcat_s(d, 4, d): the text is read on to the null, which the copy begins at
append_itself : run_rule (append_row 1 d 4 d) three
    ≡ Broken 7 Overlap (Some (record { place = d; len = 1; byte = 0 })) (Num (pos 22))
unfolding span reach_table
append_itself = refl

-- strncat_s(d, 4, e, 2) needs no null in e; with room for one unit less it does not fit
part_append : run_rule (part_append_row 1 d 4 (at 6 0 2) 2) three
    ≡ done_with (record { place = at 4 1 4; bytes = known (codes "bc") } ∷ record {
      place = at 4 3 4;
      bytes =
          Some 0 ∷ [];
    } ∷ []) (Num (pos 0))
unfolding span reach_table
part_append = refl

part_append_long : run_rule (part_append_row 1 d 3 (at 6 0 2) 2) three
    ≡ Broken 7 DoesNotFit (Some (record { place = d; len = 1; byte = 0 })) (Num (pos 34))
unfolding span reach_table
part_append_long = refl

-- strncat_s(d, 4, d, 1): the unit before the null is read, and the null is not
part_append_itself : run_rule (part_append_row 1 d 4 d 1) three
    ≡ done_with (record { place = at 4 1 4; bytes = known (codes "a") } ∷ record {
      place = at 4 2 4;
      bytes =
          Some 0 ∷ [];
    } ∷ []) (Num (pos 0))
unfolding span reach_table
part_append_itself = refl

-- a length that the size ends
length_cut : run_rule (length_row 1 c 3) five ≡ done_with [] (Num (pos 3))
unfolding span reach_table
length_cut = refl

-- the constraints of strcpy_s that the arguments decide; the text behind them is not read
copy_to_null : run_rule (text_copy_row 1 null 4 null) five ≡ Broken 1 NullPointer None (Num (pos 22))
copy_to_null = refl

copy_from_null : run_rule (text_copy_row 1 d 4 null) five
    ≡ Broken 2 NullPointer (Some (record { place = d; len = 1; byte = 0 })) (Num (pos 22))
unfolding reach_table
copy_from_null = refl

copy_max_above : run_rule (text_copy_row 1 d 16777217 d) five ≡ Broken 3 SizeAbove None (Num (pos 34))
copy_max_above = refl

-- and those of strncpy_s
part_copy_to_null : run_rule (part_copy_row 1 null 4 null 4) five ≡ Broken 1 NullPointer None (Num (pos 22))
part_copy_to_null = refl

part_copy_from_null : run_rule (part_copy_row 1 d 4 null 4) five
    ≡ Broken 2 NullPointer (Some (record { place = d; len = 1; byte = 0 })) (Num (pos 22))
unfolding reach_table
part_copy_from_null = refl

part_copy_max_above : run_rule (part_copy_row 1 d 16777217 s 16777217) five ≡ Broken 3 SizeAbove None (Num (pos 34))
part_copy_max_above = refl

part_copy_size_above : run_rule (part_copy_row 1 d 0 s 16777217) five ≡ Broken 4 SizeAbove None (Num (pos 34))
part_copy_size_above = refl

part_copy_no_size : run_rule (part_copy_row 1 d 0 s 4) five ≡ Broken 5 SizeZero None (Num (pos 34))
part_copy_no_size = refl

-- char q[6] = "a\0bcd": strncpy_s(q + 1, 3, q, 1) reads the unit before the null, and with 2 the null too
abbrev one : Storage
one = store (object Plain (known (97 ∷ 0 ∷ 98 ∷ 99 ∷ 100 ∷ 0 ∷ [])) ∷ [])

abbrev q : Pointer
q = at 4 0 6

part_copy_beside : run_rule (part_copy_row 1 (at 4 1 6) 3 q 1) one
    ≡ done_with (record { place = at 4 1 6; bytes = known (codes "a") } ∷ record {
      place = at 4 2 6;
      bytes = Some 0 ∷ [];
    } ∷ []) (Num (pos 0))
unfolding span reach_table
part_copy_beside = refl

part_copy_overlap : run_rule (part_copy_row 1 (at 4 1 6) 3 q 2) one
    ≡ Broken 7 Overlap (Some (record { place = at 4 1 6; len = 1; byte = 0 })) (Num (pos 22))
unfolding span reach_table
part_copy_overlap = refl

-- the constraints of strcat_s that the arguments decide, and a destination that is indeterminate
append_to_null : run_rule (append_row 1 null 4 null) three ≡ Broken 1 NullPointer None (Num (pos 22))
append_to_null = refl

append_from_null : run_rule (append_row 1 d 4 null) three
    ≡ Broken 2 NullPointer (Some (record { place = d; len = 1; byte = 0 })) (Num (pos 22))
unfolding reach_table
append_from_null = refl

append_max_above : run_rule (append_row 1 d 16777217 s) three ≡ Broken 3 SizeAbove None (Num (pos 34))
append_max_above = refl

append_no_size : run_rule (append_row 1 d 0 s) three ≡ Broken 4 SizeZero None (Num (pos 34))
append_no_size = refl

append_unset : run_rule (append_row 1 d 4 s) five ≡ Fails (IsUndefined U05)
unfolding span reach_table
append_unset = refl

-- wcscat_s(v, 4, w) of L"" and L"abc"
wide_append : run_rule (append_row 4 (at 4 0 16) 4 (at 6 0 16))
    (store (object Plain (known (0 ∷ 0 ∷ 0 ∷ 0 ∷ []) ++ unset 12) ∷ object Plain (wide_bytes (codes "abc")) ∷ []))
    ≡ done_with (record { place = at 4 0 16; bytes = wide_bytes (codes "abc") } ∷ []) (Num (pos 0))
unfolding span reach_table
wide_append = refl

-- and those of strncat_s
part_append_to_null : run_rule (part_append_row 1 null 4 null 1) three ≡ Broken 1 NullPointer None (Num (pos 22))
part_append_to_null = refl

part_append_from_null : run_rule (part_append_row 1 d 4 null 1) three
    ≡ Broken 2 NullPointer (Some (record { place = d; len = 1; byte = 0 })) (Num (pos 22))
unfolding reach_table
part_append_from_null = refl

part_append_max_above : run_rule (part_append_row 1 d 16777217 s 16777217) three
    ≡ Broken 3 SizeAbove None (Num (pos 34))
part_append_max_above = refl

part_append_size_above : run_rule (part_append_row 1 d 0 s 16777217) three ≡ Broken 4 SizeAbove None (Num (pos 34))
part_append_size_above = refl

part_append_no_size : run_rule (part_append_row 1 d 0 s 1) three ≡ Broken 5 SizeZero None (Num (pos 34))
part_append_no_size = refl

part_append_not_ended : run_rule (part_append_row 1 (at 6 0 2) 2 (at 8 0 3) 0) three
    ≡ Broken 6 NotEnded (Some (record { place = at 6 0 2; len = 1; byte = 0 })) (Num (pos 34))
unfolding span reach_table
part_append_not_ended = refl

-- strncat_s(d, 4, f, 9): n may be larger where the text is short
part_append_ended : run_rule (part_append_row 1 d 4 (at 8 0 3) 9) three
    ≡ done_with (record { place = at 4 1 4; bytes = known (codes "bc") } ∷ record {
      place = at 4 3 4;
      bytes = Some 0 ∷ [];
    } ∷ []) (Num (pos 0))
unfolding span reach_table
part_append_ended = refl

-- strncat_s(d, 4, d, 2): here the null is read too, where the copy begins
part_append_overlap : run_rule (part_append_row 1 d 4 d 2) three
    ≡ Broken 8 Overlap (Some (record { place = d; len = 1; byte = 0 })) (Num (pos 22))
unfolding span reach_table
part_append_overlap = refl
