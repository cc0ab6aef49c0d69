-- Runs of the memory rows, on either side of each constraint.
use Rattle.std.proofs.Common.{◌≡◌, [], ◌∷◌, Some, None, refl}
use Rattle.std.specs.Prelude.{pos}
use Rattle.critical_table.specs.declared.case.Case.TheVariants.{L8, L9, L12}
use Rattle.object_store.specs.declared.by.By.TheVariants.{TextRead, TextWrite}
use Rattle.object_store.specs.declared.mark.Mark.TheVariants.{Plain, Const}
use Rattle.object_store.specs.declared.pointer.Pointer.{Pointer}
use Rattle.object_store.specs.Storage.{Storage}
use Rattle.object_store.specs.Steps.{with_store, bytes_at}
use Rattle.object_store.specs.Reach.{reach_table}
use Rattle.lib_defs.specs.declared.value.Value.TheVariants.{Num}
use Rattle.lib_defs.specs.declared.violation.Violation.TheVariants.{NullPointer, SizeAbove, DoesNotFit, Overlap}
use Rattle.lib_defs.specs.Reply.{Broken, Fails, FailsReach, null, store_after}
use Rattle.lib_defs.specs.Rules.{done_with, run_rule}
use Rattle.lib_defs.specs.MemoryRows.{copy_row, move_row, fill_row}
use Rattle.lib_defs.proofs.ExampleStore.{object, store, at, known}

-- char d[4] = {1, 1, 1, 1}; const char s[5] = {2, 2, 2, 2, 2};
abbrev two : Storage
two = store (object Plain (known (1 ∷ 1 ∷ 1 ∷ 1 ∷ [])) ∷ object Const (known (2 ∷ 2 ∷ 2 ∷ 2 ∷ 2 ∷ [])) ∷ [])

abbrev d : Pointer
d = at 4 0 4

abbrev s : Pointer
s = at 6 0 5

-- memcpy_s(d, 4, s, 5): the size does not fit, and all of d is cleared
copy_long : run_rule (copy_row 1 d 4 s 5) two
    ≡ Broken 5 DoesNotFit (Some (record { place = d; len = 4; byte = 0 })) (Num (pos 34))
unfolding reach_table
copy_long = refl

copy_long_clears : bytes_at (store_after (run_rule (copy_row 1 d 4 s 5) two) two) d 4 ≡ known (0 ∷ 0 ∷ 0 ∷ 0 ∷ [])
unfolding reach_table with_store
copy_long_clears = refl

-- memcpy_s(d, 4, s, 4) copies
copy_whole : run_rule (copy_row 1 d 4 s 4) two
    ≡ done_with (record { place = d; bytes = known (2 ∷ 2 ∷ 2 ∷ 2 ∷ []) } ∷ []) (Num (pos 0))
unfolding reach_table
copy_whole = refl

-- memcpy_s(d, 8, s, 9): the action cannot be reached, so the run traps and nothing is stored
copy_beyond : run_rule (copy_row 1 d 8 s 9) two ≡ Fails (FailsReach L12 d 8 1 TextWrite)
unfolding reach_table
copy_beyond = refl

-- memcpy_s(d, 4, s, 0) stores no byte; memcpy_s(d, 4, s + 5, 0) reaches the end of s
copy_none : run_rule (copy_row 1 d 4 s 0) two ≡ done_with (record { place = d; bytes = [] } ∷ []) (Num (pos 0))
unfolding reach_table
copy_none = refl

copy_none_at_end : run_rule (copy_row 1 d 4 (at 6 5 5) 0) two
    ≡ done_with (record { place = d; bytes = [] } ∷ []) (Num (pos 0))
unfolding reach_table
copy_none_at_end = refl

-- memcpy_s(s, 5, d, 4): a store to a const object
copy_to_const : run_rule (copy_row 1 s 5 d 4) two ≡ Fails (FailsReach L8 s 4 1 TextWrite)
unfolding reach_table
copy_to_const = refl

-- null pointers: the first is told, and no action is demanded where it is s1
copy_from_null : run_rule (copy_row 1 d 4 null 4) two
    ≡ Broken 2 NullPointer (Some (record { place = d; len = 4; byte = 0 })) (Num (pos 22))
unfolding reach_table
copy_from_null = refl

copy_to_null : run_rule (copy_row 1 null 4 null 4) two ≡ Broken 1 NullPointer None (Num (pos 22))
unfolding reach_table
copy_to_null = refl

-- sizes above RSIZE_MAX, and at it
copy_max_above : run_rule (copy_row 1 d 16777217 s 4) two ≡ Broken 3 SizeAbove None (Num (pos 34))
unfolding reach_table
copy_max_above = refl

copy_size_above : run_rule (copy_row 1 d 4 s 16777217) two
    ≡ Broken 4 SizeAbove (Some (record { place = d; len = 4; byte = 0 })) (Num (pos 34))
unfolding reach_table
copy_size_above = refl

copy_max_at : run_rule (copy_row 1 d 16777216 s 4) two
    ≡ done_with (record { place = d; bytes = known (2 ∷ 2 ∷ 2 ∷ 2 ∷ []) } ∷ []) (Num (pos 0))
unfolding reach_table
copy_max_at = refl

-- char a[4]: memcpy_s(a + 1, 3, a, 2) overlaps in one byte, memcpy_s(a + 2, 2, a, 2) in none; memmove_s may
copy_overlap : run_rule (copy_row 1 (at 4 1 4) 3 d 2) two
    ≡ Broken 6 Overlap (Some (record { place = at 4 1 4; len = 3; byte = 0 })) (Num (pos 22))
unfolding reach_table
copy_overlap = refl

copy_beside : run_rule (copy_row 1 (at 4 2 4) 2 d 2) two
    ≡ done_with (record { place = at 4 2 4; bytes = known (1 ∷ 1 ∷ []) } ∷ []) (Num (pos 0))
unfolding reach_table
copy_beside = refl

move_overlap : run_rule (move_row 1 (at 4 1 4) 3 d 2) two
    ≡ done_with (record { place = at 4 1 4; bytes = known (1 ∷ 1 ∷ []) } ∷ []) (Num (pos 0))
unfolding reach_table
move_overlap = refl

-- no byte is common where n is 0
copy_same : run_rule (copy_row 1 d 4 d 0) two ≡ done_with (record { place = d; bytes = [] } ∷ []) (Num (pos 0))
unfolding reach_table
copy_same = refl

-- wmemcpy_s counts in units: one of four bytes fits, two do not
wide_copy : run_rule (copy_row 4 d 1 (at 6 0 5) 1) two
    ≡ done_with (record { place = d; bytes = known (2 ∷ 2 ∷ 2 ∷ 2 ∷ []) } ∷ []) (Num (pos 0))
unfolding reach_table
wide_copy = refl

wide_copy_beyond : run_rule (copy_row 4 d 2 (at 6 0 5) 2) two ≡ Fails (FailsReach L12 (at 6 0 5) 8 4 TextRead)
unfolding reach_table
wide_copy_beyond = refl

wide_copy_misaligned : run_rule (copy_row 4 d 1 (at 6 1 5) 1) two ≡ Fails (FailsReach L9 (at 6 1 5) 4 4 TextRead)
unfolding reach_table
wide_copy_misaligned = refl

-- a wide size whose bytes pass RSIZE_MAX is cut
wide_copy_cut : run_rule (copy_row 4 d 8388608 (at 6 0 5) 8388608) two
    ≡ Fails (FailsReach L12 (at 6 0 5) 16777217 4 TextRead)
unfolding reach_table
wide_copy_cut = refl

-- memset_s(d, 4, 7, 4), and its action where n is too large: smax bytes, not n
set_whole : run_rule (fill_row d 4 7 4) two
    ≡ done_with (record { place = d; bytes = known (7 ∷ 7 ∷ 7 ∷ 7 ∷ []) } ∷ []) (Num (pos 0))
unfolding reach_table
set_whole = refl

set_long : run_rule (fill_row d 4 7 5) two
    ≡ Broken 4 DoesNotFit (Some (record { place = d; len = 4; byte = 7 })) (Num (pos 34))
unfolding reach_table
set_long = refl

set_null : run_rule (fill_row null 4 7 4) two ≡ Broken 1 NullPointer None (Num (pos 22))
unfolding reach_table
set_null = refl

-- the action of a wide row counts in units
wide_copy_long : run_rule (copy_row 4 d 1 s 2) two
    ≡ Broken 5 DoesNotFit (Some (record { place = d; len = 4; byte = 0 })) (Num (pos 34))
unfolding reach_table
wide_copy_long = refl

-- memmove_s has the constraints of memcpy_s but the last
move_to_null : run_rule (move_row 1 null 4 null 4) two ≡ Broken 1 NullPointer None (Num (pos 22))
move_to_null = refl

move_from_null : run_rule (move_row 1 d 4 null 4) two
    ≡ Broken 2 NullPointer (Some (record { place = d; len = 4; byte = 0 })) (Num (pos 22))
unfolding reach_table
move_from_null = refl

move_max_above : run_rule (move_row 1 d 16777217 s 16777217) two ≡ Broken 3 SizeAbove None (Num (pos 34))
move_max_above = refl

move_size_above : run_rule (move_row 1 d 4 s 16777217) two
    ≡ Broken 4 SizeAbove (Some (record { place = d; len = 4; byte = 0 })) (Num (pos 34))
unfolding reach_table
move_size_above = refl

move_long : run_rule (move_row 1 d 4 s 5) two
    ≡ Broken 5 DoesNotFit (Some (record { place = d; len = 4; byte = 0 })) (Num (pos 34))
unfolding reach_table
move_long = refl

-- memset_s(d, 4, 7, 0) stores nothing; sizes above RSIZE_MAX
set_none : run_rule (fill_row d 4 7 0) two ≡ done_with (record { place = d; bytes = [] } ∷ []) (Num (pos 0))
unfolding reach_table
set_none = refl

set_max_above : run_rule (fill_row d 16777217 7 4) two ≡ Broken 2 SizeAbove None (Num (pos 34))
set_max_above = refl

set_size_above : run_rule (fill_row d 4 7 16777217) two
    ≡ Broken 3 SizeAbove (Some (record { place = d; len = 4; byte = 7 })) (Num (pos 34))
unfolding reach_table
set_size_above = refl
