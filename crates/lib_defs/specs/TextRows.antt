-- The string rows (K.3.7.1.3, K.3.7.1.4, K.3.7.2, K.3.7.4.4, and K.3.9.2.1 to K.3.9.2.4 for wide strings).
use Rattle.std.specs.Prelude.{ℕ, ◌+◌, ◌-◌, ◌*◌, ◌==◌, nat_le, nat_lt, Bool, false, [], ◌∷◌, None, pos}
use Rattle.std.specs.Prelude.{if◌then◌else◌}
use Rattle.object_store.specs.declared.by.By.TheVariants.{TextWrite}
use Rattle.object_store.specs.declared.pointer.Pointer.{Pointer}
use Rattle.object_store.specs.Storage.{Storage}
use Rattle.lib_defs.specs.declared.value.Value.TheVariants.{Num}
use Rattle.lib_defs.specs.Units.{size, unit_place}
use Rattle.lib_defs.specs.Constraints.{Look, Saw, look, Sure, Looks, N, M, Z, L, D, O, see_text}
use Rattle.lib_defs.specs.Columns.{is_null, above, overlap, end_action, units, ended_units, bytes_read}
use Rattle.lib_defs.specs.Rules.{Rule, done_with, look_then, reach_then, errno_value}

-- n is not below the room m, and neither is the length of a text of at most m units
abbrev pub is_long : ℕ → Storage → Pointer → (n m : ℕ) → Look Bool
is_long w s s2 n m = if nat_lt n m then Saw false else look (see_text w s s2 m) (λ k. Saw (nat_le m k))

-- strnlen_s, wcsnlen_s: there are no constraints
abbrev pub length_row : ℕ → Pointer → ℕ → Rule
length_row w p max = record {
  width = w;
  constraints = [];
  action = None;
  failure = errno_value;
  success = λ s.
      if is_null p then done_with [] (Num (pos 0)) else
      look_then (see_text w s p max) (λ k. done_with [] (Num (pos k)));
}

-- strcpy_s, wcscpy_s
abbrev pub text_copy_row : ℕ → Pointer → ℕ → Pointer → Rule
text_copy_row w s1 s1max s2 = record {
  width = w;
  constraints =
      N (Sure (is_null s1))
      ∷ N (Sure (is_null s2))
      ∷ M (Sure (above s1max))
      ∷ Z (Sure (s1max == 0))
      ∷ L (Looks (λ s. look (see_text w s s2 s1max) (λ k. Saw (nat_le s1max k))))
      ∷ O (Looks (λ s. look (see_text w s s2 s1max) (λ k. Saw (overlap s1 (w * (k + 1)) s2 (w * (k + 1))))))
      ∷ [];
  action = end_action w s1 s1max;
  failure = errno_value;
  success = λ s. look_then (see_text w s s2 s1max) (λ k.
      reach_then s s1 (size w (k + 1)) w TextWrite
      (done_with (record { place = s1; bytes = units w s s2 (k + 1) } ∷ []) (Num (pos 0))));
}

-- strncpy_s, wcsncpy_s
abbrev pub part_copy_row : ℕ → Pointer → ℕ → Pointer → ℕ → Rule
part_copy_row w s1 s1max s2 n = record {
  width = w;
  constraints =
      N (Sure (is_null s1))
      ∷ N (Sure (is_null s2))
      ∷ M (Sure (above s1max))
      ∷ M (Sure (above n))
      ∷ Z (Sure (s1max == 0))
      ∷ L (Looks (λ s. is_long w s s2 n s1max))
      ∷ O (Looks (λ s. look (see_text w s s2 n) (λ k. Saw (overlap s1 (w * (k + 1)) s2 (bytes_read w k n)))))
      ∷ [];
  action = end_action w s1 s1max;
  failure = errno_value;
  success = λ s. look_then (see_text w s s2 n) (λ k.
      reach_then s s1 (size w (k + 1)) w TextWrite
      (done_with (ended_units w s s1 s2 k) (Num (pos 0))));
}

-- strcat_s, wcscat_s; here and in the next row j is text(s1, s1max), and the room is s1max less j
abbrev pub append_row : ℕ → Pointer → ℕ → Pointer → Rule
append_row w s1 s1max s2 = record {
  width = w;
  constraints =
      N (Sure (is_null s1))
      ∷ N (Sure (is_null s2))
      ∷ M (Sure (above s1max))
      ∷ Z (Sure (s1max == 0))
      ∷ D (Looks (λ s. look (see_text w s s1 s1max) (λ j. Saw (s1max - j == 0))))
      ∷ L (Looks (λ s. look (see_text w s s1 s1max) (λ j.
      look (see_text w s s2 (s1max - j)) (λ k. Saw (nat_le (s1max - j) k)))))
      ∷ O (Looks (λ s. look (see_text w s s1 s1max) (λ j.
      look (see_text w s s2 (s1max - j)) (λ k.
      Saw (overlap (unit_place w s1 j) (w * (k + 1)) s2 (w * (k + 1)))))))
      ∷ [];
  action = end_action w s1 s1max;
  failure = errno_value;
  success = λ s. look_then (see_text w s s1 s1max) (λ j.
      look_then (see_text w s s2 (s1max - j)) (λ k.
      reach_then s (unit_place w s1 j) (size w (k + 1)) w TextWrite
      (done_with (record { place = unit_place w s1 j; bytes = units w s s2 (k + 1) } ∷ []) (Num (pos 0)))));
}

-- strncat_s, wcsncat_s
abbrev pub part_append_row : ℕ → Pointer → ℕ → Pointer → ℕ → Rule
part_append_row w s1 s1max s2 n = record {
  width = w;
  constraints =
      N (Sure (is_null s1))
      ∷ N (Sure (is_null s2))
      ∷ M (Sure (above s1max))
      ∷ M (Sure (above n))
      ∷ Z (Sure (s1max == 0))
      ∷ D (Looks (λ s. look (see_text w s s1 s1max) (λ j. Saw (s1max - j == 0))))
      ∷ L (Looks (λ s. look (see_text w s s1 s1max) (λ j. is_long w s s2 n (s1max - j))))
      ∷ O (Looks (λ s. look (see_text w s s1 s1max) (λ j.
      look (see_text w s s2 n) (λ k.
      Saw (overlap (unit_place w s1 j) (w * (k + 1)) s2 (bytes_read w k n))))))
      ∷ [];
  action = end_action w s1 s1max;
  failure = errno_value;
  success = λ s. look_then (see_text w s s1 s1max) (λ j.
      look_then (see_text w s s2 n) (λ k.
      reach_then s (unit_place w s1 j) (size w (k + 1)) w TextWrite
      (done_with (ended_units w s (unit_place w s1 j) s2 k) (Num (pos 0)))));
}
