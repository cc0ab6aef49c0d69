-- The memory rows (K.3.7.1.1, K.3.7.1.2, K.3.7.4.1, K.3.9.2.1.3, K.3.9.2.1.4).
use Rattle.std.specs.Prelude.{ℕ, ◌*◌, nat_lt, [], ◌∷◌, replicate, Some, pos}
use Rattle.object_store.specs.declared.by.By.TheVariants.{TextRead, TextWrite}
use Rattle.object_store.specs.declared.pointer.Pointer.{Pointer}
use Rattle.lib_defs.specs.declared.value.Value.TheVariants.{Num}
use Rattle.lib_defs.specs.Units.{size}
use Rattle.lib_defs.specs.Constraints.{Sure, N, M, L, O}
use Rattle.lib_defs.specs.Columns.{is_null, above, overlap, fill_action, clear_action, units}
use Rattle.lib_defs.specs.Rules.{Rule, done_with, reach_then, errno_value}

-- memcpy_s, wmemcpy_s
abbrev pub copy_row : ℕ → Pointer → ℕ → Pointer → ℕ → Rule
copy_row w s1 s1max s2 n = record {
  width = w;
  constraints =
      N (Sure (is_null s1))
      ∷ N (Sure (is_null s2))
      ∷ M (Sure (above s1max))
      ∷ M (Sure (above n))
      ∷ L (Sure (nat_lt s1max n))
      ∷ O (Sure (overlap s1 (w * n) s2 (w * n)))
      ∷ [];
  action = clear_action w s1 s1max;
  failure = errno_value;
  success = λ s.
      reach_then s s2 (size w n) w TextRead
      (reach_then s s1 (size w n) w TextWrite
      (done_with (record { place = s1; bytes = units w s s2 n } ∷ []) (Num (pos 0))));
}

-- memmove_s, wmemmove_s: all but the overlap, and the same success
abbrev pub move_row : ℕ → Pointer → ℕ → Pointer → ℕ → Rule
move_row w s1 s1max s2 n = record {
  width = w;
  constraints =
      N (Sure (is_null s1))
      ∷ N (Sure (is_null s2))
      ∷ M (Sure (above s1max))
      ∷ M (Sure (above n))
      ∷ L (Sure (nat_lt s1max n))
      ∷ [];
  action = clear_action w s1 s1max;
  failure = errno_value;
  success = λ s.
      reach_then s s2 (size w n) w TextRead
      (reach_then s s1 (size w n) w TextWrite
      (done_with (record { place = s1; bytes = units w s s2 n } ∷ []) (Num (pos 0))));
}

-- memset_s, with c modulo 256
abbrev pub fill_row : Pointer → ℕ → ℕ → ℕ → Rule
fill_row p max c n = record {
  width = 1;
  constraints =
      N (Sure (is_null p))
      ∷ M (Sure (above max))
      ∷ M (Sure (above n))
      ∷ L (Sure (nat_lt max n))
      ∷ [];
  action = fill_action 1 p max c;
  failure = errno_value;
  success = λ s.
      reach_then s p (size 1 n) 1 TextWrite
      (done_with (record { place = p; bytes = replicate (size 1 n) (Some c) } ∷ []) (Num (pos 0)));
}
