-- The memory rows keep the laws.
use Rattle.std.proofs.Common.{ℕ, [], ◌∷◌, replicate, Some, refl, arith}
use Rattle.std.specs.Prelude.{pos}
use Rattle.std.proofs.lemmas.List.{length-replicate}
use Rattle.object_store.specs.declared.by.By.TheVariants.{TextRead, TextWrite}
use Rattle.object_store.specs.declared.pointer.Pointer.{Pointer}
use Rattle.lib_defs.specs.declared.value.Value.TheVariants.{Num}
use Rattle.lib_defs.specs.Units.{size}
use Rattle.lib_defs.specs.Columns.{units}
use Rattle.lib_defs.specs.MemoryRows.{copy_row, move_row, fill_row}
use Rattle.lib_defs.specs.RuleLaws.{RuleKeeps}
use Rattle.lib_defs.proofs.RuleLemmas.{rule_keeps, reaching_fits, bytes_long, stores_reached}
use Rattle.lib_defs.proofs.RuleSuccess.{stores_fit}

pub copy_keeps : (w : ℕ) (s1 : Pointer) (s1max : ℕ) (s2 : Pointer) (n : ℕ) → RuleKeeps (copy_row w s1 s1max s2 n)
copy_keeps w s1 s1max s2 n = rule_keeps (copy_row w s1 s1max s2 n) (λ s sized. (tt, (tt, (tt, (tt, (tt, (tt, tt)))))))
    (λ s sized e passes.
    reaching_fits (copy_row w s1 s1max s2 n) s s2 (size w n) w TextRead _ (λ read.
    reaching_fits (copy_row w s1 s1max s2 n) s s1 (size w n) w TextWrite _ (λ write.
    stores_fit (copy_row w s1 s1max s2 n) s passes (record { place = s1; bytes = units w s s2 n } ∷ []) (Num (pos 0)) (
      stores_reached s s1 (size w n) w (units w s s2 n)
          (bytes_long s s2 (size w n) (record { align = w; by = TextRead; reached = read })) write,
      tt,
    ) (omega arith))))

pub move_keeps : (w : ℕ) (s1 : Pointer) (s1max : ℕ) (s2 : Pointer) (n : ℕ) → RuleKeeps (move_row w s1 s1max s2 n)
move_keeps w s1 s1max s2 n = rule_keeps (move_row w s1 s1max s2 n) (λ s sized. (tt, (tt, (tt, (tt, (tt, tt))))))
    (λ s sized e passes.
    reaching_fits (move_row w s1 s1max s2 n) s s2 (size w n) w TextRead _ (λ read.
    reaching_fits (move_row w s1 s1max s2 n) s s1 (size w n) w TextWrite _ (λ write.
    stores_fit (move_row w s1 s1max s2 n) s passes (record { place = s1; bytes = units w s s2 n } ∷ []) (Num (pos 0)) (
      stores_reached s s1 (size w n) w (units w s s2 n)
          (bytes_long s s2 (size w n) (record { align = w; by = TextRead; reached = read })) write,
      tt,
    ) (omega arith))))

pub fill_keeps : (p : Pointer) (max c n : ℕ) → RuleKeeps (fill_row p max c n)
fill_keeps p max c n = rule_keeps (fill_row p max c n) (λ s sized. (tt, (tt, (tt, (tt, tt)))))
    (λ s sized e passes.
    reaching_fits (fill_row p max c n) s p (size 1 n) 1 TextWrite _ (λ write.
    stores_fit (fill_row p max c n) s passes (record { place = p; bytes = replicate (size 1 n) (Some c) } ∷ [])
    (Num (pos 0)) (
      stores_reached s p (size 1 n) 1 (replicate (size 1 n) (Some c)) (rw length-replicate refl) write,
      tt,
    ) (omega arith)))
